-- A certificate is valid, or refused for one reason: never both, and never for two.
use Rattle.std.proofs.Common.{◌≡◌, ◌∙◌, ℕ, ◌<◌, List, [], ◌⊎◌, inl, inr, length, get_or, take, None, Some, refl, sym, ap, subst}
use Rattle.std.proofs.Common.{arith}
use Rattle.std.proofs.lemmas.Bool.{cases_lt}
use Rattle.std.proofs.lemmas.List.{take_all, get_or_default}
use Rattle.std.proofs.lemmas.Option.{same_Some, none-some}
use Rattle.tl_problem.specs.Problem.{ProblemModel}
use Rattle.tl_cert.specs.declared.certificate.Certificate.{Certificate}
use Rattle.tl_cert.specs.declared.certificate.Claim.{Claim}
use Rattle.tl_cert.specs.declared.certificate.Claim.TheVariants.{Lowest, Bounded, Narrow}
use Rattle.tl_cert.specs.declared.section.Section.{Section}
use Rattle.tl_cert.specs.Text.{IsNarrow}
use Rattle.tl_form.specs.Expected.{Document, Due, due_after, IsDue}
use Rattle.tl_form.specs.Failures.{Failure, wrong_claim, wrong_chain, missing, extra, wrong_layout, wrong_trace, wrong_log}
use Rattle.tl_form.specs.Failures.{IsGoodUpTo, HasWrongChain, ComesTo, FailsFor}
use Rattle.tl_form.specs.Valid.{IsClaimFor, AreTooWide, IsProblemAt, IsLaid, HasTrace, HasLog, IsGood, AreWhole, IsShown}
use Rattle.tl_form.specs.Valid.{IsValidFor, EndsWith}

-- a section has one problem, on what those before it tell
abbrev pub HasOneProblem : Document → Type 0
HasOneProblem document = (before : List Section) (section : Section) (one other : ProblemModel) →
    IsProblemAt document before section one → IsProblemAt document before section other → one ≡ other

module _ (document : Document) (budget : ℕ) (certificate : Certificate) (one_problem : HasOneProblem document) where
  abbrev sections : List Section
  sections = certificate.sections

  -- the first `n` sections are good and there is no good one after them
  record StopsAt (n : ℕ) : Type 0 where
    good : IsGoodUpTo document budget certificate n
    stops : (d : Section) → n < length sections → IsGood document budget (take n sections) (get_or sections n d) → ⊥

  same_stop : (n m : ℕ) → StopsAt n → StopsAt m → n ≡ m
  same_stop n m one other = elim (cases_lt n m) [
    | inl less ↦ absurd (earlier n m one other less)
    | inr more ↦ elim (cases_lt m n) [ inl less ↦ absurd (earlier m n other one less) | inr same ↦ omega (arith, more, same) ]
  ]
    where
      earlier : (n m : ℕ) → StopsAt n → StopsAt m → n < m → ⊥
      earlier n m one other less =
          let d : Section = record { table = 0; width = 0; height = 0; lower = 0; widths = []; trace = []; log = [] } in
          one.stops d (let there = other.good.there in omega (arith, less, there)) (other.good.good n d less)

  -- what is so of the section after the first `n`
  abbrev LaidAt : ℕ → Section → ProblemModel → Type 0
  LaidAt n section problem = IsLaid document (take n sections) section problem

  -- why a section that is due is not good
  abbrev Reason : ℕ → Section → Failure → Type 0
  Reason n section fault = ((fault ≡ wrong_layout n) × ((problem : ProblemModel) → LaidAt n section problem → ⊥))
      ⊎ ((problem : ProblemModel) × LaidAt n section problem × (((fault ≡ wrong_trace n) × (HasTrace budget section problem → ⊥))
      ⊎ ((fault ≡ wrong_log n) × HasTrace budget section problem × (HasLog section problem → ⊥))))

  -- why judging stops after the first `n` sections: nothing is due, or something is
  abbrev AtEnd : ℕ → Failure → Type 0
  AtEnd n fault = (due_after document (take n sections) ≡ None)
      × (((fault ≡ wrong_claim) × (n ≡ length sections)) ⊎ ((fault ≡ extra n) × (n < length sections)))

  abbrev AtDue : ℕ → Failure → Type 0
  AtDue n fault = (due : Due) × (due_after document (take n sections) ≡ Some due)
      × (((fault ≡ missing due.table) × ((d : Section) → n < length sections →
      IsDue document (take n sections) (get_or sections n d) → ⊥))
      ⊎ ((section : Section) × ComesTo document budget certificate n section × Reason n section fault))

  abbrev BySections : Failure → Type 0
  BySections fault = (n : ℕ) × StopsAt n × (AtEnd n fault ⊎ AtDue n fault)

  same_reason : (n : ℕ) (section : Section) (one other : Failure) → Reason n section one → Reason n section other → one ≡ other
  same_reason n section one other (inl first) (inl second) = first.0 ∙ sym second.0
  same_reason n section one other (inl first) (inr second) = absurd (first.1 second.0 second.1)
  same_reason n section one other (inr first) (inl second) = absurd (second.1 first.0 first.1)
  same_reason n section one other (inr (problem, laid, inl trace)) (inr (other_problem, other_laid, inl other_trace)) =
      trace.0 ∙ sym other_trace.0
  same_reason n section one other (inr (problem, laid, inl trace)) (inr (other_problem, other_laid, inr log)) =
      absurd (trace.1 (subst (HasTrace budget section) (one_problem (take n sections)
      section other_problem problem other_laid.own laid.own) log.1))
  same_reason n section one other (inr (problem, laid, inr log)) (inr (other_problem, other_laid, inl trace)) =
      absurd (trace.1 (subst (HasTrace budget section) (one_problem (take n sections)
      section problem other_problem laid.own other_laid.own) log.1))
  same_reason n section one other (inr (problem, laid, inr log)) (inr (other_problem, other_laid, inr other_log)) =
      log.0 ∙ sym other_log.0

  same_section : (n : ℕ) (one other : Section) → ComesTo document budget certificate n one →
      ComesTo document budget certificate n other → one ≡ other
  same_section n one other first second = sym first.is ∙ get_or_default sections n one other first.there ∙ second.is

  same_here : (n : ℕ) (one other : Failure) → AtEnd n one ⊎ AtDue n one → AtEnd n other ⊎ AtDue n other → one ≡ other
  same_here n one other (inl (none, inl first)) (inl (again, inl second)) = first.0 ∙ sym second.0
  same_here n one other (inl (none, inl first)) (inl (again, inr second)) = absurd (omega (arith, first.1, second.1))
  same_here n one other (inl (none, inr first)) (inl (again, inl second)) = absurd (omega (arith, first.1, second.1))
  same_here n one other (inl (none, inr first)) (inl (again, inr second)) = first.0 ∙ sym second.0
  same_here n one other (inl first) (inr second) = absurd (none-some _ (sym first.0 ∙ second.1))
  same_here n one other (inr first) (inl second) = absurd (none-some _ (sym second.0 ∙ first.1))
  same_here n one other (inr (due, is, inl first)) (inr (again, are, inl second)) =
      first.0 ∙ ap (λ (d : Due). missing d.table) (same_Some _ _ (sym is ∙ are)) ∙ sym second.0
  same_here n one other (inr (due, is, inl first)) (inr (again, are, inr (section, comes, reason))) =
      absurd (first.1 section comes.there (subst (IsDue document (take n sections)) (sym comes.is) comes.due))
  same_here n one other (inr (due, is, inr (section, comes, reason))) (inr (again, are, inl second)) =
      absurd (second.1 section comes.there (subst (IsDue document (take n sections)) (sym comes.is) comes.due))
  same_here n one other (inr (due, is, inr (section, comes, reason))) (inr (again, are, inr (section', comes', reason'))) =
      same_reason n section one other reason
      (subst (λ s. Reason n s other) (same_section n section' section comes' comes) reason')

  same_by_sections : (one other : Failure) → BySections one → BySections other → one ≡ other
  same_by_sections one other (n, stop, here) (m, other_stop, there) =
      same_here n one other here (subst (λ k. AtEnd k other ⊎ AtDue k other) (same_stop m n other_stop stop) there)

  -- ---- each refusal

  -- the claim is wrong, the chain is, or judging by sections stops
  abbrev Refused : Failure → Type 0
  Refused fault = ((fault ≡ wrong_claim) × (IsClaimFor document budget certificate → ⊥))
      ⊎ (((fault ≡ wrong_chain) × HasWrongChain document budget certificate) ⊎ BySections fault)

  -- a section with this number that comes next is the one that is named
  next_is : (n : ℕ) (section : Section) (d : Section) → ComesTo document budget certificate n section →
      get_or sections n d ≡ section
  next_is n section d comes = get_or_default sections n d section comes.there ∙ comes.is

  stops : (n : ℕ) (section : Section) → ComesTo document budget certificate n section →
      (IsGood document budget (take n sections) section → ⊥) → StopsAt n
  stops n section comes wrong = record {
    good = comes.good;
    stops = λ d there good. wrong (subst (IsGood document budget (take n sections)) (next_is n section d comes) good);
  }

  refused : (fault : Failure) → FailsFor document budget certificate fault → Refused fault
  refused wrong_claim (inl wrong) = inl (refl, wrong)
  refused wrong_claim (inr other) = inr (inr (
    length sections,
    record { good = other.good; stops = λ d there. absurd (omega (arith, there)) },
    inl (
      ap (due_after document) (take_all (length sections) sections (omega arith)) ∙ other.none,
      inl (refl, refl),
    ),
  ))
  refused wrong_chain chain = inr (inl (refl, chain))
  refused (missing table) gone = inr (inr (
    gone.at,
    record { good = gone.good; stops = λ d there good. gone.wrong d there good.due },
    inr (
      record { table = table; width = gone.width },
      gone.due,
      inl (refl, gone.wrong),
    ),
  ))
  refused (extra number) more = inr (inr (
    number,
    record {
      good = more.good;
      stops = λ d there good. none-some _ (sym more.none ∙ good.due);
    },
    inl (more.none, inr (refl, more.more)),
  ))
  refused (wrong_layout number) wrong = inr (inr (
    number,
    stops number wrong.section wrong.comes (λ good. wrong.wrong good.problem good.laid),
    inr (
      record { table = wrong.section.table; width = wrong.section.width },
      wrong.comes.due,
      inr (wrong.section, wrong.comes, inl (refl, wrong.wrong)),
    ),
  ))
  refused (wrong_trace number) wrong = inr (inr (
    number,
    stops number wrong.section wrong.comes (λ good. wrong.wrong (subst (HasTrace budget wrong.section)
        (one_problem (take number sections) wrong.section good.problem wrong.problem good.laid.own wrong.laid.own) good.traced)),
    inr (
      record { table = wrong.section.table; width = wrong.section.width },
      wrong.comes.due,
      inr (wrong.section, wrong.comes, inr (wrong.problem, wrong.laid, inl (refl, wrong.wrong))),
    ),
  ))
  refused (wrong_log number) (section, problem, wrong) = inr (inr (
    number,
    stops number section wrong.comes (λ good. wrong.wrong (subst (HasLog section)
        (one_problem (take number sections) section good.problem problem good.laid.own wrong.laid.own) good.logged)),
    inr (
      record { table = section.table; width = section.width },
      wrong.comes.due,
      inr (section, wrong.comes, inr (problem, wrong.laid, inr (refl, wrong.traced, wrong.wrong))),
    ),
  ))

  narrow_of : (claim : Claim) (least : ℕ) → claim ≡ Narrow least → IsNarrow claim
  narrow_of claim least is = subst IsNarrow (sym is) tt

  pub one_fault : (one other : Failure) → FailsFor document budget certificate one →
      FailsFor document budget certificate other → one ≡ other
  one_fault one other is are = by_case (refused one is) (refused other are)
    where
      by_case : Refused one → Refused other → one ≡ other
      by_case (inl first) (inl second) = first.0 ∙ sym second.0
      by_case (inl first) (inr (inl second)) = absurd (first.1 second.1.claim)
      by_case (inl first) (inr (inr second)) = absurd (first.1 second.1.good.claim)
      by_case (inr (inl first)) (inl second) = absurd (second.1 first.1.claim)
      by_case (inr (inl first)) (inr (inl second)) = first.0 ∙ sym second.0
      by_case (inr (inl first)) (inr (inr second)) =
          absurd (second.1.good.by_sections (narrow_of certificate.claim first.1.least first.1.narrow))
      by_case (inr (inr first)) (inl second) = absurd (second.1 first.1.good.claim)
      by_case (inr (inr first)) (inr (inl second)) =
          absurd (first.1.good.by_sections (narrow_of certificate.claim second.1.least second.1.narrow))
      by_case (inr (inr first)) (inr (inr second)) = same_by_sections one other first second

  -- a valid certificate is not refused
  pub no_fault : (fault : Failure) → IsValidFor document budget certificate → FailsFor document budget certificate fault → ⊥
  no_fault fault valid is = by_claim certificate.claim refl valid.shown (refused fault is) is
    where
      whole_stops : (claim : Claim) → certificate.claim ≡ claim → AreWhole document budget sections → EndsWith claim sections →
          Refused fault →
          FailsFor document budget certificate fault → (IsNarrow claim → ⊥) → ⊥
      whole_stops claim same whole with_numbers (inl wrong) is other = wrong.1 valid.claim
      whole_stops claim same whole with_numbers (inr (inl wrong)) is other =
          other (subst IsNarrow same (narrow_of certificate.claim wrong.1.least wrong.1.narrow))
      whole_stops claim same whole with_numbers (inr (inr (n, stop, inl (none, inl (same_fault, end))))) is other =
          numbers_hold (subst (FailsFor document budget certificate) same_fault is)
        where
          numbers_hold : FailsFor document budget certificate wrong_claim → ⊥
          numbers_hold (inl wrong) = wrong valid.claim
          numbers_hold (inr wrong) = wrong.wrong (subst (λ c. EndsWith c sections) (sym same) with_numbers)
      whole_stops claim same whole with_numbers (inr (inr (n, stop, inl (none, inr (same_fault, more))))) is other =
          let d : Section = record { table = 0; width = 0; height = 0; lower = 0; widths = []; trace = []; log = [] } in
          stop.stops d more (whole.good n d more)
      whole_stops claim same whole with_numbers (inr (inr (n, stop, inr (due, is_due, reason)))) is other =
          elim (cases_lt n (length sections)) [
            | inl there ↦ let d : Section = record {
              table = 0;
              width = 0;
              height = 0;
              lower = 0;
              widths = [];
              trace = [];
              log =
                  [];
            } in
                stop.stops d there (whole.good n d there)
            | inr past ↦ none-some _ (sym whole.none ∙ ap (due_after document) (sym (take_all n sections past)) ∙ is_due)
          ]

      by_claim : (claim : Claim) → certificate.claim ≡ claim → IsShown document budget certificate certificate.claim →
          Refused fault →
          FailsFor document budget certificate fault → ⊥
      by_claim (Lowest height) same shown found is =
          let both : AreWhole document budget sections × EndsWith (Lowest height) sections =
          subst (IsShown document budget certificate) same shown in
          whole_stops (Lowest height) same both.0 both.1 found is (λ narrow. narrow)
      by_claim (Bounded height lower) same shown found is =
          let both : AreWhole document budget sections × EndsWith (Bounded height lower) sections =
          subst (IsShown document budget certificate) same shown in
          whole_stops (Bounded height lower) same both.0 both.1 found is (λ narrow. narrow)
      by_claim (Narrow least) same shown (inl wrong) is = wrong.1 valid.claim
      by_claim (Narrow least) same shown (inr (inl wrong)) is =
          wrong.1.wrong (subst (AreTooWide document certificate.chains) (narrow_same (sym same ∙ wrong.1.narrow))
          (subst (IsShown document budget certificate) same shown))
        where
          narrow_same : {a b : ℕ} → Narrow a ≡ Narrow b → a ≡ b
          narrow_same equal = cc
      by_claim (Narrow least) same shown (inr (inr found)) is = found.1.good.by_sections (narrow_of certificate.claim least same)
