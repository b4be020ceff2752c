-- A certificate that is valid for a table is valid for each table that is the same, and one that fails in a step of judging fails
-- in that step for each.
use Rattle.std.proofs.Common.{◌≡◌, ◌∙◌, ℕ, ◌+◌, ◌-◌, ◌<◌, ◌==◌, if◌then◌else◌, List, [], ◌∷◌, get_or, take, Option, None, Some}
use Rattle.std.proofs.Common.{◌↔◌}
use Rattle.std.proofs.Common.{inl, inr, length, refl, sym, ap, subst}
use Rattle.tl_base.specs.declared.style.Style.{Style}
use Rattle.tl_problem.specs.Problem.{ProblemModel}
use Rattle.tl_cert.specs.declared.certificate.Certificate.{Certificate}
use Rattle.tl_cert.specs.declared.certificate.Claim.{Claim}
use Rattle.tl_cert.specs.declared.certificate.Claim.TheVariants.{Lowest, Bounded, Narrow}
use Rattle.tl_cert.specs.declared.section.Section.{Section}
use Rattle.tl_cert.specs.Text.{IsNarrow}
use Rattle.tl_table.specs.declared.cell.Table.{Table, out-Table}
use Rattle.tl_form.specs.Expected.{Document, Due, IsDocumentOf, own_number, least_of, due_in, next_due, next_width, first_due}
use Rattle.tl_form.specs.Expected.{placed_width}
use Rattle.tl_form.specs.Expected.{due_from, due_after}
use Rattle.tl_table.specs.Least.{IsLeastWidth}
use Rattle.tl_table.specs.Same.{AreSame}
use Rattle.tl_table.specs.Sound.{nested_in_table}
use Rattle.tl_form.specs.Failures.{IsGoodUpTo, HasWrongClaim, HasWrongChain, IsMissing, IsExtra, ComesTo, HasWrongLayout}
use Rattle.tl_form.specs.Failures.{HasWrongTrace, HasWrongLog}
use Rattle.tl_form.specs.Valid.{IsClaimFor, IsProblemAt, IsLaid, IsGood, AreWhole, IsShown, IsValid}
use Rattle.tl_table.proofs.SameChains.{same_chain}
use Rattle.tl_table.proofs.SameFits.{same_least}
use Rattle.tl_form.proofs.SameProblems.{same_inner, same_problem}
use Rattle.tl_table.proofs.SameTables.{among_twin, same_nests, same_number, same_turned}

-- the document with another table in place of its own
abbrev pub put : Document → Table → Document
put document table = record {
  table = table;
  style = document.style;
  page = document.page;
  last = document.last;
  least = document.least;
}

module _ (document : Document) (other : Table) (same : AreSame document.table other) where
  abbrev twin : Document
  twin = put document other

  own : own_number document ≡ own_number twin
  own = same_number document.table other same

  least_same : (number : ℕ) → least_of document number ≡ least_of twin number
  least_same number = ap (λ n. get_or document.least (number - n) 0) own

  -- ---- it is the document of the other table

  pub document_same : (table : Table) (style : Style) (page : ℕ) → IsDocumentOf table style page document →
      IsDocumentOf other style page twin
  document_same table style page of = record {
    same = refl;
    drawn = of.drawn;
    wide = of.wide;
    numbers = of.numbers ∙ ap (λ n. n + nested_in_table document.table) own ∙ ap (λ n. own_number twin + n) nests;
    each = of.each ∙ ap (λ n. n + 1) nests;
    least = λ one among.
        let found = among_twin other document.table one (same_turned document.table other same) among in
        subst (IsLeastWidth one document.style)
        (ap (least_of document) (sym (same_number one found.0 found.2)) ∙ least_same (out-Table one).number)
        (same_least found.0 one document.style (least_of document (out-Table found.0).number) (same_turned one found.0 found.2)
        (of.least found.0 found.1));
  } where
    nests : nested_in_table document.table ≡ nested_in_table other
    nests = same_nests document.table other same

  -- ---- what is due

  next_same : (number placed : ℕ) → next_due document number placed ≡ next_due twin number placed
  next_same number placed =
      ap (λ n. if number == n then None else Some (due_in document number (next_width (least_of document number) placed))) own
      ∙ ap (λ n. if number == own_number twin then None else Some (due_in document number (next_width n placed)))
      (least_same number)
      ∙ ap (λ due. if number == own_number twin then None else Some due) (in_same (next_width (least_of twin number) placed))
    where
      in_same : (width : Option ℕ) → due_in document number width ≡ due_in twin number width
      in_same None = refl
      in_same (Some width) = refl

  from_same : (due : Option Due) (sections : List Section) → due_from document due sections ≡ due_from twin due sections
  from_same None [] = refl
  from_same (Some now) [] = refl
  from_same None (section ∷ sections) = refl
  from_same (Some now) (section ∷ sections) =
      ap (λ due. due_from document due sections) (next_same now.table (placed_width document.style section))
      ∙ from_same (next_due twin now.table (placed_width document.style section)) sections

  after_same : (sections : List Section) → due_after document sections ≡ due_after twin sections
  after_same sections = from_same (Some (first_due document document.last)) sections

  -- ---- sections

  problem_at : (before : List Section) (section : Section) (problem : ProblemModel) →
      IsProblemAt document before section problem →
      IsProblemAt twin before section problem
  problem_at before section problem at =
      let found = among_twin document.table other at.one same at.named.among in
      record {
        one = found.0;
        named = record { among = found.1; numbered = sym (same_number at.one found.0 found.2) ∙ at.named.numbered };
        inner = at.inner;
        steps = same_inner at.one found.0 document.style section.width before at.inner found.2 at.steps;
        made = same_problem at.one found.0 document.style section.width at.inner problem found.2 at.made;
        sound = at.sound;
      }

  good_same : (budget : ℕ) (before : List Section) (section : Section) → IsGood document budget before section →
      IsGood twin budget before section
  good_same budget before section good = record {
    due = sym (after_same before) ∙ good.due;
    problem = good.problem;
    laid = record {
      own = problem_at before section good.problem good.laid.own;
      placed = good.laid.placed;
      placement = good.laid.placement;
    };
    traced = good.traced;
    logged = good.logged;
  }

  whole_same : (budget : ℕ) (sections : List Section) → AreWhole document budget sections → AreWhole twin budget sections
  whole_same budget sections whole = record {
    good = λ i d within. good_same budget (take i sections) (get_or sections i d) (whole.good i d within);
    none = sym (after_same sections) ∙ whole.none;
  }

  -- ---- the claim

  claim_same : (budget : ℕ) (certificate : Certificate) → IsClaimFor document budget certificate →
      IsClaimFor twin budget certificate
  claim_same budget certificate claim = record {
    wide = claim.wide;
    drawn = claim.drawn;
    cuts = claim.cuts;
    kind = subst (λ n. IsNarrow certificate.claim ↔ (document.page < n))
        (ap (least_of document) own ∙ least_same (own_number twin)) claim.kind;
  }

  shown_same : (budget : ℕ) (certificate : Certificate) (claim : Claim) → IsShown document budget certificate claim →
      IsShown twin budget certificate claim
  shown_same budget certificate (Narrow least) shown = record {
    weighed = same_chain document.table other document.style certificate.chains least same shown.weighed;
    wider = shown.wider;
  }
  shown_same budget certificate (Lowest height) shown = (whole_same budget certificate.sections shown.0, shown.1)
  shown_same budget certificate (Bounded height lower) shown = (whole_same budget certificate.sections shown.0, shown.1)

-- a certificate that is valid for one is valid for the other
pub same_valid : (one other : Table) (style : Style) (page budget : ℕ) (certificate : Certificate) → AreSame one other →
    IsValid one style page budget certificate → IsValid other style page budget certificate
same_valid one other style page budget certificate same valid =
    let document = valid.0 in
    let twins : AreSame document.table other = subst (λ t. AreSame t other) (sym valid.1.same) same in (
      put document other,
      document_same document other twins one style page valid.1,
      record {
        claim = claim_same document other twins budget certificate valid.2.claim;
        shown = shown_same document other twins budget certificate certificate.claim valid.2.shown;
      },
    )

-- ---- steps that fail

-- the document is that of the other table with its own put back, so what is so of the one is so of the other
module _ (document : Document) (other : Table) (same : AreSame document.table other) (budget : ℕ)
    (certificate : Certificate) where
  back : AreSame other document.table
  back = same_turned document.table other same

  laid_same : (before : List Section) (section : Section) (problem : ProblemModel) → IsLaid document before section problem →
      IsLaid (put document other) before section problem
  laid_same before section problem laid = record {
    own = problem_at document other same before section problem laid.own;
    placed = laid.placed;
    placement = laid.placement;
  }

  laid_back : (before : List Section) (section : Section) (problem : ProblemModel) →
      IsLaid (put document other) before section problem →
      IsLaid document before section problem
  laid_back before section problem laid = record {
    own = problem_at (put document other) document.table back before section problem laid.own;
    placed = laid.placed;
    placement = laid.placement;
  }

  upto_same : (n : ℕ) → IsGoodUpTo document budget certificate n → IsGoodUpTo (put document other) budget certificate n
  upto_same n upto = record {
    claim = claim_same document other same budget certificate upto.claim;
    by_sections = upto.by_sections;
    there = upto.there;
    good = λ i d within. good_same document other same budget (take i certificate.sections) (get_or certificate.sections i d)
        (upto.good i d within);
  }

  comes_same : (number : ℕ) (section : Section) → ComesTo document budget certificate number section →
      ComesTo (put document other) budget certificate number section
  comes_same number section comes = record {
    good = upto_same number comes.good;
    there = comes.there;
    is = comes.is;
    due = sym (after_same document other same (take number certificate.sections)) ∙ comes.due;
  }

  pub claim_fails : HasWrongClaim document budget certificate → HasWrongClaim (put document other) budget certificate
  claim_fails (inl wrong) =
      inl (λ claim. wrong (claim_same (put document other) document.table back budget certificate claim))
  claim_fails (inr numbers) = inr (record {
    good = upto_same (length certificate.sections) numbers.good;
    none = sym (after_same document other same certificate.sections) ∙ numbers.none;
    wrong = numbers.wrong;
  })

  pub chain_fails : HasWrongChain document budget certificate → HasWrongChain (put document other) budget certificate
  chain_fails chain = record {
    claim = claim_same document other same budget certificate chain.claim;
    least = chain.least;
    narrow = chain.narrow;
    wrong = λ wide. chain.wrong
        (shown_same (put document other) document.table back budget certificate (Narrow chain.least) wide);
  }

  pub missing_fails : (table : ℕ) → IsMissing document budget certificate table →
      IsMissing (put document other) budget certificate table
  missing_fails table missing = record {
    at = missing.at;
    good = upto_same missing.at missing.good;
    width = missing.width;
    due = sym (after_same document other same (take missing.at certificate.sections)) ∙ missing.due;
    wrong = λ d there due. missing.wrong d there
        (after_same document other same (take missing.at certificate.sections) ∙ due);
  }

  pub extra_fails : (number : ℕ) → IsExtra document budget certificate number →
      IsExtra (put document other) budget certificate number
  extra_fails number extra = record {
    good = upto_same number extra.good;
    none = sym (after_same document other same (take number certificate.sections)) ∙ extra.none;
    more = extra.more;
  }

  pub layout_fails : (number : ℕ) → HasWrongLayout document budget certificate number →
      HasWrongLayout (put document other) budget certificate number
  layout_fails number layout = record {
    section = layout.section;
    comes = comes_same number layout.section layout.comes;
    wrong = λ problem laid. layout.wrong problem
        (laid_back (take number certificate.sections) layout.section problem laid);
  }

  pub trace_fails : (number : ℕ) → HasWrongTrace document budget certificate number →
      HasWrongTrace (put document other) budget certificate number
  trace_fails number trace = record {
    section = trace.section;
    comes = comes_same number trace.section trace.comes;
    problem = trace.problem;
    laid = laid_same (take number certificate.sections) trace.section trace.problem trace.laid;
    wrong = trace.wrong;
  }

  pub log_fails : (number : ℕ) (section : Section) (problem : ProblemModel) →
      HasWrongLog document budget certificate number section problem →
      HasWrongLog (put document other) budget certificate number section problem
  log_fails number section problem log = record {
    comes = comes_same number section log.comes;
    laid = laid_same (take number certificate.sections) section problem log.laid;
    traced = log.traced;
    wrong = log.wrong;
  }
