-- A certificate whose own table is laid out by another tight placement, as high as before, is valid as before, and can be written.
use Rattle.std.proofs.Common.{◌≡◌, ◌∙◌, inl, inr, ℕ, zero, suc, ◌+◌, ◌-◌, ◌<◌, ◌≤◌, Bool, true, false, List, [], ◌∷◌, ◌++◌, length, get_or, take}
use Rattle.std.proofs.Common.{Option, Some, None, refl, sym, ap, subst, codes, arith}
use Rattle.std.specs.Prelude.{IsSomeAnd, ◌==◌, if◌then◌else◌}
use Rattle.std.specs.List.{AllByRecursion, flat_map, last_or}
use Rattle.std.proofs.lemmas.Bool.{cases_lt}
use Rattle.std.proofs.lemmas.List.Concat.{flat_map-cons}
use Rattle.tl_base.specs.declared.limits.TheConstants.{MAX_BUDGET, MAX_COLUMNS, MAX_PAGE_WIDTH}
use Rattle.tl_problem.specs.declared.placed.Placed.{Placed}
use Rattle.tl_problem.specs.Problem.{ProblemModel}
use Rattle.tl_problem.specs.Tight.{IsTight}
use Rattle.tl_cert.specs.declared.certificate.Certificate.{Certificate}
use Rattle.tl_cert.specs.declared.certificate.Claim.{Claim}
use Rattle.tl_cert.specs.declared.certificate.Claim.TheVariants as claims
use Rattle.tl_cert.specs.declared.section.Section.{Section}
use Rattle.tl_cert.specs.Pieces.{TextPiece, AllWithin, word, field}
use Rattle.tl_cert.specs.Text.{IsWritable, HasProof, HasSections, IsSectionShaped, IsNarrow, chain_pieces, claim_pieces}
use Rattle.tl_cert.specs.Text.{cut_pieces, has_area, line_feed, line_pieces, section_head, section_pieces, space, spaced, style_field}
use Rattle.tl_cert.specs.Text.{version_word}
use Rattle.tl_cert.proofs.reading.Spellings.{within-append, within-first, within-second}
use Rattle.tl_cert.proofs.reading.Words.{within-word}
use Rattle.tl_table.specs.Sound.{IsSound}
use Rattle.tl_form.specs.Expected.{Document, Due, due_from, due_in, first_due, least_of, next_due, next_width, own_number}
use Rattle.tl_form.specs.Expected.{placed_width}
use Rattle.tl_form.specs.Valid.{AreGoodBelow, AreWhole, EndsWith, HasLog, HasNumbers, HasTrace, IsGood, IsProblemAt}
use Rattle.tl_form.proofs.Placing.{for_one, one_for}
use Rattle.tl_form.proofs.ValidLaws.{ends}
use Rattle.tl_lay.specs.Tidied.{laid_with, with_last, with_widths}
use Rattle.tl_narrow.proofs.Certifying.{last_found, pieces_within}

-- ---- the sections

pub last_length : (sections : List Section) (widths : List ℕ) → length (with_last sections widths) ≡ length sections
last_length [] widths = refl
last_length (section ∷ []) widths = refl
last_length (section ∷ next ∷ more) widths = ap suc (last_length (next ∷ more) widths)

pub last_before : (sections : List Section) (widths : List ℕ) (i : ℕ) → i < length sections →
    take i (with_last sections widths) ≡ take i sections
last_before [] widths i less = absurd (omega (arith, less))
last_before (section ∷ sections) widths zero less = refl
last_before (section ∷ []) widths (suc i) less = absurd (omega (arith, less))
last_before (section ∷ next ∷ more) widths (suc i) less =
    ap (λ (rest : List Section). section ∷ rest) (last_before (next ∷ more) widths i (omega (arith, less)))

pub last_kept : (sections : List Section) (widths : List ℕ) (i : ℕ) (d : Section) → i + 1 < length sections →
    get_or (with_last sections widths) i d ≡ get_or sections i d
last_kept [] widths i d less = absurd (omega (arith, less))
last_kept (section ∷ []) widths i d less = absurd (omega (arith, less))
last_kept (section ∷ next ∷ more) widths zero d less = refl
last_kept (section ∷ next ∷ more) widths (suc i) d less = last_kept (next ∷ more) widths i d (omega (arith, less))

pub last_given : (sections : List Section) (widths : List ℕ) (n : ℕ) (d : Section) → n + 1 ≡ length sections →
    get_or (with_last sections widths) n d ≡ with_widths (get_or sections n d) widths
last_given [] widths n d last = absurd (omega (arith, last))
last_given (section ∷ []) widths zero d last = refl
last_given (section ∷ []) widths (suc n) d last = absurd (omega (arith, last))
last_given (section ∷ next ∷ more) widths zero d last = absurd (omega (arith, last))
last_given (section ∷ next ∷ more) widths (suc n) d last = last_given (next ∷ more) widths n d (omega (arith, last))

-- taken from the end, and put back with other widths
pub last_pushed : (before : List Section) (last : Section) (widths : List ℕ) →
    before ++ with_widths last widths ∷ [] ≡ with_last (before ++ last ∷ []) widths
last_pushed [] last widths = refl
last_pushed (section ∷ []) last widths = refl
last_pushed (section ∷ next ∷ more) last widths =
    ap (λ (rest : List Section). section ∷ rest) (last_pushed (next ∷ more) last widths)

-- ---- what is due

-- nothing is due after a section of the document's own table, whatever columns it takes
none_due : (document : Document) (number placed other : ℕ) → next_due document number placed ≡ None →
    next_due document number other ≡ None
none_due document number placed other = by_test (number == own_number document) where
  by_test : (own : Bool) →
      (if own then None else Some (due_in document number (next_width (least_of document number) placed))) ≡ None →
      (if own then None else Some (due_in document number (next_width (least_of document number) other))) ≡ None
  by_test true is = refl
  by_test false is = absurd (some is) where
    some : {X : Type 0} {x : X} → Some x ≡ None → ⊥
    some e = cc

pub none_after : (document : Document) (due : Option Due) (sections : List Section) (widths : List ℕ) →
    due_from document due sections ≡ None → due_from document due (with_last sections widths) ≡ None
none_after document due [] widths none = none
none_after document None (section ∷ []) widths none = refl
none_after document None (section ∷ next ∷ more) widths none = refl
none_after document (Some now) (section ∷ []) widths none =
    none_due document now.table (placed_width document.style section) (placed_width document.style (with_widths section widths)) none
none_after document (Some now) (section ∷ next ∷ more) widths none =
    none_after document (next_due document now.table (placed_width document.style section)) (next ∷ more) widths none

-- ---- the claim

numbers_kept : (claim : Claim) (section : Section) (widths : List ℕ) → HasNumbers claim section →
    HasNumbers claim (with_widths section widths)
numbers_kept (claims.Lowest height) section widths has = has
numbers_kept (claims.Bounded height lower) section widths has = has
numbers_kept (claims.Narrow least) section widths has = has

pub ends_kept : (claim : Claim) (sections : List Section) (widths : List ℕ) (n : ℕ) (d : Section) → n + 1 ≡ length sections →
    EndsWith claim sections → EndsWith claim (with_last sections widths)
ends_kept claim sections widths n d last with_numbers =
    subst (λ (found : Option Section). IsSomeAnd found (HasNumbers claim)) (sym found)
    (numbers_kept claim (get_or sections n d) widths (ends claim sections n d last with_numbers))
  where
    at : length (with_last sections widths) - 1 ≡ n
    at = omega (arith, last_length sections widths, last)

    found : last_or None (with_last sections widths) ≡ Some (with_widths (get_or sections n d) widths)
    found = last_found (with_last sections widths) d (omega (arith, last_length sections widths, last))
        ∙ ap (λ (k : ℕ). Some (get_or (with_last sections widths) k d)) at
        ∙ ap Some (last_given sections widths n d last)

-- ---- good sections

module _ (document : Document) (sound : IsSound document.table) (budget : ℕ) (sections : List Section)
    (whole : AreWhole document budget sections) (n : ℕ) (last : n + 1 ≡ length sections) (problem : ProblemModel)
    (own : (d : Section) → IsProblemAt document (take n sections) (get_or sections n d) problem) (placed : Placed)
    (tight : IsTight problem placed) (high : (d : Section) → placed.height ≡ (get_or sections n d).height) where
  abbrev changed : List Section
  changed = with_last sections placed.widths

  one_problem : (d : Section) (good : IsGood document budget (take n sections) (get_or sections n d)) → good.problem ≡ problem
  one_problem d good =
      let section = get_or sections n d in
      let one = own d in
      one_for one.one document.style section.width (take n sections) good.problem problem
      (for_one document sound (take n sections) section one.one one.named good.problem good.laid.own)
      (record { inner = one.inner; steps = one.steps; made = one.made; sound = one.sound })

  good_last : (d : Section) → IsGood document budget (take n sections) (with_widths (get_or sections n d) placed.widths)
  good_last d =
      let good = whole.good n d (omega (arith, last)) in
      let one = own d in
      record {
        due = good.due;
        problem = problem;
        laid = record {
          own = record {
            one = one.one;
            named = record { among = one.named.among; numbered = one.named.numbered };
            inner = one.inner;
            steps = one.steps;
            made = one.made;
            sound = one.sound;
          };
          placed = placed;
          placement = record { wide = refl; high = high d; tight = tight };
        };
        traced = subst (HasTrace budget (get_or sections n d)) (one_problem d good) good.traced;
        logged = subst (HasLog (get_or sections n d)) (one_problem d good) good.logged;
      }

  good_changed : AreGoodBelow document budget changed (length changed)
  good_changed i d within = elim (cases_lt i n) [
    | inl less ↦ subst (λ (s : Section). IsGood document budget (take i changed) s)
        (sym (last_kept sections placed.widths i d (omega (arith, less, last))))
        (subst (λ (before : List Section). IsGood document budget before (get_or sections i d))
        (sym (last_before sections placed.widths i (omega (arith, less, last))))
        (whole.good i d (omega (arith, less, last))))
    | inr more ↦
        let same : n ≡ i = omega (arith, more, within, last, last_length sections placed.widths) in
        subst (λ (k : ℕ). IsGood document budget (take k changed) (get_or changed k d)) same
        (subst (λ (s : Section). IsGood document budget (take n changed) s)
        (sym (last_given sections placed.widths n d last))
        (subst (λ (before : List Section). IsGood document budget before (with_widths (get_or sections n d) placed.widths))
        (sym (last_before sections placed.widths n (omega (arith, last)))) (good_last d)))
  ]

  pub whole_changed : AreWhole document budget changed
  whole_changed = record {
    good = good_changed;
    none = none_after document (Some (first_due document document.last)) sections placed.widths whole.none;
  }

-- ---- the text

each_within : (sections : List Section) → AllWithin (flat_map section_pieces sections) →
    AllByRecursion (λ section. AllWithin (section_pieces section)) sections
each_within [] all = tt
each_within (section ∷ sections) all =
    let both = subst AllWithin (flat_map-cons section_pieces section sections) all in (
      within-first (section_pieces section) (flat_map section_pieces sections) both,
      each_within sections (within-second (section_pieces section) (flat_map section_pieces sections) both),
    )

widths_within : (section : Section) (widths : List ℕ) → AllWithin (flat_map (spaced MAX_PAGE_WIDTH) widths) →
    AllWithin (section_pieces section) → AllWithin (section_pieces (with_widths section widths))
widths_within section widths few all =
    let ended = word (codes "\n") ++ (flat_map cut_pieces section.trace ++ flat_map line_pieces section.log) in
    let rest = word (codes "widths") ++ (flat_map (spaced MAX_PAGE_WIDTH) section.widths ++ ended) in
    let behind = within-second (section_head section) rest all in
    let from_widths = within-second (word (codes "widths")) (flat_map (spaced MAX_PAGE_WIDTH) section.widths ++ ended) behind in
    let after = within-second (flat_map (spaced MAX_PAGE_WIDTH) section.widths) ended from_widths in
    within-append (section_head section) (word (codes "widths") ++ (flat_map (spaced MAX_PAGE_WIDTH) widths ++ ended))
    (within-first (section_head section) rest all)
    (within-append (word (codes "widths")) (flat_map (spaced MAX_PAGE_WIDTH) widths ++ ended) (within-word (codes "widths"))
    (within-append (flat_map (spaced MAX_PAGE_WIDTH) widths) ended few after))

all_changed : (P : Section → Type 0) (widths : List ℕ) → ((section : Section) → P section → P (with_widths section widths)) →
    (sections : List Section) → AllByRecursion P sections → AllByRecursion P (with_last sections widths)
all_changed P widths each [] all = tt
all_changed P widths each (section ∷ []) all = (each section all.0, tt)
all_changed P widths each (section ∷ next ∷ more) all = (all.0, all_changed P widths each (next ∷ more) all.1)

module _ (c : Certificate) (can : IsWritable c) (some : 1 ≤ c.width) (narrow : c.width ≤ MAX_PAGE_WIDTH)
    (cuts : c.budget ≤ MAX_BUDGET) (wide : IsNarrow c.claim → ⊥) (widths : List ℕ) (columns : length widths ≤ MAX_COLUMNS)
    (few : AllWithin (flat_map (spaced MAX_PAGE_WIDTH) widths)) where
  after_claim : List TextPiece
  after_claim = flat_map chain_pieces c.chains ++ (flat_map section_pieces c.sections ++ word (codes "end\n"))

  from_claim : AllWithin (claim_pieces c.claim ++ (flat_map chain_pieces c.chains ++ (flat_map section_pieces c.sections
      ++ word (codes "end\n"))))
  from_claim =
      within-second (field 0 MAX_BUDGET c.budget line_feed) _
      (within-second (word (style_field c.style)) _
      (within-second (field 1 MAX_PAGE_WIDTH c.width space) _
      (within-second (word (version_word (has_area c.sections))) _
      (within-second (word (codes "tablelayout ")) _ can.1))))

  claimed : AllWithin (claim_pieces c.claim)
  claimed = within-first (claim_pieces c.claim) _ from_claim

  of_sections : AllWithin (flat_map section_pieces c.sections)
  of_sections = within-first (flat_map section_pieces c.sections) (word (codes "end\n"))
      (within-second (flat_map chain_pieces c.chains) _ (within-second (claim_pieces c.claim) _ from_claim))

  has_sections : (claim : Claim) → (IsNarrow claim → ⊥) → HasProof claim c → HasSections c
  has_sections (claims.Lowest height) other has = has
  has_sections (claims.Bounded height lower) other has = has
  has_sections (claims.Narrow least) other has = absurd (other tt)

  has_proof : (claim : Claim) → (IsNarrow claim → ⊥) → HasSections (laid_with c widths) → HasProof claim (laid_with c widths)
  has_proof (claims.Lowest height) other has = has
  has_proof (claims.Bounded height lower) other has = has
  has_proof (claims.Narrow least) other has = absurd (other tt)

  abbrev has : HasSections c
  has = has_sections c.claim wide can.0

  pub writable_with : IsWritable (laid_with c widths)
  writable_with = (
    has_proof c.claim wide (record {
      some = omega (arith, last_length c.sections widths, has.some);
      most = omega (arith, last_length c.sections widths, has.most);
      sections = all_changed IsSectionShaped widths (λ section is. record { widths = columns; lines = is.lines }) c.sections
          has.sections;
      no_chain = has.no_chain;
    }),
    pieces_within (laid_with c widths) some narrow cuts claimed
        (subst (λ chains. AllByRecursion (λ chain. AllWithin (chain_pieces chain)) chains) (sym has.no_chain) tt)
        (all_changed (λ section. AllWithin (section_pieces section)) widths
        (λ section is. widths_within section widths few is) c.sections (each_within c.sections of_sections)),
  )
