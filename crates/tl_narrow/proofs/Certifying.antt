-- That the sections of a table, with the claim of the last, are a valid certificate, and so is a chain that is wider than the
-- page.
use Rattle.std.proofs.Common.{◌≡◌, ◌≢◌, inl, inr, ℕ, zero, suc, ◌-◌, ◌<◌, ◌≤◌, Bool}
use Rattle.std.proofs.Common.{true, false, List, [], ◌∷◌, ◌++◌, length, get_or, take, codes, Option, Some}
use Rattle.std.proofs.Common.{None, refl, sym, ap, subst, ◌∙◌, arith}
use Rattle.std.specs.Prelude.{IsSomeAnd, ◌==◌, if◌then◌else◌}
use Rattle.std.specs.List.{AllByRecursion, last_or, flat_map}
use Rattle.std.proofs.lemmas.List.{take_all}
use Rattle.std.proofs.lemmas.Bool.{eqb-true, eq-eqb}
use Rattle.std.proofs.lemmas.Bool.Decides.{eqb_tells}
use Rattle.tl_base.specs.declared.limits.TheConstants.{MAX_PAGE_WIDTH, MAX_BUDGET, MAX_HEIGHT}
use Rattle.tl_base.specs.declared.style.Style.{Style}
use Rattle.tl_base.specs.declared.chain.Chain.{Chain}
use Rattle.tl_base.proofs.Decreasing.{last_or-take}
use Rattle.tl_base.proofs.Members.{AllByRecursion-weaker}
use Rattle.tl_base.proofs.Options.{Some-same}
use Rattle.tl_problem.specs.Problem.{ProblemModel}
use Rattle.tl_cert.proofs.reading.Words.{within-word}
use Rattle.tl_cert.specs.declared.certificate.Certificate.{Certificate}
use Rattle.tl_cert.specs.declared.certificate.Claim.{Claim}
use Rattle.tl_cert.specs.declared.certificate.Claim.TheVariants as claims
use Rattle.tl_cert.specs.declared.section.Section.{Section}
use Rattle.tl_cert.specs.Pieces.{TextPiece, AllWithin, word, field}
use Rattle.tl_cert.specs.Text.{IsWritable, HasProof, HasSections, IsSectionShaped, IsSectionWritable, IsNarrow, chain_pieces}
use Rattle.tl_cert.specs.Text.{IsChainWritable, cert_pieces, claim_pieces, section_pieces, section_head}
use Rattle.tl_cert.specs.Text.{style_field, version_word, has_area, space, line_feed, spaced, cut_pieces, line_pieces}
use Rattle.tl_cert.proofs.reading.Spellings.{within-first, within-append}
use Rattle.tl_table.specs.declared.cell.Table.{Table}
use Rattle.tl_table.specs.Chains.{IsChain, IsHeaviestChain}
use Rattle.tl_table.specs.FewCells.{HasFewCells}
use Rattle.tl_table.specs.Least.{IsLeastWidth}
use Rattle.tl_table.specs.Sound.{IsSound}
use Rattle.tl_table.proofs.LinkLemmas.{IsLeastWidth-unique}
use Rattle.tl_form.specs.ChainRanges.{ChainsAreWritable}
use Rattle.tl_form.specs.declared.subject.Subject.{Subject}
use Rattle.tl_form.specs.Expected.{Document, IsDocumentOf, own_number, least_of}
use Rattle.tl_form.specs.Subjects.{meant}
use Rattle.tl_form.specs.Valid.{AreWhole, HasNumbers, EndsWith, IsShown, IsValid}
use Rattle.tl_solve.specs.declared.outcome.Outcome.{Outcome}
use Rattle.tl_form.specs.ValidLaws.{HasHeight}
use Rattle.tl_nested.specs.Searched.{AreSectionsOf, AreWritable}
use Rattle.tl_narrow.specs.Certified.{section_claim, claim_of_last, claim_of, certificate_of}

-- ---- the last section

-- a list that is not empty has a last item
pub last_found : {X : Type 0} (xs : List X) (d : X) → 0 < length xs → last_or None xs ≡ Some (get_or xs (length xs - 1) d)
last_found xs d some =
    let all : take (suc (length xs - 1)) xs ≡ xs = take_all (suc (length xs - 1)) xs (omega (arith, some)) in
    sym (ap (last_or None) all) ∙ last_or-take None xs (length xs - 1) d (omega (arith, some))

-- what a test of a section's numbers claims
abbrev claim_by : Section → Bool → Claim
claim_by section same = if same then claims.Lowest section.height else claims.Bounded section.height section.lower

-- a section's claim is not that the page is too narrow, and has its numbers
by_wide : (section : Section) (same : Bool) → IsNarrow (claim_by section same) → ⊥
by_wide section true narrow = narrow
by_wide section false narrow = narrow

by_numbers : (section : Section) (same : Bool) → (section.lower == section.height) ≡ same → section.lower ≤ section.height →
    HasNumbers (claim_by section same) section
by_numbers section true is ordered = (refl, eqb-true section.lower section.height is)
by_numbers section false is ordered = (
  refl,
  refl,
  elim (eqb_tells section.lower section.height) [
    | inl same ↦ absurd (differ (sym is ∙ same.0))
    | inr apart ↦ less section.lower section.height ordered apart.1
  ],
) where
  differ : false ≡ true → ⊥
  differ e = absurd cc

  less : (a b : ℕ) → a ≤ b → a ≢ b → a < b
  less a b le ne = omega (arith, le, ne)

pub claim_is_wide : (sections : List Section) → IsNarrow (claim_of sections) → ⊥
claim_is_wide sections = by_last (last_or None sections) where
  by_last : (last : Option Section) → IsNarrow (claim_of_last last) → ⊥
  by_last None narrow = narrow
  by_last (Some section) narrow = by_wide section (section.lower == section.height) narrow

-- ---- validity

-- what shows a claim that the page is wide enough
shown_by : (document : Document) (budget : ℕ) (certificate : Certificate) (claim : Claim) → (IsNarrow claim → ⊥) →
    AreWhole document budget certificate.sections → EndsWith claim certificate.sections →
    IsShown document budget certificate claim
shown_by document budget certificate (claims.Lowest height) wide whole ends = (whole, ends)
shown_by document budget certificate (claims.Bounded height lower) wide whole ends = (whole, ends)
shown_by document budget certificate (claims.Narrow least) wide whole ends = absurd (wide tt)

-- the document's own least width
pub own_least : (table : Table) (style : Style) (page : ℕ) (document : Document) → IsDocumentOf table style page document →
    IsLeastWidth table style (least_of document (own_number document))
own_least table style page document of =
    subst (λ (t : Table). IsLeastWidth t style (least_of document (own_number document))) of.same
    (subst (λ (s : Style). IsLeastWidth document.table s (least_of document (own_number document))) of.drawn
    (of.least document.table (inl refl)))

-- the first item of a list that is not empty
pub first_of : {X : Type 0} (xs : List X) → 0 < length xs → X
first_of [] some = absurd (omega (arith, some))
first_of (x ∷ xs) some = x

-- ---- writing

-- what a certificate claims of a page that is wide enough is the height of its last section
claim_height : (section : Section) (same : Bool) → HasHeight (claim_by section same) section.height
claim_height section true = refl
claim_height section false = refl

each_within : {X : Type 0} (f : X → List TextPiece) (xs : List X) → AllByRecursion (λ x. AllWithin (f x)) xs →
    AllWithin (flat_map f xs)
each_within f [] all = tt
each_within f (x ∷ xs) all = within-append (f x) (flat_map f xs) all.0 (each_within f xs all.1)

claim_within : (claim : Claim) → ((height : ℕ) → claim ≡ claims.Lowest height → height ≤ MAX_HEIGHT) →
    ((height lower : ℕ) → claim ≡ claims.Bounded height lower → (height ≤ MAX_HEIGHT) × (lower ≤ MAX_HEIGHT)) →
    ((least : ℕ) → claim ≡ claims.Narrow least → least ≤ MAX_HEIGHT) → AllWithin (claim_pieces claim)
claim_within (claims.Lowest height) lowest bounded narrow =
    within-append (word (codes "lowest ")) (field 0 MAX_HEIGHT height line_feed) (within-word (codes "lowest "))
    ((omega arith, lowest height refl), (tt, tt))
claim_within (claims.Bounded height lower) lowest bounded narrow =
    within-append (word (codes "bounded ")) (field 0 MAX_HEIGHT height space ++ field 0 MAX_HEIGHT lower line_feed)
    (within-word (codes "bounded "))
    ((omega arith, (bounded height lower refl).0), (tt, ((omega arith, (bounded height lower refl).1), (tt, tt))))
claim_within (claims.Narrow least) lowest bounded narrow =
    within-append (word (codes "narrow ")) (field 0 MAX_HEIGHT least line_feed) (within-word (codes "narrow "))
    ((omega arith, narrow least refl), (tt, tt))

-- the pieces of a certificate are within their ranges where its parts are
pub pieces_within : (c : Certificate) → 1 ≤ c.width → c.width ≤ MAX_PAGE_WIDTH → c.budget ≤ MAX_BUDGET →
    AllWithin (claim_pieces c.claim) →
    AllByRecursion (λ chain. AllWithin (chain_pieces chain)) c.chains →
    AllByRecursion (λ section. AllWithin (section_pieces section)) c.sections →
    AllWithin (cert_pieces c)
pieces_within c more less cuts claim chains sections =
    let tail = within-append (flat_map section_pieces c.sections) (word (codes "end\n"))
    (each_within section_pieces c.sections sections)
    (within-word (codes "end\n")) in
    let body = within-append (flat_map chain_pieces c.chains) _ (each_within chain_pieces c.chains chains) tail in
    let claimed = within-append (claim_pieces c.claim) _ claim body in
    let budgeted = within-append (field 0 MAX_BUDGET c.budget line_feed) _ ((omega arith, cuts), (tt, tt)) claimed in
    let styled = within-append (word (style_field c.style)) _ (within-word (style_field c.style)) budgeted in
    let wide = within-append (field 1 MAX_PAGE_WIDTH c.width space) _ ((more, less), (tt, tt)) styled in
    let versioned = within-append (word (version_word (has_area c.sections))) _
    (within-word (version_word (has_area c.sections))) wide in
    within-append (word (codes "tablelayout ")) _ (within-word (codes "tablelayout ")) versioned

shaped_wide : (claim : Claim) (c : Certificate) → (IsNarrow claim → ⊥) → HasSections c → HasProof claim c
shaped_wide (claims.Lowest height) c wide has = has
shaped_wide (claims.Bounded height lower) c wide has = has
shaped_wide (claims.Narrow least) c wide has = absurd (wide tt)

-- what follows the head of a section
abbrev rest_of : Section → List TextPiece
rest_of section = word (codes "widths") ++ (flat_map (spaced MAX_PAGE_WIDTH) section.widths ++ (word (codes "\n")
    ++ (flat_map cut_pieces section.trace ++ flat_map line_pieces section.log)))

-- a section that can be written has a height and a lower bound in their range
section_numbers : (section : Section) → IsSectionWritable section → (section.height ≤ MAX_HEIGHT) × (section.lower ≤ MAX_HEIGHT)
section_numbers section can =
    let head : AllWithin (section_head section) = within-first (section_head section) (rest_of section) can.1 in
    let table = head.1.1.1.1.1.1.1.1 in
    (table.1.1.1.1.0.1, table.1.1.1.1.1.1.0.1)

section_claims : (section : Section) (same : Bool) → (section.height ≤ MAX_HEIGHT) × (section.lower ≤ MAX_HEIGHT) →
    AllWithin (claim_pieces (claim_by section same))
section_claims section true numbers =
    within-append (word (codes "lowest ")) (field 0 MAX_HEIGHT section.height line_feed) (within-word (codes "lowest "))
    ((omega arith, numbers.0), (tt, tt))
section_claims section false numbers =
    within-append (word (codes "bounded ")) (field 0 MAX_HEIGHT section.height space ++ field 0 MAX_HEIGHT section.lower
    line_feed)
    (within-word (codes "bounded "))
    ((omega arith, numbers.0), (tt, ((omega arith, numbers.1), (tt, tt))))

all_at : {X : Type 0} (P : X → Type 0) (xs : List X) → AllByRecursion P xs → (i : ℕ) (d : X) → i < length xs → P (get_or xs i d)
all_at P [] all i d within = absurd (omega (arith, within))
all_at P (x ∷ xs) all zero d within = all.0
all_at P (x ∷ xs) all (suc i) d within = all_at P xs all.1 i d (omega (arith, within))

-- ---- the sections of a page

-- the last section, as the claim sees it
pub record IsLast (sections : List Section) (section : Section) : Type 0 where
  pub found : last_or None sections ≡ Some section
  pub at : (d : Section) → get_or sections (length sections - 1) d ≡ section

abbrev pub last_of : (sections : List Section) → 0 < length sections → Section
last_of sections some = get_or sections (length sections - 1) (first_of sections some)

pub last_is : (sections : List Section) (some : 0 < length sections) → IsLast sections (last_of sections some)
last_is sections some =
    let found : last_or None sections ≡ Some (last_of sections some) = last_found sections (first_of sections some) some in
    record { found = found; at = λ d. Some-same (sym (last_found sections d some) ∙ found) }

module _ (given : ProblemModel → Outcome → Type 0) (table : Table) (style : Style) (page budget : ℕ) (sections : List Section)
    (are : AreSectionsOf given table style page budget sections) (can : AreWritable sections)
    (wide : (least : ℕ) → IsLeastWidth table style least → least ≤ page) where
  abbrev pub some : 0 < length sections
  some = can.some

  pub whole : AreWhole are.document budget sections
  whole = record { good = λ i d within. (are.each i d within).good; none = are.none }

  abbrev pub last_section : Section
  last_section = last_of sections can.some

  last : IsLast sections last_section
  last = last_is sections can.some

  claim_same : claim_of sections ≡ section_claim last_section
  claim_same = ap claim_of_last last.found

  ordered : last_section.lower ≤ last_section.height
  ordered = subst (λ (s : Section). s.lower ≤ s.height) (last.at last_section)
      ((are.each (length sections - 1) last_section (omega (arith, some))).good.traced.ordered)

  ends : EndsWith (claim_of sections) sections
  ends = subst (λ (found : Option Section). IsSomeAnd found (HasNumbers (claim_of_last found))) (sym last.found)
      (by_numbers last_section (last_section.lower == last_section.height) refl ordered)

  pub high : HasHeight (claim_of sections) last_section.height
  high = subst (λ (claim : Claim). HasHeight claim last_section.height) (sym claim_same)
      (claim_height last_section (last_section.lower == last_section.height))

  numbers : (last_section.height ≤ MAX_HEIGHT) × (last_section.lower ≤ MAX_HEIGHT)
  numbers = section_numbers last_section (subst IsSectionWritable (last.at last_section)
      (all_at IsSectionWritable sections can.each (length sections - 1) last_section (omega (arith, some))))

  pub claimed_height : (height : ℕ) × (height ≤ MAX_HEIGHT) × HasHeight (claim_of sections) height
  claimed_height = (last_section.height, numbers.0, high)

  pub valid : IsValid table style page budget (certificate_of page style budget sections)
  valid = (
    are.document,
    are.of,
    record {
      claim = record {
        wide = sym are.of.wide;
        drawn = sym are.of.drawn;
        cuts = refl;
        kind = (
          λ narrow. absurd (claim_is_wide sections narrow),
          λ less.
              absurd (too_wide are.document.page (least_of are.document (own_number are.document)) less
              (subst (λ (w : ℕ). least_of are.document (own_number are.document) ≤ w) (sym are.of.wide)
              (wide (least_of are.document (own_number are.document)) (own_least table style page are.document are.of)))),
        );
      };
      shown = shown_by are.document budget (certificate_of page style budget sections) (claim_of sections)
          (claim_is_wide sections) whole ends;
    },
  ) where
    too_wide : (a b : ℕ) → a < b → b ≤ a → ⊥
    too_wide a b less more = omega (arith, less, more)

  pub writable : 1 ≤ page → page ≤ MAX_PAGE_WIDTH → budget ≤ MAX_BUDGET → IsWritable (certificate_of page style budget sections)
  writable more less cuts = (
    shaped_wide (claim_of sections) (certificate_of page style budget sections) (claim_is_wide sections) (record {
      some = can.some;
      most = can.most;
      sections = AllByRecursion-weaker IsSectionWritable IsSectionShaped sections (λ section is. is.0) can.each;
      no_chain = refl;
    }),
    pieces_within (certificate_of page style budget sections) more less cuts
        (subst (λ (claim : Claim). AllWithin (claim_pieces claim)) (sym claim_same)
        (section_claims last_section (last_section.lower == last_section.height) numbers))
        tt (AllByRecursion-weaker IsSectionWritable (λ section. AllWithin (section_pieces section)) sections (λ section is. is.1) can.each),
  )

  -- an open last section is not closed
  pub open_last : (height lower : ℕ) → claim_of sections ≡ claims.Bounded height lower → (d : Section) →
      (get_or sections (length sections - 1) d).lower < (get_or sections (length sections - 1) d).height
  open_last height lower is d = subst (λ (s : Section). s.lower < s.height) (sym (last.at d))
      (by_test (last_section.lower == last_section.height) refl (sym claim_same ∙ is)) where
        by_test : (same : Bool) → (last_section.lower == last_section.height) ≡ same →
            claim_by last_section same ≡ claims.Bounded height lower →
            last_section.lower < last_section.height
        by_test true e bounded = absurd (apart bounded) where
          apart : claims.Lowest last_section.height ≡ claims.Bounded height lower → ⊥
          apart e = absurd cc
        by_test false e bounded = (by_numbers last_section false e ordered).2

-- ---- the claim of a section, by its test

pub lowest_claim : (sections : List Section) (section : Section) → last_or None sections ≡ Some section →
    section.lower ≡ section.height →
    claims.Lowest section.height ≡ claim_of sections
lowest_claim sections section found same =
    sym (ap (claim_by section) (eq-eqb section.lower section.height same)) ∙ sym (ap claim_of_last found)

pub bounded_claim : (sections : List Section) (section : Section) → last_or None sections ≡ Some section →
    section.lower ≢ section.height →
    claims.Bounded section.height section.lower ≡ claim_of sections
bounded_claim sections section found apart = elim (eqb_tells section.lower section.height) [
  | inl same ↦ absurd (apart same.1)
  | inr other ↦ sym (ap (claim_by section) other.0) ∙ sym (ap claim_of_last found)
]

-- ---- a page that is too narrow

first_any : {X : Type 0} (xs : List X) (a b : X) → 0 < length xs → get_or xs 0 a ≡ get_or xs 0 b
first_any [] a b some = absurd (omega (arith, some))
first_any (x ∷ xs) a b some = refl

-- the first of a subject's least widths is that of its own table
pub own_first : (table : Table) (style : Style) (page : ℕ) (subject : Subject) (n : ℕ) →
    IsDocumentOf table style page (meant subject) →
    n ≡ get_or subject.least.items 0 n → IsLeastWidth table style n
own_first table style page subject n of is =
    let k = own_number (meant subject) in
    let none : k - k ≡ 0 = omega arith in
    subst (IsLeastWidth table style) (ap (λ (j : ℕ). get_or subject.least.items j 0) none
    ∙ first_any subject.least.items 0 n (omega (arith, of.each)) ∙ sym is) (own_least table style page (meant subject) of)

-- the same table on another page
abbrev on_page : ℕ → Document → Document
on_page page document = record {
  table = document.table;
  style = document.style;
  page = page;
  last = document.last;
  least = document.least;
}

module _ (table : Table) (style : Style) (page budget least : ℕ) (chains : List Chain) (subject : Document) (some_page : ℕ)
    (of : IsDocumentOf table style some_page subject)
    (sound : IsSound table) (is_least : IsLeastWidth table style least) (narrow : page < least)
    (heaviest : (weight : ℕ) × IsLeastWidth table style weight × IsHeaviestChain table style chains weight) where
  abbrev pub narrow_by : List Section → Certificate
  narrow_by sections = record {
    width = page;
    style = style;
    budget = budget;
    claim = claims.Narrow least;
    chains = chains;
    sections = sections;
  }

  abbrev document : Document
  document = on_page page subject

  is_document : IsDocumentOf table style page document
  is_document = record {
    same = of.same;
    drawn = of.drawn;
    wide = refl;
    numbers = of.numbers;
    each = of.each;
    least = of.least;
  }

  own : least ≡ least_of document (own_number document)
  own = IsLeastWidth-unique table style least (least_of document (own_number document)) is_least
      (own_least table style page document is_document)

  valid_none : IsValid table style page budget (narrow_by [])
  valid_none = (
    document,
    is_document,
    record {
      claim = record {
        wide = refl;
        drawn = sym of.drawn;
        cuts = refl;
        kind = (λ says. subst (λ (w : ℕ). page < w) own narrow, λ less. tt);
      };
      shown = record {
        weighed = subst (λ (t : Table). IsChain t subject.style chains least) (sym of.same)
            (subst (λ (s : Style). IsChain table s chains least) (sym of.drawn)
            (subst (λ (w : ℕ). IsChain table style chains w)
            (IsLeastWidth-unique table style heaviest.0 least heaviest.1 is_least) heaviest.2.chain));
        wider = narrow;
      };
    },
  )

  writable_none : 1 ≤ page → page ≤ MAX_PAGE_WIDTH → budget ≤ MAX_BUDGET → least ≤ MAX_HEIGHT → HasFewCells table →
      ChainsAreWritable → IsWritable (narrow_by [])
  writable_none more less cuts small cells law =
      let can = law table style chains least sound cells (subst (λ (w : ℕ). IsChain table style chains w)
      (IsLeastWidth-unique table style heaviest.0 least heaviest.1 is_least) heaviest.2.chain) in (
        record {
          some = can.0;
          entries = AllByRecursion-weaker IsChainWritable (λ chain. 1 ≤ length chain.entries) chains (λ chain is. is.0) can.1;
          no_section = refl;
        },
        pieces_within (narrow_by []) more less cuts
            (within-append (word (codes "narrow ")) (field 0 MAX_HEIGHT least line_feed) (within-word (codes "narrow "))
            ((omega arith, small), (tt, tt)))
            (AllByRecursion-weaker IsChainWritable (λ chain. AllWithin (chain_pieces chain)) chains (λ chain is. is.1) can.1) tt,
      )

  pub valid_narrow : (sections : List Section) → sections ≡ [] → IsValid table style page budget (narrow_by sections)
  valid_narrow sections none =
      subst (λ (more : List Section). IsValid table style page budget (narrow_by more)) (sym none) valid_none

  pub writable_narrow : (sections : List Section) → sections ≡ [] → 1 ≤ page → page ≤ MAX_PAGE_WIDTH → budget ≤ MAX_BUDGET →
      least ≤ MAX_HEIGHT → HasFewCells table → ChainsAreWritable → IsWritable (narrow_by sections)
  writable_narrow sections none more less cuts small cells law =
      subst (λ (each : List Section). IsWritable (narrow_by each)) (sym none)
      (writable_none more less cuts small cells law)
