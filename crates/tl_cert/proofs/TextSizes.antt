-- How many characters the text of a certificate has at most, by the ranges of its numbers: 20 for a cut and 143 for a log line,
-- beside the first two lines of each section, the chains, and what stands before and after them.
use Rattle.std.proofs.Common.{◌≡◌, ◌∙◌, ℕ, zero, suc, ◌+◌, ◌*◌, ◌/◌, ◌%◌, ◌<◌, ◌≤◌, inl, inr, Bool, true, false}
use Rattle.std.proofs.Common.{List, [], ◌∷◌, ◌++◌, length, codes, Option, Some, None, refl, sym, ap, subst, arith}
use Rattle.std.specs.Prelude.{sum_by}
use Rattle.std.specs.List.{AllByRecursion, flat_map}
use Rattle.std.proofs.lemmas.Bool.{cases_lt}
use Rattle.std.proofs.lemmas.List.{length-append}
use Rattle.std.proofs.lemmas.List.Concat.{flat_map-cons}
use Rattle.std.proofs.lemmas.List.Sums.{sum_by-cons}
use Rattle.tl_base.specs.declared.style.Style.{Style}
use Rattle.tl_base.specs.declared.style.Style.TheVariants as styles
use Rattle.tl_base.specs.declared.chain.Chain.{Chain}
use Rattle.tl_base.specs.declared.chain.Entry.{Entry}
use Rattle.tl_base.specs.declared.limits.TheConstants.{MAX_PAGE_WIDTH, MAX_BUDGET, MAX_CELLS}
use Rattle.tl_cert.specs.declared.limits.TheConstants.{MAX_TABLE}
use Rattle.tl_cert.specs.declared.certificate.Certificate.{Certificate}
use Rattle.tl_cert.specs.declared.certificate.Claim.{Claim}
use Rattle.tl_cert.specs.declared.certificate.Claim.TheVariants.{Lowest, Bounded, Narrow}
use Rattle.tl_cert.specs.declared.log.Bound.{Bound}
use Rattle.tl_cert.specs.declared.log.End.{End}
use Rattle.tl_cert.specs.declared.log.End.TheVariants as ends
use Rattle.tl_cert.specs.declared.log.LogLine.{LogLine}
use Rattle.tl_cert.specs.declared.log.Nogood.{Nogood}
use Rattle.tl_cert.specs.declared.log.Nogood.TheVariants as nogoods
use Rattle.tl_cert.specs.declared.section.Section.{Section}
use Rattle.tl_cert.specs.declared.trace.CutAt.{CutAt}
use Rattle.tl_cert.specs.Pieces.{TextPiece, character, number, numeral, spell, field, word, AllWithin}
use Rattle.tl_cert.specs.Text.{space, line_feed, spaced, inner_pieces, entry_pieces, chain_pieces, cut_pieces, bound_pieces}
use Rattle.tl_cert.specs.Text.{bounds_pieces, nogood_pieces, fire_pieces, end_word, line_pieces, section_head, section_pieces}
use Rattle.tl_cert.specs.Text.{has_area, version_word, style_field, claim_pieces, cert_pieces, cert_text, IsNogoodShaped}
use Rattle.tl_cert.specs.Text.{IsLineShaped, IsSectionShaped, HasProof, IsWritable}
use Rattle.tl_cert.proofs.reading.Numerals.{numeral_small, numeral_step}
use Rattle.tl_cert.proofs.reading.Spellings.{within-first, within-second}

-- ---- a piece by its range

one_digit : (n most : ℕ) → n < 10 → length (numeral n) ≤ length (numeral most)
one_digit n most small = elim (cases_lt most 10) [
  | inl also ↦ omega (arith, ap length (numeral_small n small), ap length (numeral_small most also))
  | inr large ↦ omega (
    arith,
    ap length (numeral_small n small),
    ap length (numeral_step most large),
    length-append (numeral (most / 10)) ((48 + most % 10) ∷ []),
  )
]

digits_by : (steps n most : ℕ) → n ≤ steps → n ≤ most → length (numeral n) ≤ length (numeral most)
digits_by zero n most upto less = one_digit n most (omega (arith, upto))
digits_by (suc steps) n most upto less = elim (cases_lt n 10) [
  | inl small ↦ one_digit n most small
  | inr large ↦ omega (
    arith,
    digits_by steps (n / 10) (most / 10) (omega (arith, upto, large)) (omega (arith, less)),
    ap length (numeral_step n large),
    length-append (numeral (n / 10)) ((48 + n % 10) ∷ []),
    ap length (numeral_step most (omega (arith, large, less))),
    length-append (numeral (most / 10)) ((48 + most % 10) ∷ []),
  )
]

-- a number has no more digits than a greater one
digits : (n most : ℕ) → n ≤ most → length (numeral n) ≤ length (numeral most)
digits n most less = digits_by n n most (omega arith) less

-- how many characters a piece within its range has at most
abbrev most_of : TextPiece → ℕ
most_of (character c) = 1
most_of (number low high value) = length (numeral high)

-- and pieces together
abbrev most_in : List TextPiece → ℕ
most_in [] = 0
most_in (piece ∷ pieces) = most_of piece + most_in pieces

size-within : (pieces : List TextPiece) → AllWithin pieces → length (spell pieces) ≤ most_in pieces
size-within [] within = omega arith
size-within (character c ∷ pieces) within = omega (arith, size-within pieces within.1)
size-within (number low high value ∷ pieces) within = omega (
  arith,
  length-append (numeral value) (spell pieces),
  digits value high within.0.1,
  size-within pieces within.1,
)

most-append : (ps qs : List TextPiece) → most_in (ps ++ qs) ≡ most_in ps + most_in qs
most-append [] qs = omega arith
most-append (p ∷ ps) qs = omega (arith, most-append ps qs)

most-word : (text : List ℕ) → most_in (word text) ≡ length text
most-word [] = refl
most-word (c ∷ text) = omega (arith, most-word text)

-- what each item of a list has at most, for each of them
most-each : {X : Type 0} (f : X → List TextPiece) (most : ℕ) (P : X → Type 0) → ((x : X) → P x → most_in (f x) ≤ most) →
    (xs : List X) → AllByRecursion P xs → most_in (flat_map f xs) ≤ most * length xs
most-each f most P each [] all = omega arith
most-each f most P each (x ∷ xs) all =
    let joined = ap most_in (flat_map-cons f x xs) ∙ most-append (f x) (flat_map f xs) in
    let parts : most * length (x ∷ xs) ≡ most + most * length xs = omega arith in
    omega (arith, joined, parts, each x all.0, most-each f most P each xs all.1)

most-all : {X : Type 0} (f : X → List TextPiece) (most : ℕ) → ((x : X) → most_in (f x) ≤ most) → (xs : List X) →
    most_in (flat_map f xs) ≤ most * length xs
most-all f most each [] = omega arith
most-all f most each (x ∷ xs) =
    let joined = ap most_in (flat_map-cons f x xs) ∙ most-append (f x) (flat_map f xs) in
    let parts : most * length (x ∷ xs) ≡ most + most * length xs = omega arith in
    omega (arith, joined, parts, each x, most-all f most each xs)

-- ---- the lines of a section

cut_most : (cut : CutAt) → most_in (cut_pieces cut) ≡ 20
unfolding numeral
cut_most cut = refl

width_most : (width : ℕ) → most_in (spaced MAX_PAGE_WIDTH width) ≡ 4
unfolding numeral
width_most width = refl

bound_most : (bound : Bound) → most_in (bound_pieces bound) ≡ 8
unfolding numeral
bound_most bound = refl

fire_most : (line : ℕ) → most_in (fire_pieces line) ≡ 8
unfolding numeral
fire_most line = refl

zone_most : (zone : ℕ) → most_in (nogood_pieces (nogoods.Zone zone)) ≡ 7
unfolding numeral
zone_most zone = refl

bounds_most : (bounds : List Bound) → most_in (bounds_pieces bounds) ≤ 9 * length bounds
bounds_most [] = omega arith
bounds_most (bound ∷ bounds) = omega (
  arith,
  most-append (bound_pieces bound) (flat_map (λ more. character space ∷ bound_pieces more) bounds),
  bound_most bound,
  most-all (λ more. character space ∷ bound_pieces more) 9 (λ more. omega (arith, bound_most more)) bounds,
)

nogood_most : (nogood : Nogood) → IsNogoodShaped nogood → most_in (nogood_pieces nogood) ≤ 72
nogood_most (nogoods.Zone zone) shaped = omega (arith, zone_most zone)
nogood_most (nogoods.Bounds bounds) shaped = omega (arith, bounds_most bounds, shaped.most)

end_most : (end : End) → length (end_word end) ≤ 6
end_most ends.Fired = omega arith
end_most ends.Cycle = omega arith
end_most ends.Chain = omega arith
end_most ends.Area = omega arith

line_most : (line : LogLine) → IsLineShaped line → most_in (line_pieces line) ≤ 143
line_most line shaped =
    let end = character space ∷ word (end_word line.end) in
    omega (
      arith,
      most-append (nogood_pieces line.nogood) (flat_map fire_pieces line.fires ++ end),
      most-append (flat_map fire_pieces line.fires) end,
      nogood_most line.nogood shaped.nogood,
      most-all fire_pieces 8 (λ one. omega (arith, fire_most one)) line.fires,
      shaped.fires,
      most-word (end_word line.end),
      end_most line.end,
    )

-- ---- a section

head_most : (section : Section) → most_in (section_head section) ≡ 46 + length (numeral (2 * length section.trace + 1))
unfolding numeral
head_most section = omega arith

six_digits : length (numeral 999999) ≡ 6
unfolding numeral
six_digits = refl

-- a number of log lines has at most six digits
lines_digits : (cuts : ℕ) → cuts ≤ MAX_BUDGET → length (numeral (2 * cuts + 1)) ≤ 6
lines_digits cuts few = omega (arith, digits (2 * cuts + 1) 999999 (omega (arith, few)), six_digits)

section_most : (section : Section) → IsSectionShaped section → AllWithin (section_pieces section) →
    most_in (section_pieces section) ≤ 442 + 306 * length section.trace
section_most section shaped all =
    let lines = flat_map line_pieces section.log in
    let from_cuts = flat_map cut_pieces section.trace ++ lines in
    let from_end = word (codes "\n") ++ from_cuts in
    let from_widths = flat_map (spaced MAX_PAGE_WIDTH) section.widths ++ from_end in
    let from_line = word (codes "widths") ++ from_widths in
    -- after `section ` come the table, the width, the height, the lower bound, the cuts and the lines, each with a character
    let cuts = (within-first (section_head section) from_line all).1.1.1.1.1.1.1.1.1.1.1.1.1.1.1.1 in
    omega (
      arith,
      most-append (section_head section) from_line,
      most-append (word (codes "widths")) from_widths,
      most-append (flat_map (spaced MAX_PAGE_WIDTH) section.widths) from_end,
      most-append (word (codes "\n")) from_cuts,
      most-append (flat_map cut_pieces section.trace) lines,
      head_most section,
      lines_digits (length section.trace) cuts.0.1,
      most-all (spaced MAX_PAGE_WIDTH) 4 (λ one. omega (arith, width_most one)) section.widths,
      shaped.widths,
      most-all cut_pieces 20 (λ one. omega (arith, cut_most one)) section.trace,
      most-each line_pieces 143 IsLineShaped line_most section.log shaped.lines,
      cuts.1.1.0.1,
    )

-- the cuts of sections, all together
abbrev pub cuts_in : List Section → ℕ
cuts_in sections = sum_by (λ section. length section.trace) sections

sections_most : (sections : List Section) → AllByRecursion IsSectionShaped sections →
    AllWithin (flat_map section_pieces sections) →
    most_in (flat_map section_pieces sections) ≤ 442 * length sections + 306 * cuts_in sections
sections_most [] shaped all = omega arith
sections_most (section ∷ sections) shaped all =
    let rest = flat_map section_pieces sections in
    let parts = subst AllWithin (flat_map-cons section_pieces section sections) all in
    omega (
      arith,
      ap most_in (flat_map-cons section_pieces section sections) ∙ most-append (section_pieces section) rest,
      sum_by-cons (λ (one : Section). length one.trace) section sections,
      section_most section shaped.0 (within-first (section_pieces section) rest parts),
      sections_most sections shaped.1 (within-second (section_pieces section) rest parts),
    )

-- ---- chains

table_digits : length (numeral MAX_TABLE) ≡ 3
unfolding numeral
table_digits = refl

cell_digits : length (numeral MAX_CELLS) ≡ 5
unfolding numeral
cell_digits = refl

inner_most : (inner : Option ℕ) → most_in (inner_pieces inner) ≤ 4
inner_most None = omega arith
inner_most (Some table) = omega (arith, table_digits)

entry_most : (entry : Entry) → most_in (character space ∷ entry_pieces entry) ≤ 10
entry_most entry = omega (arith, cell_digits, inner_most entry.inner)

chain_most : (chain : Chain) → most_in (chain_pieces chain) ≤ 10 + 10 * length chain.entries
chain_most chain =
    let entries = flat_map (λ entry. character space ∷ entry_pieces entry) chain.entries in
    omega (
      arith,
      table_digits,
      most-append entries (word (codes "\n")),
      most-all (λ entry. character space ∷ entry_pieces entry) 10 entry_most chain.entries,
    )

-- the entries of chains, all together
abbrev pub entries_in : List Chain → ℕ
entries_in chains = sum_by (λ chain. length chain.entries) chains

chains_most : (chains : List Chain) → most_in (flat_map chain_pieces chains) ≤ 10 * length chains + 10 * entries_in chains
chains_most [] = omega arith
chains_most (chain ∷ chains) = omega (
  arith,
  ap most_in (flat_map-cons chain_pieces chain chains) ∙ most-append (chain_pieces chain) (flat_map chain_pieces chains),
  sum_by-cons (λ (one : Chain). length one.entries) chain chains,
  chain_most chain,
  chains_most chains,
)

-- ---- the whole

version_most : (area : Bool) → length (version_word area) ≡ 2
version_most true = refl
version_most false = refl

style_most : (style : Style) → length (style_field style) ≤ 8
style_most styles.Plain = omega arith
style_most styles.Compact = omega arith
style_most styles.Frame = omega arith
style_most styles.Grid = omega arith
style_most styles.Box = omega arith
style_most styles.Rule = omega arith
style_most styles.Apart = omega arith

claim_most : (claim : Claim) → most_in (claim_pieces claim) ≤ 30
unfolding numeral
claim_most (Lowest height) = omega arith
claim_most (Bounded height lower) = omega arith
claim_most (Narrow least) = omega arith

module _ (c : Certificate) where
  abbrev from_sections : List TextPiece
  from_sections = flat_map section_pieces c.sections ++ word (codes "end\n")

  abbrev from_chains : List TextPiece
  from_chains = flat_map chain_pieces c.chains ++ from_sections

  abbrev from_claim : List TextPiece
  from_claim = claim_pieces c.claim ++ from_chains

  abbrev from_budget : List TextPiece
  from_budget = field 0 MAX_BUDGET c.budget line_feed ++ from_claim

  abbrev from_style : List TextPiece
  from_style = word (style_field c.style) ++ from_budget

  abbrev from_width : List TextPiece
  from_width = field 1 MAX_PAGE_WIDTH c.width space ++ from_style

  abbrev from_version : List TextPiece
  from_version = word (version_word (has_area c.sections)) ++ from_width

  sections_within : AllWithin (cert_pieces c) → AllWithin (flat_map section_pieces c.sections)
  sections_within all =
      let versioned = within-second (word (codes "tablelayout ")) from_version all in
      let wide = within-second (word (version_word (has_area c.sections))) from_width versioned in
      let styled = within-second (field 1 MAX_PAGE_WIDTH c.width space) from_style wide in
      let budgeted = within-second (word (style_field c.style)) from_budget styled in
      let claimed = within-second (field 0 MAX_BUDGET c.budget line_feed) from_claim budgeted in
      let body = within-second (claim_pieces c.claim) from_chains claimed in
      within-first (flat_map section_pieces c.sections) (word (codes "end\n"))
      (within-second (flat_map chain_pieces c.chains) from_sections body)

  sections_shaped : (claim : Claim) → HasProof claim c → AllByRecursion IsSectionShaped c.sections
  sections_shaped (Lowest height) has = has.sections
  sections_shaped (Bounded height lower) has = has.sections
  sections_shaped (Narrow least) has = subst (AllByRecursion IsSectionShaped) (sym has.no_section) tt

  width_field : most_in (field 1 MAX_PAGE_WIDTH c.width space) ≡ 4
  unfolding numeral
  width_field = refl

  budget_field : most_in (field 0 MAX_BUDGET c.budget line_feed) ≡ 7
  unfolding numeral
  budget_field = refl

  -- the text is that of the head, the chains and the sections
  pub text-size : IsWritable c → length (cert_text c) ≤ 67 + (10 * length c.chains + 10 * entries_in c.chains)
      + (442 * length c.sections + 306 * cuts_in c.sections)
  text-size written = omega (
    arith,
    size-within (cert_pieces c) written.1,
    most-append (word (codes "tablelayout ")) from_version,
    most-append (word (version_word (has_area c.sections))) from_width,
    most-word (version_word (has_area c.sections)),
    version_most (has_area c.sections),
    most-append (field 1 MAX_PAGE_WIDTH c.width space) from_style,
    width_field,
    most-append (word (style_field c.style)) from_budget,
    most-word (style_field c.style),
    style_most c.style,
    most-append (field 0 MAX_BUDGET c.budget line_feed) from_claim,
    budget_field,
    most-append (claim_pieces c.claim) from_chains,
    claim_most c.claim,
    most-append (flat_map chain_pieces c.chains) from_sections,
    chains_most c.chains,
    most-append (flat_map section_pieces c.sections) (word (codes "end\n")),
    sections_most c.sections (sections_shaped c.claim written.0) (sections_within written.1),
  )
