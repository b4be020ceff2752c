-- The text of a certificate, line by line, and the ranges of its numbers. Lines end with a line feed, parts are separated by
-- one space, numbers are canonical decimals. Each number stands here with its range.
use Rattle.std.specs.Prelude.{ℕ, ◌+◌, ◌*◌, ◌≤◌, ◌≡◌, Bool, true, false, nat_lt, ◌==◌, ◌&&◌}
use Rattle.std.specs.Prelude.{◌||◌, IsTrue, List, [], ◌∷◌, ◌++◌, length, codes, Option, Some, None}
use Rattle.std.specs.List.{flat_map, list_any, AllByRecursion}
use Rattle.tl_base.specs.declared.style.Style.{Style}
use Rattle.tl_base.specs.Style.{style_word}
use Rattle.tl_base.specs.declared.chain.Entry.{Entry}
use Rattle.tl_base.specs.declared.chain.Chain.{Chain}
use Rattle.tl_cert.specs.declared.trace.CutAt.{CutAt}
use Rattle.tl_cert.specs.declared.log.Side.{Side}
use Rattle.tl_cert.specs.declared.log.Side.TheVariants.{Most, Least}
use Rattle.tl_cert.specs.declared.log.Bound.{Bound}
use Rattle.tl_cert.specs.declared.log.Nogood.{Nogood}
use Rattle.tl_cert.specs.declared.log.Nogood.TheVariants as nogoods
use Rattle.tl_cert.specs.declared.log.End.{End}
use Rattle.tl_cert.specs.declared.log.End.TheVariants as ends
use Rattle.tl_cert.specs.declared.log.LogLine.{LogLine}
use Rattle.tl_cert.specs.declared.section.Section.{Section}
use Rattle.tl_cert.specs.declared.certificate.Claim.{Claim}
use Rattle.tl_cert.specs.declared.certificate.Claim.TheVariants.{Lowest, Bounded, Narrow}
use Rattle.tl_cert.specs.declared.certificate.Certificate.{Certificate}
use Rattle.tl_base.specs.declared.limits.TheConstants.{MAX_PAGE_WIDTH, MAX_HEIGHT, MAX_BUDGET, MAX_COLUMNS, MAX_CELLS}
use Rattle.tl_cert.specs.declared.limits.TheConstants.{MAX_TABLE, MAX_SECTIONS, MAX_ZONE, MAX_LINE, MAX_SPAN, MAX_CLASS}
use Rattle.tl_cert.specs.declared.limits.TheConstants.{MAX_BOUNDS, MAX_FIRES}
use Rattle.tl_cert.specs.Pieces.{TextPiece, character, number, field, word, spell, AllWithin}

-- the character between two numbers or words of a line
abbrev pub space : ℕ
space = 32

-- the character that ends a line
abbrev pub line_feed : ℕ
line_feed = 10

-- a number after a space
abbrev pub spaced : ℕ → ℕ → List TextPiece
spaced high value = character space ∷ number 0 high value ∷ []

-- ---- chains

-- nothing, or `:T` where the chain of the nested table T gives the width
abbrev pub inner_pieces : Option ℕ → List TextPiece
inner_pieces None = []
inner_pieces (Some table) = character 58 ∷ number 0 MAX_TABLE table ∷ []

-- `C`, the number of a cell, or `C:T` where the chain of the table T that is nested in it gives the width
abbrev pub entry_pieces : Entry → List TextPiece
entry_pieces entry = number 0 MAX_CELLS entry.cell ∷ inner_pieces entry.inner

-- `chain T E E E`: a table and the entries of its chain
abbrev pub chain_pieces : Chain → List TextPiece
chain_pieces chain =
    word (codes "chain ")
    ++ (number 0 MAX_TABLE chain.table
    ∷ (flat_map (λ entry. character space ∷ entry_pieces entry) chain.entries ++ word (codes "\n")))

-- ---- the lines of a section

-- `cut Z S K`: the zone, the span, and the last class of the lower part
abbrev pub cut_pieces : CutAt → List TextPiece
cut_pieces cut = word (codes "cut ") ++ (field 0 MAX_ZONE cut.zone space ++
    (field 0 MAX_SPAN cut.span space ++ field 0 MAX_CLASS cut.class line_feed))

-- `-` for "at most", `+` for "at least"
abbrev pub side_sign : Side → ℕ
side_sign Most = 45
side_sign Least = 43

-- `S-V` or `S+V`: the room of the span S is at most, or at least, V
abbrev pub bound_pieces : Bound → List TextPiece
bound_pieces bound = field 0 MAX_SPAN bound.span (side_sign bound.side) ++ (number 0 MAX_PAGE_WIDTH bound.width ∷ [])

-- bounds separated by a space
abbrev pub bounds_pieces : List Bound → List TextPiece
bounds_pieces [] = []
bounds_pieces (bound ∷ bounds) = bound_pieces bound ++ flat_map (λ more. character space ∷ bound_pieces more) bounds

-- `zZ` for the bounds of the zone Z, or bounds that are written out
abbrev pub nogood_pieces : Nogood → List TextPiece
nogood_pieces (nogoods.Zone zone) = character 122 ∷ number 0 MAX_ZONE zone ∷ []
nogood_pieces (nogoods.Bounds bounds) = bounds_pieces bounds

-- ` @k`: the earlier log line k is fired
abbrev pub fire_pieces : ℕ → List TextPiece
fire_pieces line = word (codes " @") ++ (number 0 MAX_LINE line ∷ [])

-- the word by which a log line ends: the fired lines prove it, or a cycle, a chain or the area bound does
abbrev pub end_word : End → List ℕ
end_word ends.Fired = codes "fired\n"
end_word ends.Cycle = codes "cycle\n"
end_word ends.Chain = codes "chain\n"
end_word ends.Area = codes "area\n"

-- a nogood, the lines that are fired, and the end
abbrev pub line_pieces : LogLine → List TextPiece
line_pieces line = nogood_pieces line.nogood ++ (flat_map fire_pieces line.fires ++ (character space ∷ word (end_word line.end)))

-- `section T W H L C N`: the table, the width, the height, the lower bound, and how many cuts and log lines follow
abbrev pub section_head : Section → List TextPiece
section_head section =
    let cuts = length section.trace in
    word (codes "section ")
    ++ (field 0 MAX_TABLE section.table space
    ++ (field 0 MAX_PAGE_WIDTH section.width space
    ++ (field 0 MAX_HEIGHT section.height space
    ++ (field 0 MAX_HEIGHT section.lower space
    ++ (field 0 MAX_BUDGET cuts space
    ++ field 1 (2 * cuts + 1) (length section.log) line_feed)))))

-- a section: its first line, the line of the widths, the cuts and the log lines
abbrev pub section_pieces : Section → List TextPiece
section_pieces section =
    section_head section
    ++ (word (codes "widths")
    ++ (flat_map (spaced MAX_PAGE_WIDTH) section.widths
    ++ (word (codes "\n")
    ++ (flat_map cut_pieces section.trace
    ++ flat_map line_pieces section.log))))

-- ---- the whole

-- whether a log line with this end is proved by the area bound
abbrev pub is_area : End → Bool
is_area ends.Area = true
is_area ends.Fired = false
is_area ends.Cycle = false
is_area ends.Chain = false

-- whether a line of the log ends by `area`
abbrev pub log_has_area : List LogLine → Bool
log_has_area = list_any (λ line. is_area line.end)

-- whether a log line of some section ends by `area`
abbrev pub has_area : List Section → Bool
has_area = list_any (λ section. log_has_area section.log)

-- the version of the text: `2` where a log line ends by `area`, and `1` where none does
abbrev pub version_word : Bool → List ℕ
version_word true = codes "2 "
version_word false = codes "1 "

-- the style by its name
abbrev pub style_field : Style → List ℕ
style_field style = style_word style ++ codes " "

-- `lowest H`, `bounded H L` or `narrow L`
abbrev pub claim_pieces : Claim → List TextPiece
claim_pieces (Lowest height) = word (codes "lowest ") ++ field 0 MAX_HEIGHT height line_feed
claim_pieces (Bounded height lower) = word (codes "bounded ") ++
    (field 0 MAX_HEIGHT height space ++ field 0 MAX_HEIGHT lower line_feed)
claim_pieces (Narrow least) = word (codes "narrow ") ++ field 0 MAX_HEIGHT least line_feed

-- `tablelayout V WIDTH STYLE BUDGET`, the claim, the chains or the sections, and `end`
abbrev pub cert_pieces : Certificate → List TextPiece
cert_pieces c =
    word (codes "tablelayout ")
    ++ (word (version_word (has_area c.sections))
    ++ (field 1 MAX_PAGE_WIDTH c.width space
    ++ (word (style_field c.style)
    ++ (field 0 MAX_BUDGET c.budget line_feed
    ++ (claim_pieces c.claim
    ++ (flat_map chain_pieces c.chains
    ++ (flat_map section_pieces c.sections
    ++ word (codes "end\n"))))))))

-- The characters of a certificate's text.
abbrev pub cert_text : Certificate → List ℕ
cert_text c = spell (cert_pieces c)

-- ---- how many parts there may be

-- whether one bound may stand before the other: bounds come by span, "at most" before "at least", each at most once
abbrev pub comes_before : Bound → Bound → Bool
comes_before first second =
    nat_lt first.span second.span || (first.span == second.span && (side_sign first.side == 45 && side_sign second.side == 43))

-- each bound may stand before the next one
abbrev pub AreInOrder : List Bound → Type 0
AreInOrder [] = Unit {0}
AreInOrder (first ∷ []) = Unit {0}
AreInOrder (first ∷ second ∷ bounds) = IsTrue (comes_before first second) × AreInOrder (second ∷ bounds)

-- bounds that may be written out
pub record AreBounds (bounds : List Bound) : Type 0 where
  pub some : 1 ≤ length bounds
  pub most : length bounds ≤ MAX_BOUNDS
  pub ordered : AreInOrder bounds

-- a nogood that is a zone, or bounds that may be written out
abbrev pub IsNogoodShaped : Nogood → Type 0
IsNogoodShaped (nogoods.Zone zone) = Unit {0}
IsNogoodShaped (nogoods.Bounds bounds) = AreBounds bounds

-- a log line whose nogood may be written out, and which fires not too many lines
pub record IsLineShaped (line : LogLine) : Type 0 where
  pub nogood : IsNogoodShaped line.nogood
  pub fires : length line.fires ≤ MAX_FIRES

-- a section of not too many columns, whose log lines may be written out
pub record IsSectionShaped (section : Section) : Type 0 where
  pub widths : length section.widths ≤ MAX_COLUMNS
  pub lines : AllByRecursion IsLineShaped section.log

-- the certificate has chains, each with an entry, and no section
pub record HasChains (c : Certificate) : Type 0 where
  pub some : 1 ≤ length c.chains
  pub entries : AllByRecursion (λ (chain : Chain). 1 ≤ length chain.entries) c.chains
  pub no_section : c.sections ≡ []

-- the certificate has sections that may be written, not too many of them, and no chain
pub record HasSections (c : Certificate) : Type 0 where
  pub some : 1 ≤ length c.sections
  pub most : length c.sections ≤ MAX_SECTIONS
  pub sections : AllByRecursion IsSectionShaped c.sections
  pub no_chain : c.chains ≡ []

-- the claim says that the page is too narrow
abbrev pub IsNarrow : Claim → Type 0
IsNarrow (Lowest height) = ⊥
IsNarrow (Bounded height lower) = ⊥
IsNarrow (Narrow least) = Unit {0}

-- chains with `narrow` and sections with the other claims
abbrev pub HasProof : Claim → Certificate → Type 0
HasProof (Lowest height) = HasSections
HasProof (Bounded height lower) = HasSections
HasProof (Narrow least) = HasChains

-- A certificate, with the ranges of its numbers left aside.
abbrev pub IsShaped : Certificate → Type 0
IsShaped c = HasProof c.claim c

-- ---- within the ranges

-- cuts that have a text: not too many, and each number within its range
abbrev pub IsTraceWritable : List CutAt → Type 0
IsTraceWritable trace = (length trace ≤ MAX_BUDGET) × AllWithin (flat_map cut_pieces trace)

-- log lines that have a text: each number and list is within its range
abbrev pub IsLogWritable : List LogLine → Type 0
IsLogWritable log = AllByRecursion IsLineShaped log × AllWithin (flat_map line_pieces log)

-- a section that has a text: each number and list is within its range
abbrev pub IsSectionWritable : Section → Type 0
IsSectionWritable section = IsSectionShaped section × AllWithin (section_pieces section)

-- a chain that has a text: it has an entry, and each number is within its range
abbrev pub IsChainWritable : Chain → Type 0
IsChainWritable chain = (1 ≤ length chain.entries) × AllWithin (chain_pieces chain)

-- A certificate that has a text: every number and list is within its range.
abbrev pub IsWritable : Certificate → Type 0
IsWritable c = IsShaped c × AllWithin (cert_pieces c)

-- No two certificates have one text, and no text is a proper prefix of another, the ranges left aside.
abbrev pub TextsAreApart : Type 0
TextsAreApart = (c d : Certificate) (t u : List ℕ) → IsShaped c → IsShaped d → cert_text c ++ t ≡ cert_text d ++ u →
    (c ≡ d) × (t ≡ u)
