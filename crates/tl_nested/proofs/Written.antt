-- A section within its ranges can be written.
use Rattle.std.proofs.Common.{ℕ, ◌+◌, ◌*◌, ◌<◌, ◌≤◌, List, [], ◌∷◌, ◌++◌, length, codes, sym, subst, arith}
use Rattle.std.specs.List.{AllByRecursion, flat_map}
use Rattle.std.proofs.lemmas.List.Concat.{flat_map-cons}
use Rattle.tl_base.specs.declared.limits.TheConstants.{MAX_BUDGET, MAX_COLUMNS, MAX_HEIGHT, MAX_PAGE_WIDTH}
use Rattle.tl_cert.specs.declared.limits.TheConstants.{MAX_TABLE}
use Rattle.tl_cert.specs.declared.section.Section.{Section}
use Rattle.tl_cert.specs.Pieces.{field, word, AllWithin}
use Rattle.tl_cert.specs.Text.{space, line_feed, spaced, cut_pieces, line_pieces, section_head, IsLogWritable, IsTraceWritable}
use Rattle.tl_cert.specs.Text.{IsSectionWritable}
use Rattle.tl_cert.proofs.reading.Spellings.{within-append}
use Rattle.tl_cert.proofs.reading.Words.{within-word}

fields : (low high value end : ℕ) → low ≤ value → value ≤ high → AllWithin (field low high value end)
fields low high value end more less = ((more, less), (tt, tt))

-- widths within those of pages can be written
pub spaced_within : (widths : List ℕ) → AllByRecursion (λ w. w ≤ MAX_PAGE_WIDTH) widths →
    AllWithin (flat_map (spaced MAX_PAGE_WIDTH) widths)
spaced_within [] all = tt
spaced_within (w ∷ widths) all = subst AllWithin (sym (flat_map-cons (spaced MAX_PAGE_WIDTH) w widths))
    (within-append (spaced MAX_PAGE_WIDTH w) (flat_map (spaced MAX_PAGE_WIDTH) widths) (tt, ((omega arith, all.0), tt))
    (spaced_within widths all.1))

-- the numbers of a section are in their ranges
pub record IsInRange (section : Section) : Type 0 where
  pub table : section.table ≤ MAX_TABLE
  pub width : section.width ≤ MAX_PAGE_WIDTH
  pub height : section.height ≤ MAX_HEIGHT
  pub lower : section.lower ≤ MAX_HEIGHT
  pub some : 0 < length section.log
  pub short : length section.log ≤ 2 * length section.trace + 1
  pub columns : length section.widths ≤ MAX_COLUMNS
  pub widths : AllByRecursion (λ w. w ≤ MAX_PAGE_WIDTH) section.widths
  pub trace : IsTraceWritable section.trace
  pub log : IsLogWritable section.log

head : (section : Section) → IsInRange section → AllWithin (section_head section)
head section is =
    let cuts = length section.trace in
    let lines = field 1 (2 * cuts + 1) (length section.log) line_feed in
    let from_cuts = field 0 MAX_BUDGET cuts space ++ lines in
    let from_lower = field 0 MAX_HEIGHT section.lower space ++ from_cuts in
    let from_height = field 0 MAX_HEIGHT section.height space ++ from_lower in
    let from_width = field 0 MAX_PAGE_WIDTH section.width space ++ from_height in
    let from_table = field 0 MAX_TABLE section.table space ++ from_width in
    within-append (word (codes "section ")) from_table (within-word (codes "section "))
    (within-append (field 0 MAX_TABLE section.table space) from_width
    (fields 0 MAX_TABLE section.table space (omega arith) is.table)
    (within-append (field 0 MAX_PAGE_WIDTH section.width space) from_height
    (fields 0 MAX_PAGE_WIDTH section.width space (omega arith) is.width)
    (within-append (field 0 MAX_HEIGHT section.height space) from_lower
    (fields 0 MAX_HEIGHT section.height space (omega arith) is.height)
    (within-append (field 0 MAX_HEIGHT section.lower space) from_cuts
    (fields 0 MAX_HEIGHT section.lower space (omega arith) is.lower)
    (within-append (field 0 MAX_BUDGET cuts space) lines (fields 0 MAX_BUDGET cuts space (omega arith) is.trace.0)
    (fields 1 (2 * cuts + 1) (length section.log) line_feed (omega (arith, is.some)) is.short))))))

pub written : (section : Section) → IsInRange section → IsSectionWritable section
written section is =
    let lines = flat_map line_pieces section.log in
    let from_cuts = flat_map cut_pieces section.trace ++ lines in
    let from_end = word (codes "\n") ++ from_cuts in
    let from_widths = flat_map (spaced MAX_PAGE_WIDTH) section.widths ++ from_end in
    let from_line = word (codes "widths") ++ from_widths in (
      record { widths = is.columns; lines = is.log.0 },
      within-append (section_head section) from_line (head section is)
          (within-append (word (codes "widths")) from_widths (within-word (codes "widths"))
          (within-append (flat_map (spaced MAX_PAGE_WIDTH) section.widths) from_end (spaced_within section.widths is.widths)
          (within-append (word (codes "\n")) from_cuts (within-word (codes "\n"))
          (within-append (flat_map cut_pieces section.trace) lines is.trace.1 is.log.1)))),
    )
