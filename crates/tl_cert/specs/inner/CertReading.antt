-- No public clause cites this file. The reading of a certificate's text, part by part.
use Rattle.std.specs.Prelude.{ℕ, suc, ◌+◌, ◌*◌, nat_lt, Bool, true, false, ◌&&◌, ◌||◌, ◌==◌, List, [], ◌∷◌, length, codes, Option}
use Rattle.std.specs.Prelude.{Some, None, if◌then◌else◌}
use Rattle.std.specs.Char.{is_ascii_digit}
use Rattle.tl_base.specs.declared.style.Style.{Style}
use Rattle.tl_base.specs.declared.style.Style.TheVariants.{Plain, Compact, Frame, Grid, Box, Rule, Apart}
use Rattle.tl_base.specs.declared.chain.Entry.{Entry}
use Rattle.tl_base.specs.declared.chain.Chain.{Chain}
use Rattle.tl_cert.specs.declared.trace.CutAt.{CutAt}
use Rattle.tl_cert.specs.declared.log.Side.{Side}
use Rattle.tl_cert.specs.declared.log.Side.TheVariants.{Most, Least}
use Rattle.tl_cert.specs.declared.log.Bound.{Bound}
use Rattle.tl_cert.specs.declared.log.Nogood.TheVariants as nogoods
use Rattle.tl_cert.specs.declared.log.End.{End}
use Rattle.tl_cert.specs.declared.log.End.TheVariants as ends
use Rattle.tl_cert.specs.declared.log.LogLine.{LogLine}
use Rattle.tl_cert.specs.declared.section.Section.{Section}
use Rattle.tl_cert.specs.declared.certificate.Claim.{Claim}
use Rattle.tl_cert.specs.declared.certificate.Claim.TheVariants.{Lowest, Bounded, Narrow}
use Rattle.tl_cert.specs.declared.certificate.Certificate.{Certificate}
use Rattle.tl_base.specs.declared.limits.TheConstants.{MAX_PAGE_WIDTH, MAX_HEIGHT, MAX_BUDGET, MAX_COLUMNS, MAX_CELLS}
use Rattle.tl_cert.specs.declared.limits.TheConstants.{MAX_TABLE, MAX_SECTIONS, MAX_ZONE, MAX_LINE, MAX_SPAN, MAX_CLASS}
use Rattle.tl_cert.specs.declared.limits.TheConstants.{MAX_BOUNDS, MAX_FIRES}
use Rattle.tl_cert.specs.declared.areas.Areas.{Areas}
use Rattle.tl_cert.specs.declared.areas.Areas.TheVariants.{Never, Free, Owed}
use Rattle.tl_cert.specs.inner.Areas.{for_part, after}
use Rattle.tl_cert.specs.inner.reading.Readings.{Answer, got, wrong, Reading, then_read, ◌>>=◌, give, word_at, either}
use Rattle.tl_cert.specs.inner.reading.Numbers.{number_reading, field_at}
use Rattle.tl_cert.specs.inner.reading.Lists.{Turn, halt, go, look, ListReading, Listing, listing, list_at, all_at}
use Rattle.tl_cert.specs.Text.{space, line_feed, side_sign, is_area, log_has_area}

-- ---- the end of a log line

-- `cycle` or `chain`, whose first letter was read
abbrev pub cycle_or_chain_at : Reading End
cycle_or_chain_at = either (λ c. c == 121) (word_at (codes "ycle\n") >>= λ _. give ends.Cycle)
    (word_at (codes "hain\n") >>= λ _. give ends.Chain)

-- `fired`, `cycle` or `chain`: an end that may stand in every version
abbrev pub plain_end_at : Reading End
plain_end_at = either (λ c. c == 102) (word_at (codes "fired\n") >>= λ _. give ends.Fired)
    (word_at (codes "c") >>= λ _. cycle_or_chain_at)

-- the end `area`
abbrev pub area_at : Reading End
area_at = word_at (codes "area\n") >>= λ _. give ends.Area

-- the end of a log line: `area` where that may stand, and only that where it is owed
unfoldable pub end_at : Areas → Reading End
end_at Never = plain_end_at
end_at Free = either (λ c. c == 97) area_at plain_end_at
end_at Owed = area_at

-- ---- the lines that are fired, and the end

-- a line that is fired, and the space after it
unfoldable pub fire_at : Reading ℕ
fire_at = word_at (codes "@") >>= λ _. field_at 0 MAX_LINE space

-- fired lines come as long as a sign `@` does, and the end of the log line stops them
abbrev pub fires_reading : Areas → ListReading (Unit {0}) ℕ ℕ End
fires_reading areas = record {
  turn = λ k s. look (λ c. c == 64);
  item = λ k s. fire_at;
  next = λ s n. s;
  view = λ n. n;
  stop =
      λ s. end_at areas;
}

-- the fired lines, not too many, and the end of the log line
abbrev pub fires_at : Areas → Reading (Listing ℕ End)
fires_at areas = list_at (fires_reading areas) MAX_FIRES tt

-- ---- bounds, in order

-- the side of a bound, by its sign
abbrev pub side_of : ℕ → Side
side_of c = if c == 45 then Most else Least

-- whether a bound of this span may follow the bound before it
abbrev pub may_follow : Option Bound → ℕ → Bool
may_follow None span = true
may_follow (Some before) span = nat_lt before.span span || (before.span == span && side_sign before.side == 45)

-- whether a bound of this span and on this side may follow the bound before it
abbrev pub may_follow_as : Option Bound → ℕ → ℕ → Bool
may_follow_as None span sign = true
may_follow_as (Some before) span sign = nat_lt before.span span ||
    (before.span == span && (side_sign before.side == 45 && sign == 43))

-- whether the character is the sign of a side on which a bound of this span may follow
abbrev pub is_sign : Option Bound → ℕ → ℕ → Bool
is_sign before span c = (c == 45 || c == 43) && may_follow_as before span c

-- a bound that may follow the one before it, and the space after it
unfoldable pub bound_reading : Option Bound → Reading Bound
bound_reading before = number_reading 0 MAX_SPAN (may_follow before) (is_sign before) >>= λ x.
    (field_at 0 MAX_PAGE_WIDTH space >>= λ width. give (record { span = x.0; side = side_of (x.1); width = width }))

-- another bound comes where a digit does; the first one has to come
abbrev pub bounds_turn : Option Bound → Turn
bounds_turn None = go
bounds_turn (Some before) = look is_ascii_digit

-- the state is the bound before; fired lines and the end of the log line stop the bounds
abbrev pub bounds_reading : Areas → ListReading (Option Bound) Bound Bound (Listing ℕ End)
bounds_reading areas = record {
  turn = λ k before. bounds_turn before;
  item = λ k before. bound_reading before;
  next = λ before bound. Some bound;
  view = λ bound. bound;
  stop = λ before. fires_at areas;
}

-- the bounds, not too many, the fired lines, and the end of the log line
abbrev pub bounds_at : Areas → Reading (Listing Bound (Listing ℕ End))
bounds_at areas = list_at (bounds_reading areas) MAX_BOUNDS None

-- ---- log lines

-- a log line whose nogood is a zone
abbrev pub zone_line_at : Areas → Reading LogLine
zone_line_at areas = word_at (codes "z") >>= λ _. (field_at 0 MAX_ZONE space >>= λ zone.
    (fires_at areas >>= λ x. give (record { nogood = nogoods.Zone zone; fires = x.0; end = x.1 })))

-- a log line whose nogood is written out
abbrev pub bounds_line_at : Areas → Reading LogLine
bounds_line_at areas = bounds_at areas >>= λ x. give (record { nogood = nogoods.Bounds (x.0); fires = x.1.0; end = x.1.1 })

-- a log line
unfoldable pub line_at : Areas → Reading LogLine
line_at areas = either (λ c. c == 122) (zone_line_at areas) (bounds_line_at areas)

-- the state is what is asked of the lines that come
abbrev pub lines_reading : ListReading Areas LogLine LogLine (Unit {0})
lines_reading = record {
  turn = λ k areas. go;
  item = λ k areas. line_at (for_part k areas);
  next = λ areas line. after areas (is_area line.end);
  view = λ line. line;
  stop = λ areas. give tt;
}

-- so many log lines
abbrev pub lines_at : ℕ → Areas → Reading (Listing LogLine (Unit {0}))
lines_at count areas = list_at lines_reading count areas

-- ---- cuts

-- a cut, and the line feed after it
unfoldable pub cut_at : Reading CutAt
cut_at = word_at (codes "cut ") >>= λ _. (field_at 0 MAX_ZONE space >>= λ zone. (field_at 0 MAX_SPAN space >>= λ span.
    (field_at 0 MAX_CLASS line_feed >>= λ class. give (record { zone = zone; span = span; class = class }))))

-- cuts come up to their number
abbrev pub cuts_reading : ListReading (Unit {0}) CutAt CutAt (Unit {0})
cuts_reading = record { turn = λ k s. go; item = λ k s. cut_at; next = λ s cut. s; view = λ cut. cut; stop = λ s. give tt }

-- so many cuts
abbrev pub cuts_at : ℕ → Reading (Listing CutAt (Unit {0}))
cuts_at count = list_at cuts_reading count tt

-- ---- widths

-- whether the character ends an item of a line: a line feed does, and a space where another may follow
abbrev pub ends_item : Bool → ℕ → Bool
ends_item more c = c == line_feed || (more && c == space)

-- a width, and whether another follows
unfoldable pub width_at : Bool → Reading (ℕ × Bool)
width_at more = number_reading 0 MAX_PAGE_WIDTH (λ n. true) (λ n c. ends_item more c) >>= λ x. give (x.0, x.1 == space)

-- another item comes where a space ended the one before
abbrev pub more_turn : Bool → Turn
more_turn true = go
more_turn false = halt

-- the state is whether another width follows
abbrev pub widths_reading : ListReading Bool (ℕ × Bool) ℕ (Unit {0})
widths_reading = record {
  turn = λ k more. more_turn more;
  item = λ k more. width_at (nat_lt 0 k);
  next = λ more a. a.1;
  view = λ a. a.0;
  stop =
      λ more. give tt;
}

-- the widths of at least one column
abbrev pub some_widths_at : Reading (Listing ℕ (Unit {0}))
some_widths_at = list_at widths_reading MAX_COLUMNS true

-- the line of the widths, which a table of no columns leaves empty
unfoldable pub widths_at : Reading (Listing ℕ (Unit {0}))
widths_at = word_at (codes "widths") >>= λ _.
    either (λ c. c == space) (word_at (codes " ") >>= λ _. some_widths_at) (word_at (codes "\n") >>= λ _. give (listing [] tt))

-- ---- sections

-- whether there may be so many log lines: at least one where a line with `area` is owed
abbrev pub may_count : Areas → ℕ → Bool
may_count Never n = true
may_count Free n = true
may_count Owed n = nat_lt 0 n

-- how many log lines follow, after so many cuts
unfoldable pub count_at : Areas → ℕ → Reading ℕ
count_at areas cuts = number_reading 1 (2 * cuts + 1) (may_count areas) (λ n c. c == line_feed && may_count areas n) >>= λ x. give
    (x.0)

-- a section
unfoldable pub section_at : Areas → Reading Section
section_at areas =
    word_at (codes "section ") >>= λ _.
    (field_at 0 MAX_TABLE space >>= λ table.
    (field_at 0 MAX_PAGE_WIDTH space >>= λ width.
    (field_at 0 MAX_HEIGHT space >>= λ height.
    (field_at 0 MAX_HEIGHT space >>= λ lower.
    (field_at 0 MAX_BUDGET space >>= λ cuts.
    (count_at areas cuts >>= λ lines.
    (widths_at >>= λ widths.
    (cuts_at cuts >>= λ trace.
    (lines_at lines areas >>= λ log.
    give (record {
      table = table;
      width = width;
      height = height;
      lower = lower;
      widths = widths.0;
      trace = trace.0;
      log =
          log.0;
    }))))))))))

-- whether a section has to come: where none was read, or a line with `area` is owed
abbrev pub sections_turn : Bool → Areas → Turn
sections_turn true areas = go
sections_turn false Never = look (λ c. c == 115)
sections_turn false Free = look (λ c. c == 115)
sections_turn false Owed = go

-- the state is whether no section was read yet, and what is asked of those that come
abbrev pub sections_reading : ListReading (Bool × Areas) Section Section (Unit {0})
sections_reading = record {
  turn = λ k s. sections_turn (s.0) (s.1);
  item = λ k s. section_at (for_part k (s.1));
  next = λ s section. (false, after (s.1) (log_has_area section.log));
  view = λ section. section;
  stop = λ s. word_at (codes "end\n");
}

-- the sections, and the last line of the text
abbrev pub sections_at : Areas → Reading (Listing Section (Unit {0}))
sections_at areas = list_at sections_reading MAX_SECTIONS (true, areas)

-- ---- chains

-- an entry whose cell and the character after it were read, and whether another follows
abbrev pub inner_at : Bool → ℕ → ℕ → Reading (Entry × Bool)
inner_at more cell c =
    if c == 58
    then (number_reading 0 MAX_TABLE (λ n. true) (λ n d. ends_item more d) >>= λ y. give
    (record { cell = cell; inner = Some (y.0) }, y.1 == space))
    else give (record { cell = cell; inner = None }, c == space)

-- an entry, and whether another follows
unfoldable pub entry_at : Bool → Reading (Entry × Bool)
entry_at more = number_reading 0 MAX_CELLS (λ n. true) (λ n c. c == 58 || ends_item more c) >>= λ x. inner_at more (x.0) (x.1)

-- the state is whether another entry follows
abbrev pub entries_reading : ListReading Bool (Entry × Bool) Entry (Unit {0})
entries_reading = record {
  turn = λ k more. more_turn more;
  item = λ k more. entry_at (nat_lt 0 k);
  next = λ more a. a.1;
  view = λ a. a.0;
  stop =
      λ more. give tt;
}

-- the entries of a chain, of which there is at least one
abbrev pub entries_at : Reading (Listing Entry (Unit {0}))
entries_at = all_at entries_reading true

-- a chain
unfoldable pub chain_at : Reading Chain
chain_at = word_at (codes "chain ") >>= λ _. (field_at 0 MAX_TABLE space >>= λ table.
    (entries_at >>= λ x. give (record { table = table; entries = x.0 })))

-- another chain comes where its first letter does; the first one has to come
abbrev pub chains_turn : Bool → Turn
chains_turn true = go
chains_turn false = look (λ c. c == 99)

-- the state is whether no chain was read yet
abbrev pub chains_reading : ListReading Bool Chain Chain (Unit {0})
chains_reading = record {
  turn = λ k first. chains_turn first;
  item = λ k first. chain_at;
  next = λ first chain. false;
  view = λ chain. chain;
  stop =
      λ first. word_at (codes "end\n");
}

-- the chains, and the last line of the text
abbrev pub chains_at : Reading (Listing Chain (Unit {0}))
chains_at = all_at chains_reading true

-- ---- the whole

-- whether the text is of version 2
unfoldable pub version_at : Reading Bool
version_at = either (λ c. c == 50) (word_at (codes "2 ") >>= λ _. give true) (word_at (codes "1 ") >>= λ _. give false)

-- a style that has no lines, and the space after it
unfoldable pub no_lines_at : Reading Style
no_lines_at = either (λ c. c == 99) (word_at (codes "compact ") >>= λ _. give Compact)
    (word_at (codes "plain ") >>= λ _. give Plain)

-- rows that stand apart, or a style that has no lines, and the space after it
unfoldable pub apart_or_none_at : Reading Style
apart_or_none_at = either (λ c. c == 97) (word_at (codes "apart ") >>= λ _. give Apart) no_lines_at

-- a style without a frame, and the space after it
unfoldable pub rule_or_none_at : Reading Style
rule_or_none_at = either (λ c. c == 114) (word_at (codes "rule ") >>= λ _. give Rule) apart_or_none_at

-- a box, or a style without a frame, and the space after it
unfoldable pub box_or_none_at : Reading Style
box_or_none_at = either (λ c. c == 98) (word_at (codes "box ") >>= λ _. give Box) rule_or_none_at

-- a style other than the frame, and the space after it
unfoldable pub no_frame_at : Reading Style
no_frame_at = either (λ c. c == 103) (word_at (codes "grid ") >>= λ _. give Grid) box_or_none_at

-- the style, and the space after it
unfoldable pub style_at : Reading Style
style_at = either (λ c. c == 102) (word_at (codes "frame ") >>= λ _. give Frame) no_frame_at

-- the claim that the height is the least
abbrev pub lowest_at : Reading Claim
lowest_at = word_at (codes "lowest ") >>= λ _. (field_at 0 MAX_HEIGHT line_feed >>= λ height. give (Lowest height))

-- the claim that no layout is lower than a bound below the height
abbrev pub bounded_at : Reading Claim
bounded_at = word_at (codes "bounded ") >>= λ _. (field_at 0 MAX_HEIGHT space >>= λ height.
    (field_at 0 MAX_HEIGHT line_feed >>= λ lower. give (Bounded height lower)))

-- the claim that the page is too narrow
abbrev pub narrow_at : Reading Claim
narrow_at = word_at (codes "narrow ") >>= λ _. (field_at 0 MAX_HEIGHT line_feed >>= λ least. give (Narrow least))

-- no log line, and so none that ends by `area`, stands with `narrow`
abbrev pub other_claim_at : Bool → Reading Claim
other_claim_at true = bounded_at
other_claim_at false = either (λ c. c == 98) bounded_at narrow_at

-- the claim of a certificate
unfoldable pub claim_at : Bool → Reading Claim
claim_at has_area = either (λ c. c == 108) lowest_at (other_claim_at has_area)

-- what a text of this version asks of its log lines: one ends by `area` in version 2, and none in version 1
abbrev pub areas_of : Bool → Areas
areas_of true = Owed
areas_of false = Never

-- what follows the claim: chains with `narrow`, and sections with the other claims
abbrev pub proof_at : Bool → ℕ → Style → ℕ → Claim → Reading Certificate
proof_at has_area width style budget (Lowest height) =
    sections_at (areas_of has_area) >>= λ sections. give
    (record { width = width; style = style; budget = budget; claim = Lowest height; chains = []; sections = sections.0 })
proof_at has_area width style budget (Bounded height lower) =
    sections_at (areas_of has_area) >>= λ sections. give
    (record { width = width; style = style; budget = budget; claim = Bounded height lower; chains = []; sections = sections.0 })
proof_at has_area width style budget (Narrow least) =
    chains_at >>= λ chains. give (record {
      width = width;
      style = style;
      budget = budget;
      claim = Narrow least;
      chains =
          chains.0;
      sections = [];
    })

-- a certificate, with whatever follows its text left over
unfoldable pub certificate_at : Reading Certificate
certificate_at =
    word_at (codes "tablelayout ") >>= λ _.
    (version_at >>= λ has_area.
    (field_at 1 MAX_PAGE_WIDTH space >>= λ width.
    (style_at >>= λ style.
    (field_at 0 MAX_BUDGET line_feed >>= λ budget.
    (claim_at has_area >>= λ claim.
    proof_at has_area width style budget claim)))))

-- nothing follows the last line
abbrev pub ended_by : Certificate → List ℕ → Answer Certificate
ended_by c [] = got c []
ended_by c (b ∷ rest) = wrong (suc (length rest))

-- the whole text
unfoldable pub whole_at : Reading Certificate
whole_at text = then_read (certificate_at text) ended_by
