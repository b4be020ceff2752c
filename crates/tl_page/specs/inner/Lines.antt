-- How a line is written, unit by unit. No public clause cites this file.
use Rattle.std.specs.Prelude.{ℕ, ◌==◌, if◌then◌else◌, List, slice_range}
use Rattle.tl_text.specs.declared.paragraph.Atom.{Atom}
use Rattle.tl_text.specs.declared.ranges.Line.{Line}
use Rattle.tl_text.specs.Paragraph.{gap_before}

-- the atoms of a line
abbrev pub ranged : List Atom → Line → List Atom
ranged atoms range = slice_range atoms range.first range.past

-- the columns before the unit at this place of a line: none before the first
abbrev pub gap_in_line : ℕ → Atom → ℕ
gap_in_line place unit = if place == 0 then 0 else gap_before unit
