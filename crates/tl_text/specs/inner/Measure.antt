-- No public clause cites this file: it says what breaking sees of a paragraph, widths and gaps, and
-- how lines are filled with them from the left.
use Rattle.std.specs.Prelude.{ℕ, ◌+◌, Bool, true, false, not, nat_le, if◌then◌else◌, List, [], ◌∷◌, Option, Some, None}
use Rattle.tl_text.specs.declared.paragraph.Atom.{Atom}
use Rattle.tl_text.specs.declared.paragraph.Atom.TheVariants as atoms
use Rattle.tl_text.specs.declared.measure.Measure.{Measure}
use Rattle.tl_text.specs.declared.measure.Measure.TheVariants.{Columns, Break}
use Rattle.tl_text.specs.Words.{width_of}

-- what breaking sees of an atom
abbrev pub measure_of : Atom → Measure
measure_of (atoms.Word text) = Columns (width_of text) 1
measure_of (atoms.Glue text) = Columns (width_of text) 0
measure_of atoms.Break = Break

-- the columns of a unit; a break takes none
abbrev pub unit_columns : Measure → ℕ
unit_columns (Columns width gap) = width
unit_columns Break = 0

-- how many lines end from here on, where a line of so many columns is open, or none
abbrev pub lines_after : ℕ → Option ℕ → List Measure → ℕ
lines_after w None [] = 0
lines_after w (Some used) [] = 1
lines_after w line (Break ∷ measures) = 1 + lines_after w None measures
lines_after w None (Columns width gap ∷ measures) = lines_after w (Some width) measures
lines_after w (Some used) (Columns width gap ∷ measures) =
    if nat_le (used + gap + width) w
    then lines_after w (Some (used + gap + width)) measures
    else 1 + lines_after w (Some width) measures

-- how wide the open line is once one more atom comes, if a unit stands on it
abbrev pub next_line : ℕ → Option ℕ → Measure → Option ℕ
next_line w line Break = None
next_line w None (Columns width gap) = Some width
next_line w (Some used) (Columns width gap) =
    if nat_le (used + gap + width) w then Some (used + gap + width) else Some width

-- a line ends with this break, or before this unit
abbrev pub ends_line : ℕ → Option ℕ → Measure → Bool
ends_line w line Break = true
ends_line w None (Columns width gap) = false
ends_line w (Some used) (Columns width gap) = not (nat_le (used + gap + width) w)
