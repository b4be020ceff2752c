-- The widest of the units that are not too wide.
use Rattle.std.specs.Prelude.{ℕ, List, [], ◌∷◌, max, nat_le, if◌then◌else◌}
use Rattle.tl_text.specs.declared.paragraph.Atom.{Atom}
use Rattle.tl_text.specs.Paragraph.{unit_width}

-- a width that is at most `most`, and else 0
abbrev pub width_up_to : ℕ → ℕ → ℕ
width_up_to most width = if nat_le width most then width else 0

-- the width of the widest of those units that are at most `most` columns wide, and 0 where there is none
abbrev pub widest_within : ℕ → List Atom → ℕ
widest_within most [] = 0
widest_within most (unit ∷ units) = max (width_up_to most (unit_width unit)) (widest_within most units)
