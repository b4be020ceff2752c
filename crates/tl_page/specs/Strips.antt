-- A page is cut into strips along each axis. A strip lies in one column (or row) of the grid, or between two
-- neighbouring ones, where a gap or an edge is. Slots are counted from 1: slot 0 and the one past the last lie outside.
--
--   sizes 3, 5, gap 1, edge 1      | 0 | 1 1 1 | . | 2 2 2 2 2 | . |      strips of slots (0 and 1), 1, (1 and 2), 2, (2 and 3)
use Rattle.std.specs.Prelude.{ℕ, zero, suc, ◌+◌, Bool, false, ◌==◌, nat_le, if◌then◌else◌, List, [], ◌∷◌}
use Rattle.tl_base.specs.Sizes.{position}
use Rattle.tl_page.specs.declared.strip.Gaps.{Gaps}
use Rattle.tl_page.specs.declared.strip.Lined.{Lined}
use Rattle.tl_page.specs.declared.strip.Lined.TheVariants.{No, After, From}
use Rattle.tl_page.specs.declared.strip.Strip.{Strip}

-- ---- gaps

-- gaps that are all the same
abbrev pub even : ℕ → Gaps
even between = record { between = between; lined = No }

-- a line of its own stands after the slot
abbrev pub is_lined : Lined → ℕ → Bool
is_lined No slot = false
is_lined (After one) slot = one == slot
is_lined (From first) slot = nat_le first slot

-- the gap between the slot and the next one, and one more for a line after the slot
abbrev pub gap_after : Gaps → ℕ → ℕ
gap_after gaps slot = if is_lined gaps.lined slot then gaps.between + 1 else gaps.between

-- the lines of their own after the first `count` slots
abbrev pub lines_after : Lined → ℕ → ℕ
lines_after lined zero = 0
lines_after lined (suc count) = lines_after lined count + (if is_lined lined (suc count) then 1 else 0)

-- where the slot of this number, counted from 0, begins: after the slots, gaps and lines before it
abbrev pub begin_in : Gaps → List ℕ → ℕ → ℕ
begin_in gaps sizes place = position gaps.between sizes place + lines_after gaps.lined place

-- ---- strips

-- what follows a slot: a gap where another one comes after it, else the edge
abbrev pub following : Gaps → ℕ → ℕ → List ℕ → ℕ
following gaps edge slot [] = edge
following gaps edge slot (size ∷ sizes) = gap_after gaps slot

-- the strips of these sizes, where the first slot has the number `slot` and begins at `from`
abbrev pub strips_from : Gaps → ℕ → ℕ → ℕ → List ℕ → List Strip
strips_from gaps edge slot from [] = []
strips_from gaps edge slot from (size ∷ sizes) =
    record { before = slot; after = slot; from = from; size = size }
    ∷ record { before = slot; after = slot + 1; from = from + size; size = following gaps edge slot sizes }
    ∷ strips_from gaps edge (slot + 1) (from + size + gap_after gaps slot) sizes

-- the strips of a page along one axis, with an edge on both sides; none where there is no slot
abbrev pub strips : Gaps → ℕ → List ℕ → List Strip
strips gaps edge [] = []
strips gaps edge (size ∷ sizes) = record {
  before = 0;
  after = 1;
  from = 0;
  size =
      edge;
} ∷ strips_from gaps edge 1 edge (size ∷ sizes)
