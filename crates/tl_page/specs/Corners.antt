-- What is drawn where four slots meet. Every place of a page lies among four slots: two of them are the same inside a
-- row or a column, and all four inside a cell.
use Rattle.std.specs.Prelude.{ℕ, ◌+◌, ◌&&◌, Bool, true, false, not, nat_lt, nat_le, ◌==◌, List, [], ◌∷◌, Option, Some, None}
use Rattle.std.specs.Prelude.{if◌then◌else◌}
use Rattle.tl_base.specs.declared.style.Style.{Style}
use Rattle.tl_base.specs.declared.style.Style.TheVariants.{Rule, Apart}
use Rattle.tl_grid.specs.declared.shape.Place.{Place}
use Rattle.tl_page.specs.declared.corner.Corner.{Corner}
use Rattle.tl_page.specs.declared.owner.Owner.{Owner}
use Rattle.tl_page.specs.declared.owner.Owner.TheVariants.{Outside, Bare, Cell}
use Rattle.tl_page.specs.declared.strip.Strip.{Strip}
use Rattle.tl_page.specs.Signs.{sign}

-- ---- owners

-- the place has the slot of this column and row, both counted from 1
abbrev pub covers_slot : ℕ → ℕ → Place → Bool
covers_slot column row place =
    (nat_lt place.left column && nat_le column place.right) && (nat_lt place.top row && nat_le row place.bottom)

-- the number of the first place that has the slot, where the first one is `number`
abbrev pub number_over : ℕ → List Place → ℕ → ℕ → Option ℕ
number_over number [] column row = None
number_over number (place ∷ places) column row =
    if covers_slot column row place then Some number else number_over (number + 1) places column row

-- a slot of the grid belongs to the cell over it, or to itself
abbrev pub owned : ℕ → ℕ → Option ℕ → Owner
owned column row (Some number) = Cell number
owned column row None = Bare column row

-- a grid: its columns, its rows, the places of its cells, the last row of its head, counted from 1, if the line under the
-- head is drawn, and the row at which the head ends or, without a head, the caption
pub record Grid : Type 0 where
  pub cols : ℕ
  pub rows : ℕ
  pub places : List Place
  pub head : Option ℕ
  pub end : ℕ

-- slot `slot` is one of `count`, counted from 1
abbrev pub is_inside : ℕ → ℕ → Bool
is_inside count slot = nat_lt 0 slot && nat_le slot count

-- who owns the slot of this column and row
abbrev pub owner_of : Grid → ℕ → ℕ → Owner
owner_of grid column row =
    if is_inside grid.cols column && is_inside grid.rows row
    then owned column row (number_over 0 grid.places column row)
    else Outside

-- both slots have one owner
abbrev pub is_same : Owner → Owner → Bool
is_same Outside Outside = true
is_same (Bare column row) (Bare other_column other_row) = (column == other_column) && (row == other_row)
is_same (Cell number) (Cell other) = number == other
is_same _ _ = false

-- ---- corners

-- the owners of the four slots where a strip of columns crosses a strip of rows
abbrev pub corner_of : (ℕ → ℕ → Owner) → Strip → Strip → Corner
corner_of owner across down = record {
  up_left = owner across.before down.before;
  up_right = owner across.after down.before;
  down_left = owner across.before down.after;
  down_right = owner across.after down.after;
}

-- all four slots belong to one cell, or are one slot
abbrev pub is_one : Corner → Bool
is_one corner =
    (is_same corner.up_left corner.up_right && is_same corner.up_left corner.down_left)
    && is_same corner.up_left corner.down_right

-- the strip of rows is the line under the head, of which this is the last row, counted from 1
abbrev pub is_under : Option ℕ → Strip → Bool
is_under None down = false
is_under (Some row) down = (down.before == row) && nat_lt row down.after

-- the place where the two strips cross is on the line under the head; in styles rule and apart only inside a column, as the
-- gaps stay blank
abbrev pub is_on_line : Style → Option ℕ → Strip → Strip → Bool
is_on_line Rule head across down = is_under head down && (across.before == across.after)
is_on_line Apart head across down = is_under head down && (across.before == across.after)
is_on_line style head across down = is_under head down

-- the sign of a corner, which may be on the line under the head; a side is drawn where the two slots on both its sides differ
abbrev pub corner_sign : Style → Bool → Corner → ℕ
corner_sign style under corner =
    sign style under
    (not (is_same corner.up_left corner.up_right))
    (not (is_same corner.down_left corner.down_right))
    (not (is_same corner.up_left corner.down_left))
    (not (is_same corner.up_right corner.down_right))
