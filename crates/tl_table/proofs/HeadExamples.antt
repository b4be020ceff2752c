-- Where heads end, on tables that are drawn and counted by hand: `h` is a header cell, `t` a cell of a `thead` that is none, and
-- `d` any other; a cell over two rows stands in both.
use Rattle.std.proofs.Common.{◌≡◌, ℕ, ◌+◌, ◌-◌, Bool, true, false, nat_lt, if◌then◌else◌, is_some, Some, None, List, [], ◌∷◌}
use Rattle.std.proofs.Common.{map, refl, sym, ap₂, subst}
use Rattle.tl_base.specs.declared.style.Style.TheVariants.{Rule, Apart}
use Rattle.tl_table.specs.declared.cell.Kind.{Kind}
use Rattle.tl_table.specs.declared.cell.Kind.TheVariants as kinds
use Rattle.tl_table.specs.Heads.{caption_rows_of, head_end_of, head_row_of}
use Rattle.tl_table.specs.declared.cell.TableCell.{out-TableCell, roll-TableCell, out-roll-TableCell}
use Rattle.tl_table.specs.Layouts.{lines_inside, lines_of}
use Rattle.tl_table.specs.Tables.{OpenCell, OpenTable}

-- a cell of one column from a row on, over so many rows
abbrev at : Kind → Bool → ℕ → ℕ → ℕ → OpenCell
at kind in_head left top bottom = record {
  kind = kind;
  in_head = in_head;
  place = record { left = left; right = left + 1; top = top; bottom = bottom };
  least = 0;
  align = None;
  blocks = [];
}

abbrev h : ℕ → ℕ → ℕ → OpenCell
h left top bottom = at kinds.Head false left top bottom

abbrev t : ℕ → ℕ → ℕ → OpenCell
t left top bottom = at kinds.Plain true left top bottom

abbrev d : ℕ → ℕ → ℕ → OpenCell
d left top bottom = at kinds.Plain false left top bottom

abbrev caption : OpenCell
caption = at kinds.Caption false 0 0 1

-- ---- without a head

--   row 0  | d | d |
no_head : head_end_of (d 0 0 1 ∷ d 1 0 1 ∷ []) 1 ≡ 0
no_head = refl

--   row 0  | caption
--   row 1  | d |
below_the_caption : head_end_of (caption ∷ d 0 1 2 ∷ []) 2 ≡ 1
below_the_caption = refl

caption_takes_a_row : caption_rows_of (caption ∷ d 0 1 2 ∷ []) ≡ 1
caption_takes_a_row = refl

no_caption : caption_rows_of (d 0 0 1 ∷ []) ≡ 0
no_caption = refl

-- ---- a head of `thead` groups

--   row 0  | t | t |
--   row 1  | t | d |   the first row below the `thead` has a plain cell, beside one that is of another `thead`
thead_row : head_end_of (t 0 0 1 ∷ t 1 0 1 ∷ t 0 1 2 ∷ d 1 1 2 ∷ []) 2 ≡ 1
thead_row = refl

--   row 0  | t |   of one `thead`
--   row 1  | t |   of the next
--   row 2  | d |
two_theads : head_end_of (t 0 0 1 ∷ t 0 1 2 ∷ d 0 2 3 ∷ []) 3 ≡ 2
two_theads = refl

--   row 0  | t |
--   row 1  | h |   a header cell below the `thead` is not of the head
thead_before_headers : head_end_of (t 0 0 1 ∷ h 0 1 2 ∷ []) 2 ≡ 1
thead_before_headers = refl

--   row 0  | h |   a `thead` that is not first makes no head, so that header cells do
--   row 1  | t |
late_thead : head_end_of (h 0 0 1 ∷ t 0 1 2 ∷ []) 2 ≡ 1
late_thead = refl

--   row 0  | caption
--   row 1  | t |
--   row 2  | d |
captioned_thead : head_end_of (caption ∷ t 0 1 2 ∷ d 0 2 3 ∷ []) 3 ≡ 2
captioned_thead = refl

-- ---- a head of header cells

--   row 0  | h | h |
--   row 1  | h | d |   a row with a plain cell is not of the head
header_row : head_end_of (h 0 0 1 ∷ h 1 0 1 ∷ h 0 1 2 ∷ d 1 1 2 ∷ []) 2 ≡ 1
header_row = refl

--   row 0  | h |
--   row 1  | d |
--   row 2  | h |   a header row after the first plain row is not of the head
later_header_row : head_end_of (h 0 0 1 ∷ d 0 1 2 ∷ h 0 2 3 ∷ []) 3 ≡ 1
later_header_row = refl

--   row 0  | caption
--   row 1  | h | h |
--   row 2  | h | h |   the left cell covers both rows
--   row 3  | d | d |
over_two_rows : head_end_of (caption ∷ h 0 1 3 ∷ h 1 1 2 ∷ h 1 2 3 ∷ d 0 3 4 ∷ d 1 3 4 ∷ []) 4 ≡ 3
over_two_rows = refl

--   row 0  | h | h |
--   row 1  | h | d |   the left cell covers both rows, so row 0 is not of the head
reaching_below : head_end_of (h 0 0 2 ∷ h 1 0 1 ∷ d 1 1 2 ∷ []) 2 ≡ 0
reaching_below = refl

--   row 0  | h | h |
--   row 1  | h | h |
--   row 2  | h | d |   the left cell covers rows 1 and 2, so row 0 alone is the head
reaching_from_the_second : head_end_of (h 0 0 1 ∷ h 1 0 1 ∷ h 0 1 3 ∷ h 1 1 2 ∷ d 1 2 3 ∷ []) 3 ≡ 1
reaching_from_the_second = refl

--   row 0  | h |
--   row 1  | h |   a table of header cells alone is all head
all_header : head_end_of (h 0 0 1 ∷ h 0 1 2 ∷ []) 2 ≡ 2
all_header = refl

-- ---- the last row of the head, where a line may be drawn under it

under_header_cells : head_row_of (h 0 0 1 ∷ d 0 1 2 ∷ []) 2 ≡ Some 1
under_header_cells = refl

--   row 0  | caption
--   row 1  | h |
--   row 2  | d |
under_a_head_below_the_caption : head_row_of (caption ∷ h 0 1 2 ∷ d 0 2 3 ∷ []) 3 ≡ Some 2
under_a_head_below_the_caption = refl

under_no_caption : head_row_of (caption ∷ d 0 1 2 ∷ []) 2 ≡ None
under_no_caption = refl

-- nothing stands below the header cells
under_nothing : head_row_of (caption ∷ h 0 1 2 ∷ []) 2 ≡ None
under_nothing = refl

-- ---- the lines beside the rows

-- a table of so many rows with these cells
abbrev table_of : ℕ → List OpenCell → OpenTable
table_of rows cells = record { number = 0; cols = 1; rows = rows; cells = map roll-TableCell cells }

opened : (cells : List OpenCell) → map out-TableCell (map roll-TableCell cells) ≡ cells
opened [] = refl
opened (cell ∷ cells) = ap₂ (λ first rest. first ∷ rest) (out-roll-TableCell cell) (opened cells)

--   row 0  | h |
--             -      in styles rule and apart
--   row 1  | d |
--                    in style apart
--   row 2  | d |
abbrev headed : List OpenCell
headed = h 0 0 1 ∷ d 0 1 2 ∷ d 0 2 3 ∷ []

-- the lines beside three rows with these cells
abbrev ruled : List OpenCell → ℕ
ruled cells = if is_some (head_row_of cells 3) then 1 else 0

abbrev parted : List OpenCell → ℕ
parted cells = ruled cells + (3 - head_end_of cells 3 - 1)

one_line : lines_of Rule (table_of 3 headed) ≡ 1
one_line = subst (λ cells. ruled cells ≡ 1) (sym (opened headed)) refl

two_lines : lines_of Apart (table_of 3 headed) ≡ 2
two_lines = subst (λ cells. parted cells ≡ 2) (sym (opened headed)) refl

--   row 0  | caption
--   row 1  | d |
--                    in style apart
--   row 2  | d |
abbrev captioned : List OpenCell
captioned = caption ∷ d 0 1 2 ∷ d 0 2 3 ∷ []

no_line : lines_of Rule (table_of 3 captioned) ≡ 0
no_line = subst (λ cells. ruled cells ≡ 0) (sym (opened captioned)) refl

below_the_caption_alone : lines_of Apart (table_of 3 captioned) ≡ 1
below_the_caption_alone = subst (λ cells. parted cells ≡ 1) (sym (opened captioned)) refl

-- a cell over both rows below the head has the line between them
abbrev inside : List OpenCell → ℕ
inside cells = if nat_lt 1 (head_end_of cells 3) then 0 else 3 - 1 - 1

inside_two_rows : lines_inside Apart (table_of 3 headed) (record { left = 0; right = 1; top = 1; bottom = 3 }) ≡ 1
inside_two_rows = subst (λ cells. inside cells ≡ 1) (sym (opened headed)) refl
