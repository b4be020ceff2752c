-- Problems of drawn tables, counted by hand: a line under the head, an empty line between rows, and one cell with a floor of 2,
-- in it the paragraph `a` above a nested table, which needs 2 lines from 3 columns on and 1 from 5.
--
--   at 4   |a   |     at 5   |a    |
--          |b   |            |b c  |
--          |c   |
use Rattle.std.proofs.Common.{◌≡◌, ◌∙◌, ℕ, ◌+◌, ◌-◌, ◌≤◌, nat_lt, false, if◌then◌else◌, List, [], ◌∷◌, map, Some, None, IsSomeAnd, is_some}
use Rattle.std.proofs.Common.{refl, sym, ap, subst, arith}
use Rattle.std.specs.List.{AllZip}
use Rattle.std.specs.declared.alloc.Global.{Global}
use Rattle.std.specs.declared.boxed.Box.{Box}
use Rattle.tl_base.specs.declared.spacing.Spacing.{Spacing}
use Rattle.tl_base.specs.declared.steps.Config.{Config}
use Rattle.tl_base.specs.declared.style.Style.TheVariants.{Compact, Rule, Apart}
use Rattle.tl_base.specs.Sizes.{total}
use Rattle.tl_base.specs.Steps.{height_at}
use Rattle.tl_problem.specs.Problem.{ProblemModel, total_height}
use Rattle.tl_text.specs.declared.paragraph.Atom.{Atom}
use Rattle.tl_table.specs.declared.cell.Content.{Content, out-Content, roll-Content, out-roll-Content}
use Rattle.tl_table.specs.declared.cell.Content.TheOpen as open_content
use Rattle.tl_table.specs.declared.cell.Kind.{Kind}
use Rattle.tl_table.specs.declared.cell.Kind.TheVariants as kinds
use Rattle.tl_table.specs.declared.cell.Table.{Table, out-Table}
use Rattle.tl_table.specs.declared.cell.TableCell.{out-TableCell, roll-TableCell, out-roll-TableCell}
use Rattle.tl_table.specs.Heads.{head_end_of, head_row_of}
use Rattle.tl_table.specs.Layouts.{lines_inside, lines_of}
use Rattle.tl_form.specs.declared.heights.InnerSteps.{InnerSteps}
use Rattle.tl_table.specs.Tables.{OpenCell, OpenTable}
use Rattle.tl_form.specs.Problems.{BlockNeeds, CellNeeds, InnerNeeds, IsProblemBy, steps_for}

abbrev step : ℕ → ℕ → Config
step width height = record { width = width; height = height }

-- the steps of table 1, and others that come first for table 2
abbrev one : InnerSteps
one = record { table = 1; low = step 3 2 ∷ step 5 1 ∷ []; high = step 3 4 ∷ [] }

abbrev other : InnerSteps
other = record { table = 2; low = step 1 9 ∷ []; high = step 1 9 ∷ [] }

abbrev inner : List InnerSteps
inner = other ∷ one ∷ []

-- the first steps with the number count
first_with_number : steps_for (one ∷ record { table = 1; low = step 1 1 ∷ []; high = step 1 1 ∷ [] } ∷ []) 1 ≡ Some one
first_with_number = refl

of_table_1 : steps_for inner 1 ≡ Some one
of_table_1 = refl

none_of_table_3 : steps_for inner 3 ≡ None
none_of_table_3 = refl

-- a table of this number needs what its steps say
abbrev numbered : OpenTable
numbered = record { number = 1; cols = 1; rows = 1; cells = [] }

module _ (nested : Table) (is : (out-Table nested).number ≡ 1) where
  needs : (w h : ℕ) → height_at one.low w ≡ Some h → InnerNeeds (λ any. any.low) inner nested w h
  needs w h at = subst (λ n. IsSomeAnd (steps_for inner n) (λ any. height_at any.low w ≡ Some h)) (sym is) at

  only : (w h : ℕ) → InnerNeeds (λ any. any.low) inner nested w h → height_at one.low w ≡ Some h
  only w h need = subst (λ n. IsSomeAnd (steps_for inner n) (λ any. height_at any.low w ≡ Some h)) is need

  -- at 4 columns it needs 2 lines by `low`, at 5 one; at 2 it has no height
  two_at_4 : InnerNeeds (λ any. any.low) inner nested 4 2
  two_at_4 = needs 4 2 refl

  one_at_5 : InnerNeeds (λ any. any.low) inner nested 5 1
  one_at_5 = needs 5 1 refl

  none_at_2 : (h : ℕ) → InnerNeeds (λ any. any.low) inner nested 2 h → ⊥
  none_at_2 h need = let at = only 2 h need in absurd cc

-- ---- the cell: what it needs is the sum, and none below its floor, or where the nested table has no height

-- a paragraph that needs one line at each width from 1 on, for any account of nested tables
module _ (paragraph : List Atom) (box : Box Table Global) (is : (out-Table box.value).number ≡ 1)
    (one_line : (needs : Table → ℕ → ℕ → Type 0) (w : ℕ) → 1 ≤ w → BlockNeeds needs (open_content.Para paragraph) w 1) where
  abbrev blocks : List Content
  blocks = roll-Content (open_content.Para paragraph) ∷ roll-Content (open_content.Table box) ∷ []

  abbrev cell : ℕ → OpenCell
  cell floor = record {
    kind = kinds.Plain;
    in_head = false;
    place = record { left = 0; right = 1; top = 0; bottom = 1 };
    least = floor;
    align = None;
    blocks =
        blocks;
  }

  abbrev lows : Table → ℕ → ℕ → Type 0
  lows = InnerNeeds (λ any. any.low) inner

  -- at 4 columns its blocks need 1 and 2 lines
  at_4 : AllZip (λ block height. BlockNeeds lows (out-Content block) 4 height) blocks (1 ∷ 2 ∷ [])
  at_4 = (
    subst (λ block. BlockNeeds lows block 4 1) (sym (out-roll-Content (open_content.Para paragraph)))
        (one_line lows 4 (omega arith)),
    (subst (λ block. BlockNeeds lows block 4 2) (sym (out-roll-Content (open_content.Table box))) (two_at_4 box.value is), tt),
  )

  three_at_4 : CellNeeds lows 0 (cell 2) 4 3
  three_at_4 = record { floor = omega arith; heights = 1 ∷ 2 ∷ []; blocks = at_4; all = refl }

  -- over two rows with a line between them it needs two lines of them
  --
  --   row 0   |a   |
  --           |b   |   the line between the rows
  --   row 1   |c   |
  two_of_its_rows : CellNeeds lows 1 (cell 2) 4 2
  two_of_its_rows = record { floor = omega arith; heights = 1 ∷ 2 ∷ []; blocks = at_4; all = refl }

  -- over rows with three lines between them, or with more, it needs no line of them
  none_of_its_rows : CellNeeds lows 3 (cell 2) 4 0
  none_of_its_rows = record { floor = omega arith; heights = 1 ∷ 2 ∷ []; blocks = at_4; all = refl }

  nor_with_more_between : CellNeeds lows 4 (cell 2) 4 0
  nor_with_more_between = record { floor = omega arith; heights = 1 ∷ 2 ∷ []; blocks = at_4; all = refl }

  -- below its floor it needs nothing that there is
  none_below_floor : (h : ℕ) → CellNeeds lows 0 (cell 6) 5 h → ⊥
  none_below_floor h need = omega (arith, need.floor)

  -- nor at 2 columns, where the nested table has no height
  none_at_2_columns : (h : ℕ) → CellNeeds lows 0 (cell 2) 2 h → ⊥
  none_at_2_columns h need = by_heights need.heights need.blocks
    where
      by_heights : (heights : List ℕ) → AllZip (λ block height. BlockNeeds lows (out-Content block) 2 height) blocks heights → ⊥
      by_heights [] those = absurd those
      by_heights (first ∷ []) those = absurd those.1
      by_heights (first ∷ second ∷ heights) those =
          none_at_2 box.value is second
          (subst (λ block. BlockNeeds lows block 2 second) (out-roll-Content (open_content.Table box)) those.1.0)

-- ---- the line under the head counts in each height

--   row 0  | h |   a header cell      in style rule   |h|     in compact   |h|
--   row 1  | d |   a plain cell                       |-|                  |d|
--                                                     |d|
abbrev in_row : Kind → ℕ → OpenCell
in_row kind row = record {
  kind = kind;
  in_head = false;
  place = record { left = 0; right = 1; top = row; bottom = row + 1 };
  least = 0;
  align = None;
  blocks = [];
}

-- a table of one column and two rows of these kinds
abbrev two_rows : Kind → Kind → OpenTable
two_rows first second = record {
  number = 0;
  cols = 1;
  rows = 2;
  cells = roll-TableCell (in_row first 0) ∷ roll-TableCell (in_row second 1) ∷ [];
}

two_cells : (first second : Kind) →
    map out-TableCell (two_rows first second).cells ≡ in_row first 0 ∷ in_row second 1 ∷ []
two_cells first second =
    let above = out-roll-TableCell (in_row first 0) in
    let below = out-roll-TableCell (in_row second 1) in
    λ i. above i ∷ below i ∷ []

-- the lines beside its rows in style rule, by its open cells
lines_by_cells : (first second : Kind) →
    lines_of Rule (two_rows first second) ≡ (if is_some (head_row_of (in_row first 0 ∷ in_row second 1 ∷ []) 2) then 1 else 0)
lines_by_cells first second =
    ap (λ (cells : List OpenCell). if is_some (head_row_of cells 2) then 1 else 0) (two_cells first second)

module _ (lows highs : Table → ℕ → ℕ → Type 0) (page : ℕ) (problem : ProblemModel) where
  line_in_rule : IsProblemBy lows highs Rule page (two_rows kinds.Head kinds.Plain) problem → problem.spacing.lines ≡ 1
  line_in_rule of = ap (λ (s : Spacing). s.lines) of.spaced ∙ lines_by_cells kinds.Head kinds.Plain

  no_line_in_compact : IsProblemBy lows highs Compact page (two_rows kinds.Head kinds.Plain) problem → problem.spacing.lines ≡ 0
  no_line_in_compact of = ap (λ (s : Spacing). s.lines) of.spaced

  -- two rows of a line each are three lines high in style rule, and two in compact
  three_in_rule : IsProblemBy lows highs Rule page (two_rows kinds.Head kinds.Plain) problem →
      total_height problem (1 ∷ 1 ∷ []) ≡ 3
  three_in_rule of =
      ap (λ (s : Spacing). total s.row_gap s.lines (1 ∷ 1 ∷ [])) of.spaced
      ∙ ap (λ lines. total 0 lines (1 ∷ 1 ∷ [])) (lines_by_cells kinds.Head kinds.Plain)

  two_in_compact : IsProblemBy lows highs Compact page (two_rows kinds.Head kinds.Plain) problem →
      total_height problem (1 ∷ 1 ∷ []) ≡ 2
  two_in_compact of = ap (λ (s : Spacing). total s.row_gap s.lines (1 ∷ 1 ∷ [])) of.spaced

  -- a table without a head has no line under it, nor has one that is all head
  no_line_without_a_head : IsProblemBy lows highs Rule page (two_rows kinds.Plain kinds.Plain) problem → problem.spacing.lines ≡ 0
  no_line_without_a_head of = ap (λ (s : Spacing). s.lines) of.spaced ∙ lines_by_cells kinds.Plain kinds.Plain

  no_line_under_all : IsProblemBy lows highs Rule page (two_rows kinds.Head kinds.Head) problem → problem.spacing.lines ≡ 0
  no_line_under_all of = ap (λ (s : Spacing). s.lines) of.spaced ∙ lines_by_cells kinds.Head kinds.Head

-- ---- in style apart an empty line lies between any two rows below the head

--   row 0  | a |   plain cells      in style apart   |a|     in compact   |a|
--   row 1  | b |                                     | |                  |b|
--                                                    |b|
module _ (first second : Kind) where
  abbrev opened : List OpenCell
  opened = in_row first 0 ∷ in_row second 1 ∷ []

  -- the lines beside its rows, and those inside a place that has both, by its open cells
  apart_by_cells : lines_of Apart (two_rows first second)
      ≡ (if is_some (head_row_of opened 2) then 1 else 0) + (2 - head_end_of opened 2 - 1)
  apart_by_cells =
      ap (λ (cells : List OpenCell). (if is_some (head_row_of cells 2) then 1 else 0) + (2 - head_end_of cells 2 - 1))
      (two_cells first second)

  inside_by_cells : lines_inside Apart (two_rows first second) (record { left = 0; right = 1; top = 0; bottom = 2 })
      ≡ (if nat_lt 0 (head_end_of opened 2) then 0 else 1)
  inside_by_cells = ap (λ (cells : List OpenCell). if nat_lt 0 (head_end_of cells 2) then 0 else 1) (two_cells first second)

one_between_rows : lines_of Apart (two_rows kinds.Plain kinds.Plain) ≡ 1
one_between_rows = apart_by_cells kinds.Plain kinds.Plain

-- under the head lies one, and no other where one row is below; a table that is all head has none
one_under_the_head : lines_of Apart (two_rows kinds.Head kinds.Plain) ≡ 1
one_under_the_head = apart_by_cells kinds.Head kinds.Plain

none_in_the_head : lines_of Apart (two_rows kinds.Head kinds.Head) ≡ 0
none_in_the_head = apart_by_cells kinds.Head kinds.Head

-- a cell over both rows has the line between them inside, and none in the head
one_inside : lines_inside Apart (two_rows kinds.Plain kinds.Plain) (record { left = 0; right = 1; top = 0; bottom = 2 }) ≡ 1
one_inside = inside_by_cells kinds.Plain kinds.Plain

none_inside_the_head : lines_inside Apart (two_rows kinds.Head kinds.Head) (record { left = 0; right = 1; top = 0; bottom = 2 }) ≡ 0
none_inside_the_head = inside_by_cells kinds.Head kinds.Head

-- two rows of a line each are three lines high
three_in_apart : (lows highs : Table → ℕ → ℕ → Type 0) (page : ℕ) (problem : ProblemModel) →
    IsProblemBy lows highs Apart page (two_rows kinds.Plain kinds.Plain) problem → total_height problem (1 ∷ 1 ∷ []) ≡ 3
three_in_apart lows highs page problem of =
    ap (λ (s : Spacing). total s.row_gap s.lines (1 ∷ 1 ∷ [])) of.spaced
    ∙ ap (λ lines. total 0 lines (1 ∷ 1 ∷ [])) one_between_rows
