-- A table made of its grid, its caption and its cells is what the tree becomes.
use Rattle.std.proofs.Common.{◌≡◌, ◌∙◌, ℕ, ◌+◌, max, List, [], ◌∷◌, ◌++◌, length, map, sum_by, refl, sym, ap, subst}
use Rattle.std.proofs.Common.{length-append, arith}
use Rattle.std.specs.List.{flat_map}
use Rattle.std.specs.List.Sorted.{IsPermutation, IsNonDecreasingBy}
use Rattle.std.proofs.lemmas.List.{take_all, length-map}
use Rattle.std.proofs.lemmas.List.Sorted.{IsPermutation-map, All-permutation}
use Rattle.std.proofs.lemmas.List.Sums.{sum_by-cons}
use Rattle.tl_base.specs.declared.breaking.Breaking.{Breaking}
use Rattle.tl_grid.specs.declared.shape.Grid.{Grid}
use Rattle.tl_grid.specs.declared.shape.Place.{Place}
use Rattle.tl_grid.specs.Dropping.{IsPlaced}
use Rattle.tl_grid.specs.Form.{HasGrid}
use Rattle.tl_grid.specs.Forming.{cells_in}
use Rattle.tl_tree.specs.Outline.{outline}
use Rattle.tl_tree.specs.Sound.{AreSound}
use Rattle.tl_tree.specs.declared.node.CellNode.{CellNode}
use Rattle.tl_tree.specs.declared.node.GroupNode.{GroupNode, out-GroupNode}
use Rattle.tl_tree.specs.declared.node.TableNode.{TableNode, out-TableNode}
use Rattle.tl_table.specs.declared.cell.Table.{Table, out-Table}
use Rattle.tl_table.specs.declared.cell.TableCell.{TableCell}
use Rattle.tl_table.specs.Formed.{OpenNode, Becomes, BecomesBy, BecomeCaption, caption_rows, cells_of_group, cells_written}
use Rattle.tl_table.specs.Formed.{group_shape, lowered, marks_written}
use Rattle.tl_table.specs.Formed.{shape_of, span_of}
use Rattle.tl_table.specs.Sound.{place_of}
use Rattle.tl_table.specs.Formed.{Writes, slot_number}
use Rattle.tl_table.proofs.Becoming.{becomes_by}
use Rattle.tl_table.proofs.Laid.{AreLaid, cells_laid}
use Rattle.tl_table.proofs.Orders.{apart_moved, in_order_by_slots}
use Rattle.tl_table.proofs.Writing.{Writes-length}

-- ---- as many places as cells

as_many_in_rows : (rows : List (List CellNode)) → cells_in (map (map span_of) rows) ≡ length
    (flat_map (λ (row : List CellNode). row) rows)
as_many_in_rows [] = refl
as_many_in_rows (row ∷ rows) = omega (
  arith,
  sum_by-cons length (map span_of row) (map (map span_of) rows),
  as_many_in_rows rows,
  length-map row span_of,
  length-append row (flat_map (λ (each : List CellNode). each) rows),
)

as_many_in_groups : (groups : List GroupNode) → sum_by (λ shape. cells_in shape.rows) (map group_shape groups) ≡
    length (flat_map (λ group. cells_of_group (out-GroupNode group)) groups)
as_many_in_groups [] = refl
as_many_in_groups (group ∷ groups) = omega (
  arith,
  sum_by-cons (λ shape. cells_in shape.rows) (group_shape group) (map group_shape groups),
  as_many_in_groups groups,
  as_many_in_rows (out-GroupNode group).rows,
  length-append (cells_of_group (out-GroupNode group)) (flat_map (λ each. cells_of_group (out-GroupNode each)) groups),
)

pub as_many_cells : (node : OpenNode) (grid : Grid) → HasGrid (shape_of node) grid →
    length (cells_written node) ≡ length grid.places
as_many_cells node grid has = omega (arith, has.places.as_many, as_many_in_groups node.groups)

-- ---- the table

pub made_table : (breaking : Breaking) (node : TableNode) (table : Table) (grid : Grid) (places : List Place)
    (caption written cells sorted : List TableCell)
    (down cols : ℕ) → AreSound (outline node) → HasGrid (shape_of (out-TableNode node)) grid →
    down ≡ caption_rows (out-TableNode node).caption → cols ≡ max grid.cols down →
    BecomeCaption (Becomes breaking) breaking cols (out-TableNode node).caption caption →
    places ≡ map (lowered down) grid.places →
    Writes breaking (cells_written (out-TableNode node)) (marks_written (out-TableNode node)) places [] written →
    cells ≡ caption ++ written → IsPermutation cells sorted → IsNonDecreasingBy slot_number sorted →
    out-Table table ≡ record { number = (out-TableNode node).number; cols = cols; rows = grid.rows + down; cells = sorted } →
    Becomes breaking node table
made_table breaking node table grid places caption written cells sorted down cols sound has downs columns captioned lower writes
    both moved rises made =
    becomes_by breaking node table (subst (BecomesBy (Becomes breaking) breaking open_node) (sym made) (record {
      number = refl;
      grid = grid;
      has_grid = has;
      cols = columns ∙ ap (max grid.cols) downs;
      rows = ap (λ n. grid.rows + n) downs;
      caption = caption;
      captioned = captioned;
      written = writes.more;
      cells = writes.cells;
      marked = writes.marked;
      places = placed;
      same = subst (λ (all : List TableCell). IsPermutation all sorted)
          (both ∙ ap (λ (rest : List TableCell). caption ++ rest) writes.joined) moved;
      in_order = in_order_by_slots (max grid.cols rows) (grid.rows + rows) sorted laid.few_columns
          (All-permutation (IsPlaced (max grid.cols rows) (grid.rows + rows)) (map place_of cells) (map place_of sorted)
          moved_places laid.placed)
          (apart_moved (map place_of cells) (map place_of sorted) moved_places laid.apart) rises;
    }))
  where
    open_node : OpenNode
    open_node = out-TableNode node

    rows : ℕ
    rows = caption_rows (out-TableNode node).caption

    many : length written ≡ length places
    many = let count = as_many_cells open_node grid has in
        omega (
          arith,
          Writes-length breaking (cells_written open_node) places [] written writes,
          ap length lower,
          length-map grid.places (lowered down),
        )

    placed_all : map place_of written ≡ map (lowered rows) grid.places
    placed_all = writes.placed ∙ take_all (length written) places (omega (arith, many)) ∙ lower ∙ ap
        (λ n. map (lowered n) grid.places) downs

    placed : map place_of writes.more ≡ map (lowered rows) grid.places
    placed = ap (map place_of) (sym writes.joined) ∙ placed_all

    laid : AreLaid (max grid.cols rows) (grid.rows + rows) (map place_of cells)
    laid = subst (λ (all : List TableCell). AreLaid (max grid.cols rows) (grid.rows + rows) (map place_of all)) (sym both)
        (cells_laid (Becomes breaking) breaking node grid open_node.caption caption written sound has
        (subst (λ n. BecomeCaption (Becomes breaking) breaking n open_node.caption caption) (columns ∙ ap (max grid.cols) downs)
        captioned) placed_all)

    moved_places : IsPermutation (map place_of cells) (map place_of sorted)
    moved_places = IsPermutation-map place_of cells sorted moved
