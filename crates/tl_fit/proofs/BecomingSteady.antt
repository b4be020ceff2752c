-- Two numbers of columns make the same table of a tree where no unit of the table is of a width between them.
use Rattle.std.proofs.Common.{◌∙◌, ◌⊎◌, ℕ, zero, suc, ◌<◌, ◌≤◌, Option, Some, None, List, [], ◌∷◌, ◌++◌, sym, subst}
use Rattle.std.specs.List.{AllByRecursion}
use Rattle.std.specs.List.Sorted.{IsPermutation}
use Rattle.std.proofs.lemmas.List.Elements.{All-from_recursion, recursion_from_All}
use Rattle.std.proofs.lemmas.List.Sorted.{All-permutation, IsPermutation-sym}
use Rattle.tl_base.specs.declared.breaking.Breaking.TheVariants.{Wider}
use Rattle.tl_base.proofs.Members.{AllByRecursion-prefix, AllByRecursion-suffix}
use Rattle.tl_text.specs.declared.paragraph.Atom.{Atom}
use Rattle.tl_text.specs.Paragraph.{unit_width}
use Rattle.tl_text.specs.Widest.{widest_within}
use Rattle.tl_text.proofs.Steadiness.{broken_above-steady}
use Rattle.tl_text.proofs.WidestLemmas.{widest_within-apart}
use Rattle.tl_tree.specs.declared.node.Block.{Block, out-Block}
use Rattle.tl_tree.specs.declared.node.Block.TheOpen as open_block
use Rattle.tl_tree.specs.declared.node.CellNode.{CellNode, out-CellNode}
use Rattle.tl_tree.specs.declared.node.TableNode.{TableNode, out-TableNode}
use Rattle.tl_table.specs.declared.cell.Content.{Content, out-Content}
use Rattle.tl_table.specs.declared.cell.Content.TheOpen as open_content
use Rattle.tl_table.specs.declared.cell.Table.{Table, out-Table}
use Rattle.tl_table.specs.declared.cell.TableCell.{TableCell, out-TableCell}
use Rattle.tl_table.specs.Formed.{OpenBlock, OpenNode, BecomesContent, BecomeContents, BecomeCells, BecomeCaption}
use Rattle.tl_table.specs.Formed.{Becomes, BecomesBy, BecomesWithin}
use Rattle.tl_table.specs.Tables.{OpenContent}
use Rattle.tl_table.proofs.SoundParts.{each_joined}
use Rattle.tl_fit.specs.Units.{units_in_cell, units_in_content, units_in_table}
use Rattle.tl_fit.proofs.UnitsOpen.{open_units, units_in_cell-out, units_in_content-out, units_in_table-out}

module _ (wide less most : ℕ) (wide_below : wide ≤ less) (some : 0 < less) (below : less ≤ most) where
  -- a unit is at most `wide` columns wide, or wider than `most`
  abbrev IsApart : Atom → Type 0
  IsApart unit = (unit_width unit ≤ wide) ⊎ (most < unit_width unit)

  -- each of these units is apart so
  abbrev AreApart : List Atom → Type 0
  AreApart units = AllByRecursion IsApart units

  -- each unit of the cell is apart so
  abbrev IsApartCell : TableCell → Type 0
  IsApartCell cell = AreApart (units_in_cell cell)

  -- `coarse` says which nested tables a tree becomes with `most`, and `fine` with `less`: the same where their
  -- units are apart
  module _ (coarse fine : TableNode → Table → Type 0)
      (inside : (node : TableNode) (table : Table) → AreApart (units_in_table table) → coarse node table → fine node table) where
    -- a block becomes the same with both numbers
    steady-block : (block : OpenBlock) (content : OpenContent) → AreApart (open_units content) →
        BecomesContent coarse (Wider most) block content → BecomesContent fine (Wider less) block content
    steady-block (open_block.Para atoms) (open_content.Para units) apart becomes =
        becomes ∙ sym (broken_above-steady atoms wide less most
        (All-from_recursion IsApart _ (subst AreApart becomes apart)) wide_below some below)
    steady-block (open_block.Para atoms) (open_content.Table box) apart becomes = absurd becomes
    steady-block (open_block.Table node) (open_content.Para units) apart becomes = absurd becomes
    steady-block (open_block.Table node) (open_content.Table box) apart becomes = inside node.value box.value apart becomes

    -- the blocks of a flow become the same with both numbers
    steady-flow : (flow : List Block) (blocks : List Content) →
        AllByRecursion (λ block. AreApart (units_in_content block)) blocks →
        BecomeContents coarse (Wider most) flow blocks → BecomeContents fine (Wider less) flow blocks
    steady-flow [] [] apart become = tt
    steady-flow [] (content ∷ blocks) apart become = absurd become
    steady-flow (block ∷ flow) [] apart become = absurd become
    steady-flow (block ∷ flow) (content ∷ blocks) apart become = (
      steady-block (out-Block block) (out-Content content) (subst AreApart (units_in_content-out content) apart.0) become.0,
      steady-flow flow blocks apart.1 become.1,
    )

    -- a flow becomes the same blocks of a cell with both numbers
    steady-blocks : (flow : List Block) (cell : TableCell) → IsApartCell cell →
        BecomeContents coarse (Wider most) flow (out-TableCell cell).blocks →
        BecomeContents fine (Wider less) flow (out-TableCell cell).blocks
    steady-blocks flow cell apart become =
        steady-flow flow (out-TableCell cell).blocks
        (each_joined IsApart units_in_content (out-TableCell cell).blocks (subst AreApart (units_in_cell-out cell) apart))
        become

    -- the cells of the rows become the same with both numbers
    steady-cells : (nodes : List CellNode) (cells : List TableCell) → AllByRecursion IsApartCell cells →
        BecomeCells coarse (Wider most) nodes cells → BecomeCells fine (Wider less) nodes cells
    steady-cells [] [] apart become = tt
    steady-cells [] (cell ∷ cells) apart become = absurd become
    steady-cells (node ∷ nodes) [] apart become = absurd become
    steady-cells (node ∷ nodes) (cell ∷ cells) apart become = (
      record {
        kind = become.0.kind;
        least = become.0.least;
        align = become.0.align;
        blocks = steady-blocks (out-CellNode node).flow cell apart.0 become.0.blocks;
      },
      steady-cells nodes cells apart.1 become.1,
    )

    -- a caption becomes the same with both numbers, and none stays none
    steady-caption : (cols : ℕ) (caption : Option (List Block)) (cells : List TableCell) → AllByRecursion IsApartCell cells →
        BecomeCaption coarse (Wider most) cols caption cells → BecomeCaption fine (Wider less) cols caption cells
    steady-caption cols None cells apart become = become
    steady-caption cols (Some flow) [] apart become = absurd become
    steady-caption cols (Some flow) (cell ∷ cells) apart become = (
      record {
        kind = become.0.kind;
        in_head = become.0.in_head;
        place = become.0.place;
        least = become.0.least;
        align = become.0.align;
        blocks = steady-blocks flow cell apart.0 become.0.blocks;
      },
      become.1,
    )

    -- cells whose units are apart are so in any order
    apart-moved : (moved cells : List TableCell) → IsPermutation moved cells → AllByRecursion IsApartCell cells →
        AllByRecursion IsApartCell moved
    apart-moved moved cells same apart =
        recursion_from_All IsApartCell moved
        (All-permutation IsApartCell cells moved (IsPermutation-sym moved cells same)
        (All-from_recursion IsApartCell cells apart))

    -- a table becomes the same with both numbers
    steady-table : (node : OpenNode) (table : Table) → AreApart (units_in_table table) →
        BecomesBy coarse (Wider most) node (out-Table table) → BecomesBy fine (Wider less) node (out-Table table)
    steady-table node table apart becomes = record {
      number = becomes.number;
      grid = becomes.grid;
      has_grid = becomes.has_grid;
      cols = becomes.cols;
      rows = becomes.rows;
      caption = becomes.caption;
      captioned = steady-caption (out-Table table).cols node.caption becomes.caption
          (AllByRecursion-prefix IsApartCell becomes.caption becomes.written each) becomes.captioned;
      written = becomes.written;
      cells = steady-cells _ becomes.written
          (AllByRecursion-suffix IsApartCell becomes.caption becomes.written each) becomes.cells;
      marked = becomes.marked;
      places = becomes.places;
      same = becomes.same;
      in_order = becomes.in_order;
    }
      where
        each : AllByRecursion IsApartCell (becomes.caption ++ becomes.written)
        each = apart-moved (becomes.caption ++ becomes.written) (out-Table table).cells becomes.same
            (each_joined IsApart units_in_cell (out-Table table).cells (subst AreApart (units_in_table-out table) apart))

  -- ---- all depths

  -- a tree of some depth becomes the same table with both numbers
  steady-within : (depth : ℕ) (node : TableNode) (table : Table) → AreApart (units_in_table table) →
      BecomesWithin depth (Wider most) node table → BecomesWithin depth (Wider less) node table
  steady-within zero node table apart becomes = absurd becomes
  steady-within (suc depth) node table apart becomes =
      steady-table (BecomesWithin depth (Wider most)) (BecomesWithin depth (Wider less))
      (λ n t a b. steady-within depth n t a b) (out-TableNode node) table apart becomes

-- a tree becomes the same table with a lesser number of columns, where that is at least the width of each
-- unit of the table that is not wider than the greater number
pub becomes_steady : (node : TableNode) (less most : ℕ) (table : Table) → Becomes (Wider most) node table →
    widest_within most (units_in_table table) ≤ less → 0 < less → less ≤ most → Becomes (Wider less) node table
becomes_steady node less most table becomes wide_below some below = (
  becomes.0,
  steady-within (widest_within most (units_in_table table)) less most wide_below some below becomes.0 node table
      (widest_within-apart most (units_in_table table)) becomes.1,
)
