-- Table by table.
use Rattle.std.proofs.Common.{◌∙◌, ◌∷◌, [], length, sym, ap, subst, rules}
use Rattle.tl_table.specs.declared.cell.Content.{out-Content, the_lemmas}
use Rattle.tl_table.specs.declared.cell.Content.TheVariants.{outs-Table}
use Rattle.tl_table.specs.declared.cell.TableCell.{out-TableCell}
use Rattle.tl_table.specs.declared.cell.Table.{out-Table}
use Rattle.tl_table.specs.Tables.{tables_of, tables_in}
use Rattle.tl_table.specs.inner.Numbers.{HavePlaces}
use Rattle.tl_table.proofs.NumberLemmas.{inner_places, item_places, own_place, put_all, put_more, put_own}
use Rattle.tl_table.proofs.numbers.+numbers.Goals as goal

pub put_block-put_table-requires : goal.put_block-put_table-requires
put_block-put_table-requires t c = (
  search (rules, the_lemmas),
  subst (HavePlaces c.args.first (length c.args.places.now))
      (ap tables_of (ap out-Content c.in-Table.is ∙ outs-Table c.in-Table.table) ∙ ap (λ t. t ∷ []) (sym c.deref.ensures))
      c.requires,
)

pub put_cell-put_block-requires : goal.put_cell-put_block-requires
put_cell-put_block-requires t c = (
  search (rules, the_lemmas),
  item_places (λ block. tables_of (out-Content block)) c.as_slice-block-items.result.now (out-TableCell c.args.cell.now).blocks
      c.args.first (length c.args.places.now) (length c.loop-block.places) c.loop-block.block-index c.block-item.result
      c.as_slice-block-items.ensures c.requires c.loop-block.invariant.count c.loop-block-test.true c.block-item.is,
)

pub put_cell-loop-block-preserved : goal.put_cell-loop-block-preserved
put_cell-loop-block-preserved t c =
    put_more (λ block. tables_of (out-Content block)) c.as_slice-block-items.result.now c.args.first c.loop-block.block-index
    c.block-item.result c.args.places.now c.loop-block.places c.put_block.new.places c.loop-block-test.true c.block-item.is
    c.loop-block.invariant c.put_block.ensures

pub put_table-put_cell-requires : goal.put_table-put_cell-requires
put_table-put_cell-requires t c = (
  search (rules, the_lemmas),
  item_places (λ cell. tables_in (out-TableCell cell)) c.as_slice-cell-items.result.now (out-Table c.args.table.now).cells
      c.args.first (length c.args.places.now) (length c.loop-cell.places) c.loop-cell.cell-index c.cell-item.result
      c.as_slice-cell-items.ensures (inner_places c.args.first (length c.args.places.now) c.args.table.now c.requires)
      c.loop-cell.invariant.count c.loop-cell-test.true c.cell-item.is,
)

pub put_table-loop-cell-preserved : goal.put_table-loop-cell-preserved
put_table-loop-cell-preserved t c =
    put_more (λ cell. tables_in (out-TableCell cell)) c.as_slice-cell-items.result.now c.args.first c.loop-cell.cell-index
    c.cell-item.result c.args.places.now c.loop-cell.places c.put_cell.new.places c.loop-cell-test.true c.cell-item.is
    c.loop-cell.invariant c.put_cell.ensures

pub put_table-returns : goal.put_table-returns
put_table-returns t c =
    let own = own_place c.args.first (length c.args.places.now) c.args.table.now c.requires in
    put_own c.args.first c.args.table c.args.places.now c.loop-cell.places own.0 own.1
    (put_all (λ cell. tables_in (out-TableCell cell)) c.as_slice-cell-items.result.now (out-Table c.args.table.now).cells
    c.args.first c.loop-cell.cell-index c.args.places.now c.loop-cell.places c.as_slice-cell-items.ensures (search rules)
    c.loop-cell.invariant)
