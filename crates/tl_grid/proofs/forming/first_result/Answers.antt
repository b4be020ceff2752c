use Rattle.std.proofs.Common.{◌≤◌, List, replicate, ap, ◌∙◌, inr, arith, rules}
use Rattle.tl_base.specs.declared.limits.TheConstants.{MAX_CELLS}
use Rattle.tl_grid.specs.declared.shape.Place.{Place}
use Rattle.tl_grid.specs.Forming.{cells_in_groups, cell_count}
use Rattle.tl_grid.specs.inner.Places.{begins_in_column, begins_in_row, nowhere, put_places}
use Rattle.tl_grid.proofs.Results.{AreColumns, AreRows, walk_refused, columns_refused, rows_refused, has_grid}
use Rattle.tl_grid.proofs.forming.first_result.Goals as goal

pub returns-in_err-table-clause-err : goal.returns-in_err-table-clause-err
returns-in_err-table-clause-err c =
    let few : cell_count c.args.shape.now ≤ MAX_CELLS =
    omega (arith, c.count_all-count.ensures, ap cells_in_groups c.as_slice-groups.ensures) in
    let groups = c.as_slice-groups.ensures in
    let refused = walk_refused c.args.shape.now c.in_err-table.field-0.0 c.requires.spans few
    (rw groups at c.in_err-table.ensures.table) in
    search (rules, refused)

pub returns-then-len-gt-MAX_COLUMNS-clause-err : goal.returns-then-len-gt-MAX_COLUMNS-clause-err
returns-then-len-gt-MAX_COLUMNS-clause-err c =
    let few : cell_count c.args.shape.now ≤ MAX_CELLS =
    omega (arith, c.count_all-count.ensures, ap cells_in_groups c.as_slice-groups.ensures) in
    let groups = c.as_slice-groups.ensures in
    let columns : AreColumns c.in_ok-table.table.blocks c.in_ok-columns.columns = record {
      rises = c.in_ok-columns.ensures.rises;
      same = λ x. c.in_ok-columns.ensures.same x ∙ ap (λ bs. begins_in_column bs x) c.as_slice-blocks.ensures;
    } in
    inr (columns_refused c.args.shape.now c.in_ok-table.table c.in_ok-columns.columns
    c.len-then-len-gt-MAX_COLUMNS.result c.requires.spans few (rw groups at c.in_ok-table.ensures.table)
    columns c.len-then-len-gt-MAX_COLUMNS.ensures (omega arith))

pub returns-then-len-gt-MAX_ROWS-clause-err : goal.returns-then-len-gt-MAX_ROWS-clause-err
returns-then-len-gt-MAX_ROWS-clause-err c =
    let few : cell_count c.args.shape.now ≤ MAX_CELLS =
    omega (arith, c.count_all-count.ensures, ap cells_in_groups c.as_slice-groups.ensures) in
    let groups = c.as_slice-groups.ensures in
    let columns : AreColumns c.in_ok-table.table.blocks c.in_ok-columns.columns = record {
      rises = c.in_ok-columns.ensures.rises;
      same = λ x. c.in_ok-columns.ensures.same x ∙ ap (λ bs. begins_in_column bs x) c.as_slice-blocks.ensures;
    } in
    let rows : AreRows c.in_ok-table.table.blocks c.in_ok-rows.rows = record {
      rises = c.in_ok-rows.ensures.rises;
      same = λ y. c.in_ok-rows.ensures.same y ∙ ap (λ bs. begins_in_row bs y) c.as_slice-blocks.ensures;
    } in
    inr (rows_refused c.args.shape.now c.in_ok-table.table c.in_ok-columns.columns c.in_ok-rows.rows
    c.len-then-len-gt-MAX_ROWS.result c.requires.spans few (rw groups at c.in_ok-table.ensures.table)
    columns (omega arith) rows c.len-then-len-gt-MAX_ROWS.ensures (omega arith))

pub returns-clause-ok : goal.returns-clause-ok
returns-clause-ok c =
    let few : cell_count c.args.shape.now ≤ MAX_CELLS =
    omega (arith, c.count_all-count.ensures, ap cells_in_groups c.as_slice-groups.ensures) in
    let groups = c.as_slice-groups.ensures in
    let blank : List Place = replicate c.count_all-count.result nowhere in
    let columns : AreColumns c.in_ok-table.table.blocks c.in_ok-columns.columns = record {
      rises = c.in_ok-columns.ensures.rises;
      same = λ x. c.in_ok-columns.ensures.same x ∙ ap (λ bs. begins_in_column bs x) c.as_slice-blocks.ensures;
    } in
    let rows : AreRows c.in_ok-table.table.blocks c.in_ok-rows.rows = record {
      rises = c.in_ok-rows.ensures.rises;
      same = λ y. c.in_ok-rows.ensures.same y ∙ ap (λ bs. begins_in_row bs y) c.as_slice-blocks.ensures;
    } in
    has_grid c.args.shape.now c.in_ok-table.table c.in_ok-columns.columns c.in_ok-rows.rows
    c.len-3.result c.len-4.result c.count_all-count.result c.in_ok-places.places
    c.requires.spans few (rw groups at c.in_ok-table.ensures.table)
    columns (omega arith) rows (omega arith)
    c.len-3.ensures c.len-4.ensures
    (c.count_all-count.ensures ∙ ap cells_in_groups c.as_slice-groups.ensures)
    c.in_ok-places.ensures.count
    (c.in_ok-places.ensures.places
    ∙ ap (λ ks. put_places ks c.as_slice-2.result.now blank c.as_slice-blocks.result.now) c.as_slice.ensures
    ∙ ap (λ ks. put_places c.in_ok-columns.columns ks blank c.as_slice-blocks.result.now) c.as_slice-2.ensures
    ∙ ap (λ bs. put_places c.in_ok-columns.columns c.in_ok-rows.rows blank bs) c.as_slice-blocks.ensures)
