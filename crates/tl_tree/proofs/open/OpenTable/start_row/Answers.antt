use Rattle.std.proofs.Common.{sym, ◌∙◌}
use Rattle.tl_tree.specs.inner.Machine.{group_of}
use Rattle.tl_tree.specs.inner.Reading.{machine_place}
use Rattle.tl_tree.proofs.Readings.{none_of}
use Rattle.tl_tree.proofs.Adds.{loose_row_moves}
use Rattle.tl_tree.proofs.open.OpenTable.start_row.Goals as goal

pub returns-clause-ok : goal.returns-clause-ok
returns-clause-ok c =
    let none = none_of (group_of (machine_place c.args.self)) (sym c.has_group.ensures ∙ c.if-has_group.false) in
    loose_row_moves c.args.self c.in_ok-table.table c.new-group.result c.new-cells-2.result none c.in_ok-table.ensures
    c.new-group.ensures.so_far c.new-group.ensures.part c.new-cells-2.ensures
