use Rattle.std.proofs.Common.{sym, ap, subst, arith}
use Rattle.tl_grid.specs.declared.shape.Shape.{Shape}
use Rattle.tl_grid.specs.Shapes.{AllSpans}
use Rattle.tl_grid.specs.Forming.{row_count, cell_count}
use Rattle.tl_table.proofs.SoundNodes.{shape_spans, shape_columns, shape_size}
use Rattle.tl_table.proofs.forming.grid_of.Goals as goal

pub form-requires-clause-spans : goal.form-requires-clause-spans
form-requires-clause-spans c = subst (λ (shape : Shape). AllSpans shape.groups) (sym c.in_ok-shape.ensures)
    (shape_spans c.args.node.now c.requires)

pub form-requires-clause-columns : goal.form-requires-clause-columns
form-requires-clause-columns c =
    omega (arith, shape_columns c.args.node.now c.requires, ap (λ (shape : Shape). shape.columns) c.in_ok-shape.ensures)

pub form-requires-clause-rows : goal.form-requires-clause-rows
form-requires-clause-rows c = omega (arith, shape_size c.args.node.now c.requires, ap row_count c.in_ok-shape.ensures)

pub form-requires-clause-cells : goal.form-requires-clause-cells
form-requires-clause-cells c = omega (arith, shape_size c.args.node.now c.requires, ap cell_count c.in_ok-shape.ensures)
