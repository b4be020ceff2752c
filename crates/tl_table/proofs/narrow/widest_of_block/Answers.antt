use Rattle.std.proofs.Common.{◌∙◌, sym, ap}
use Rattle.tl_table.specs.declared.cell.Content.{out-Content}
use Rattle.tl_table.specs.declared.cell.Content.TheVariants.{outs-Para}
use Rattle.tl_table.specs.Chains.{widest_in}
use Rattle.tl_table.proofs.OwnWidths.{widest_unit-is}
use Rattle.tl_table.proofs.narrow.widest_of_block.Goals as goal

pub returns-in-Para : goal.returns-in-Para
returns-in-Para c = widest_unit-is c.in-Para.paragraph c.least_width.result c.least_width.ensures.holds
    c.least_width.ensures.least ∙
    sym (ap widest_in (ap out-Content c.in-Para.is ∙ outs-Para c.in-Para.paragraph))
