use Rattle.tl_table.proofs.Widths.{are_demands, least_of_demands, small_width}
use Rattle.tl_table.proofs.width.width_by.Goals as goal

pub least_total-requires : goal.least_total-requires
least_total-requires c = are_demands c.args.style c.args.table.now c.args.demands.now c.requires.sound c.requires.each
    c.requires.small

pub returns-clause-least : goal.returns-clause-least
returns-clause-least c = least_of_demands c.args.style c.args.table.now c.args.demands.now c.in_ok-width.width c.requires.sound
    c.requires.each
    c.in_ok-width.ensures.least

pub returns-clause-small : goal.returns-clause-small
returns-clause-small c = small_width c.args.style c.args.table.now c.args.demands.now c.in_ok-width.width c.requires.sound
    c.requires.each
    c.requires.small c.in_ok-width.ensures.small c.in_ok-width.ensures.none
