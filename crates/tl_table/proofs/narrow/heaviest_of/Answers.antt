use Rattle.tl_table.proofs.Widths.{are_demands, least_of_demands}
use Rattle.tl_table.proofs.narrow.heaviest_of.Goals as goal

pub heaviest_chain-requires-clause-demands : goal.heaviest_chain-requires-clause-demands
heaviest_chain-requires-clause-demands c = are_demands c.args.style c.args.table.now c.args.demands.now c.requires.sound
    c.requires.each
    c.requires.small

pub returns-clause-least : goal.returns-clause-least
returns-clause-least c = least_of_demands c.args.style c.args.table.now c.args.demands.now c.in_ok-chain.chain.weight
    c.requires.sound
    c.requires.each c.in_ok-chain.ensures.least
