use Rattle.tl_solve.proofs.TraceEndLaws.{trace-solved}
use Rattle.tl_solve.proofs.trace_ending.trace_outcome.Goals as goal

pub returns-clause-solved : goal.returns-clause-solved
returns-clause-solved c =
    let found = c.in_ok-lower in
    trace-solved c.args.problem.now c.cells-cells.ensures.sound
    (record { best = c.args.best; lower = found.lower; trace = c.args.trace; log = found.log })
    c.requires.trace_of c.requires.few c.requires.cut_zones found.ensures.least c.requires.tight c.requires.keen
    found.ensures.good found.ensures.writable found.ensures.short
