use Rattle.tl_problem.proofs.TightLaws.{tight-is_tight}
use Rattle.tl_solve.proofs.looks.take_lower.Goals as goal

pub returns-in_ok-best-clause-tight : goal.returns-in_ok-best-clause-tight
returns-in_ok-best-clause-tight c = tight-is_tight c.args.problem.now c.args.placed.now.widths c.in_ok-best.field-0
    c.in_ok-best.ensures.tight
