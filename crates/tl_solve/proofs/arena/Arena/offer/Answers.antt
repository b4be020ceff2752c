use Rattle.tl_solve.proofs.ArenaLaws.{arena-better}
use Rattle.tl_solve.proofs.arena.Arena.offer.Goals as goal

pub returns-clause-arena : goal.returns-clause-arena
returns-clause-arena c =
    arena-better c.args.problem.now c.args.self.now c.take_lower.new.best c.requires.arena c.take_lower.ensures.tight
    c.take_lower.ensures.lowered
