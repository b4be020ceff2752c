use Rattle.tl_solve.proofs.ArenaLaws.{lowered-le}
use Rattle.tl_astar.proofs.SearchLaws.{search-offered}
use Rattle.tl_astar.proofs.search.Search.offer.Goals as goal

pub returns-clause-search : goal.returns-clause-search
returns-clause-search c =
    search-offered c.args.problem.now c.args.self.now c.offer.new.self c.requires.search c.offer.ensures.arena
    c.offer.ensures.trace
    (lowered-le c.args.self.now.arena.best c.offer.new.self.best c.offer.ensures.lowered)
