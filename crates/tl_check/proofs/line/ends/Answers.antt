-- By the end.
use Rattle.tl_problem.specs.Works.{AreAllowed}
use Rattle.tl_check.proofs.Deciding.{cycle-decided, area-decided}
use Rattle.tl_check.proofs.line.ends.Goals as goal

pub returns-in-Cycle-clause-ends : goal.returns-in-Cycle-clause-ends
returns-in-Cycle-clause-ends c = rw c.in-Cycle.is (cycle-decided c.args.problem.now c.args.work.now.matrix.bounds
    (record { sound = c.requires.work_of.sound; page = c.requires.work_of.keeps }) c.holds.result c.holds.ensures)

pub returns-in-Area-clause-ends : goal.returns-in-Area-clause-ends
returns-in-Area-clause-ends c =
    let p = c.args.problem.now in
    let decided = area-decided p
    (AreAllowed p c.args.work.now.matrix.bounds) c.args.lower c.held_area.result c.held_area.ensures in
    rw c.in-Area.is (
      λ yes. decided.0 (c.is_at_least-in-Area.ensures.0 yes),
      λ ends. c.is_at_least-in-Area.ensures.1 (decided.1 ends),
    )
