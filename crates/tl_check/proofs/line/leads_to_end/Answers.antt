-- Where the fires lead.
use Rattle.tl_check.proofs.Deciding.{leads-decided}
use Rattle.tl_check.proofs.line.leads_to_end.Goals as goal

pub returns-then-fire_all-clause-good : goal.returns-then-fire_all-clause-good
returns-then-fire_all-clause-good c =
    leads-decided c.args.problem.now c.args.trace.now c.args.log.now c.args.line.now c.args.lower c.fire_all.new.matrix.bounds
    (c.fire_all.ensures.yes c.if-fire_all.true) c.ends.result c.ends.ensures.ends

pub returns-else-fire_all-clause-work_of : goal.returns-else-fire_all-clause-work_of
returns-else-fire_all-clause-work_of c =
    let before = c.requires.page.work_of in
    record {
      sound = before.sound;
      keeps = c.fire_all.ensures.keeps.page;
      start = before.start;
      free = before.free;
      demands = before.demands;
      arcs = before.arcs;
      ends = before.ends;
    }
