use Rattle.std.proofs.Common.{◌<◌, ◌-◌, ◌^◌, arith}
use Rattle.tl_cert.proofs.WorkedLaws.{worked-lower}
use Rattle.tl_solve.proofs.ArenaLaws.{arena-keen}
use Rattle.tl_solve.proofs.EndLaws.{arena-worked}
use Rattle.tl_solve.proofs.FewSpans.{trace-writable}
use Rattle.tl_solve.proofs.arena.Arena.finish_with.Goals as goal

pub returns-clause-solved : goal.returns-clause-solved
returns-clause-solved c =
    let p = c.args.problem.now in
    let arena = c.args.self in
    let is = c.requires.arena in
    let sound = is.work.sound in
    let small : c.args.budget < 2 ^ 64 - 1 = omega (arith, c.requires.budget) in
    let worked = arena-worked p arena is c.args.lower c.args.budget c.requires.within c.requires.ordered c.requires.enough
    c.requires.ended in
    rw (c.into_parts-best.ensures.best, c.into_parts-best.ensures.trace) (record {
      tight = is.tight;
      good = c.requires.good;
      ordered = c.requires.ordered;
      closed = λ same enough.
          worked-lower p sound arena.trace arena.best.height c.args.lower c.args.budget same enough small worked;
      worked = worked;
      keen = arena-keen p sound arena is;
      trace_writable = trace-writable p sound arena.trace is.trace_of is.few;
      log_writable = c.requires.writable;
      short = c.requires.short;
    })
