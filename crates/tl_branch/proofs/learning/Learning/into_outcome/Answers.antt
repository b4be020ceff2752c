-- The parts are those of the search.
use Rattle.std.proofs.Common.{◌<◌, List, sym, ap, ◌∙◌, subst}
use Rattle.tl_cert.specs.declared.log.LogLine.{LogLine}
use Rattle.tl_cert.specs.Lines.{IsGoodLog}
use Rattle.tl_cert.specs.Text.{IsLogWritable}
use Rattle.tl_solve.specs.declared.arena.Arena.{Arena}
use Rattle.tl_solve.specs.Ends.{HasBoundUpTo, MayEnd}
use Rattle.tl_branch.proofs.Ends.{log-good, log-writable, learn-outcome}
use Rattle.tl_branch.proofs.learning.Learning.into_outcome.Goals as goal

pub finish_with-requires-clause-ended : goal.finish_with-requires-clause-ended
finish_with-requires-clause-ended c = subst (λ (arena : Arena). c.args.self.height < arena.best.height →
    MayEnd c.args.problem.now arena.trace arena.best.height c.args.self.budget) (sym c.into_parts-arena.ensures.arena)
    c.requires.ended

pub finish_with-requires-clause-enough : goal.finish_with-requires-clause-enough
finish_with-requires-clause-enough c = subst (λ (arena : Arena). c.args.self.height < arena.best.height →
    HasBoundUpTo c.args.problem.now arena.trace c.args.self.height) (sym c.into_parts-arena.ensures.arena) c.requires.enough

pub finish_with-requires-clause-good : goal.finish_with-requires-clause-good
finish_with-requires-clause-good c =
    let l = c.args.self in
    subst (λ (arena : Arena). IsGoodLog c.args.problem.now arena.trace c.into_parts-arena.result.1 l.height)
    (sym c.into_parts-arena.ensures.arena)
    (subst (λ (log : List LogLine). IsGoodLog c.args.problem.now l.arena.trace log l.height) (sym c.into_parts-arena.ensures.log)
    (log-good c.args.problem.now l c.requires.learning c.requires.done))

pub finish_with-requires-clause-writable : goal.finish_with-requires-clause-writable
finish_with-requires-clause-writable c = subst IsLogWritable (sym c.into_parts-arena.ensures.log)
    (log-writable c.args.problem.now c.args.self c.requires.learning)

pub returns-clause-learnt : goal.returns-clause-learnt
returns-clause-learnt c =
    let arena = c.into_parts-arena.ensures.arena in
    learn-outcome c.args.problem.now c.args.self c.requires.learning c.requires.order c.requires.least c.finish_with.result
    (c.finish_with.ensures.best ∙ ap (λ (a : Arena). a.best) arena)
    (c.finish_with.ensures.trace ∙ ap (λ (a : Arena). a.trace) arena)
    (c.finish_with.ensures.log ∙ c.into_parts-arena.ensures.log) c.finish_with.ensures.lower
