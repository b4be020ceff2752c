use Rattle.std.proofs.Common.{inl, inr, arith}
use Rattle.tl_solve.proofs.EndLaws.{least-proves}
use Rattle.tl_solve.proofs.arena.Arena.finish.Goals as goal

pub finish_at-requires-clause-standing : goal.finish_at-requires-clause-standing
finish_at-requires-clause-standing c =
    least-proves c.args.problem.now c.args.self.trace c.args.self.bounds.items c.args.self.best.height c.in_ok-lower.lower
    c.requires.arena.bounds
    c.in_ok-lower.ensures

pub finish_at-requires-clause-enough : goal.finish_at-requires-clause-enough
finish_at-requires-clause-enough c = λ less. elim c.in_ok-lower.ensures.attained [
  | inl same ↦ absurd (omega (arith, same, less))
  | inr has ↦ has
]
