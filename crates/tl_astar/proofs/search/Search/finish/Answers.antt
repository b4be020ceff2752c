use Rattle.std.proofs.Common.{◌≡◌, ◌+◌, ◌*◌, length, inl, inr, subst, ap, arith}
use Rattle.tl_astar.specs.inner.Lower.{IsProvedUpto}
use Rattle.tl_astar.proofs.LowerLaws.{all-prove, some-bound, shut-closed, best-outcome}
use Rattle.tl_astar.proofs.search.Search.finish.Goals as goal

pub finish_at-requires-clause-ended : goal.finish_at-requires-clause-ended
finish_at-requires-clause-ended c =
    let p = c.args.problem.now in
    let arena = c.args.self.arena in
    let least = c.least_proved-lower.result in
    let all : length c.deref.result.now ≡ 2 * length arena.trace + 1 =
    omega (arith, ap length c.deref.ensures.value, c.in_ok-stands.ensures.count, ap length c.trace.ensures) in
    let proved = subst (λ n. IsProvedUpto p arena.trace arena.best.height n least) all c.least_proved-lower.ensures.proved in
    rw (c.into_arena-arena.ensures, c.least_proved-lower.ensures.same) (λ below. elim c.requires.ended [
      | inl spent ↦ inl spent
      | inr shut ↦ inr (shut-closed p arena.trace arena.best.height least proved c.requires.search.arena.work.sound
          c.requires.search.arena.trace_of
          shut below)
    ])

pub finish_at-requires-clause-standing : goal.finish_at-requires-clause-standing
finish_at-requires-clause-standing c =
    let p = c.args.problem.now in
    let arena = c.args.self.arena in
    let least = c.least_proved-lower.result in
    let all : length c.deref.result.now ≡ 2 * length arena.trace + 1 =
    omega (arith, ap length c.deref.ensures.value, c.in_ok-stands.ensures.count, ap length c.trace.ensures) in
    let proved = subst (λ n. IsProvedUpto p arena.trace arena.best.height n least) all c.least_proved-lower.ensures.proved in
    rw (c.into_arena-arena.ensures, c.least_proved-lower.ensures.same) (all-prove p arena.trace arena.best.height least proved)

pub finish_at-requires-clause-enough : goal.finish_at-requires-clause-enough
finish_at-requires-clause-enough c =
    let p = c.args.problem.now in
    let arena = c.args.self.arena in
    let least = c.least_proved-lower.result in
    let all : length c.deref.result.now ≡ 2 * length arena.trace + 1 =
    omega (arith, ap length c.deref.ensures.value, c.in_ok-stands.ensures.count, ap length c.trace.ensures) in
    let proved = subst (λ n. IsProvedUpto p arena.trace arena.best.height n least) all c.least_proved-lower.ensures.proved in
    rw (c.into_arena-arena.ensures, c.least_proved-lower.ensures.same) (some-bound p arena.trace arena.best.height least proved)

pub returns-clause-besides : goal.returns-clause-besides
returns-clause-besides c =
    let p = c.args.problem.now in
    let arena = c.args.self.arena in
    let is = c.requires.search in
    let least = c.least_proved-lower.result in
    let all : length c.deref.result.now ≡ 2 * length arena.trace + 1 =
    omega (arith, ap length c.deref.ensures.value, c.in_ok-stands.ensures.count, ap length c.trace.ensures) in
    let proved = subst (λ n. IsProvedUpto p arena.trace arena.best.height n least) all c.least_proved-lower.ensures.proved in
    best-outcome p is.arena.work.sound c.args.budget arena is.arena least proved is.order c.requires.shown c.requires.ended
    c.in_ok-found.found
    (rw (c.into_arena-arena.ensures, c.least_proved-lower.ensures.same) at c.in_ok-found.ensures.best)
    (rw (c.into_arena-arena.ensures, c.least_proved-lower.ensures.same) at c.in_ok-found.ensures.trace)
    c.in_ok-found.ensures.lower c.in_ok-found.ensures.lines
