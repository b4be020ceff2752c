-- One constraint more, or none where nothing is left.
use Rattle.std.proofs.Common.{◌≡◌, ◌+◌, pos, ◌≤ℤ◌}
use Rattle.std.proofs.Common.{subst, arith}
use Rattle.std.specs.Int.{w32}
use mir.Val.{to_z, of_z}
use Rattle.std.proofs.lemmas.Int.{ints}
use Rattle.tl_problem.proofs.ZoneLaws.{span-within}
use Rattle.tl_problem.specs.Zones.{span_width}
use Rattle.tl_check.specs.inner.Matrices.{Restricts}
use Rattle.tl_check.proofs.Leaving.{Restricts-none, Restricts-most}
use Rattle.tl_check.proofs.bounds.keep_at_most.Goals as goal

pub bound-requires-clause-begins : goal.bound-requires-clause-begins
bound-requires-clause-begins c =
    let span = span-within c.args.problem.now c.requires.keeps.sound c.args.s c.requires.span in
    rw c.spans.ensures.spans (omega (arith, span.0, span.1, c.requires.keeps.page.variables))

pub bound-requires-clause-ends : goal.bound-requires-clause-ends
bound-requires-clause-ends c =
    let span = span-within c.args.problem.now c.requires.keeps.sound c.args.s c.requires.span in
    rw c.spans.ensures.spans (omega (arith, span.0, span.1, c.requires.keeps.page.variables))

pub returns-then-holds : goal.returns-then-holds
returns-then-holds c =
    let p = c.args.problem.now in
    let raw = to_z w32 (of_z w32 c.args.apart) in
    let m : raw ≡ c.args.apart = omega (arith, ints, c.requires.low, c.requires.high) in
    subst (λ t. Restricts p c.args.matrix.now c.bound.new.self
    (λ widths. pos (span_width p widths c.args.s + p.spacing.gap) ≤ℤ t)) m
    (Restricts-most p c.args.matrix.now c.bound.new.self c.requires.keeps c.bound.ensures.rest c.args.s c.requires.span raw
    (rw c.spans.ensures.spans at c.bound.ensures.adds))

pub returns-else-holds : goal.returns-else-holds
returns-else-holds c = Restricts-none c.args.problem.now c.args.matrix.now _ c.requires.keeps (λ some. let yes =
    c.holds.ensures.1 some in cc)
