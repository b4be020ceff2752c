-- One constraint more, or none where nothing is left.
use Rattle.std.proofs.Common.{◌≡◌, pos, neg_ℤ, ◌-ℤ◌}
use Rattle.std.proofs.Common.{arith}
use Rattle.std.specs.Int.{w32}
use mir.Val.{to_z, of_z}
use Rattle.std.proofs.lemmas.Int.{ints}
use Rattle.tl_problem.proofs.ZoneLaws.{span-within}
use Rattle.tl_check.proofs.Leaving.{Restricts-none, Restricts-least}
use Rattle.tl_check.proofs.bounds.keep_at_least.Goals as goal

pub bound-requires-clause-begins : goal.bound-requires-clause-begins
bound-requires-clause-begins c =
    let span = span-within c.args.problem.now c.requires.keeps.sound c.args.s c.requires.span in
    rw c.spans.ensures.spans (omega (arith, span.0, span.1, c.requires.keeps.page.variables))

pub bound-requires-clause-ends : goal.bound-requires-clause-ends
bound-requires-clause-ends c =
    let span = span-within c.args.problem.now c.requires.keeps.sound c.args.s c.requires.span in
    rw c.spans.ensures.spans (omega (arith, span.0, span.1, c.requires.keeps.page.variables))

pub returns-then-holds : goal.returns-then-holds
returns-then-holds c =
    let n : to_z w32 (of_z w32 (pos 0 -ℤ to_z w32 (of_z w32 c.args.apart))) ≡ neg_ℤ c.args.apart =
    omega (arith, ints, c.requires.low, c.requires.high) in
    Restricts-least c.args.problem.now c.args.matrix.now c.bound.new.self c.requires.keeps c.bound.ensures.rest c.args.s
    c.requires.span
    c.args.apart (to_z w32 (of_z w32 (pos 0 -ℤ to_z w32 (of_z w32 c.args.apart)))) n
    (rw c.spans.ensures.spans at c.bound.ensures.adds)

pub returns-else-holds : goal.returns-else-holds
returns-else-holds c = Restricts-none c.args.problem.now c.args.matrix.now _ c.requires.keeps (λ some. let yes =
    c.holds.ensures.1 some in cc)
