-- The distance of the edges of the span decides, by the side of the bound.
use Rattle.tl_base.specs.declared.spacing.Spacing.{Spacing}
use Rattle.std.proofs.Common.{◌≡◌, ◌+◌, pos, neg_ℤ, ◌-ℤ◌}
use Rattle.std.proofs.Common.{refl, ap, arith}
use Rattle.std.specs.Int.{w32}
use mir.Val.{to_z, of_z}
use Rattle.std.proofs.lemmas.Int.{ints}
use Rattle.tl_problem.specs.Works.{places}
use Rattle.tl_problem.proofs.ZoneLaws.{span-within}
use Rattle.tl_check.proofs.Sides.{decided-most, decided-least}
use Rattle.tl_check.proofs.bounds.is_implied.Goals as goal

pub returns-then-not-holds : goal.returns-then-not-holds
returns-then-not-holds c = (
  λ yes widths left. let some = c.holds.ensures.1 (places c.args.problem.now widths, left.satisfies) in absurd cc,
  λ all. refl,
)

pub is_near-requires-clause-begins : goal.is_near-requires-clause-begins
is_near-requires-clause-begins c =
    let span = span-within c.args.problem.now c.requires.keeps.sound c.args.bound.span c.requires.span in
    rw c.span_of-span.ensures (omega (arith, span.0, span.1, c.requires.keeps.page.variables))

pub is_near-requires-clause-ends : goal.is_near-requires-clause-ends
is_near-requires-clause-ends c =
    let span = span-within c.args.problem.now c.requires.keeps.sound c.args.bound.span c.requires.span in
    rw c.span_of-span.ensures (omega (arith, span.0, span.1, c.requires.keeps.page.variables))

pub is_near-requires-in-Least-clause-begins : goal.is_near-requires-in-Least-clause-begins
is_near-requires-in-Least-clause-begins c =
    let span = span-within c.args.problem.now c.requires.keeps.sound c.args.bound.span c.requires.span in
    rw c.span_of-span.ensures (omega (arith, span.0, span.1, c.requires.keeps.page.variables))

pub is_near-requires-in-Least-clause-ends : goal.is_near-requires-in-Least-clause-ends
is_near-requires-in-Least-clause-ends c =
    let span = span-within c.args.problem.now c.requires.keeps.sound c.args.bound.span c.requires.span in
    rw c.span_of-span.ensures (omega (arith, span.0, span.1, c.requires.keeps.page.variables))

pub returns-in-Most : goal.returns-in-Most
returns-in-Most c =
    let p = c.args.problem.now in
    let cut = c.width_of.result in
    let gap : c.spacing.result.gap ≡ p.spacing.gap = ap (λ (s : Spacing). s.gap) c.spacing.ensures.spacing in
    let m : to_z w32 (cut + c.spacing.result.gap) ≡ pos (cut + p.spacing.gap) =
    omega (arith, ints, gap, c.width_of.ensures.small, c.spacing.ensures.sound.near) in
    decided-most p c.args.bound c.requires.span cut c.width_of.ensures.same c.width_of.ensures.past c.args.matrix.now.bounds
    c.requires.keeps c.in-Most.is
    (to_z w32 (cut + c.spacing.result.gap)) m c.is_near.result (rw c.span_of-span.ensures at c.is_near.ensures)

pub returns-in-Least : goal.returns-in-Least
returns-in-Least c =
    let p = c.args.problem.now in
    let cut = c.width_of.result in
    let gap : c.spacing.result.gap ≡ p.spacing.gap = ap (λ (s : Spacing). s.gap) c.spacing.ensures.spacing in
    let m : to_z w32 (cut + c.spacing.result.gap) ≡ pos (cut + p.spacing.gap) =
    omega (arith, ints, gap, c.width_of.ensures.small, c.spacing.ensures.sound.near) in
    let n : to_z w32 (of_z w32 (pos 0 -ℤ to_z w32 (cut + c.spacing.result.gap))) ≡ neg_ℤ (to_z w32 (cut + c.spacing.result.gap)) =
    omega (arith, ints, m, gap, c.width_of.ensures.small, c.spacing.ensures.sound.near) in
    decided-least p c.args.bound c.requires.span cut c.width_of.ensures.same c.width_of.ensures.past c.args.matrix.now.bounds
    c.requires.keeps c.in-Least.is
    (to_z w32 (cut + c.spacing.result.gap)) (to_z w32 (of_z w32 (pos 0 -ℤ to_z w32 (cut + c.spacing.result.gap)))) m n c.is_near-in-Least.result
    (rw c.span_of-span.ensures at c.is_near-in-Least.ensures)
