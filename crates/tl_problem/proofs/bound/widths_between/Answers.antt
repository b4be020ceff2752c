-- The places are small and rise by a gap at least, so that what is between is a width.
use Rattle.tl_base.specs.declared.spacing.Spacing.{Spacing}
use Rattle.std.proofs.Common.{◌≡◌, ◌+◌, ℕ, pos, ◌-ℤ◌, ◌+ℤ◌, ◌∷◌, [], ◌++◌, get_or, refl, arith, ap}
use Rattle.std.specs.Int.{w32}
use mir.Val.{to_z, of_z}
use Rattle.std.proofs.lemmas.Int.{ints}
use Rattle.tl_diff.specs.Bounds.{assignment_of}
use Rattle.tl_problem.specs.Works.{part_above, widths_of}
use Rattle.tl_problem.proofs.WorkLemmas.{part_above-is, widths_of-next}
use Rattle.tl_problem.proofs.bound.widths_between.Goals as goal

pub overflow_sub-places : goal.overflow_sub-places
overflow_sub-places c =
    let one = c.requires.small c.loop-column.column (omega (arith, c.cols-column-end.ensures)) in
    let other = c.requires.small (c.loop-column.column + 1) (omega (arith, c.cols-column-end.ensures)) in
    let rise = c.requires.rising c.loop-column.column (omega (arith, c.cols-column-end.ensures)) in
    let gap : c.spacing-gap.result.gap ≡ c.args.problem.now.spacing.gap = ap (λ (s : Spacing). s.gap) c.spacing-gap.ensures.spacing in
    let few = c.spacing-gap.ensures.sound.near in
    omega (arith, ints, one.0, one.1, other.0, other.1)

pub overflow_sub-places-in-loop-column : goal.overflow_sub-places-in-loop-column
overflow_sub-places-in-loop-column c =
    let one = c.requires.small c.loop-column.column (omega (arith, c.cols-column-end.ensures)) in
    let other = c.requires.small (c.loop-column.column + 1) (omega (arith, c.cols-column-end.ensures)) in
    let rise = c.requires.rising c.loop-column.column (omega (arith, c.cols-column-end.ensures)) in
    let gap : c.spacing-gap.result.gap ≡ c.args.problem.now.spacing.gap = ap (λ (s : Spacing). s.gap) c.spacing-gap.ensures.spacing in
    let few = c.spacing-gap.ensures.sound.near in
    omega (arith, ints, one.0, one.1, other.0, other.1, gap, few)

pub overflow_cast-places : goal.overflow_cast-places
overflow_cast-places c =
    let one = c.requires.small c.loop-column.column (omega (arith, c.cols-column-end.ensures)) in
    let other = c.requires.small (c.loop-column.column + 1) (omega (arith, c.cols-column-end.ensures)) in
    let rise = c.requires.rising c.loop-column.column (omega (arith, c.cols-column-end.ensures)) in
    let gap : c.spacing-gap.result.gap ≡ c.args.problem.now.spacing.gap = ap (λ (s : Spacing). s.gap) c.spacing-gap.ensures.spacing in
    let few = c.spacing-gap.ensures.sound.near in
    let w : ℕ = part_above
    (assignment_of c.args.places.now (c.loop-column.column + 1) -ℤ
    (assignment_of c.args.places.now c.loop-column.column +ℤ pos c.args.problem.now.spacing.gap)) in
    let is = part_above-is
    (assignment_of c.args.places.now (c.loop-column.column + 1) -ℤ
    (assignment_of c.args.places.now c.loop-column.column +ℤ pos c.args.problem.now.spacing.gap))
    (omega (arith, ints, rise)) in
    let m : to_z w32 (of_z w32
    (to_z w32 (of_z w32 (to_z w32 (of_z w32 (get_or c.args.places.now (c.loop-column.column + 1) (pos 0))) -ℤ to_z w32
    (of_z w32 (get_or c.args.places.now c.loop-column.column (pos 0))))) -ℤ to_z w32 c.spacing-gap.result.gap)) ≡ pos w = omega
    (arith, ints, one.0, one.1, other.0, other.1, gap, few, is) in
    rw m (tt, omega (arith, ints, one.0, other.1, is, few))

pub loop-column-preserved : goal.loop-column-preserved
loop-column-preserved c =
    let one = c.requires.small c.loop-column.column (omega (arith, c.cols-column-end.ensures)) in
    let other = c.requires.small (c.loop-column.column + 1) (omega (arith, c.cols-column-end.ensures)) in
    let rise = c.requires.rising c.loop-column.column (omega (arith, c.cols-column-end.ensures)) in
    let gap : c.spacing-gap.result.gap ≡ c.args.problem.now.spacing.gap = ap (λ (s : Spacing). s.gap) c.spacing-gap.ensures.spacing in
    let few = c.spacing-gap.ensures.sound.near in
    let w : ℕ = part_above
    (assignment_of c.args.places.now (c.loop-column.column + 1) -ℤ
    (assignment_of c.args.places.now c.loop-column.column +ℤ pos c.args.problem.now.spacing.gap)) in
    let is = part_above-is
    (assignment_of c.args.places.now (c.loop-column.column + 1) -ℤ
    (assignment_of c.args.places.now c.loop-column.column +ℤ pos c.args.problem.now.spacing.gap))
    (omega (arith, ints, rise)) in
    let m : to_z w32 (of_z w32
    (to_z w32 (of_z w32 (to_z w32 (of_z w32 (get_or c.args.places.now (c.loop-column.column + 1) (pos 0))) -ℤ to_z w32
    (of_z w32 (get_or c.args.places.now c.loop-column.column (pos 0))))) -ℤ to_z w32 c.spacing-gap.result.gap)) ≡ pos w = omega
    (arith, ints, one.0, one.1, other.0, other.1, gap, few, is) in
    let next : widths_of (assignment_of c.args.places.now) c.args.problem.now.spacing.gap
    (c.loop-column.column + 1) ≡ widths_of
    (assignment_of c.args.places.now) c.args.problem.now.spacing.gap c.loop-column.column ++ w ∷ [] = widths_of-next
    (assignment_of c.args.places.now) c.args.problem.now.spacing.gap c.loop-column.column in
    let wanted : c.push.new.self ≡ widths_of (assignment_of c.args.places.now) c.args.problem.now.spacing.gap
    (c.loop-column.column + 1) =
    rw (next, c.in_ok-push.ensures.ok, m, c.loop-column.invariant) refl in
    wanted
