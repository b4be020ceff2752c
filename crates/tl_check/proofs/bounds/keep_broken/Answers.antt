-- By the side of the bound.
use Rattle.tl_base.specs.declared.spacing.Spacing.{Spacing}
use Rattle.std.proofs.Common.{◌≡◌, ◌+◌, pos, ◌+ℤ◌, ◌-ℤ◌}
use Rattle.std.proofs.Common.{ap, arith}
use Rattle.std.specs.Int.{w32}
use mir.Val.{to_z, of_z}
use Rattle.std.proofs.lemmas.Int.{ints}
use Rattle.tl_check.proofs.Sides.{broken-most, broken-least}
use Rattle.tl_check.proofs.bounds.keep_broken.Goals as goal

pub returns-in-Most : goal.returns-in-Most
returns-in-Most c =
    let p = c.args.problem.now in
    let cut = c.width_of.result in
    let gap : c.spacing.result.gap ≡ p.spacing.gap = ap (λ (s : Spacing). s.gap) c.spacing.ensures.spacing in
    let m : to_z w32 (of_z w32 (to_z w32 (cut + c.spacing.result.gap) +ℤ pos 1)) ≡ pos (cut + p.spacing.gap + 1) =
    omega (arith, ints, gap, c.width_of.ensures.small, c.spacing.ensures.sound.near) in
    broken-most p c.args.bound c.requires.span cut c.width_of.ensures.same c.width_of.ensures.past c.args.matrix.now
    c.keep_at_least.new.matrix c.requires.keeps
    (to_z w32 (of_z w32 (to_z w32 (cut + c.spacing.result.gap) +ℤ pos 1))) c.in-Most.is m c.keep_at_least.ensures

pub returns-in-Least : goal.returns-in-Least
returns-in-Least c =
    let p = c.args.problem.now in
    let cut = c.width_of.result in
    let gap : c.spacing.result.gap ≡ p.spacing.gap = ap (λ (s : Spacing). s.gap) c.spacing.ensures.spacing in
    let m : to_z w32 (of_z w32 (to_z w32 (cut + c.spacing.result.gap) -ℤ pos 1)) ≡ pos (cut + p.spacing.gap) -ℤ pos 1 =
    omega (arith, ints, gap, c.width_of.ensures.small, c.spacing.ensures.sound.near) in
    broken-least p c.args.bound c.requires.span cut c.width_of.ensures.same c.width_of.ensures.past c.args.matrix.now
    c.keep_at_most.new.matrix c.requires.keeps
    (to_z w32 (of_z w32 (to_z w32 (cut + c.spacing.result.gap) -ℤ pos 1))) c.in-Least.is m c.keep_at_most.ensures
