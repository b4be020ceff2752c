-- The tightest bound decides what is implied.
use Rattle.std.proofs.Common.{◌≡◌}
use Rattle.std.proofs.Common.{sym, subst, arith}
use Rattle.std.specs.Int.{w32}
use mir.Val.{to_z, of_z}
use Rattle.std.proofs.lemmas.Int.{ints}
use Rattle.tl_diff.specs.Bounds.{Implies}
use Rattle.tl_check.proofs.Rooms.{near-decided}
use Rattle.tl_check.proofs.bounds.is_near.Goals as goal

pub returns : goal.returns
returns c =
    let bounds = c.args.matrix.now.bounds in
    let raw = to_z w32 (of_z w32 c.args.most) in
    let m : raw ≡ c.args.most = omega (arith, ints, c.requires.low, c.requires.high) in
    let near = near-decided bounds c.args.a c.args.b raw c.upper.result c.upper.ensures.exact in (
      λ yes. subst (λ t. Implies bounds c.args.a c.args.b t) m (near.0 (c.is_up_to.ensures.0 yes)),
      λ implied. c.is_up_to.ensures.1 (near.1 (subst (λ t. Implies bounds c.args.a c.args.b t) (sym m) implied)),
    )
