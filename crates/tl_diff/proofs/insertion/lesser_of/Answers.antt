use Rattle.std.proofs.Common.{Some, ap, arith}
use Rattle.std.proofs.lemmas.Int.{ints, clamps}
use Rattle.tl_diff.proofs.insertion.lesser_of.Goals as goal

pub returns-in-Some : goal.returns-in-Some
returns-in-Some c =
    let fits = c.requires c.in-Some.bound c.in-Some.is in
    rw c.in-Some.is (ap Some (omega (arith, ints, clamps, c.min.ensures.value, fits)))

pub returns-in-None : goal.returns-in-None
returns-in-None c = rw c.in-None.is (ap Some (omega (arith, ints)))
