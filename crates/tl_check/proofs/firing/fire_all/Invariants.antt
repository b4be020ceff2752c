use Rattle.std.proofs.Common.{map, take}
use Rattle.tl_cert.specs.Lines.{nogood_at}
use Rattle.tl_cert.specs.Nogoods.{nogood_bounds}
use Rattle.tl_check.specs.inner.Firing.{LeadsTo}
use Rattle.tl_check.specs.Matrices.{KeepsMarks}
use Rattle.tl_check.proofs.firing.fire_all.Given as goal

abbrev pub invariant-fires : goal.invariant-fires
invariant-fires l = record {
  leads : LeadsTo l.problem (nogood_bounds l.problem l.trace l.line.nogood)
      (map (λ f. nogood_bounds l.problem l.trace (nogood_at l.log f))
      (take l.number-index l.line.fires)) l.matrix.bounds;
  marks : KeepsMarks l.fn.matrix l.matrix;
}
