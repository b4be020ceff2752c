use Rattle.std.proofs.Common.{ℕ, ◌<◌, get_or}
use Rattle.tl_cert.specs.Lines.{nogood_at}
use Rattle.tl_cert.specs.Nogoods.{NamesAreThere}
use Rattle.tl_check.proofs.line.are_earlier.Given as goal

abbrev pub invariant-fires : goal.invariant-fires
invariant-fires l =
    (i d : ℕ) → i < l.fire-index → (get_or l.line.fires i d < l.k) ×
    NamesAreThere l.problem l.trace (nogood_at l.log (get_or l.line.fires i d))
