use Rattle.std.proofs.Common.{◌≡◌}
use Rattle.tl_astar.specs.inner.Lower.{IsProvedUpto}
use Rattle.tl_astar.proofs.lower.least_proved.Given as goal

abbrev pub invariant-loop-zone : goal.invariant-loop-zone
invariant-loop-zone l = record {
  same : l.arena ≡ l.fn.arena;
  least : IsProvedUpto l.problem l.fn.arena.trace l.fn.arena.best.height l.zone l.least;
}
