use Rattle.std.proofs.Common.{◌≡◌, take}
use Rattle.tl_problem.specs.inner.Spanning.{cells_at, least_among}
use Rattle.tl_problem.proofs.spans.greatest_least.Given as goal

abbrev pub invariant-loop-turn : goal.invariant-loop-turn
invariant-loop-turn l = l.least ≡ least_among (cells_at l.cells (take l.turn-index l.turns)) l.span
