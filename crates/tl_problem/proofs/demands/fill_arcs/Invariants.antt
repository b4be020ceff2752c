use Rattle.std.proofs.Common.{◌≡◌, map, take}
use Rattle.tl_problem.specs.inner.Demands.{arc_for}
use Rattle.tl_problem.proofs.demands.fill_arcs.Given as goal

abbrev pub invariant-loop-place : goal.invariant-loop-place
invariant-loop-place l = take l.place l.arcs ≡ map (λ t. arc_for l.problem l.axis l.demands t.cell) (take l.place l.order)
