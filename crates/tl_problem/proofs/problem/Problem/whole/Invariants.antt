use Rattle.std.proofs.Common.{◌≡◌, ◌-◌, map, length, take}
use Rattle.tl_problem.specs.Zones.{range}
use Rattle.tl_problem.proofs.problem.Problem.whole.Given as goal

abbrev pub invariant-loop-classes : goal.invariant-loop-classes
invariant-loop-classes l = l.ranges ≡ map (λ firsts. range 0 (length firsts - 1)) (take l.classes-index l.classes-items)
