use Rattle.std.proofs.Common.{◌≡◌, ◌-◌, ◌^◌, min, map, length, take}
use Rattle.tl_problem.specs.Spans.{product}
use Rattle.tl_problem.proofs.problem.Problem.count.Given as goal

abbrev pub invariant-loop-classes : goal.invariant-loop-classes
invariant-loop-classes l = l.count ≡ min (product (map (λ firsts. length firsts) (take l.classes-index l.classes-items)))
    (2 ^ 64 - 1)
