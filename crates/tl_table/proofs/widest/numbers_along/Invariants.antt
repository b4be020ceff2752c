use Rattle.std.proofs.Common.{◌≡◌, map, take}
use Rattle.tl_table.specs.inner.Demands.{demand_number}
use Rattle.tl_table.proofs.widest.numbers_along.Given as goal

abbrev pub invariant-loop-i : goal.invariant-loop-i
invariant-loop-i l = l.numbers ≡ map (demand_number l.arcs) (take l.i-index l.path)
