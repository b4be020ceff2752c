use Rattle.tl_astar.proofs.RiseLemmas.{AddsUpto}
use Rattle.tl_astar.proofs.rises.add_rises.Given as goal

abbrev pub invariant-loop-number : goal.invariant-loop-number
invariant-loop-number l = AddsUpto l.steps l.number l.strip l.least l.most l.height l.fn.rises.items l.rises.items
