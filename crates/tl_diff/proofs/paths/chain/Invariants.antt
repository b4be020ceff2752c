use Rattle.std.proofs.Common.{reverse}
use Rattle.tl_diff.proofs.ChainLemmas.{IsTaken}
use Rattle.tl_diff.proofs.paths.chain.Given as goal

abbrev pub invariant-loop-i : goal.invariant-loop-i
invariant-loop-i l = IsTaken l.n l.arcs l.out l.place l.i (reverse l.backward.items)
