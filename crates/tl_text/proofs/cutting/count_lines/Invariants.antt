use Rattle.tl_text.proofs.Filled.{IsFilled}
use Rattle.tl_text.proofs.cutting.count_lines.Given as goal

abbrev pub invariant-loop-atom : goal.invariant-loop-atom
invariant-loop-atom l = IsFilled l.width l.atoms l.atom-index l.filling
