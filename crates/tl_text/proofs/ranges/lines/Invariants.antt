use Rattle.tl_text.proofs.Filled.{IsFilled}
use Rattle.tl_text.proofs.RangeSteps.{IsCutUpTo}
use Rattle.tl_text.proofs.ranges.lines.Given as goal

abbrev pub invariant-loop-at : goal.invariant-loop-at
invariant-loop-at l =
    record {
      filled : IsFilled l.width l.atoms l.at l.filling;
      cut : IsCutUpTo l.width l.atoms l.at l.first l.filling.line
          l.lines;
    }
