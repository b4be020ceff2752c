use Rattle.std.proofs.Common.{◌+◌, ◌-◌, ◌≤◌, length}
use Rattle.tl_text.proofs.Minimals.{IsSearchedBelow, lines_of}
use Rattle.tl_text.proofs.minimal.configs.Given as goal

-- all is found below the next width worth trying
abbrev pub invariant-loop-filling : goal.invariant-loop-filling
invariant-loop-filling l = record {
  searched : IsSearchedBelow l.p l.filling.next (lines_of l.filling) l.list;
  next : l.filling.next ≤ l.most + 1;
  ended : l.filling.ended ≤ length l.p;
}

abbrev pub decreases-loop-filling : goal.decreases-loop-filling
decreases-loop-filling l = l.most + 1 - l.filling.next
