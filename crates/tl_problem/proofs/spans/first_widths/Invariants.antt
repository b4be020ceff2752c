use Rattle.std.proofs.Common.{take}
use Rattle.tl_problem.specs.inner.Spanning.{AreFound, cells_at}
use Rattle.tl_problem.proofs.spans.first_widths.Given as goal

abbrev pub invariant-loop-turn : goal.invariant-loop-turn
invariant-loop-turn l = AreFound l.cells (cells_at l.cells (take l.turn-index l.turns)) l.span l.least l.page_room l.firsts.items
