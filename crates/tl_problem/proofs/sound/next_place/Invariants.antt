use Rattle.std.proofs.Common.{List, length}
use Rattle.std.specs.List.{All}
use Rattle.tl_problem.specs.declared.cell.Cell.{Cell}
use Rattle.tl_problem.specs.inner.Soundness.{AreWidest, IsNextPlace, IsOnPlaces}
use Rattle.tl_problem.proofs.sound.next_place.Given as goal

abbrev pub invariant-loop-left : goal.invariant-loop-left
invariant-loop-left l = (cells : List Cell) → All (IsOnPlaces l.side) cells → AreWidest l.side cells (length cells) l.widest →
    IsNextPlace l.gap cells l.left l.places l.column l.place
