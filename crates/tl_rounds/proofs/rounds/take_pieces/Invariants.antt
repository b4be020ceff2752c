use Rattle.std.proofs.Common.{length}
use Rattle.tl_rounds.specs.inner.Takings.{IsTakenSoFar}
use Rattle.tl_rounds.proofs.rounds.take_pieces.Given as goal

abbrev pub invariant-loop-piece : goal.invariant-loop-piece
invariant-loop-piece l = IsTakenSoFar l.fn.book l.quota (length l.yielded) l.book
