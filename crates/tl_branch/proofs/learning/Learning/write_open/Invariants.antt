use Rattle.std.proofs.Common.{◌+◌, ◌*◌, ◌≤◌, length}
use Rattle.tl_branch.specs.inner.Learnings.{IsLearning, IsGrown}
use Rattle.tl_branch.specs.inner.Opens.{HaveLinesFrom, OpenProve}
use Rattle.tl_branch.proofs.learning.Learning.write_open.Given as goal

abbrev pub invariant-zones : goal.invariant-zones
invariant-zones l = record {
  learning : IsLearning l.problem l.self;
  grown : IsGrown l.fn.self l.self;
  proves : OpenProve l.problem l.self.arena.trace l.self.lines.items l.self.height;
  upto : l.above ≤ 2 * length l.fn.self.arena.trace + 1;
  written : HaveLinesFrom l.self.arena.trace l.self.lines.items l.above;
}

abbrev pub decreases-zones : goal.decreases-zones
decreases-zones l = l.above
