use Rattle.tl_cert.specs.Traces.{IsZoneOf}
use Rattle.tl_branch.specs.inner.Learnings.{IsLearning, IsGrown, AreJoinedBut, NoStandingLine}
use Rattle.tl_branch.proofs.learning.Learning.climb.Given as goal

abbrev pub invariant-zones : goal.invariant-zones
invariant-zones l = record {
  learning : IsLearning l.problem l.self;
  grown : IsGrown l.fn.self l.self;
  there : IsZoneOf l.fn.self.arena.trace l.below;
  none : NoStandingLine l.fn.self l.self;
  joined : AreJoinedBut l.below l.self;
}

abbrev pub decreases-zones : goal.decreases-zones
decreases-zones l = l.below
