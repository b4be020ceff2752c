-- How many zones of a trace stand, and what they partition: the class vectors of the problem.
use Rattle.std.specs.Prelude.{◌≡◌, ℕ, ◌+◌, ◌-◌, ◌^◌, ◌<◌, ◌↔◌, List, length}
use Rattle.std.specs.List.{AllPairs, Contains}
use Rattle.tl_problem.specs.Problem.{ProblemModel}
use Rattle.tl_problem.specs.Spans.{count_of}
use Rattle.tl_problem.specs.Zones.{IsVector, HasVector}
use Rattle.tl_cert.specs.declared.trace.CutAt.{CutAt}
use Rattle.tl_cert.specs.Traces.{Stands, zone_of}

-- the numbers of the zones that stand, in order
pub record AreStanding (trace : List CutAt) (zones : List ℕ) : Type 0 where
  pub rising : AllPairs (λ a b. a < b) zones
  pub each : (z : ℕ) → Contains zones z ↔ Stands trace z

-- the standing zones of a trace are one more than its cuts, and partition the class vectors: each zone has one, and each
-- vector is in one of them. So there are fewer cuts than vectors
pub record PartsVectors (problem : ProblemModel) (trace : List CutAt) : Type 0 where
  pub standing : List ℕ
  pub are : AreStanding trace standing
  pub count : length standing ≡ length trace + 1
  pub has_one : (z : ℕ) → Stands trace z → (vector : List ℕ) × IsVector problem vector ×
      HasVector (zone_of problem trace z) vector
  pub in_some : (vector : List ℕ) → IsVector problem vector →
      (z : ℕ) × Stands trace z × HasVector (zone_of problem trace z) vector
  pub in_no_other : (vector : List ℕ) (a b : ℕ) → Stands trace a → Stands trace b →
      HasVector (zone_of problem trace a) vector → HasVector (zone_of problem trace b) vector → a ≡ b
  pub fewer : length trace < 2 ^ 64 - 1 → length trace < count_of problem
