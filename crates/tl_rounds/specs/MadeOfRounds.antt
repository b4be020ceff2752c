-- Traces that are made of rounds. At the start of a round some zones are left, at first zone 0 alone. A round has a block of
-- cuts for each of the first zones left, as many blocks as there are workers, zones left and cuts left, and each block has
-- the same quota. What the blocks leave is left after the round, behind the zones for which it had no block.
use Rattle.std.specs.Prelude.{◌≡◌, ◌≢◌, ℕ, ◌-◌, ◌/◌, ◌≤◌, ◌⊎◌, min, max, List, [], ◌∷◌, ◌++◌, length, take, drop}
use Rattle.std.specs.List.{All, AllPairs, Contains}
use Rattle.tl_problem.specs.Problem.{ProblemModel}
use Rattle.tl_cert.specs.declared.trace.CutAt.{CutAt}
use Rattle.tl_cert.specs.Traces.{Stands, zone_of}
use Rattle.tl_cert.specs.Worked.{IsClosedZone}
use Rattle.tl_cert.specs.ZoneOrders.{ComesFrom}

-- ---- one block

-- The cuts are a block of the zone after those before it: at most `quota`, each of the zone or of one that comes from it.
-- Each zone that stands then and comes from it is left or closed for the height; zones are left only after `quota` cuts.
pub record IsBlock (problem : ProblemModel) (height quota : ℕ) (before : List CutAt) (zone : ℕ) (cuts : List CutAt)
    (left : List ℕ) : Type 0 where
  pub few : length cuts ≤ quota
  pub own : All (λ cut. ComesFrom (before ++ cuts) zone cut.zone) cuts
  pub left_own : All (λ z. Stands (before ++ cuts) z × ComesFrom (before ++ cuts) zone z) left
  pub different : AllPairs (λ one other. one ≢ other) left
  pub closed : (z : ℕ) → Stands (before ++ cuts) z → ComesFrom (before ++ cuts) zone z →
      Contains left z ⊎ IsClosedZone problem (zone_of problem (before ++ cuts) z) height
  pub spent : left ≢ [] → length cuts ≡ quota

-- a block for each of the zones, one after the other: the trace after the last one, and what all of them left
pub data AreBlocks (problem : ProblemModel) (height quota : ℕ) (before : List CutAt) : List ℕ → List CutAt → List ℕ → Type 0 where
  no_block : AreBlocks problem height quota before [] before []
  block : (zones : List ℕ) (trace : List CutAt) (left : List ℕ) → AreBlocks problem height quota before zones trace left →
      (zone : ℕ) (cuts : List CutAt) (more : List ℕ) → IsBlock problem height quota trace zone cuts more →
      AreBlocks problem height quota before (zones ++ zone ∷ []) (trace ++ cuts) (left ++ more)

-- ---- rounds

-- how many blocks a round has: the least of the workers, the zones left and the cuts left
abbrev pub blocks_of : ℕ → ℕ → ℕ → ℕ
blocks_of workers lefts cuts = min (min workers lefts) cuts

-- the quota of each of them: an equal share of half of the cuts left, and one at least
abbrev pub quota_of : ℕ → ℕ → ℕ
quota_of cuts blocks = max 1 (cuts / 2 / blocks)

-- the blocks of the round that begins with this trace and these zones left
abbrev pub blocks_at : ℕ → ℕ → List CutAt → List ℕ → ℕ
blocks_at workers budget trace lefts = blocks_of workers (length lefts) (budget - length trace)

-- the quota of each of them
abbrev pub quota_at : ℕ → ℕ → List CutAt → List ℕ → ℕ
quota_at workers budget trace lefts = quota_of (budget - length trace) (blocks_at workers budget trace lefts)

-- the trace is made of rounds, after which these zones are left
pub data AreRounds (problem : ProblemModel) (workers budget height : ℕ) : List CutAt → List ℕ → Type 0 where
  no_round : AreRounds problem workers budget height [] (0 ∷ [])
  round : (trace : List CutAt) (lefts : List ℕ) → AreRounds problem workers budget height trace lefts →
      1 ≤ blocks_at workers budget trace lefts →
      (after : List CutAt) (left : List ℕ) →
      AreBlocks problem height (quota_at workers budget trace lefts) trace (take (blocks_at workers budget trace lefts) lefts)
      after left → AreRounds problem workers budget height after (drop (blocks_at workers budget trace lefts) lefts ++ left)

-- the trace is made of rounds for so many workers, this budget and this height, to the end: no zone is left after the last
-- round, or no cut
abbrev pub IsMadeOfRounds : ProblemModel → ℕ → ℕ → ℕ → List CutAt → Type 0
IsMadeOfRounds problem workers budget height trace =
    (lefts : List ℕ) × AreRounds problem workers budget height trace lefts × ((lefts ≡ []) ⊎ (length trace ≡ budget))
