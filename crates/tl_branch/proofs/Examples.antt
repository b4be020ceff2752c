-- What the definitions say of a drawn trace. Zone 0 is cut, then zone 1, and zone 2 comes next:
--
--        0
--      1   2
--     3 4
--
-- Zones 3 and 4 stand and come before zone 2. So does zone 1, which was cut: a line has to close it too.
use Rattle.std.proofs.Common.{◌≡◌, ℕ, ◌<◌, List, [], ◌∷◌, refl, arith}
use Rattle.tl_problem.specs.Problem.{ProblemModel}
use Rattle.tl_cert.specs.declared.log.Bound.{Bound}
use Rattle.tl_cert.specs.declared.log.End.TheVariants.{Fired}
use Rattle.tl_cert.specs.declared.log.LogLine.{LogLine}
use Rattle.tl_cert.specs.declared.log.Nogood.TheVariants.{Zone}
use Rattle.tl_cert.specs.declared.trace.CutAt.{CutAt}
use Rattle.tl_cert.specs.Learnt.{NogoodCloses}
use Rattle.tl_cert.specs.Lines.{IsGoodLine}
use Rattle.tl_cert.specs.Traces.{Stands}
use Rattle.tl_cert.specs.ZoneOrders.{ComesFrom, itself, lower}
use Rattle.tl_branch.specs.Learn.{CloseAllBefore, FiresAreNeeded, IsAhead}

abbrev cut : ℕ → ℕ → CutAt
cut zone span = record { zone = zone; span = span; class = 0 }

abbrev trace : List CutAt
trace = cut 0 0 ∷ cut 1 1 ∷ []

-- zone 1 does not stand, and comes before zone 2: a nogood closes it
not_standing : Stands trace 1 → ⊥
not_standing stands = stands.not_cut 1 (cut 0 0) (omega arith) refl

closed_too : (problem : ProblemModel) (nogoods : List (List Bound)) (n : ℕ) →
    CloseAllBefore problem nogoods trace (cut 2 2) n → (k : ℕ) × (k < n) × NogoodCloses problem trace nogoods k 1
closed_too problem nogoods n close = close 1 (omega arith) (0, omega arith, itself, itself)

-- zone 3 is not ahead of a search that comes to zone 2 next
not_ahead : IsAhead trace (cut 2 2) 3 → ⊥
not_ahead ahead = ahead.not_passed (0, omega arith, from-one, itself) where
  from-one : ComesFrom trace 1 3
  from-one = lower 1 (cut 0 0) (omega arith) itself

-- the line of zone 1 that fires those of its two parts
abbrev line : LogLine
line = record { nogood = Zone 1; fires = 0 ∷ 1 ∷ []; end = Fired }

-- neither part is enough alone
neither_alone : (problem : ProblemModel) (log : List LogLine) (height : ℕ) → FiresAreNeeded problem trace log 2 line →
    (IsGoodLine problem trace log height 2 (record { nogood = Zone 1; fires = 0 ∷ []; end = Fired }) → ⊥)
    × (IsGoodLine problem trace log height 2 (record { nogood = Zone 1; fires = 1 ∷ []; end = Fired }) → ⊥)
neither_alone problem log height needed = (needed 1 height (omega arith), needed 0 height (omega arith))
