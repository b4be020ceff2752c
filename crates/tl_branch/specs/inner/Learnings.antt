-- No public clause cites this file. What a search that learns keeps on its way.
use Rattle.std.specs.Prelude.{◌≡◌, ◌≢◌, ◌⊎◌, ◌↔◌, ℕ, ◌+◌, ◌-◌, ◌*◌, ◌<◌, ◌≤◌, true, false, IsTrue}
use Rattle.std.specs.Prelude.{List, [], ◌∷◌, ◌++◌, length, get_or, Option, Some, None, is_some}
use Rattle.std.specs.List.{Contains, count_by}
use Rattle.tl_base.specs.declared.limits.TheConstants.{MAX_BUDGET}
use Rattle.tl_problem.specs.declared.zone.Range.{Range}
use Rattle.tl_problem.specs.Problem.{ProblemModel}
use Rattle.tl_problem.specs.Agreement.{LowIsHigh}
use Rattle.tl_problem.specs.Bounds.{HasNoWidths, IsBound}
use Rattle.tl_problem.specs.Zones.{InZone}
use Rattle.tl_cert.specs.declared.limits.TheConstants.{MAX_BOUNDS}
use Rattle.tl_cert.specs.declared.log.Bound.{Bound}
use Rattle.tl_cert.specs.declared.log.LogLine.{LogLine}
use Rattle.tl_cert.specs.declared.log.End.{End}
use Rattle.tl_cert.specs.declared.log.Nogood.TheVariants.{Zone}
use Rattle.tl_cert.specs.declared.trace.CutAt.{CutAt}
use Rattle.tl_cert.specs.Learnt.{nogoods_in, IsMinimalLine, NogoodCloses}
use Rattle.tl_cert.specs.Lines.{nogood_at, IsGoodLine}
use Rattle.tl_cert.specs.Nogoods.{nogood_bounds, zone_bounds}
use Rattle.tl_cert.specs.Pieces.{AllWithin}
use Rattle.tl_cert.specs.Text.{IsLineShaped, line_pieces}
use Rattle.tl_cert.specs.Traces.{Stands, zone_of}
use Rattle.tl_cert.specs.Worked.{IsClosedZone}
use Rattle.tl_cert.specs.ZoneOrders.{AtEachCut, ZoneComesBefore}
use Rattle.tl_check.specs.Checkers.{IsReserved}
use Rattle.tl_solve.specs.Arenas.{IsArenaOf, HasBoundBelow, IsLowered}
use Rattle.tl_solve.specs.inner.Walk.{IsStack, KeepsClassOrder}
use Rattle.tl_store.specs.Stores.{HaveSame, IsStoreOf, nogoods_of}
use Rattle.tl_store.specs.declared.store.Store.{Store}
use Rattle.tl_branch.specs.declared.learning.Learning.{Learning}
use Rattle.tl_branch.specs.Learn.{FiresAreNeeded, IsUnclosed}

-- ---- the lines

-- the line can be written into a certificate
pub record IsLineWritable (line : LogLine) : Type 0 where
  pub shaped : IsLineShaped line
  pub within : AllWithin (line_pieces line)

-- line `k` is good for the height, can be written and needs all that it fires; if it has few bounds none of them can be taken
-- away, even for the opening
pub record IsKeptLine (problem : ProblemModel) (trace : List CutAt) (log : List LogLine) (height opening k : ℕ)
    (line : LogLine) : Type 0 where
  pub good : IsGoodLine problem trace log height k line
  pub minimal : length (nogood_bounds problem trace line.nogood) ≤ MAX_BOUNDS →
      IsMinimalLine problem trace log opening k line
  pub needed : FiresAreNeeded problem trace log k line
  pub writable : IsLineWritable line

-- each line of the log is one
abbrev pub AreKeptLines : ProblemModel → List CutAt → ℕ → ℕ → List LogLine → Type 0
AreKeptLines problem trace height opening log = (k : ℕ) (d : LogLine) → k < length log →
    IsKeptLine problem trace log height opening k (get_or log k d)

-- ---- the lines of zones

-- the zone has a line
abbrev pub HasLine : List (Option ℕ) → ℕ → Type 0
HasLine lines z = (k : ℕ) × (get_or lines z None ≡ Some k)

-- the bounds of the nogood with this number are among the zone's
pub record IsOfZone (problem : ProblemModel) (trace : List CutAt) (nogoods : List (List Bound)) (z k : ℕ) : Type 0 where
  pub there : k < length nogoods
  pub among : (bound : Bound) → Contains (get_or nogoods k []) bound → Contains (zone_bounds problem (zone_of problem trace z)) bound

-- which line each zone has: nogoods are no more than the zones that have one
pub record AreLinesOf (problem : ProblemModel) (trace : List CutAt) (nogoods : List (List Bound))
    (lines : List (Option ℕ)) : Type 0 where
  pub count : length lines ≡ 2 * length trace + 1
  pub each : (z k : ℕ) → get_or lines z None ≡ Some k → IsOfZone problem trace nogoods z k
  pub few : length nogoods ≤ count_by is_some lines

-- the store has the nogoods of the log, under the same numbers
pub record KeepsLog (nogoods kept : List (List Bound)) : Type 0 where
  pub count : length nogoods ≡ length kept
  pub each : (k : ℕ) → k < length nogoods → HaveSame (get_or nogoods k []) (get_or kept k [])

-- at each cut the first nogoods closed all zones before the one that was cut, and none of them that one
abbrev pub WereKnown : ProblemModel → List CutAt → List (List Bound) → Type 0
WereKnown problem trace nogoods = AtEachCut (IsUnclosed problem nogoods) trace

-- the last line of the log has no bounds
pub record HasEnd (problem : ProblemModel) (trace : List CutAt) (log : List LogLine) : Type 0 where
  pub some : 0 < length log
  pub last : nogood_bounds problem trace (nogood_at log (length log - 1)) ≡ []

-- ---- the search

-- the nogoods of the log
abbrev pub log_nogoods : ProblemModel → Learning → List (List Bound)
log_nogoods problem l = nogoods_in problem l.arena.trace l.log

-- the search is one of this problem
pub record IsLearning (problem : ProblemModel) (l : Learning) : Type 0 where
  pub arena : IsArenaOf problem l.arena
  pub store : IsStoreOf problem l.store
  pub reserved : IsReserved problem l.budget l.store.checker
  pub within : length l.arena.trace ≤ l.budget
  pub few : l.budget ≤ MAX_BUDGET
  pub low : l.height ≤ l.arena.best.height
  pub lines_good : AreKeptLines problem l.arena.trace l.height l.arena.opening l.log
  pub lines : AreLinesOf problem l.arena.trace (log_nogoods problem l) l.lines.items
  pub kept : KeepsLog (log_nogoods problem l) (nogoods_of l.store)
  pub known : IsTrue l.low_is_high → WereKnown problem l.arena.trace (log_nogoods problem l)
  pub going : l.done ≡ false → (k : ℕ) → k < length (log_nogoods problem l) → get_or (log_nogoods problem l) k [] ≢ []
  pub ended : l.done ≡ true → HasEnd problem l.arena.trace l.log
  pub agree : IsTrue l.low_is_high ↔ LowIsHigh problem

-- what a line that is put changes: the store, the log, and which zones have lines
pub record IsGrown (old new : Learning) : Type 0 where
  pub alloc : new.alloc ≡ old.alloc
  pub arena : new.arena ≡ old.arena
  pub low_is_high : new.low_is_high ≡ old.low_is_high
  pub budget : new.budget ≡ old.budget
  pub height : new.height ≡ old.height
  pub lines : (z : ℕ) → HasLine old.lines.items z → HasLine new.lines.items z
  pub unclosed : (problem : ProblemModel) (cut : CutAt) → IsUnclosed problem (log_nogoods problem old) old.arena.trace cut →
      IsUnclosed problem (log_nogoods problem new) old.arena.trace cut

-- no zone but this one got a line
abbrev pub NoOtherLine : ℕ → Learning → Learning → Type 0
NoOtherLine zone old new = (z : ℕ) → z ≢ zone → HasLine new.lines.items z → HasLine old.lines.items z

-- no zone that stands got a line
abbrev pub NoStandingLine : Learning → Learning → Type 0
NoStandingLine old new = (z : ℕ) → Stands old.arena.trace z → HasLine new.lines.items z → HasLine old.lines.items z

-- no zone that stands but this one got a line
abbrev pub NoOtherStandingLine : ℕ → Learning → Learning → Type 0
NoOtherStandingLine zone old new = (z : ℕ) → Stands old.arena.trace z → z ≢ zone → HasLine new.lines.items z →
    HasLine old.lines.items z

-- the zone of the cut with this number has a line
abbrev pub HasLineOfCut : Learning → ℕ → Type 0
HasLineOfCut l i = (d : CutAt) → HasLine l.lines.items (get_or l.arena.trace i d).zone

-- each zone that is cut has a line once both of its parts have one, but for the zone of which this one is a part
abbrev pub AreJoinedBut : ℕ → Learning → Type 0
AreJoinedBut part l = (i : ℕ) → i < length l.arena.trace → part ≢ 2 * i + 1 → part ≢ 2 * i + 2 →
    HasLine l.lines.items (2 * i + 1) → HasLine l.lines.items (2 * i + 2) → HasLineOfCut l i

-- ---- the walk

-- the zone has no widths, or a bound of at least the height
abbrev pub IsClosedByBound : ProblemModel → List Range → ℕ → Type 0
IsClosedByBound problem zone height =
    HasNoWidths (InZone problem zone) ⊎ ((bound : ℕ) × IsBound problem (InZone problem zone) bound × (height ≤ bound))

-- A zone that was taken from the stack and not cut: it has a line, where `low` is `high`, and is closed, where it is not. There
-- it has a line only if its bound closes it.
pub record IsHandled (problem : ProblemModel) (l : Learning) (z : ℕ) : Type 0 where
  pub written : IsTrue l.low_is_high → HasLine l.lines.items z
  pub closed : l.low_is_high ≡ false → IsClosedZone problem (zone_of problem l.arena.trace z) l.arena.best.height
  pub founded : l.low_is_high ≡ false → HasLine l.lines.items z →
      IsClosedByBound problem (zone_of problem l.arena.trace z) l.arena.best.height

-- the zone comes before each zone on the stack
abbrev pub IsPassed : List CutAt → List ℕ → ℕ → Type 0
IsPassed trace stack z = (y : ℕ) → Contains stack y → ZoneComesBefore trace z y

-- The zones on the stack are those of the plain search, as far as their order goes, and have no lines. Each other zone that
-- stands was handled, and comes before them. Each zone that is cut has a line once both of its parts have one.
pub record IsSearching (problem : ProblemModel) (l : Learning) (stack : List ℕ) : Type 0 where
  pub learning : IsLearning problem l
  pub height : l.height ≡ l.arena.best.height
  pub going : l.done ≡ false
  pub walk : IsStack problem l.arena.trace 0 stack
  pub order : KeepsClassOrder problem l.arena.trace
  pub handled : (z : ℕ) → Stands l.arena.trace z → Contains stack z ⊎ IsHandled problem l z
  pub passed : (z : ℕ) → Stands l.arena.trace z → Contains stack z ⊎ IsPassed l.arena.trace stack z
  pub unlined : (z : ℕ) → Contains stack z → HasLine l.lines.items z → ⊥
  pub joined : AreJoinedBut 0 l

-- the zone stays open: its bound is below the best height, and no nogood closes it, where `low` is `high`
pub record StaysOpen (problem : ProblemModel) (l : Learning) (z : ℕ) : Type 0 where
  pub below : HasBoundBelow problem l.arena.trace z l.height
  pub none : IsTrue l.low_is_high → (k : ℕ) → k < length (log_nogoods problem l) →
      NogoodCloses problem l.arena.trace (log_nogoods problem l) k z → ⊥

-- the zone has a line, and its bound closes it for the height
pub record IsShut (problem : ProblemModel) (l : Learning) (z : ℕ) : Type 0 where
  pub line : HasLine l.lines.items z
  pub closed : IsClosedByBound problem (zone_of problem l.arena.trace z) l.height

-- ---- what calls change

-- a search before any cut
pub record IsStart (budget : ℕ) (l : Learning) : Type 0 where
  pub no_cut : l.arena.trace ≡ []
  pub height : l.height ≡ l.arena.best.height
  pub going : l.done ≡ false
  pub budget_is : l.budget ≡ budget
  pub unlined : l.lines.items ≡ None ∷ []

-- a cut joined the trace, and its parts have no lines yet
pub record IsCutOff (old new : Learning) (cut : CutAt) : Type 0 where
  pub trace : new.arena.trace ≡ old.arena.trace ++ cut ∷ []
  pub lowered : IsLowered old.arena.best new.arena.best
  pub low_is_high : new.low_is_high ≡ old.low_is_high
  pub budget : new.budget ≡ old.budget
  pub height : new.height ≡ new.arena.best.height
  pub going : new.done ≡ old.done
  pub lines : (z : ℕ) → HasLine old.lines.items z → HasLine new.lines.items z
  pub no_more : (z : ℕ) → HasLine new.lines.items z → HasLine old.lines.items z

-- the store tried a line, and nothing else changed
pub record IsRetried (old new : Learning) : Type 0 where
  pub store : Store
  pub same : new ≡ record old { store = store }

-- ---- lines of zones that are cut

-- the line of a zone
abbrev pub line_of : ℕ → List ℕ → End → LogLine
line_of zone fires end = record { nogood = Zone zone; fires = fires; end = end }

-- some cut is of the zone, and its parts have these lines
pub record ArePartLines (problem : ProblemModel) (l : Learning) (zone lower upper : ℕ) : Type 0 where
  pub i : ℕ
  pub there : i < length l.arena.trace
  pub cut : (d : CutAt) → (get_or l.arena.trace i d).zone ≡ zone
  pub low : get_or l.lines.items (2 * i + 1) None ≡ Some lower
  pub high : get_or l.lines.items (2 * i + 2) None ≡ Some upper
