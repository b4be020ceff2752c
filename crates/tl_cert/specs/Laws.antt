-- Laws of the definitions, which the checker and every search rest on. Each is the contract of a function of `laws`.
use Rattle.std.specs.Prelude.{◌≡◌, ℕ, ◌-◌, ◌^◌, ◌<◌, ◌≤◌, ◌↔◌, List, length}
use Rattle.std.specs.List.{All}
use Rattle.tl_problem.specs.declared.zone.Range.{Range}
use Rattle.tl_problem.specs.Problem.{ProblemModel, total_height}
use Rattle.tl_problem.specs.Layouts.{WithinPage, IsLayoutByLow}
use Rattle.tl_problem.specs.Sound.{IsSound}
use Rattle.tl_problem.specs.Spans.{count_of}
use Rattle.tl_problem.specs.Zones.{IsZone, InZone}
use Rattle.tl_problem.specs.Agreement.{LowIsHigh}
use Rattle.tl_cert.specs.declared.log.LogLine.{LogLine}
use Rattle.tl_cert.specs.declared.trace.CutAt.{CutAt}
use Rattle.tl_cert.specs.Traces.{IsTrace, IsTraceOf, Stands, zone_at}
use Rattle.tl_cert.specs.Appended.{appended, IsAppended}
use Rattle.tl_cert.specs.Nogoods.{Meets, zone_bounds, nogood_bounds, IsTrueFor}
use Rattle.tl_cert.specs.Lines.{nogood_at, IsGoodLog}
use Rattle.tl_cert.specs.Counting.{PartsVectors}
use Rattle.tl_cert.specs.Worked.{IsWorked}

-- no layout by `low` is lower than what a log is good for
abbrev pub GoodLogsAreSound : Type 0
GoodLogsAreSound = (problem : ProblemModel) → IsSound problem →
    (trace : List CutAt) (log : List LogLine) (lower : ℕ) → IsGoodLog problem trace log lower →
    (widths heights : List ℕ) → IsLayoutByLow problem widths heights → lower ≤ total_height problem heights

-- each nogood of a good log is true
abbrev pub NogoodsAreTrue : Type 0
NogoodsAreTrue = (problem : ProblemModel) → IsSound problem →
    (trace : List CutAt) (log : List LogLine) (lower : ℕ) → IsGoodLog problem trace log lower →
    (k : ℕ) → k < length log → IsTrueFor problem lower (nogood_bounds problem trace (nogood_at log k))

-- the standing zones of a trace are one more than its cuts, and partition the class vectors: so there are fewer cuts than
-- the problem counts
abbrev pub TracesPartVectors : Type 0
TracesPartVectors = (problem : ProblemModel) → IsSound problem →
    (trace : List CutAt) → IsTraceOf problem trace → PartsVectors problem trace

-- where `low` is `high` and the budget is at least the count, the lower bound of a worked trace is its height
abbrev pub EnoughBudgetCloses : Type 0
EnoughBudgetCloses = (problem : ProblemModel) → IsSound problem → LowIsHigh problem →
    (trace : List CutAt) (height lower budget : ℕ) → count_of problem ≤ budget → budget < 2 ^ 64 - 1 →
    IsWorked problem trace height lower budget → lower ≡ height

-- the widths of a zone are those within the page that meet its bounds
abbrev pub ZonesMeetTheirBounds : Type 0
ZonesMeetTheirBounds = (problem : ProblemModel) → IsSound problem →
    (zone : List Range) → IsZone problem zone → (widths : List ℕ) →
    InZone problem zone widths ↔ (WithinPage problem widths × All (Meets problem widths) (zone_bounds problem zone))

-- the cuts of a piece, which begins with a zone that stands, can stand after those of the trace
abbrev pub PiecesCanBeAppended : Type 0
PiecesCanBeAppended = (whole : List Range) (trace : List CutAt) → IsTrace whole trace →
    (z : ℕ) → Stands trace z →
    (piece : List CutAt) → IsTrace (zone_at whole trace z) piece → IsAppended whole trace z piece (appended trace z piece)
