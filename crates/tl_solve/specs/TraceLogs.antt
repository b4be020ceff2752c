-- The log that is made for a trace whose standing zones prove a lower bound: a line for each zone, what it fires and how it
-- ends.
use Rattle.std.specs.Prelude.{◌≡◌, ℕ, ◌+◌, ◌-◌, ◌*◌, ◌<◌, ◌⊎◌, List, [], ◌∷◌, length, get_or}
use Rattle.tl_problem.specs.declared.zone.Range.{Range}
use Rattle.tl_problem.specs.Problem.{ProblemModel}
use Rattle.tl_problem.specs.Zones.{InZone}
use Rattle.tl_problem.specs.Bounds.{HasNoWidths}
use Rattle.tl_cert.specs.declared.log.End.{End}
use Rattle.tl_cert.specs.declared.log.End.TheVariants.{Fired, Cycle, Chain, Area}
use Rattle.tl_cert.specs.declared.log.LogLine.{LogLine}
use Rattle.tl_cert.specs.declared.log.Nogood.TheVariants.{Zone}
use Rattle.tl_cert.specs.declared.trace.CutAt.{CutAt}
use Rattle.tl_cert.specs.Traces.{Stands, zone_of}
use Rattle.tl_solve.specs.Arenas.{HasBoundBelow}
use Rattle.tl_solve.specs.Logs.{HasBoundFrom, HasAreaFrom}

-- the number of the line of a zone: the zone that was made last has the first line and the whole the last, so that the lines
-- of both parts of a cut come before that of the zone that is cut
abbrev pub line_number : List CutAt → ℕ → ℕ
line_number trace z = 2 * length trace - z

-- the line of a zone
abbrev pub line_of_zone : List CutAt → List LogLine → ℕ → LogLine
line_of_zone trace log z = get_or log (line_number trace z) (record { nogood = Zone 0; fires = []; end = Cycle })

-- ---- a zone that stands

-- its line ends by `cycle` if the zone has no widths, by `chain` if its bound is at least `lower`, and by `area` only if its
-- bound is below `lower`, while its area bound is not
abbrev pub EndsStanding : ProblemModel → List CutAt → ℕ → ℕ → End → Type 0
EndsStanding problem trace lower z Cycle = HasNoWidths (InZone problem (zone_of problem trace z))
EndsStanding problem trace lower z Chain = HasBoundFrom problem (zone_of problem trace z) lower
EndsStanding problem trace lower z Area = HasBoundBelow problem trace z lower
    × HasAreaFrom problem (zone_of problem trace z) lower
EndsStanding problem trace lower z Fired = ⊥

-- its line has the zone as its nogood and fires no other
pub record IsStandingLine (problem : ProblemModel) (trace : List CutAt) (lower z : ℕ) (line : LogLine) : Type 0 where
  pub nogood : line.nogood ≡ Zone z
  pub fires : line.fires ≡ []
  pub ends : EndsStanding problem trace lower z line.end

-- ---- a zone that is cut

-- all widths of a zone lie in a part of it
abbrev pub AllLieIn : ProblemModel → List Range → List Range → Type 0
AllLieIn problem zone part = (widths : List ℕ) → InZone problem zone widths → InZone problem part widths

-- the line of the zone `z` that cut `i` cuts fires that of the lower part alone if all widths of the zone lie in that part,
-- and only then; otherwise it fires the lines of both parts, that of the lower part first
abbrev pub FiresParts : ProblemModel → List CutAt → ℕ → ℕ → List ℕ → Type 0
FiresParts problem trace i z fires =
    let all_low = AllLieIn problem (zone_of problem trace z) (zone_of problem trace (2 * i + 1)) in
    (all_low × (fires ≡ line_number trace (2 * i + 1) ∷ []))
    ⊎ ((all_low → ⊥) × (fires ≡ line_number trace (2 * i + 1) ∷ line_number trace (2 * i + 2) ∷ []))

-- its line has the zone as its nogood and ends by `fired`
pub record IsCutLine (problem : ProblemModel) (trace : List CutAt) (i z : ℕ) (line : LogLine) : Type 0 where
  pub nogood : line.nogood ≡ Zone z
  pub fires : FiresParts problem trace i z line.fires
  pub ends : line.end ≡ Fired

-- ---- the whole log

-- the log has one line for each zone of the trace, and no other
pub record IsTraceLog (problem : ProblemModel) (trace : List CutAt) (lower : ℕ) (log : List LogLine) : Type 0 where
  pub count : length log ≡ 2 * length trace + 1
  pub standing : (z : ℕ) → Stands trace z → IsStandingLine problem trace lower z (line_of_zone trace log z)
  pub cut : (i : ℕ) (d : CutAt) → i < length trace →
      IsCutLine problem trace i (get_or trace i d).zone (line_of_zone trace log (get_or trace i d).zone)
