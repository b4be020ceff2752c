-- Bounds on the rooms of spans, and nogoods: bounds that no layout meets which is lower than some height.
use Rattle.std.specs.Prelude.{ℕ, ◌+◌, ◌<◌, ◌≤◌, nat_lt, if◌then◌else◌, List, [], ◌∷◌, ◌++◌, length}
use Rattle.std.specs.List.{All, flat_map, range_with_len}
use Rattle.tl_problem.specs.declared.zone.Range.{Range}
use Rattle.tl_problem.specs.Problem.{ProblemModel, total_height}
use Rattle.tl_problem.specs.Layouts.{IsLayoutByLow}
use Rattle.tl_problem.specs.Spans.{spans_of}
use Rattle.tl_problem.specs.Zones.{classes_at, first_in_class, last_in_class, range_at, span_width}
use Rattle.tl_cert.specs.declared.log.Bound.{Bound}
use Rattle.tl_cert.specs.declared.log.Side.{Side}
use Rattle.tl_cert.specs.declared.log.Side.TheVariants.{Most, Least}
use Rattle.tl_cert.specs.declared.log.Nogood.{Nogood}
use Rattle.tl_cert.specs.declared.log.Nogood.TheVariants.{Zone, Bounds}
use Rattle.tl_cert.specs.declared.trace.CutAt.{CutAt}
use Rattle.tl_cert.specs.Traces.{IsZoneOf, zone_of}

-- the room is on this side of the width
abbrev pub IsOnSide : Side → ℕ → ℕ → Type 0
IsOnSide Most w room = room ≤ w
IsOnSide Least w room = w ≤ room

-- the room is past the width, on its other side: at least one more than "at most", at most one less than "at least"
abbrev pub IsPast : Side → ℕ → ℕ → Type 0
IsPast Most w room = w + 1 ≤ room
IsPast Least w room = room + 1 ≤ w

-- the widths meet a bound: the room that they give its span is on its side of its width
abbrev pub Meets : ProblemModel → List ℕ → Bound → Type 0
Meets problem widths bound = IsOnSide bound.side bound.width (span_width problem widths bound.span)

-- the widths break a bound: the room that they give its span is past its width, on the other side
abbrev pub Breaks : ProblemModel → List ℕ → Bound → Type 0
Breaks problem widths bound = IsPast bound.side bound.width (span_width problem widths bound.span)

-- the bound that the room of a span is at most this width
abbrev pub at_most : ℕ → ℕ → Bound
at_most s w = record { span = s; side = Most; width = w }

-- the bound that the room of a span is at least this width
abbrev pub at_least : ℕ → ℕ → Bound
at_least s w = record { span = s; side = Least; width = w }

-- the bounds that cuts made of a span's range: at most its last width where further classes follow, at least its first
-- width where classes are before it
abbrev pub range_bounds : ProblemModel → ℕ → Range → List Bound
range_bounds problem s r =
    (if nat_lt (r.last + 1) (length (classes_at problem s)) then at_most s (last_in_class problem s r.last) ∷ [] else [])
    ++ (if nat_lt 0 r.first then at_least s (first_in_class problem s r.first) ∷ [] else [])

-- the bounds of a zone, span by span
abbrev pub zone_bounds : ProblemModel → List Range → List Bound
zone_bounds problem zone = flat_map (λ s. range_bounds problem s (range_at zone s)) (range_with_len 0 (length zone))

-- the bounds of a nogood: those of a zone of the trace, or those written out
abbrev pub nogood_bounds : ProblemModel → List CutAt → Nogood → List Bound
nogood_bounds problem trace (Zone z) = zone_bounds problem (zone_of problem trace z)
nogood_bounds problem trace (Bounds bounds) = bounds

-- the zone, or each span, that the nogood names is there
abbrev pub NamesAreThere : ProblemModel → List CutAt → Nogood → Type 0
NamesAreThere problem trace (Zone z) = IsZoneOf trace z
NamesAreThere problem trace (Bounds bounds) = All (λ bound. bound.span < length (spans_of problem)) bounds

-- the nogood with these bounds is true for `lower`: no layout by `low` that is lower meets them all
abbrev pub IsTrueFor : ProblemModel → ℕ → List Bound → Type 0
IsTrueFor problem lower bounds = (widths heights : List ℕ) → IsLayoutByLow problem widths heights →
    total_height problem heights < lower → All (Meets problem widths) bounds → ⊥
