-- On a page of no column each span has one class, so that no trace makes a cut there.
use Rattle.std.proofs.Common.{◌≡◌, ◌∙◌, ℕ, zero, suc, ◌+◌, ◌-◌, ◌<◌, List, [], ◌∷◌, length, refl, ap, arith}
use Rattle.std.specs.List.{filter, range_with_len}
use Rattle.tl_problem.specs.declared.cell.Span.{Span}
use Rattle.tl_problem.specs.declared.zone.Range.{Range}
use Rattle.tl_problem.specs.Problem.{ProblemModel}
use Rattle.tl_problem.specs.Spans.{spans_of, classes_of, least_width, page_room, begins_step}
use Rattle.tl_problem.specs.Zones.{range_at, span_at, whole_zone}
use Rattle.tl_problem.proofs.ZoneLaws.{whole-range, whole-is_zone}
use Rattle.tl_cert.specs.declared.trace.CutAt.{CutAt}
use Rattle.tl_cert.specs.Traces.{IsTraceOf, IsCut, zone_at}

one_class : (problem : ProblemModel) → problem.width ≡ 0 → (columns : Span) → length (classes_of problem columns) ≡ 1
unfolding classes_of
one_class problem narrow columns = ap (λ (room : ℕ). length (least_width problem columns ∷
    filter (begins_step problem columns) (range_with_len (least_width problem columns + 1) room))) none
  where
    none : page_room problem - least_width problem columns ≡ 0
    none = omega (arith, narrow)

-- the first cut would be of the whole, after a class before the last
pub no_cut : (problem : ProblemModel) (trace : List CutAt) → problem.width ≡ 0 → IsTraceOf problem trace → length trace ≡ 0
no_cut problem [] narrow is = refl
no_cut problem (cut ∷ trace) narrow is = absurd (by_zone cut.zone refl)
  where
    first : IsCut (whole_zone problem) [] cut
    first = is 0 cut (omega arith)

    by_zone : (zone : ℕ) → cut.zone ≡ zone → ⊥
    by_zone zero whole =
        let within : cut.span < length (spans_of problem) = omega (arith, first.span, (whole-is_zone problem).spans) in
        let last = ap (λ (zone : ℕ). (range_at (zone_at (whole_zone problem) [] zone) cut.span).last) whole
        ∙ ap (λ (range : Range). range.last) (whole-range problem cut.span within) in
        omega (arith, first.upper, last, one_class problem narrow (span_at problem cut.span))
    by_zone (suc zone) other = omega (arith, other, first.stands.there)
