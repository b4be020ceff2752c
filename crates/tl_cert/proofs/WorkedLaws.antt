-- Where `low` is `high` and the budget is at least the count, the lower bound of a worked trace is its height.
use Rattle.std.proofs.Common.{◌≡◌, ℕ, ◌-◌, ◌^◌, ◌<◌, ◌≤◌, List, inl, inr, arith}
use Rattle.std.proofs.lemmas.Bool.{cases_lt}
use Rattle.tl_problem.specs.declared.zone.Range.{Range}
use Rattle.tl_problem.specs.Problem.{ProblemModel}
use Rattle.tl_problem.specs.Sound.{IsSound}
use Rattle.tl_problem.specs.Spans.{count_of}
use Rattle.tl_problem.specs.Zones.{range_at, IsZone, whole_zone, InZone}
use Rattle.tl_problem.specs.Agreement.{LowIsHigh, DifferIn}
use Rattle.tl_problem.proofs.BoundLaws.{bound-unique}
use Rattle.tl_problem.proofs.SpanLaws.{class-in_page}
use Rattle.tl_cert.specs.declared.trace.CutAt.{CutAt}
use Rattle.tl_cert.specs.Traces.{zone_at}
use Rattle.tl_cert.specs.Worked.{IsWorked}
use Rattle.tl_cert.proofs.TraceLaws.{zones-are}
use Rattle.tl_cert.proofs.CountLaws.{parts-vectors}

-- where `low` is `high` at all widths of the page, no zone has a cell for which they differ
pub agree-everywhere : (problem : ProblemModel) → IsSound problem → (zone : List Range) → IsZone problem zone →
    LowIsHigh problem → DifferIn problem zone → ⊥
agree-everywhere problem sound zone is same differ =
    let page = class-in_page problem sound differ.s (range_at zone differ.s).last (is.ranges differ.s differ.span).1 in
    differ.differ (same differ.cell differ.inside differ.w (omega (arith, page, differ.width.1)))

pub worked-lower : (problem : ProblemModel) → IsSound problem → (trace : List CutAt) (height lower budget : ℕ) →
    LowIsHigh problem →
    count_of problem ≤ budget → budget < 2 ^ 64 - 1 →
    IsWorked problem trace height lower budget → lower ≡ height
worked-lower problem sound trace height lower budget same enough small worked =
    elim (cases_lt lower height) [
      | inr reached ↦ omega (arith, worked.ordered, reached)
      | inl below ↦
          let open_work = worked.below below in
          let fewer = (parts-vectors problem sound trace worked.trace_of).fewer (omega (arith, worked.within, small)) in
          elim open_work.ended [
            | inl all ↦ absurd (omega (arith, fewer, all, enough))
            | inr closed ↦
                let z = open_work.enough.0 in
                let bound = open_work.enough.1 in
                let stands = open_work.enough.2 in
                let is_bound = open_work.enough.3 in
                let zone = zone_at (whole_zone problem) trace z in
                let is = zones-are problem sound trace worked.trace_of z stands.there in
                elim (closed z stands) [
                  | inl none ↦ absurd (none is_bound.some.0 is_bound.some.1)
                  | inr (inl high) ↦
                      let one = bound-unique problem (InZone problem zone) high.0 bound high.1 is_bound in
                      absurd (omega (arith, one, high.2, open_work.enough.4, below))
                  | inr (inr single) ↦ absurd (agree-everywhere problem sound zone is same single.1)
                ]
          ]
    ]
