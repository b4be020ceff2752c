-- All widths within the page lie in some zone that stands, so that no placement is lower than what all of these prove.
use Rattle.std.proofs.Common.{◌≢◌, ℕ, ◌+◌, ◌*◌, ◌<◌, ◌≤◌, List, [], ◌∷◌, ◌++◌, inl, inr, length, sym, subst, arith}
use Rattle.std.proofs.lemmas.List.Elements.{All-nil}
use Rattle.tl_problem.specs.declared.placed.Placed.{Placed}
use Rattle.tl_problem.specs.Problem.{ProblemModel}
use Rattle.tl_problem.specs.Layouts.{WithinPage}
use Rattle.tl_problem.specs.Placements.{IsPlacement}
use Rattle.tl_problem.specs.Sound.{IsSound}
use Rattle.tl_problem.specs.Zones.{whole_zone, InZone}
use Rattle.tl_problem.proofs.AreaLaws.{area-below_layout}
use Rattle.tl_problem.proofs.BoundLaws.{placement-layout, bound-below_placement}
use Rattle.tl_problem.proofs.ZoneLaws.{whole-is_zone, whole-all, cases_eq, cut-cases}
use Rattle.tl_cert.specs.declared.trace.CutAt.{CutAt}
use Rattle.tl_cert.specs.Traces.{zone_of, Stands, IsCut, IsTraceOf}
use Rattle.tl_cert.proofs.TraceLaws.{zone-old, zone-lower, zone-upper, stands-old, stands-new, trace-by, zones-are}
use Rattle.tl_solve.specs.Logs.{Proves}

module _ (problem : ProblemModel) (sound : IsSound problem) (widths : List ℕ) (page : WithinPage problem widths) where
  abbrev IsCovered : List CutAt → Type 0
  IsCovered trace = (z : ℕ) × Stands trace z × InZone problem (zone_of problem trace z) widths

  covered-none : IsCovered []
  covered-none = (
    0,
    record { there = omega arith; not_cut = All-nil (λ (c : CutAt). c.zone ≢ 0) },
    whole-all problem sound widths page,
  )

  covered-more : (trace : List CutAt) (cut : CutAt) → IsTraceOf problem trace → IsCut (whole_zone problem) trace cut →
      IsCovered trace →
      IsCovered (trace ++ cut ∷ [])
  covered-more trace cut is now covered =
      let z = covered.0 in
      let zone = zone_of problem trace cut.zone in
      let is_zone = zones-are problem sound trace is cut.zone now.stands.there in
      let there : cut.span < length zone = omega (arith, now.span, is_zone.spans, (whole-is_zone problem).spans) in
      elim (cases_eq cut.zone z) [
        | inr apart ↦ (
          z,
          stands-old (whole_zone problem) trace cut z covered.1 apart,
          subst (λ ranges. InZone problem ranges widths) (sym (zone-old (whole_zone problem) trace cut z covered.1.there))
              covered.2,
        )
        | inl same ↦
            let inside = subst (λ y. InZone problem (zone_of problem trace y) widths) (sym same) covered.2 in
            elim (cut-cases problem sound zone is_zone cut.span cut.class there now.lower now.upper widths inside) [
              | inl low ↦ (
                2 * length trace + 1,
                stands-new (whole_zone problem) trace cut is now (2 * length trace + 1) (omega arith) (omega arith),
                subst (λ ranges. InZone problem ranges widths) (sym (zone-lower (whole_zone problem) trace cut)) low,
              )
              | inr high ↦ (
                2 * length trace + 2,
                stands-new (whole_zone problem) trace cut is now (2 * length trace + 2) (omega arith) (omega arith),
                subst (λ ranges. InZone problem ranges widths) (sym (zone-upper (whole_zone problem) trace cut)) high,
              )
            ]
      ]

  pub covered : (trace : List CutAt) → IsTraceOf problem trace → IsCovered trace
  covered trace is = trace-by (whole_zone problem) IsCovered covered-none covered-more trace is

-- no placement is lower than what each zone that stands proves
pub proved-below_placement : (problem : ProblemModel) → IsSound problem → (trace : List CutAt) → IsTraceOf problem trace →
    (lower : ℕ) →
    ((z : ℕ) → Stands trace z → Proves problem (zone_of problem trace z) lower) → (placed : Placed) → IsPlacement problem placed →
    lower ≤ placed.height
proved-below_placement problem sound trace is lower proves placed placement =
    let some = covered problem sound placed.widths placement.page trace is in
    let Among = InZone problem (zone_of problem trace some.0) in
    elim (proves some.0 some.1) [
      | inl none ↦ absurd (none placed.widths some.2)
      | inr (inl bound) ↦
          let below = bound-below_placement problem sound Among bound.0 placed bound.1 some.2 placement in
          omega (arith, below, bound.2)
      | inr (inr area) ↦
          let layout = placement-layout problem sound placed placement in
          let below = area-below_layout problem sound Among placed.widths placed.heights some.2 layout area.0 area.1 in
          omega (arith, below, area.2, placement.height)
    ]
