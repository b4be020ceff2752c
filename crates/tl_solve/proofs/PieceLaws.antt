-- The zones that stand in a piece have between them all widths of its zone.
use Rattle.std.proofs.Common.{◌≡◌, ◌≢◌, ℕ, ◌+◌, ◌*◌, ◌<◌, ◌≤◌, inl, inr, List, [], ◌∷◌, ◌++◌, length, Option, sym, subst, arith}
use Rattle.std.proofs.lemmas.List.Elements.{All-nil}
use Rattle.tl_base.proofs.Members.{Contains-none}
use Rattle.tl_problem.specs.declared.placed.Placed.{Placed}
use Rattle.tl_problem.specs.declared.zone.Range.{Range}
use Rattle.tl_problem.specs.Problem.{ProblemModel, total_height}
use Rattle.tl_problem.specs.Layouts.{IsLayoutByLow}
use Rattle.tl_problem.specs.Sound.{IsSound}
use Rattle.tl_problem.specs.Zones.{IsZone, InZone}
use Rattle.tl_problem.specs.Agreement.{LowIsHigh}
use Rattle.tl_problem.proofs.BoundLaws.{bound-below_layout}
use Rattle.tl_problem.proofs.ZoneLaws.{cases_eq, cut-cases, lower-is_zone, upper-is_zone}
use Rattle.tl_cert.specs.declared.trace.CutAt.{CutAt}
use Rattle.tl_cert.specs.Traces.{zone_at, IsZoneOf, Stands, IsCut, IsTrace}
use Rattle.tl_cert.proofs.TraceLaws.{zone-old, zone-lower, zone-upper, zone-cases, stands-old, stands-new, trace-by}
use Rattle.tl_cert.proofs.WorkedLaws.{agree-everywhere}
use Rattle.tl_solve.specs.Piece.{final_height, IsPieceOf}

module _ (problem : ProblemModel) (sound : IsSound problem) (whole : List Range) (is_whole : IsZone problem whole) where
  -- some zone that stands has these widths
  abbrev HasStanding : List CutAt → List ℕ → Type 0
  HasStanding cuts widths = (z : ℕ) × Stands cuts z × InZone problem (zone_at whole cuts z) widths

  -- the zones of a trace are zones of the problem, and those that stand have all widths of the first
  record AreSpread (cuts : List CutAt) : Type 0 where
    zones : (z : ℕ) → IsZoneOf cuts z → IsZone problem (zone_at whole cuts z)
    spread : (widths : List ℕ) → InZone problem whole widths → HasStanding cuts widths

  spread-none : AreSpread []
  spread-none = record {
    zones = λ z there. let first : 0 ≡ z = omega (arith, there) in subst (λ n. IsZone problem (zone_at whole [] n)) first is_whole;
    spread = λ widths inside. (0, record { there = omega arith; not_cut = All-nil (λ cut. cut.zone ≢ 0) }, inside);
  }

  spread-more : (cuts : List CutAt) (cut : CutAt) → IsTrace whole cuts → IsCut whole cuts cut → AreSpread cuts →
      AreSpread (cuts ++ cut ∷ [])
  spread-more cuts cut before now are = record { zones = zones; spread = spread } where
    parent : IsZone problem (zone_at whole cuts cut.zone)
    parent = are.zones cut.zone now.stands.there

    span : cut.span < length (zone_at whole cuts cut.zone)
    span = omega (arith, now.span, parent.spans, is_whole.spans)

    zones : (z : ℕ) → IsZoneOf (cuts ++ cut ∷ []) z → IsZone problem (zone_at whole (cuts ++ cut ∷ []) z)
    zones z there = elim (zone-cases whole cuts cut z there) [
      | inl old ↦ subst (IsZone problem) (sym (zone-old whole cuts cut z old)) (are.zones z old)
      | inr (inl first) ↦ subst (λ n. IsZone problem (zone_at whole (cuts ++ cut ∷ []) n)) (sym first)
          (subst (IsZone problem) (sym (zone-lower whole cuts cut))
          (lower-is_zone problem sound (zone_at whole cuts cut.zone) parent cut.span cut.class span now.lower now.upper))
      | inr (inr second) ↦ subst (λ n. IsZone problem (zone_at whole (cuts ++ cut ∷ []) n)) (sym second)
          (subst (IsZone problem) (sym (zone-upper whole cuts cut))
          (upper-is_zone problem sound (zone_at whole cuts cut.zone) parent cut.span cut.class span now.lower now.upper))
    ]

    new : (z : ℕ) → 2 * length cuts + 1 ≤ z → z ≤ 2 * length cuts + 2 → Stands (cuts ++ cut ∷ []) z
    new = stands-new whole cuts cut before now

    spread : (widths : List ℕ) → InZone problem whole widths → HasStanding (cuts ++ cut ∷ []) widths
    spread widths inside =
        let found = are.spread widths inside in
        elim (cases_eq cut.zone found.0) [
          | inr apart ↦ (
            found.0,
            stands-old whole cuts cut found.0 found.1 apart,
            subst (λ r. InZone problem r widths) (sym (zone-old whole cuts cut found.0 found.1.there)) found.2,
          )
          | inl same ↦ elim (cut-cases problem sound (zone_at whole cuts cut.zone) parent cut.span cut.class span now.lower now.upper
              widths (subst (λ n. InZone problem (zone_at whole cuts n) widths) (sym same) found.2)) [
                | inl low ↦ (
                  2 * length cuts + 1,
                  new (2 * length cuts + 1) (omega arith) (omega arith),
                  subst (λ r. InZone problem r widths) (sym (zone-lower whole cuts cut)) low,
                )
                | inr high ↦ (
                  2 * length cuts + 2,
                  new (2 * length cuts + 2) (omega arith) (omega arith),
                  subst (λ r. InZone problem r widths) (sym (zone-upper whole cuts cut)) high,
                )
              ]
        ]

  trace-spread : (trace : List CutAt) → IsTrace whole trace → AreSpread trace
  trace-spread trace is = trace-by whole AreSpread spread-none spread-more trace is

  -- so no layout is lower once each of them is closed
  pub piece-nothing_lower : LowIsHigh problem → (given quota : ℕ) (best : Option Placed) (trace : List CutAt) →
      IsPieceOf problem whole given quota best trace [] →
      (widths heights : List ℕ) → InZone problem whole widths → IsLayoutByLow problem widths heights →
      final_height given best ≤ total_height problem heights
  piece-nothing_lower same given quota best trace piece widths heights inside layout =
      let are = trace-spread trace piece.trace_of in
      let found = are.spread widths inside in
      let zone = zone_at whole trace found.0 in
      elim (piece.closed found.0 found.1) [
        | inl left ↦ absurd (Contains-none found.0 left)
        | inr (inl none) ↦ absurd (none widths found.2)
        | inr (inr (inl high)) ↦
            let below = bound-below_layout problem sound (InZone problem zone) high.0 widths heights high.1 found.2 layout in
            omega (arith, below, high.2)
        | inr (inr (inr single)) ↦ absurd (agree-everywhere problem sound zone (are.zones found.0 found.1.there) same single.1)
      ]
