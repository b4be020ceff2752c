-- Traces, cut by cut: the zones that a further cut makes, and which zones then stand.
use Rattle.std.proofs.Common.{◌≡◌, ◌≢◌, ℕ, ◌+◌, ◌*◌, ◌<◌, ◌≤◌, zero, suc, List, [], ◌∷◌, ◌++◌}
use Rattle.std.proofs.Common.{◌⊎◌, inl, inr, length, get_or, take, refl, sym, ap, ◌∙◌, subst, arith, length-append, length-take}
use Rattle.std.specs.List.{All}
use Rattle.std.proofs.lemmas.Bool.{cases_lt}
use Rattle.std.proofs.lemmas.List.{take_all, get_or-take, take-take, get_or_append_left, get_or-append-add, take-append-le}
use Rattle.std.proofs.lemmas.List.Elements.{All-push}
use Rattle.std.proofs.Math.Seq.{take-suc}
use Rattle.tl_problem.specs.declared.zone.Range.{Range}
use Rattle.tl_problem.specs.Problem.{ProblemModel}
use Rattle.tl_problem.specs.Sound.{IsSound}
use Rattle.tl_problem.specs.Zones.{IsZone, whole_zone, lower_part, upper_part}
use Rattle.tl_problem.proofs.ZoneLaws.{whole-is_zone, lower-is_zone, upper-is_zone}
use Rattle.tl_cert.specs.declared.trace.CutAt.{CutAt}
use Rattle.tl_cert.specs.Traces.{with_parts, zones_after, zones_of, zone_at, IsZoneOf, Stands, IsCut, IsTrace}

-- ---- the zones after a further cut

pub zones-push : (zones : List (List Range)) (cuts : List CutAt) (cut : CutAt) →
    zones_after zones (cuts ++ cut ∷ []) ≡ with_parts (zones_after zones cuts) cut
zones-push zones [] cut = refl
zones-push zones (first ∷ cuts) cut = zones-push (with_parts zones first) cuts cut

pub zones-length : (zones : List (List Range)) (cuts : List CutAt) →
    length (zones_after zones cuts) ≡ length zones + 2 * length cuts
zones-length zones [] = omega arith
zones-length zones (cut ∷ cuts) =
    let rest = zones-length (with_parts zones cut) cuts in
    let two = length-append zones (lower_part (get_or zones cut.zone []) cut.span cut.class ∷ upper_part
    (get_or zones cut.zone []) cut.span cut.class ∷ []) in
    omega (arith, rest, two)

module _ (whole : List Range) (trace : List CutAt) (cut : CutAt) where
  -- the zones before stay
  pub zone-old : (z : ℕ) → IsZoneOf trace z → zone_at whole (trace ++ cut ∷ []) z ≡ zone_at whole trace z
  zone-old z there =
      let known : z < length (zones_of whole trace) = omega (arith, there, zones-length (whole ∷ []) trace) in
      ap (λ zones. get_or zones z []) (zones-push (whole ∷ []) trace cut) ∙
      get_or_append_left (zones_of whole trace) (lower_part (zone_at whole trace cut.zone) cut.span cut.class ∷ upper_part
      (zone_at whole trace cut.zone) cut.span cut.class ∷ []) [] z known

  -- and its two parts follow
  pub zone-lower : zone_at whole (trace ++ cut ∷ []) (2 * length trace + 1) ≡ lower_part (zone_at whole trace cut.zone)
      cut.span cut.class
  zone-lower =
      let parts = lower_part (zone_at whole trace cut.zone) cut.span cut.class ∷ upper_part (zone_at whole trace cut.zone)
      cut.span cut.class ∷ [] in
      let number : 2 * length trace + 1 ≡ length (zones_of whole trace) + 0 = omega (arith, zones-length (whole ∷ []) trace) in
      ap (λ zones. get_or zones (2 * length trace + 1) []) (zones-push (whole ∷ []) trace cut) ∙ ap
      (λ i. get_or (zones_of whole trace ++ parts) i []) number ∙
      get_or-append-add (zones_of whole trace) parts 0 []

  pub zone-upper : zone_at whole (trace ++ cut ∷ []) (2 * length trace + 2) ≡ upper_part (zone_at whole trace cut.zone)
      cut.span cut.class
  zone-upper =
      let parts = lower_part (zone_at whole trace cut.zone) cut.span cut.class ∷ upper_part (zone_at whole trace cut.zone)
      cut.span cut.class ∷ [] in
      let number : 2 * length trace + 2 ≡ length (zones_of whole trace) + 1 = omega (arith, zones-length (whole ∷ []) trace) in
      ap (λ zones. get_or zones (2 * length trace + 2) []) (zones-push (whole ∷ []) trace cut) ∙ ap
      (λ i. get_or (zones_of whole trace ++ parts) i []) number ∙
      get_or-append-add (zones_of whole trace) parts 1 []

  -- a zone after the cut is one from before or one of the two parts
  pub zone-cases : (z : ℕ) → IsZoneOf (trace ++ cut ∷ []) z →
      IsZoneOf trace z ⊎ ((z ≡ 2 * length trace + 1) ⊎ (z ≡ 2 * length trace + 2))
  zone-cases z there =
      let more = length-append trace (cut ∷ []) in
      elim (cases_lt z (2 * length trace + 1)) [
        | inl old ↦ inl old
        | inr new ↦ elim (cases_lt z (2 * length trace + 2)) [
          | inl first ↦ inr (inl (omega arith))
          | inr second ↦ inr (inr (omega (arith, there, more)))
        ]
      ]

  -- a zone from before stands where it stood and is not the one that is cut
  pub stands-old : (z : ℕ) → Stands trace z → cut.zone ≢ z → Stands (trace ++ cut ∷ []) z
  stands-old z stands apart = record {
    there = omega (arith, stands.there, length-append trace (cut ∷ []));
    not_cut = All-push (λ c. c.zone ≢ z) trace cut stands.not_cut apart;
  }

  pub stood-before : (z : ℕ) → Stands (trace ++ cut ∷ []) z → IsZoneOf trace z → Stands trace z × (cut.zone ≢ z)
  stood-before z stands old = (
    record {
      there = old;
      not_cut = λ k d within. subst (λ c. c.zone ≢ z) (get_or_append_left trace (cut ∷ []) d k within)
          (stands.not_cut k d (omega (arith, within, length-append trace (cut ∷ []))));
    },
    subst (λ c. c.zone ≢ z) (get_or-append-add trace (cut ∷ []) 0 cut)
        (stands.not_cut (length trace + 0) cut (omega (arith, length-append trace (cut ∷ [])))),
  )

-- ---- what holds of no cuts, and of each trace with one cut more, holds of each trace

module _ (whole : List Range) (P : List CutAt → Type 0) (none : P []) (more : (trace : List CutAt) (cut : CutAt) →
    IsTrace whole trace →
    IsCut whole trace cut → P trace → P (trace ++ cut ∷ [])) where
  trace-prefix : (trace : List CutAt) → IsTrace whole trace → (n : ℕ) → IsTrace whole (take n trace)
  trace-prefix trace is n = λ i d within.
      let short = length-take n trace in
      let same = get_or-take n trace i d (omega (arith, within, short)) in
      let twice = take-take i n trace (omega (arith, within, short)) in
      subst (λ cut. IsCut whole (take i (take n trace)) cut) (sym same)
      (subst (λ cuts. IsCut whole cuts (get_or trace i d)) (sym twice) (is i d (omega (arith, within, short))))

  upto : (trace : List CutAt) → IsTrace whole trace → (n : ℕ) → n ≤ length trace → P (take n trace)
  upto [] is zero within = none
  upto (cut ∷ trace) is zero within = none
  upto [] is (suc n) within = absurd (omega arith)
  upto (first ∷ trace) is (suc n) within =
      subst P (sym (take-suc (first ∷ trace) n first (omega arith)))
      (more (take n (first ∷ trace)) (get_or (first ∷ trace) n first) (trace-prefix (first ∷ trace) is n)
      (is n first (omega arith))
      (upto (first ∷ trace) is n (omega arith)))

  pub trace-by : (trace : List CutAt) → IsTrace whole trace → P trace
  trace-by trace is = subst P (take_all (length trace) trace (omega arith)) (upto trace is (length trace) (omega arith))

-- ---- the zones of a trace are zones of the problem, and no cut names one that is not there

pub cuts-there : (whole : List Range) (trace : List CutAt) → IsTrace whole trace → All (λ cut. IsZoneOf trace cut.zone) trace
cuts-there whole trace is = λ i d within. let stands = (is i d within).stands.there in
    omega (arith, stands, length-take i trace, within)

-- so the two parts of a further cut stand
pub stands-new : (whole : List Range) (trace : List CutAt) (cut : CutAt) → IsTrace whole trace → IsCut whole trace cut → (z : ℕ) →
    2 * length trace + 1 ≤ z → z ≤ 2 * length trace + 2 → Stands (trace ++ cut ∷ []) z
stands-new whole trace cut is now z from upto = record {
  there = omega (arith, from, upto, length-append trace (cut ∷ []));
  not_cut = All-push (λ c. c.zone ≢ z) trace cut (λ i d within same. let old = cuts-there whole trace is i d within in
      omega (arith, old, same, from)) (λ same. omega (arith, now.stands.there, same, from));
}

pub zones-are : (problem : ProblemModel) → IsSound problem → (trace : List CutAt) → IsTrace (whole_zone problem) trace →
    (z : ℕ) → IsZoneOf trace z →
    IsZone problem (zone_at (whole_zone problem) trace z)
zones-are problem sound trace is = trace-by (whole_zone problem) AllZones none more trace is where
  AllZones : List CutAt → Type 0
  AllZones cuts = (z : ℕ) → IsZoneOf cuts z → IsZone problem (zone_at (whole_zone problem) cuts z)

  none : AllZones []
  none z there = let first : z ≡ 0 = omega arith in subst (λ n. IsZone problem (zone_at (whole_zone problem) [] n)) (sym first)
      (whole-is_zone problem)

  more : (cuts : List CutAt) (cut : CutAt) → IsTrace (whole_zone problem) cuts → IsCut (whole_zone problem) cuts cut →
      AllZones cuts →
      AllZones (cuts ++ cut ∷ [])
  more cuts cut before now zones z there =
      let parent = zones cut.zone now.stands.there in
      let span : cut.span < length (zone_at (whole_zone problem) cuts cut.zone) =
      omega (arith, now.span, parent.spans, (whole-is_zone problem).spans) in
      elim (zone-cases (whole_zone problem) cuts cut z there) [
        | inl old ↦ subst (IsZone problem) (sym (zone-old (whole_zone problem) cuts cut z old)) (zones z old)
        | inr (inl first) ↦ subst (λ n. IsZone problem (zone_at (whole_zone problem) (cuts ++ cut ∷ []) n)) (sym first)
            (subst (IsZone problem) (sym (zone-lower (whole_zone problem) cuts cut))
            (lower-is_zone problem sound (zone_at (whole_zone problem) cuts cut.zone)
            parent cut.span cut.class span now.lower now.upper))
        | inr (inr second) ↦ subst (λ n. IsZone problem (zone_at (whole_zone problem) (cuts ++ cut ∷ []) n)) (sym second)
            (subst (IsZone problem) (sym (zone-upper (whole_zone problem) cuts cut))
            (upper-is_zone problem sound (zone_at (whole_zone problem) cuts cut.zone)
            parent cut.span cut.class span now.lower now.upper))
      ]

-- a trace with one cut more is a trace
pub trace-push : (whole : List Range) (cuts : List CutAt) (cut : CutAt) → IsTrace whole cuts → IsCut whole cuts cut →
    IsTrace whole (cuts ++ cut ∷ [])
trace-push whole cuts cut is now i d within =
    elim (cases_lt i (length cuts)) [
      | inl old ↦
          let prefix = take-append-le i cuts (cut ∷ []) (omega (arith, old)) in
          let at = get_or_append_left cuts (cut ∷ []) d i old in
          subst (λ cs. IsCut whole cs (get_or (cuts ++ cut ∷ []) i d)) (sym prefix)
          (subst (IsCut whole (take i cuts)) (sym at) (is i d old))
      | inr last ↦
          let here : i ≡ length cuts = omega (arith, last, within, length-append cuts (cut ∷ [])) in
          let number : i ≡ length cuts + 0 = omega (arith, here) in
          let at : get_or (cuts ++ cut ∷ []) i d ≡ cut = ap (λ n. get_or (cuts ++ cut ∷ []) n d) number ∙ get_or-append-add cuts
          (cut ∷ []) 0 d in
          let prefix : take i (cuts ++ cut ∷ []) ≡ cuts = take-append-le i cuts (cut ∷ [])
          (omega (arith, here)) ∙ take_all i cuts (omega (arith, here)) in
          subst (λ cs. IsCut whole cs (get_or (cuts ++ cut ∷ []) i d)) (sym prefix) (subst (IsCut whole cuts) (sym at) now)
    ]
