-- The log that is made for a trace has a line for each zone, which fires and ends as it should.
use Rattle.std.proofs.Common.{◌≡◌, ℕ, ◌+◌, ◌-◌, ◌*◌, ◌<◌, List, [], inl, inr, length, get_or, Option, Some, None}
use Rattle.std.proofs.Common.{refl, sym, ap, ◌∙◌, subst, arith, if◌then◌else◌, length-take}
use Rattle.std.proofs.lemmas.Bool.{cases_lt}
use Rattle.std.proofs.lemmas.List.{get_or-take}
use Rattle.tl_problem.specs.declared.zone.Range.{Range}
use Rattle.tl_problem.specs.Problem.{ProblemModel}
use Rattle.tl_problem.specs.Sound.{IsSound}
use Rattle.tl_problem.specs.Zones.{IsZone, whole_zone, InZone, lower_part, upper_part}
use Rattle.tl_problem.proofs.BoundLaws.{bound-unique}
use Rattle.tl_problem.proofs.Heights.{test_le, test_le_false}
use Rattle.tl_problem.proofs.ZoneLaws.{whole-is_zone, cut-cases, upper-inside}
use Rattle.tl_cert.specs.declared.log.End.TheVariants.{Cycle, Chain, Area}
use Rattle.tl_cert.specs.declared.log.LogLine.{LogLine}
use Rattle.tl_cert.specs.declared.log.Nogood.TheVariants.{Zone}
use Rattle.tl_cert.specs.declared.trace.CutAt.{CutAt}
use Rattle.tl_cert.specs.Traces.{zone_of, Stands, IsTrace, IsTraceOf}
use Rattle.tl_cert.proofs.TraceLaws.{zones-are}
use Rattle.tl_cert.proofs.CutParts.{HasParts, has-parts, no_cut}
use Rattle.tl_solve.specs.Logs.{Proves}
use Rattle.tl_solve.specs.Arenas.{IsBoundFound, AreBoundsOf}
use Rattle.tl_solve.specs.TraceLogs.{line_number, line_of_zone, EndsStanding, IsStandingLine, AllLieIn, IsCutLine, IsTraceLog}
use Rattle.tl_solve.specs.CutsFound.{IsCutFound, AreCutsOf}
use Rattle.tl_solve.specs.inner.Shapes.{closing_end, firing_line_of, line_by_cut, AreLinesOf}
use Rattle.tl_solve.proofs.Firing.{low_room, high_room}

-- ---- a zone is cut by one cut alone

module _ (whole : List Range) (trace : List CutAt) (is : IsTrace whole trace) where
  cut-before : (i j : ℕ) (d : CutAt) → i < j → j < length trace → (get_or trace i d).zone ≡ (get_or trace j d).zone → ⊥
  cut-before i j d before within same =
      (is j d within).stands.not_cut i d (omega (arith, before, within, length-take j trace))
      (ap (λ (cut : CutAt). cut.zone) (get_or-take j trace i d before) ∙ same)

  pub cut-once : (i j : ℕ) (d : CutAt) → i < length trace → j < length trace →
      (get_or trace i d).zone ≡ (get_or trace j d).zone → i ≡ j
  cut-once i j d first second same =
      elim (cases_lt i j) [
        | inl less ↦ absurd (cut-before i j d less second same)
        | inr more ↦ elim (cases_lt j i) [
          | inl less ↦ absurd (cut-before j i d less first (sym same))
          | inr equal ↦ omega (arith, more, equal)
        ]
      ]

-- ---- a zone that stands

module _ (problem : ProblemModel) (trace : List CutAt) (lower z : ℕ) where
  standing-ends : (found : Option ℕ) → IsBoundFound problem (zone_of problem trace z) found →
      Proves problem (zone_of problem trace z) lower → EndsStanding problem trace lower z (closing_end found lower)
  standing-ends None none proves = none
  standing-ends (Some bound) found proves =
      elim (cases_lt bound lower) [
        | inr high ↦ subst (λ t. EndsStanding problem trace lower z (if t then Chain else Area)) (sym (test_le lower bound high))
            (bound, found, high)
        | inl low ↦ subst (λ t. EndsStanding problem trace lower z (if t then Chain else Area))
            (sym (test_le_false lower bound low))
            (elim proves [
              | inl none ↦ absurd (none found.some.0 found.some.1)
              | inr (inl other) ↦
                  let one = bound-unique problem (InZone problem (zone_of problem trace z)) bound other.0 found other.1 in
                  absurd (omega (arith, one, low, other.2))
              | inr (inr area) ↦ ((bound, found, low), area)
            ])
      ]

-- ---- a zone that is cut

module _ (problem : ProblemModel) (sound : IsSound problem) (trace : List CutAt) (is : IsTraceOf problem trace) (i : ℕ)
    (cut : CutAt) (within : i < length trace) (parts : HasParts (whole_zone problem) trace i cut) where
  abbrev zone : List Range
  zone = zone_of problem trace cut.zone

  is_zone : IsZone problem zone
  is_zone = zones-are problem sound trace is cut.zone (omega (arith, parts.before, within))

  there : cut.span < length zone
  there = omega (arith, parts.span, is_zone.spans, (whole-is_zone problem).spans)

  low_is : zone_of problem trace (2 * i + 1) ≡ lower_part zone cut.span cut.class
  low_is = parts.low_is

  high_is : zone_of problem trace (2 * i + 2) ≡ upper_part zone cut.span cut.class
  high_is = parts.high_is

  -- where the upper part has no widths, all lie in the lower one
  all-lower : IsBoundFound problem (zone_of problem trace (2 * i + 2)) None →
      AllLieIn problem zone (zone_of problem trace (2 * i + 1))
  all-lower none widths inside =
      elim (cut-cases problem sound zone is_zone cut.span cut.class there parts.lower parts.upper widths inside) [
        | inl low ↦ subst (λ part. InZone problem part widths) (sym low_is) low
        | inr high ↦ absurd (none widths (subst (λ part. InZone problem part widths) (sym high_is) high))
      ]

  -- and where it has widths, these do not
  not-all_lower : (bound : ℕ) → IsBoundFound problem (zone_of problem trace (2 * i + 2)) (Some bound) →
      AllLieIn problem zone (zone_of problem trace (2 * i + 1)) → ⊥
  not-all_lower bound some all =
      let widths = some.some.0 in
      let high = subst (λ part. InZone problem part widths) high_is some.some.1 in
      let inside = upper-inside problem sound zone is_zone cut.span cut.class there parts.lower parts.upper widths high in
      let low = subst (λ part. InZone problem part widths) low_is (all widths inside) in
      let most = low_room problem sound zone is_zone cut.span cut.class there parts.lower parts.upper widths low in
      let least = high_room problem sound zone is_zone cut.span cut.class there parts.lower parts.upper widths high in
      omega (arith, most, least)

  pub cut-line : (upper : Option ℕ) → IsBoundFound problem (zone_of problem trace (2 * i + 2)) upper →
      IsCutLine problem trace i cut.zone (firing_line_of (2 * length trace) cut.zone i upper)
  cut-line None none = record { nogood = refl; fires = inl (all-lower none, refl); ends = refl }
  cut-line (Some bound) some = record { nogood = refl; fires = inr (not-all_lower bound some, refl); ends = refl }

-- ---- the whole log

module _ (problem : ProblemModel) (sound : IsSound problem) (trace : List CutAt) (is : IsTraceOf problem trace) (lower : ℕ)
    (proves : (z : ℕ) → Stands trace z → Proves problem (zone_of problem trace z) lower)
    (cuts bounds : List (Option ℕ)) (are_bounds : AreBoundsOf problem trace bounds)
    (are_cuts : AreCutsOf trace (length trace) cuts) (log : List LogLine)
    (lines : AreLinesOf (2 * length trace) cuts bounds lower (2 * length trace + 1) log) where
  -- the line of a zone is made by its cut
  line-of_zone : (z : ℕ) → z < 2 * length trace + 1 →
      line_of_zone trace log z ≡ line_by_cut (2 * length trace) bounds lower z (get_or cuts z None)
  line-of_zone z there =
      let back : 2 * length trace - (2 * length trace - z) ≡ z = omega (arith, there) in
      lines.each (line_number trace z) (record { nogood = Zone 0; fires = []; end = Cycle }) (omega (arith, there))
      ∙ ap (λ n. line_by_cut (2 * length trace) bounds lower n (get_or cuts n None)) back

  standing-line : (z : ℕ) → Stands trace z → (found : Option ℕ) → IsCutFound trace (length trace) z found →
      IsStandingLine problem trace lower z (line_by_cut (2 * length trace) bounds lower z found)
  standing-line z stands None none = record {
    nogood = refl;
    fires = refl;
    ends = standing-ends problem trace lower z (get_or bounds z None)
        (are_bounds.each z None (omega (arith, stands.there, are_bounds.count))) (proves z stands);
  }
  standing-line z stands (Some i) found = absurd (stands.not_cut i no_cut found.0 (found.1 no_cut))

  cut-line_of : (i : ℕ) (d : CutAt) → i < length trace → (found : Option ℕ) →
      IsCutFound trace (length trace) (get_or trace i d).zone found →
      IsCutLine problem trace i (get_or trace i d).zone
      (line_by_cut (2 * length trace) bounds lower (get_or trace i d).zone found)
  cut-line_of i d within None none = absurd (none i d within refl)
  cut-line_of i d within (Some j) found =
      let same : i ≡ j = cut-once (whole_zone problem) trace is i j d within found.0 (sym (found.1 d)) in
      subst (λ n. IsCutLine problem trace i (get_or trace i d).zone
      (line_by_cut (2 * length trace) bounds lower (get_or trace i d).zone (Some n))) same
      (cut-line problem sound trace is i (get_or trace i d) within (has-parts (whole_zone problem) trace is i d within)
      (get_or bounds (2 * i + 2) None) (are_bounds.each (2 * i + 2) None (omega (arith, within, are_bounds.count))))

  pub trace-log : IsTraceLog problem trace lower log
  trace-log = record {
    count = lines.count;
    standing = λ z stands. subst (IsStandingLine problem trace lower z) (sym (line-of_zone z stands.there))
        (standing-line z stands (get_or cuts z None) (are_cuts.each z None (omega (arith, stands.there, are_cuts.count))));
    cut = λ i d within.
        let z = (get_or trace i d).zone in
        let parts = has-parts (whole_zone problem) trace is i d within in
        let there : z < 2 * length trace + 1 = omega (arith, parts.before, within) in
        subst (IsCutLine problem trace i z) (sym (line-of_zone z there))
        (cut-line_of i d within (get_or cuts z None) (are_cuts.each z None (omega (arith, there, are_cuts.count))));
  }
