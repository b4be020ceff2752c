-- The lines of a log that is made for a trace are good, and so is the log.
use Rattle.std.proofs.Common.{◌≡◌, ℕ, ◌+◌, ◌-◌, ◌*◌, ◌<◌, ◌≤◌, if◌then◌else◌, List, [], ◌∷◌, inl, inr, length, get_or, Option}
use Rattle.std.proofs.Common.{Some, None, refl, sym, ap, ◌∙◌, subst, arith}
use Rattle.std.specs.List.{All}
use Rattle.std.proofs.lemmas.Bool.{cases_lt}
use Rattle.std.proofs.lemmas.List.Elements.{All-nil, All-cons}
use Rattle.tl_problem.specs.declared.zone.Range.{Range}
use Rattle.tl_problem.specs.Problem.{ProblemModel}
use Rattle.tl_problem.specs.Sound.{IsSound}
use Rattle.tl_problem.specs.Zones.{IsZone, whole_zone, InZone, lower_part, upper_part, last_in_class}
use Rattle.tl_problem.specs.Bounds.{HasNoWidths}
use Rattle.tl_problem.proofs.BoundLaws.{bound-unique}
use Rattle.tl_problem.proofs.SetLaws.{bound-same, area_bound-same}
use Rattle.tl_problem.proofs.ZoneLaws.{whole-is_zone}
use Rattle.tl_problem.proofs.Heights.{test_le, test_le_false}
use Rattle.tl_cert.specs.declared.log.Bound.{Bound}
use Rattle.tl_cert.specs.declared.log.End.TheVariants.{Cycle, Chain, Area}
use Rattle.tl_cert.specs.declared.log.LogLine.{LogLine}
use Rattle.tl_cert.specs.declared.log.Nogood.TheVariants.{Zone}
use Rattle.tl_cert.specs.declared.trace.CutAt.{CutAt}
use Rattle.tl_cert.specs.Traces.{zone_of, Stands, IsTraceOf}
use Rattle.tl_cert.specs.Nogoods.{zone_bounds, nogood_bounds, NamesAreThere, at_most}
use Rattle.tl_cert.specs.Implied.{IsLeft, Implied, OneLeft}
use Rattle.tl_cert.specs.Lines.{nogood_at, LineEndsBy, IsGoodLine, IsGoodLog}
use Rattle.tl_cert.proofs.TraceLaws.{zones-are}
use Rattle.tl_cert.proofs.CutParts.{HasParts, has-parts, first-whole, no_cut}
use Rattle.tl_solve.specs.Logs.{Proves}
use Rattle.tl_solve.specs.Arenas.{IsBoundFound, AreBoundsOf}
use Rattle.tl_solve.specs.CutsFound.{IsCutFound, AreCutsOf}
use Rattle.tl_solve.specs.inner.Shapes.{closing_end, closing_line_of, firing_line_of, line_by_cut, AreLinesOf}
use Rattle.tl_solve.proofs.Firing.{left-inside, inside-left, lower-implied, upper-implied, lower-but_one, whole-bounds}

-- ---- a zone that stands

module _ (problem : ProblemModel) (sound : IsSound problem) (zone : List Range) (is : IsZone problem zone) (lower : ℕ) where
  closing-ends : (found : Option ℕ) → IsBoundFound problem zone found → Proves problem zone lower →
      LineEndsBy problem (IsLeft problem (zone_bounds problem zone) []) [] lower (closing_end found lower)
  closing-ends None none proves = λ widths left. none widths (left-inside problem sound zone is [] widths left)
  closing-ends (Some bound) found proves =
      let there = inside-left problem sound zone is in
      let back = left-inside problem sound zone is [] in
      let Among = IsLeft problem (zone_bounds problem zone) [] in
      elim (cases_lt bound lower) [
        | inr high ↦ subst (λ t. LineEndsBy problem Among [] lower (if t then Chain else Area)) (sym (test_le lower bound high))
            (bound, bound-same problem (InZone problem zone) Among there back bound found, high)
        | inl low ↦ subst (λ t. LineEndsBy problem Among [] lower (if t then Chain else Area))
            (sym (test_le_false lower bound low))
            (elim proves [
              | inl none ↦ absurd (none found.some.0 found.some.1)
              | inr (inl other) ↦
                  let one = bound-unique problem (InZone problem zone) bound other.0 found other.1 in
                  absurd (omega (arith, one, low, other.2))
              | inr (inr area) ↦ (area.0, area_bound-same problem (InZone problem zone) Among there back area.0 area.1, area.2)
            ])
      ]

-- ---- the lines of a log

module _ (problem : ProblemModel) (sound : IsSound problem) (trace : List CutAt) (is : IsTraceOf problem trace)
    (log : List LogLine) (lower : ℕ)
    (nogoods : (f : ℕ) → f < length log → nogood_at log f ≡ Zone (2 * length trace - f)) where
  closing-good : (k z : ℕ) (found : Option ℕ) → Stands trace z → IsBoundFound problem (zone_of problem trace z) found →
      Proves problem (zone_of problem trace z) lower → IsGoodLine problem trace log lower k (closing_line_of z found lower)
  closing-good k z found stands bound proves = record {
    names = stands.there;
    earlier = All-nil (λ f. (f < k) × NamesAreThere problem trace (nogood_at log f));
    joined = [];
    fires = refl;
    ends = closing-ends problem sound (zone_of problem trace z) (zones-are problem sound trace is z stands.there)
        lower found bound proves;
  }

  -- the line that has the bounds of a zone
  part-nogood : (f z : ℕ) → f < length log → 2 * length trace - f ≡ z → nogood_at log f ≡ Zone z
  part-nogood f z within same = nogoods f within ∙ ap Zone same

  part-named : (k f z : ℕ) → f < k → k ≤ length log → 2 * length trace - f ≡ z → z < 2 * length trace + 1 →
      (f < k) × NamesAreThere problem trace (nogood_at log f)
  part-named k f z before within same there =
      (before, subst (NamesAreThere problem trace) (sym (part-nogood f z (omega (arith, before, within)) same)) there)

  -- both parts of a cut are fired, or the lower one alone where the upper one has no widths
  firing-good : (i k : ℕ) (cut : CutAt) (upper : Option ℕ) → i < length trace → HasParts (whole_zone problem) trace i cut →
      k + cut.zone ≡ 2 * length trace → k ≤ length log →
      IsBoundFound problem (zone_of problem trace (2 * i + 2)) upper →
      IsGoodLine problem trace log lower k (firing_line_of (2 * length trace) cut.zone i upper)
  firing-good i k cut upper within parts number long found = by_upper upper found where
    last : ℕ
    last = 2 * length trace

    zone : List Range
    zone = zone_of problem trace cut.zone

    given : List Bound
    given = zone_bounds problem zone

    there : cut.zone < 2 * length trace + 1
    there = omega (arith, parts.before, within)

    is_zone : IsZone problem zone
    is_zone = zones-are problem sound trace is cut.zone there

    span : cut.span < length zone
    span = omega (arith, parts.span, is_zone.spans, (whole-is_zone problem).spans)

    f : ℕ
    f = last - (2 * i + 1)

    g : ℕ
    g = last - (2 * i + 2)

    before_f : f < k
    before_f = omega (arith, parts.before, number, within)

    before_g : g < k
    before_g = omega (arith, parts.before, number, within)

    back_f : last - f ≡ 2 * i + 1
    back_f = omega (arith, within)

    back_g : last - g ≡ 2 * i + 2
    back_g = omega (arith, within)

    low : nogood_bounds problem trace (nogood_at log f) ≡ zone_bounds problem (lower_part zone cut.span cut.class)
    low = ap (nogood_bounds problem trace) (part-nogood f (2 * i + 1) (omega (arith, before_f, long)) back_f) ∙ ap
        (zone_bounds problem) parts.low_is

    high : nogood_bounds problem trace (nogood_at log g) ≡ zone_bounds problem (upper_part zone cut.span cut.class)
    high = ap (nogood_bounds problem trace) (part-nogood g (2 * i + 2) (omega (arith, before_g, long)) back_g) ∙ ap
        (zone_bounds problem) parts.high_is

    named_f : (f < k) × NamesAreThere problem trace (nogood_at log f)
    named_f = part-named k f (2 * i + 1) before_f long back_f (omega (arith, within))

    named_g : (g < k) × NamesAreThere problem trace (nogood_at log g)
    named_g = part-named k g (2 * i + 2) before_g long back_g (omega (arith, within))

    Named : ℕ → Type 0
    Named n = (n < k) × NamesAreThere problem trace (nogood_at log n)

    by_upper : (some : Option ℕ) → IsBoundFound problem (zone_of problem trace (2 * i + 2)) some →
        IsGoodLine problem trace log lower k (firing_line_of last cut.zone i some)
    by_upper None none =
        let empty : HasNoWidths (InZone problem (upper_part zone cut.span cut.class)) =
        subst (λ part. HasNoWidths (InZone problem part)) parts.high_is none in
        let all = lower-implied problem sound zone is_zone cut.span cut.class span parts.lower parts.upper empty in
        let implied = subst (λ bounds. All (Implied problem (IsLeft problem given [])) bounds) (sym low) all in
        record {
          names = there;
          earlier = All-cons Named f [] named_f (All-nil Named);
          joined = [];
          fires = inl (implied, refl);
          ends = implied;
        }
    by_upper (Some bound) some =
        let b = at_most cut.span (last_in_class problem cut.span cut.class) in
        let widths = some.some.0 in
        let inside = subst (λ part. InZone problem part widths) parts.high_is some.some.1 in
        let one = lower-but_one problem sound zone is_zone cut.span cut.class span parts.lower parts.upper widths inside in
        let all = upper-implied problem sound zone is_zone cut.span cut.class span parts.lower parts.upper in
        let implied = subst (λ bounds. All (Implied problem (IsLeft problem given (b ∷ []))) bounds) (sym high) all in
        record {
          names = there;
          earlier = All-cons Named f (g ∷ []) named_f (All-cons Named g [] named_g (All-nil Named));
          joined = b ∷ [];
          fires = inr (
            b,
            subst (λ bounds. OneLeft problem (IsLeft problem given []) bounds b) (sym low) one,
            inl (implied, refl),
          );
          ends = implied;
        }

-- ---- the whole log

line-nogood : (last lower z : ℕ) (bounds : List (Option ℕ)) (found : Option ℕ) →
    (line_by_cut last bounds lower z found).nogood ≡ Zone z
line-nogood last lower z bounds None = refl
line-nogood last lower z bounds (Some cut) = refl

pub log-good : (problem : ProblemModel) → IsSound problem → (trace : List CutAt) → IsTraceOf problem trace → (lower : ℕ) →
    ((z : ℕ) → Stands trace z → Proves problem (zone_of problem trace z) lower) →
    (cuts bounds : List (Option ℕ)) → AreBoundsOf problem trace bounds → AreCutsOf trace (length trace) cuts →
    (log : List LogLine) → AreLinesOf (2 * length trace) cuts bounds lower (2 * length trace + 1) log →
    IsGoodLog problem trace log lower
log-good problem sound trace is lower standing cuts bounds are_bounds are_cuts log lines =
    record { some = omega (arith, lines.count); lines = each_good; last = no_bounds } where
      nogoods : (f : ℕ) → f < length log → nogood_at log f ≡ Zone (2 * length trace - f)
      nogoods f within =
          ap (λ (line : LogLine). line.nogood) (lines.each f (record { nogood = Zone 0; fires = []; end = Cycle })
          (omega (arith, within, lines.count)))
          ∙ line-nogood (2 * length trace) lower (2 * length trace - f) bounds (get_or cuts (2 * length trace - f) None)

      by_cut : (k : ℕ) → k < length log → (found : Option ℕ) → IsCutFound trace (length trace) (2 * length trace - k) found →
          IsGoodLine problem trace log lower k (line_by_cut (2 * length trace) bounds lower (2 * length trace - k) found)
      by_cut k within None none =
          let z = 2 * length trace - k in
          let there : z < 2 * length trace + 1 = omega arith in
          let stands : Stands trace z = record { there = there; not_cut = λ i d inside. none i d inside } in
          closing-good problem sound trace is log lower nogoods k z (get_or bounds z None) stands
          (are_bounds.each z None (omega (arith, there, are_bounds.count))) (standing z stands)
      by_cut k within (Some i) cut_there =
          let z = 2 * length trace - k in
          let cut = get_or trace i no_cut in
          let same : cut.zone ≡ z = cut_there.1 no_cut in
          let small : k ≤ 2 * length trace = omega (arith, within, lines.count) in
          let inside : i < length trace = cut_there.0 in
          subst (λ n. IsGoodLine problem trace log lower k (line_by_cut (2 * length trace) bounds lower n (Some i))) same
          (firing-good problem sound trace is log lower nogoods i k cut (get_or bounds (2 * i + 2) None) inside
          (has-parts (whole_zone problem) trace is i no_cut inside) (omega (arith, same, small)) (omega (arith, within))
          (are_bounds.each (2 * i + 2) None (omega (arith, inside, are_bounds.count))))

      each_good : (k : ℕ) (d : LogLine) → k < length log → IsGoodLine problem trace log lower k (get_or log k d)
      each_good k d within =
          let z = 2 * length trace - k in
          subst (IsGoodLine problem trace log lower k) (sym (lines.each k d (omega (arith, within, lines.count))))
          (by_cut k within (get_or cuts z None) (are_cuts.each z None (omega (arith, are_cuts.count))))

      no_bounds : nogood_bounds problem trace (nogood_at log (length log - 1)) ≡ []
      no_bounds =
          let first : 2 * length trace - (length log - 1) ≡ 0 = omega (arith, lines.count) in
          ap (nogood_bounds problem trace) (nogoods (length log - 1) (omega (arith, lines.count)))
          ∙ ap (λ z. zone_bounds problem (zone_of problem trace z)) first
          ∙ ap (zone_bounds problem) (first-whole (whole_zone problem) trace is) ∙ whole-bounds problem
