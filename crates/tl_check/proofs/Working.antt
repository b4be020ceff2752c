-- When a trace was worked, zone by zone.
use Rattle.std.proofs.Common.{◌≡◌, ◌≢◌, ℕ, ◌+◌, ◌*◌, ◌<◌, ◌≤◌, List, []}
use Rattle.std.proofs.Common.{inl, inr, ◌⊎◌, length, get_or, Option, Some, None, sym, ap, ◌∙◌, subst, arith}
use Rattle.std.specs.Prelude.{MatchOption, IsSomeAnd}
use Rattle.std.proofs.lemmas.Bool.{cases_lt}
use Rattle.std.proofs.lemmas.List.{get_or_default}
use Rattle.std.proofs.lemmas.List.Elements.{All-nil}
use Rattle.tl_diff.specs.Bounds.{Bounds}
use Rattle.tl_problem.specs.declared.zone.Range.{Range}
use Rattle.tl_problem.specs.declared.work.Work.{Work}
use Rattle.tl_problem.specs.Problem.{ProblemModel}
use Rattle.tl_problem.specs.Sound.{IsSound}
use Rattle.tl_problem.specs.Agreement.{HasOneClass, DifferIn}
use Rattle.tl_problem.specs.Bounds.{HasNoWidths, IsBound}
use Rattle.tl_problem.specs.Works as works
use Rattle.tl_problem.specs.Works.{HasPage}
use Rattle.tl_problem.specs.declared.placed.Placed.{Placed}
use Rattle.tl_problem.specs.Placements.{IsOpening}
use Rattle.tl_problem.specs.Layouts.{WithinPage}
use Rattle.tl_problem.specs.Zones.{IsZone, InZone, range_at, first_in_class, last_in_class}
use Rattle.tl_problem.proofs.TightLaws.{least-unique, placement-unique}
use Rattle.tl_problem.proofs.BoundLaws.{bound-unique}
use Rattle.tl_problem.proofs.SetLaws.{found_bound-same}
use Rattle.tl_cert.specs.declared.trace.CutAt.{CutAt}
use Rattle.tl_cert.specs.Nogoods.{Meets, Breaks, zone_bounds}
use Rattle.tl_cert.specs.Traces.{Stands, zone_of}
use Rattle.tl_cert.specs.Worked.{IsBoundOf, IsClosedZone, IsWorkedBelow}
use Rattle.tl_cert.specs.declared.log.LogLine.{LogLine}
use Rattle.tl_check.specs.Verdicts.{IsGoodAt}
use Rattle.tl_cert.proofs.ZoneBounds.{zone-meets, zone-from_meets}
use Rattle.tl_check.specs.Matrices.{Describes}
use Rattle.tl_check.specs.inner.Traces.{CutsAreNeeded, IsEnough, AllClosed, SpanDiffers, HasOpening}

-- a work of a page leaves what no bound restricts
pub page-describes : (problem : ProblemModel) (work : Work) → HasPage problem work → Describes problem [] [] work.matrix.bounds
page-describes problem work h = record {
  keeps = record { sound = h.work_of.sound; page = h.work_of.keeps };
  to = λ widths left. record {
    page = h.work_of.keeps.page widths left;
    meets = All-nil (Meets problem widths);
    breaks =
        All-nil (Breaks problem widths);
  };
  from = λ widths left. h.whole widths left.page;
}

-- the bound of what is left under a zone's bounds is that of the zone
pub zone-bound : (problem : ProblemModel) → IsSound problem → (zone : List Range) → IsZone problem zone → (bounds : Bounds) →
    Describes problem (zone_bounds problem zone) [] bounds → (o : Option ℕ) →
    MatchOption o (HasNoWidths (works.AreAllowed problem bounds)) (IsBound problem (works.AreAllowed problem bounds)) →
    MatchOption o (HasNoWidths (InZone problem zone)) (IsBound problem (InZone problem zone))
zone-bound problem sound zone is bounds d o found =
    found_bound-same problem (works.AreAllowed problem bounds) (InZone problem zone)
    (λ widths left. let h = d.to widths left in zone-from_meets problem sound zone is widths h.page h.meets)
    (λ widths inside. d.from widths
    (record {
      page = inside.page;
      meets = zone-meets problem sound zone is widths inside;
      breaks =
          All-nil (Breaks problem widths);
    }))
    o found

-- ---- a bound that was found decides

module _ (problem : ProblemModel) (Among : List ℕ → Type 0) (P : ℕ → Type 0) where
  pub found-to : (o : Option ℕ) → MatchOption o (HasNoWidths Among) (IsBound problem Among) → IsSomeAnd o P
      → (bound : ℕ) × IsBound problem Among bound × P bound
  found-to None none h = absurd h
  found-to (Some bound) is h = (bound, is, h)

  pub found-from : (o : Option ℕ) → MatchOption o (HasNoWidths Among) (IsBound problem Among) → (bound : ℕ) →
      IsBound problem Among bound → P bound
      → IsSomeAnd o P
  found-from None none bound is h = absurd (none is.some.0 is.some.1)
  found-from (Some found) is bound other h = subst P (bound-unique problem Among bound found other is) h

-- ---- one cut more, one zone more

pub needed-next : (problem : ProblemModel) (trace : List CutAt) (height i : ℕ) (cut : CutAt) → i < length trace →
    cut ≡ get_or trace i cut →
    CutsAreNeeded problem trace height i → (bound : ℕ) × IsBoundOf problem trace cut.zone bound × (bound < height) →
    CutsAreNeeded problem trace height (i + 1)
needed-next problem trace height i cut within is before here j d less =
    elim (cases_lt j i) [
      | inl old ↦ before j d old
      | inr last ↦
          let same : j ≡ i = omega (arith, less, last) in
          let at : cut ≡ get_or trace j d = is ∙ get_or_default trace i cut d within ∙ ap (λ n. get_or trace n d) (sym same) in
          subst (λ (c : CutAt). (bound : ℕ) × IsBoundOf problem trace c.zone bound × (bound < height)) at here
    ]

pub enough-next : (problem : ProblemModel) (trace : List CutAt) (lower z : ℕ) → (IsEnough problem trace lower z → ⊥) →
    (Stands trace z → (bound : ℕ) → IsBoundOf problem trace z bound → bound ≤ lower → ⊥) →
    IsEnough problem trace lower (z + 1) → ⊥
enough-next problem trace lower z before here (zone, bound, within, stands, is, enough) =
    elim (cases_lt zone z) [
      | inl old ↦ before (zone, bound, old, stands, is, enough)
      | inr last ↦
          let same : zone ≡ z = omega (arith, within, last) in
          here (subst (Stands trace) same stands) bound (subst (λ n. IsBoundOf problem trace n bound) same is) enough
    ]

pub closed-next : (problem : ProblemModel) (trace : List CutAt) (height z : ℕ) → AllClosed problem trace height z →
    (Stands trace z → IsClosedZone problem (zone_of problem trace z) height) → AllClosed problem trace height (z + 1)
closed-next problem trace height z before here zone within stands =
    elim (cases_lt zone z) [
      | inl old ↦ before zone old stands
      | inr last ↦
          let same : z ≡ zone = omega (arith, within, last) in
          subst (λ n. IsClosedZone problem (zone_of problem trace n) height) same (here (subst (Stands trace) (sym same) stands))
    ]

-- ---- a zone is closed

pub closed-none : (problem : ProblemModel) (zone : List Range) (height : ℕ) → HasNoWidths (InZone problem zone) →
    IsClosedZone problem zone height
closed-none problem zone height none = inl none

pub closed-some : (problem : ProblemModel) (zone : List Range) (height bound : ℕ) →
    IsBound problem (InZone problem zone) bound → bound < height →
    IsClosedZone problem zone height → HasOneClass zone × DifferIn problem zone
closed-some problem zone height bound is low (inl none) = absurd (none is.some.0 is.some.1)
closed-some problem zone height bound is low (inr (inl (other, also, enough))) =
    absurd (omega (arith, low, enough, bound-unique problem (InZone problem zone) bound other is also))
closed-some problem zone height bound is low (inr (inr both)) = both

-- ---- `low` and `high` differ at a span

pub differ-from : (problem : ProblemModel) (zone : List Range) (s : ℕ) → s < length zone → (r : Range) → r ≡ range_at zone s →
    SpanDiffers problem s (first_in_class problem s r.first) (last_in_class problem s r.last) (length problem.cells) →
    DifferIn problem zone
differ-from problem zone s within r is (k, cell, less, there, at, has, (w, from, upto, differ)) = record {
  s = s;
  w = w;
  cell = cell;
  span = within;
  width = (
    subst (λ (q : Range). first_in_class problem s q.first ≤ w) is from,
    subst (λ (q : Range). w ≤ last_in_class problem s q.last) is upto,
  );
  inside = (k, there, at);
  has = has;
  differ = differ;
}

pub differ-next : (problem : ProblemModel) (zone : List Range) (s : ℕ) (r : Range) → r ≡ range_at zone s →
    ((d : DifferIn problem zone) → d.s < s → ⊥) →
    (SpanDiffers problem s (first_in_class problem s r.first) (last_in_class problem s r.last) (length problem.cells) → ⊥) →
    (d : DifferIn problem zone) → d.s < s + 1 → ⊥
differ-next problem zone s r is before here d less =
    elim (cases_lt d.s s) [
      | inl old ↦ before d old
      | inr last ↦
          let same : d.s ≡ s = omega (arith, less, last) in
          let P : ℕ → Type 0 = λ t. SpanDiffers problem t (first_in_class problem t (range_at zone t).first)
          (last_in_class problem t (range_at zone t).last)
          (length problem.cells) in
          let found : P d.s = (
            d.inside.0,
            d.cell,
            d.inside.1,
            d.inside.1,
            d.inside.2,
            d.has,
            (d.w, d.width.0, d.width.1, d.differ),
          ) in
          here (subst (λ (q : Range). SpanDiffers problem s (first_in_class problem s q.first) (last_in_class problem s q.last)
          (length problem.cells)) (sym is)
          (subst P same found))
    ]

-- ---- worked with a gap

opening-unique : (problem : ProblemModel) (first second : Placed) → IsOpening problem first → IsOpening problem second →
    first ≡ second
opening-unique problem first second one other = placement-unique problem first second
    (least-unique problem.spacing.gap (WithinPage problem) first.widths second.widths
    (one.placement.page.columns ∙ sym other.placement.page.columns) one.columns other.columns) one.placement other.placement

module _ (problem : ProblemModel) (trace : List CutAt) (height lower budget opening : ℕ) (is : HasOpening problem opening) where
  pub below-from : CutsAreNeeded problem trace opening (length trace) → IsEnough problem trace lower (2 * length trace + 1) →
      ((length trace ≡ budget) ⊎ AllClosed problem trace height (2 * length trace + 1)) →
      IsWorkedBelow problem trace height lower budget
  below-from needed enough ended = record {
    opening = is.0;
    is_opening = is.1;
    cut_zones = λ i d within. let found = needed i d within in (found.0, found.1, omega (arith, found.2, is.2));
    enough = (enough.0, enough.1, enough.3, enough.4, enough.5);
    ended = elim ended [
      | inl all ↦ inl all
      | inr closed ↦ inr (λ z stands. closed z stands.there stands)
    ];
  }

  pub below-needed : IsWorkedBelow problem trace height lower budget → CutsAreNeeded problem trace opening (length trace)
  below-needed h i d within =
      let found = h.cut_zones i d within in
      let same = ap (λ (p : Placed). p.height) (opening-unique problem h.opening is.0 h.is_opening is.1) in
      (found.0, found.1, omega (arith, found.2, same, is.2))

  pub below-enough : IsWorkedBelow problem trace height lower budget → IsEnough problem trace lower (2 * length trace + 1)
  below-enough h = (h.enough.0, h.enough.1, h.enough.2.there, h.enough.2, h.enough.3, h.enough.4)

  pub below-closed : (length trace ≢ budget) → IsWorkedBelow problem trace height lower budget →
      AllClosed problem trace height (2 * length trace + 1)
  below-closed more h = elim h.ended [
    | inl all ↦ absurd (more all)
    | inr closed ↦ λ z within stands. closed z stands
  ]

-- ---- one line more

pub good-next : (problem : ProblemModel) (trace : List CutAt) (log : List LogLine) (lower k : ℕ) →
    ((j : ℕ) → j < k → IsGoodAt problem trace log lower j) →
    IsGoodAt problem trace log lower k → (j : ℕ) → j < k + 1 → IsGoodAt problem trace log lower j
good-next problem trace log lower k before here j less =
    elim (cases_lt j k) [
      | inl old ↦ before j old
      | inr last ↦ let same : k ≡ j = omega (arith, less, last) in subst (IsGoodAt problem trace log lower) same here
    ]
