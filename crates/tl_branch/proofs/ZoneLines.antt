-- The lines of zones are good: of those that have no widths or a high bound, of those that imply a nogood, and of those that
-- are cut, by the lines of their parts. And lines of a zone's bounds can be written.
use Rattle.std.proofs.Common.{◌≡◌, ℕ, ◌+◌, ◌*◌, ◌<◌, ◌≤◌, ◌⊎◌, nat_lt, if◌then◌else◌, List, [], ◌∷◌}
use Rattle.std.proofs.Common.{◌++◌, ◌||◌, ◌&&◌, ◌==◌, IsTrue, inl, inr, length, get_or, Option, Some, None, refl, sym, ap, ◌∙◌}
use Rattle.std.proofs.Common.{subst, arith}
use Rattle.std.specs.List.{All, AllPairs, AllByRecursion, Contains, flat_map}
use Rattle.std.proofs.lemmas.Bool.Decides.{nat_tests}
use Rattle.std.proofs.lemmas.List.Elements.{All-nil, All-cons, All-contains, Contains-append_cases}
use Rattle.tl_base.specs.declared.limits.TheConstants.{MAX_PAGE_WIDTH}
use Rattle.tl_base.proofs.Members.{All-from_Contains, Contains-first, Contains-later, Contains-cases, Contains-none}
use Rattle.tl_base.proofs.Members.{AllByRecursion-append, AllPairs-tail}
use Rattle.tl_problem.specs.declared.zone.Range.{Range}
use Rattle.tl_problem.specs.Problem.{ProblemModel}
use Rattle.tl_problem.specs.Sound.{IsSound}
use Rattle.tl_problem.specs.Zones.{IsZone, InZone, range_at, whole_zone, lower_part, upper_part, first_in_class, last_in_class}
use Rattle.tl_problem.specs.Zones.{classes_at}
use Rattle.tl_problem.specs.Bounds.{HasNoWidths, IsBound}
use Rattle.tl_problem.proofs.ConstraintLemmas.{class-small}
use Rattle.tl_problem.proofs.SetLaws.{bound-same}
use Rattle.tl_problem.proofs.SpanLaws.{class-in_page}
use Rattle.tl_problem.proofs.SpanningLemmas.{spans-few}
use Rattle.tl_problem.proofs.ZoneLaws.{whole-is_zone}
use Rattle.tl_cert.specs.declared.limits.TheConstants.{MAX_BOUNDS, MAX_LINE, MAX_SPAN, MAX_ZONE}
use Rattle.tl_cert.specs.declared.log.Bound.{Bound}
use Rattle.tl_cert.specs.declared.log.End.{End}
use Rattle.tl_cert.specs.declared.log.End.TheVariants.{Fired, Cycle, Chain}
use Rattle.tl_cert.specs.declared.log.LogLine.{LogLine}
use Rattle.tl_cert.specs.declared.log.Nogood.TheVariants.{Bounds}
use Rattle.tl_cert.specs.declared.log.Side.{Side}
use Rattle.tl_cert.specs.declared.log.Side.TheVariants.{Most, Least}
use Rattle.tl_cert.specs.declared.trace.CutAt.{CutAt}
use Rattle.tl_cert.specs.Implied.{IsLeft, Implied, OneLeft}
use Rattle.tl_cert.specs.Lines.{nogood_at, IsGoodLine}
use Rattle.tl_cert.specs.Nogoods.{at_most, at_least, zone_bounds, nogood_bounds, NamesAreThere}
use Rattle.tl_cert.specs.Pieces.{character, word, IsPieceInRange, AllWithin}
use Rattle.tl_cert.specs.Text.{space, fire_pieces, end_word, bound_pieces, bounds_pieces, AreInOrder}
use Rattle.tl_cert.specs.Text.{side_sign}
use Rattle.tl_cert.specs.Traces.{IsTraceOf, IsZoneOf, zone_of}
use Rattle.tl_cert.proofs.CutParts.{HasParts}
use Rattle.tl_cert.proofs.FireLaws.{bound-decides}
use Rattle.tl_cert.proofs.TraceLaws.{zones-are}
use Rattle.tl_cert.proofs.ZoneBounds.{bound-of_range, Contains-given}
use Rattle.tl_cert.proofs.reading.Words.{within-word}
use Rattle.tl_solve.specs.Arenas.{IsBoundFound}
use Rattle.tl_solve.proofs.Firing.{left-inside, inside-left, lower-implied, upper-implied, lower-but_one}
use Rattle.tl_solve.proofs.Writable.{all-flat_map, fire-within}
use Rattle.tl_store.specs.Stores.{BoundComesFirst, bound_place, side_place}
use Rattle.tl_branch.specs.inner.Learnings.{IsLineWritable, line_of}

-- ---- zones that stand

module _ (problem : ProblemModel) (sound : IsSound problem) (trace : List CutAt) (is : IsTraceOf problem trace)
    (log : List LogLine) (height k z : ℕ) (there : IsZoneOf trace z) where
  abbrev zone : List Range
  zone = zone_of problem trace z

  is_zone : IsZone problem zone
  is_zone = zones-are problem sound trace is z there

  pub cycle-good : HasNoWidths (InZone problem (zone_of problem trace z)) →
      IsGoodLine problem trace log height k (line_of z [] Cycle)
  cycle-good none = record {
    names = there;
    earlier = All-nil (λ f. (f < k) × NamesAreThere problem trace (nogood_at log f));
    joined = [];
    fires = refl;
    ends = λ widths left. none widths (left-inside problem sound zone is_zone [] widths left);
  }

  pub chain-good : (bound : ℕ) → IsBound problem (InZone problem (zone_of problem trace z)) bound → height ≤ bound →
      IsGoodLine problem trace log height k (line_of z [] Chain)
  chain-good bound found enough = record {
    names = there;
    earlier = All-nil (λ f. (f < k) × NamesAreThere problem trace (nogood_at log f));
    joined = [];
    fires = refl;
    ends = (
      bound,
      bound-same problem (InZone problem zone) (IsLeft problem (zone_bounds problem zone) [])
          (inside-left problem sound zone is_zone) (left-inside problem sound zone is_zone []) bound found,
      enough,
    );
  }

  -- a line that is implied whole closes the zone
  pub one-good : (f : ℕ) → f < k → NamesAreThere problem trace (nogood_at log f) →
      All (Implied problem (InZone problem (zone_of problem trace z))) (nogood_bounds problem trace (nogood_at log f)) →
      IsGoodLine problem trace log height k (line_of z (f ∷ []) Fired)
  one-good f before named all =
      let implied : All (Implied problem (IsLeft problem (zone_bounds problem zone) []))
      (nogood_bounds problem trace (nogood_at log f)) =
      λ i d within widths left. all i d within widths (left-inside problem sound zone is_zone [] widths left) in
      record {
        names = there;
        earlier = All-cons (λ g. (g < k) × NamesAreThere problem trace (nogood_at log g)) f [] (before, named)
            (All-nil (λ g. (g < k) × NamesAreThere problem trace (nogood_at log g)));
        joined = [];
        fires = inl (implied, refl);
        ends = implied;
      }

-- ---- zones that are cut

contains-cases : (xs : List Bound) (b : Bound) → Contains xs b ⊎ (Contains xs b → ⊥)
contains-cases [] b = inr (λ has. Contains-none b has)
contains-cases (x ∷ xs) b = elim (bound-decides x b) [
  | inl same ↦ inl (subst (Contains (x ∷ xs)) same (Contains-first x xs))
  | inr apart ↦ elim (contains-cases xs b) [
    | inl has ↦ inl (Contains-later x xs b has)
    | inr lacks ↦ inr (λ has. elim (Contains-cases x xs b has) [ inl same ↦ apart same | inr later ↦ lacks later ])
  ]
]

module _ (problem : ProblemModel) (sound : IsSound problem) (trace : List CutAt) (is : IsTraceOf problem trace)
    (log : List LogLine) (height k i : ℕ) (cut : CutAt) (within : i < length trace)
    (parts : HasParts (whole_zone problem) trace i cut) (low high : ℕ) (low_before : low < k) (high_before : high < k)
    (low_named : NamesAreThere problem trace (nogood_at log low)) (high_named : NamesAreThere problem trace (nogood_at log high))
    (low_among : (b : Bound) → Contains (nogood_bounds problem trace (nogood_at log low)) b →
    Contains (zone_bounds problem (zone_of problem trace (2 * i + 1))) b)
    (high_among : (b : Bound) → Contains (nogood_bounds problem trace (nogood_at log high)) b →
    Contains (zone_bounds problem (zone_of problem trace (2 * i + 2))) b)
    (found : Option ℕ) (is_found : IsBoundFound problem (zone_of problem trace (2 * i + 2)) found) where
  abbrev parent : List Range
  parent = zone_of problem trace cut.zone

  parent_there : IsZoneOf trace cut.zone
  parent_there = omega (arith, parts.before, within)

  is_parent : IsZone problem parent
  is_parent = zones-are problem sound trace is cut.zone parent_there

  span : cut.span < length parent
  span = omega (arith, parts.span, is_parent.spans, (whole-is_zone problem).spans)

  abbrev b : Bound
  b = at_most cut.span (last_in_class problem cut.span cut.class)

  abbrev low_bounds : List Bound
  low_bounds = nogood_bounds problem trace (nogood_at log low)

  in_lower : (other : Bound) → Contains low_bounds other → Contains (zone_bounds problem (lower_part parent cut.span cut.class)) other
  in_lower other has = subst (λ (part : List Range). Contains (zone_bounds problem part) other) parts.low_is (low_among other has)

  in_upper : (other : Bound) → Contains (nogood_bounds problem trace (nogood_at log high)) other →
      Contains (zone_bounds problem (upper_part parent cut.span cut.class)) other
  in_upper other has = subst (λ (part : List Range). Contains (zone_bounds problem part) other) parts.high_is
      (high_among other has)

  -- where the line of the lower part is not enough alone, those of both parts are
  pub both-good : (IsGoodLine problem trace log height k (line_of cut.zone (low ∷ []) Fired) → ⊥) →
      IsGoodLine problem trace log height k (line_of cut.zone (low ∷ high ∷ []) Fired)
  both-good alone = by_upper found is_found where
    by_upper : (o : Option ℕ) → IsBoundFound problem (zone_of problem trace (2 * i + 2)) o →
        IsGoodLine problem trace log height k (line_of cut.zone (low ∷ high ∷ []) Fired)
    by_upper None none =
        let empty : HasNoWidths (InZone problem (upper_part parent cut.span cut.class)) =
        subst (λ (part : List Range). HasNoWidths (InZone problem part)) parts.high_is none in
        let all = lower-implied problem sound parent is_parent cut.span cut.class span parts.lower parts.upper empty in
        absurd (alone (one-good problem sound trace is log height k cut.zone parent_there low low_before low_named
        (All-from_Contains (Implied problem (InZone problem parent)) low_bounds (λ other among widths inside.
        All-contains (Implied problem (IsLeft problem (zone_bounds problem parent) []))
        (zone_bounds problem (lower_part parent cut.span cut.class)) other all (in_lower other among) widths
        (inside-left problem sound parent is_parent widths inside)))))
    by_upper (Some bound) some =
        let widths = some.some.0 in
        let inside = subst (λ (part : List Range). InZone problem part widths) parts.high_is some.some.1 in
        let one = lower-but_one problem sound parent is_parent cut.span cut.class span parts.lower parts.upper widths inside in
        elim (contains-cases low_bounds b) [
          | inr lacks ↦ absurd (alone (one-good problem sound trace is log height k cut.zone parent_there low low_before low_named
              (All-from_Contains (Implied problem (InZone problem parent)) low_bounds (λ other has ws within_zone.
              one.others other (in_lower other has) (λ same. lacks (subst (Contains low_bounds) same has)) ws
              (inside-left problem sound parent is_parent ws within_zone)))))
          | inl has ↦
              let all = upper-implied problem sound parent is_parent cut.span cut.class span parts.lower parts.upper in
              let implied : All (Implied problem (IsLeft problem (zone_bounds problem parent) (b ∷ [])))
              (nogood_bounds problem trace (nogood_at log high)) =
              All-from_Contains (Implied problem (IsLeft problem (zone_bounds problem parent) (b ∷ [])))
              (nogood_bounds problem trace (nogood_at log high)) (λ other among.
              All-contains (Implied problem (IsLeft problem (zone_bounds problem parent) (b ∷ [])))
              (zone_bounds problem (upper_part parent cut.span cut.class)) other all (in_upper other among)) in
              let left : OneLeft problem (IsLeft problem (zone_bounds problem parent) []) low_bounds b = record {
                among = has;
                not_implied = one.not_implied;
                others = λ other among apart. one.others other (in_lower other among) apart;
              } in
              record {
                names = parent_there;
                earlier = All-cons (λ g. (g < k) × NamesAreThere problem trace (nogood_at log g)) low (high ∷ [])
                    (low_before, low_named)
                    (All-cons (λ g. (g < k) × NamesAreThere problem trace (nogood_at log g)) high [] (high_before, high_named)
                    (All-nil (λ g. (g < k) × NamesAreThere problem trace (nogood_at log g))));
                joined = b ∷ [];
                fires = inr (b, left, inl (implied, refl));
                ends = implied;
              }
        ]

-- ---- lines that can be written

-- what follows the nogood in a line
tail-within : (fires : List ℕ) (end : End) → All (λ f. f ≤ MAX_LINE) fires →
    AllWithin (flat_map fire_pieces fires ++ (character space ∷ word (end_word end)))
tail-within fires end few = AllByRecursion-append IsPieceInRange (flat_map fire_pieces fires)
    (character space ∷ word (end_word end))
    (all-flat_map IsPieceInRange fire_pieces fires (λ i d within. fire-within (get_or fires i d) (few i d within)))
    (tt, within-word (end_word end))

pub zone_line-writable : (z : ℕ) (fires : List ℕ) (end : End) → z ≤ MAX_ZONE → All (λ f. f ≤ MAX_LINE) fires → length fires ≤ 2 →
    IsLineWritable (line_of z fires end)
zone_line-writable z fires end small few short = record {
  shaped = record { nogood = tt; fires = omega (arith, short) };
  within = (tt, ((omega arith, small), tail-within fires end few));
}

module _ (problem : ProblemModel) (sound : IsSound problem) (zone : List Range) (is : IsZone problem zone) where
  -- a bound of a zone is that of the last class of a range, or of the first
  abbrev IsOfRange : Bound → Type 0
  IsOfRange bound = (s : ℕ) × (s < length zone) × ((bound ≡ at_most s (last_in_class problem s (range_at zone s).last))
      ⊎ (bound ≡ at_least s (first_in_class problem s (range_at zone s).first)))

  of-range : (bound : Bound) → Contains (zone_bounds problem zone) bound → IsOfRange bound
  of-range bound has =
      let found = bound-of_range problem zone bound has in
      let s = found.0 in
      let r = range_at zone s in
      let upper = nat_lt (r.last + 1) (length (classes_at problem s)) in
      let lower = nat_lt 0 r.first in (
        s,
        found.1,
        elim (Contains-append_cases (if upper then at_most s (last_in_class problem s r.last) ∷ [] else [])
            (if lower then at_least s (first_in_class problem s r.first) ∷ [] else []) bound found.2) [
              | inl most ↦ inl (sym (Contains-given upper (at_most s (last_in_class problem s r.last)) bound most))
              | inr least ↦ inr (sym (Contains-given lower (at_least s (first_in_class problem s r.first)) bound least))
            ],
      )

  bound-small : (bound : Bound) → Contains (zone_bounds problem zone) bound → (bound.span ≤ MAX_SPAN) × (bound.width ≤ MAX_PAGE_WIDTH)
  bound-small bound has =
      let found = of-range bound has in
      let s = found.0 in
      let ends = is.ranges s found.1 in
      let few = spans-few problem sound in
      let span : s ≤ MAX_SPAN = omega (arith, found.1, is.spans, few) in
      elim found.2 [
        | inl most ↦
            let room = class-in_page problem sound s (range_at zone s).last ends.1 in
            rw most (span, omega (arith, room, sound.narrow))
        | inr least ↦
            let room = class-small problem sound s (range_at zone s).first (omega (arith, found.1, is.spans))
            (omega (arith, ends.0, ends.1)) in
            rw least (span, room)
      ]

  -- no two bounds of a zone are at one place
  one-place : (one other : Bound) → Contains (zone_bounds problem zone) one → Contains (zone_bounds problem zone) other →
      bound_place one ≡ bound_place other → one.width ≡ other.width
  one-place one other has_one has_other same = by (of-range one has_one) (of-range other has_other) where
    by : IsOfRange one → IsOfRange other → one.width ≡ other.width
    by (s, _, inl most) (t, _, inl also) =
        let span : s ≡ t = omega (arith, same, ap bound_place most, ap bound_place also) in
        ap (λ (x : Bound). x.width) most ∙ ap (λ (n : ℕ). last_in_class problem n (range_at zone n).last) span
        ∙ sym (ap (λ (x : Bound). x.width) also)
    by (s, _, inl most) (t, _, inr least) = absurd (omega (arith, same, ap bound_place most, ap bound_place least))
    by (s, _, inr least) (t, _, inl most) = absurd (omega (arith, same, ap bound_place least, ap bound_place most))
    by (s, _, inr least) (t, _, inr also) =
        let span : s ≡ t = omega (arith, same, ap bound_place least, ap bound_place also) in
        ap (λ (x : Bound). x.width) least ∙ ap (λ (n : ℕ). first_in_class problem n (range_at zone n).first) span
        ∙ sym (ap (λ (x : Bound). x.width) also)

  -- so bounds in order may be written one after the other
  sides-before : (one other : Side) (s t : ℕ) → 2 * s + side_place one < 2 * t + side_place other →
      IsTrue (nat_lt s t || (s == t && (side_sign one == 45 && side_sign other == 43)))
  sides-before Most Most s t less = grind (arith, nat_tests)
  sides-before Most Least s t less = grind (arith, nat_tests)
  sides-before Least Most s t less = grind (arith, nat_tests)
  sides-before Least Least s t less = grind (arith, nat_tests)

  in-order : (bounds : List Bound) → AllPairs BoundComesFirst bounds →
      ((b : Bound) → Contains bounds b → Contains (zone_bounds problem zone) b) → AreInOrder bounds
  in-order [] sorted among = tt
  in-order (one ∷ []) sorted among = tt
  in-order (one ∷ other ∷ bounds) sorted among =
      let first : BoundComesFirst one other = sorted 0 1 one (omega arith) (omega arith) in
      let place : bound_place one < bound_place other = elim first [
        | inl less ↦ less
        | inr tie ↦
            let width = one-place one other (among one (Contains-first one (other ∷ bounds)))
            (among other (Contains-later one (other ∷ bounds) other (Contains-first other bounds))) tie.0 in
            absurd (omega (arith, width, tie.1))
      ] in (
        sides-before one.side other.side one.span other.span place,
        in-order (other ∷ bounds) (AllPairs-tail BoundComesFirst one (other ∷ bounds) sorted)
            (λ b has. among b (Contains-later one (other ∷ bounds) b has)),
      )

  bound-within : (bound : Bound) → Contains (zone_bounds problem zone) bound → AllWithin (bound_pieces bound)
  bound-within bound has =
      let small = bound-small bound has in
      ((omega arith, small.0), (tt, ((omega arith, small.1), tt)))

  bounds-within : (bounds : List Bound) → ((b : Bound) → Contains bounds b → Contains (zone_bounds problem zone) b) →
      AllWithin (bounds_pieces bounds)
  bounds-within [] among = tt
  bounds-within (first ∷ bounds) among = AllByRecursion-append IsPieceInRange (bound_pieces first)
      (flat_map (λ more. character space ∷ bound_pieces more) bounds)
      (bound-within first (among first (Contains-first first bounds)))
      (all-flat_map IsPieceInRange (λ more. character space ∷ bound_pieces more) bounds
      (All-from_Contains (λ more. AllByRecursion IsPieceInRange (character space ∷ bound_pieces more)) bounds
      (λ more has. (tt, bound-within more (among more (Contains-later first bounds more has))))))

  pub bounds_line-writable : (bounds : List Bound) (fires : List ℕ) (end : End) → 1 ≤ length bounds → length bounds ≤ MAX_BOUNDS →
      AllPairs BoundComesFirst bounds → ((b : Bound) → Contains bounds b → Contains (zone_bounds problem zone) b) →
      All (λ f. f ≤ MAX_LINE) fires → length fires ≤ 2 →
      IsLineWritable (record { nogood = Bounds bounds; fires = fires; end = end })
  bounds_line-writable bounds fires end some most sorted among few short = record {
    shaped = record {
      nogood = record { some = some; most = most; ordered = in-order bounds sorted among };
      fires = omega (arith, short);
    };
    within = AllByRecursion-append IsPieceInRange (bounds_pieces bounds)
        (flat_map fire_pieces fires ++ (character space ∷ word (end_word end))) (bounds-within bounds among)
        (tail-within fires end few);
  }
