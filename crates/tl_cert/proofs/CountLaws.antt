-- The zones of a trace that stand are one more than its cuts, and partition the class vectors of the problem.
use Rattle.std.proofs.Common.{◌≡◌, ◌≢◌, ℕ, ◌+◌, ◌*◌, ◌<◌, ◌≤◌, zero, suc, Bool, true, false, not, nat_eq, List, []}
use Rattle.std.proofs.Common.{◌∷◌, ◌++◌, ◌⊎◌, inl, inr, length, map, filter, get_or, set, refl, sym, ap, ◌∙◌, subst, arith}
use Rattle.std.proofs.Common.{length-append, length-set}
use Rattle.std.specs.List.{All, AllPairs, Contains, sum_by}
use Rattle.std.proofs.lemmas.Bool.{cases_lt, cases_Bool, eqb-true, eq-eqb}
use Rattle.std.proofs.lemmas.List.{length-map, get_or-map, get_or-set_same, get_or-set_other}
use Rattle.std.proofs.lemmas.List.Sums.{sum_by-cons, sum_by-append}
use Rattle.std.proofs.lemmas.List.Elements.{All-contains, Contains-append_left, Contains-append_right, Contains-append_cases}
use Rattle.tl_base.proofs.Members.{All-from_Contains, Contains-first, Contains-later, Contains-cases, Contains-none}
use Rattle.tl_base.proofs.Members.{Contains-filter}
use Rattle.tl_base.proofs.Members.{filter-Contains, AllPairs-none, AllPairs-cons, AllPairs-head, AllPairs-tail, AllPairs-append}
use Rattle.tl_base.proofs.Members.{AllPairs-filter}
use Rattle.tl_problem.specs.declared.zone.Range.{Range}
use Rattle.tl_problem.specs.Problem.{ProblemModel}
use Rattle.tl_problem.specs.Sound.{IsSound}
use Rattle.tl_problem.specs.Zones.{range, range_at, IsZone, whole_zone, lower_part, upper_part, IsVector, HasVector}
use Rattle.tl_problem.proofs.ZoneLaws.{cases_eq, whole-is_zone, whole-vector}
use Rattle.tl_problem.proofs.ZoneSizes.{size, size-cut, size-some, size-whole}
use Rattle.tl_cert.specs.declared.trace.CutAt.{CutAt}
use Rattle.tl_cert.specs.Traces.{zone_at, Stands, IsCut, IsTrace}
use Rattle.tl_cert.specs.Counting.{AreStanding, PartsVectors}
use Rattle.tl_cert.proofs.TraceLaws.{zone-old, zone-lower, zone-upper, zone-cases, stands-old, stood-before, trace-by, stands-new}
use Rattle.tl_cert.proofs.TraceLaws.{zones-are}

-- ---- a rising list without one of its numbers

-- whether a number is another
abbrev other_than : ℕ → ℕ → Bool
other_than c z = not (nat_eq z c)

other-true : (c z : ℕ) → c ≢ z → other_than c z ≡ true
other-true c z apart =
    elim (cases_Bool (nat_eq z c)) [ inl same ↦ absurd (apart (sym (eqb-true z c same))) | inr differ ↦ ap not differ ]

other-not : (c z : ℕ) → other_than c z ≡ true → c ≢ z
other-not c z other same = let eq = eq-eqb z c (sym same) in let f = ap not eq in cc

other-false : (c : ℕ) → other_than c c ≡ false
other-false c = ap not (eq-eqb c c refl)

-- numbers past `c` are all other than it
filter-past : (c : ℕ) (zs : List ℕ) → All (λ z. c < z) zs → filter (other_than c) zs ≡ zs
filter-past c [] past = refl
filter-past c (z ∷ zs) past =
    let first = other-true c z (λ same. let less = past 0 z (omega arith) in omega arith) in
    rw first (ap (λ rest. z ∷ rest) (filter-past c zs (λ k d within. past (suc k) d (omega arith))))

-- what the numbers weigh without `c`, and `c`
without-weighs : (g : ℕ → ℕ) (c : ℕ) (zs : List ℕ) → AllPairs (λ a b. a < b) zs → Contains zs c →
    sum_by g (filter (other_than c) zs) + g c ≡ sum_by g zs
without-weighs g c [] rising has = absurd (Contains-none c has)
without-weighs g c (z ∷ zs) rising has =
    let whole = sum_by-cons g z zs in
    elim (Contains-cases z zs c has) [
      | inl here ↦
          let gone = subst (λ n. other_than n z ≡ false) here (other-false z) in
          let rest = filter-past c zs (λ k d within. subst (λ n. n < get_or zs k d) here
          (AllPairs-head (λ a b. a < b) z zs rising k d within)) in
          rw gone (rw rest (omega (arith, whole, ap g here)))
      | inr later ↦
          let less = All-contains (λ y. z < y) zs c (AllPairs-head (λ a b. a < b) z zs rising) later in
          let kept = other-true c z (λ same. omega arith) in
          let rest = without-weighs g c zs (AllPairs-tail (λ a b. a < b) z zs rising) later in
          let head = sum_by-cons g z (filter (other_than c) zs) in
          rw kept (omega (arith, whole, rest, head))
    ]

-- sums over lists on whose elements the terms agree
sum_by-same_on : (f g : ℕ → ℕ) (zs : List ℕ) → All (λ z. f z ≡ g z) zs → sum_by f zs ≡ sum_by g zs
sum_by-same_on f g [] same = refl
sum_by-same_on f g (z ∷ zs) same = omega (
  arith,
  sum_by-cons f z zs,
  sum_by-cons g z zs,
  same 0 z (omega arith),
  sum_by-same_on f g zs (λ k d within. same (suc k) d (omega arith)),
)

-- ---- the standing zones of a trace

-- what stands after a further cut: what stood, but for the zone that is cut, and its two parts
standing-more : List CutAt → CutAt → List ℕ → List ℕ
standing-more trace cut zones = filter (other_than cut.zone) zones ++ (2 * length trace + 1) ∷ (2 * length trace + 2) ∷ []

module _ (whole : List Range) (trace : List CutAt) (cut : CutAt) (is : IsTrace whole trace) (now : IsCut whole trace cut)
    (zones : List ℕ)
    (are : AreStanding trace zones) where
  standing-are : AreStanding (trace ++ cut ∷ []) (standing-more trace cut zones)
  unfolding standing-more
  standing-are = record {
    rising = AllPairs-append (λ a b. a < b) (filter (other_than cut.zone) zones)
        ((2 * length trace + 1) ∷ (2 * length trace + 2) ∷ [])
        (AllPairs-filter (λ a b. a < b) (other_than cut.zone) zones are.rising)
        (AllPairs-cons (λ a b. a < b) (2 * length trace + 1) ((2 * length trace + 2) ∷ []) (λ k d within. one_more k d within)
        (AllPairs-cons (λ a b. a < b) (2 * length trace + 2) [] (λ k d within. absurd (omega arith))
        (AllPairs-none (λ a b. a < b))))
        (λ a b left right.
        let stands = (are.each a).0 (filter-Contains (other_than cut.zone) zones a left).0 in
        let low = stands.there in
        elim (Contains-cases (2 * length trace + 1) ((2 * length trace + 2) ∷ []) b right) [
          | inl first ↦ omega arith
          | inr later ↦ elim (Contains-cases (2 * length trace + 2) [] b later)
              [ inl second ↦ omega arith | inr none ↦ absurd (Contains-none b none) ]
        ]);
    each = λ z. (to_stands z, from_stands z);
  } where
    one_more : (k d : ℕ) → k < 1 → 2 * length trace + 1 < get_or ((2 * length trace + 2) ∷ []) k d
    one_more zero d within = omega arith
    one_more (suc k) d within = absurd (omega arith)

    to_stands : (z : ℕ) → Contains (standing-more trace cut zones) z → Stands (trace ++ cut ∷ []) z
    to_stands z has =
        elim (Contains-append_cases (filter (other_than cut.zone) zones) ((2 * length trace + 1) ∷ (2 * length trace + 2) ∷ [])
        z has) [
          | inl old ↦ let kept = filter-Contains (other_than cut.zone) zones z old in
              stands-old whole trace cut z ((are.each z).0 kept.0) (other-not cut.zone z kept.1)
          | inr new ↦ elim (Contains-cases (2 * length trace + 1) ((2 * length trace + 2) ∷ []) z new) [
            | inl first ↦ stands-new whole trace cut is now z (omega arith) (omega arith)
            | inr later ↦ elim (Contains-cases (2 * length trace + 2) [] z later) [
              | inl second ↦
                  stands-new whole trace cut is now z (omega arith) (omega arith)
              | inr none ↦ absurd (Contains-none z none)
            ]
          ]
        ]

    from_stands : (z : ℕ) → Stands (trace ++ cut ∷ []) z → Contains (standing-more trace cut zones) z
    from_stands z stands =
        elim (zone-cases whole trace cut z stands.there) [
          | inl old ↦
              let before = stood-before whole trace cut z stands old in
              Contains-append_left (filter (other_than cut.zone) zones) ((2 * length trace + 1) ∷ (2 * length trace + 2) ∷ []) z
              (Contains-filter (other_than cut.zone) zones z (other-true cut.zone z before.1) ((are.each z).1 before.0))
          | inr (inl first) ↦ Contains-append_right (filter (other_than cut.zone) zones)
              ((2 * length trace + 1) ∷ (2 * length trace + 2) ∷ []) z
              (subst (Contains ((2 * length trace + 1) ∷ (2 * length trace + 2) ∷ [])) (sym first)
              (Contains-first (2 * length trace + 1) ((2 * length trace + 2) ∷ [])))
          | inr (inr second) ↦ Contains-append_right (filter (other_than cut.zone) zones)
              ((2 * length trace + 1) ∷ (2 * length trace + 2) ∷ []) z
              (Contains-later (2 * length trace + 1) ((2 * length trace + 2) ∷ []) z
              (subst (Contains ((2 * length trace + 2) ∷ [])) (sym second) (Contains-first (2 * length trace + 2) [])))
        ]

  -- of a weight of which a cut zone has as much as its two parts, the standing zones have as much after the cut
  standing-weighs : (f : List Range → ℕ) →
      f (lower_part (zone_at whole trace cut.zone) cut.span cut.class) + f
      (upper_part (zone_at whole trace cut.zone) cut.span cut.class) ≡ f
      (zone_at whole trace cut.zone) →
      sum_by (λ z. f (zone_at whole (trace ++ cut ∷ []) z)) (standing-more trace cut zones) ≡ sum_by
      (λ z. f (zone_at whole trace z)) zones
  unfolding standing-more
  standing-weighs f parts =
      let after = λ (z : ℕ). f (zone_at whole (trace ++ cut ∷ []) z) in
      let before = λ (z : ℕ). f (zone_at whole trace z) in
      let split = sum_by-append after (filter (other_than cut.zone) zones)
      ((2 * length trace + 1) ∷ (2 * length trace + 2) ∷ []) in
      let pair = sum_by-cons after (2 * length trace + 1) ((2 * length trace + 2) ∷ []) in
      let single = sum_by-cons after (2 * length trace + 2) [] in
      let old = sum_by-same_on after before (filter (other_than cut.zone) zones)
      (All-from_Contains (λ z. after z ≡ before z) (filter (other_than cut.zone) zones)
      (λ z has. ap f (zone-old whole trace cut z ((are.each z).0
      (filter-Contains (other_than cut.zone) zones z has).0).there))) in
      let without = without-weighs before cut.zone zones are.rising ((are.each cut.zone).1 now.stands) in
      omega (
        arith,
        split,
        pair,
        single,
        old,
        without,
        parts,
        ap f (zone-lower whole trace cut),
        ap f (zone-upper whole trace cut),
      )

  standing-count : length (standing-more trace cut zones) ≡ length zones + 1
  unfolding standing-more
  standing-count =
      let both = length-append (filter (other_than cut.zone) zones) ((2 * length trace + 1) ∷ (2 * length trace + 2) ∷ []) in
      let without = without-weighs (λ z. 1) cut.zone zones are.rising ((are.each cut.zone).1 now.stands) in
      omega (arith, both, without, ones (filter (other_than cut.zone) zones), ones zones) where
        ones : (zs : List ℕ) → sum_by (λ z. 1) zs ≡ length zs
        ones [] = refl
        ones (z ∷ zs) = omega (arith, sum_by-cons (λ n. 1) z zs, ones zs)

-- ---- class vectors

-- the vector is in a zone with another range at a span where its class there is in that range
vector-set : (zone : List Range) (s : ℕ) (r : Range) (vector : List ℕ) → s < length zone → r.first ≤ get_or vector s 0 →
    get_or vector s 0 ≤ r.last →
    HasVector zone vector → HasVector (set zone s r) vector
vector-set zone s r vector there from upto has t within =
    elim (cases_eq t s) [
      | inl same ↦ subst (λ u. ((range_at (set zone s r) u).first ≤ get_or vector u 0) ×
          (get_or vector u 0 ≤ (range_at (set zone s r) u).last)) (sym same)
          (subst (λ q. (q.first ≤ get_or vector s 0) × (get_or vector s 0 ≤ q.last))
          (sym (get_or-set_same zone s r (range 0 0) there)) (from, upto))
      | inr apart ↦ subst (λ q. (q.first ≤ get_or vector t 0) × (get_or vector t 0 ≤ q.last))
          (sym (get_or-set_other zone s t r (range 0 0) apart))
          (has t (omega (arith, within, length-set zone s r)))
    ]

-- a vector of the changed zone has its class there in the new range, and is in the zone if the old range is no narrower
vector-at : (zone : List Range) (s : ℕ) (r : Range) (vector : List ℕ) → s < length zone → HasVector (set zone s r) vector →
    (r.first ≤ get_or vector s 0) × (get_or vector s 0 ≤ r.last)
vector-at zone s r vector there has =
    subst (λ q. (q.first ≤ get_or vector s 0) × (get_or vector s 0 ≤ q.last)) (get_or-set_same zone s r (range 0 0) there)
    (has s (omega (arith, there, length-set zone s r)))

vector-unset : (zone : List Range) (s : ℕ) (r : Range) (vector : List ℕ) → s < length zone → (range_at zone s).first ≤ r.first →
    r.last ≤ (range_at zone s).last → HasVector (set zone s r) vector → HasVector zone vector
vector-unset zone s r vector there from upto has t within =
    elim (cases_eq t s) [
      | inl same ↦ let here = vector-at zone s r vector there has in
          subst (λ u. ((range_at zone u).first ≤ get_or vector u 0) × (get_or vector u 0 ≤ (range_at zone u).last)) (sym same)
          (omega (arith, here.0, from), omega (arith, here.1, upto))
      | inr apart ↦ subst (λ q. (q.first ≤ get_or vector t 0) × (get_or vector t 0 ≤ q.last))
          (get_or-set_other zone s t r (range 0 0) apart)
          (has t (omega (arith, within, length-set zone s r)))
    ]

module _ (problem : ProblemModel) (sound : IsSound problem) where
  -- the first classes of a zone's ranges are a vector in it
  first-vector : (zone : List Range) → IsZone problem zone → (vector : List ℕ) × IsVector problem vector × HasVector zone vector
  first-vector zone is = (
    map (λ r. r.first) zone,
    record {
      spans = length-map zone (λ r. r.first) ∙ is.spans;
      classes = λ s within.
          let inside : s < length zone = omega (arith, within, length-map zone (λ r. r.first)) in
          let at = get_or-map (λ r. r.first) zone s (range 0 0) 0 inside in
          let ranges = is.ranges s inside in
          omega (arith, at, ranges.0, ranges.1);
    },
    λ s within. let at = get_or-map (λ r. r.first) zone s (range 0 0) 0 within in let ranges = is.ranges s within in
        (omega (arith, at), omega (arith, at, ranges.0)),
  )

  -- the cut's span is one of the zone that is cut
  cut-span : (trace : List CutAt) (cut : CutAt) → IsTrace (whole_zone problem) trace → IsCut (whole_zone problem) trace cut →
      cut.span < length (zone_at (whole_zone problem) trace cut.zone)
  cut-span trace cut is now = let zone = zones-are problem sound trace is cut.zone now.stands.there in
      omega (arith, now.span, zone.spans, (whole-is_zone problem).spans)

  -- each vector is in a zone that stands
  InSome : List CutAt → Type 0
  InSome trace = (vector : List ℕ) → IsVector problem vector →
      (z : ℕ) × Stands trace z × HasVector (zone_at (whole_zone problem) trace z) vector

  vector-in_some : (trace : List CutAt) → IsTrace (whole_zone problem) trace → InSome trace
  unfolding InSome
  vector-in_some trace is = trace-by (whole_zone problem) InSome
      (λ vector of. (0, record { there = omega arith; not_cut = λ k d within. absurd (omega arith) }, whole-vector problem vector of))
      more trace is where
        more : (trace : List CutAt) (cut : CutAt) → IsTrace (whole_zone problem) trace → IsCut (whole_zone problem) trace cut →
            InSome trace →
            InSome (trace ++ cut ∷ [])
        more trace cut is now before vector of =
            let found = before vector of in
            let whole = whole_zone problem in
            let parent = zone_at whole trace cut.zone in
            let span = cut-span trace cut is now in
            elim (cases_eq cut.zone found.0) [
              | inr apart ↦ (
                found.0,
                stands-old whole trace cut found.0 found.1 apart,
                subst (λ zone. HasVector zone vector) (sym (zone-old whole trace cut found.0 found.1.there)) found.2,
              )
              | inl same ↦
                  let has = subst (λ z. HasVector (zone_at whole trace z) vector) (sym same) found.2 in
                  let here = has cut.span span in
                  elim (cases_lt cut.class (get_or vector cut.span 0)) [
                    | inr low ↦ (
                      2 * length trace + 1,
                      stands-new whole trace cut is now (2 * length trace + 1) (omega arith) (omega arith),
                      subst (λ zone. HasVector zone vector) (sym (zone-lower whole trace cut))
                          (vector-set parent cut.span (range (range_at parent cut.span).first cut.class)
                          vector span here.0 low has),
                    )
                    | inl high ↦ (
                      2 * length trace + 2,
                      stands-new whole trace cut is now (2 * length trace + 2) (omega arith) (omega arith),
                      subst (λ zone. HasVector zone vector) (sym (zone-upper whole trace cut))
                          (vector-set parent cut.span (range (cut.class + 1) (range_at parent cut.span).last) vector span
                          (omega arith) here.1 has),
                    )
                  ]
            ]

  -- and in no other
  InOne : List CutAt → Type 0
  InOne trace = (vector : List ℕ) (a b : ℕ) → Stands trace a → Stands trace b →
      HasVector (zone_at (whole_zone problem) trace a) vector →
      HasVector (zone_at (whole_zone problem) trace b) vector → a ≡ b

  vector-in_one : (trace : List CutAt) → IsTrace (whole_zone problem) trace → InOne trace
  unfolding InOne
  vector-in_one trace is = trace-by (whole_zone problem) InOne
      (λ vector a b first second one other. omega (arith, first.there, second.there)) more
      trace is where
        more : (trace : List CutAt) (cut : CutAt) → IsTrace (whole_zone problem) trace → IsCut (whole_zone problem) trace cut →
            InOne trace →
            InOne (trace ++ cut ∷ [])
        more trace cut is now before vector a b first second one other =
            joined (from_before a first one) (from_before b second other) where
              -- a zone that stands after the cut stood before, or it is a part of the zone that is cut
              Comes : ℕ → Type 0
              Comes z = (Stands trace z × (cut.zone ≢ z) × HasVector (zone_at (whole_zone problem) trace z) vector)
                  ⊎ (HasVector (zone_at (whole_zone problem) trace cut.zone) vector ×
                  (((z ≡ 2 * length trace + 1) × (get_or vector cut.span 0 ≤ cut.class)) ⊎
                  ((z ≡ 2 * length trace + 2) × (cut.class < get_or vector cut.span 0))))

              from_before : (z : ℕ) → Stands (trace ++ cut ∷ []) z →
                  HasVector (zone_at (whole_zone problem) (trace ++ cut ∷ []) z) vector → Comes z
              from_before z stands has =
                  let whole = whole_zone problem in
                  let parent = zone_at whole trace cut.zone in
                  let span = cut-span trace cut is now in
                  elim (zone-cases whole trace cut z stands.there) [
                    | inl old ↦ let stood = stood-before whole trace cut z stands old in
                        inl (stood.0, stood.1, subst (λ zone. HasVector zone vector) (zone-old whole trace cut z old) has)
                    | inr (inl low) ↦
                        let part = subst (λ zone. HasVector zone vector)
                        (ap (zone_at whole (trace ++ cut ∷ [])) low ∙ zone-lower whole trace cut) has in
                        inr (
                          vector-unset parent cut.span (range (range_at parent cut.span).first cut.class) vector span
                              (omega arith)
                              (omega (arith, now.upper)) part,
                          inl (
                            low,
                            (vector-at parent cut.span (range (range_at parent cut.span).first cut.class)
                                vector span part).1,
                          ),
                        )
                    | inr (inr high) ↦
                        let part = subst (λ zone. HasVector zone vector)
                        (ap (zone_at whole (trace ++ cut ∷ [])) high ∙ zone-upper whole trace cut) has in
                        let here = vector-at parent cut.span (range (cut.class + 1) (range_at parent cut.span).last)
                        vector span part in
                        inr (
                          vector-unset parent cut.span (range (cut.class + 1) (range_at parent cut.span).last) vector span
                              (omega (arith, now.lower))
                              (omega arith) part,
                          inr (high, omega (arith, here.0)),
                        )
                  ]

              joined : Comes a → Comes b → a ≡ b
              joined (inl old) (inl also) = before vector a b old.0 also.0 old.2 also.2
              joined (inl old) (inr new) = absurd (old.1 (before vector cut.zone a now.stands old.0 new.0 old.2))
              joined (inr new) (inl old) = absurd (old.1 (before vector cut.zone b now.stands old.0 new.0 old.2))
              joined (inr (has, inl low)) (inr (also, inl lower)) = omega (arith, low.0, lower.0)
              joined (inr (has, inl low)) (inr (also, inr high)) = absurd (omega (arith, low.1, high.1))
              joined (inr (has, inr high)) (inr (also, inl low)) = absurd (omega (arith, low.1, high.1))
              joined (inr (has, inr high)) (inr (also, inr higher)) = omega (arith, high.0, higher.0)

-- ---- how many zones stand

-- the numbers of a list of terms of at least one are no more than their sum
length-le_sum : (g : ℕ → ℕ) (zs : List ℕ) → All (λ z. 1 ≤ g z) zs → length zs ≤ sum_by g zs
length-le_sum g [] each = omega arith
length-le_sum g (z ∷ zs) each = omega (
  arith,
  sum_by-cons g z zs,
  each 0 z (omega arith),
  length-le_sum g zs (λ k d within. each (suc k) d (omega arith)),
)

module _ (problem : ProblemModel) (sound : IsSound problem) where
  -- what stands: one more than the cuts, with the vectors of the whole
  record Counted (trace : List CutAt) : Type 0 where
    standing : List ℕ
    are : AreStanding trace standing
    count : length standing ≡ length trace + 1
    sizes : sum_by (λ z. size (zone_at (whole_zone problem) trace z)) standing ≡ size (whole_zone problem)

  counted : (trace : List CutAt) → IsTrace (whole_zone problem) trace → Counted trace
  counted trace is = trace-by (whole_zone problem) Counted none more trace is where
    none : Counted []
    none = record {
      standing = 0 ∷ [];
      are = record {
        rising = AllPairs-cons (λ a b. a < b) 0 [] (λ k d within. absurd (omega arith)) (AllPairs-none (λ a b. a < b));
        each = λ z. (
          (λ has. elim (Contains-cases 0 [] z has) [
            | inl here ↦
                record { there = omega arith; not_cut = λ k d within. absurd (omega arith) }
            | inr later ↦ absurd (Contains-none z later)
          ]),
          (λ stands. let first : 0 ≡ z = omega (arith, stands.there) in subst (Contains (0 ∷ [])) first (Contains-first 0 [])),
        );
      };
      count = refl;
      sizes = omega (arith, sum_by-cons (λ z. size (zone_at (whole_zone problem) [] z)) 0 []);
    }

    more : (trace : List CutAt) (cut : CutAt) → IsTrace (whole_zone problem) trace → IsCut (whole_zone problem) trace cut →
        Counted trace →
        Counted (trace ++ cut ∷ [])
    more trace cut is now before =
        let whole = whole_zone problem in
        let parent = zone_at whole trace cut.zone in
        let zone = zones-are problem sound trace is cut.zone now.stands.there in
        let parts = size-cut parent cut.span cut.class (cut-span problem sound trace cut is now) now.lower now.upper in
        record {
          standing = standing-more trace cut before.standing;
          are = standing-are whole trace cut is now before.standing before.are;
          count = omega (
            arith,
            standing-count whole trace cut is now before.standing before.are,
            before.count,
            length-append trace (cut ∷ []),
          );
          sizes = standing-weighs whole trace cut is now before.standing before.are size parts ∙ before.sizes;
        }

  pub parts-vectors : (trace : List CutAt) → IsTrace (whole_zone problem) trace → PartsVectors problem trace
  unfolding InSome InOne
  parts-vectors trace is =
      let found = counted trace is in
      let whole = whole_zone problem in
      let some = length-le_sum (λ z. size (zone_at whole trace z)) found.standing
      (All-from_Contains (λ z. 1 ≤ size (zone_at whole trace z)) found.standing (λ z has.
      size-some (zone_at whole trace z)
      (λ s within. ((zones-are problem sound trace is z ((found.are.each z).0 has).there).ranges s within).0))) in
      record {
        standing = found.standing;
        are = found.are;
        count = found.count;
        has_one = λ z stands. first-vector problem sound (zone_at whole trace z)
            (zones-are problem sound trace is z stands.there);
        in_some = vector-in_some problem sound trace is;
        in_no_other = vector-in_one problem sound trace is;
        fewer = λ few. omega (arith, some, found.count, found.sizes, size-whole problem);
      }
