-- The way of the plain search: how its stack and the order of its cuts go on.
use Rattle.std.proofs.Common.{◌≡◌, ◌≢◌, ℕ, ◌+◌, ◌*◌, ◌<◌, ◌≤◌, zero, suc, List, [], ◌∷◌, ◌++◌, ◌⊎◌, inl, inr, length, get_or}
use Rattle.std.proofs.Common.{Result, Ok, Err, sym}
use Rattle.std.proofs.Common.{ap, ◌∙◌, subst, arith, length-append}
use Rattle.std.specs.List.{All, AllPairs, Contains}
use Rattle.std.specs.Result.{IfOk}
use Rattle.std.proofs.lemmas.Bool.{cases_lt}
use Rattle.std.proofs.lemmas.List.{get_or_append_left, get_or-append-add}
use Rattle.std.proofs.lemmas.List.Elements.{All-nil, All-push, Contains-append_left, Contains-append_cases}
use Rattle.std.proofs.lemmas.List.Quantifiers.{all_pairs_push}
use Rattle.tl_base.proofs.Members.{Contains-first, Contains-cases, Contains-none, All-prefix, All-last, Contains-push}
use Rattle.tl_problem.specs.declared.zone.Range.{Range}
use Rattle.tl_problem.specs.Problem.{ProblemModel}
use Rattle.tl_problem.specs.Zones.{range_at, IsZone, whole_zone}
use Rattle.tl_problem.proofs.ZoneLaws.{whole-is_zone}
use Rattle.tl_cert.specs.declared.trace.CutAt.{CutAt}
use Rattle.tl_cert.specs.Traces.{zone_of, Stands, IsCut, IsTraceOf, IsKeen}
use Rattle.tl_cert.specs.Worked.{IsClosedZone, IsBoundOf}
use Rattle.tl_cert.proofs.TraceLaws.{zone-old, zone-cases, stands-old, stood-before, stands-new}
use Rattle.tl_solve.specs.declared.arena.Arena.{Arena}
use Rattle.tl_solve.specs.declared.outcome.Outcome.{Outcome}
use Rattle.tl_solve.specs.Arenas.{HasBoundBelow, IsLowered, IsArenaOf}
use Rattle.tl_solve.specs.Plain.{IsPlainOutcome}
use Rattle.tl_solve.specs.TraceLogs.{IsTraceLog}
use Rattle.tl_cert.specs.ZoneOrders.{ComesFrom, ZoneComesBefore}
use Rattle.tl_solve.specs.Orders.{IsFirstCut, CutsFirstSpans, IsBelowPlacements, CutsBelowPlacements}
use Rattle.tl_solve.specs.Orders.{Follows, IsInClassOrder}
use Rattle.tl_solve.specs.inner.Walk.{IsStack, KeepsClassOrder}
use Rattle.tl_cert.proofs.Origins.{lower-from, upper-from}
use Rattle.tl_solve.proofs.OrderLaws.{at-each-push, from-before, follows-from, before-more, follows-more}
use Rattle.tl_solve.proofs.OrderLaws.{lower-before_upper}

pub pairs-init : {X : Type 0} (R : X → X → Type 0) (xs : List X) (x : X) → AllPairs R (xs ++ x ∷ []) → AllPairs R xs
pairs-init R xs x pairs i j d less within =
    let short : i < length xs = omega (arith, less, within) in
    let here = pairs i j d less (omega (arith, within, length-append xs (x ∷ []))) in
    subst (λ y. R (get_or xs i d) y) (get_or_append_left xs (x ∷ []) d j within)
    (subst (λ y. R y (get_or (xs ++ x ∷ []) j d)) (get_or_append_left xs (x ∷ []) d i short) here)

pub pairs-last : {X : Type 0} (R : X → X → Type 0) (xs : List X) (x : X) → AllPairs R (xs ++ x ∷ []) → All (λ y. R y x) xs
pairs-last R xs x pairs i d within =
    let here = pairs i (length xs + 0) d (omega (arith, within)) (omega (arith, length-append xs (x ∷ []))) in
    subst (λ y. R (get_or xs i d) y) (get_or-append-add xs (x ∷ []) 0 d)
    (subst (λ y. R y (get_or (xs ++ x ∷ []) (length xs + 0) d)) (get_or_append_left xs (x ∷ []) d i within) here)

all-map : {X : Type 0} (P Q : X → Type 0) (xs : List X) → ((x : X) → P x → Q x) → All P xs → All Q xs
all-map P Q xs step all i d within = step (get_or xs i d) (all i d within)

-- a zone that is closed for a height is closed for a lower one
pub closed-lower : (problem : ProblemModel) (zone : List Range) (height best : ℕ) → best ≤ height →
    IsClosedZone problem zone height → IsClosedZone problem zone best
closed-lower problem zone height best less (inl none) = inl none
closed-lower problem zone height best less (inr (inl high)) = inr (inl (high.0, high.1, omega (arith, less, high.2)))
closed-lower problem zone height best less (inr (inr single)) = inr (inr single)

-- ---- the stack

-- before any cut the one zone is on it
start-standing : All (Stands []) (0 ∷ [])
start-standing zero d within = record { there = omega arith; not_cut = λ j e more. absurd (omega (arith, more)) }
start-standing (suc i) d within = absurd (omega (arith, within))

pub stack-start : (problem : ProblemModel) (height : ℕ) (trace : List CutAt) (stack : List ℕ) → trace ≡ [] → stack ≡ 0 ∷ [] →
    IsStack problem trace height stack
stack-start problem height trace stack none one =
    subst (λ t. IsStack problem t height stack) (sym none) (subst (IsStack problem [] height) (sym one) (record {
      standing = start-standing;
      apart = λ i j d less within. absurd (omega (arith, less, within));
      follow = λ i d within j e more. absurd (omega (arith, more));
      closed = λ z stands. inl (subst (Contains (0 ∷ [])) (omega (arith, stands.there)) (Contains-first 0 []));
    }))

pub order-start : (problem : ProblemModel) (trace : List CutAt) → trace ≡ [] → KeepsClassOrder problem trace
order-start problem trace none = subst (KeepsClassOrder problem) (sym none) (record {
  spans = λ i d within. absurd (omega (arith, within));
  below = λ i d within. absurd (omega (arith, within));
  order = λ i j d less within. absurd (omega (arith, within));
})

module _ (problem : ProblemModel) where
  -- before any cut the whole is on it
  pub stack-whole : (height : ℕ) → IsStack problem [] height (0 ∷ [])
  stack-whole height = record {
    standing = λ i d within.
        let first : i ≡ 0 = omega (arith, within) in
        subst (λ n. Stands [] (get_or (0 ∷ []) n d)) (sym first)
        (record { there = omega arith; not_cut = All-nil (λ (cut : CutAt). cut.zone ≢ 0) });
    apart = λ i j d less within. absurd (omega (arith, less, within));
    follow = λ i d within k e inside. absurd (omega (arith, inside));
    closed = λ z stands.
        let first : 0 ≡ z = omega (arith, stands.there) in
        inl (subst (Contains (0 ∷ [])) first (Contains-first 0 []));
  }

  pub order-none : KeepsClassOrder problem []
  order-none = record {
    spans = λ i d within. absurd (omega (arith, within));
    below = λ i d within. absurd (omega (arith, within));
    order = λ i j d less within. absurd (omega (arith, within));
  }

  module _ (trace : List CutAt) (height : ℕ) (stack : List ℕ) (z : ℕ) (is : IsStack problem trace height (stack ++ z ∷ [])) where
    pub top-stands : Stands trace z
    top-stands = All-last (Stands trace) stack z is.standing

    -- its top goes, where that zone is closed
    pub stack-closed : IsClosedZone problem (zone_of problem trace z) height → IsStack problem trace height stack
    stack-closed done = record {
      standing = All-prefix (Stands trace) stack z is.standing;
      apart = pairs-init (λ under over. (over ≢ under) × ZoneComesBefore trace over under) stack z is.apart;
      follow = All-prefix (λ y. All (λ cut. Follows trace cut.zone y) trace) stack z is.follow;
      closed = λ y stands. elim (is.closed y stands) [
        | inr closed ↦ inr closed
        | inl has ↦ elim (Contains-append_cases stack (z ∷ []) y has) [
          | inl left ↦ inl left
          | inr right ↦ elim (Contains-cases z [] y right) [
            | inl here ↦ inr (subst (λ n. IsClosedZone problem (zone_of problem trace n) height) here done)
            | inr none ↦ absurd (Contains-none y none)
          ]
        ]
      ];
    }

    -- or its two parts take its place, the lower part on top
    module _ (cut : CutAt) (top : cut.zone ≡ z) (is_trace : IsTraceOf problem trace)
        (now : IsCut (whole_zone problem) trace cut) where
      abbrev n : ℕ
      n = length trace

      abbrev more : List CutAt
      more = trace ++ cut ∷ []

      -- the zones under the top stand apart from it, and it comes before them
      unders : All (λ under. (z ≢ under) × ZoneComesBefore trace z under) stack
      unders = pairs-last (λ under over. (over ≢ under) × ZoneComesBefore trace over under) stack z is.apart

      rest_standing : All (Stands trace) stack
      rest_standing = All-prefix (Stands trace) stack z is.standing

      low-from : ComesFrom more z (2 * n + 1)
      low-from = subst (λ a. ComesFrom (trace ++ cut ∷ []) a (2 * length trace + 1)) top (lower-from trace cut)

      high-from : ComesFrom more z (2 * n + 2)
      high-from = subst (λ a. ComesFrom (trace ++ cut ∷ []) a (2 * length trace + 2)) top (upper-from trace cut)

      -- a part of the top comes before what is under it
      part-under : (part : ℕ) → 2 * n + 1 ≤ part → ComesFrom more z part →
          All (λ under. (part ≢ under) × ZoneComesBefore more part under) stack
      part-under part past from i d within =
          let under = get_or stack i d in
          let there = (rest_standing i d within).there in
          (λ same. omega (arith, same, there, past), from-before (before-more trace cut (unders i d within).1) from)

      pub stack-standing : All (Stands (trace ++ cut ∷ [])) ((stack ++ (2 * length trace + 2) ∷ []) ++
          (2 * length trace + 1) ∷ [])
      stack-standing =
          let after = Stands (trace ++ cut ∷ []) in
          let old : All after stack = λ i d within.
          stands-old (whole_zone problem) trace cut (get_or stack i d) (rest_standing i d within)
          (λ same. (unders i d within).0 (sym top ∙ same)) in
          let part = stands-new (whole_zone problem) trace cut is_trace now in
          All-push after (stack ++ (2 * length trace + 2) ∷ []) (2 * length trace + 1)
          (All-push after stack (2 * length trace + 2) old (part (2 * length trace + 2) (omega arith) (omega arith)))
          (part (2 * length trace + 1) (omega arith) (omega arith))

      pub stack-apart : AllPairs (λ under over. (over ≢ under) × ZoneComesBefore (trace ++ cut ∷ []) over under)
          ((stack ++ (2 * length trace + 2) ∷ []) ++ (2 * length trace + 1) ∷ [])
      stack-apart =
          let R = λ (under over : ℕ). (over ≢ under) × ZoneComesBefore (trace ++ cut ∷ []) over under in
          let high = 2 * length trace + 2 in
          let low = 2 * length trace + 1 in
          let old : AllPairs R stack = λ i j d less within.
          let here = pairs-init (λ under over. (over ≢ under) × ZoneComesBefore trace over under)
          stack z is.apart i j d less within in
          (here.0, before-more trace cut here.1) in
          let lower_over : R high low = (λ same. omega (arith, same), lower-before_upper trace cut) in
          all_pairs_push R (stack ++ high ∷ []) low
          (all_pairs_push R stack high old (part-under high (omega arith) high-from))
          (All-push (λ under. R under low) stack high (part-under low (omega arith) low-from) lower_over)

      -- a part of the top follows all that were cut
      part-follows : (part : ℕ) → ComesFrom more z part → All (λ c. Follows more c.zone part) more
      part-follows part from =
          let all = All-last (λ y. All (λ c. Follows trace c.zone y) trace) stack z is.follow in
          All-push (λ (c : CutAt). Follows (trace ++ cut ∷ []) c.zone part) trace cut
          (λ i d within. follows-from (follows-more trace cut (all i d within)) from)
          (inl (subst (λ a. ComesFrom (trace ++ cut ∷ []) a part) (sym top) from))

      pub stack-follow : All (λ y. All (λ c. Follows (trace ++ cut ∷ []) c.zone y) (trace ++ cut ∷ []))
          ((stack ++ (2 * length trace + 2) ∷ []) ++ (2 * length trace + 1) ∷ [])
      stack-follow =
          let P = λ (y : ℕ). All (λ (c : CutAt). Follows (trace ++ cut ∷ []) c.zone y) (trace ++ cut ∷ []) in
          let before = All-prefix (λ y. All (λ c. Follows trace c.zone y) trace) stack z is.follow in
          let old : All P stack = λ i d within.
          All-push (λ (c : CutAt). Follows (trace ++ cut ∷ []) c.zone (get_or stack i d)) trace cut
          (λ k e inside. follows-more trace cut (before i d within k e inside))
          (inr (subst (λ a. ZoneComesBefore (trace ++ cut ∷ []) a (get_or stack i d)) (sym top)
          (before-more trace cut (unders i d within).1))) in
          All-push P (stack ++ (2 * length trace + 2) ∷ []) (2 * length trace + 1)
          (All-push P stack (2 * length trace + 2) old (part-follows (2 * length trace + 2) high-from))
          (part-follows (2 * length trace + 1) low-from)

      pub stack-others : (best : ℕ) → best ≤ height → (y : ℕ) → Stands (trace ++ cut ∷ []) y →
          Contains ((stack ++ (2 * length trace + 2) ∷ []) ++ (2 * length trace + 1) ∷ []) y
          ⊎ IsClosedZone problem (zone_of problem (trace ++ cut ∷ []) y) best
      stack-others best less y stands =
          let high = 2 * length trace + 2 in
          let low = 2 * length trace + 1 in
          elim (zone-cases (whole_zone problem) trace cut y stands.there) [
            | inl old ↦
                let before = stood-before (whole_zone problem) trace cut y stands old in
                elim (is.closed y before.0) [
                  | inr closed ↦ inr (subst (λ zone. IsClosedZone problem zone best)
                      (sym (zone-old (whole_zone problem) trace cut y old))
                      (closed-lower problem (zone_of problem trace y) height best less closed))
                  | inl has ↦ elim (Contains-append_cases stack (z ∷ []) y has) [
                    | inl left ↦ inl (Contains-append_left (stack ++ high ∷ []) (low ∷ []) y
                        (Contains-append_left stack (high ∷ []) y left))
                    | inr right ↦ elim (Contains-cases z [] y right) [
                      | inl here ↦ absurd (before.1 (top ∙ here))
                      | inr none ↦ absurd (Contains-none y none)
                    ]
                  ]
                ]
            | inr (inl first) ↦ inl (subst (Contains ((stack ++ high ∷ []) ++ low ∷ [])) (sym first)
                (Contains-push (stack ++ high ∷ []) low))
            | inr (inr second) ↦ inl (subst (Contains ((stack ++ high ∷ []) ++ low ∷ [])) (sym second)
                (Contains-append_left (stack ++ high ∷ []) (low ∷ []) high (Contains-push stack high)))
          ]

      pub stack-cut : (best : ℕ) → best ≤ height →
          IsStack problem (trace ++ cut ∷ []) best ((stack ++ (2 * length trace + 2) ∷ []) ++ (2 * length trace + 1) ∷ [])
      stack-cut best less = record {
        standing = stack-standing;
        apart = stack-apart;
        follow = stack-follow;
        closed = stack-others best less;
      }

      -- the order of the cuts is kept
      pub order-cut : (best : ℕ) → KeepsClassOrder problem trace → IsFirstCut (zone_of problem trace z) cut →
          HasBoundBelow problem trace z best → IsKeen problem (whole_zone problem) trace best →
          KeepsClassOrder problem (trace ++ cut ∷ [])
      order-cut best keeps first below keen =
          let all = All-last (λ y. All (λ c. Follows trace c.zone y) trace) stack z is.follow in
          let low : IsBelowPlacements problem trace below.0 = λ y placed there placement.
          let above = keen y placed there placement in omega (arith, above, below.2) in
          record {
            spans = at-each-push (λ cuts c. IsFirstCut (zone_of problem cuts c.zone) c) trace cut keeps.spans
                (subst (λ y. IsFirstCut (zone_of problem trace y) cut) (sym top) first);
            below = at-each-push (λ cuts c. (bound : ℕ) × IsBoundOf problem cuts c.zone bound ×
                IsBelowPlacements problem cuts bound) trace cut
                keeps.below (below.0, subst (λ y. IsBoundOf problem trace y below.0) (sym top) below.1, low);
            order = all_pairs_push (λ (a b : CutAt). Follows (trace ++ cut ∷ []) a.zone b.zone) trace cut
                (λ i j d less within. follows-more trace cut (keeps.order i j d less within))
                (λ k d within. subst (λ y. Follows (trace ++ cut ∷ []) (get_or trace k d).zone y) (sym top)
                (follows-more trace cut (all k d within)));
          }

-- ---- the end

-- where nothing is on the stack, each zone that stands is closed
pub stack-end : (problem : ProblemModel) (trace : List CutAt) (height : ℕ) (stack : List ℕ) → length stack ≡ 0 →
    IsStack problem trace height stack →
    (z : ℕ) → Stands trace z → IsClosedZone problem (zone_of problem trace z) height
stack-end problem trace height stack empty is z stands =
    elim (is.closed z stands) [ inl has ↦ absurd (omega (arith, has.1, empty)) | inr closed ↦ closed ]

-- a cut of the first span of more than one class of a zone that stands is one
pub first-is_cut : (problem : ProblemModel) (trace : List CutAt) (z : ℕ) (cut : CutAt) → Stands trace z →
    IsZone problem (zone_of problem trace z) →
    IsFirstCut (zone_of problem trace z) cut → cut.zone ≡ z → IsCut (whole_zone problem) trace cut
first-is_cut problem trace z cut stands is first top =
    let zone = zone_of problem trace z in
    let same : zone_of problem trace cut.zone ≡ zone = ap (zone_of problem trace) top in
    let range = is.ranges cut.span first.span.there in
    let less : cut.class < (range_at zone cut.span).last =
    elim (cases_lt (range_at zone cut.span).first (range_at zone cut.span).last) [
      | inl below ↦ omega (arith, below, first.class)
      | inr above ↦ absurd (first.span.more (omega (arith, above, range.0)))
    ] in
    record {
      stands = subst (Stands trace) (sym top) stands;
      span = omega (arith, first.span.there, is.spans, (whole-is_zone problem).spans);
      lower = subst (λ y. (range_at y cut.span).first ≤ cut.class) (sym same) (omega (arith, first.class));
      upper = subst (λ y. cut.class < (range_at y cut.span).last) (sym same) less;
    }

-- the outcome of the search is one of the plain search
pub plain-outcome : (problem : ProblemModel) (arena : Arena) → IsArenaOf problem arena → KeepsClassOrder problem arena.trace →
    (outcome : Outcome) → outcome.best ≡ arena.best → outcome.trace ≡ arena.trace →
    IsTraceLog problem outcome.trace outcome.lower outcome.log → IsPlainOutcome problem outcome
plain-outcome problem arena is keeps outcome best trace lines = record {
  opening = (is.opening.0, is.opening.1, subst (IsLowered is.opening.0) (sym best) is.opening.3);
  spans = subst (CutsFirstSpans problem) (sym trace) keeps.spans;
  below = subst (CutsBelowPlacements problem) (sym trace) keeps.below;
  order = subst IsInClassOrder (sym trace) keeps.order;
  log = lines;
}

pub plain-ends : {E : Type 0} (problem : ProblemModel) (arena : Arena) → IsArenaOf problem arena →
    KeepsClassOrder problem arena.trace →
    (result : Result Outcome E) → IfOk result (λ outcome. outcome.best ≡ arena.best) →
    IfOk result (λ outcome. outcome.trace ≡ arena.trace) →
    IfOk result (λ outcome. IsTraceLog problem outcome.trace outcome.lower outcome.log) →
    IfOk result (IsPlainOutcome problem)
plain-ends problem arena is keeps (Ok outcome) best trace lines = plain-outcome problem arena is keeps outcome best trace lines
plain-ends problem arena is keeps (Err error) best trace lines = tt
