-- How a piece goes on: its zone before any cut, a zone of the stack that is closed, left or cut, and the end.
use Rattle.std.proofs.Common.{◌≡◌, ◌≢◌, ℕ, ◌+◌, ◌*◌, ◌<◌, ◌≤◌, ◌⊎◌, inl, inr, List, [], ◌∷◌, ◌++◌, length, get_or}
use Rattle.std.proofs.Common.{Option, Some, None, refl, sym, ap, ◌∙◌, subst, arith, length-append}
use Rattle.std.specs.List.{All, AllPairs, Contains}
use Rattle.std.specs.Option.{IfSome}
use Rattle.std.proofs.lemmas.Bool.{cases_lt}
use Rattle.std.proofs.lemmas.List.{map-append}
use Rattle.std.proofs.lemmas.List.Elements.{All-nil, All-push, All-contains, Contains-append_left, Contains-append_cases}
use Rattle.std.proofs.lemmas.List.Quantifiers.{all_pairs_push}
use Rattle.tl_base.proofs.Members.{All-from_Contains, Contains-cases, Contains-none, Contains-map, map-Contains, Contains-push, All-prefix, All-last}
use Rattle.tl_problem.specs.declared.placed.Placed.{Placed}
use Rattle.tl_problem.specs.declared.zone.Range.{Range}
use Rattle.tl_problem.specs.Problem.{ProblemModel}
use Rattle.tl_problem.specs.Sound.{IsSound}
use Rattle.tl_problem.specs.Agreement.{HasOneClass}
use Rattle.tl_problem.specs.Zones.{range_at, IsZone, InZone, lower_part, upper_part}
use Rattle.tl_problem.specs.Bounds.{HasNoWidths, IsBound}
use Rattle.tl_problem.specs.Tight.{IsTight}
use Rattle.tl_problem.proofs.ZoneLaws.{lower-is_zone, upper-is_zone}
use Rattle.tl_cert.specs.declared.trace.CutAt.{CutAt}
use Rattle.tl_cert.specs.Traces.{zone_at, IsZoneOf, Stands, IsCut, IsKeen}
use Rattle.tl_cert.specs.Worked.{IsClosedZone}
use Rattle.tl_cert.proofs.TraceLaws.{zone-old, zone-lower, zone-upper, zone-cases, stands-old, stood-before, stands-new}
use Rattle.tl_cert.proofs.TraceLaws.{cuts-there, trace-push}
use Rattle.tl_solve.specs.Arenas.{IsBoundFound, IsLookedAt}
use Rattle.tl_solve.specs.Orders.{IsFirstCut}
use Rattle.tl_solve.specs.Piece.{final_height, HasBoundIn, IsPieceOf}
use Rattle.tl_solve.proofs.Agreeing.{one_class-differ}
use Rattle.tl_solve.proofs.ArenaLaws.{looked-keen, looked-lower}
use Rattle.tl_solve.proofs.WalkLaws.{closed-lower, pairs-init, pairs-last}
use Rattle.tl_branch.specs.declared.lowest.Lowest.{Lowest}
use Rattle.tl_branch.specs.declared.under_way.Waiting.{Waiting}
use Rattle.tl_branch.specs.declared.under_way.UnderWay.{UnderWay}
use Rattle.tl_branch.specs.inner.UnderWay.{IsFoundLower, IsWaitingIn, IsBegun, IsCutApart, IsUnderWay, with_waiting, numbers}

-- ---- what was found

pub found-le : (problem : ProblemModel) (old new : Lowest) → IsFoundLower problem old new → new.height ≤ old.height
found-le problem old new (inl same) = omega (arith, ap (λ (l : Lowest). l.height) same)
found-le problem old new (inr less) = omega (arith, less.height, less.lower)

pub found-next : (problem : ProblemModel) (first second third : Lowest) → IsFoundLower problem first second →
    IsFoundLower problem second third → IsFoundLower problem first third
found-next problem first second third (inl same) more = subst (λ (l : Lowest). IsFoundLower problem l third) same more
found-next problem first second third (inr less) (inl same) = subst (λ (l : Lowest). IsFoundLower problem first l) (sym same)
    (inr less)
found-next problem first second third (inr less) (inr more) = inr (record {
  placed = more.placed;
  is = more.is;
  tight = more.tight;
  height = more.height;
  lower = omega (arith, more.lower, less.height, less.lower);
})

-- a placement that was found is tight and lower than the given height, and its height is the one to be undercut
record IsFoundBelow (problem : ProblemModel) (given : ℕ) (lowest : Lowest) : Type 0 where
  found : IfSome lowest.placed (λ placed. IsTight problem placed × (placed.height < given))
  height : lowest.height ≡ final_height given lowest.placed

below-le : (problem : ProblemModel) (given height : ℕ) (best : Option Placed) →
    IfSome best (λ placed. IsTight problem placed × (placed.height < given)) → height ≡ final_height given best → height ≤ given
below-le problem given height None found is = omega (arith, is)
below-le problem given height (Some placed) found is = omega (arith, is, found.1)

found-below : (problem : ProblemModel) (given : ℕ) (old new : Lowest) → IsFoundBelow problem given old →
    IsFoundLower problem old new → IsFoundBelow problem given new
found-below problem given old new is (inl same) = subst (IsFoundBelow problem given) (sym same) is
found-below problem given old new is (inr less) =
    let under = below-le problem given old.height old.placed is.found is.height in
    record {
      found = subst (λ (o : Option Placed). IfSome o (λ placed. IsTight problem placed × (placed.height < given))) (sym less.is)
          (less.tight, omega (arith, less.lower, under));
      height = less.height ∙ ap (final_height given) (sym less.is);
    }

-- ---- the stack with a further zone

-- it has at most one zone more
with-length : (stack : List Waiting) (number : ℕ) (zone : List Range) (found : Option ℕ) →
    length (with_waiting stack number zone found) ≤ length stack + 1
with-length stack number zone None = omega arith
with-length stack number zone (Some bound) =
    omega (arith, length-append stack (record { number = number; zone = zone; bound = bound } ∷ []))

-- so a cut leaves at most two more
pub cut-length : (problem : ProblemModel) (zone : List Range) (cut : CutAt) (old new : UnderWay) →
    IsCutApart problem zone cut old new → length new.stack.items ≤ length old.stack.items + 2
cut-length problem zone cut old new apart =
    let high = upper_part zone cut.span cut.class in
    let low = lower_part zone cut.span cut.class in
    let n = length old.trace in
    let first = with-length old.stack.items (2 * n + 2) high apart.high_found in
    let second = with-length (with_waiting old.stack.items (2 * n + 2) high apart.high_found) (2 * n + 1) low apart.low_found in
    omega (arith, ap length apart.stack, first, second)

all-with : (P : Waiting → Type 0) (stack : List Waiting) (number : ℕ) (zone : List Range) (found : Option ℕ) → All P stack →
    ((bound : ℕ) → found ≡ Some bound → P (record { number = number; zone = zone; bound = bound })) →
    All P (with_waiting stack number zone found)
all-with P stack number zone None all new = all
all-with P stack number zone (Some bound) all new = All-push P stack (record { number = number; zone = zone; bound = bound }) all
    (new bound refl)

numbers-push : (stack : List Waiting) (item : Waiting) → numbers (stack ++ item ∷ []) ≡ numbers stack ++ item.number ∷ []
numbers-push stack item = map-append (λ (o : Waiting). o.number) stack (item ∷ [])

all_numbers-with : (P : ℕ → Type 0) (stack : List Waiting) (number : ℕ) (zone : List Range) (found : Option ℕ) →
    All P (numbers stack) → P number → All P (numbers (with_waiting stack number zone found))
all_numbers-with P stack number zone None all new = all
all_numbers-with P stack number zone (Some bound) all new =
    subst (All P) (sym (numbers-push stack (record { number = number; zone = zone; bound = bound })))
    (All-push P (numbers stack) number all new)

pairs-with : (stack : List Waiting) (number : ℕ) (zone : List Range) (found : Option ℕ) →
    AllPairs (λ one other. one ≢ other) (numbers stack) → All (λ one. one ≢ number) (numbers stack) →
    AllPairs (λ one other. one ≢ other) (numbers (with_waiting stack number zone found))
pairs-with stack number zone None pairs new = pairs
pairs-with stack number zone (Some bound) pairs new =
    subst (AllPairs (λ one other. one ≢ other)) (sym (numbers-push stack (record { number = number; zone = zone; bound = bound })))
    (all_pairs_push (λ one other. one ≢ other) (numbers stack) number pairs new)

contains-with : (stack : List Waiting) (number : ℕ) (zone : List Range) (found : Option ℕ) (z : ℕ) → Contains (numbers stack) z →
    Contains (numbers (with_waiting stack number zone found)) z
contains-with stack number zone None z has = has
contains-with stack number zone (Some bound) z has =
    subst (λ ns. Contains ns z) (sym (numbers-push stack (record { number = number; zone = zone; bound = bound })))
    (Contains-append_left (numbers stack) (number ∷ []) z has)

contains-new : (problem : ProblemModel) (stack : List Waiting) (number : ℕ) (zone : List Range) (found : Option ℕ) →
    IsBoundFound problem zone found →
    Contains (numbers (with_waiting stack number zone found)) number ⊎ HasNoWidths (InZone problem zone)
contains-new problem stack number zone None is = inr is
contains-new problem stack number zone (Some bound) is =
    inl (subst (λ ns. Contains ns number) (sym (numbers-push stack (record { number = number; zone = zone; bound = bound })))
    (Contains-push (numbers stack) number))

some-bound : (problem : ProblemModel) (zone : List Range) (found : Option ℕ) (bound : ℕ) → IsBoundFound problem zone found →
    found ≡ Some bound → IsBound problem (InZone problem zone) bound
some-bound problem zone found bound is same = subst (IsBoundFound problem zone) same is

-- ---- before any cut

pub begun-under_way : (problem : ProblemModel) (zone : List Range) (given quota : ℕ) (way : UnderWay) → IsZone problem zone →
    IsBegun problem zone given way → IsUnderWay problem zone given quota way.trace way.lowest way.stack.items way.lefts
begun-under_way problem zone given quota way is begun =
    subst (λ (t : List CutAt). IsUnderWay problem zone given quota t way.lowest way.stack.items way.lefts) (sym begun.no_cut)
    (subst (IsUnderWay problem zone given quota [] way.lowest way.stack.items) (sym begun.none_left)
    (subst (λ (o : List Waiting). IsUnderWay problem zone given quota [] way.lowest o []) (sym begun.stack) at_once)) where
      first : (z : ℕ) → IsZoneOf [] z → 0 ≡ z
      first z there = omega (arith, there)

      below : IsFoundBelow problem given way.lowest
      below = found-below problem given (record { height = given; placed = None }) way.lowest (record { found = tt; height = refl })
          begun.lowered

      at_once : IsUnderWay problem zone given quota [] way.lowest (with_waiting [] 0 zone begun.found) []
      at_once = record {
        trace_of = λ i d within. absurd (omega (arith, within));
        few = omega arith;
        cut_zones = All-nil (λ cut. HasBoundIn problem zone [] cut.zone given);
        found = below.found;
        height = below.height;
        looked = λ z there. subst (λ n. IsLookedAt problem (zone_at zone [] n) way.lowest.height) (first z there) begun.looked;
        on_stack = all-with (IsWaitingIn problem zone []) [] 0 zone begun.found (All-nil (IsWaitingIn problem zone [])) (λ bound same. record {
          stands = record { there = omega arith; not_cut = All-nil (λ cut. cut.zone ≢ 0) };
          same = refl;
          is = is;
          bound = some-bound problem zone begun.found bound begun.bound same;
        });
        different = pairs-with [] 0 zone begun.found (λ i j d less within. absurd (omega (arith, less, within)))
            (All-nil (λ one. one ≢ 0));
        left = record {
          standing = All-nil (Stands []);
          different = λ i j d less within. absurd (omega (arith, less, within));
        };
        apart = All-nil (λ z. All (λ other. other ≢ z) (numbers (with_waiting [] 0 zone begun.found)));
        closed = λ z stands. subst (λ n. Contains [] n ⊎ (Contains (numbers (with_waiting [] 0 zone begun.found)) n ⊎
            IsClosedZone problem (zone_at zone [] n) way.lowest.height)) (first z stands.there)
            (elim (contains-new problem [] 0 zone begun.found begun.bound) [
              | inl on ↦ inr (inl on)
              | inr none ↦ inr (inr (inl none))
            ]);
        spent = λ some. absurd (some refl);
      }

-- ---- the top of the stack goes

module _ (problem : ProblemModel) (zone : List Range) (given quota : ℕ) (trace : List CutAt) (lowest : Lowest)
    (rest : List Waiting) (top : Waiting) (lefts : List ℕ)
    (is : IsUnderWay problem zone given quota trace lowest (rest ++ top ∷ []) lefts) where
  pub top-waiting : IsWaitingIn problem zone trace top
  top-waiting = All-last (IsWaitingIn problem zone trace) rest top is.on_stack

  two : numbers (rest ++ top ∷ []) ≡ numbers rest ++ top.number ∷ []
  two = numbers-push rest top

  different-two : AllPairs (λ one other. one ≢ other) (numbers rest ++ top.number ∷ [])
  different-two = subst (AllPairs (λ one other. one ≢ other)) two is.different

  rest-different : AllPairs (λ one other. one ≢ other) (numbers rest)
  rest-different = pairs-init (λ one other. one ≢ other) (numbers rest) top.number different-two

  rest-others : All (λ one. one ≢ top.number) (numbers rest)
  rest-others = pairs-last (λ one other. one ≢ other) (numbers rest) top.number different-two

  rest-waiting : All (IsWaitingIn problem zone trace) rest
  rest-waiting = All-prefix (IsWaitingIn problem zone trace) rest top is.on_stack

  apart-two : All (λ z. All (λ other. other ≢ z) (numbers rest ++ top.number ∷ [])) lefts
  apart-two = subst (λ ns. All (λ z. All (λ other. other ≢ z) ns) lefts) two is.apart

  rest-apart : All (λ z. All (λ other. other ≢ z) (numbers rest)) lefts
  rest-apart i d within = All-prefix (λ other. other ≢ get_or lefts i d) (numbers rest) top.number (apart-two i d within)

  -- each zone that stands is left, on the rest of the stack, closed, or the top
  cases : (z : ℕ) → Stands trace z →
      Contains lefts z ⊎ ((Contains (numbers rest) z ⊎ IsClosedZone problem (zone_at zone trace z) lowest.height) ⊎
      (top.number ≡ z))
  cases z stands = elim (is.closed z stands) [
    | inl left ↦ inl left
    | inr (inr closed) ↦ inr (inl (inr closed))
    | inr (inl on) ↦ elim (Contains-append_cases (numbers rest) (top.number ∷ []) z (subst (λ ns. Contains ns z) two on)) [
      | inl under ↦ inr (inl (inl under))
      | inr last ↦ elim (Contains-cases top.number [] z last) [
        | inl here ↦ inr (inr here)
        | inr none ↦ absurd (Contains-none z none)
      ]
    ]
  ]

  -- it was closed
  pub under_way-closed : IsClosedZone problem top.zone lowest.height →
      IsUnderWay problem zone given quota trace lowest rest lefts
  under_way-closed closed = record {
    trace_of = is.trace_of;
    few = is.few;
    cut_zones = is.cut_zones;
    found = is.found;
    height = is.height;
    looked = is.looked;
    on_stack = rest-waiting;
    different = rest-different;
    left = is.left;
    apart = rest-apart;
    closed = λ z stands. elim (cases z stands) [
      | inl left ↦ inl left
      | inr (inl other) ↦ inr other
      | inr (inr here) ↦ inr (inr (subst (λ n. IsClosedZone problem (zone_at zone trace n) lowest.height) here
          (subst (λ r. IsClosedZone problem r lowest.height) top-waiting.same closed)))
    ];
    spent = is.spent;
  }

  -- its bound is not below the height, or it has one class for each span
  pub under_way-not_cut : IsSound problem → (lowest.height ≤ top.bound) ⊎ HasOneClass top.zone →
      IsUnderWay problem zone given quota trace lowest rest lefts
  under_way-not_cut sound (inl high) = under_way-closed (inr (inl (top.bound, top-waiting.bound, high)))
  under_way-not_cut sound (inr one) = elim (cases_lt top.bound lowest.height) [
    | inr high ↦ under_way-closed (inr (inl (top.bound, top-waiting.bound, omega (arith, high))))
    | inl below ↦ under_way-closed (inr (inr (
      one,
      one_class-differ problem top.zone sound top-waiting.is one top.bound lowest.height
          top-waiting.bound below
          (subst (λ r. IsLookedAt problem r lowest.height) (sym top-waiting.same) (is.looked top.number top-waiting.stands.there)),
    )))
  ]

  -- it is left, after all cuts of the quota
  pub under_way-left : length trace ≡ quota →
      IsUnderWay problem zone given quota trace lowest rest (lefts ++ top.number ∷ [])
  under_way-left spent = record {
    trace_of = is.trace_of;
    few = is.few;
    cut_zones = is.cut_zones;
    found = is.found;
    height = is.height;
    looked = is.looked;
    on_stack = rest-waiting;
    different = rest-different;
    left = record {
      standing = All-push (Stands trace) lefts top.number is.left.standing top-waiting.stands;
      different = all_pairs_push (λ one other. one ≢ other) lefts top.number is.left.different
          (λ k d within same. All-last (λ other. other ≢ get_or lefts k d) (numbers rest) top.number (apart-two k d within) (sym same));
    };
    apart = All-push (λ z. All (λ other. other ≢ z) (numbers rest)) lefts top.number rest-apart rest-others;
    closed = λ z stands. elim (cases z stands) [
      | inl left ↦ inl (Contains-append_left lefts (top.number ∷ []) z left)
      | inr (inl other) ↦ inr other
      | inr (inr here) ↦ inl (subst (Contains (lefts ++ top.number ∷ [])) here (Contains-push lefts top.number))
    ];
    spent = λ some. spent;
  }

-- ---- or it is cut

none-left : (lefts : List ℕ) (cuts quota : ℕ) → (lefts ≢ [] → cuts ≡ quota) → cuts < quota → lefts ≡ []
none-left [] cuts quota spent less = refl
none-left (z ∷ lefts) cuts quota spent less = absurd (omega (arith, less, spent (λ same. cc)))

module _ (problem : ProblemModel) (sound : IsSound problem) (zone : List Range) (is_zone : IsZone problem zone)
    (given quota : ℕ) (old new : UnderWay) (top : Waiting) (cut : CutAt)
    (is : IsUnderWay problem zone given quota old.trace old.lowest (old.stack.items ++ top ∷ []) old.lefts)
    (at : cut.zone ≡ top.number) (first : IsFirstCut top.zone cut) (below : top.bound < old.lowest.height)
    (less : length old.trace < quota) (apart : IsCutApart problem top.zone cut old new) where
  abbrev t : List CutAt
  t = old.trace

  abbrev n : ℕ
  n = length old.trace

  abbrev more : List CutAt
  more = old.trace ++ cut ∷ []

  abbrev rest : List Waiting
  rest = old.stack.items

  abbrev low : List Range
  low = lower_part top.zone cut.span cut.class

  abbrev high : List Range
  high = upper_part top.zone cut.span cut.class

  abbrev with_high : List Waiting
  with_high = with_waiting old.stack.items (2 * length old.trace + 2) (upper_part top.zone cut.span cut.class) apart.high_found

  abbrev with_both : List Waiting
  with_both = with_waiting (with_waiting old.stack.items (2 * length old.trace + 2) (upper_part top.zone cut.span cut.class)
      apart.high_found) (2 * length old.trace + 1) (lower_part top.zone cut.span cut.class) apart.low_found

  it : IsWaitingIn problem zone t top
  it = top-waiting problem zone given quota t old.lowest rest top old.lefts is

  others : All (λ one. one ≢ top.number) (numbers rest)
  others = rest-others problem zone given quota t old.lowest rest top old.lefts is

  empty : old.lefts ≡ []
  empty = none-left old.lefts n quota is.spent less

  -- the zone that is cut
  same : top.zone ≡ zone_at zone t cut.zone
  same = it.same ∙ ap (zone_at zone t) (sym at)

  upto : cut.class < (range_at top.zone cut.span).last
  upto =
      let range = it.is.ranges cut.span first.span.there in
      elim (cases_lt (range_at top.zone cut.span).first (range_at top.zone cut.span).last) [
        | inl under ↦ omega (arith, under, first.class)
        | inr above ↦ absurd (first.span.more (omega (arith, above, range.0)))
      ]

  from : (range_at top.zone cut.span).first ≤ cut.class
  from = omega (arith, first.class)

  now : IsCut zone t cut
  now = record {
    stands = subst (Stands t) (sym at) it.stands;
    span = omega (arith, first.span.there, it.is.spans, is_zone.spans);
    lower = subst (λ r. (range_at r cut.span).first ≤ cut.class) same from;
    upper = subst (λ r. cut.class < (range_at r cut.span).last) same upto;
  }

  low_same : low ≡ zone_at zone more (2 * n + 1)
  low_same = ap (λ r. lower_part r cut.span cut.class) same ∙ sym (zone-lower zone t cut)

  high_same : high ≡ zone_at zone more (2 * n + 2)
  high_same = ap (λ r. upper_part r cut.span cut.class) same ∙ sym (zone-upper zone t cut)

  -- the stack
  rest_there : (z : ℕ) → Contains (numbers rest) z → IsZoneOf t z
  rest_there z has =
      let from_item = map-Contains (λ (o : Waiting). o.number) rest z has in
      let item = All-contains (IsWaitingIn problem zone t) rest from_item.0
      (rest-waiting problem zone given quota t old.lowest rest top old.lefts is) from_item.1 in
      subst (IsZoneOf t) from_item.2 item.stands.there

  fresh : (k : ℕ) → 2 * n + 1 ≤ k → All (λ one. one ≢ k) (numbers rest)
  fresh k past = All-from_Contains (λ one. one ≢ k) (numbers rest) (λ z has equal. omega (arith, rest_there z has, past, equal))

  rest_stays : All (IsWaitingIn problem zone more) rest
  rest_stays = All-from_Contains (IsWaitingIn problem zone more) rest (λ o has.
      let was = All-contains (IsWaitingIn problem zone t) rest o
      (rest-waiting problem zone given quota t old.lowest rest top old.lefts is) has in
      let other = All-contains (λ one. one ≢ top.number) (numbers rest) o.number others
      (Contains-map (λ (i : Waiting). i.number) rest o has) in
      record {
        stands = stands-old zone t cut o.number was.stands (λ equal. other (sym equal ∙ at));
        same = was.same ∙ sym (zone-old zone t cut o.number was.stands.there);
        is = was.is;
        bound = was.bound;
      })

  both_waiting : All (IsWaitingIn problem zone more) with_both
  both_waiting =
      all-with (IsWaitingIn problem zone more) with_high (2 * n + 1) low apart.low_found
      (all-with (IsWaitingIn problem zone more) rest (2 * n + 2) high apart.high_found rest_stays (λ bound found. record {
        stands = stands-new zone t cut is.trace_of now (2 * n + 2) (omega arith) (omega arith);
        same = high_same;
        is = upper-is_zone problem sound top.zone it.is cut.span cut.class first.span.there from upto;
        bound = some-bound problem high apart.high_found bound apart.high_bound found;
      }))
      (λ bound found. record {
        stands = stands-new zone t cut is.trace_of now (2 * n + 1) (omega arith) (omega arith);
        same = low_same;
        is = lower-is_zone problem sound top.zone it.is cut.span cut.class first.span.there from upto;
        bound = some-bound problem low apart.low_found bound apart.low_bound found;
      })

  both_different : AllPairs (λ one other. one ≢ other) (numbers with_both)
  both_different =
      pairs-with with_high (2 * n + 1) low apart.low_found
      (pairs-with rest (2 * n + 2) high apart.high_found
      (rest-different problem zone given quota t old.lowest rest top old.lefts is) (fresh (2 * n + 2) (omega arith)))
      (all_numbers-with (λ one. one ≢ 2 * n + 1) rest (2 * n + 2) high apart.high_found (fresh (2 * n + 1) (omega arith))
      (λ equal. omega (arith, equal)))

  -- what was found
  lowered : IsFoundLower problem old.lowest new.lowest
  lowered = found-next problem old.lowest apart.middle new.lowest apart.lowered apart.lowered_again

  found : IsFoundBelow problem given new.lowest
  found = found-below problem given old.lowest new.lowest (record { found = is.found; height = is.height }) lowered

  lower : new.lowest.height ≤ old.lowest.height
  lower = found-le problem old.lowest new.lowest lowered

  both_looked : (z : ℕ) → IsZoneOf more z → IsLookedAt problem (zone_at zone more z) new.lowest.height
  both_looked z there = elim (zone-cases zone t cut z there) [
    | inl was ↦ subst (λ r. IsLookedAt problem r new.lowest.height) (sym (zone-old zone t cut z was))
        (looked-lower problem (zone_at zone t z) old.lowest.height new.lowest.height lower (is.looked z was))
    | inr (inl one) ↦ subst (λ k. IsLookedAt problem (zone_at zone more k) new.lowest.height) (sym one)
        (subst (λ r. IsLookedAt problem r new.lowest.height) low_same
        (looked-lower problem low apart.middle.height new.lowest.height
        (found-le problem apart.middle new.lowest apart.lowered_again) apart.low_looked))
    | inr (inr two) ↦ subst (λ k. IsLookedAt problem (zone_at zone more k) new.lowest.height) (sym two)
        (subst (λ r. IsLookedAt problem r new.lowest.height) high_same apart.high_looked)
  ]

  stays_below : (z : ℕ) → IsZoneOf t z → HasBoundIn problem zone t z given → HasBoundIn problem zone more z given
  stays_below z there has = (
    has.0,
    subst (λ r. IsBound problem (InZone problem r) has.0) (sym (zone-old zone t cut z there)) has.1,
    has.2,
  )

  both_cut : All (λ c. HasBoundIn problem zone more c.zone given) more
  both_cut = All-push (λ c. HasBoundIn problem zone more c.zone given) t cut
      (λ i d within. stays_below (get_or t i d).zone (cuts-there zone t is.trace_of i d within) (is.cut_zones i d within))
      (stays_below cut.zone now.stands.there (
        top.bound,
        subst (λ r. IsBound problem (InZone problem r) top.bound) same it.bound,
        omega (arith, below, below-le problem given old.lowest.height old.lowest.placed is.found is.height),
      ))

  -- the zones that stand
  abbrev Where : ℕ → Type 0
  Where z = Contains [] z ⊎ (Contains (numbers with_both) z ⊎ IsClosedZone problem (zone_at zone more z) new.lowest.height)

  both_closed : (z : ℕ) → Stands more z → Where z
  both_closed z stands = elim (zone-cases zone t cut z stands.there) [
    | inl was ↦
        let before = stood-before zone t cut z stands was in
        elim (cases problem zone given quota t old.lowest rest top old.lefts is z before.0) [
          | inl left ↦ inl (subst (λ ls. Contains ls z) empty left)
          | inr (inl (inl on)) ↦ inr (inl (contains-with with_high (2 * n + 1) low apart.low_found z
              (contains-with rest (2 * n + 2) high apart.high_found z on)))
          | inr (inl (inr closed)) ↦ inr (inr (subst (λ r. IsClosedZone problem r new.lowest.height)
              (sym (zone-old zone t cut z was))
              (closed-lower problem (zone_at zone t z) old.lowest.height new.lowest.height lower closed)))
          | inr (inr here) ↦ absurd (before.1 (at ∙ here))
        ]
    | inr (inl one) ↦ subst Where (sym one) (elim (contains-new problem with_high (2 * n + 1) low apart.low_found apart.low_bound) [
      | inl on ↦ inr (inl on)
      | inr none ↦ inr (inr (inl (subst (λ r. HasNoWidths (InZone problem r)) low_same none)))
    ])
    | inr (inr two) ↦ subst Where (sym two) (elim (contains-new problem rest (2 * n + 2) high apart.high_found apart.high_bound) [
      | inl on ↦ inr (inl (contains-with with_high (2 * n + 1) low apart.low_found (2 * n + 2) on))
      | inr none ↦ inr (inr (inl (subst (λ r. HasNoWidths (InZone problem r)) high_same none)))
    ])
  ]

  both : IsUnderWay problem zone given quota more new.lowest with_both []
  both = record {
    trace_of = trace-push zone t cut is.trace_of now;
    few = omega (arith, less, length-append old.trace (cut ∷ []));
    cut_zones = both_cut;
    found = found.found;
    height = found.height;
    looked = both_looked;
    on_stack = both_waiting;
    different = both_different;
    left = record {
      standing = All-nil (Stands more);
      different = λ i j d before within. absurd (omega (arith, before, within));
    };
    apart = All-nil (λ z. All (λ other. other ≢ z) (numbers with_both));
    closed = both_closed;
    spent = λ some. absurd (some refl);
  }

  pub under_way-cut : IsUnderWay problem zone given quota new.trace new.lowest new.stack.items new.lefts
  under_way-cut =
      subst (λ (cuts : List CutAt). IsUnderWay problem zone given quota cuts new.lowest new.stack.items new.lefts) (sym apart.trace)
      (subst (IsUnderWay problem zone given quota more new.lowest new.stack.items) (sym (apart.lefts ∙ empty))
      (subst (λ (o : List Waiting). IsUnderWay problem zone given quota more new.lowest o []) (sym apart.stack) both))

-- ---- the end

pub under_way-keen : (problem : ProblemModel) → IsSound problem → (zone : List Range) (trace : List CutAt) (height : ℕ) →
    ((z : ℕ) → IsZoneOf trace z → IsLookedAt problem (zone_at zone trace z) height) → IsKeen problem zone trace height
under_way-keen problem sound zone trace height looked z placed there placement =
    looked-keen problem sound (zone_at zone trace z) height (looked z there) placed placement

-- once nothing is on the stack it is a piece
pub under_way-piece : (problem : ProblemModel) → IsSound problem → (zone : List Range) (given quota : ℕ) (trace : List CutAt)
    (lowest : Lowest) (stack : List Waiting) (lefts : List ℕ) → length stack ≡ 0 →
    IsUnderWay problem zone given quota trace lowest stack lefts →
    IsPieceOf problem zone given quota lowest.placed trace lefts
under_way-piece problem sound zone given quota trace lowest [] lefts empty is = record {
  trace_of = is.trace_of;
  few = is.few;
  cut_zones = is.cut_zones;
  found = is.found;
  keen = subst (IsKeen problem zone trace) is.height (under_way-keen problem sound zone trace lowest.height is.looked);
  left = is.left;
  closed = λ z stands. elim (is.closed z stands) [
    | inl left ↦ inl left
    | inr (inl on) ↦ absurd (Contains-none z on)
    | inr (inr closed) ↦ inr (subst (IsClosedZone problem (zone_at zone trace z)) is.height closed)
  ];
  spent = is.spent;
}
under_way-piece problem sound zone given quota trace lowest (top ∷ stack) lefts empty is = absurd (omega (arith, empty))
