-- The way of the search: how its stack goes on, and that no zone is cut that a known nogood closes.
use Rattle.std.proofs.Common.{◌≡◌, ◌≢◌, ℕ, ◌+◌, ◌*◌, ◌<◌, ◌≤◌, ◌⊎◌, true, false, IsTrue, ◌↔◌, List, [], ◌∷◌, ◌++◌, inl, inr}
use Rattle.std.proofs.Common.{length, get_or, Option, Some, None, refl, sym, ap, ◌∙◌, subst, arith, length-append}
use Rattle.std.specs.List.{AllPairs, Contains}
use Rattle.std.specs.declared.vec.Vec.{Vec}
use Rattle.std.specs.declared.alloc.Global.{Global}
use Rattle.std.proofs.lemmas.Bool.{cases_lt}
use Rattle.std.proofs.lemmas.List.{get_or_append_left, get_or_push, get_or_past}
use Rattle.std.proofs.lemmas.List.Elements.{All-contains, Contains-append_left, Contains-append_cases}
use Rattle.tl_base.specs.declared.limits.TheConstants.{MAX_BUDGET}
use Rattle.tl_base.proofs.Members.{All-from_Contains, Contains-first, Contains-cases, Contains-none, Contains-push}
use Rattle.tl_problem.specs.declared.zone.Range.{Range}
use Rattle.tl_problem.specs.Problem.{ProblemModel}
use Rattle.tl_problem.specs.Agreement.{LowIsHigh}
use Rattle.tl_problem.specs.Zones.{InZone, whole_zone}
use Rattle.tl_problem.proofs.BoundLaws.{bound-unique}
use Rattle.tl_problem.proofs.ZoneLaws.{cases_eq}
use Rattle.tl_cert.specs.declared.log.Bound.{Bound}
use Rattle.tl_cert.specs.declared.log.LogLine.{LogLine}
use Rattle.tl_cert.specs.declared.trace.CutAt.{CutAt}
use Rattle.tl_cert.specs.Implied.{Implied}
use Rattle.tl_cert.specs.Learnt.{NogoodCloses}
use Rattle.tl_cert.specs.Nogoods.{Meets, zone_bounds}
use Rattle.tl_cert.specs.Traces.{Stands, zone_of, IsCut, IsZoneOf}
use Rattle.tl_cert.specs.Worked.{IsClosedZone}
use Rattle.tl_cert.specs.ZoneOrders.{ZoneComesBefore}
use Rattle.tl_cert.proofs.TraceLaws.{zone-old, zone-cases, zones-are, stood-before}
use Rattle.tl_cert.proofs.WorkedLaws.{agree-everywhere}
use Rattle.tl_cert.proofs.ZoneBounds.{zone-meets}
use Rattle.tl_check.specs.Checkers.{IsReserved}
use Rattle.tl_solve.specs.declared.arena.Arena.{Arena}
use Rattle.tl_solve.specs.Arenas.{IsArenaOf, IsBoundFound, HasBoundBelow}
use Rattle.tl_solve.specs.Orders.{IsFirstCut}
use Rattle.tl_solve.specs.inner.Walk.{IsStack, KeepsClassOrder}
use Rattle.tl_solve.proofs.ArenaLaws.{arena-keen, lowered-le}
use Rattle.tl_cert.proofs.Origins.{lower-from, upper-from}
use Rattle.tl_solve.proofs.OrderLaws.{before-from, before-more}
use Rattle.tl_solve.proofs.WalkLaws.{stack-start, order-start, top-stands, stack-closed, stack-cut, order-cut, closed-lower}
use Rattle.tl_store.specs.Stores.{IsStoreOf, nogoods_of}
use Rattle.tl_branch.specs.declared.learning.Learning.{Learning}
use Rattle.tl_branch.specs.Learn.{IsUnclosed}
use Rattle.tl_branch.specs.inner.Learnings.{AreJoinedBut, IsClosedByBound, IsPassed, NoOtherStandingLine}
use Rattle.tl_branch.specs.inner.Learnings.{IsLearning, IsGrown, IsHandled, IsSearching, IsShut, IsStart, IsCutOff, StaysOpen, HasLine}
use Rattle.tl_branch.specs.inner.Learnings.{AreLinesOf, KeepsLog, AreKeptLines, WereKnown, log_nogoods}
use Rattle.tl_branch.specs.inner.Opens.{IsStopped}
use Rattle.tl_branch.proofs.Joined.{passed-lined, joined-cut, joined-same, line-within}
use Rattle.tl_branch.proofs.Order.{before-asym}

-- ---- before any cut

no-line : (z k : ℕ) → get_or (None ∷ []) z None ≡ Some k → ⊥
no-line z k is = elim (cases_lt 0 z) [
  | inl past ↦ let never : None ≡ Some k = sym (get_or_past (None ∷ []) z None (omega (arith, past))) ∙ is in cc
  | inr first ↦
      let here : z ≡ 0 = omega (arith, first) in
      let never : None ≡ Some k = subst (λ (n : ℕ). get_or (None ∷ []) n None ≡ Some k) here is in
      cc
]

pub learning-start : (problem : ProblemModel) (l : Learning) → IsArenaOf problem l.arena → l.arena.trace ≡ [] →
    IsStoreOf problem l.store → IsReserved problem l.budget l.store.checker → nogoods_of l.store ≡ [] → l.log ≡ [] →
    l.lines.items ≡ None ∷ [] → l.height ≡ l.arena.best.height → l.done ≡ false → l.budget ≤ MAX_BUDGET →
    (IsTrue l.low_is_high ↔ LowIsHigh problem) → IsLearning problem l
learning-start problem l arena no_cut store reserved none no_log lines height going few agree =
    let empty : log_nogoods problem l ≡ [] = ap (λ (log : List LogLine). log_of log) no_log in
    record {
      arena = arena;
      store = store;
      reserved = reserved;
      within = omega (arith, ap length no_cut);
      few = few;
      low = omega (arith, height);
      lines_good = subst (AreKeptLines problem l.arena.trace l.height l.arena.opening) (sym no_log)
          (λ k d within. absurd (omega (arith, within)));
      lines = subst (λ (ns : List (List Bound)). AreLinesOf problem l.arena.trace ns l.lines.items) (sym empty)
          (subst (AreLinesOf problem l.arena.trace []) (sym lines) (record {
            count = omega (arith, ap length no_cut);
            each = λ z k is. absurd (no-line z k is);
            few = omega arith;
          }));
      kept = subst (λ (ns : List (List Bound)). KeepsLog ns (nogoods_of l.store)) (sym empty)
          (subst (KeepsLog []) (sym none) (record { count = refl; each = λ k within. absurd (omega (arith, within)) }));
      known = λ low. subst (λ (t : List CutAt). WereKnown problem t (log_nogoods problem l)) (sym no_cut)
          (λ i d within. absurd (omega (arith, within)));
      going = λ still. subst (λ (ns : List (List Bound)). (k : ℕ) → k < length ns → get_or ns k [] ≢ []) (sym empty)
          (λ k within. absurd (omega (arith, within)));
      ended = λ now. let never : true ≡ false = sym now ∙ going in absurd cc;
      agree = agree;
    } where
      log_of : List LogLine → List (List Bound)
      log_of log = log_nogoods problem (record l { log = log })

pub search-start : (problem : ProblemModel) (budget : ℕ) (l : Learning) → IsLearning problem l → IsStart budget l →
    (stack : List ℕ) → stack ≡ 0 ∷ [] → IsSearching problem l stack
search-start problem budget l is start stack one = record {
  learning = is;
  height = start.height;
  going = start.going;
  walk = stack-start problem 0 l.arena.trace stack start.no_cut one;
  order = order-start problem l.arena.trace start.no_cut;
  handled = λ z stands.
      let first : 0 ≡ z = omega (arith, stands.there, ap length start.no_cut) in
      inl (subst (λ (zs : List ℕ). Contains zs z) (sym one) (subst (Contains (0 ∷ [])) first (Contains-first 0 [])));
  passed = λ z stands.
      let first : 0 ≡ z = omega (arith, stands.there, ap length start.no_cut) in
      inl (subst (λ (zs : List ℕ). Contains zs z) (sym one) (subst (Contains (0 ∷ [])) first (Contains-first 0 [])));
  unlined = λ z has line. no-line z line.0 (subst (λ (lines : List (Option ℕ)). get_or lines z None ≡ Some line.0) start.unlined
      line.1);
  joined = λ i within. absurd (omega (arith, within, ap length start.no_cut));
}

-- ---- a zone that is handled

-- at height 0 each zone counts as closed
closed-zero : (problem : ProblemModel) (l : Learning) → IsLearning problem l → (z : ℕ) → IsZoneOf l.arena.trace z →
    IsClosedZone problem (zone_of problem l.arena.trace z) 0
closed-zero problem l is z there = by (get_or l.arena.bounds.items z None)
    (is.arena.bounds.each z None (omega (arith, there, is.arena.bounds.count))) where
      by : (o : Option ℕ) → IsBoundFound problem (zone_of problem l.arena.trace z) o →
          IsClosedZone problem (zone_of problem l.arena.trace z) 0
      by None none = inl none
      by (Some bound) some = inr (inl (bound, some, omega arith))

pub handled-grown : (problem : ProblemModel) (l new : Learning) → IsGrown l new → (z : ℕ) →
    (HasLine new.lines.items z → HasLine l.lines.items z) → IsHandled problem l z → IsHandled problem new z
handled-grown problem l new grown z alone handled = record {
  written = λ low. grown.lines z (handled.written (subst IsTrue grown.low_is_high low));
  closed = λ unlike. subst (λ (arena : Arena). IsClosedZone problem (zone_of problem arena.trace z) arena.best.height)
      (sym grown.arena) (handled.closed (sym grown.low_is_high ∙ unlike));
  founded = λ unlike line. subst (λ (arena : Arena). IsClosedByBound problem (zone_of problem arena.trace z) arena.best.height)
      (sym grown.arena) (handled.founded (sym grown.low_is_high ∙ unlike) (alone line));
}

pairs-top : {X : Type 0} (R : X → X → Type 0) (xs : List X) (x y : X) → AllPairs R (xs ++ x ∷ []) → Contains xs y → R y x
pairs-top R xs x y pairs has =
    let i = has.0 in
    let pair = pairs i (length xs) y has.1 (omega (arith, length-append xs (x ∷ []))) in
    let one : get_or (xs ++ x ∷ []) i y ≡ y = get_or_append_left xs (x ∷ []) y i has.1 ∙ has.2 in
    subst (R y) (get_or_push xs x y (length xs) refl)
    (subst (λ z. R z (get_or (xs ++ x ∷ []) (length xs) y)) one pair)

-- a search with the same lines
pub search-same : (problem : ProblemModel) (l new : Learning) (stack : List ℕ) → IsSearching problem l stack →
    IsLearning problem new → IsGrown l new → new.done ≡ false → new.lines ≡ l.lines → IsSearching problem new stack
search-same problem l new stack is learning grown going lines =
    let alone : (z : ℕ) → HasLine new.lines.items z → HasLine l.lines.items z =
    λ z has. subst (λ (ls : Vec (Option ℕ) Global). HasLine ls.items z) lines has in
    record {
      learning = learning;
      height = grown.height ∙ is.height ∙ ap (λ (arena : Arena). arena.best.height) (sym grown.arena);
      going = going;
      walk = subst (λ (arena : Arena). IsStack problem arena.trace 0 stack) (sym grown.arena) is.walk;
      order = subst (λ (arena : Arena). KeepsClassOrder problem arena.trace) (sym grown.arena) is.order;
      handled = λ z stands. elim (is.handled z (subst (λ (arena : Arena). Stands arena.trace z) grown.arena stands)) [
        | inl has ↦ inl has
        | inr handled ↦ inr (handled-grown problem l new grown z (alone z) handled)
      ];
      passed = subst (λ (arena : Arena). (z : ℕ) → Stands arena.trace z → Contains stack z ⊎ IsPassed arena.trace stack z)
          (sym grown.arena) is.passed;
      unlined = λ z has line. is.unlined z has (alone z line);
      joined = joined-same l new 0 grown.arena lines is.joined;
    }

-- the top of the stack goes, and it alone of the zones that stand may have got a line
module _ (problem : ProblemModel) (l new : Learning) (stack : List ℕ) (z : ℕ) (is : IsSearching problem l (stack ++ z ∷ []))
    (grown : IsGrown l new) (alone : NoOtherStandingLine z l new) where
  -- it comes before what is under it
  over-under : (y : ℕ) → Contains stack y → (z ≢ y) × ZoneComesBefore l.arena.trace z y
  over-under y has = pairs-top (λ under over. (over ≢ under) × ZoneComesBefore l.arena.trace over under) stack z y is.walk.apart has

  stood : (y : ℕ) → Stands new.arena.trace y → Stands l.arena.trace y
  stood y = subst (λ (arena : Arena). Stands arena.trace y) grown.arena

  handled-closed : IsHandled problem new z → (y : ℕ) → Stands l.arena.trace y → Contains stack y ⊎ IsHandled problem new y
  handled-closed done y stands = elim (cases_eq y z) [
    | inl here ↦ inr (subst (IsHandled problem new) (sym here) done)
    | inr apart ↦ elim (is.handled y stands) [
      | inr handled ↦ inr (handled-grown problem l new grown y (alone y stands apart) handled)
      | inl has ↦ elim (Contains-append_cases stack (z ∷ []) y has) [
        | inl left ↦ inl left
        | inr right ↦ elim (Contains-cases z [] y right) [
          | inl same ↦ absurd (apart (sym same))
          | inr none ↦ absurd (Contains-none y none)
        ]
      ]
    ]
  ]

  passed-closed : (y : ℕ) → Stands l.arena.trace y → Contains stack y ⊎ IsPassed l.arena.trace stack y
  passed-closed y stands = elim (is.passed y stands) [
    | inr all ↦ inr (λ w has. all w (Contains-append_left stack (z ∷ []) w has))
    | inl has ↦ elim (Contains-append_cases stack (z ∷ []) y has) [
      | inl left ↦ inl left
      | inr right ↦ elim (Contains-cases z [] y right) [
        | inl here ↦ inr (λ w has. subst (λ (n : ℕ). ZoneComesBefore l.arena.trace n w) here (over-under w has).1)
        | inr none ↦ absurd (Contains-none y none)
      ]
    ]
  ]

  unlined-closed : (y : ℕ) → Contains stack y → HasLine new.lines.items y → ⊥
  unlined-closed y has line =
      let stands = All-contains (Stands l.arena.trace) (stack ++ z ∷ []) y is.walk.standing
      (Contains-append_left stack (z ∷ []) y has) in
      is.unlined y (Contains-append_left stack (z ∷ []) y has)
      (alone y stands (λ same. (over-under y has).0 (sym same)) line)

  pub search-closed : IsLearning problem new → new.done ≡ false → IsHandled problem new z → AreJoinedBut 0 new →
      IsSearching problem new stack
  search-closed learning going done joined = record {
    learning = learning;
    height = grown.height ∙ is.height ∙ ap (λ (arena : Arena). arena.best.height) (sym grown.arena);
    going = going;
    walk = subst (λ (arena : Arena). IsStack problem arena.trace 0 stack) (sym grown.arena)
        (stack-closed problem l.arena.trace 0 stack z is.walk (closed-zero problem l is.learning z
        (top-stands problem l.arena.trace 0 stack z is.walk).there));
    order = subst (λ (arena : Arena). KeepsClassOrder problem arena.trace) (sym grown.arena) is.order;
    handled = λ y stands. handled-closed done y (stood y stands);
    passed = subst (λ (arena : Arena). (y : ℕ) → Stands arena.trace y → Contains stack y ⊎ IsPassed arena.trace stack y)
        (sym grown.arena) passed-closed;
    unlined = unlined-closed;
    joined = joined;
  }

-- a zone that is closed by its bound, or by the store
pub handled-bound : (problem : ProblemModel) (l new : Learning) → IsGrown l new → l.height ≡ l.arena.best.height → (z : ℕ) →
    IsShut problem new z → IsHandled problem new z
handled-bound problem l new grown height z shut =
    let same : new.height ≡ new.arena.best.height = grown.height ∙ height
    ∙ ap (λ (arena : Arena). arena.best.height) (sym grown.arena) in
    record {
      written = λ low. shut.line;
      closed = λ unlike. subst (IsClosedZone problem (zone_of problem new.arena.trace z)) same (elim shut.closed [
        | inl none ↦ inl none
        | inr high ↦ inr (inl high)
      ]);
      founded = λ unlike line. subst (IsClosedByBound problem (zone_of problem new.arena.trace z)) same shut.closed;
    }

pub handled-store : (problem : ProblemModel) (l : Learning) (z : ℕ) → IsTrue l.low_is_high × HasLine l.lines.items z →
    IsHandled problem l z
handled-store problem l z both = record {
  written = λ low. both.1;
  closed = λ unlike. let never : true ≡ false = sym both.0 ∙ unlike in absurd cc;
  founded = λ unlike line. let never : true ≡ false = sym both.0 ∙ unlike in absurd cc;
}

-- a zone that no line closes and that cannot be cut has one class, where `low` is unlike `high`
pub handled-shut : (problem : ProblemModel) (l : Learning) → IsLearning problem l → l.height ≡ l.arena.best.height → (z : ℕ) →
    IsZoneOf l.arena.trace z → (HasLine l.lines.items z → ⊥) → StaysOpen problem l z →
    IsClosedZone problem (zone_of problem l.arena.trace z) l.arena.best.height → IsHandled problem l z
handled-shut problem l is height z there unlined opens closed = record {
  written = λ low. absurd (elim closed [
    | inl none ↦ none opens.below.1.some.0 opens.below.1.some.1
    | inr (inl high) ↦
        let same = bound-unique problem (InZone problem (zone_of problem l.arena.trace z)) opens.below.0 high.0 opens.below.1
        high.1 in
        omega (arith, same, opens.below.2, high.2, height)
    | inr (inr single) ↦ agree-everywhere problem is.arena.work.sound (zone_of problem l.arena.trace z)
        (zones-are problem is.arena.work.sound l.arena.trace is.arena.trace_of z there) (is.agree.0 low) single.1
  ]);
  closed = λ _. closed;
  founded = λ _ line. absurd (unlined line);
}

-- ---- a zone that is cut

module _ (problem : ProblemModel) (l : Learning) (stack : List ℕ) (z : ℕ) (is : IsSearching problem l (stack ++ z ∷ [])) where
  abbrev trace : List CutAt
  trace = l.arena.trace

  -- what comes before the top is not on the stack
  passed : (y : ℕ) → ZoneComesBefore l.arena.trace y z → Contains (stack ++ z ∷ []) y → ⊥
  passed y before has = elim (Contains-append_cases stack (z ∷ []) y has) [
    | inl left ↦ before-asym problem trace is.learning.arena.trace_of y z before
        (pairs-top (λ under over. (over ≢ under) × ZoneComesBefore trace over under) stack z y is.walk.apart left).1
    | inr right ↦ elim (Contains-cases z [] y right) [
      | inl here ↦
          let itself = subst (λ (n : ℕ). ZoneComesBefore trace n z) (sym here) before in
          before-asym problem trace is.learning.arena.trace_of z z itself itself
      | inr none ↦ Contains-none y none
    ]
  ]

  -- the lines so far are enough for what comes before the top
  pub top-lined : IsTrue l.low_is_high → (y : ℕ) → IsZoneOf l.arena.trace y → ZoneComesBefore l.arena.trace y z →
      HasLine l.lines.items y
  top-lined low = passed-lined problem l is.learning.arena.trace_of is.joined z (λ y stands before. elim (is.handled y stands) [
    | inl has ↦ absurd (passed y before has)
    | inr handled ↦ handled.written low
  ])

  pub top-unclosed : (cut : CutAt) → cut.zone ≡ z → StaysOpen problem l z → IsTrue l.low_is_high →
      IsUnclosed problem (log_nogoods problem l) l.arena.trace cut
  top-unclosed cut top opens low = record {
    n = length (log_nogoods problem l);
    there = omega arith;
    before = λ y there before.
        let line = top-lined low y there (subst (ZoneComesBefore trace y) top before) in
        let of_zone = is.learning.lines.each y line.0 line.1 in
        let zone = zone_of problem trace y in
        let sound = is.learning.arena.work.sound in (
          line.0,
          of_zone.there,
          All-from_Contains (Implied problem (InZone problem zone)) (get_or (log_nogoods problem l) line.0 [])
              (λ b has widths inside. All-contains (Meets problem widths) (zone_bounds problem zone) b
              (zone-meets problem sound zone (zones-are problem sound trace is.learning.arena.trace_of y there) widths inside)
              (of_zone.among b has)),
        );
    none = λ k within closes. opens.none low k within
        (subst (NogoodCloses problem trace (log_nogoods problem l) k) top closes);
  }

  -- the budget is spent at the top, which would be cut next
  pub top-stopped : length l.arena.trace ≡ l.budget → (cut : CutAt) → cut.zone ≡ z → IsCut (whole_zone problem) l.arena.trace cut →
      IsFirstCut (zone_of problem l.arena.trace z) cut → HasBoundBelow problem l.arena.trace z l.arena.best.height →
      StaysOpen problem l z → IsStopped problem l
  top-stopped spent cut top now first below opens =
      let arena = is.learning.arena in
      record {
        spent = spent;
        cut = cut;
        next = λ low. record {
          stands = now.stands;
          below = subst (λ (y : ℕ). HasBoundBelow problem trace y l.arena.best.height) (sym top) below;
          order = (order-cut problem trace 0 stack z is.walk cut top arena.trace_of now l.arena.best.height is.order first below
              (arena-keen problem arena.work.sound l.arena arena)).order;
          unclosed = top-unclosed cut top opens low;
        };
        unlined = λ y ahead line. elim (is.passed y ahead.stands) [
          | inl has ↦ is.unlined y has line
          | inr all ↦ ahead.not_passed (subst (ZoneComesBefore trace y) (sym top) (all z (Contains-push stack z)))
        ];
        ahead = λ low y stands unlined. elim (is.handled y stands) [
          | inl has ↦ record {
            stands = stands;
            not_passed = λ before. passed y (subst (ZoneComesBefore trace y) top before) has;
          }
          | inr handled ↦ absurd (unlined (handled.written low))
        ];
        founded = λ unlike y stands line. elim (is.handled y stands) [
          | inl has ↦ absurd (is.unlined y has line)
          | inr handled ↦ handled.founded unlike line
        ];
      }

  -- its two parts take its place
  module _ (cut : CutAt) (top : cut.zone ≡ z) (now : IsCut (whole_zone problem) l.arena.trace cut)
      (first : IsFirstCut (zone_of problem l.arena.trace z) cut)
      (below : HasBoundBelow problem l.arena.trace z l.arena.best.height) (new : Learning) (off : IsCutOff l new cut)
      (learning : IsLearning problem new) where
    abbrev more : List CutAt
    more = l.arena.trace ++ cut ∷ []

    abbrev parts : List ℕ
    parts = (stack ++ (2 * length l.arena.trace + 2) ∷ []) ++ (2 * length l.arena.trace + 1) ∷ []

    handled-cut : (y : ℕ) → Stands l.arena.trace y → IsHandled problem l y → IsHandled problem new y
    handled-cut y stands handled = record {
      written = λ low. off.lines y (handled.written (subst IsTrue off.low_is_high low));
      closed = λ unlike.
          let was = handled.closed (sym off.low_is_high ∙ unlike) in
          let less = lowered-le l.arena.best new.arena.best off.lowered in
          let zone : zone_of problem new.arena.trace y ≡ zone_of problem trace y = ap (λ (t : List CutAt). zone_of problem t y)
          off.trace ∙ zone-old (whole_zone problem) trace cut y stands.there in
          subst (λ (r : List Range). IsClosedZone problem r new.arena.best.height) (sym zone)
          (closed-lower problem (zone_of problem trace y) l.arena.best.height new.arena.best.height less was);
      founded = λ unlike line.
          let was = handled.founded (sym off.low_is_high ∙ unlike) (off.no_more y line) in
          let less = lowered-le l.arena.best new.arena.best off.lowered in
          let zone : zone_of problem new.arena.trace y ≡ zone_of problem trace y = ap (λ (t : List CutAt). zone_of problem t y)
          off.trace ∙ zone-old (whole_zone problem) trace cut y stands.there in
          subst (λ (r : List Range). IsClosedByBound problem r new.arena.best.height) (sym zone) (elim was [
            | inl none ↦ inl none
            | inr high ↦ inr (high.0, high.1, omega (arith, high.2, less))
          ]);
    }

    -- what was passed comes before the parts
    passed-more : (y : ℕ) → IsPassed l.arena.trace (stack ++ z ∷ []) y →
        IsPassed (l.arena.trace ++ cut ∷ []) ((stack ++ (2 * length l.arena.trace + 2) ∷ []) ++ (2 * length l.arena.trace + 1) ∷ []) y
    passed-more y all w has =
        let high = 2 * length trace + 2 in
        let low = 2 * length trace + 1 in
        let before_top : ZoneComesBefore (trace ++ cut ∷ []) y cut.zone = before-more trace cut
        (subst (ZoneComesBefore trace y) (sym top) (all z (Contains-push stack z))) in
        elim (Contains-append_cases (stack ++ high ∷ []) (low ∷ []) w has) [
          | inl left ↦ elim (Contains-append_cases stack (high ∷ []) w left) [
            | inl under ↦ before-more trace cut (all w (Contains-append_left stack (z ∷ []) w under))
            | inr one ↦ elim (Contains-cases high [] w one) [
              | inl here ↦ subst (ZoneComesBefore (trace ++ cut ∷ []) y) here (before-from before_top (upper-from trace cut))
              | inr none ↦ absurd (Contains-none w none)
            ]
          ]
          | inr one ↦ elim (Contains-cases low [] w one) [
            | inl here ↦ subst (ZoneComesBefore (trace ++ cut ∷ []) y) here (before-from before_top (lower-from trace cut))
            | inr none ↦ absurd (Contains-none w none)
          ]
        ]

    -- what comes is on the stack, or was passed
    passed-cut : (y : ℕ) → Stands (l.arena.trace ++ cut ∷ []) y →
        Contains ((stack ++ (2 * length l.arena.trace + 2) ∷ []) ++ (2 * length l.arena.trace + 1) ∷ []) y
        ⊎ IsPassed (l.arena.trace ++ cut ∷ []) ((stack ++ (2 * length l.arena.trace + 2) ∷ []) ++
        (2 * length l.arena.trace + 1) ∷ []) y
    passed-cut y stands =
        let high = 2 * length trace + 2 in
        let low = 2 * length trace + 1 in
        elim (zone-cases (whole_zone problem) trace cut y stands.there) [
          | inl old ↦
              let before = stood-before (whole_zone problem) trace cut y stands old in
              elim (is.passed y before.0) [
                | inr all ↦ inr (passed-more y all)
                | inl has ↦ elim (Contains-append_cases stack (z ∷ []) y has) [
                  | inl left ↦ inl (Contains-append_left (stack ++ high ∷ []) (low ∷ []) y
                      (Contains-append_left stack (high ∷ []) y left))
                  | inr right ↦ elim (Contains-cases z [] y right) [
                    | inl here ↦ absurd (before.1 (top ∙ here))
                    | inr none ↦ absurd (Contains-none y none)
                  ]
                ]
              ]
          | inr (inl one) ↦ inl (subst (Contains parts) (sym one) (Contains-push (stack ++ high ∷ []) low))
          | inr (inr other) ↦ inl (subst (Contains parts) (sym other)
              (Contains-append_left (stack ++ high ∷ []) (low ∷ []) high (Contains-push stack high)))
        ]

    -- the parts have no lines
    unlined-cut : (y : ℕ) → Contains ((stack ++ (2 * length l.arena.trace + 2) ∷ []) ++ (2 * length l.arena.trace + 1) ∷ []) y →
        HasLine new.lines.items y → ⊥
    unlined-cut y has line =
        let high = 2 * length trace + 2 in
        let low = 2 * length trace + 1 in
        let old = off.no_more y line in
        let within = line-within l.lines.items y old in
        elim (Contains-append_cases (stack ++ high ∷ []) (low ∷ []) y has) [
          | inl left ↦ elim (Contains-append_cases stack (high ∷ []) y left) [
            | inl under ↦ is.unlined y (Contains-append_left stack (z ∷ []) y under) old
            | inr one ↦ elim (Contains-cases high [] y one) [
              | inl here ↦ omega (arith, within, is.learning.lines.count, here)
              | inr none ↦ Contains-none y none
            ]
          ]
          | inr one ↦ elim (Contains-cases low [] y one) [
            | inl here ↦ omega (arith, within, is.learning.lines.count, here)
            | inr none ↦ Contains-none y none
          ]
        ]

    handled-more : (y : ℕ) → Stands (l.arena.trace ++ cut ∷ []) y →
        Contains ((stack ++ (2 * length l.arena.trace + 2) ∷ []) ++ (2 * length l.arena.trace + 1) ∷ []) y ⊎ IsHandled problem new y
    handled-more y stands =
        let high = 2 * length trace + 2 in
        let low = 2 * length trace + 1 in
        elim (zone-cases (whole_zone problem) trace cut y stands.there) [
          | inl old ↦
              let before = stood-before (whole_zone problem) trace cut y stands old in
              elim (is.handled y before.0) [
                | inr handled ↦ inr (handled-cut y before.0 handled)
                | inl has ↦ elim (Contains-append_cases stack (z ∷ []) y has) [
                  | inl left ↦ inl (Contains-append_left (stack ++ high ∷ []) (low ∷ []) y
                      (Contains-append_left stack (high ∷ []) y left))
                  | inr right ↦ elim (Contains-cases z [] y right) [
                    | inl here ↦ absurd (before.1 (top ∙ here))
                    | inr none ↦ absurd (Contains-none y none)
                  ]
                ]
              ]
          | inr (inl one) ↦ inl (subst (Contains parts) (sym one) (Contains-push (stack ++ high ∷ []) low))
          | inr (inr other) ↦ inl (subst (Contains parts) (sym other)
              (Contains-append_left (stack ++ high ∷ []) (low ∷ []) high (Contains-push stack high)))
        ]

    pub search-cut : IsSearching problem new
        ((stack ++ (2 * length l.arena.trace + 2) ∷ []) ++ (2 * length l.arena.trace + 1) ∷ [])
    search-cut =
        let arena = is.learning.arena in
        record {
          learning = learning;
          height = off.height;
          going = off.going ∙ is.going;
          walk = subst (λ (t : List CutAt). IsStack problem t 0 parts) (sym off.trace)
              (stack-cut problem trace 0 stack z is.walk cut top arena.trace_of now 0 (omega arith));
          order = subst (KeepsClassOrder problem) (sym off.trace)
              (order-cut problem trace 0 stack z is.walk cut top arena.trace_of now l.arena.best.height is.order first below
              (arena-keen problem arena.work.sound l.arena arena));
          handled = λ y stands. handled-more y (subst (λ (t : List CutAt). Stands t y) off.trace stands);
          passed = subst (λ (t : List CutAt). (y : ℕ) → Stands t y → Contains parts y ⊎ IsPassed t parts y) (sym off.trace)
              passed-cut;
          unlined = unlined-cut;
          joined = joined-cut l new cut is.learning.lines.count off is.joined;
        }
