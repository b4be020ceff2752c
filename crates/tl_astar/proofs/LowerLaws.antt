-- The lower bound that the zones of a trace prove, and the outcome that has it.
use Rattle.std.proofs.Common.{◌≡◌, ℕ, ◌+◌, ◌*◌, ◌<◌, ◌≤◌, min, max, List, ◌⊎◌, inl, inr, length, sym, subst, arith}
use Rattle.std.proofs.lemmas.Bool.{cases_lt}
use Rattle.tl_problem.specs.Problem.{ProblemModel}
use Rattle.tl_problem.specs.Sound.{IsSound}
use Rattle.tl_problem.specs.Zones.{InZone}
use Rattle.tl_problem.specs.Agreement.{LowIsHigh}
use Rattle.tl_problem.specs.Placements.{IsOpening}
use Rattle.tl_problem.proofs.AreaLaws.{area-unique}
use Rattle.tl_problem.proofs.BoundLaws.{bound-unique}
use Rattle.tl_cert.specs.declared.trace.CutAt.{CutAt}
use Rattle.tl_cert.specs.Traces.{IsTraceOf, Stands, zone_of}
use Rattle.tl_cert.specs.Worked.{IsClosedZone, IsBoundOf}
use Rattle.tl_cert.proofs.TraceLaws.{zones-are}
use Rattle.tl_cert.proofs.WorkedLaws.{agree-everywhere}
use Rattle.tl_solve.specs.declared.arena.Arena.{Arena}
use Rattle.tl_solve.specs.declared.outcome.Outcome.{Outcome}
use Rattle.tl_solve.specs.Arenas.{IsArenaOf, IsLowered}
use Rattle.tl_solve.specs.Ends.{HasBoundUpTo}
use Rattle.tl_solve.specs.Logs.{Proves}
use Rattle.tl_cert.specs.ZoneOrders.{AtEachCut}
use Rattle.tl_solve.specs.Orders.{CutsBelowPlacements}
use Rattle.tl_solve.specs.TraceLogs.{IsTraceLog}
use Rattle.tl_astar.specs.Best.{AreShut, IsOfLeastBound, CutsBelowByArea, CutsUpTo, IsAreaOf, IsLeastProved, IsBestOutcome}
use Rattle.tl_astar.specs.inner.Frontier.{KeepsBoundOrder}
use Rattle.tl_astar.specs.inner.Lower.{IsProvedUpto, IsLessened}
use Rattle.tl_astar.proofs.CoverLaws.{proved-below_placement}
use Rattle.tl_astar.proofs.Agreeing.{same-agree}
use Rattle.tl_astar.proofs.OrderLaws.{proves-less}

module _ (problem : ProblemModel) (trace : List CutAt) (height : ℕ) where
  -- one zone more
  pub proved-lessened : (upto least next : ℕ) → Stands trace upto → IsProvedUpto problem trace height upto least →
      IsLessened problem trace upto least next → IsProvedUpto problem trace height (upto + 1) next
  proved-lessened upto least next stands is less = record {
    at_most = omega (arith, is.at_most, less.at_most);
    proved = λ z within standing. elim (cases_lt z upto) [
      | inl old ↦ proves-less problem (zone_of problem trace z) least next less.at_most (is.proved z old standing)
      | inr new ↦
          let last : upto ≡ z = omega (arith, within, new) in
          subst (λ y. Proves problem (zone_of problem trace y) next) last less.proved
    ];
    attained = elim less.attained [
      | inr some ↦ inr (upto, some.0, some.1, stands, some.2, some.3, some.4)
      | inl same ↦ elim is.attained [
        | inl all ↦ inl (omega (arith, same, all))
        | inr some ↦ inr (some.0, some.1, some.2, some.3, some.4, some.5, omega (arith, same, some.6))
      ]
    ];
  }

  -- the greater of both bounds of a zone, where that is less
  pub lessened-by : (z least bound area next : ℕ) → IsBoundOf problem trace z bound → IsAreaOf problem trace z area →
      next ≡ min least (max bound area) →
      IsLessened problem trace z least next
  lessened-by z least bound area next has_bound has_area is = record {
    at_most = omega (arith, is);
    proved = elim (cases_lt bound area) [
      | inl more ↦ inr (inr (area, has_area, omega (arith, is, more)))
      | inr less ↦ inr (inl (bound, has_bound, omega (arith, is, less)))
    ];
    attained = elim (cases_lt (max bound area) least) [
      | inl less ↦ inr (bound, area, has_bound, has_area, omega (arith, is, less))
      | inr more ↦ inl (omega (arith, is, more))
    ];
  }

  pub proved-skip : (upto least : ℕ) → (Stands trace upto → ⊥) → IsProvedUpto problem trace height upto least →
      IsProvedUpto problem trace height (upto + 1) least
  proved-skip upto least cut is = record {
    at_most = is.at_most;
    proved = λ z within standing. elim (cases_lt z upto) [
      | inl old ↦ is.proved z old standing
      | inr new ↦
          let last : z ≡ upto = omega (arith, within, new) in
          absurd (cut (subst (Stands trace) last standing))
    ];
    attained = is.attained;
  }

  -- all of them
  module _ (least : ℕ) (is : IsProvedUpto problem trace height (2 * length trace + 1) least) where
    pub all-prove : (z : ℕ) → Stands trace z → Proves problem (zone_of problem trace z) least
    all-prove z stands = is.proved z stands.there stands

    -- a zone that has both bounds and proves a number has one that is as great
    proved-by : (z bound area n : ℕ) → IsBoundOf problem trace z bound → IsAreaOf problem trace z area →
        Proves problem (zone_of problem trace z) n →
        n ≤ max bound area
    proved-by z bound area n has_bound has_area (inl none) = absurd (none has_bound.some.0 has_bound.some.1)
    proved-by z bound area n has_bound has_area (inr (inl high)) =
        let same = bound-unique problem (InZone problem (zone_of problem trace z)) high.0 bound high.1 has_bound in
        omega (arith, same, high.2)
    proved-by z bound area n has_bound has_area (inr (inr high)) =
        let same = area-unique problem (InZone problem (zone_of problem trace z)) high.0 area high.1 has_area in
        omega (arith, same, high.2)

    pub least-proved : IsLeastProved problem trace height least
    least-proved = record {
      at_most = is.at_most;
      never_more = λ z bound area stands has_bound has_area.
          proved-by z bound area least has_bound has_area (all-prove z stands);
      attained = is.attained;
    }

    -- where it is below the height, some zone that stands has a bound that is no greater
    pub some-bound : least < height → HasBoundUpTo problem trace least
    some-bound below = elim is.attained [
      | inl same ↦ absurd (omega (arith, same, below))
      | inr some ↦ (some.0, some.1, some.3, some.4, omega (arith, some.6))
    ]

    -- where it is below the height though each zone is shut, no area bound shut one: all are closed
    pub shut-closed : IsSound problem → IsTraceOf problem trace → AreShut problem trace height → least < height →
        (z : ℕ) → Stands trace z → IsClosedZone problem (zone_of problem trace z) height
    shut-closed sound trace_of shut below z stands = elim (shut z stands) [
      | inl closed ↦ closed
      | inr area ↦ elim is.attained [
        | inl same ↦ absurd (omega (arith, same, below))
        | inr some ↦
            let Among = InZone problem (zone_of problem trace some.0) in
            elim (shut some.0 some.3) [
              | inl (inl none) ↦ absurd (none some.4.some.0 some.4.some.1)
              | inl (inr (inl high)) ↦
                  let same = bound-unique problem Among high.0 some.1 high.1 some.4 in
                  absurd (omega (arith, same, high.2, some.6, below))
              | inl (inr (inr single)) ↦
                  absurd (agree-everywhere problem sound (zone_of problem trace some.0)
                  (zones-are problem sound trace trace_of some.0 some.3.there)
                  (same-agree problem area.0) single.1)
              | inr high ↦
                  let same = area-unique problem Among high.1.0 some.2 high.1.1 some.5 in
                  absurd (omega (arith, same, high.1.2, some.6, below))
            ]
      ]
    ]

    -- what each zone proves is at most the least, where it is at most the height
    pub proved-at_most : (n : ℕ) → n ≤ height → ((z : ℕ) → Stands trace z → Proves problem (zone_of problem trace z) n) →
        n ≤ least
    proved-at_most n below proves = elim is.attained [
      | inl same ↦ omega (arith, same, below)
      | inr some ↦
          let more = proved-by some.0 some.1 some.2 n some.4 some.5 (proves some.0 some.3) in
          omega (arith, more, some.6)
    ]

-- the outcome of a search keeps its promises
pub best-outcome : (problem : ProblemModel) → IsSound problem → (budget : ℕ) (arena : Arena) → IsArenaOf problem arena →
    (least : ℕ) →
    IsProvedUpto problem arena.trace arena.best.height (2 * length arena.trace + 1) least →
    KeepsBoundOrder problem arena.trace arena.best.height →
    (budget ≡ 0 → IsOpening problem arena.best) →
    (length arena.trace ≡ budget) ⊎ AreShut problem arena.trace arena.best.height → (outcome : Outcome) →
    outcome.best ≡ arena.best → outcome.trace ≡ arena.trace →
    outcome.lower ≡ least → IsTraceLog problem outcome.trace outcome.lower outcome.log → IsBestOutcome problem budget outcome
best-outcome problem sound budget arena is least proved keeps shown ended outcome best trace lower lines =
    let height = arena.best.height in
    let up_to : LowIsHigh problem → CutsUpTo problem arena.trace least = λ agree i d within.
    let cut = keeps.proved agree i d within in
    let below = proved-below_placement problem sound arena.trace is.trace_of cut.0 cut.2 arena.best is.tight.placement in
    (cut.0, cut.1, proved-at_most problem arena.trace height least proved cut.0 below cut.2) in
    record {
      opening = (is.opening.0, is.opening.1, subst (IsLowered is.opening.0) (sym best) is.opening.3);
      shown = λ none. subst (IsOpening problem) (sym best) (shown none);
      order = subst (λ p. AtEachCut (IsOfLeastBound problem p.height) outcome.trace) (sym best)
          (subst (AtEachCut (IsOfLeastBound problem height)) (sym trace) keeps.order);
      below = subst (CutsBelowPlacements problem) (sym trace) keeps.below;
      below_by_area = λ same. subst (CutsBelowByArea problem) (sym trace) (keeps.below_by_area same);
      lower = subst (λ p. IsLeastProved problem outcome.trace p.height outcome.lower) (sym best)
          (subst (λ t. IsLeastProved problem t height outcome.lower) (sym trace)
          (subst (IsLeastProved problem arena.trace height) (sym lower) (least-proved problem arena.trace height least proved)));
      up_to = λ agree. subst (λ t. CutsUpTo problem t outcome.lower) (sym trace)
          (subst (CutsUpTo problem arena.trace) (sym lower) (up_to agree));
      ended = subst (λ p. (length outcome.trace ≡ budget) ⊎ AreShut problem outcome.trace p.height) (sym best)
          (subst (λ t. (length t ≡ budget) ⊎ AreShut problem t height) (sym trace) ended);
      log = lines;
    }
