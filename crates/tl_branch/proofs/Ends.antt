-- The end of the search: the least of the bounds that are left open, and what is learnt.
use Rattle.std.proofs.Common.{◌≡◌, ℕ, ◌+◌, ◌<◌, ◌≤◌, min, Bool, true, false, IsTrue, List, [], inl, inr}
use Rattle.std.proofs.Common.{length, get_or, Option, Some, None, refl, sym, ap, ◌∙◌, subst, arith}
use Rattle.std.specs.List.{Contains}
use Rattle.std.specs.Option.{option_or}
use Rattle.std.proofs.lemmas.Bool.{cases_lt}
use Rattle.std.proofs.lemmas.List.Elements.{recursion_from_All}
use Rattle.tl_base.proofs.Members.{Contains-none, none-Contains}
use Rattle.tl_problem.specs.declared.placed.Placed.{Placed}
use Rattle.tl_problem.specs.Problem.{ProblemModel}
use Rattle.tl_problem.specs.Agreement.{LowIsHigh}
use Rattle.tl_problem.specs.Zones.{InZone}
use Rattle.tl_problem.proofs.BoundLaws.{bound-unique}
use Rattle.tl_cert.specs.declared.log.Bound.{Bound}
use Rattle.tl_cert.specs.declared.trace.CutAt.{CutAt}
use Rattle.tl_cert.specs.declared.log.LogLine.{LogLine}
use Rattle.tl_cert.specs.Learnt.{IsLearnt, nogoods_in}
use Rattle.tl_cert.specs.Lines.{IsGoodLog}
use Rattle.tl_cert.specs.Pieces.{IsPieceInRange}
use Rattle.tl_cert.specs.Text.{IsLineShaped, IsLogWritable, line_pieces}
use Rattle.tl_cert.specs.Traces.{Stands, zone_of}
use Rattle.tl_cert.specs.Worked.{IsBoundOf}
use Rattle.tl_solve.specs.declared.arena.Arena.{Arena}
use Rattle.tl_solve.specs.declared.outcome.Outcome.{Outcome}
use Rattle.tl_solve.specs.Arenas.{IsBoundFound, AreBoundsOf, IsLowered}
use Rattle.tl_solve.specs.CutsFound.{AreCutsOf}
use Rattle.tl_solve.specs.Ends.{HasBoundUpTo, IsLeastStanding, IsLeastUpto, MayEnd}
use Rattle.tl_solve.specs.Orders.{CutsFirstSpans, CutsBelowPlacements, IsInClassOrder}
use Rattle.tl_solve.specs.inner.Walk.{KeepsClassOrder}
use Rattle.tl_solve.proofs.EndLaws.{bound-some, none-stands, stands-none}
use Rattle.tl_solve.proofs.Writable.{all-flat_map}
use Rattle.tl_store.proofs.SameBounds.{zero-bounds}
use Rattle.tl_branch.specs.declared.learning.Learning.{Learning}
use Rattle.tl_branch.specs.Learn.{FiresAreNeeded, IsLeastAhead, IsLeastLeft, IsLearnOutcome}
use Rattle.tl_branch.specs.inner.Learnings.{IsLearning, IsGrown, IsClosedByBound, HasLine, WereKnown, log_nogoods}
use Rattle.tl_branch.specs.inner.Opens.{AreClosers, IsLeastOpen, MayFinish, OpenProve}
use Rattle.tl_branch.proofs.Order.{passed-stay}
use Rattle.tl_branch.proofs.Zones.{nogoods-count}

-- ---- what closes a zone

module _ (cuts lines closers : List (Option ℕ)) (are : AreClosers cuts lines (length cuts) closers) where
  -- a zone without a closer has neither a cut nor a line, and the other way round
  no_closer : (z : ℕ) → z < length cuts → get_or closers z None ≡ None → (get_or cuts z None ≡ None) × (get_or lines z None ≡ None)
  no_closer z within none = by (get_or cuts z None) (get_or lines z None) refl refl (sym (are.each z within) ∙ none) where
    by : (cut line : Option ℕ) → get_or cuts z None ≡ cut → get_or lines z None ≡ line → option_or cut line ≡ None →
        (get_or cuts z None ≡ None) × (get_or lines z None ≡ None)
    by None line is_cut is_line none = (is_cut, is_line ∙ none)
    by (Some i) line is_cut is_line none = absurd cc

  closer_none : (z : ℕ) → z < length cuts → get_or cuts z None ≡ None → get_or lines z None ≡ None → get_or closers z None ≡ None
  closer_none z within uncut unlined =
      are.each z within ∙ ap (λ cut. option_or cut (get_or lines z None)) uncut ∙ unlined

module _ (problem : ProblemModel) (trace : List CutAt) (cuts lines closers bounds : List (Option ℕ))
    (cuts_of : AreCutsOf trace (length trace) cuts) (found : AreBoundsOf problem trace bounds)
    (are : AreClosers cuts lines (length cuts) closers) where
  pub least-open : (height lower : ℕ) → IsLeastUpto closers bounds height (length bounds) lower →
      IsLeastOpen problem trace lines height lower
  least-open height lower is = record {
    at_most = is.at_most;
    never_more = λ z bound stands none has.
        let within : z < length bounds = omega (arith, stands.there, found.count) in
        let inside : z < length cuts = omega (arith, stands.there, cuts_of.count) in
        let uncut = none-stands problem trace cuts bounds cuts_of found z stands (get_or cuts z None) refl in
        is.never_more z bound within (closer_none cuts lines closers are z inside uncut none)
        (bound-some problem trace cuts bounds cuts_of found z bound within has (get_or bounds z None) refl);
    attained = elim is.attained [
      | inl same ↦ inl same
      | inr some ↦
          let inside : some.0 < length cuts = omega (arith, some.2, found.count, cuts_of.count) in
          let open_at = no_closer cuts lines closers are some.0 inside some.3 in
          inr (
            some.0,
            some.1,
            stands-none problem trace cuts bounds cuts_of found some.0 some.2 open_at.0,
            open_at.1,
            subst (IsBoundFound problem (zone_of problem trace some.0)) some.4 (found.each some.0 None some.2),
            omega (arith, some.5),
          )
    ];
  }

-- ---- zones get lines

pub proves-grown : (problem : ProblemModel) (old new : Learning) → IsGrown old new →
    OpenProve problem old.arena.trace old.lines.items old.height → OpenProve problem new.arena.trace new.lines.items new.height
proves-grown problem old new grown proves z bound stands none is =
    let was = proves z bound (subst (λ (arena : Arena). Stands arena.trace z) grown.arena stands)
    (unlined (get_or old.lines.items z None) refl)
    (subst (λ (arena : Arena). IsBoundOf problem arena.trace z bound) grown.arena is) in
    omega (arith, was, grown.height) where
      unlined : (o : Option ℕ) → get_or old.lines.items z None ≡ o → get_or old.lines.items z None ≡ None
      unlined None same = same
      unlined (Some k) same =
          let line = grown.lines z (k, same) in
          let never : Some (line.0) ≡ None = sym line.1 ∙ none in
          absurd cc

-- the whole has a line only where the last nogood has no bounds
pub whole-ends : (problem : ProblemModel) (l : Learning) → IsLearning problem l → HasLine l.lines.items 0 → l.done ≡ false → ⊥
whole-ends problem l is line going =
    let of_zone = is.lines.each 0 line.0 line.1 in
    is.going going line.0 of_zone.there (none-Contains (get_or (log_nogoods problem l) line.0 []) (λ b has. Contains-none b
    (subst (λ (bs : List Bound). Contains bs b) (zero-bounds problem l.arena.trace is.arena.trace_of) (of_zone.among b has))))

pub ended-by : (l : Learning) (done : Bool) → l.done ≡ done → (l.done ≡ false → ⊥) → l.done ≡ true
ended-by l true same not = same
ended-by l false same not = absurd (not same)

-- ---- what the outcome has

module _ (problem : ProblemModel) (l : Learning) (is : IsLearning problem l) where
  -- the lower bound is below the best height only where zones are left
  pub may-end : (lower : ℕ) → MayFinish problem l → IsLeastOpen problem l.arena.trace l.lines.items l.arena.best.height lower →
      lower < l.arena.best.height → MayEnd problem l.arena.trace l.arena.best.height l.budget
  may-end lower (inl stopped) least less = inl stopped.spent
  may-end lower (inr all) least less = elim least.attained [
    | inl same ↦ absurd (omega (arith, same, less))
    | inr (z, bound, stands, none, has, enough) ↦ by l.low_is_high refl z stands none
  ] where
    by : (low : Bool) → l.low_is_high ≡ low → (z : ℕ) → Stands l.arena.trace z → get_or l.lines.items z None ≡ None →
        MayEnd problem l.arena.trace l.arena.best.height l.budget
    by true low z stands none =
        let line = (all z stands).written low in
        let never : Some (line.0) ≡ None = sym line.1 ∙ none in
        absurd cc
    by false unlike z stands none = inr (λ y still. (all y still).closed unlike)

  pub bound-open : (lower : ℕ) → IsLeastOpen problem l.arena.trace l.lines.items l.arena.best.height lower →
      lower < l.arena.best.height → HasBoundUpTo problem l.arena.trace lower
  bound-open lower least less = elim least.attained [
    | inl same ↦ absurd (omega (arith, same, less))
    | inr (z, bound, stands, none, has, enough) ↦ (z, bound, stands, has, enough)
  ]

  -- a zone that stands and has a line has no lower bound than the best height, where `low` is unlike `high`
  line-founded : MayFinish problem l → l.low_is_high ≡ false → (z : ℕ) → Stands l.arena.trace z → HasLine l.lines.items z →
      IsClosedByBound problem (zone_of problem l.arena.trace z) l.arena.best.height
  line-founded (inl stopped) unlike z stands line = stopped.founded unlike z stands line
  line-founded (inr all) unlike z stands line = (all z stands).founded unlike line

  none-or_line : (z : ℕ) (o : Option ℕ) → get_or l.lines.items z None ≡ o → (HasLine l.lines.items z → ⊥) →
      get_or l.lines.items z None ≡ None
  none-or_line z None same unlined = same
  none-or_line z (Some k) same unlined = absurd (unlined (k, same))

  module _ (lower : ℕ) (may : MayFinish problem l) (least : IsLeastOpen problem l.arena.trace l.lines.items l.arena.best.height lower)
      (less : lower < l.arena.best.height) where
    least-unlike : l.low_is_high ≡ false → IsLeastStanding problem l.arena.trace l.arena.best.height lower
    least-unlike unlike = record {
      at_most = least.at_most;
      never_more = λ z bound stands has. by z bound stands has (get_or l.lines.items z None) refl;
      attained = elim least.attained [
        | inl same ↦ inl same
        | inr (z, bound, stands, none, has, enough) ↦ inr (z, bound, stands, has, enough)
      ];
    } where
      by : (z bound : ℕ) → Stands l.arena.trace z → IsBoundOf problem l.arena.trace z bound → (o : Option ℕ) →
          get_or l.lines.items z None ≡ o → lower ≤ bound
      by z bound stands has None none = least.never_more z bound stands none has
      by z bound stands has (Some k) line = elim (line-founded may unlike z stands (k, line)) [
        | inl empty ↦ absurd (empty has.some.0 has.some.1)
        | inr high ↦
            let same = bound-unique problem (InZone problem (zone_of problem l.arena.trace z)) high.0 bound high.1 has in
            omega (arith, same, high.2, less)
      ]

    least-alike : IsTrue l.low_is_high →
        IsLeastAhead problem l.arena.trace (log_nogoods problem l) l.arena.best.height lower
    least-alike low = elim least.attained [
      | inl same ↦ absurd (omega (arith, same, less))
      | inr (z, bound, stands, none, has, enough) ↦ by z bound stands none has enough may
    ] where
      no-line : (z : ℕ) → get_or l.lines.items z None ≡ None → HasLine l.lines.items z → ⊥
      no-line z none line = let never : None ≡ Some (line.0) = sym none ∙ line.1 in cc

      by : (z bound : ℕ) → Stands l.arena.trace z → get_or l.lines.items z None ≡ None →
          IsBoundOf problem l.arena.trace z bound → bound ≤ lower → MayFinish problem l →
          IsLeastAhead problem l.arena.trace (log_nogoods problem l) l.arena.best.height lower
      by z bound stands none has enough (inr all) = absurd (no-line z none ((all z stands).written low))
      by z bound stands none has enough (inl stopped) = record {
        cut = stopped.cut;
        next = stopped.next low;
        never_more = λ y other ahead is_bound. least.never_more y other ahead.stands
            (none-or_line y (get_or l.lines.items y None) refl (stopped.unlined y ahead)) is_bound;
        attained = (
          z,
          stopped.ahead low z stands (no-line z none),
          subst (IsBoundOf problem l.arena.trace z)
              (let above = least.never_more z bound stands none has in omega (arith, enough, above)) has,
        );
      }

  -- once the open zones have lines for the lower bound
  module _ (lower : ℕ) (least : IsLeastOpen problem l.arena.trace l.lines.items l.arena.best.height lower) (new : Learning)
      (grown : IsGrown (record l { height = lower }) new) where
    below-best : new.height < new.arena.best.height → lower < l.arena.best.height
    below-best less = omega (arith, less, grown.height, ap (λ (arena : Arena). arena.best.height) grown.arena)

    pub grown-ended : MayFinish problem l → new.height < new.arena.best.height →
        MayEnd problem new.arena.trace new.arena.best.height new.budget
    grown-ended may less = subst (λ (arena : Arena). MayEnd problem arena.trace arena.best.height new.budget) (sym grown.arena)
        (subst (MayEnd problem l.arena.trace l.arena.best.height) (sym grown.budget) (may-end lower may least (below-best less)))

    pub grown-least : MayFinish problem l → new.height < new.arena.best.height →
        IsLeastLeft problem new.arena.trace new.log new.arena.best.height new.height
    grown-least may less = record {
      alike = λ low.
          let was = least-alike lower may least (below-best less) (is.agree.1 low) in
          subst (λ (h : ℕ). IsLeastAhead problem new.arena.trace (log_nogoods problem new) new.arena.best.height h) (sym grown.height)
          (subst (λ (arena : Arena). IsLeastAhead problem arena.trace (log_nogoods problem new) arena.best.height lower)
          (sym grown.arena) (record {
            cut = was.cut;
            next = record {
              stands = was.next.stands;
              below = was.next.below;
              order = was.next.order;
              unclosed = grown.unclosed problem was.cut was.next.unclosed;
            };
            never_more = was.never_more;
            attained = was.attained;
          }));
      unlike = λ differ.
          subst (λ (h : ℕ). IsLeastStanding problem new.arena.trace new.arena.best.height h) (sym grown.height)
          (subst (λ (arena : Arena). IsLeastStanding problem arena.trace arena.best.height lower) (sym grown.arena)
          (least-unlike lower may least (below-best less) (not-true l.low_is_high refl (λ low. differ (is.agree.0 low)))));
    } where
      not-true : (low : Bool) → l.low_is_high ≡ low → (IsTrue l.low_is_high → ⊥) → l.low_is_high ≡ false
      not-true true same not = absurd (not same)
      not-true false same not = same

    pub grown-open : new.height < new.arena.best.height → HasBoundUpTo problem new.arena.trace new.height
    grown-open less = subst (λ (arena : Arena). HasBoundUpTo problem arena.trace new.height) (sym grown.arena)
        (subst (HasBoundUpTo problem l.arena.trace) (sym grown.height) (bound-open lower least (below-best less)))

  pub log-good : l.done ≡ true → IsGoodLog problem l.arena.trace l.log l.height
  log-good done = record {
    some = (is.ended done).some;
    lines = λ k d within. (is.lines_good k d within).good;
    last = (is.ended done).last;
  }

  pub log-writable : IsLogWritable l.log
  log-writable = (
    recursion_from_All IsLineShaped l.log (λ k d within. (is.lines_good k d within).writable.shaped),
    all-flat_map IsPieceInRange line_pieces l.log (λ k d within. (is.lines_good k d within).writable.within),
  )

  -- each line needs what it fires
  abbrev AllNeeded : List CutAt → List LogLine → Type 0
  AllNeeded trace log = (k : ℕ) (d : LogLine) → k < length log → FiresAreNeeded problem trace log k (get_or log k d)

  learnt : IsInClassOrder l.arena.trace → LowIsHigh problem → IsLearnt problem l.arena.opening l.arena.trace l.log
  learnt order low =
      let known = is.known (is.agree.1 low) in
      record {
        stay = passed-stay problem l.arena.trace is.arena.trace_of order;
        enough = λ i d within. (
          (known i d within).n,
          omega (arith, (known i d within).there, nogoods-count problem l.arena.trace l.log),
          λ z passed. (known i d within).before z passed.stands.there passed.before,
        );
        not_closed = λ i d within k is_known closes. (known i d within).none k
            (is_known (known i d within).n (λ z passed. (known i d within).before z passed.stands.there passed.before)) closes;
        shrunk = λ k d within few. (is.lines_good k d within).minimal few;
      }

  pub learn-outcome : KeepsClassOrder problem l.arena.trace →
      (l.height < l.arena.best.height → IsLeastLeft problem l.arena.trace l.log l.arena.best.height l.height) →
      (outcome : Outcome) → outcome.best ≡ l.arena.best → outcome.trace ≡ l.arena.trace → outcome.log ≡ l.log →
      outcome.lower ≡ l.height → IsLearnOutcome problem outcome
  learn-outcome keeps least outcome best trace log lower =
      let opening = is.arena.opening in
      record {
        opening = opening.0;
        is_opening = opening.1;
        lowered = subst (IsLowered opening.0) (sym best) opening.3;
        spans = subst (CutsFirstSpans problem) (sym trace) keeps.spans;
        below = subst (CutsBelowPlacements problem) (sym trace) keeps.below;
        order = subst IsInClassOrder (sym trace) keeps.order;
        learnt = λ low. subst (λ (h : ℕ). IsLearnt problem h outcome.trace outcome.log) (sym opening.2)
            (subst (λ (t : List CutAt). IsLearnt problem l.arena.opening t outcome.log) (sym trace)
            (subst (IsLearnt problem l.arena.opening l.arena.trace) (sym log) (learnt keeps.order low)));
        closed_before = λ low. subst (λ (t : List CutAt). WereKnown problem t (nogoods_in problem t outcome.log)) (sym trace)
            (subst (λ (lines : List LogLine). WereKnown problem l.arena.trace (nogoods_in problem l.arena.trace lines)) (sym log)
            (is.known (is.agree.1 low)));
        fires = subst (λ (t : List CutAt). AllNeeded t outcome.log) (sym trace)
            (subst (AllNeeded l.arena.trace) (sym log) (λ k d within. (is.lines_good k d within).needed));
        least = subst (λ (h : ℕ). h < outcome.best.height →
            IsLeastLeft problem outcome.trace outcome.log outcome.best.height h) (sym lower)
            (subst (λ (b : Placed). l.height < b.height → IsLeastLeft problem outcome.trace outcome.log b.height l.height) (sym best)
            (subst (λ (t : List CutAt). l.height < l.arena.best.height →
            IsLeastLeft problem t outcome.log l.arena.best.height l.height) (sym trace)
            (subst (λ (lines : List LogLine). l.height < l.arena.best.height →
            IsLeastLeft problem l.arena.trace lines l.arena.best.height l.height) (sym log) least)));
      }
