-- Paths that are made longer, and the pass that finds the heaviest.
use Rattle.std.proofs.Common.{◌≡◌, ◌≢◌, ℕ, zero, suc, ◌+◌, ◌<◌, ◌≤◌, max, List, [], ◌∷◌, ◌++◌, length, get_or, set, take, ◌-◌}
use Rattle.std.proofs.Common.{add-zero, sym, ap, ◌∙◌}
use Rattle.std.proofs.Common.{arith, inl, inr, ◌⊎◌, ⊎_elim}
use Rattle.std.proofs.lemmas.List.{length-set, get_or-set_same, get_or-set_other}
use Rattle.std.proofs.lemmas.List.Sums.{sum_by_push, sum_by_more, sum_by-cons}
use Rattle.std.proofs.lemmas.Bool.{cases_eq, cases_lt}
use Rattle.tl_diff.specs.declared.paths.Arc.{Arc}
use Rattle.tl_diff.specs.Paths.{arc_at, IsPath, path_weight, IsHeaviest, total_weight, LeadForward, InOrder}
use Rattle.tl_diff.specs.inner.Relaxing.{IsRelaxed}

-- ---- paths

-- a path to a place goes on to each later place
pub IsPath-further : (arcs : List Arc) (p : ℕ) (is : List ℕ) (k m : ℕ) → IsPath arcs p is k → k ≤ m → IsPath arcs p is m
IsPath-further arcs p [] k m path far = omega arith
IsPath-further arcs p (i ∷ is) k m path far = (path.0, path.1, IsPath-further arcs (arc_at arcs i).to is k m path.2 far)

-- and along an arc that begins there or later
pub IsPath-push : (arcs : List Arc) (p : ℕ) (is : List ℕ) (k i m : ℕ) → IsPath arcs p is k → i < length arcs →
    k ≤ (arc_at arcs i).from →
    (arc_at arcs i).to ≤ m → IsPath arcs p (is ++ i ∷ []) m
IsPath-push arcs p [] k i m path there from to = (there, omega arith, to)
IsPath-push arcs p (j ∷ is) k i m path there from to =
    (path.0, path.1, IsPath-push arcs (arc_at arcs j).to is k i m path.2 there from to)

pub path_weight-push : (arcs : List Arc) (is : List ℕ) (i : ℕ) →
    path_weight arcs (is ++ i ∷ []) ≡ path_weight arcs is + (arc_at arcs i).weight
path_weight-push arcs is i = sum_by_push (λ j. (arc_at arcs j).weight) is i

-- ---- a table of weights in which one place may have more

module _ (out : List ℕ) (e w : ℕ) (there : e < length out) where
  raised_at : get_or (set out e (max (get_or out e 0) w)) e 0 ≡ max (get_or out e 0) w
  raised_at = get_or-set_same out e (max (get_or out e 0) w) 0 there

  raised_other : (k : ℕ) → k ≢ e → get_or (set out e (max (get_or out e 0) w)) k 0 ≡ get_or out k 0
  raised_other k apart = get_or-set_other out e k (max (get_or out e 0) w) 0 apart

  raised_same : (k : ℕ) → k ≡ e → get_or (set out e (max (get_or out e 0) w)) k 0 ≡ max (get_or out e 0) w
  raised_same k same = rw same raised_at

  -- no place has less than before
  raised_le : (k : ℕ) → get_or out k 0 ≤ get_or (set out e (max (get_or out e 0) w)) k 0
  raised_le k = ⊎-go (cases_eq k e)
    where
      ⊎-go : (k ≡ e) ⊎ (k ≢ e) → get_or out k 0 ≤ get_or (set out e (max (get_or out e 0) w)) k 0
      ⊎-go (inl same) = rw same (omega (arith, raised_at))
      ⊎-go (inr apart) = omega (arith, raised_other k apart)

-- ---- one arc more, and one place more

module _ (n : ℕ) (arcs : List Arc) (place next : ℕ) (out : List ℕ) (forward : LeadForward n arcs) (in_order : InOrder arcs) where
  -- the arc `next` begins at `place`
  module _ (h : IsRelaxed arcs n place (place + 1) place next out) (there : next < length arcs)
      (from : (arc_at arcs next).from ≡ place) where
    -- the weight of the way to `place` and along the arc
    abbrev along : ℕ
    along = get_or out place 0 + (arc_at arcs next).weight

    abbrev after : List ℕ
    after = set out (arc_at arcs next).to (max (get_or out (arc_at arcs next).to 0) along)

    in_room : (arc_at arcs next).to < length out
    in_room = omega (arith, h.room, forward next there)

    arc-reached : (k : ℕ) → k ≤ n → (k ≡ (arc_at arcs next).to) ⊎ (k ≢ (arc_at arcs next).to) →
        (is : List ℕ) × (IsPath arcs 0 is k × (path_weight arcs is ≡ get_or after k 0))
    arc-reached k up (inr apart) = let r = h.reached k up in
        (r.0, (r.1.0, r.1.1 ∙ sym (raised_other out _ along in_room k apart)))
    arc-reached k up (inl same) = go (cases_lt (get_or out k 0) along)
      where
        go : (get_or out k 0 < along) ⊎ (along ≤ get_or out k 0) →
            (is : List ℕ) × (IsPath arcs 0 is k × (path_weight arcs is ≡ get_or after k 0))
        go (inl less) =
            let r = h.reached place (omega (arith, forward next there)) in (
              r.0 ++ next ∷ [],
              (
                IsPath-push arcs 0 r.0 place next k r.1.0 there (omega arith) (omega arith),
                path_weight-push arcs r.0 next
                    ∙ omega (arith, r.1.1, raised_same out _ along in_room k same, ap (λ j. get_or out j 0) same),
              ),
            )
        go (inr more) = let r = h.reached k up in
            (r.0, (r.1.0, omega (arith, r.1.1, raised_same out _ along in_room k same, ap (λ j. get_or out j 0) same)))

    arc-taken-here : get_or after (arc_at arcs next).from 0 + (arc_at arcs next).weight ≤ get_or after (arc_at arcs next).to 0
    arc-taken-here =
        omega (
          arith,
          raised_other out _ along in_room (arc_at arcs next).from (omega (arith, forward next there)),
          raised_at out _ along in_room,
          ap
              (λ j. get_or out j 0) from,
        )

    arc-taken : (i : ℕ) → i < next + 1 → (i ≡ next) ⊎ (i ≢ next) →
        get_or after (arc_at arcs i).from 0 + (arc_at arcs i).weight ≤ get_or after (arc_at arcs i).to 0
    arc-taken i below (inl same) =
        rw same arc-taken-here
    arc-taken i below (inr apart) =
        let low : i < next = omega arith in
        omega (
          arith,
          raised_other out _ along in_room (arc_at arcs i).from (omega (arith, h.before i low, forward next there)),
          raised_le out _ along
              in_room (arc_at arcs i).to,
          h.taken i low,
        )

    arc-before : (i : ℕ) → i < next + 1 → (i ≡ next) ⊎ (i ≢ next) → (arc_at arcs i).from < place + 1
    arc-before i below (inl same) = rw same (omega arith)
    arc-before i below (inr apart) = omega (arith, h.before i (omega arith))

    arc-small : (k : ℕ) → k ≤ n → (k ≡ (arc_at arcs next).to) ⊎ (k ≢ (arc_at arcs next).to) →
        get_or after k 0 ≤ total_weight (take (next + 1) arcs)
    arc-small k up same =
        let sum = sum_by_more (λ e. e.weight) arcs next (record { from = 0; to = 0; weight = 0 }) there in
        let here = h.small k up in
        let begin = h.small place (omega (arith, forward next there)) in
        ⊎_elim
        (λ e. omega (arith, sum, raised_same out _ along in_room k e, ap (λ j. get_or out j 0) e))
        (λ apart. omega (arith, sum, raised_other out _ along in_room k apart))
        same

    -- its end has at least what the way along it weighs
    pub IsRelaxed-arc : IsRelaxed arcs n place (place + 1) place (next + 1) after
    IsRelaxed-arc = record {
      room = length-set out _ _ ∙ h.room;
      reached = λ k up. arc-reached k up (cases_eq k _);
      rising = λ k below.
          let low : k ≢ (arc_at arcs next).to = omega (arith, forward next there) in
          let high : k + 1 ≢ (arc_at arcs next).to = omega (arith, forward next there) in
          omega (arith, raised_other out _ along in_room k low, raised_other out _ along in_room (k + 1) high, h.rising k below);
      taken = λ i below. arc-taken i below (cases_eq i next);
      before = λ i below. arc-before i below (cases_eq i next);
      later = λ i past within. h.later i (omega arith) within;
      small = λ k up. arc-small k up (cases_eq k _);
      within = omega arith;
    }

  -- all arcs that begin at `place` are done: the next place has at least as much
  module _ (h : IsRelaxed arcs n place (place + 1) place next out) (there : place < n) (past : next < length arcs →
      (arc_at arcs next).from ≢ place) where
    abbrev on : List ℕ
    on = set out (place + 1) (max (get_or out (place + 1) 0) (get_or out place 0))

    on-room : place + 1 < length out
    on-room = omega (arith, h.room)

    on-reached : (k : ℕ) → k ≤ n → (k ≡ place + 1) ⊎ (k ≢ place + 1) →
        (is : List ℕ) × (IsPath arcs 0 is k × (path_weight arcs is ≡ get_or on k 0))
    on-reached k up (inr apart) = let r = h.reached k up in (
      r.0,
      (r.1.0, r.1.1 ∙ sym (raised_other out _ (get_or out place 0) on-room k apart)),
    )
    on-reached k up (inl same) = go (cases_lt (get_or out k 0) (get_or out place 0))
      where
        go : (get_or out k 0 < get_or out place 0) ⊎ (get_or out place 0 ≤ get_or out k 0) →
            (is : List ℕ) × (IsPath arcs 0 is k × (path_weight arcs is ≡ get_or on k 0))
        go (inl less) =
            let r = h.reached place (omega arith) in (
              r.0,
              (
                IsPath-further arcs 0 r.0 place k r.1.0 (omega arith),
                omega
                    (arith, r.1.1, raised_same out _ (get_or out place 0) on-room k same, ap (λ j. get_or out j 0) same),
              ),
            )
        go (inr more) = let r = h.reached k up in (
          r.0,
          (
            r.1.0,
            omega (
              arith,
              r.1.1,
              raised_same out _ (get_or out place 0) on-room k same,
              ap (λ j. get_or out j 0) same,
            ),
          ),
        )

    on-rising : (k : ℕ) → k < place + 1 → (k ≡ place) ⊎ (k ≢ place) → get_or on k 0 ≤ get_or on (k + 1) 0
    on-rising k below (inl same) =
        rw same (omega (
          arith,
          raised_other out _ (get_or out place 0) on-room place (omega arith),
          raised_at out _ (get_or out place 0) on-room,
        ))
    on-rising k below (inr apart) =
        omega (
          arith,
          raised_other out _ (get_or out place 0) on-room k (omega arith),
          raised_other out _ (get_or out place 0) on-room (k + 1)
              (omega arith),
          h.rising k (omega arith),
        )

    on-later : (i : ℕ) → next ≤ i → i < length arcs → (i ≡ next) ⊎ (i ≢ next) → place + 1 ≤ (arc_at arcs i).from
    on-later i from within (inl same) =
        let begun = h.later next (omega arith) (omega arith) in
        let apart = past (omega arith) in
        rw same (omega arith)
    on-later i from within (inr apart) =
        let begun = h.later next (omega arith) (omega arith) in
        let other = past (omega arith) in
        omega (arith, in_order next i (omega arith) within)

    on-small : (k : ℕ) → k ≤ n → (k ≡ place + 1) ⊎ (k ≢ place + 1) → get_or on k 0 ≤ total_weight (take next arcs)
    on-small k up same =
        let here = h.small k up in
        let begin = h.small place (omega arith) in
        ⊎_elim
        (λ e. omega (arith, raised_same out _ (get_or out place 0) on-room k e, ap (λ j. get_or out j 0) e))
        (λ apart. omega (arith, raised_other out _ (get_or out place 0) on-room k apart))
        same

    pub IsRelaxed-on : IsRelaxed arcs n (place + 1) (place + 1) (place + 1) next on
    IsRelaxed-on = record {
      room = length-set out _ _ ∙ h.room;
      reached = λ k up. on-reached k up (cases_eq k (place + 1));
      rising = λ k below. on-rising k below (cases_eq k place);
      taken = λ i below.
          omega (
            arith,
            raised_other out _ (get_or out place 0) on-room (arc_at arcs i).from (omega (arith, h.before i below)),
            raised_le out _
                (get_or out place 0) on-room (arc_at arcs i).to,
            h.taken i below,
          );
      before = h.before;
      later = λ i from within. on-later i from within (cases_eq i next);
      small = λ k up. on-small k up (cases_eq k (place + 1));
      within = h.within;
    }

-- ---- the end of the pass

module _ (n : ℕ) (arcs : List Arc) (next : ℕ) (out : List ℕ) (forward : LeadForward n arcs)
    (h : IsRelaxed arcs n n n n next out) where
  rising_by : (k m : ℕ) → k + m ≤ n → get_or out k 0 ≤ get_or out (k + m) 0
  rising_by k zero up = rw add-zero (omega arith)
  rising_by k (suc m) up =
      let e : k + suc m ≡ k + m + 1 = omega arith in
      rw e (omega (arith, rising_by k m (omega arith), h.rising (k + m) (omega arith)))

  rising_to : (p k : ℕ) → p ≤ k → k ≤ n → get_or out p 0 ≤ get_or out k 0
  rising_to p k low up = let e : p + (k - p) ≡ k = omega arith in rw e at (rising_by p (k - p) (omega arith))

  -- no path gains more than its end has above its start
  path_weight-le : (p : ℕ) (is : List ℕ) (k : ℕ) → IsPath arcs p is k → k ≤ n →
      get_or out p 0 + path_weight arcs is ≤ get_or out k 0
  path_weight-le p [] k path up = omega (arith, rising_to p k path up)
  path_weight-le p (i ∷ is) k path up =
      let past : i < next = ⊎_elim (λ l. l) (λ g. absurd (omega (arith, h.later i g path.0, forward i path.0)))
      (cases_lt i next) in
      omega (
        arith,
        path_weight-le (arc_at arcs i).to is k path.2 up,
        h.taken i past,
        rising_to p (arc_at arcs i).from path.1
            (omega (arith, forward i path.0)),
        sum_by-cons (λ j. (arc_at arcs j).weight) i is,
      )

  pub IsHeaviest-relaxed : (k : ℕ) → k ≤ n → IsHeaviest arcs k (get_or out k 0)
  IsHeaviest-relaxed k up = record {
    reached = h.reached k up;
    greatest = λ is path. omega (arith, path_weight-le 0 is k path up);
  }
