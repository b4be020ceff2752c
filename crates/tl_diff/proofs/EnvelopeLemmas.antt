-- Tightest bounds are reached: assignments that stay under given heights and are otherwise as great as possible.
use Rattle.std.proofs.Common.{◌≡◌, ◌≢◌, ℕ, zero, suc, ◌+◌, ◌<◌, ◌≤◌, ℤ, pos, negsuc, ◌+ℤ◌, ◌≤ℤ◌, Option, Some, None, cond, eqb}
use Rattle.std.proofs.Common.{refl, arith, inl, inr}
use Rattle.std.proofs.Common.{◌⊎◌, ⊎_elim, sym, subst}
use Rattle.std.specs.Int.{int_min}
use Rattle.std.proofs.lemmas.Int.{ints, clamps}
use Rattle.std.proofs.lemmas.Bool.{cases_eq}
use Rattle.tl_diff.specs.Bounds.{Bounds, bound_at, Satisfies, IsGreatest, HasNoGreatest}
use Rattle.tl_diff.specs.inner.Closed.{AtMost, IsClosed}
use Rattle.tl_diff.proofs.AtMostLemmas.{Satisfies-from}

-- the lower of a height and a bound above a source
abbrev pub lower : Option ℤ → ℤ → ℤ → ℤ
lower None y e = e
lower (Some c) y e = int_min e (y +ℤ c)

-- variable p under the heights `top`: its own, and those of the first k variables with their bounds to it
abbrev pub under : Bounds → (ℕ → ℤ) → ℕ → ℕ → ℤ
under bounds top p zero = top p
under bounds top p (suc k) = lower (bound_at bounds k p) (top k) (under bounds top p k)

lower_le : (o : Option ℤ) (y e : ℤ) → lower o y e ≤ℤ e
lower_le None y e = omega (arith, ints)
lower_le (Some c) y e = omega (arith, ints, clamps)

lower_at : (o : Option ℤ) (y e c : ℤ) → AtMost o c → lower o y e ≤ℤ (y +ℤ c)
lower_at None y e c h = absurd h
lower_at (Some d) y e c h = omega (arith, ints, clamps)

lower_cases : (o : Option ℤ) (y e : ℤ) → (e ≤ℤ lower o y e) ⊎ ((c : ℤ) × (AtMost o c × ((y +ℤ c) ≤ℤ lower o y e)))
lower_cases None y e = inl (omega (arith, ints))
lower_cases (Some c) y e = by_order (int_cases e (y +ℤ c))
  where
    int_cases : (i j : ℤ) → (i ≤ℤ j) ⊎ (j ≤ℤ i)
    int_cases i j = grind (arith, ints)

    by_order : (e ≤ℤ (y +ℤ c)) ⊎ ((y +ℤ c) ≤ℤ e) → (e ≤ℤ int_min e (y +ℤ c)) ⊎
        ((d : ℤ) × ((c ≤ℤ d) × ((y +ℤ d) ≤ℤ int_min e (y +ℤ c))))
    by_order (inl h) = inl (omega (arith, ints, clamps))
    by_order (inr h) = inr (c, (omega (arith, ints), omega (arith, ints, clamps)))

module _ (bounds : Bounds) (top : ℕ → ℤ) where
  under_le : (p q k : ℕ) (c : ℤ) → q < k → AtMost (bound_at bounds q p) c → under bounds top p k ≤ℤ (top q +ℤ c)
  under_le p q zero c within h = absurd (omega arith)
  under_le p q (suc k) c within h =
      ⊎_elim
      (λ e. subst (λ j. lower (bound_at bounds k p) (top k) (under bounds top p k) ≤ℤ (top j +ℤ c)) (sym e)
      (lower_at (bound_at bounds k p) (top k) (under bounds top p k) c (subst (λ j. AtMost (bound_at bounds j p) c) e h)))
      (λ apart. omega (
        arith,
        ints,
        lower_le (bound_at bounds k p) (top k) (under bounds top p k),
        under_le p q k c (omega arith) h,
      ))
      (cases_eq q k)

  -- which height holds a variable down
  pub record HeldBy (p : ℕ) (e : ℤ) : Type 0 where
    pub source : ℕ
    pub by : ℤ
    pub there : source < bounds.n
    pub bound : AtMost (bound_at bounds source p) by
    pub reached : (top source +ℤ by) ≤ℤ e

  under_held : IsClosed bounds → (p k : ℕ) → p < bounds.n → k ≤ bounds.n → HeldBy p (under bounds top p k)
  under_held closed p zero there up = record {
    source = p;
    by = pos 0;
    there = there;
    bound = closed.own p there;
    reached =
        omega (arith, ints);
  }
  under_held closed p (suc k) there up =
      let rest = under_held closed p k there (omega arith) in
      ⊎_elim
      (λ le. record {
        source = rest.source;
        by = rest.by;
        there = rest.there;
        bound = rest.bound;
        reached =
            omega (arith, ints, rest.reached);
      })
      (λ new. record { source = k; by = new.0; there = omega arith; bound = new.1.0; reached = new.1.1 })
      (lower_cases (bound_at bounds k p) (top k) (under bounds top p k))

  -- this assignment satisfies every constraint
  pub Satisfies-under : IsClosed bounds → Satisfies bounds (λ p. under bounds top p bounds.n)
  Satisfies-under closed = Satisfies-from bounds (λ p. under bounds top p bounds.n) (λ p q t from to h.
      let held = under_held closed p bounds.n from (omega arith) in
      omega (
        arith,
        ints,
        held.reached,
        under_le q held.source bounds.n (held.by +ℤ t) held.there
            (closed.through held.source p q held.by t held.there from to held.bound h),
      ))

-- a number that brings z up to 0, and reaches it
past : (z : ℤ) → (k : ℕ) × ((pos 0 ≤ℤ (pos k +ℤ z)) × (z ≤ℤ pos k))
past (pos n) = (n, (omega (arith, ints), omega (arith, ints)))
past (negsuc n) = (suc n, (omega (arith, ints), omega (arith, ints)))

module _ (bounds : Bounds) (closed : IsClosed bounds) (a b : ℕ) (first : a < bounds.n) (second : b < bounds.n) where
  -- variable a at 0, and all others far above it
  abbrev far : ℕ → ℕ → ℤ
  far k q = cond (eqb q a) (pos 0) (pos k)

  far_here : (k q : ℕ) → q ≡ a → far k q ≡ pos 0
  far_here k q e = grind arith

  far_other : (k q : ℕ) → q ≢ a → far k q ≡ pos k
  far_other k q e = grind arith

  -- k is enough where it brings all bounds to a, and to b less `target`, up to 0
  module _ (k : ℕ) (target : ℤ) (free : (c : ℤ) → AtMost (bound_at bounds a b) c → target ≤ℤ c)
      (to_a : (q : ℕ) (c : ℤ) → q < bounds.n → AtMost (bound_at bounds q a) c → pos 0 ≤ℤ (pos k +ℤ c))
      (to_b : (q : ℕ) (c : ℤ) → q < bounds.n → AtMost (bound_at bounds q b) c → target ≤ℤ (pos k +ℤ c)) where
    a_up : pos 0 ≤ℤ under bounds (far k) a bounds.n
    a_up =
        let held = under_held bounds (far k) closed a bounds.n first (omega arith) in
        ⊎_elim
        (λ e. omega (arith, ints, held.reached, far_here k held.source e, closed.own_least a held.by first (rw e at held.bound)))
        (λ apart. omega (
          arith,
          ints,
          held.reached,
          far_other k held.source apart,
          to_a held.source held.by held.there held.bound,
        ))
        (cases_eq held.source a)

    b_up : target ≤ℤ under bounds (far k) b bounds.n
    b_up =
        let held = under_held bounds (far k) closed b bounds.n second (omega arith) in
        ⊎_elim
        (λ e. omega (arith, ints, held.reached, far_here k held.source e, free held.by (rw e at held.bound)))
        (λ apart. omega (
          arith,
          ints,
          held.reached,
          far_other k held.source apart,
          to_b held.source held.by held.there held.bound,
        ))
        (cases_eq held.source a)

    reaches_by : (x : ℕ → ℤ) × (Satisfies bounds x × ((x a +ℤ target) ≤ℤ x b))
    reaches_by = (
      (λ p. under bounds (far k) p bounds.n),
      (
        Satisfies-under bounds (far k) closed,
        omega (
          arith,
          ints,
          a_up,
          b_up,
          far_here k a refl,
          under_le bounds (far k) a a bounds.n (pos 0) first
              (closed.own a first),
        ),
      ),
    )

  -- If no bound from a to b is below `target`, some assignment has `x_b >= x_a + target`.
  pub reaches : (target : ℤ) → ((c : ℤ) → AtMost (bound_at bounds a b) c → target ≤ℤ c) →
      (x : ℕ → ℤ) × (Satisfies bounds x × ((x a +ℤ target) ≤ℤ x b))
  reaches target free =
      let i = past (under bounds (λ q. pos 0) a bounds.n) in
      let j = past (under bounds (λ q. pos 0) b bounds.n) in
      let l = past target in
      reaches_by (i.0 + j.0 + l.0) target free
      (λ q c there h. omega (arith, ints, i.1.0, under_le bounds (λ q. pos 0) a q bounds.n c there h))
      (λ q c there h. omega (arith, ints, j.1.0, l.1.1, under_le bounds (λ q. pos 0) b q bounds.n c there h))

  -- a bound of a closed matrix is the tightest
  pub IsGreatest-closed : (c : ℤ) → bound_at bounds a b ≡ Some c → IsGreatest bounds a b c
  IsGreatest-closed c is =
      let most = λ (x : ℕ → ℤ) (meets : Satisfies bounds x). meets a b first second c is in
      let r = reaches c (λ t h. rw is at h) in
      record { implied = most; reached = (r.0, (r.1.0, omega (arith, ints, most r.0 r.1.0, r.1.1))) }

  -- where a closed matrix has no bound there is no tightest one
  pub HasNoGreatest-closed : bound_at bounds a b ≡ None → HasNoGreatest bounds a b
  HasNoGreatest-closed is d =
      let r = reaches (d +ℤ pos 1) (λ c h. absurd (rw is at h)) in
      (r.0, (r.1.0, omega (arith, ints, r.1.1)))
