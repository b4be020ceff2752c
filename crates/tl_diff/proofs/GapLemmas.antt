-- Why no tightest bound is large: among n variables that lie far apart there is a gap that no given constraint spans.
use Rattle.std.proofs.Common.{◌≡◌, ℕ, zero, suc, ◌+◌, ◌*◌, ◌<◌, ◌≤◌, ℤ, pos, negsuc, ◌+ℤ◌, ◌≤ℤ◌, ◌<ℤ◌, neg_ℤ, Some, cond, arith}
use Rattle.std.proofs.Common.{inl, inr, ◌⊎◌, ⊎_elim}
use Rattle.std.specs.Prelude.{int_le}
use Rattle.std.proofs.lemmas.Int.{ints, by_lt_z}
use Rattle.std.proofs.lemmas.Bool.{cases_eq}
use Rattle.tl_diff.specs.declared.matrix.TheConstants.{MAX_BOUND}
use Rattle.tl_diff.specs.Bounds.{Bounds, bound_at, Satisfies, MeetsConstraint, AddsBound}
use Rattle.tl_diff.specs.inner.Closed.{IsClosed, IsLoose, IsGap, AreSmallBounds, moved_past}
use Rattle.tl_diff.proofs.EnvelopeLemmas.{reaches}

-- 1 where a variable is up to t
abbrev pub up_to : ℤ → ℤ → ℕ
up_to y t = cond (int_le y t) 1 0

-- how many of the first n variables lie up to t
abbrev pub count_up_to : (ℕ → ℤ) → ℤ → ℕ → ℕ
count_up_to x t zero = 0
count_up_to x t (suc n) = count_up_to x t n + up_to (x n) t

up_to_le : (y t u : ℤ) → t ≤ℤ u → up_to y t ≤ up_to y u
up_to_le y t u h = grind (arith, ints)

up_to_one : (y t : ℤ) → up_to y t ≤ 1
up_to_one y t = grind (arith, ints)

up_to_in : (y t : ℤ) → y ≤ℤ t → up_to y t ≡ 1
up_to_in y t h = grind (arith, ints)

up_to_out : (y t : ℤ) → t <ℤ y → up_to y t ≡ 0
up_to_out y t h = grind (arith, ints)

module _ (x : ℕ → ℤ) where
  count_le : (t : ℤ) (n : ℕ) → count_up_to x t n ≤ n
  count_le t zero = omega arith
  count_le t (suc n) = omega (arith, count_le t n, up_to_one (x n) t)

  count_mono : (t u : ℤ) (n : ℕ) → t ≤ℤ u → count_up_to x t n ≤ count_up_to x u n
  count_mono t u zero h = omega arith
  count_mono t u (suc n) h = omega (arith, count_mono t u n h, up_to_le (x n) t u h)

  count_some : (t : ℤ) (n p : ℕ) → p < n → x p ≤ℤ t → 1 ≤ count_up_to x t n
  count_some t zero p there h = absurd (omega arith)
  count_some t (suc n) p there h =
      ⊎_elim
      (λ e. omega (arith, up_to_in (x n) t (rw e at h)))
      (λ apart. omega (arith, count_some t n p (omega arith) h))
      (cases_eq p n)

  count_more : (t u : ℤ) (n p : ℕ) → t ≤ℤ u → p < n → t <ℤ x p → x p ≤ℤ u → count_up_to x t n + 1 ≤ count_up_to x u n
  count_more t u zero p le there low high = absurd (omega arith)
  count_more t u (suc n) p le there low high =
      ⊎_elim
      (λ e. omega (arith, count_mono t u n le, up_to_out (x n) t (rw e at low), up_to_in (x n) u (rw e at high)))
      (λ apart. omega (arith, count_more t u n p le (omega arith) low high, up_to_le (x n) t u le))
      (cases_eq p n)

  -- whether some variable lies within the MAX_BOUND above t
  side : (y t : ℤ) → ((y ≤ℤ t) ⊎ ((t +ℤ pos MAX_BOUND) <ℤ y)) ⊎ ((t <ℤ y) × (y ≤ℤ (t +ℤ pos MAX_BOUND)))
  side y t = grind (arith, ints)

  find_gap : (t : ℤ) (n : ℕ) → IsGap n x t ⊎ ((p : ℕ) × ((p < n) × ((t <ℤ x p) × (x p ≤ℤ (t +ℤ pos MAX_BOUND)))))
  find_gap t zero = inl (λ p there. absurd (omega arith))
  find_gap t (suc n) =
      ⊎_elim
      (λ gap. ⊎_elim
      (λ here. inl (λ p there. ⊎_elim (λ e. rw e here) (λ apart. gap p (omega arith)) (cases_eq p n)))
      (λ within. inr (n, (omega arith, within)))
      (side (x n) t))
      (λ f. inr (f.0, (omega arith, f.1.1)))
      (find_gap t n)

  -- A gap among the first k windows of MAX_BOUND above variable l, or more than k variables up to their end.
  gap_among : (n l : ℕ) → l < n → (k : ℕ) → ((j : ℕ) × ((j < k) × IsGap n x (x l +ℤ pos (MAX_BOUND * j)))) ⊎
      (k < count_up_to x (x l +ℤ pos (MAX_BOUND * k)) n)
  gap_among n l there zero = inr (omega (arith, count_some (x l +ℤ pos (MAX_BOUND * 0)) n l there (omega (arith, ints))))
  gap_among n l there (suc k) =
      ⊎_elim
      (λ g. inl (g.0, (omega arith, g.1.1)))
      (λ more. ⊎_elim
      (λ gap. inl (k, (omega arith, gap)))
      (λ f. inr (omega (
        arith,
        more,
        count_more (x l +ℤ pos (MAX_BOUND * k)) (x l +ℤ pos (MAX_BOUND * suc k)) n f.0
            (omega (arith, ints)) f.1.0 f.1.1.0 (omega (arith, ints, f.1.1.1)),
      )))
      (find_gap (x l +ℤ pos (MAX_BOUND * k)) n))
      (gap_among n l there k)

  -- Between two variables that are more than MAX_BOUND for each variable apart there is a gap.
  gap_between : (n l h : ℕ) → l < n → h < n → (x l +ℤ pos (MAX_BOUND * n)) <ℤ x h →
      (t : ℤ) × (IsGap n x t × ((x l ≤ℤ t) × (t <ℤ x h)))
  gap_between n l h low high far =
      ⊎_elim
      (λ g. (x l +ℤ pos (MAX_BOUND * g.0), (g.1.1, (omega (arith, ints), omega (arith, ints, g.1.0)))))
      (λ more. absurd (omega (arith, more, count_le (x l +ℤ pos (MAX_BOUND * n)) n)))
      (gap_among n l low n)

-- ---- what moves

moved_low : (x : ℕ → ℤ) (t s : ℤ) (p : ℕ) → x p ≤ℤ t → moved_past x t s p ≡ x p
moved_low x t s p h = grind (arith, ints)

moved_high : (x : ℕ → ℤ) (t s : ℤ) (p : ℕ) → t <ℤ x p → moved_past x t s p ≡ x p +ℤ s
moved_high x t s p h = grind (arith, ints)

-- a constraint that is not large still holds when the variables above a gap move
moved_within : (x : ℕ → ℤ) (t s : ℤ) (u v n : ℕ) (w : ℤ) → u < n → v < n → IsGap n x t → negsuc 0 ≤ℤ s →
    neg_ℤ (pos MAX_BOUND) ≤ℤ w → w ≤ℤ pos MAX_BOUND
    → MeetsConstraint x u v w → MeetsConstraint (moved_past x t s) u v w
moved_within x t s u v n w first second gap low small_low small_high h =
    ⊎_elim
    (λ a. ⊎_elim
    (λ b. omega (arith, ints, moved_low x t s u a, moved_low x t s v b))
    (λ b. absurd (omega (arith, ints)))
    (gap v second))
    (λ a. ⊎_elim
    (λ b. omega (arith, ints, moved_high x t s u (omega (arith, ints)), moved_low x t s v b))
    (λ b. omega (arith, ints, moved_high x t s u (omega (arith, ints)), moved_high x t s v (omega (arith, ints))))
    (gap v second))
    (gap u first)

pub IsLoose-adds : (old new : Bounds) (u v : ℕ) (w : ℤ) → u < old.n → v < old.n → AddsBound old new u v w →
    neg_ℤ (pos MAX_BOUND) ≤ℤ w →
    w ≤ℤ pos MAX_BOUND → IsLoose old → IsLoose new
IsLoose-adds old new u v w first second adds low high loose x t s meets gap back =
    let gap_old : IsGap old.n x t = (λ p there. gap p (omega (arith, adds.variables))) in
    adds.all (moved_past x t s) (loose x t s (adds.keeps x meets) gap_old back)
    (moved_within x t s u v old.n w first second gap_old back low high (adds.adds x meets))

-- constraints that every assignment satisfies say nothing against a move
pub IsLoose-free : (bounds : Bounds) → ((x : ℕ → ℤ) → Satisfies bounds x) → IsLoose bounds
IsLoose-free bounds free x t s meets gap back = free (moved_past x t s)

-- ---- no tightest bound is large

module _ (bounds : Bounds) (closed : IsClosed bounds) (loose : IsLoose bounds) where
  -- variables that are far apart can be moved one further apart, and one nearer
  stretch : (x : ℕ → ℤ) (l h : ℕ) (s : ℤ) → Satisfies bounds x → l < bounds.n → h < bounds.n →
      (x l +ℤ pos (MAX_BOUND * bounds.n)) <ℤ x h → negsuc 0 ≤ℤ s
      → (y : ℕ → ℤ) × (Satisfies bounds y × ((y l ≡ x l) × (y h ≡ x h +ℤ s)))
  stretch x l h s meets low high far back =
      let g = gap_between x bounds.n l h low high far in
      (moved_past x g.0 s, (loose x g.0 s meets g.1.0 back, (moved_low x g.0 s l g.1.1.0, moved_high x g.0 s h g.1.1.1)))

  module _ (a b : ℕ) (first : a < bounds.n) (second : b < bounds.n) (c : ℤ) (is : bound_at bounds a b ≡ Some c) where
    not_above : (pos (MAX_BOUND * bounds.n) <ℤ c) → ⊥
    not_above large =
        let r = reaches bounds closed a b first second c (λ t h. rw is at h) in
        let y = stretch r.0 a b (pos 1) r.1.0 first second (omega (arith, ints, r.1.1)) (omega (arith, ints)) in
        omega (arith, ints, r.1.1, y.1.0 a b first second c is, y.1.1.0, y.1.1.1)

    not_below : (c <ℤ neg_ℤ (pos (MAX_BOUND * bounds.n))) → ⊥
    not_below large =
        let r = reaches bounds closed a b first second c (λ t h. rw is at h) in
        let y = stretch r.0 b a (negsuc 0) r.1.0 second first (omega (arith, ints, r.1.0 a b first second c is))
        (omega (arith, ints)) in
        omega (arith, ints, r.1.1, y.1.0 a b first second c is, y.1.1.0, y.1.1.1)

  pub AreSmall-closed : AreSmallBounds bounds
  AreSmall-closed a b c first second is = (
    by_order c (neg_ℤ (pos (MAX_BOUND * bounds.n))) (not_below a b first second c is),
    by_order (pos (MAX_BOUND * bounds.n)) c
        (not_above a b first second c is),
  )
    where
      by_order : (i j : ℤ) → ((i <ℤ j) → ⊥) → j ≤ℤ i
      by_order i j h = by_lt_z i j (λ less. absurd (h less)) (λ le. le)
