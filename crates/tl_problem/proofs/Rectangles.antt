-- Rectangles on a grid that share no slot: their areas together are at most the area of the grid. A slot is as wide as
-- the places of its column's two sides are apart, and as high as those of its row's.
use Rattle.std.proofs.Common.{◌≡◌, ℕ, ◌+◌, ◌-◌, ◌*◌, ◌<◌, ◌≤◌, zero, suc, List, [], ◌∷◌, ◌⊎◌, inl}
use Rattle.std.proofs.Common.{inr, refl, ap, ◌∙◌, arith}
use Rattle.std.specs.List.{All, AllPairs, sum_by}
use Rattle.std.proofs.lemmas.Bool.{cases_lt}
use Rattle.std.proofs.lemmas.Bool.Decides.{nat_tests}
use Rattle.std.proofs.lemmas.List.Sums.{sum_by-cons}
use Rattle.tl_problem.specs.Shares.{inside}
use Rattle.tl_base.proofs.Members.{AllPairs-head, AllPairs-tail}

-- ---- sums

pub sum_by-same : {X : Type 0} (f g : X → ℕ) (xs : List X) → ((x : X) → f x ≡ g x) → sum_by f xs ≡ sum_by g xs
sum_by-same f g [] same = refl
sum_by-same f g (x ∷ xs) same = omega (arith, sum_by-cons f x xs, sum_by-cons g x xs, same x, sum_by-same f g xs same)

-- the sum of products with a term that is itself a sum, of which a part has a factor of its own
sum_by-split : {X : Type 0} (v a i : X → ℕ) (d : ℕ) (xs : List X) →
    sum_by (λ x. v x * (a x + i x * d)) xs ≡ sum_by (λ x. v x * a x) xs + sum_by (λ x. v x * i x) xs * d
sum_by-split v a i d [] = omega arith
sum_by-split v a i d (x ∷ xs) =
    let whole = sum_by-cons (λ x. v x * (a x + i x * d)) x xs in
    let first = sum_by-cons (λ x. v x * a x) x xs in
    let second = sum_by-cons (λ x. v x * i x) x xs in
    let rest = sum_by-split v a i d xs in
    let scaled = ap (λ n. n * d) second in
    let head = split_one (v x) (a x) (i x) d in
    let spread = add_times (v x * i x) (sum_by (λ x. v x * i x) xs) d in
    omega (arith, whole, first, rest, scaled, head, spread) where
      split_one : (v a i d : ℕ) → v * (a + i * d) ≡ v * a + v * i * d
      split_one v a i d = grind arith

      add_times : (a b d : ℕ) → (a + b) * d ≡ a * d + b * d
      add_times a b d = grind arith

-- ---- intervals of places

pub inside-yes : (from past n : ℕ) → from ≤ n → n < past → inside from past n ≡ 1
inside-yes from past n after before = grind (arith, nat_tests)

pub inside-early : (from past n : ℕ) → n < from → inside from past n ≡ 0
inside-early from past n early = grind (arith, nat_tests)

pub inside-late : (from past n : ℕ) → past ≤ n → inside from past n ≡ 0
inside-late from past n late = grind (arith, nat_tests)

module _ (at : ℕ → ℕ) (rising : (n : ℕ) → at n ≤ at (n + 1)) where
  -- how much of the interval lies before place `n`
  pub amount : ℕ → ℕ → ℕ → ℕ
  amount from past zero = 0
  amount from past (suc n) = amount from past n + inside from past n * (at (n + 1) - at n)

  early : (from past n : ℕ) → n ≤ from → amount from past n ≡ 0
  unfolding amount
  early from past zero before = refl
  early from past (suc n) before =
      let rest = early from past n (omega arith) in
      let none = ap (λ i. i * (at (n + 1) - at n)) (inside-early from past n (omega arith)) in
      omega (arith, rest, none)

  middle : (from past n : ℕ) → from ≤ n → n ≤ past → amount from past n + at from ≡ at n
  unfolding amount
  middle from past zero after before = let here : from ≡ 0 = omega arith in rw here (omega arith)
  middle from past (suc n) after before =
      elim (cases_lt n from) [
        | inl less ↦ let here : from ≡ suc n = omega arith in omega (arith, early from past (suc n) (omega arith), ap at here)
        | inr more ↦
            let rest = middle from past n more (omega arith) in
            let one = ap (λ i. i * (at (n + 1) - at n)) (inside-yes from past n more (omega arith)) in
            let next : suc n ≡ n + 1 = omega arith in
            omega (arith, rest, one, rising n, ap at next)
      ]

  pub late : (from past n : ℕ) → from ≤ past → past ≤ n → amount from past n + at from ≡ at past
  unfolding amount
  late from past zero ordered after = middle from past 0 (omega arith) (omega arith) ∙ ap at (omega arith)
  late from past (suc n) ordered after =
      elim (cases_lt n past) [
        | inl less ↦ let here : suc n ≡ past = omega arith in middle from past (suc n) (omega arith) (omega arith) ∙ ap at here
        | inr more ↦
            let rest = late from past n ordered more in
            let none = ap (λ i. i * (at (n + 1) - at n)) (inside-late from past n more) in
            omega (arith, rest, none)
      ]

  -- of weighted intervals, no place of which bears more than `most`, the weights times the lengths are at most `most`
  -- times the length of all
  pub weighted : {X : Type 0} (from past v : X → ℕ) (most : ℕ) (xs : List X) (n : ℕ) →
      ((k : ℕ) → k < n → sum_by (λ x. v x * inside (from x) (past x) k) xs ≤ most) →
      sum_by (λ x. v x * amount (from x) (past x) n) xs + most * at 0 ≤ most * at n
  unfolding amount
  weighted {X = X} from past v most xs zero bear = let none = zeros xs in omega (arith, none) where
    zeros : (ys : List X) → sum_by (λ x. v x * 0) ys ≡ 0
    zeros [] = refl
    zeros (y ∷ ys) = omega (arith, sum_by-cons (λ x. v x * 0) y ys, zeros ys)
  weighted from past v most xs (suc n) bear =
      let split = sum_by-split v (λ x. amount (from x) (past x) n) (λ x. inside (from x) (past x) n) (at (n + 1) - at n) xs in
      let rest = weighted from past v most xs n (λ k before. bear k (omega arith)) in
      let load = times_le (sum_by (λ x. v x * inside (from x) (past x) n) xs) most (at (n + 1) - at n) (bear n (omega arith)) in
      let whole = difference most (at n) (at (n + 1)) (rising n) in
      let next : suc n ≡ n + 1 = omega arith in
      omega (arith, split, rest, load, whole, ap (λ k. most * at k) next) where
        times_le : (a b d : ℕ) → a ≤ b → a * d ≤ b * d
        times_le a b d le = grind arith

        difference : (m a b : ℕ) → a ≤ b → m * a + m * (b - a) ≡ m * b
        difference m a b le = grind arith

-- ---- rectangles

-- rectangles by the places of their sides
module _ {X : Type 0} (left right top bottom : X → ℕ) where
  -- both rectangles cover some slot
  abbrev Share : X → X → Type 0
  Share a b = ((left a < right b) × (left b < right a)) × ((top a < bottom b) × (top b < bottom a))

  -- 1 where the rectangle covers the slot, else 0
  abbrev covers : ℕ → ℕ → X → ℕ
  covers row column x = inside (top x) (bottom x) row * inside (left x) (right x) column

  covers-cases : (row column : ℕ) (x : X) →
      (covers row column x ≡ 0) ⊎ ((covers row column x ≡ 1) ×
      (((left x ≤ column) × (column < right x)) × ((top x ≤ row) × (row < bottom x))))
  covers-cases row column x =
      elim (inside-cases (top x) (bottom x) row) [
        | inl none ↦ inl (ap (λ i. i * inside (left x) (right x) column) none ∙ omega arith)
        | inr (one, rows) ↦ elim (inside-cases (left x) (right x) column) [
          | inl none ↦ inl (ap (λ i. inside (top x) (bottom x) row * i) none ∙ omega arith)
          | inr (other, columns) ↦ inr (
            ap (λ i. i * inside (left x) (right x) column) one ∙ omega (arith, other),
            (columns, rows),
          )
        ]
      ] where
        inside-cases : (from past n : ℕ) → (inside from past n ≡ 0) ⊎ ((inside from past n ≡ 1) × ((from ≤ n) × (n < past)))
        inside-cases from past n =
            elim (cases_lt n from) [
              | inl before ↦ inl (inside-early from past n before)
              | inr after ↦ elim (cases_lt n past) [
                | inl within ↦ inr (inside-yes from past n after within, (after, within))
                | inr past_it ↦ inl (inside-late from past n past_it)
              ]
            ]

  -- no rectangle that shares no slot with one that covers the slot covers it
  others-none : (row column : ℕ) (x : X) (xs : List X) → ((left x ≤ column) × (column < right x)) ×
      ((top x ≤ row) × (row < bottom x)) →
      All (λ y. Share x y → ⊥) xs → sum_by (covers row column) xs ≡ 0
  others-none row column x [] here apart = refl
  others-none row column x (y ∷ ys) here apart =
      let rest = others-none row column x ys here (λ k d within. apart (suc k) d (omega arith)) in
      elim (covers-cases row column y) [
        | inl none ↦ omega (arith, sum_by-cons (covers row column) y ys, rest, none)
        | inr (one, also) ↦ absurd (apart 0 y (omega arith) (omega arith))
      ]

  one_covers : (row column : ℕ) (xs : List X) → AllPairs (λ a b. Share a b → ⊥) xs → sum_by (covers row column) xs ≤ 1
  one_covers row column [] apart = omega arith
  one_covers row column (x ∷ xs) apart =
      elim (covers-cases row column x) [
        | inl none ↦ omega (
          arith,
          sum_by-cons (covers row column) x xs,
          none,
          one_covers row column xs (AllPairs-tail (λ a b. Share a b → ⊥) x xs apart),
        )
        | inr (one, here) ↦ omega (
          arith,
          sum_by-cons (covers row column) x xs,
          one,
          others-none row column x xs here (AllPairs-head (λ a b. Share a b → ⊥) x xs apart),
        )
      ]

  -- the areas of rectangles that share no slot are together at most the area of the grid
  module _ (x_at y_at : ℕ → ℕ) (x_rising : (n : ℕ) → x_at n ≤ x_at (n + 1)) (y_rising : (n : ℕ) →
      y_at n ≤ y_at (n + 1)) (x_starts : x_at 0 ≡ 0) (y_starts : y_at 0 ≡ 0) where
    pub areas-within : (xs : List X) (columns rows : ℕ) → AllPairs (λ a b. Share a b → ⊥) xs →
        sum_by (λ x. amount x_at x_rising (left x) (right x) columns * amount y_at y_rising (top x) (bottom x) rows)
        xs ≤ x_at columns * y_at rows
    areas-within xs columns rows apart =
        let each = weighted y_at y_rising top bottom (λ x. amount x_at x_rising (left x) (right x) columns) (x_at columns)
        xs rows row_load in
        omega (arith, each) where
          row_load : (row : ℕ) → row < rows →
              sum_by (λ x. amount x_at x_rising (left x) (right x) columns * inside (top x) (bottom x) row) xs ≤ x_at columns
          row_load row before =
              let one = weighted x_at x_rising left right (λ x. inside (top x) (bottom x) row) 1 xs columns
              (λ column within. one_covers row column xs apart) in
              let turned = sum_by-same (λ x. amount x_at x_rising (left x) (right x) columns * inside (top x) (bottom x) row)
              (λ x. inside (top x) (bottom x) row * amount x_at x_rising (left x) (right x) columns) xs
              (λ x. turn (amount x_at x_rising (left x) (right x) columns) (inside (top x) (bottom x) row)) in
              omega (arith, one, turned) where
                turn : (a b : ℕ) → a * b ≡ b * a
                turn a b = grind arith
