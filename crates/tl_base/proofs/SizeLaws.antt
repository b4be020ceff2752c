-- Columns and rows: where they end, what all take together, and that their places tell their sizes.
use Rattle.std.proofs.Common.{◌≡◌, ℕ, ◌+◌, ◌-◌, ◌*◌, ◌^◌, ◌<◌, ◌≤◌, zero, suc, List, [], ◌∷◌, length, get_or, take, drop, sum}
use Rattle.std.proofs.Common.{refl, ap, arith}
use Rattle.std.specs.List.{AllByRecursion, slice_range}
use Rattle.std.proofs.Math.Nat.{mul-le-mul}
use Rattle.std.proofs.lemmas.List.{take_all, get_or_default}
use Rattle.std.proofs.lemmas.List.Sums.{sum_by-cons, sum_by-take-le, sum_by-take-drop, sum_by-le}
use Rattle.tl_base.specs.declared.limits.TheConstants.{MAX_ROWS}
use Rattle.tl_base.specs.declared.style.Style.{Style}
use Rattle.tl_base.specs.declared.style.Style.TheVariants.{Plain, Compact, Frame, Grid, Box, Rule, Apart}
use Rattle.tl_base.specs.Style.{spacing_of, IsSpacing}
use Rattle.tl_base.proofs.Sums.{sum-cons, sum-within}
use Rattle.tl_base.specs.Sizes.{position, room, total}

-- ---- the total, by the place where the last one ends

pub total-position : (gap edges : ℕ) (sizes : List ℕ) → 0 < length sizes →
    total gap edges sizes + gap ≡ position gap sizes (length sizes) + edges
total-position gap edges [] some = absurd (omega arith)
total-position gap edges (size ∷ sizes) some =
    let all = ap sum (take_all (length (size ∷ sizes)) (size ∷ sizes) (omega arith)) in
    let head = sum_by-cons (λ x. x) size sizes in
    let product : gap * length (size ∷ sizes) ≡ gap * length sizes + gap = grind arith in
    omega (arith, all, head, product)

-- sizes that end no later take no more in all
pub total-le : (gap edges : ℕ) (xs ys : List ℕ) → length xs ≡ length ys →
    position gap xs (length xs) ≤ position gap ys (length xs) →
    total gap edges xs ≤ total gap edges ys
total-le gap edges [] ys same ends = omega arith
total-le gap edges (x ∷ xs) ys same ends =
    let first = total-position gap edges (x ∷ xs) (omega arith) in
    let second = total-position gap edges ys (omega arith) in
    let at = ap (position gap ys) same in
    omega (arith, first, second, at, ends)

-- ---- a room, by the places where its span begins and ends

-- the sizes before a place are those before an earlier one and those between
pub take-between : (sizes : List ℕ) (from more : ℕ) → sum (take (from + more) sizes) ≡ sum (take from sizes) + sum
    (take more (drop from sizes))
take-between sizes zero more = let all : 0 + more ≡ more = omega arith in rw all (omega arith)
take-between [] (suc from) more = let next : suc from + more ≡ suc (from + more) = omega arith in
    rw next (omega (arith, no_sum more)) where
      no_sum : (more : ℕ) → sum (take more []) ≡ 0
      no_sum zero = refl
      no_sum (suc more) = refl
take-between (size ∷ sizes) (suc from) more =
    let before = sum_by-cons (λ x. x) size (take (from + more) sizes) in
    let after = sum_by-cons (λ x. x) size (take from sizes) in
    let rest = take-between sizes from more in
    let next : suc from + more ≡ suc (from + more) = omega arith in
    rw next (omega (arith, before, after, rest))

pub room-position : (gap : ℕ) (sizes : List ℕ) (from past : ℕ) → from < past →
    room gap sizes from past + gap + position gap sizes from ≡ position gap sizes past
room-position gap sizes from past ahead =
    let between = take-between sizes from (past - from) in
    let whole : from + (past - from) ≡ past = omega arith in
    let sums = rw whole at between in
    let gaps = gaps_between gap from (past - from - 1) in
    let count : from + (past - from - 1) + 1 ≡ past = omega arith in
    let counted = rw count at gaps in
    omega (arith, sums, counted) where
      gaps_between : (gap from inner : ℕ) → gap * inner + gap + gap * from ≡ gap * (from + inner + 1)
      gaps_between gap from inner = grind arith

-- a later place is no nearer
pub position-mono : (gap : ℕ) (sizes : List ℕ) (from past : ℕ) → from ≤ past → position gap sizes from ≤ position gap sizes past
position-mono gap sizes from past more =
    let whole : from + (past - from) ≡ past = omega arith in
    let sums = rw whole at (take-between sizes from (past - from)) in
    let gaps = rw whole at (gaps_split gap from (past - from)) in
    omega (arith, sums, gaps) where
      gaps_split : (gap from more : ℕ) → gap * (from + more) ≡ gap * from + gap * more
      gaps_split gap from more = grind arith

-- ---- sizes are known by their places

-- of lists as long as each other that end each place alike, each size is the same
pub same-positions : (gap : ℕ) (xs ys : List ℕ) → length xs ≡ length ys →
    ((place : ℕ) → place ≤ length xs → position gap xs place ≡ position gap ys place) → xs ≡ ys
same-positions gap [] [] same at = refl
same-positions gap [] (y ∷ ys) same at = absurd (omega arith)
same-positions gap (x ∷ xs) [] same at = absurd (omega arith)
same-positions gap (x ∷ xs) (y ∷ ys) same at =
    let first : x ≡ y = omega (arith, at 1 (omega arith)) in
    let tails : xs ≡ ys = same-positions gap xs ys (omega arith) (λ place within.
    let here = at (suc place) (omega arith) in
    let left = sum_by-cons (λ n. n) x (take place xs) in
    let right = sum_by-cons (λ n. n) y (take place ys) in
    omega (arith, here, left, right, first)) in
    cc

-- ---- sizes within the whole

-- a room takes no more than the whole
pub room-total : (gap edges : ℕ) (sizes : List ℕ) (left right : ℕ) → left < right → right ≤ length sizes →
    room gap sizes left right ≤ total gap edges sizes
room-total gap edges sizes left right ahead within =
    let whole = total-position gap edges sizes (omega (arith, ahead, within)) in
    let span = room-position gap sizes left right ahead in
    let before = position-mono gap sizes right (length sizes) within in
    omega (arith, whole, span, before)

-- the sizes alone take no more than the whole
pub sum-total : (gap edges : ℕ) (sizes : List ℕ) → sum sizes ≤ total gap edges sizes
sum-total gap edges [] = omega arith
sum-total gap edges (size ∷ sizes) = omega (arith, sum-cons size sizes)

-- and none of them takes more than the whole may
pub total-within : (gap edges most : ℕ) (sizes : List ℕ) → total gap edges sizes ≤ most → AllByRecursion (λ size. size ≤ most) sizes
total-within gap edges most sizes within = sum-within most sizes (omega (arith, sum-total gap edges sizes, within))

-- the next place is a size and a gap further
pub position-next : (gap : ℕ) (sizes : List ℕ) (k : ℕ) → k < length sizes →
    position gap sizes (k + 1) ≡ position gap sizes k + get_or sizes k 0 + gap
position-next gap sizes k within = let product : gap * (k + 1) ≡ gap * k + gap = grind arith in
    omega (arith, take-next sizes k within, product)
  where
    take-next : (sizes : List ℕ) (k : ℕ) → k < length sizes → sum (take (k + 1) sizes) ≡ sum (take k sizes) + get_or sizes k 0
    take-next [] k within = absurd (omega (arith, within))
    take-next (size ∷ sizes) zero within = omega (arith, sum_by-cons (λ (x : ℕ). x) size [])
    take-next (size ∷ sizes) (suc k) within =
        let next : suc k + 1 ≡ suc (k + 1) = omega arith in
        rw next (omega (
          arith,
          sum_by-cons (λ (x : ℕ). x) size (take (k + 1) sizes),
          sum_by-cons (λ (x : ℕ). x) size (take k sizes),
          take-next sizes k (omega arith),
        ))

-- a place after a size is at least a gap further
pub position-gap : (gap : ℕ) (sizes : List ℕ) (k : ℕ) → position gap sizes k + gap ≤ position gap sizes (k + 1)
position-gap gap sizes k =
    let more = position-mono 0 sizes k (k + 1) (omega arith) in
    let product : gap * (k + 1) ≡ gap * k + gap = grind arith in
    omega (arith, more, product)

-- ---- sums

-- the total of some sizes, by their sum
pub total-sum : (gap edges : ℕ) (sizes : List ℕ) → 0 < length sizes →
    total gap edges sizes ≡ sum sizes + gap * (length sizes - 1) + edges
total-sum gap edges [] some = absurd (omega arith)
total-sum gap edges (size ∷ sizes) some = let rest : length (size ∷ sizes) - 1 ≡ length sizes = omega arith in rw rest
    (omega (arith, sum_by-cons (λ x. x) size sizes))

-- the sum of a span of sizes is at most that of all
pub sum-range : (sizes : List ℕ) (from past : ℕ) → sum (slice_range sizes from past) ≤ sum sizes
sum-range sizes from past =
    let inner = sum_by-take-le (λ x. x) (drop from sizes) (past - from) in
    let whole = sum_by-take-drop (λ x. x) sizes from in
    omega (arith, inner, whole)

-- sizes of 32 bits do not sum to much
pub sum-bound : (sizes : List ℕ) → ((k : ℕ) → get_or sizes k 0 < 2 ^ 32) → sum sizes ≤ length sizes * (2 ^ 32 - 1)
sum-bound sizes fit =
    sum_by-le (λ x. x) (2 ^ 32 - 1) sizes (λ k d within. omega (arith, get_or_default sizes k d 0 within, fit k))

-- the total height of few rows is little more than the sum
pub total-few : (gap edges : ℕ) (sizes : List ℕ) → gap ≤ 1 → edges ≤ MAX_ROWS + 2 → length sizes ≤ MAX_ROWS + 1 →
    total gap edges sizes ≤ sum sizes + (2 * MAX_ROWS + 2)
total-few gap edges [] close beside few = omega arith
total-few gap edges (size ∷ sizes) close beside few =
    let same : length sizes ≤ length sizes = omega arith in
    let gaps = mul-le-mul close same in
    omega (arith, sum_by-cons (λ x. x) size sizes, gaps, beside, few)

-- ---- the spacing of a style is one, with few lines beside the rows
pub spacing-sound : (style : Style) (lines : ℕ) → lines ≤ MAX_ROWS + 2 → IsSpacing (spacing_of style lines)
spacing-sound Plain lines few = record { apart = omega arith; near = omega arith; close = omega arith; narrow = omega arith; few = few }
spacing-sound Compact lines few = record { apart = omega arith; near = omega arith; close = omega arith; narrow = omega arith; few = few }
spacing-sound Frame lines few = record { apart = omega arith; near = omega arith; close = omega arith; narrow = omega arith; few = few }
spacing-sound Grid lines few = record { apart = omega arith; near = omega arith; close = omega arith; narrow = omega arith; few = few }
spacing-sound Box lines few = record { apart = omega arith; near = omega arith; close = omega arith; narrow = omega arith; few = few }
spacing-sound Rule lines few = record { apart = omega arith; near = omega arith; close = omega arith; narrow = omega arith; few = few }
spacing-sound Apart lines few = record { apart = omega arith; near = omega arith; close = omega arith; narrow = omega arith; few = few }
