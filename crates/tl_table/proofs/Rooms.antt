-- Rooms of spans by where they begin and end.
use Rattle.std.proofs.Common.{◌≡◌, ℕ, ◌+◌, ◌-◌, ◌*◌, ◌<◌, ◌≤◌, ◌∙◌, List, [], ◌∷◌, length, take, drop, sum, sum_by}
use Rattle.std.proofs.Common.{slice_range, sym, ap, arith}
use Rattle.std.proofs.lemmas.List.Folds.{drop_split}
use Rattle.std.proofs.lemmas.List.Sums.{sum-map, sum_by-append, sum_by-cons, sum_by-take-drop}
use Rattle.std.proofs.lemmas.List.{map-id}
use Rattle.tl_base.specs.Sizes.{room, total}

-- the sizes before a place
abbrev pub ahead : List ℕ → ℕ → ℕ
ahead sizes place = sum_by (λ size. size) (take place sizes)

-- a sum is one of the numbers as they are
pub sum-sum_by : (sizes : List ℕ) → sum sizes ≡ sum_by (λ size. size) sizes
sum-sum_by sizes = ap sum (sym (map-id sizes)) ∙ sum-map (λ size. size) sizes

-- what lies ahead of a place and from it on is all
ahead-rest : (sizes : List ℕ) (place : ℕ) → ahead sizes place + sum_by (λ size. size) (drop place sizes) ≡ sum_by (λ size. size)
    sizes
ahead-rest sizes place = sum_by-take-drop (λ size. size) sizes place

-- a room is what lies between its ends, and its gaps
pub room-ends : (gap : ℕ) (sizes : List ℕ) (from past : ℕ) → from ≤ past →
    room gap sizes from past + ahead sizes from ≡ ahead sizes past + gap * (past - from - 1)
room-ends gap sizes from past order =
    let whole = ahead-rest sizes from in
    let rest = ahead-rest sizes past in
    let split : sum_by (λ size. size) (drop from sizes) ≡ sum_by (λ size. size) (slice_range sizes from past) + sum_by
    (λ size. size)
    (drop past sizes)
    = ap (sum_by (λ size. size)) (drop_split sizes from past order) ∙ sum_by-append (λ size. size) (slice_range sizes from past)
    (drop past sizes) in
    omega (arith, sum-sum_by (slice_range sizes from past), whole, rest, split)

-- the total of sizes is all that lies ahead of the end, the gaps and the edges
pub total-ahead : (gap edges : ℕ) (sizes : List ℕ) → 0 < length sizes →
    total gap edges sizes ≡ sum_by (λ size. size) sizes + gap * (length sizes - 1) + edges
total-ahead gap edges [] some = absurd (omega arith)
total-ahead gap edges (size ∷ sizes) some =
    let n : length (size ∷ sizes) - 1 ≡ length sizes = omega arith in
    omega (arith, ap (λ k. gap * k) n, sum-sum_by sizes, sum_by-cons (λ (one : ℕ). one) size sizes)
