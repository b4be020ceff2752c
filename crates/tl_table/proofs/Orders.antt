-- Cells in another order: what is so of each two of them stays so, and cells that share no slot stand by top, then left
-- where the numbers of their first slots do not fall.
use Rattle.std.proofs.Common.{◌≡◌, ◌∙◌, ℕ, suc, ◌+◌, ◌*◌, ◌<◌, ◌≤◌, Bool, true, false, ◌&&◌, cond, List, [], ◌∷◌, inl, inr}
use Rattle.std.proofs.Common.{length, map, get_or}
use Rattle.std.proofs.Common.{take, sum_by, leb, ltb, refl, ap, arith}
use Rattle.std.specs.List.{All, AllPairs}
use Rattle.std.specs.List.Sorted.{IsPermutation, IsNonDecreasingBy}
use Rattle.std.proofs.lemmas.Bool.{cases_lt, lt-ltb, le-leb, and_from, ltb-true, leb-true, and_parts}
use Rattle.std.proofs.lemmas.List.{get_or-take, length-map, length-take, get_or-map}
use Rattle.std.proofs.lemmas.List.Sorted.{sum_by-IsPermutation}
use Rattle.std.proofs.lemmas.List.Sums.{sum_by-cons, sum_by_more_le, get_or-le-sum_by}
use Rattle.tl_base.specs.declared.limits.TheConstants.{MAX_COLUMNS}
use Rattle.tl_grid.specs.declared.shape.Place.{Place}
use Rattle.tl_grid.specs.Dropping.{IsPlaced}
use Rattle.tl_grid.specs.Slots.{AreApart, HasSlot}
use Rattle.tl_table.specs.declared.cell.TableCell.{TableCell}
use Rattle.tl_table.specs.Sound.{ComesBefore, place_of}
use Rattle.tl_table.specs.Formed.{slot_number}

-- ---- at most one of many

module _ {X : Type 0} (test : X → Bool) where
  abbrev once : X → ℕ
  once x = cond (test x) 1 0

  counted : (x : X) → test x ≡ true → once x ≡ 1
  counted x passes = ap (λ b. cond b 1 0) passes

  none_after : (xs : List X) → All (λ y. test y ≡ true → ⊥) xs → sum_by once xs ≡ 0
  none_after [] all = refl
  none_after (x ∷ xs) all =
      let rest = none_after xs (λ k d within. all (suc k) d (omega arith)) in
      by_test (test x) refl rest
    where
      by_test : (b : Bool) → test x ≡ b → sum_by once xs ≡ 0 → sum_by once (x ∷ xs) ≡ 0
      by_test true is rest = absurd (all 0 x (omega arith) is)
      by_test false is rest = let zero_here : once x ≡ 0 = ap (λ b. cond b 1 0) is in omega (arith, sum_by-cons once x xs)

  at_most_one : (xs : List X) → AllPairs (λ x y. test x ≡ true → test y ≡ true → ⊥) xs → sum_by once xs ≤ 1
  at_most_one [] all = omega arith
  at_most_one (x ∷ xs) all =
      by_test (test x) refl (at_most_one xs (λ i j d before within. all (suc i) (suc j) d (omega arith) (omega arith)))
    where
      by_test : (b : Bool) → test x ≡ b → sum_by once xs ≤ 1 → sum_by once (x ∷ xs) ≤ 1
      by_test true is rest =
          let one : once x ≡ 1 = counted x is in
          omega (arith, sum_by-cons once x xs, none_after xs (λ k d within. all 0 (suc k) d (omega arith) (omega arith) is))
      by_test false is rest = let zero_here : once x ≡ 0 = ap (λ b. cond b 1 0) is in omega (arith, sum_by-cons once x xs)

  two : (xs : List X) (i j : ℕ) (d : X) → i < j → j < length xs → test (get_or xs i d) ≡ true → test (get_or xs j d) ≡ true →
      2 ≤ sum_by once xs
  two xs i j d before within first second =
      let long = length-take j xs in
      let below : i < length (take j xs) = omega arith in
      let early : once (get_or (take j xs) i d) ≡ 1 = ap once (get_or-take j xs i d before) ∙ counted (get_or xs i d) first in
      let late : once (get_or xs j d) ≡ 1 = counted (get_or xs j d) second in
      omega (arith, sum_by_more_le once xs j d within, get_or-le-sum_by once (take j xs) i d below)

  never_two : (xs ys : List X) → IsPermutation xs ys → AllPairs (λ x y. test x ≡ true → test y ≡ true → ⊥) xs →
      AllPairs (λ x y. test x ≡ true → test y ≡ true → ⊥) ys
  never_two xs ys moved all i j d before within first second =
      omega (arith, at_most_one xs all, sum_by-IsPermutation once xs ys moved, two ys i j d before within first second)

-- ---- places

abbrev has_slot : ℕ → ℕ → Place → Bool
has_slot x y place = (leb place.left x && ltb x place.right) && (leb place.top y && ltb y place.bottom)

slot_of : (x y : ℕ) (place : Place) → has_slot x y place ≡ true → HasSlot x y place
slot_of x y place passes =
    let both = and_parts (leb place.left x && ltb x place.right) (leb place.top y && ltb y place.bottom) passes in
    let across = and_parts (leb place.left x) (ltb x place.right) both.0 in
    let down = and_parts (leb place.top y) (ltb y place.bottom) both.1 in
    (leb-true place.left x across.0, ltb-true x place.right across.1, leb-true place.top y down.0, ltb-true y place.bottom down.1)

slot_test : (x y : ℕ) (place : Place) → HasSlot x y place → has_slot x y place ≡ true
slot_test x y place has =
    and_from (leb place.left x && ltb x place.right) (leb place.top y && ltb y place.bottom)
    (and_from (leb place.left x) (ltb x place.right) (le-leb place.left x has.0) (lt-ltb x place.right has.1))
    (and_from (leb place.top y) (ltb y place.bottom) (le-leb place.top y has.2) (lt-ltb y place.bottom has.3))

-- places that share no slot share none in another order
pub apart_moved : (xs ys : List Place) → IsPermutation xs ys → AllPairs AreApart xs → AllPairs AreApart ys
apart_moved xs ys moved apart i j d before within x y first second =
    never_two (has_slot x y) xs ys moved
    (λ a b e under inside one other. apart a b e under inside x y (slot_of x y (get_or xs a e) one)
    (slot_of x y (get_or xs b e) other))
    i j d before within (slot_test x y (get_or ys i d) first) (slot_test x y (get_or ys j d) second)

-- of two cells that share no slot, that of the lesser slot number comes before the other
before_by_slots : (cols rows : ℕ) (p q : Place) → cols ≤ MAX_COLUMNS → IsPlaced cols rows p → IsPlaced cols rows q →
    AreApart p q →
    p.top * MAX_COLUMNS + p.left ≤ q.top * MAX_COLUMNS + q.left → ComesBefore p q
before_by_slots cols rows p q few is are apart le =
    elim (cases_lt p.top q.top) [
      | inl above ↦ inl above
      | inr below ↦
          let same : p.top ≡ q.top = omega (arith, is.0, is.1, are.0, are.1) in
          elim (cases_lt p.left q.left) [
            | inl left ↦ inr (same, left)
            | inr right ↦
                let one : p.left ≡ q.left = omega (arith, is.0, is.1, are.0, are.1) in
                absurd (apart p.left p.top (omega arith, is.0, omega arith, is.2)
                (omega arith, omega (arith, are.0), omega arith, omega (arith, are.2)))
          ]
    ]

-- the number of a place's first slot
abbrev place_number : Place → ℕ
place_number place = place.top * MAX_COLUMNS + place.left

numbers_rise : (cells : List TableCell) → IsNonDecreasingBy slot_number cells →
    IsNonDecreasingBy place_number (map place_of cells)
numbers_rise [] rises i j d before within = absurd (omega arith)
numbers_rise (cell ∷ cells) rises i j d before within =
    let long : length (map place_of (cell ∷ cells)) ≡ length (cell ∷ cells) = length-map (cell ∷ cells) place_of in
    let one = ap place_number (get_or-map place_of (cell ∷ cells) i cell d (omega arith)) in
    let other = ap place_number (get_or-map place_of (cell ∷ cells) j cell d (omega arith)) in
    let rise : slot_number (get_or (cell ∷ cells) i cell) ≤ slot_number (get_or (cell ∷ cells) j cell) =
    rises i j cell before (omega arith) in
    omega arith

-- cells that share no slot, and whose slot numbers do not fall, stand by top, then left
pub in_order_by_slots : (cols rows : ℕ) (cells : List TableCell) → cols ≤ MAX_COLUMNS →
    All (IsPlaced cols rows) (map place_of cells) →
    AllPairs AreApart (map place_of cells) → IsNonDecreasingBy slot_number cells → AllPairs ComesBefore (map place_of cells)
in_order_by_slots cols rows cells few placed apart rises i j d before within =
    before_by_slots cols rows (get_or (map place_of cells) i d) (get_or (map place_of cells) j d) few (placed i d (omega arith))
    (placed j d within)
    (apart i j d before within) (numbers_rise cells rises i j d (omega arith) within)
