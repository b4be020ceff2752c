-- Among a sound table and the tables inside it each number from its own on is that of exactly one.
use Rattle.std.proofs.Common.{◌≡◌, ◌∙◌, ℕ, zero, suc, ◌+◌, ◌<◌, ◌≤◌, List, ◌∷◌, ◌⊎◌, inl, inr, length, get_or, take, refl, sym}
use Rattle.std.proofs.Common.{ap, subst, arith, length-take}
use Rattle.std.specs.List.{Contains, flat_map, range_with_len}
use Rattle.std.proofs.lemmas.Bool.{cases_eq, cases_lt}
use Rattle.std.proofs.lemmas.List.{get_or_default, get_or-take}
use Rattle.std.proofs.lemmas.List.Elements.{All-from_recursion, All-contains}
use Rattle.std.proofs.lemmas.List.Sorted.{sum_by-IsPermutation}
use Rattle.std.proofs.lemmas.List.Sums.{sum_by-cons, sum_by_more_le, get_or-le-sum_by}
use Rattle.tl_base.proofs.Members.{Contains-first, Contains-later, Contains-cases, Contains-flat_map, flat_map-Contains}
use Rattle.tl_table.specs.declared.cell.Table.{Table, out-Table}
use Rattle.tl_table.specs.Tables.{IsInsideWithin, IsAmong, inner_tables}
use Rattle.tl_table.specs.Sound.{IsSoundWithin, IsSound, numbers_of_table, numbers_inside, count_inside, nested_in_table}
use Rattle.tl_table.proofs.InnerNumbers.{inner_numbers, inside_range, range_inside}
use Rattle.tl_table.proofs.NumbersOpen.{numbers_of_table-out, is_number, is_same, is_other, times}
use Rattle.tl_table.proofs.SizesOpen.{nested_in_table-out}
use Rattle.tl_table.proofs.SoundCounts.{sum_flat}
use Rattle.tl_table.proofs.SoundParts.{sound_inner}

-- ---- each number of a range once

times_below : (n a m : ℕ) → n < a → times n (range_with_len a m) ≡ 0
times_below n a zero less = refl
times_below n a (suc m) less =
    let none = is_other n a (λ same. omega (arith, less, same)) in
    omega (arith, none, sum_by-cons (is_number n) a (range_with_len (a + 1) m), times_below n (a + 1) m (omega arith))

at_most_1 : (n a : ℕ) → is_number n a ≤ 1
at_most_1 n a = elim (cases_eq a n) [
  | inl same ↦ omega (arith, is_same n a same)
  | inr other ↦ omega (arith, is_other n a other)
]

times_range : (n a m : ℕ) → times n (range_with_len a m) ≤ 1
times_range n a zero = omega arith
times_range n a (suc m) = elim (cases_eq a n) [
  | inl same ↦ omega (
    arith,
    at_most_1 n a,
    sum_by-cons (is_number n) a (range_with_len (a + 1) m),
    times_below n (a + 1) m (omega (arith, same)),
  )
  | inr other ↦ omega (
    arith,
    is_other n a other,
    sum_by-cons (is_number n) a (range_with_len (a + 1) m),
    times_range n (a + 1) m,
  )
]

-- a number that is contained stands there at least once
Contains_times : (n : ℕ) (numbers : List ℕ) → Contains numbers n → 1 ≤ times n numbers
Contains_times n numbers has =
    omega (
      arith,
      ap (is_number n) has.2,
      is_same n n refl,
      get_or-le-sum_by (is_number n) numbers has.0 n has.1,
    )

-- two of some lists that contain it hold it twice
twice : {X : Type 0} (n : ℕ) (f : X → List ℕ) (xs : List X) (i j : ℕ) (d : X) → i < j → j < length xs →
    Contains (f (get_or xs i d)) n → Contains (f (get_or xs j d)) n → 2 ≤ times n (flat_map f xs)
twice {X = X} n f xs i j d before within first second =
    let count : X → ℕ = λ x. times n (f x) in
    let long = length-take j xs in
    let below : i < length (take j xs) = omega arith in
    let early : 1 ≤ count (get_or (take j xs) i d) =
    subst (λ x. 1 ≤ count x) (sym (get_or-take j xs i d before)) (Contains_times n (f (get_or xs i d)) first) in
    omega (
      arith,
      sum_flat (is_number n) f xs,
      early,
      Contains_times n (f (get_or xs j d)) second,
      sum_by_more_le count xs j d within,
      get_or-le-sum_by count (take j xs) i d below,
    )

-- ---- the numbers of a sound table

number : Table → ℕ
number table = (out-Table table).number

inside_numbers : (depth : ℕ) (table one : Table) → IsInsideWithin depth table one →
    Contains (numbers_inside (out-Table table)) (out-Table one).number
inside_numbers zero table one inside = absurd inside
inside_numbers (suc depth) table one inside =
    subst (λ numbers. Contains numbers (out-Table one).number) (sym (inner_numbers table))
    (Contains-flat_map numbers_of_table (inner_tables (out-Table table)) inside.0 (out-Table one).number inside.1
    (by_case inside.2 (inside_numbers depth inside.0 one)))
  where
    by_case : (inside.0 ≡ one) ⊎ IsInsideWithin depth inside.0 one →
        (IsInsideWithin depth inside.0 one → Contains (numbers_inside (out-Table inside.0)) (out-Table one).number) →
        Contains (numbers_of_table inside.0) (out-Table one).number
    by_case (inl same) rest =
        subst (λ numbers. Contains numbers (out-Table one).number) (sym (numbers_of_table-out inside.0))
        (subst (λ n. Contains (n ∷ numbers_inside (out-Table inside.0)) (out-Table one).number)
        (ap (λ t. (out-Table t).number) (sym same))
        (Contains-first (out-Table one).number (numbers_inside (out-Table inside.0))))
    by_case (inr further) rest =
        subst (λ numbers. Contains numbers (out-Table one).number) (sym (numbers_of_table-out inside.0))
        (Contains-later (out-Table inside.0).number (numbers_inside (out-Table inside.0)) (out-Table one).number (rest further))

module _ (depth : ℕ) (table : Table) (sound : IsSoundWithin (suc depth) table) where
  once : (n : ℕ) → times n (flat_map numbers_of_table (inner_tables (out-Table table))) ≤ 1
  once n = omega (
    arith,
    ap (times n) (inner_numbers table),
    sum_by-IsPermutation (is_number n) (numbers_inside (out-Table table))
        (range_with_len ((out-Table table).number + 1) (count_inside (out-Table table))) sound.numbered,
    times_range n ((out-Table table).number + 1) (count_inside (out-Table table)),
  )

-- a table that is this one or inside it has a number of this one
one_numbers : (table one : Table) → IsAmong table one → Contains (numbers_of_table table) (out-Table one).number
one_numbers table one (inl same) =
    subst (λ numbers. Contains numbers (out-Table one).number) (sym (numbers_of_table-out table))
    (subst (λ n. Contains (n ∷ numbers_inside (out-Table table)) (out-Table one).number)
    (ap (λ t. (out-Table t).number) (sym same))
    (Contains-first (out-Table one).number (numbers_inside (out-Table table))))
one_numbers table one (inr inside) =
    subst (λ numbers. Contains numbers (out-Table one).number) (sym (numbers_of_table-out table))
    (Contains-later (out-Table table).number (numbers_inside (out-Table table)) (out-Table one).number
    (inside_numbers inside.0 table one inside.1))

nested_one : (depth : ℕ) (nested one : Table) → (nested ≡ one) ⊎ IsInsideWithin depth nested one → IsAmong nested one
nested_one depth nested one (inl same) = inl same
nested_one depth nested one (inr inside) = inr (depth, inside)

-- ---- exactly one

same_one : (depth : ℕ) (table one other : Table) → IsSoundWithin depth table → IsAmong table one → IsAmong table other →
    (out-Table one).number ≡ (out-Table other).number → one ≡ other
same_one zero table one other sound is are same = absurd sound
same_one (suc depth) table one other sound (inl is) (inl are) same = sym is ∙ are
same_one (suc depth) table one other sound (inl is) (inr (inside, within)) same =
    absurd (omega (
      arith,
      ap (λ t. (out-Table t).number) is,
      same,
      (inside_range depth table sound (out-Table other).number (inside_numbers inside table other within)).0,
    ))
same_one (suc depth) table one other sound (inr (inside, within)) (inl are) same =
    absurd (omega (
      arith,
      ap (λ t. (out-Table t).number) are,
      same,
      (inside_range depth table sound (out-Table one).number (inside_numbers inside table one within)).0,
    ))
same_one (suc depth) table one other sound (inr (zero, within)) (inr (deep, inside)) same = absurd within
same_one (suc depth) table one other sound (inr (suc shallow, within)) (inr (zero, inside)) same = absurd inside
same_one (suc depth) table one other sound (inr (suc shallow, within)) (inr (suc deep, inside)) same =
    at_index (cases_lt i j) (same_one depth within.0 one other)
  where
    inner : List Table
    inner = inner_tables (out-Table table)

    i : ℕ
    i = within.1.0

    j : ℕ
    j = inside.1.0

    n : ℕ
    n = (out-Table one).number

    first : IsAmong within.0 one
    first = nested_one shallow within.0 one within.2

    second : IsAmong inside.0 other
    second = nested_one deep inside.0 other inside.2

    has_one : (d : Table) → Contains (numbers_of_table (get_or inner i d)) n
    has_one d = subst (λ t. Contains (numbers_of_table t) n) (sym (get_or_default inner i d within.0 within.1.1 ∙ within.1.2))
        (one_numbers within.0 one first)

    has_other : (d : Table) → Contains (numbers_of_table (get_or inner j d)) n
    has_other d = subst (λ t. Contains (numbers_of_table t) n) (sym (get_or_default inner j d inside.0 inside.1.1 ∙ inside.1.2))
        (subst (Contains (numbers_of_table inside.0)) (sym same) (one_numbers inside.0 other second))

    Again : Type 0
    Again = IsSoundWithin depth within.0 → IsAmong within.0 one → IsAmong within.0 other →
        (out-Table one).number ≡ (out-Table other).number →
        one ≡ other

    meet : Again → i ≡ j → one ≡ other
    meet again at =
        let equal : inside.0 ≡ within.0 = sym inside.1.2 ∙ ap (λ k. get_or inner k inside.0) (sym at)
        ∙ get_or_default inner i inside.0 within.0 within.1.1 ∙ within.1.2 in
        again (All-contains (IsSoundWithin depth) inner within.0 (All-from_recursion (IsSoundWithin depth) inner sound.inner)
        within.1)
        first (subst (λ t. IsAmong t other) equal second) same

    at_index : (i < j) ⊎ (j ≤ i) → Again → one ≡ other
    at_index (inl before) again = absurd (omega (
      arith,
      once depth table sound n,
      twice n numbers_of_table inner i j within.0 before inside.1.1 (has_one within.0) (has_other within.0),
    ))
    at_index (inr after) again = elim (cases_lt j i) [
      | inl before ↦ absurd (omega (
        arith,
        once depth table sound n,
        twice n numbers_of_table inner j i within.0 before within.1.1 (has_other within.0) (has_one within.0),
      ))
      | inr last ↦ meet again (omega arith)
    ]

-- a number of the table is that of the table or of one inside
number_one : (depth : ℕ) (table : Table) → IsSoundWithin depth table → (n : ℕ) → Contains (numbers_of_table table) n →
    (one : Table) × IsAmong table one × ((out-Table one).number ≡ n)
number_one zero table sound n has = absurd sound
number_one (suc depth) table sound n has =
    by_case (Contains-cases (out-Table table).number (numbers_inside (out-Table table)) n
    (subst (λ numbers. Contains numbers n) (numbers_of_table-out table) has))
    (λ nested is numbered. number_one depth nested is n numbered)
  where
    inner : List Table
    inner = inner_tables (out-Table table)

    deeper : (nested one : Table) → Contains inner nested → IsAmong nested one → IsAmong table one
    deeper nested one among (inl same) = inr (1, (nested, among, inl same))
    deeper nested one among (inr inside) = inr (suc inside.0, (nested, among, inr inside.1))

    by_case : ((out-Table table).number ≡ n) ⊎ Contains (numbers_inside (out-Table table)) n →
        ((nested : Table) → IsSoundWithin depth nested → Contains (numbers_of_table nested) n →
        (one : Table) × IsAmong nested one × ((out-Table one).number ≡ n)) →
        (one : Table) × IsAmong table one × ((out-Table one).number ≡ n)
    by_case (inl own) again = (table, inl refl, own)
    by_case (inr later) again =
        let found = flat_map-Contains numbers_of_table inner n
        (subst (λ numbers. Contains numbers n) (inner_numbers table) later) in
        let one = again found.0
        (All-contains (IsSoundWithin depth) inner found.0 (All-from_recursion (IsSoundWithin depth) inner sound.inner) found.1)
        found.2 in
        (one.0, deeper found.0 one.0 found.1 one.1, one.2)

-- ---- for a sound table

pub one_of_number : (table one other : Table) → IsSound table → IsAmong table one → IsAmong table other →
    (out-Table one).number ≡ (out-Table other).number → one ≡ other
one_of_number table one other sound is are same = same_one sound.depth table one other sound.sound is are same

pub table_of_number : (table : Table) (n : ℕ) → IsSound table → (out-Table table).number ≤ n →
    n ≤ (out-Table table).number + nested_in_table table → (one : Table) × IsAmong table one × ((out-Table one).number ≡ n)
table_of_number table n sound from upto = by_depth sound.depth sound.sound
  where
    by_depth : (depth : ℕ) → IsSoundWithin depth table → (one : Table) × IsAmong table one × ((out-Table one).number ≡ n)
    by_depth zero is = absurd is
    by_depth (suc depth) is = number_one (suc depth) table is n
        (subst (λ numbers. Contains numbers n) (sym (numbers_of_table-out table)) (elim (cases_eq (out-Table table).number n) [
          | inl own ↦ subst (λ m. Contains (m ∷ numbers_inside (out-Table table)) n) (sym own)
              (Contains-first n (numbers_inside (out-Table table)))
          | inr other ↦ Contains-later (out-Table table).number (numbers_inside (out-Table table)) n
              (range_inside depth table is n (omega (arith, from, by_other other))
              (omega (arith, upto, nested_in_table-out table)))
        ]))
      where
        by_other : ((out-Table table).number ≡ n → ⊥) → (out-Table table).number < n
        by_other other = elim (cases_lt (out-Table table).number n)
            [ inl less ↦ less | inr more ↦ absurd (other (omega (arith, from))) ]

-- the numbers are within those of the table
pub number_within : (table one : Table) → IsSound table → IsAmong table one →
    ((out-Table table).number ≤ (out-Table one).number) × ((out-Table one).number ≤
    (out-Table table).number + nested_in_table table)
number_within table one sound (inl same) =
    let number = ap (λ t. (out-Table t).number) same in (omega (arith, number), omega (arith, number))
number_within table one sound (inr inside) = by_depth sound.depth sound.sound
  where
    by_depth : (depth : ℕ) → IsSoundWithin depth table →
        ((out-Table table).number ≤ (out-Table one).number) ×
        ((out-Table one).number ≤ (out-Table table).number + nested_in_table table)
    by_depth zero is = absurd is
    by_depth (suc depth) is =
        let range = inside_range depth table is (out-Table one).number (inside_numbers inside.0 table one inside.1) in
        (omega (arith, range.0), omega (arith, range.1, nested_in_table-out table))

-- a table inside has a greater number
pub inside_greater : (table one : Table) (deep : ℕ) → IsSound table → IsInsideWithin deep table one →
    (out-Table table).number < (out-Table one).number
inside_greater table one deep sound inside = by_depth sound.depth sound.sound
  where
    by_depth : (depth : ℕ) → IsSoundWithin depth table → (out-Table table).number < (out-Table one).number
    by_depth zero is = absurd is
    by_depth (suc depth) is = (inside_range depth table is (out-Table one).number (inside_numbers deep table one inside)).0

-- a table among those of a sound one is sound
sound_inside : (depth : ℕ) (holder one : Table) → IsSound holder → IsInsideWithin depth holder one → IsSound one
sound_inside zero holder one is within = absurd within
sound_inside (suc depth) holder one is within =
    further (All-contains IsSound (inner_tables (out-Table holder)) within.0
    (All-from_recursion IsSound (inner_tables (out-Table holder))
    (sound_inner holder is)) within.1)
    within.2 (sound_inside depth within.0 one)
  where
    further : IsSound within.0 → (within.0 ≡ one) ⊎ IsInsideWithin depth within.0 one →
        (IsSound within.0 → IsInsideWithin depth within.0 one → IsSound one) → IsSound one
    further nested (inl same) again = subst IsSound same nested
    further nested (inr deeper) again = again nested deeper

pub sound_among : (table one : Table) → IsSound table → IsAmong table one → IsSound one
sound_among table one sound (inl same) = subst IsSound same sound
sound_among table one sound (inr inside) = sound_inside inside.0 table one sound inside.1
