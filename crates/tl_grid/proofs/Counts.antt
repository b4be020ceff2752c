-- How many kept numbers are below a number: their places in a list in strictly increasing order.
use Rattle.std.proofs.Common.{◌≡◌, ℕ, ◌+◌, ◌<◌, ◌≤◌, zero, suc, Bool, true, false, ◌||◌, cond, ltb, eqb, List, [], ◌∷◌, length}
use Rattle.std.proofs.Common.{get_or, refl, sym, ap}
use Rattle.std.proofs.Common.{◌∙◌, inl, inr, arith, add-one}
use Rattle.std.specs.List.{filter, dedup, dedup_from}
use Rattle.std.specs.List.Sorted.{IsStrictlyIncreasing, IsNonDecreasingBy}
use Rattle.std.proofs.lemmas.Bool.{lt-ltb, le-ltb, eq-eqb, ne_eqb, eqb-true, cases_Bool, cases_lt, cases_eq, cases_order}
use Rattle.std.proofs.lemmas.Bool.{both_ways, cond-true}
use Rattle.std.proofs.lemmas.Bool.{cond-false, or_parts}
use Rattle.std.proofs.lemmas.List.Kept.{AllPairs-from_increasing}
use Rattle.tl_grid.specs.Dropping.{count_below}
use Rattle.tl_base.specs.Lists.{is_among}
use Rattle.tl_base.proofs.Members.{is_among-cons}
use Rattle.tl_grid.proofs.Chains.{filter_yes, filter_no}

-- 1 if the test passes
abbrev pub one_if : Bool → ℕ
one_if b = cond b 1 0

-- tests that agree count alike
pub count_same : (p q : ℕ → Bool) → ((x : ℕ) → p x ≡ q x) → (n : ℕ) → count_below p n ≡ count_below q n
count_same p q same zero = refl
count_same p q same (suc n) = ap (λ t. count_below p n + one_if t) (same n) ∙ ap (λ c. c + one_if (q n)) (count_same p q same n)

-- where none passes none is counted
count_none : (n : ℕ) → count_below (λ x. false) n ≡ 0
count_none zero = refl
count_none (suc n) = (let rest : count_below (λ x. false) n ≡ 0 = count_none n in omega arith)

-- of two tests that never both pass, one at most counts
one_of : (s t : Bool) → (s ≡ true → t ≡ false) → one_if (s || t) ≡ one_if s + one_if t
one_of true t apart = (let none : one_if t ≡ 0 = ap one_if (apart refl) in omega arith)
one_of false t apart = omega arith

-- what passes one of two tests that never both pass
count_or : (p q : ℕ → Bool) → ((x : ℕ) → p x ≡ true → q x ≡ false) → (n : ℕ) →
    count_below (λ x. p x || q x) n ≡ count_below p n + count_below q n
count_or p q apart zero = refl
count_or p q apart (suc n) =
    let rest : count_below (λ x. p x || q x) n ≡ count_below p n + count_below q n = count_or p q apart n in
    let here : one_if (p n || q n) ≡ one_if (p n) + one_if (q n) = one_of (p n) (q n) (apart n) in
    omega arith

-- one number is below n, or is not
count_one : (k n : ℕ) → count_below (λ x. eqb k x) n ≡ one_if (ltb k n)
count_one k zero = sym (ap one_if (le-ltb k 0 (omega arith)))
count_one k (suc n) =
    let rest : count_below (λ x. eqb k x) n ≡ one_if (ltb k n) = count_one k n in
    elim (cases_order k n) [
      | inl e ↦
          let here : one_if (eqb k n) ≡ 1 = ap one_if (eq-eqb k n e) in
          let below : one_if (ltb k n) ≡ 0 = ap one_if (le-ltb k n (omega arith)) in
          let all : one_if (ltb k (suc n)) ≡ 1 = ap one_if (lt-ltb k (suc n) (omega arith)) in
          omega arith
      | inr (inl lt) ↦
          let here : one_if (eqb k n) ≡ 0 = ap one_if (ne_eqb k n (λ e. omega arith)) in
          let below : one_if (ltb k n) ≡ 1 = ap one_if (lt-ltb k n lt) in
          let all : one_if (ltb k (suc n)) ≡ 1 = ap one_if (lt-ltb k (suc n) (omega arith)) in
          omega arith
      | inr (inr gt) ↦
          let here : one_if (eqb k n) ≡ 0 = ap one_if (ne_eqb k n (λ e. omega arith)) in
          let below : one_if (ltb k n) ≡ 0 = ap one_if (le-ltb k n (omega arith)) in
          let all : one_if (ltb k (suc n)) ≡ 0 = ap one_if (le-ltb k (suc n) (omega arith)) in
          omega arith
    ]

-- the list rises, from a on
abbrev pub Rises : ℕ → List ℕ → Type 0
Rises a [] = Unit {0}
Rises a (k ∷ ks) = (a ≤ k) × Rises (k + 1) ks

-- nothing below its beginning is in it
not_among : (a x : ℕ) → x < a → (ks : List ℕ) → Rises a ks → is_among ks x ≡ false
not_among a x lt [] r = refl
not_among a x lt (k ∷ ks) r =
    is_among-cons k ks x ∙ ap (λ t. t || is_among ks x) (ne_eqb k x (λ e. let le : a ≤ k = r.0 in omega arith))
    ∙ not_among (k + 1) x (omega (arith, r.0)) ks r.1

-- how many numbers below n are in a list that rises
pub count_among : (a n : ℕ) (ks : List ℕ) → Rises a ks → count_below (is_among ks) n ≡ length (filter (λ k. ltb k n) ks)
count_among a n [] r = count_none n
count_among a n (k ∷ ks) r =
    let apart : (x : ℕ) → eqb k x ≡ true → is_among ks x ≡ false =
    λ x e. not_among (k + 1) x (let same : k ≡ x = eqb-true k x e in omega arith) ks r.1 in
    let both : count_below (is_among (k ∷ ks)) n ≡ count_below (λ x. eqb k x) n + count_below (is_among ks) n =
    count_same (is_among (k ∷ ks)) (λ x. eqb k x || is_among ks x) (λ x. is_among-cons k ks x) n ∙ count_or (λ x. eqb k x)
    (is_among ks) apart n in
    let one : count_below (λ x. eqb k x) n ≡ one_if (ltb k n) = count_one k n in
    let rest : count_below (is_among ks) n ≡ length (filter (λ j. ltb j n) ks) = count_among (k + 1) n ks r.1 in
    elim (cases_Bool (ltb k n)) [
      | inl e ↦
          let all : length (filter (λ j. ltb j n) (k ∷ ks)) ≡ suc (length (filter (λ j. ltb j n) ks)) =
          ap length (filter_yes (λ j. ltb j n) k ks e) in
          let here : one_if (ltb k n) ≡ 1 = ap one_if e in
          omega arith
      | inr e ↦
          let all : length (filter (λ j. ltb j n) (k ∷ ks)) ≡ length (filter (λ j. ltb j n) ks) =
          ap length (filter_no (λ j. ltb j n) k ks e) in
          let here : one_if (ltb k n) ≡ 0 = ap one_if e in
          omega arith
    ]

-- a place up to which all pass a test, and from which on none does
pub point_is_count : (p : ℕ → Bool) (ks : List ℕ) (i : ℕ) → i ≤ length ks →
    ((k : ℕ) → k < i → p (get_or ks k 0) ≡ true) →
    ((k : ℕ) → i ≤ k → k < length ks → p (get_or ks k 0) ≡ false) → length (filter p ks) ≡ i
point_is_count p [] i le passes fails = omega arith
point_is_count p (x ∷ xs) zero le passes fails =
    ap length (filter_no p x xs (fails 0 (omega arith) (omega arith)))
    ∙ point_is_count p xs zero (omega arith) (λ k h. absurd (omega arith)) (λ k h l. fails (suc k) (omega arith) (omega arith))
point_is_count p (x ∷ xs) (suc i) le passes fails =
    ap length (filter_yes p x xs (passes 0 (omega arith)))
    ∙ ap suc (point_is_count p xs i (omega arith) (λ k h. passes (suc k) (omega arith))
    (λ k h l. fails (suc k) (omega arith) (omega arith)))

-- the rest of a list that rises rises
rises_tail : (k : ℕ) (ks : List ℕ) → IsStrictlyIncreasing (k ∷ ks) → IsStrictlyIncreasing ks
rises_tail k ks up j lt =
    let h : get_or (k ∷ ks) (suc j) 0 < get_or (k ∷ ks) (suc j + 1) 0 = up (suc j) (omega arith) in
    let g = rw (add-one (suc j)) at h in
    rw (add-one j) g

-- and begins above the first
rises_head : (k : ℕ) (ks : List ℕ) → IsStrictlyIncreasing (k ∷ ks) → 0 < length ks → k + 1 ≤ get_or ks 0 0
rises_head k ks up has = omega (arith, up 0 (omega arith))

-- a list that rises by its neighbours
pub rises_from : (a : ℕ) (ks : List ℕ) → IsStrictlyIncreasing ks → (0 < length ks → a ≤ get_or ks 0 0) → Rises a ks
rises_from a [] up first = tt
rises_from a (k ∷ ks) up first = (
  first (omega arith),
  rises_from (k + 1) ks (rises_tail k ks up) (rises_head k ks up),
)

-- all are below the end
pub count_whole : (n : ℕ) (ks : List ℕ) → ((x : ℕ) → n ≤ x → is_among ks x ≡ false) →
    length (filter (λ k. ltb k n) ks) ≡ length ks
count_whole n [] none = refl
count_whole n (k ∷ ks) none =
    elim (cases_lt k n) [
      | inl lt ↦ ap length (filter_yes (λ j. ltb j n) k ks (lt-ltb k n lt))
          ∙ ap suc (count_whole n ks (λ x le. (or_parts (eqb k x) (is_among ks x) (sym (is_among-cons k ks x) ∙ none x le)).1))
      | inr ge ↦ absurd (both_ways true (sym (ap (λ t. t || is_among ks k) (eq-eqb k k refl)) ∙ sym
          (is_among-cons k ks k) ∙ none k ge) refl)
    ]

-- `a` again changes no "or"
or_again : (a b c : Bool) → a ≡ b → (a || c) ≡ (a || (b || c))
or_again true b c e = refl
or_again false true c e = absurd (both_ways true (sym e) refl)
or_again false false c e = refl

-- a number is among those without repeats exactly where it was among all, after a first number
among_from : (x k : ℕ) (ks : List ℕ) → is_among (dedup_from eqb k ks) x ≡ (eqb k x || is_among ks x)
among_from x k [] = is_among-cons k [] x
among_from x k (j ∷ ks) =
    elim (cases_Bool (eqb j k)) [
      | inl e ↦
          ap (λ l. is_among l x) (cond-true (eqb j k) (dedup_from eqb k ks) (k ∷ dedup_from eqb j ks) e)
          ∙ among_from x k ks
          ∙ or_again (eqb k x) (eqb j x) (is_among ks x) (ap (λ i. eqb i x) (sym (eqb-true j k e)))
          ∙ ap (λ t. eqb k x || t) (sym (is_among-cons j ks x))
      | inr e ↦
          ap (λ l. is_among l x) (cond-false (eqb j k) (dedup_from eqb k ks) (k ∷ dedup_from eqb j ks) e)
          ∙ is_among-cons k (dedup_from eqb j ks) x
          ∙ ap (λ t. eqb k x || t) (among_from x j ks ∙ sym (is_among-cons j ks x))
    ]

-- a list without repetitions has the same numbers
pub among-dedup : (x : ℕ) (ks : List ℕ) → is_among (dedup eqb ks) x ≡ is_among ks x
among-dedup x [] = refl
among-dedup x (k ∷ ks) = among_from x k ks ∙ sym (is_among-cons k ks x)

-- a list that rises does not fall
pub non_decreasing : (ks : List ℕ) → IsStrictlyIncreasing ks → IsNonDecreasingBy (λ k. k) ks
non_decreasing ks up i j d le lt =
    elim (cases_eq i j) [
      | inl e ↦ (let same : get_or ks i d ≡ get_or ks j d = ap (λ k. get_or ks k d) e in omega arith)
      | inr ne ↦ (let below : get_or ks i d < get_or ks j d = AllPairs-from_increasing ks up i j d (omega arith) lt in
          omega arith)
    ]
