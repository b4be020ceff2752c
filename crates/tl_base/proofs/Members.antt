-- What filters, maps and joined lists contain, and lists in a strict order: two with the same elements are the same.
use Rattle.std.proofs.Common.{◌≡◌, ℕ, ◌+◌, ◌-◌, ◌<◌, ◌≤◌, zero, suc, Bool, true, false, List, [], ◌∷◌, ◌++◌, ◌⊎◌, inl, inr}
use Rattle.std.proofs.Common.{length, map, get_or}
use Rattle.std.proofs.Common.{filter, refl, sym, ap, ◌∙◌, subst, arith}
use Rattle.std.proofs.Common.{eqb, ◌||◌, length-append}
use Rattle.std.specs.List.{All, AllByRecursion, AllPairs, Contains, flat_map, list_any, range_with_len}
use Rattle.std.proofs.lemmas.Bool.{cases_Bool, cases_eq, eq-eqb, ne_eqb}
use Rattle.std.proofs.lemmas.List.{get_or_append_left, get_or-append-add}
use Rattle.std.proofs.lemmas.List.Elements.{All-filter, All-contains, Contains-get_or, Contains-append_left}
use Rattle.std.proofs.lemmas.List.Elements.{Contains-append_right, Contains-append_cases}
use Rattle.tl_base.specs.Lists.{is_among}
use Rattle.std.proofs.lemmas.List.FromFn.{length-range_with_len, get_or-range_with_len}

-- ---- the first element, and the others

pub Contains-first : {X : Type 0} (x : X) (xs : List X) → Contains (x ∷ xs) x
Contains-first x xs = (0, omega arith, refl)

pub Contains-later : {X : Type 0} (x : X) (xs : List X) (y : X) → Contains xs y → Contains (x ∷ xs) y
Contains-later x xs y has = (suc has.0, omega (arith, has.1), has.2)

pub Contains-cases : {X : Type 0} (x : X) (xs : List X) (y : X) → Contains (x ∷ xs) y → (x ≡ y) ⊎ Contains xs y
Contains-cases x xs y (zero, within, is) = inl is
Contains-cases x xs y (suc k, within, is) = inr (k, omega arith, is)

pub Contains-none : {X : Type 0} (x : X) → Contains [] x → ⊥
Contains-none x has = omega (arith, has.1)

pub Contains-one : {X : Type 0} (x y : X) → Contains (x ∷ []) y → x ≡ y
Contains-one x y (zero, within, is) = is
Contains-one x y (suc k, within, is) = absurd (omega (arith, within))

-- a list that contains nothing is empty
pub none-Contains : {X : Type 0} (xs : List X) → ((x : X) → Contains xs x → ⊥) → xs ≡ []
none-Contains [] none = refl
none-Contains (x ∷ xs) none = absurd (none x (Contains-first x xs))

-- lists that are the same begin and go on alike
pub first-same : {X : Type 0} (x y : X) (xs ys : List X) → x ∷ xs ≡ y ∷ ys → x ≡ y
first-same x y xs ys same = cc

pub rest-same : {X : Type 0} (x y : X) (xs ys : List X) → x ∷ xs ≡ y ∷ ys → xs ≡ ys
rest-same x y xs ys same = cc

-- what is so of each element that the list contains is so of all
pub All-from_Contains : {X : Type 0} (P : X → Type 0) (xs : List X) → ((x : X) → Contains xs x → P x) → All P xs
All-from_Contains P xs each = λ k d within. each (get_or xs k d) (Contains-get_or xs k d within)

-- ---- the numbers of a list

-- each of two equal numbers equals the other
eqb-sym : (m n : ℕ) → eqb m n ≡ eqb n m
eqb-sym m n = elim (cases_eq m n) [
  | inl same ↦ eq-eqb m n same ∙ sym (eq-eqb n m (sym same))
  | inr other ↦ ne_eqb m n other ∙ sym (ne_eqb n m (λ same. other (sym same)))
]

or-false : (b : Bool) → b ≡ (b || false)
or-false true = refl
or-false false = refl

-- a number is among those of a list if it is the first or among the others
pub is_among-cons : (number : ℕ) (others : List ℕ) (n : ℕ) → is_among (number ∷ others) n ≡ (eqb number n || is_among others n)
is_among-cons number [] n = eqb-sym n number ∙ or-false (eqb number n)
is_among-cons number (another ∷ others) n = ap (λ b. b || is_among (another ∷ others) n) (eqb-sym n number)

pub is_among-list_any : (numbers : List ℕ) (n : ℕ) → is_among numbers n ≡ list_any (λ number. eqb number n) numbers
is_among-list_any [] n = refl
is_among-list_any (number ∷ others) n = is_among-cons number others n ∙ ap (λ b. eqb number n || b) (is_among-list_any others n)

-- ---- filters, maps, joined lists, and numbers in a row

pub Contains-filter : {X : Type 0} (p : X → Bool) (xs : List X) (x : X) → p x ≡ true → Contains xs x → Contains (filter p xs) x
Contains-filter p [] x passes has = absurd (Contains-none x has)
Contains-filter p (y ∷ ys) x passes has =
    elim (Contains-cases y ys x has) [
      | inl here ↦ let first : p y ≡ true = ap p here ∙ passes in
          rw first (subst (λ z. Contains (y ∷ filter p ys) z) here (Contains-first y (filter p ys)))
      | inr later ↦
          let rest = Contains-filter p ys x passes later in
          elim (cases_Bool (p y)) [
            | inl kept ↦ rw kept (Contains-later y (filter p ys) x rest)
            | inr left ↦ rw left rest
          ]
    ]

pub filter-Contains : {X : Type 0} (p : X → Bool) (xs : List X) (x : X) → Contains (filter p xs) x → Contains xs x × (p x ≡ true)
filter-Contains p [] x has = absurd (Contains-none x has)
filter-Contains p (y ∷ ys) x has =
    elim (cases_Bool (p y)) [
      | inl kept ↦ elim (Contains-cases y (filter p ys) x (rw kept at has)) [
        | inl here ↦ (subst (λ z. Contains (y ∷ ys) z) here (Contains-first y ys), sym (ap p here) ∙ kept)
        | inr later ↦ let rest = filter-Contains p ys x later in (Contains-later y ys x rest.0, rest.1)
      ]
      | inr left ↦ let rest = filter-Contains p ys x (rw left at has) in (Contains-later y ys x rest.0, rest.1)
    ]

pub Contains-map : {X Y : Type 0} (f : X → Y) (xs : List X) (x : X) → Contains xs x → Contains (map f xs) (f x)
Contains-map f [] x has = absurd (Contains-none x has)
Contains-map f (y ∷ ys) x has =
    elim (Contains-cases y ys x has) [
      | inl here ↦ subst (λ z. Contains (f y ∷ map f ys) (f z)) here (Contains-first (f y) (map f ys))
      | inr later ↦ Contains-later (f y) (map f ys) (f x) (Contains-map f ys x later)
    ]

pub map-Contains : {X Y : Type 0} (f : X → Y) (xs : List X) (y : Y) → Contains (map f xs) y → (x : X) × Contains xs x × (f x ≡ y)
map-Contains f [] y has = absurd (Contains-none y has)
map-Contains f (x ∷ xs) y has =
    elim (Contains-cases (f x) (map f xs) y has) [
      | inl here ↦ (x, Contains-first x xs, here)
      | inr later ↦ let rest = map-Contains f xs y later in (rest.0, Contains-later x xs rest.0 rest.1, rest.2)
    ]

pub Contains-flat_map : {X Y : Type 0} (f : X → List Y) (xs : List X) (x : X) (y : Y) → Contains xs x → Contains (f x) y →
    Contains (flat_map f xs) y
Contains-flat_map f [] x y has inside = absurd (Contains-none x has)
Contains-flat_map f (z ∷ zs) x y has inside =
    elim (Contains-cases z zs x has) [
      | inl here ↦ Contains-append_left (f z) (flat_map f zs) y (subst (λ at. Contains (f at) y) (sym here) inside)
      | inr later ↦ Contains-append_right (f z) (flat_map f zs) y (Contains-flat_map f zs x y later inside)
    ]

pub flat_map-Contains : {X Y : Type 0} (f : X → List Y) (xs : List X) (y : Y) → Contains (flat_map f xs) y →
    (x : X) × Contains xs x × Contains (f x) y
flat_map-Contains f [] y has = absurd (Contains-none y has)
flat_map-Contains f (z ∷ zs) y has =
    elim (Contains-append_cases (f z) (flat_map f zs) y has) [
      | inl here ↦ (z, Contains-first z zs, here)
      | inr later ↦ let rest = flat_map-Contains f zs y later in (rest.0, Contains-later z zs rest.0 rest.1, rest.2)
    ]

pub Contains-range : (a n x : ℕ) → a ≤ x → x < a + n → Contains (range_with_len a n) x
Contains-range a n x from before = (
  x - a,
  omega (arith, length-range_with_len a n),
  get_or-range_with_len a n (x - a) x (omega arith) ∙ omega arith,
)

pub range-Contains : (a n x : ℕ) → Contains (range_with_len a n) x → (a ≤ x) × (x < a + n)
range-Contains a n x has =
    let at = get_or-range_with_len a n has.0 x (omega (arith, has.1, length-range_with_len a n)) in
    (omega (arith, at, has.2), omega (arith, at, has.2, has.1, length-range_with_len a n))

-- ---- lists in which each element stands so to each later one

pub AllPairs-none : {X : Type 0} (R : X → X → Type 0) → AllPairs R []
AllPairs-none R = λ i j d before within. absurd (omega arith)

pub AllPairs-cons : {X : Type 0} (R : X → X → Type 0) (x : X) (xs : List X) → All (R x) xs → AllPairs R xs → AllPairs R (x ∷ xs)
AllPairs-cons {X = X} R x xs first rest = λ i j d before within. pair i j d before within where
  pair : (i j : ℕ) (d : X) → i < j → j < length (x ∷ xs) → R (get_or (x ∷ xs) i d) (get_or (x ∷ xs) j d)
  pair i zero d before within = absurd (omega arith)
  pair zero (suc j) d before within = first j d (omega arith)
  pair (suc i) (suc j) d before within = rest i j d (omega arith) (omega arith)

pub AllPairs-head : {X : Type 0} (R : X → X → Type 0) (x : X) (xs : List X) → AllPairs R (x ∷ xs) → All (R x) xs
AllPairs-head R x xs all = λ k d within. all 0 (suc k) d (omega arith) (omega arith)

pub AllPairs-tail : {X : Type 0} (R : X → X → Type 0) (x : X) (xs : List X) → AllPairs R (x ∷ xs) → AllPairs R xs
AllPairs-tail R x xs all = λ i j d before within. all (suc i) (suc j) d (omega arith) (omega arith)

pub AllPairs-append : {X : Type 0} (R : X → X → Type 0) (xs ys : List X) → AllPairs R xs → AllPairs R ys →
    ((x y : X) → Contains xs x → Contains ys y → R x y) → AllPairs R (xs ++ ys)
AllPairs-append R [] ys first second between = second
AllPairs-append R (x ∷ xs) ys first second between =
    AllPairs-cons R x (xs ++ ys)
    (All-from_Contains (R x) (xs ++ ys) (λ y has. elim (Contains-append_cases xs ys y has) [
      | inl left ↦ All-contains (R x) xs y (AllPairs-head R x xs first) left
      | inr right ↦ between x y (Contains-first x xs) right
    ]))
    (AllPairs-append R xs ys (AllPairs-tail R x xs first) second
    (λ z y left right. between z y (Contains-later x xs z left) right))

pub AllPairs-filter : {X : Type 0} (R : X → X → Type 0) (p : X → Bool) (xs : List X) → AllPairs R xs → AllPairs R (filter p xs)
AllPairs-filter R p [] all = all
AllPairs-filter R p (x ∷ xs) all =
    let rest = AllPairs-filter R p xs (AllPairs-tail R x xs all) in
    elim (cases_Bool (p x)) [
      | inl kept ↦ rw kept (AllPairs-cons R x (filter p xs) (All-filter p (R x) xs (AllPairs-head R x xs all)) rest)
      | inr left ↦ rw left rest
    ]

pub AllPairs-map : {X Y : Type 0} (R : Y → Y → Type 0) (f : X → Y) (xs : List X) → AllPairs (λ a b. R (f a) (f b)) xs →
    AllPairs R (map f xs)
AllPairs-map R f [] all = AllPairs-none R
AllPairs-map R f (x ∷ xs) all =
    AllPairs-cons R (f x) (map f xs)
    (All-from_Contains (R (f x)) (map f xs) (λ y has.
    let found = map-Contains f xs y has in
    subst (R (f x)) found.2 (All-contains (λ b. R (f x) (f b)) xs found.0 (AllPairs-head (λ a b. R (f a) (f b)) x xs all)
    found.1)))
    (AllPairs-map R f xs (AllPairs-tail (λ a b. R (f a) (f b)) x xs all))

-- the parts of a joined list in order, and each part's elements before the next part's
pub AllPairs-flat_map : {X Y : Type 0} (R : Y → Y → Type 0) (Before : X → X → Type 0) (f : X → List Y) (xs : List X) →
    AllPairs Before xs →
    ((x : X) → AllPairs R (f x)) → ((x z : X) (a b : Y) → Before x z → Contains (f x) a → Contains (f z) b → R a b) →
    AllPairs R (flat_map f xs)
AllPairs-flat_map R Before f [] all each between = AllPairs-none R
AllPairs-flat_map R Before f (x ∷ xs) all each between =
    AllPairs-append R (f x) (flat_map f xs) (each x) (AllPairs-flat_map R Before f xs (AllPairs-tail Before x xs all)
    each between) (λ a b left right.
    let found = flat_map-Contains f xs b right in
    between x found.0 a b (All-contains (Before x) xs found.0 (AllPairs-head Before x xs all) found.1) left found.2)

pub AllPairs-range : (a n : ℕ) → AllPairs (λ x y. x < y) (range_with_len a n)
AllPairs-range a zero = AllPairs-none (λ x y. x < y)
AllPairs-range a (suc n) =
    AllPairs-cons (λ x y. x < y) a (range_with_len (a + 1) n)
    (All-from_Contains (λ y. a < y) (range_with_len (a + 1) n) (λ y has. let found = range-Contains (a + 1) n y has in
    omega (arith, found.0)))
    (AllPairs-range (a + 1) n)

-- ---- in a strict order two lists with the same elements are the same

module _ {X : Type 0} (R : X → X → Type 0) (strict : (x y : X) → R x y → R y x → ⊥) where
  pub same-ordered : (xs ys : List X) → AllPairs R xs → AllPairs R ys → ((x : X) → Contains xs x → Contains ys x) →
      ((x : X) → Contains ys x → Contains xs x) → xs ≡ ys
  same-ordered [] [] first second there back = refl
  same-ordered [] (y ∷ ys) first second there back = absurd (Contains-none y (back y (Contains-first y ys)))
  same-ordered (x ∷ xs) [] first second there back = absurd (Contains-none x (there x (Contains-first x xs)))
  same-ordered (x ∷ xs) (y ∷ ys) first second there back =
      let after_x = AllPairs-head R x xs first in
      let after_y = AllPairs-head R y ys second in
      let same : x ≡ y = elim (Contains-cases y ys x (there x (Contains-first x xs))) [
        | inl here ↦ sym here
        | inr later ↦ elim (Contains-cases x xs y (back y (Contains-first y ys))) [
          | inl here ↦ here
          | inr past ↦ absurd (strict x y (All-contains (R x) xs y after_x past) (All-contains (R y) ys x after_y later))
        ]
      ] in
      let tails : xs ≡ ys = same-ordered xs ys (AllPairs-tail R x xs first) (AllPairs-tail R y ys second)
      (λ z has. elim (Contains-cases y ys z (there z (Contains-later x xs z has))) [
        | inl here ↦ let before = All-contains (R x) xs z after_x has in let loop = subst (R x) (sym here ∙ sym same) before in
            absurd (strict x x loop loop)
        | inr later ↦ later
      ])
      (λ z has. elim (Contains-cases x xs z (back z (Contains-later y ys z has))) [
        | inl here ↦ let before = All-contains (R y) ys z after_y has in let loop = subst (R y) (sym here ∙ same) before in
            absurd (strict y y loop loop)
        | inr later ↦ later
      ]) in
      cc

-- ---- what is so of each item

-- what is so of each item of two lists is so of each of both together
pub AllByRecursion-append : {X : Type 0} (P : X → Type 0) (xs ys : List X) → AllByRecursion P xs → AllByRecursion P ys →
    AllByRecursion P (xs ++ ys)
AllByRecursion-append P [] ys one other = other
AllByRecursion-append P (x ∷ xs) ys one other = (one.0, AllByRecursion-append P xs ys one.1 other)

-- what is so of each item, weakened
pub AllByRecursion-weaker : {X : Type 0} (P Q : X → Type 0) (xs : List X) → ((x : X) → P x → Q x) → AllByRecursion P xs →
    AllByRecursion Q xs
AllByRecursion-weaker P Q [] weaker all = tt
AllByRecursion-weaker P Q (x ∷ xs) weaker all = (weaker x all.0, AllByRecursion-weaker P Q xs weaker all.1)

-- what is so of each item is so of the first ones, and of the last ones
pub AllByRecursion-prefix : {X : Type 0} (P : X → Type 0) (xs ys : List X) → AllByRecursion P (xs ++ ys) → AllByRecursion P xs
AllByRecursion-prefix P [] ys all = tt
AllByRecursion-prefix P (x ∷ xs) ys all = (all.0, AllByRecursion-prefix P xs ys all.1)

pub AllByRecursion-suffix : {X : Type 0} (P : X → Type 0) (xs ys : List X) → AllByRecursion P (xs ++ ys) → AllByRecursion P ys
AllByRecursion-suffix P [] ys all = all
AllByRecursion-suffix P (x ∷ xs) ys all = AllByRecursion-suffix P xs ys all.1

-- what is so of all is so of all before the last
pub All-prefix : {X : Type 0} (P : X → Type 0) (xs : List X) (x : X) → All P (xs ++ x ∷ []) → All P xs
All-prefix P xs x all = λ k d within. subst P (get_or_append_left xs (x ∷ []) d k within)
    (all k d (omega (arith, within, length-append xs (x ∷ []))))

-- and of the last one
pub All-last : {X : Type 0} (P : X → Type 0) (xs : List X) (x : X) → All P (xs ++ x ∷ []) → P x
All-last P xs x all = subst P (get_or-append-add xs (x ∷ []) 0 x)
    (all (length xs + 0) x (omega (arith, length-append xs (x ∷ []))))

-- an item at the end is in the list
pub Contains-push : {X : Type 0} (xs : List X) (x : X) → Contains (xs ++ x ∷ []) x
Contains-push xs x = Contains-append_right xs (x ∷ []) x (Contains-first x [])
