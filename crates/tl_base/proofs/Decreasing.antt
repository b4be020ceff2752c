-- Decreasing step functions: where a search lands, and what the height there is.
use Rattle.std.proofs.Common.{
  ◌≡◌,
  ℕ,
  ◌+◌,
  ◌-◌,
  ◌<◌,
  ◌≤◌,
  zero,
  suc,
  Bool,
  true,
  false,
  cond,
  nat_le,
  nat_lt,
  List,
  [],
  ◌∷◌,
  ◌⊎◌,
  inl,
  inr,
  length,
  take,
  get_or,
  filter,
  Option,
  Some,
  None,
  IfSome,
  refl,
  sym,
  ap,
  ◌∙◌,
  subst,
  arith,
}
use Rattle.std.specs.List.{AllWithin, last_or}
use Rattle.std.specs.List.Sorted.{IsPartitionedBy, IsPartitionPoint}
use Rattle.std.specs.Option.{option_map, IsSomeAnd}
use Rattle.std.proofs.lemmas.Bool.{cases_lt}
use Rattle.std.proofs.lemmas.Bool.Decides.{nat_tests}
use Rattle.std.proofs.lemmas.List.{get_or_default, take_all}
use Rattle.tl_base.specs.declared.steps.Config.{Config}
use Rattle.tl_base.specs.Steps.{AreSteps, IsLowAt, IsLeastWidthFor, first_width, first_height, height_at}
use Rattle.tl_base.specs.inner.Stacking.{IsPastNarrow}

-- what a read past the end of the steps gives
abbrev pub no_step : Config
no_step = record { width = 0; height = 0 }

-- tests and what they mean
pub test_le : {a b : ℕ} → a ≤ b → nat_le a b ≡ true
test_le le = grind (arith, nat_tests)

pub test_le_false : {a b : ℕ} → b < a → nat_le a b ≡ false
test_le_false gt = grind (arith, nat_tests)

pub le_test : {a b : ℕ} → nat_le a b ≡ true → a ≤ b
le_test test = grind (arith, nat_tests)

pub test_lt : {a b : ℕ} → a < b → nat_lt a b ≡ true
test_lt lt = grind (arith, nat_tests)

pub lt_test : {a b : ℕ} → nat_lt a b ≡ true → a < b
lt_test test = grind (arith, nat_tests)

pub test_lt_false : {a b : ℕ} → nat_lt a b ≡ false → b ≤ a
test_lt_false test = grind (arith, nat_tests)

-- ---- the list

-- the later step is wider and lower
abbrev pub Falls : Config → Config → Type 0
Falls a b = (a.width < b.width) × (b.height < a.height)

-- of any two of the first `n` steps the later is wider and lower
abbrev pub FallsBelow : List Config → ℕ → Type 0
FallsBelow steps n = (i j : ℕ) → i < j → j < n → Falls (get_or steps i no_step) (get_or steps j no_step)

-- one more step
pub FallsBelow-more : (steps : List Config) (n : ℕ) → 1 ≤ n → FallsBelow steps n →
    Falls (get_or steps (n - 1) no_step) (get_or steps n no_step) → FallsBelow steps (n + 1)
FallsBelow-more steps n some below last = λ i j before within.
    elim (cases_lt j n) [
      | inl old ↦ below i j before old
      | inr here ↦
          let end : j ≡ n = omega arith in
          subst (λ k. Falls (get_or steps i no_step) (get_or steps k no_step)) (sym end)
          (elim (cases_lt i (n - 1)) [
            | inl earlier ↦ let between = below i (n - 1) earlier (omega arith) in (omega (arith, last.0), omega (arith, last.1))
            | inr next ↦ let same : i ≡ n - 1 = omega arith in
                subst (λ k. Falls (get_or steps k no_step) (get_or steps n no_step)) (sym same) last
          ])
    ]

pub AreSteps-from : (steps : List Config) → 0 < length steps → FallsBelow steps (length steps) → AreSteps steps
AreSteps-from steps some below = record {
  has_step = some;
  decreasing = λ i j d before within.
      let first = ap (λ a. a.width) (get_or_default steps i d no_step (omega arith)) in
      let second = ap (λ a. a.width) (get_or_default steps j d no_step within) in
      let upper = ap (λ a. a.height) (get_or_default steps i d no_step (omega arith)) in
      let lower = ap (λ a. a.height) (get_or_default steps j d no_step within) in
      let fall = below i j before within in
      (omega (arith, fall.0, first, second), omega (arith, fall.1, upper, lower));
}

module _ (steps : List Config) (are : AreSteps steps) where
  pub falls : (i j : ℕ) → i < j → j < length steps → Falls (get_or steps i no_step) (get_or steps j no_step)
  falls i j before within = are.decreasing i j no_step before within

  -- the steps that are narrow enough come first
  pub narrow_first : (w : ℕ) → IsPartitionedBy (λ step. nat_le step.width w) steps
  narrow_first w i j d before within narrow =
      elim (cases_lt i j) [
        | inl less ↦ let fall = are.decreasing i j d less within in test_le (omega (arith, fall.0, le_test narrow))
        | inr same ↦ let end : i ≡ j = omega arith in subst (λ k. nat_le (get_or steps k d).width w ≡ true) (sym end) narrow
      ]

  -- and so do those that are too high
  pub high_first : (h : ℕ) → IsPartitionedBy (λ step. nat_lt h step.height) steps
  high_first h i j d before within high =
      elim (cases_lt i j) [
        | inl less ↦ let fall = are.decreasing i j d less within in test_lt (omega (arith, fall.1, lt_test high))
        | inr same ↦ let end : i ≡ j = omega arith in subst (λ k. nat_lt h (get_or steps k d).height ≡ true) (sym end) high
      ]

-- ---- the height at a width

-- where the items that pass come first, a filter takes just those
filter-take : {X : Type 0} (p : X → Bool) (xs : List X) (n : ℕ) → IsPartitionPoint (λ x. p x ≡ true) (λ x. p x ≡ false) xs n →
    filter p xs ≡ take n xs
filter-take p [] zero at = refl
filter-take p [] (suc n) at = refl
filter-take p (x ∷ xs) zero at =
    rw (at.1 0 x (omega arith) (omega arith)) (filter-take p xs zero (
      (λ k d low high. absurd (omega arith)),
      (λ k d low high. at.1 (suc k) d (omega arith) (omega arith)),
    ))
filter-take p (x ∷ xs) (suc n) at =
    rw (at.0 0 x (omega arith) (omega arith)) (ap (λ rest. x ∷ rest) (filter-take p xs n (
      (λ k d low high. at.0 (suc k) d (omega arith)
          (omega arith)),
      (λ k d low high. at.1 (suc k) d (omega arith) (omega arith)),
    )))

pub last_or-take : {X : Type 0} (o : Option X) (xs : List X) (n : ℕ) (d : X) → n < length xs →
    last_or o (take (suc n) xs) ≡ Some (get_or xs n d)
last_or-take o [] n d within = absurd (omega arith)
last_or-take o (x ∷ xs) zero d within = refl
last_or-take o (x ∷ xs) (suc n) d within = last_or-take (Some x) xs n d (omega arith)

-- no step is narrow enough
pub height_at-none : (steps : List Config) (w : ℕ) → IsPartitionPoint (λ step. nat_le step.width w ≡ true)
    (λ step. nat_le step.width w ≡
    false) steps 0 → height_at steps w ≡ None
height_at-none steps w at = ap (λ narrow. option_map (λ step. step.height) (last_or None narrow))
    (filter-take (λ step. nat_le step.width w) steps 0 at)

-- the last step that is narrow enough
pub height_at-some : (steps : List Config) (w n : ℕ) (d : Config) → n < length steps →
    IsPartitionPoint (λ step. nat_le step.width w ≡ true) (λ step. nat_le step.width w ≡ false) steps (suc n) →
    height_at steps w ≡ Some (get_or steps n d).height
height_at-some steps w n d within at =
    ap (λ narrow. option_map (λ step. step.height) (last_or None narrow))
    (filter-take (λ step. nat_le step.width w) steps (suc n) at)
    ∙ ap (λ last. option_map (λ step. step.height) last) (last_or-take None steps n d within)

-- at a step's own width the height is its own
pub height_at-step : (steps : List Config) → AreSteps steps → (n : ℕ) → n < length steps →
    height_at steps (get_or steps n no_step).width ≡ Some (get_or steps n no_step).height
height_at-step steps are n within =
    let w = (get_or steps n no_step).width in
    height_at-some steps w n no_step within (
      (λ k d low high. narrow_first steps are w k n d (omega arith) within (test_le (omega (
        arith,
        ap (λ a. a.width) (get_or_default steps n d no_step within),
      )))),
      (λ k d low high. let fall = are.decreasing n k d (omega arith) high in
          test_le_false (omega (arith, fall.0, ap (λ a. a.width) (get_or_default steps n d no_step within)))),
    )

-- `x` is the item before a list, or it is an item of the list that passes
abbrev IsFound : {X : Type 0} → (X → Bool) → Option X → List X → X → X → Type 0
IsFound p o xs x d = (o ≡ Some x) ⊎ ((k : ℕ) × (k < length xs) × (p (get_or xs k d) ≡ true) × (get_or xs k d ≡ x))

found_later : {X : Type 0} (p : X → Bool) (o first : Option X) (y : X) (xs : List X) (x d : X) → IsFound p o xs x d →
    (o ≡ Some x →
    IsFound p first (y ∷ xs) x d) → IsFound p first (y ∷ xs) x d
found_later p o first y xs x d found start =
    elim found [ inl at_start ↦ start at_start | inr at ↦ inr (suc at.0, omega (arith, at.1), at.2, at.3) ]

found_choice : {X : Type 0} (p : X → Bool) (o : Option X) (y : X) (xs : List X) (x d : X) (test : Bool) → p y ≡ test →
    (last_or (Some y) (filter p xs) ≡ Some x → IsFound p (Some y) xs x d) →
    (last_or o (filter p xs) ≡ Some x → IsFound p o xs x d) →
    last_or o (cond test (y ∷ filter p xs) (filter p xs)) ≡ Some x → IsFound p o (y ∷ xs) x d
found_choice p o y xs x d true passes kept dropped is = found_later p (Some y) o y xs x d (kept is)
    (λ at_start. inr (0, omega arith, passes, cc))
found_choice p o y xs x d false fails kept dropped is = found_later p o o y xs x d (dropped is) (λ at_start. inl at_start)

-- the last item that passes passes
last_filter : {X : Type 0} (p : X → Bool) (o : Option X) (xs : List X) (x d : X) → last_or o (filter p xs) ≡ Some x →
    IsFound p o xs x d
last_filter p o [] x d is = inl is
last_filter p o (y ∷ xs) x d is = found_choice p o y xs x d (p y) refl (last_filter p (Some y) xs x d) (last_filter p o xs x d) is

-- a height is that of a step that is narrow enough
height_of_step : (steps : List Config) (w h : ℕ) → height_at steps w ≡ Some h →
    (k : ℕ) × (k < length steps) × ((get_or steps k no_step).width ≤ w) × ((get_or steps k no_step).height ≡ h)
height_of_step steps w h is = open_last (last_or None (filter (λ step. nat_le step.width w) steps))
    (λ step. last_filter (λ s. nat_le
    s.width w) None steps step no_step) is
  where
    open_last : (last : Option Config) → ((step : Config) → last ≡ Some step →
        IsFound (λ s. nat_le s.width w) None steps step no_step) →
        option_map (λ step. step.height) last ≡ Some h → (k : ℕ) × (k < length steps) × ((get_or steps k no_step).width ≤ w) ×
        ((get_or
        steps k no_step).height ≡ h)
    open_last None found same = cc
    open_last (Some step) found same =
        elim (found step refl) [
          | inl at_start ↦ cc
          | inr at ↦ (at.0, at.1, le_test at.2, ap (λ s. s.height) at.3 ∙ (let high : step.height ≡ h = cc in high))
        ]

-- ---- the least width for a height

module _ (steps : List Config) (are : AreSteps steps) (h n : ℕ) (within : n < length steps)
    (at : IsPartitionPoint (λ step. nat_lt h
    step.height ≡ true) (λ step. nat_lt h step.height ≡ false) steps n) where
  -- the first step that is low enough
  pub low_here : (get_or steps n no_step).height ≤ h
  low_here = test_lt_false (at.1 n no_step (omega arith) within)

  -- no narrower width will do
  none_before : (v : ℕ) → IsLowAt steps h v → (get_or steps n no_step).width ≤ v
  none_before v low = at_height (height_at steps v) (height_of_step steps v) low
    where
      at_height : (height : Option ℕ) → ((x : ℕ) → height ≡ Some x →
          (k : ℕ) × (k < length steps) × ((get_or steps k no_step).width ≤ v) × ((get_or steps k no_step).height ≡ x)) →
          IsSomeAnd height (λ x. x ≤ h) → (get_or steps n no_step).width ≤ v
      at_height None found low' = absurd low'
      at_height (Some x) found low' =
          let step = found x refl in
          elim (cases_lt step.0 n) [
            | inl before ↦ let high = lt_test (at.0 step.0 no_step (omega arith) before) in absurd (omega (arith, step.3, low'))
            | inr later ↦ elim (cases_lt n step.0) [
              | inl after ↦ let fall = falls steps are n step.0 after step.1 in omega (arith, fall.0, step.2)
              | inr same ↦ let end : n ≡ step.0 = omega arith in
                  omega (arith, step.2, ap (λ k. (get_or steps k no_step).width) end)
            ]
          ]

  pub IsLeastWidthFor-from : IsLeastWidthFor steps h (get_or steps n no_step).width
  IsLeastWidthFor-from = record {
    low = subst (λ height. IsSomeAnd height (λ x. x ≤ h)) (sym (height_at-step steps are n within)) low_here;
    least = none_before;
  }

-- ---- the first step and the last height

pub first_height-is : (steps : List Config) (d : Config) → 0 < length steps → first_height steps ≡ (get_or steps 0 d).height
first_height-is [] d some = absurd (omega arith)
first_height-is (step ∷ steps) d some = refl

pub first_width-is : (steps : List Config) (d : Config) → 0 < length steps → first_width steps ≡ (get_or steps 0 d).width
first_width-is [] d some = absurd (omega arith)
first_width-is (step ∷ steps) d some = refl

last-is : (steps : List Config) → 0 < length steps → last_or None steps ≡ Some (get_or steps (length steps - 1) no_step)
last-is steps some =
    let all : take (suc (length steps - 1)) steps ≡ steps = take_all (suc (length steps - 1)) steps (omega arith) in
    ap (λ whole. last_or None whole) (sym all) ∙ last_or-take None steps (length steps - 1) no_step (omega arith)

module _ (steps : List Config) (are : AreSteps steps) (h : ℕ) where
  -- the last step is too high just where no step is low enough
  pub last_high : AllWithin (λ step. nat_lt h step.height ≡ true) steps 0 (length steps) →
      IfSome (last_or None steps) (λ last. h < last.height)
  last_high each = subst (λ last. IfSome last (λ step. h < step.height)) (sym (last-is steps are.has_step))
      (lt_test (each (length steps -
      1) no_step (omega arith) (omega (arith, are.has_step))))

  pub last_low : (n : ℕ) → n < length steps → (get_or steps n no_step).height ≤ h →
      IfSome (last_or None steps) (λ last. last.height ≤ h)
  last_low n within low = subst (λ last. IfSome last (λ step. step.height ≤ h)) (sym (last-is steps are.has_step))
      (last_low_here (cases_lt
      n (length steps - 1)))
    where
      last_low_here : (n < length steps - 1) ⊎ (length steps - 1 ≤ n) → (get_or steps (length steps - 1) no_step).height ≤ h
      last_low_here (inl before) = let fall = falls steps are n (length steps - 1) before (omega arith) in
          omega (arith, fall.1, low)
      last_low_here (inr same) = let end : n ≡ length steps - 1 = omega arith in
          omega (arith, low, ap (λ k. (get_or steps k no_step).height) end)

pub test_le_below : {a b : ℕ} → nat_le a b ≡ false → b < a
test_le_below test = grind (arith, nat_tests)

-- ---- what the steps up to a width tell

module _ (steps : List Config) (are : AreSteps steps) (w : ℕ) where
  -- below the first width there is no height
  pub height_at-below : w < first_width steps → height_at steps w ≡ None
  height_at-below below = height_at-none steps w (
    (λ k d low high. absurd (omega arith)),
    (λ k d low high. wide (cases_lt 0 k) d high),
  ) where
    wide : {k : ℕ} → (0 < k) ⊎ (k ≤ 0) → (d : Config) → k < length steps → nat_le (get_or steps k d).width w ≡ false
    wide {k} (inl later) d high =
        let fall = are.decreasing 0 k d later high in
        test_le_false (omega (arith, fall.0, first_width-is steps d are.has_step, below))
    wide {k} (inr first) d high =
        let here : k ≡ 0 = omega (arith, first) in
        test_le_false (omega (arith, first_width-is steps d are.has_step, below, ap (λ n. (get_or steps n d).width) here))

  -- no step is narrow enough: the width is below the first
  pub below_first : IsPastNarrow steps w 0 → w < first_width steps
  below_first at = omega (
    arith,
    first_width-is steps no_step are.has_step,
    test_le_below (at.1 0 no_step (omega arith) are.has_step),
  )

  -- a step is narrow enough: the width is not below the first
  pub from_first : (n : ℕ) → 0 < n → IsPastNarrow steps w n → first_width steps ≤ w
  from_first n some at = omega (arith, first_width-is steps no_step are.has_step, le_test (at.0 0 no_step (omega arith) some))

  -- a width that is not below the first has a step
  pub some_narrow : (n : ℕ) → IsPastNarrow steps w n → first_width steps ≤ w → 0 < n
  some_narrow zero at from = absurd (omega (arith, below_first at, from))
  some_narrow (suc n) at from = omega arith

  -- the height is that of the last step that is narrow enough
  pub height_at-last : (n : ℕ) → 0 < n → n ≤ length steps → IsPastNarrow steps w n →
      height_at steps w ≡ Some (get_or steps (n - 1) no_step).height
  height_at-last zero some within at = absurd (omega (arith, some))
  height_at-last (suc n) some within at =
      let here : suc n - 1 ≡ n = omega arith in
      height_at-some steps w n no_step (omega (arith, within)) at ∙ ap (λ k. Some (get_or steps k no_step).height) (sym here)

pub IfSome-weaker : {X : Type 0} (o : Option X) (P Q : X → Type 0) → ((x : X) → P x → Q x) → IfSome o P → IfSome o Q
IfSome-weaker None P Q weaker is = tt
IfSome-weaker (Some x) P Q weaker is = weaker x is
