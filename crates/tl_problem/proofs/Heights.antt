-- Decreasing step functions: wider is no higher, a height stands from the first width on, and changes where a step begins.
use Rattle.std.proofs.Common.{cond, ◌≡◌, ℕ, ◌+◌, ◌<◌, ◌≤◌, suc, Bool, true, false, nat_le, List, [], ◌∷◌, length, get_or, filter}
use Rattle.std.proofs.Common.{Option, Some, None, refl}
use Rattle.std.proofs.Common.{sym, ap, ◌∙◌, subst, inl, inr, arith}
use Rattle.std.specs.Option.{option_map, IsSomeAnd}
use Rattle.std.specs.List.{All, AllPairs, last_or}
use Rattle.std.proofs.lemmas.Bool.{cases_lt}
use Rattle.std.proofs.lemmas.Bool.Decides.{nat_tests}
use Rattle.std.proofs.lemmas.List.{get_or_default}
use Rattle.tl_base.specs.declared.steps.Config.{Config}
use Rattle.tl_base.specs.Steps.{AreSteps, first_width, height_at, IsLowAt}
use Rattle.tl_base.proofs.Decreasing.{no_step, falls, height_at-step}
use Rattle.tl_base.proofs.Members.{AllPairs-head, AllPairs-tail}

-- tests and what they mean
pub test_le : (a b : ℕ) → a ≤ b → nat_le a b ≡ true
test_le a b le = grind (arith, nat_tests)

pub test_le_false : (a b : ℕ) → b < a → nat_le a b ≡ false
test_le_false a b gt = grind (arith, nat_tests)

-- ---- more lines are enough where fewer are

pub IsLowAt-higher : (steps : List Config) (h k w : ℕ) → h ≤ k → IsLowAt steps h w → IsLowAt steps k w
IsLowAt-higher steps h k w more low = higher (height_at steps w) low where
  higher : (o : Option ℕ) → IsSomeAnd o (λ height. height ≤ h) → IsSomeAnd o (λ height. height ≤ k)
  higher None low = absurd low
  higher (Some height) low = omega (arith, low)

pub IsLowAt-from : (steps : List Config) (h w : ℕ) → height_at steps w ≡ Some h → IsLowAt steps h w
IsLowAt-from steps h w is = subst (λ o. IsSomeAnd o (λ height. height ≤ h)) (sym is) (omega arith)

-- what is low has a height
pub height-from_low : (steps : List Config) (h w : ℕ) → IsLowAt steps h w →
    (height : ℕ) × (height_at steps w ≡ Some height) × (height ≤ h)
height-from_low steps h w low = some (height_at steps w) low where
  some : (o : Option ℕ) → IsSomeAnd o (λ height. height ≤ h) → (height : ℕ) × (o ≡ Some height) × (height ≤ h)
  some None low = absurd low
  some (Some height) low = (height, refl, low)

pub IsLowAt-same : (steps : List Config) (h w v : ℕ) → height_at steps w ≡ height_at steps v → IsLowAt steps h w →
    IsLowAt steps h v
IsLowAt-same steps h w v same low = subst (λ o. IsSomeAnd o (λ height. height ≤ h)) same low

-- ---- wider is no higher

-- the step is there and at most `h` high
abbrev Low : ℕ → Option Config → Type 0
Low h o = IsSomeAnd (option_map (λ step. step.height) o) (λ height. height ≤ h)

-- the last item of a list is low if what stands before it is
last-low : (h : ℕ) (o p : Option Config) (steps : List Config) → (Low h o → Low h p) → Low h (last_or o steps) →
    Low h (last_or p steps)
last-low h o p [] give low = give low
last-low h o p (step ∷ steps) give low = low

-- a step that is no higher is low where the first is
abbrev NoHigher : Option Config → Config → Type 0
NoHigher o step = (h : ℕ) → Low h o → step.height ≤ h

wider_low : (h w v : ℕ) → w ≤ v → (o : Option Config) (steps : List Config) →
    AllPairs (λ a b. (a.width < b.width) × (b.height < a.height)) steps →
    All (NoHigher o) steps →
    Low h (last_or o (filter (λ step. nat_le step.width w) steps)) →
    Low h (last_or o (filter (λ step. nat_le step.width v) steps))
wider_low h w v more o [] decreasing no_higher low = low
wider_low h w v more o (step ∷ steps) decreasing no_higher low =
    let later = AllPairs-tail (λ a b. (a.width < b.width) × (b.height < a.height)) step steps decreasing in
    let lower : All (NoHigher (Some step)) steps = λ k d within. λ bound here. let fall =
    AllPairs-head (λ a b. (a.width < b.width) × (b.height < a.height)) step steps decreasing k d within in
    omega (arith, fall.1, here) in
    let rest : All (NoHigher o) steps = λ k d within. no_higher (suc k) d (omega arith) in
    elim (cases_lt w step.width) [
      | inr narrow ↦
          let first = test_le step.width w narrow in
          let second = test_le step.width v (omega arith) in
          rw second (wider_low h w v more (Some step) steps later lower (rw first at low))
      | inl wide ↦
          let first = test_le_false step.width w wide in
          let below = rw first at low in
          elim (cases_lt v step.width) [
            | inl wider ↦ let second = test_le_false step.width v wider in
                rw second (wider_low h w v more o steps later rest below)
            | inr enough ↦
                let second = test_le step.width v enough in
                rw second (wider_low h w v more (Some step) steps later lower
                (last-low h o (Some step) (filter (λ s. nat_le s.width w) steps) (λ here. no_higher 0 step (omega arith) h here)
                below))
          ]
    ]

-- what is low enough at a width is so at each greater width
pub IsLowAt-wider : (steps : List Config) → AreSteps steps → (h w v : ℕ) → w ≤ v → IsLowAt steps h w → IsLowAt steps h v
IsLowAt-wider steps are h w v more low = wider_low h w v more None steps are.decreasing (λ k d within bound none. absurd none) low

-- ---- from the first width on there is a height

last-some : (x : Config) (xs : List Config) → (h : ℕ) × (option_map (λ step. step.height) (last_or (Some x) xs) ≡ Some h)
last-some x [] = (x.height, refl)
last-some x (y ∷ ys) = last-some y ys

pub height-from_first : (steps : List Config) → 0 < length steps → (w : ℕ) → first_width steps ≤ w →
    (h : ℕ) × (height_at steps w ≡ Some h)
height-from_first [] some w wide = absurd (omega arith)
height-from_first (step ∷ steps) some w wide =
    let first = test_le step.width w wide in
    rw first (last-some step (filter (λ s. nat_le s.width w) steps))

-- ---- where no step begins, the height does not change

-- of tests that agree at each item the filters keep the same
same_filter : {X : Type 0} (p q : X → Bool) (xs : List X) → All (λ x. p x ≡ q x) xs → filter p xs ≡ filter q xs
same_filter p q [] agree = refl
same_filter p q (x ∷ xs) agree =
    rw (agree 0 x (omega arith)) (ap (λ rest. cond (q x) (x ∷ rest) rest)
    (same_filter p q xs (λ k d within. agree (suc k) d (omega arith))))

-- no step begins after the one width up to the other
pub height-same : (steps : List Config) (w v : ℕ) → w ≤ v → All (λ step. w < step.width → step.width ≤ v → ⊥) steps →
    height_at steps w ≡ height_at steps v
height-same steps w v more none =
    ap (λ narrow. option_map (λ step. step.height) (last_or None narrow))
    (same_filter (λ step. nat_le step.width w) (λ step. nat_le step.width v) steps agree) where
      agree : All (λ step. nat_le step.width w ≡ nat_le step.width v) steps
      agree k d within =
          let at = get_or steps k d in
          elim (cases_lt w at.width) [
            | inr narrow ↦ test_le at.width w narrow ∙ sym (test_le at.width v (omega arith))
            | inl wide ↦ elim (cases_lt v at.width) [
              | inl wider ↦ test_le_false at.width w wide ∙ sym (test_le_false at.width v wider)
              | inr between ↦ absurd (none k d within wide between)
            ]
          ]

-- the step with this number
abbrev pub step_at : List Config → ℕ → Config
step_at steps k = get_or steps k no_step

-- from a step up to below the next one the height is that of the step
pub height-between : (steps : List Config) → AreSteps steps → (k room : ℕ) → k < length steps → (step_at steps k).width ≤ room →
    (k + 1 < length steps → room < (step_at steps (k + 1)).width) → height_at steps room ≡ Some (step_at steps k).height
height-between steps are k room within from below =
    sym (height-same steps (step_at steps k).width room from none) ∙ height_at-step steps are k within where
      none : All (λ step. (step_at steps k).width < step.width → step.width ≤ room → ⊥) steps
      none j d inside past upto =
          let same = ap (λ s. s.width) (get_or_default steps j d no_step inside) in
          elim (cases_lt k j) [
            | inr before ↦ elim (cases_lt j k) [
              | inl less ↦ let fall = falls steps are j k less within in omega (arith, fall.0, past, same)
              | inr equal ↦
                  let here : j ≡ k = omega (arith, before, equal) in
                  omega (arith, past, same, ap (λ i. (step_at steps i).width) here)
            ]
            | inl after ↦
                let wide = below (omega (arith, after, inside)) in
                elim (cases_lt (k + 1) j) [
                  | inl later ↦ let fall = falls steps are (k + 1) j later inside in omega (arith, fall.0, upto, same, wide)
                  | inr next ↦
                      let here : j ≡ k + 1 = omega (arith, after, next) in
                      omega (arith, upto, same, wide, ap (λ i. (step_at steps i).width) here)
                ]
          ]
