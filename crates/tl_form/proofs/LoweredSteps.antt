-- Steps so many lines lower: each of them up to the first that comes to no line, and so lower at each width.
use Rattle.std.proofs.Common.{◌≡◌, ℕ, ◌+◌, ◌-◌, ◌<◌, ◌≤◌, max, List, [], ◌∷◌, ◌++◌, length, get_or, map, take, Option, Some, None}
use Rattle.std.proofs.Common.{Contains, inl, inr, refl, sym, ap, subst, ◌∙◌, arith}
use Rattle.std.specs.List.{All, AllByRecursion}
use Rattle.std.specs.Option.{option_map}
use Rattle.std.proofs.lemmas.Bool.{cases_lt}
use Rattle.std.proofs.lemmas.List.{get_or-map, get_or-take, get_or_default, length-map, length-take, map-append, take_all}
use Rattle.std.proofs.lemmas.List.Elements.{All-from_recursion}
use Rattle.tl_base.specs.declared.steps.Config.{Config}
use Rattle.tl_base.specs.Steps.{AreSteps, height_at}
use Rattle.tl_base.proofs.Decreasing.{AreSteps-from, no_step}
use Rattle.tl_base.proofs.Members.{AllByRecursion-weaker}
use Rattle.tl_base.proofs.Taken.{taken_more}
use Rattle.tl_form.specs.Problems.{AreStepsOf}
use Rattle.tl_form.specs.inner.CellSteps.{AreLowered}
use Rattle.tl_form.proofs.NeedSteps.{IsDecreasing, AreStepsOf-from, height-falls, height-own, height-wider, same-option, step-at}

-- a lower height is that of a height
pub lowered-from : (lines : ℕ) (o : Option ℕ) (h : ℕ) → option_map (λ k. k - lines) o ≡ Some h →
    (n : ℕ) × (o ≡ Some n) × (n - lines ≡ h)
lowered-from lines None h is = absurd cc
lowered-from lines (Some n) h is = (n, refl, cc)

-- one step so many lines lower
abbrev pub lower : ℕ → Config → Config
lower lines step = record { width = step.width; height = step.height - lines }

-- no step is wider than some page
bounded-by : (steps : List Config) → (page : ℕ) × AllByRecursion (λ (step : Config). step.width ≤ page) steps
bounded-by [] = (0, tt)
bounded-by (step ∷ steps) =
    let rest = bounded-by steps in (
      max step.width rest.0,
      (
        omega arith,
        AllByRecursion-weaker (λ (one : Config). one.width ≤ rest.0) (λ (one : Config). one.width ≤ max step.width rest.0) steps
            (λ one is. omega (arith, is)) rest.1,
      ),
    )

-- ---- the first steps, each lower

-- the list is the first `i` steps, each so many lines lower, of which all have more lines than that
pub record LoweredSoFar (lines : ℕ) (steps : List Config) (i : ℕ) (list : List Config) : Type 0 where
  pub all : list ≡ map (lower lines) (take i steps)
  pub high : (k : ℕ) → k < i → lines < (get_or steps k no_step).height

module _ (steps : List Config) (are : AreSteps steps) (lines n : ℕ) (list : List Config)
    (all : list ≡ map (lower lines) (take n steps)) (some : 0 < n) (within : n ≤ length steps)
    (high : (k : ℕ) → k + 1 < n → lines < (get_or steps k no_step).height)
    (low : n < length steps → (get_or steps (n - 1) no_step).height ≤ lines) where
  long : length list ≡ n
  long = ap length all ∙ length-map (take n steps) (lower lines) ∙ omega (arith, length-take n steps, within)

  at : (k : ℕ) → k < n → get_or list k no_step ≡ lower lines (get_or steps k no_step)
  at k inside =
      ap (λ items. get_or items k no_step) all
      ∙ get_or-map (lower lines) (take n steps) k no_step no_step (omega (arith, inside, length-take n steps, within))
      ∙ ap (lower lines) (get_or-take n steps k no_step inside)

  -- they are steps
  are-list : AreSteps list
  are-list = AreSteps-from list (omega (arith, some, long)) (λ i j before inside.
      let fall = are.decreasing i j no_step before (omega (arith, inside, long, within)) in
      let first = at i (omega (arith, before, inside, long)) in
      let second = at j (omega (arith, inside, long)) in
      let more = high i (omega (arith, before, inside, long)) in (
        omega (arith, fall.0, ap (λ (one : Config). one.width) first, ap (λ (one : Config). one.width) second),
        omega (arith, fall.1, more, ap (λ (one : Config). one.height) first, ap (λ (one : Config). one.height) second),
      ))

  -- what the steps need, so many lines lower
  abbrev Less : ℕ → ℕ → Type 0
  Less w h = (m : ℕ) × (height_at steps w ≡ Some m) × (m - lines ≡ h)

  less-falls : (page : ℕ) → IsDecreasing Less page
  less-falls page = record {
    falls = λ v w m n wider inside first second.
        let fall = height-falls steps are v w first.0 second.0 wider first.1 second.1 in
        omega (arith, fall, first.2, second.2);
    wider = λ v w m wider inside first.
        let more = height-wider steps are v w first.0 wider first.1 in
        (more.0 - lines, (more.0, more.1, refl));
  }

  list-of : (page : ℕ) → All (λ step. step.width ≤ page) steps → AreStepsOf Less page list
  list-of page upto = AreStepsOf-from Less page list are-list (less-falls page) needed begun
    where
      needed : (step : Config) → Contains list step → (step.width ≤ page) × Less step.width step.height
      needed step has =
          let inside : has.0 < n = omega (arith, has.1, long) in
          let one = get_or steps has.0 no_step in
          let same : lower lines one ≡ step =
          sym (at has.0 inside) ∙ get_or_default list has.0 no_step step has.1 ∙ has.2 in
          let there : Contains steps one = (
            has.0,
            omega (arith, inside, within),
            get_or_default steps has.0 one no_step
                (omega (arith, inside, within)),
          ) in
          subst (λ (any : Config). (any.width ≤ page) × Less any.width any.height) same
          (upto has.0 no_step (omega (arith, inside, within)), (one.height, height-own steps are one there, refl))

      item : (k : ℕ) → k < n → Contains list (lower lines (get_or steps k no_step))
      item k inside =
          let here : k < length list = omega (arith, inside, long) in
          (k, here, get_or_default list k (lower lines (get_or steps k no_step)) no_step here ∙ at k inside)

      begun : (w h : ℕ) → w ≤ page → Less w h →
          (step : Config) × Contains list step × (step.width ≤ w) × (step.height ≡ h)
      begun w h narrow need =
          let found = step-at steps w need.0 need.1 in
          let k = found.1.0 in
          let same : get_or steps k no_step ≡ found.0 = get_or_default steps k no_step found.0 found.1.1 ∙ found.1.2 in
          let width = ap (λ (one : Config). one.width) same in
          let height = ap (λ (one : Config). one.height) same in
          elim (cases_lt k n) [
            | inl kept ↦ (
              lower lines (get_or steps k no_step),
              item k kept,
              omega (arith, width, found.2),
              omega (arith, height, found.3, need.2),
            )
            | inr left ↦
                let fall = are.decreasing (n - 1) k no_step (omega (arith, some, left)) found.1.1 in
                let none = low (omega (arith, left, found.1.1)) in (
                  lower lines (get_or steps (n - 1) no_step),
                  item (n - 1) (omega (arith, some)),
                  omega (arith, width, found.2, fall.0),
                  omega (arith, height, found.3, need.2, fall.1, none),
                )
          ]

  -- so they are the steps so many lines lower
  pub lowered-all : AreLowered lines steps list
  lowered-all = record {
    decreasing = are-list;
    within = λ page upto. (list-of page upto).within;
    heights = λ w.
        let bound = bounded-by steps in
        let page = max w bound.0 in
        let of = list-of page (All-from_recursion (λ (one : Config). one.width ≤ page) steps
        (AllByRecursion-weaker (λ (one : Config). one.width ≤ bound.0) (λ (one : Config). one.width ≤ page) steps
        (λ one is. omega (arith, is)) bound.1)) in
        same-option (height_at list w) (option_map (λ h. h - lines) (height_at steps w))
        (λ h is. let need = (of.each w h (omega arith)).0 is in ap (option_map (λ k. k - lines)) need.1 ∙ ap Some need.2)
        (λ h is. let high = lowered-from lines (height_at steps w) h is in (of.each w h (omega arith)).1 high);
  }

-- ---- one step after the other

-- a step that comes to no line is the last
pub lowered-end : (lines : ℕ) (steps items : List Config) → items ≡ steps → AreSteps steps → (i h : ℕ) (list more : List Config) →
    LoweredSoFar lines steps i list → i < length items → h ≡ (get_or items i no_step).height - lines → h ≡ 0 →
    more ≡ list ++ record { width = (get_or items i no_step).width; height = h } ∷ [] → AreLowered lines steps more
lowered-end lines steps items same are i h list more so_far inside lowered none push =
    lowered-all steps are lines (i + 1) more all (omega arith) (omega (arith, within))
    (λ k less. so_far.high k (omega (arith, less)))
    (λ short. omega (arith, none, lowered, at, ap (λ j. (get_or steps j no_step).height) here))
  where
    within : i < length steps
    within = subst (λ those. i < length those) same inside

    step : Config
    step = get_or items i no_step

    is : step ≡ get_or steps i step
    is = ap (λ those. get_or those i no_step) same ∙ get_or_default steps i no_step step within

    at : (get_or items i no_step).height ≡ (get_or steps i no_step).height
    at = ap (λ those. (get_or those i no_step).height) same

    here : i + 1 - 1 ≡ i
    here = omega arith

    one : record { width = step.width; height = h } ≡ lower lines step
    one = λ k. record { width = step.width; height = lowered k }

    all : more ≡ map (lower lines) (take (i + 1) steps)
    all =
        push ∙ ap (λ those. those ++ record { width = step.width; height = h } ∷ []) so_far.all
        ∙ ap (λ (any : Config). map (lower lines) (take i steps) ++ any ∷ []) one
        ∙ sym (map-append (lower lines) (take i steps) (step ∷ []))
        ∙ ap (map (lower lines)) (sym (taken_more steps i step step within is))

-- all steps have been looked at
pub lowered-whole : (lines : ℕ) (steps items : List Config) → items ≡ steps → AreSteps steps → (i : ℕ) (list : List Config) →
    LoweredSoFar lines steps i list → length items ≤ i → AreLowered lines steps list
lowered-whole lines steps items same are i list so_far end =
    let whole : length steps ≤ i = subst (λ those. length those ≤ i) same end in
    lowered-all steps are lines (length steps) list
    (so_far.all ∙ ap (map (lower lines)) (take_all i steps whole ∙ sym (take_all (length steps) steps (omega arith))))
    are.has_step (omega arith) (λ k less. so_far.high k (omega (arith, less, whole))) (λ less. absurd (omega (arith, less)))
