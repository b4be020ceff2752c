-- Steps of what is needed: they are determined by it, and they come from lists of steps whose each step is needed.
use Rattle.std.proofs.Common.{◌≡◌, ℕ, zero, suc, ◌+◌, ◌<◌, ◌≤◌, ◌⊎◌, inl, inr, List, [], ◌∷◌, length, get_or, filter, nat_le}
use Rattle.std.proofs.Common.{Option, Some}
use Rattle.std.proofs.Common.{None, Contains, refl, sym, ap, subst, ◌∙◌, arith}
use Rattle.std.specs.List.{All, last_or}
use Rattle.std.specs.Option.{option_map}
use Rattle.std.proofs.lemmas.Bool.{cases_lt}
use Rattle.std.proofs.lemmas.List.{get_or_default}
use Rattle.std.proofs.lemmas.List.Elements.{All-contains}
use Rattle.tl_base.specs.declared.steps.Config.{Config}
use Rattle.tl_base.specs.Steps.{AreSteps, IsLowAt, both_heights, first_height, first_width, height_at, stacked_height}
use Rattle.tl_base.proofs.Decreasing.{Falls, no_step, height_at-step}
use Rattle.tl_base.proofs.Members.{Contains-first, Contains-later, All-from_Contains, same-ordered}
use Rattle.tl_problem.proofs.Heights.{test_le, test_le_false, IsLowAt-from, IsLowAt-wider, height-from_low, height-same}
use Rattle.tl_form.specs.Problems.{AreStepsOf}

-- ---- the step that a height is of

step_of : (o : Option Config) (steps : List Config) (w h : ℕ) →
    option_map (λ step. step.height) (last_or o (filter (λ step. nat_le step.width w) steps)) ≡ Some h →
    (option_map (λ step. step.height) o ≡ Some h) ⊎ ((step : Config) × Contains steps step × (step.width ≤ w) × (step.height ≡ h))
step_of o [] w h is = inl is
step_of o (step ∷ steps) w h is =
    elim (cases_lt w step.width) [
      | inl wide ↦
          let first = test_le_false step.width w wide in
          elim (step_of o steps w h (rw first at is)) [
            | inl before ↦ inl before
            | inr found ↦ inr (found.0, Contains-later step steps found.0 found.1, found.2, found.3)
          ]
      | inr narrow ↦
          let first = test_le step.width w narrow in
          elim (step_of (Some step) steps w h (rw first at is)) [
            | inl here ↦ inr (step, Contains-first step steps, narrow, cc)
            | inr found ↦ inr (found.0, Contains-later step steps found.0 found.1, found.2, found.3)
          ]
    ]

-- a height is that of a step which is narrow enough
pub step-at : (steps : List Config) (w h : ℕ) → height_at steps w ≡ Some h →
    (step : Config) × Contains steps step × (step.width ≤ w) × (step.height ≡ h)
step-at steps w h is = elim (step_of None steps w h is) [ inl none ↦ absurd cc | inr found ↦ found ]

module _ (steps : List Config) (are : AreSteps steps) where
  -- at its own width a step has its height
  pub height-own : (step : Config) → Contains steps step → height_at steps step.width ≡ Some step.height
  height-own step has =
      let at : get_or steps has.0 no_step ≡ step = get_or_default steps has.0 no_step step has.1 ∙ has.2 in
      subst (λ (one : Config). height_at steps one.width ≡ Some one.height) at (height_at-step steps are has.0 has.1)

  -- and from there on it is at most that
  pub low-from_step : (step : Config) (w : ℕ) → Contains steps step → step.width ≤ w → IsLowAt steps step.height w
  low-from_step step w has narrow =
      IsLowAt-wider steps are step.height step.width w narrow (IsLowAt-from steps step.height step.width (height-own step has))

  -- the wider of two steps is the lower
  pub wider-lower : (narrow wide : Config) → Contains steps narrow → Contains steps wide → narrow.width < wide.width →
      wide.height < narrow.height
  wider-lower narrow wide first second wider =
      let at_first : get_or steps first.0 no_step ≡ narrow = get_or_default steps first.0 no_step narrow first.1 ∙ first.2 in
      let at_second : get_or steps second.0 no_step ≡ wide = get_or_default steps second.0 no_step wide second.1 ∙ second.2 in
      let low = ap (λ (step : Config). step.width) at_first in
      let high = ap (λ (step : Config). step.width) at_second in
      elim (cases_lt first.0 second.0) [
        | inl before ↦
            let fall = are.decreasing first.0 second.0 no_step before second.1 in
            omega (arith, fall.1, ap (λ (step : Config). step.height) at_first, ap (λ (step : Config). step.height) at_second)
        | inr other ↦ elim (cases_lt second.0 first.0) [
          | inl after ↦ let fall = are.decreasing second.0 first.0 no_step after first.1 in
              absurd (omega (arith, fall.0, low, high, wider))
          | inr same ↦
              let end : first.0 ≡ second.0 = omega (arith, other, same) in
              absurd (omega (arith, ap (λ k. (get_or steps k no_step).width) end, low, high, wider))
        ]
      ]

  -- two steps of one width are one
  pub same-step : (one other : Config) → Contains steps one → Contains steps other → one.width ≡ other.width → one ≡ other
  same-step one other first second same =
      let heights : Some one.height ≡ Some other.height =
      sym (height-own one first) ∙ ap (λ w. height_at steps w) same ∙ height-own other second in
      let high : one.height ≡ other.height = cc in
      λ i. record { width = same i; height = high i }

  -- wider is no higher
  pub height-falls : (v w m n : ℕ) → v ≤ w → height_at steps v ≡ Some m → height_at steps w ≡ Some n → n ≤ m
  height-falls v w m n wider first second =
      let low = height-from_low steps m w (IsLowAt-wider steps are m v w wider (IsLowAt-from steps m v first)) in
      let same : Some n ≡ Some low.0 = sym second ∙ low.1 in
      let equal : n ≡ low.0 = cc in
      omega (arith, equal, low.2)

  -- where there is a height there is one at each greater width
  pub height-wider : (v w m : ℕ) → v ≤ w → height_at steps v ≡ Some m → (n : ℕ) × (height_at steps w ≡ Some n)
  height-wider v w m wider first =
      let low = height-from_low steps m w (IsLowAt-wider steps are m v w wider (IsLowAt-from steps m v first)) in
      (low.0, low.1)

  -- the height at a width stands from the width of its step on
  pub height-since : (step : Config) (v w : ℕ) → Contains steps step → step.width ≤ v → v ≤ w →
      height_at steps w ≡ Some step.height →
      height_at steps v ≡ Some step.height
  height-since step v w has narrow wider is =
      let low = height-from_low steps step.height v (low-from_step step v has narrow) in
      let more = height-falls v w low.0 step.height wider low.1 is in
      let same : low.0 ≡ step.height = omega (arith, more, low.2) in
      low.1 ∙ ap Some same

  -- there is no height below the first width, and one from there on
  pub first-least : (w h : ℕ) → height_at steps w ≡ Some h → first_width steps ≤ w
  first-least w h is =
      let at = step-at steps w h is in
      omega (arith, first-of at.0 at.1, at.2)
    where
      first-of : (step : Config) → Contains steps step → first_width steps ≤ step.width
      first-of step has = by_list steps are has
        where
          by_list : (all : List Config) → AreSteps all → Contains all step → first_width all ≤ step.width
          by_list [] none has = absurd (omega (arith, has.1))
          by_list (first ∷ rest) decreasing has = by_place has.0 has.1 has.2
            where
              by_place : (k : ℕ) → k < length (first ∷ rest) → get_or (first ∷ rest) k step ≡ step → first.width ≤ step.width
              by_place zero within is = omega (arith, ap (λ (one : Config). one.width) is)
              by_place (suc k) within is =
                  let fall = decreasing.decreasing 0 (suc k) step (omega arith) within in
                  omega (arith, fall.0, ap (λ (one : Config). one.width) is)

  pub height-first : height_at steps (first_width steps) ≡ Some (first_height steps)
  height-first = by_list steps are
    where
      by_list : (all : List Config) → AreSteps all → height_at all (first_width all) ≡ Some (first_height all)
      by_list [] none = absurd (omega (arith, none.has_step))
      by_list (first ∷ rest) decreasing = height_at-step (first ∷ rest) decreasing 0 (omega arith)

-- ---- they are determined

-- two values, none or some, that are the same number where either is one
pub same-option : (o p : Option ℕ) → ((n : ℕ) → o ≡ Some n → p ≡ Some n) → ((n : ℕ) → p ≡ Some n → o ≡ Some n) → o ≡ p
same-option None None there back = refl
same-option None (Some n) there back = back n refl
same-option (Some m) p there back = sym (there m refl)

-- a step up to the page is one of other steps that have the same heights up to it
pub step-there : (page : ℕ) (these those : List Config) → AreSteps these → AreSteps those →
    ((w : ℕ) → w ≤ page → height_at these w ≡ height_at those w) → (step : Config) → Contains these step → step.width ≤ page →
    Contains those step
step-there page these those are others same step has narrow =
    let there = step-at those step.width step.height (sym (same step.width narrow) ∙ height-own these are step has) in
    elim (cases_lt there.0.width step.width) [
      | inl before ↦
          let here = step-at these there.0.width there.0.height
          (same there.0.width (omega (arith, there.2, narrow)) ∙ height-own those others there.0 there.1) in
          let fall = wider-lower these are here.0 step here.1 has (omega (arith, here.2, before)) in
          absurd (omega (arith, fall, here.3, there.3))
      | inr at ↦
          let width : there.0.width ≡ step.width = omega (arith, at, there.2) in
          let height = there.3 in
          let equal : there.0 ≡ step = λ i. record { width = width i; height = height i } in
          subst (λ (one : Config). Contains those one) equal there.1
    ]

-- steps that none begin past the page, and have the same height at each width up to it, are the same
pub same-steps : (page : ℕ) (one other : List Config) → AreSteps one → AreSteps other → All (λ step. step.width ≤ page) one →
    All (λ step. step.width ≤ page) other → ((w : ℕ) → w ≤ page → height_at one w ≡ height_at other w) → one ≡ other
same-steps page one other first second within_one within_other same =
    same-ordered Falls (λ x y before after. omega (arith, before.0, after.0)) one other first.decreasing second.decreasing
    (λ step has. step-there page one other first second same step has
    (All-contains (λ (any : Config). any.width ≤ page) one step within_one has))
    (λ step has. step-there page other one second first (λ w within. sym (same w within)) step has
    (All-contains (λ (any : Config). any.width ≤ page) other step within_other has))

-- the steps of what is needed are determined
pub AreStepsOf-unique : (needs : ℕ → ℕ → Type 0) (page : ℕ) (one other : List Config) → AreStepsOf needs page one →
    AreStepsOf needs page other →
    one ≡ other
AreStepsOf-unique needs page one other first second =
    same-steps page one other first.decreasing second.decreasing first.within second.within
    (λ w within. same-option (height_at one w) (height_at other w)
    (λ n is. (second.each w n within).1 ((first.each w n within).0 is))
    (λ n is. (first.each w n within).1 ((second.each w n within).0 is)))

-- what is needed in other words has the same steps
pub AreStepsOf-same : (needs others : ℕ → ℕ → Type 0) (page : ℕ) (steps : List Config) →
    ((w h : ℕ) → w ≤ page → needs w h → others w h) →
    ((w h : ℕ) → w ≤ page → others w h → needs w h) → AreStepsOf needs page steps → AreStepsOf others page steps
AreStepsOf-same needs others page steps there back of = record {
  decreasing = of.decreasing;
  within = of.within;
  each = λ w h within. (
    λ is. there w h within ((of.each w h within).0 is),
    λ other. (of.each w h within).1 (back w h within other),
  );
}

-- ---- where they come from

-- what falls with the width, from some width on
pub record IsDecreasing (needs : ℕ → ℕ → Type 0) (page : ℕ) : Type 0 where
  pub falls : (v w m n : ℕ) → v ≤ w → w ≤ page → needs v m → needs w n → n ≤ m
  pub wider : (v w m : ℕ) → v ≤ w → w ≤ page → needs v m → (n : ℕ) × needs w n

-- steps are those of what is needed where each of them is needed, and each height that is needed begins with one of them
pub AreStepsOf-from : (needs : ℕ → ℕ → Type 0) (page : ℕ) (steps : List Config) → AreSteps steps → IsDecreasing needs page →
    ((step : Config) → Contains steps step → (step.width ≤ page) × needs step.width step.height) →
    ((w n : ℕ) → w ≤ page → needs w n → (step : Config) × Contains steps step × (step.width ≤ w) × (step.height ≡ n)) →
    AreStepsOf needs page steps
AreStepsOf-from needs page steps are decreasing needed begun = record {
  decreasing = are;
  within = All-from_Contains (λ step. step.width ≤ page) steps (λ step has. (needed step has).0);
  each = λ w h within. (there w h within, back w h within);
} where
  there : (w h : ℕ) → w ≤ page → height_at steps w ≡ Some h → needs w h
  there w h within is =
      let at = step-at steps w h is in
      let own = (needed at.0 at.1).1 in
      let more = decreasing.wider at.0.width w at.0.height at.2 within own in
      let less = begun w more.0 within more.1 in
      let low = height-from_low steps less.0.height w (low-from_step steps are less.0 w less.1 less.2) in
      let same : Some h ≡ Some low.0 = sym is ∙ low.1 in
      let equal : h ≡ low.0 = cc in
      let fall = decreasing.falls at.0.width w at.0.height more.0 at.2 within own more.1 in
      subst (λ n. needs w n) (let n : more.0 ≡ h = omega (arith, fall, at.3, equal, low.2, less.3) in n) more.1

  back : (w h : ℕ) → w ≤ page → needs w h → height_at steps w ≡ Some h
  back w h within need =
      let less = begun w h within need in
      let low = height-from_low steps less.0.height w (low-from_step steps are less.0 w less.1 less.2) in
      let at = step-at steps w low.0 low.1 in
      let own = (needed at.0 at.1).1 in
      let fall = decreasing.falls at.0.width w at.0.height h at.2 within own need in
      let same : low.0 ≡ h = omega (arith, low.2, less.3, at.3, fall) in
      low.1 ∙ ap Some same

-- what they are of falls with the width
pub AreStepsOf-falls : (needs : ℕ → ℕ → Type 0) (page : ℕ) (steps : List Config) → AreStepsOf needs page steps →
    IsDecreasing needs page
AreStepsOf-falls needs page steps of = record {
  falls = λ v w m n wider within first second. height-falls steps of.decreasing v w m n wider
      ((of.each v m (omega arith)).1 first)
      ((of.each w n within).1 second);
  wider = λ v w m wider within first.
      let more = height-wider steps of.decreasing v w m wider ((of.each v m (omega arith)).1 first) in
      (more.0, (of.each w more.0 within).0 more.1);
}

-- ---- two things one above the other

pub both-some : (o p : Option ℕ) (h : ℕ) → both_heights o p ≡ Some h → (m n : ℕ) × (o ≡ Some m) × (p ≡ Some n) × (m + n ≡ h)
both-some None p h is = absurd cc
both-some (Some m) None h is = absurd cc
both-some (Some m) (Some n) h is = (m, n, refl, refl, cc)

-- past the page nothing changes
pub height-past : (page : ℕ) (steps : List Config) → All (λ step. step.width ≤ page) steps → (w : ℕ) → page ≤ w →
    height_at steps page ≡ height_at steps w
height-past page steps within w past = height-same steps page w past
    (λ k d inside wide upto. omega (arith, within k d inside, wide))

-- the needs of both
abbrev pub BothNeed : (ℕ → ℕ → Type 0) → (ℕ → ℕ → Type 0) → ℕ → ℕ → Type 0
BothNeed first second w h = (m n : ℕ) × first w m × second w n × (m + n ≡ h)

pub AreStepsOf-stacked : (first second : ℕ → ℕ → Type 0) (page : ℕ) (a b steps : List Config) → AreStepsOf first page a →
    AreStepsOf second page b →
    AreSteps steps → ((w : ℕ) → height_at steps w ≡ stacked_height a b w) → AreStepsOf (BothNeed first second) page steps
AreStepsOf-stacked first second page a b steps of_a of_b are heights = record {
  decreasing = are;
  within = All-from_Contains (λ step. step.width ≤ page) steps within;
  each = λ w h narrow. (there w h narrow, back w h narrow);
} where
  within : (step : Config) → Contains steps step → step.width ≤ page
  within step has =
      elim (cases_lt page step.width) [
        | inr narrow ↦ narrow
        | inl wide ↦
            let past : height_at steps page ≡ height_at steps step.width =
            heights page ∙ ap (λ o. both_heights o (height_at b page)) (height-past page a of_a.within step.width (omega arith))
            ∙ ap (λ o. both_heights (height_at a step.width) o) (height-past page b of_b.within step.width (omega arith)) ∙ sym
            (heights step.width) in
            let at = step-at steps page step.height (past ∙ height-own steps are step has) in
            let fall = wider-lower steps are at.0 step at.1 has (omega (arith, at.2, wide)) in
            absurd (omega (arith, fall, at.3))
      ]

  there : (w h : ℕ) → w ≤ page → height_at steps w ≡ Some h → BothNeed first second w h
  there w h narrow is =
      let both = both-some (height_at a w) (height_at b w) h (sym (heights w) ∙ is) in
      (both.0, both.1, (of_a.each w both.0 narrow).0 both.2, (of_b.each w both.1 narrow).0 both.3, both.4)

  back : (w h : ℕ) → w ≤ page → BothNeed first second w h → height_at steps w ≡ Some h
  back w h narrow need =
      heights w ∙ ap (λ o. both_heights o (height_at b w)) ((of_a.each w need.0 narrow).1 need.2)
      ∙ ap (λ o. both_heights (Some need.0) o) ((of_b.each w need.1 narrow).1 need.3) ∙ ap Some need.4
