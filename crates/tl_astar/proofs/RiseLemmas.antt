-- The rises of a cell say how high it is at each room, found step by step.
use Rattle.std.proofs.Common.{◌≡◌, ℕ, ◌+◌, ◌-◌, ◌<◌, ◌≤◌, List, [], ◌∷◌, ◌++◌, inl, inr, length}
use Rattle.std.proofs.Common.{Some, None, sym, ap, ◌∙◌, subst, arith}
use Rattle.std.specs.List.{All}
use Rattle.std.specs.Option.{IsSomeAnd}
use Rattle.std.proofs.lemmas.Bool.{cases_lt}
use Rattle.std.proofs.lemmas.List.{append_assoc, append-nil}
use Rattle.std.proofs.lemmas.List.Elements.{All-push, Contains-append_left, Contains-push}
use Rattle.tl_base.specs.declared.steps.Config.{Config}
use Rattle.tl_base.specs.Steps.{AreSteps, height_at, IsLowAt}
use Rattle.tl_base.proofs.Decreasing.{no_step, height_at-step, height_at-below, first_width-is}
use Rattle.tl_problem.proofs.Heights.{IsLowAt-from, IsLowAt-wider, height-between, step_at}
use Rattle.tl_astar.specs.declared.rises.Rise.{Rise}
use Rattle.tl_astar.specs.inner.Rises.{IsRiseOf, IsNeeded, SayHeight, AddsRises}

-- the rises that the first steps make: none is invented, and at rooms below the last of them none is left out
pub record AddsUpto (steps : List Config) (upto strip least most lines : ℕ) (old new : List Rise) : Type 0 where
  pub more : List Rise
  pub after : new ≡ old ++ more
  pub each : All (IsRiseOf steps strip) more
  pub needed : All (IsNeeded least most lines) more
  pub whole : IsLowAt steps lines most → (room height : ℕ) → least ≤ room → room ≤ most →
      room < (step_at steps (upto - 1)).width → height_at steps room ≡ Some height → lines < height →
      SayHeight more room height

-- one rise more says no less
SayHeight-more : (rises : List Rise) (rise : Rise) (room height : ℕ) → SayHeight rises room height →
    SayHeight (rises ++ rise ∷ []) room height
SayHeight-more rises rise room height says =
    let has = Contains-append_left rises (rise ∷ []) says.1 (says.0, says.2, says.3) in
    (has.0, says.1, has.1, has.2, says.4)

-- and it says what it says itself
SayHeight-last : (rises : List Rise) (rise : Rise) (room height : ℕ) → room < rise.width → height ≤ rise.height →
    SayHeight (rises ++ rise ∷ []) room height
SayHeight-last rises rise room height wide high =
    let has = Contains-push rises rise in
    (has.0, rise, has.1, has.2, (wide, high))

module _ (steps : List Config) (are : AreSteps steps) where
  -- below the next step a cell is at least as high as at this one
  pub high-before : (k room height : ℕ) → k + 1 < length steps → room < (step_at steps (k + 1)).width →
      height_at steps room ≡ Some height → (step_at steps k).height ≤ height
  high-before k room height within below is = elim (cases_lt room (step_at steps k).width) [
    | inl earlier ↦
        let low = IsLowAt-wider steps are height room (step_at steps k).width (omega (arith, earlier))
        (IsLowAt-from steps height room is) in
        subst (λ o. IsSomeAnd o (λ h. h ≤ height)) (height_at-step steps are k (omega (arith, within))) low
    | inr later ↦
        let same = sym (height-between steps are k room (omega (arith, within)) later (λ _. below)) ∙ is in
        let equal : (step_at steps k).height ≡ height = cc in
        omega (arith, equal)
  ]

  module _ (strip least most lines : ℕ) (old new : List Rise) where
    -- before the second step there is no rise
    pub AddsUpto-none : (upto : ℕ) → upto ≤ 1 → AddsUpto steps upto strip least most lines old old
    AddsUpto-none upto first = record {
      more = [];
      after = sym (append-nil old);
      each = λ k d within. absurd (omega (arith, within));
      needed = λ k d within. absurd (omega (arith, within));
      whole = λ low room height from within below is above.
          let here : upto - 1 ≡ 0 = omega (arith, first) in
          let start = first_width-is steps no_step are.has_step in
          let none = height_at-below steps are room
          (omega (arith, below, start, ap (λ i. (step_at steps i).width) here)) in
          let absent : None ≡ Some height = sym none ∙ is in
          absurd (cc);
    }

    -- the height that a cell has past the last step that begins up to the greatest room is that at this room
    low-after : (k room height : ℕ) → k < length steps → IsLowAt steps lines most → (step_at steps k).width ≤ room →
        room ≤ most → (k + 1 < length steps → most < (step_at steps (k + 1)).width) →
        height_at steps room ≡ Some height → height ≤ lines
    low-after k room height within low from upto below is =
        let at_most = height-between steps are k most within (omega (arith, from, upto)) below in
        let at_room = height-between steps are k room within from (λ more. omega (arith, below more, upto)) in
        let same : height_at steps most ≡ Some height = at_most ∙ sym at_room ∙ is in
        subst (λ o. IsSomeAnd o (λ h. h ≤ lines)) same low

    module _ (number : ℕ) (some : 1 ≤ number) (within : number < length steps)
        (h : AddsUpto steps number strip least most lines old new) where
      prior : number - 1 + 1 ≡ number
      prior = omega (arith, some)

      last : number + 1 - 1 ≡ number
      last = omega arith

      -- between the step before and this one the height is that of the step before
      height-here : (room height : ℕ) → (step_at steps (number - 1)).width ≤ room →
          room < (step_at steps (number + 1 - 1)).width → height_at steps room ≡ Some height →
          (step_at steps (number - 1)).height ≡ height
      height-here room height from below is =
          let wide = subst (λ i. room < (step_at steps i).width) (last ∙ sym prior) below in
          let same = sym (height-between steps are (number - 1) room (omega (arith, within)) from (λ _. wide)) ∙ is in
          cc

      -- a step is passed over: it makes no rise between the rooms that is above the lines
      pub AddsUpto-skip : (least < (step_at steps number).width → (step_at steps number).width ≤ most →
          lines < (step_at steps (number - 1)).height → ⊥) → AddsUpto steps (number + 1) strip least most lines old new
      AddsUpto-skip out = record {
        more = h.more;
        after = h.after;
        each = h.each;
        needed = h.needed;
        whole = λ low room height from upto below is above.
            elim (cases_lt room (step_at steps (number - 1)).width) [
              | inl earlier ↦ h.whole low room height from upto earlier is above
              | inr here ↦
                  let same = height-here room height here below is in
                  let wide = subst (λ i. room < (step_at steps i).width) last below in
                  elim (cases_lt most (step_at steps number).width) [
                    | inr inside ↦ absurd (out (omega (arith, from, wide)) inside (omega (arith, above, same)))
                    | inl outside ↦
                        let few = low-after (number - 1) room height (omega (arith, within)) low here upto
                        (λ _. subst (λ i. most < (step_at steps i).width) (sym prior) outside) is in
                        absurd (omega (arith, few, above))
                  ]
            ];
      }

      -- the rise of a step is put at the end
      pub AddsUpto-push : (rise : Rise) → rise.width ≡ (step_at steps number).width → rise.strip ≡ strip →
          rise.height ≡ (step_at steps (number - 1)).height → least < rise.width → rise.width ≤ most → lines < rise.height →
          AddsUpto steps (number + 1) strip least most lines old (new ++ rise ∷ [])
      AddsUpto-push rise wide of_strip high past inside over = record {
        more = h.more ++ rise ∷ [];
        after = ap (λ all. all ++ rise ∷ []) h.after ∙ append_assoc old h.more (rise ∷ []);
        each = All-push (IsRiseOf steps strip) h.more rise h.each (record {
          of_strip = of_strip;
          high = λ room height below is.
              let wider = subst (λ i. room < (step_at steps i).width) (sym prior) (omega (arith, below, wide)) in
              let upper = high-before (number - 1) room height (omega (arith, within, prior)) wider is in
              omega (arith, upper, high);
        });
        needed = All-push (IsNeeded least most lines) h.more rise h.needed (record { past = past; within = inside; above = over });
        whole = λ low room height from upto below is above.
            elim (cases_lt room (step_at steps (number - 1)).width) [
              | inl earlier ↦ SayHeight-more h.more rise room height (h.whole low room height from upto earlier is above)
              | inr here ↦
                  let same = height-here room height here below is in
                  let wider = subst (λ i. room < (step_at steps i).width) last below in
                  SayHeight-last h.more rise room height (omega (arith, wider, wide)) (omega (arith, same, high))
            ];
      }

    -- all steps are seen
    pub AddsRises-from : (number : ℕ) → 1 ≤ number → length steps ≤ number → number ≤ length steps →
        AddsUpto steps number strip least most lines old new → AddsRises steps strip least most lines old new
    AddsRises-from number some all few h = record {
      more = h.more;
      after = h.after;
      each = h.each;
      needed = h.needed;
      whole = λ low room height from upto is above.
          elim (cases_lt room (step_at steps (number - 1)).width) [
            | inl earlier ↦ h.whole low room height from upto earlier is above
            | inr here ↦
                let few = low-after (number - 1) room height (omega (arith, some, few)) low here upto
                (λ more. absurd (omega (arith, more, all, some))) is in
                absurd (omega (arith, few, above))
          ];
    }
