-- Two things one above the other, width by width: where their height begins, and that it falls.
use Rattle.std.proofs.Common.{◌≡◌, ℕ, suc, ◌+◌, ◌-◌, ◌<◌, ◌≤◌, max, List, [], ◌∷◌, ◌++◌, Some, inl, inr, sym, ap, subst, ◌∙◌, arith}
use Rattle.std.specs.List.{All}
use Rattle.std.proofs.lemmas.Bool.{cases_lt}
use Rattle.tl_base.specs.declared.steps.Config.{Config}
use Rattle.tl_base.specs.Steps.{AreSteps, both_heights, first_height, first_width, height_at, stacked_height}
use Rattle.tl_problem.proofs.Heights.{height-from_first}
use Rattle.tl_form.specs.Problems.{AreStepsOf}
use Rattle.tl_form.specs.inner.CellSteps.{IsStart}
use Rattle.tl_form.proofs.NeedSteps.{both-some, first-least, height-falls, height-first, height-past, same-option}
use Rattle.tl_form.proofs.StepsExist.{first-steps, next-flat, next-lower}

-- their height at a width
abbrev pub Both : List Config → List Config → ℕ → ℕ → Type 0
Both a b w h = stacked_height a b w ≡ Some h

module _ (a b : List Config) (are_a : AreSteps a) (are_b : AreSteps b) where
  pub tall-begins : IsStart (Both a b) (max (first_width a) (first_width b))
  tall-begins = record {
    from = λ w h is.
        let both = both-some (height_at a w) (height_at b w) h is in
        omega (arith, first-least a are_a w both.0 both.2, first-least b are_b w both.1 both.3);
    has = λ w wide.
        let above = height-from_first a are_a.has_step w (omega (arith, wide)) in
        let below = height-from_first b are_b.has_step w (omega (arith, wide)) in (
          above.0 + below.0,
          ap (λ o. both_heights o (height_at b w)) above.1 ∙ ap (both_heights (Some above.0)) below.1,
        );
  }

  pub tall-falls : (v w m n : ℕ) → v ≤ w → Both a b v m → Both a b w n → n ≤ m
  tall-falls v w m n wider first second =
      let high = both-some (height_at a v) (height_at b v) m first in
      let low = both-some (height_at a w) (height_at b w) n second in
      let above = height-falls a are_a v w high.0 low.0 wider high.2 low.2 in
      let below = height-falls b are_b v w high.1 low.1 wider high.3 low.3 in
      omega (arith, above, below, high.4, low.4)

  -- at one width each is at most its first height
  pub tall-parts : (w m n : ℕ) → height_at a w ≡ Some m → height_at b w ≡ Some n → m + n ≤ first_height a + first_height b
  tall-parts w m n above below =
      let one = height-falls a are_a (first_width a) w (first_height a) m (first-least a are_a w m above)
      (height-first a are_a) above in
      let other = height-falls b are_b (first_width b) w (first_height b) n (first-least b are_b w n below)
      (height-first b are_b) below in
      omega (arith, one, other)

  -- past the page, where neither has a step, nothing changes
  pub tall-everywhere : (page : ℕ) (steps : List Config) → All (λ step. step.width ≤ page) a → All (λ step. step.width ≤ page) b →
      AreStepsOf (Both a b) page steps → (w : ℕ) → height_at steps w ≡ stacked_height a b w
  tall-everywhere page steps upto_a upto_b of w =
      elim (cases_lt page w) [
        | inr within ↦ at w within
        | inl past ↦
            sym (height-past page steps of.within w (omega (arith, past))) ∙ at page (omega arith)
            ∙ ap (λ o. both_heights o (height_at b page)) (height-past page a upto_a w (omega (arith, past)))
            ∙ ap (both_heights (height_at a w)) (height-past page b upto_b w (omega (arith, past)))
      ]
    where
      at : (v : ℕ) → v ≤ page → height_at steps v ≡ stacked_height a b v
      at v within = same-option (height_at steps v) (stacked_height a b v) (λ n is. (of.each v n within).0 is)
          (λ n is. (of.each v n within).1 is)

-- ---- width by width

-- the steps found below a width, and the lowest height so far
pub record TallSoFar (a b list : List Config) (lowest width : ℕ) : Type 0 where
  pub past : max (first_width a) (first_width b) < width
  pub steps : AreStepsOf (Both a b) (width - 1) list
  pub last : stacked_height a b (width - 1) ≡ Some lowest

module _ (a b : List Config) (are_a : AreSteps a) (are_b : AreSteps b) where
  pub tall-first : (start h : ℕ) (list : List Config) → start ≡ max (first_width a) (first_width b) →
      stacked_height a b start ≡ Some h → list ≡ [] ++ record { width = start; height = h } ∷ [] → TallSoFar a b list h (start + 1)
  tall-first start h list is at push =
      subst (λ steps. TallSoFar a b steps h (start + 1)) (sym push) (record {
        past = omega (arith, is);
        steps = subst (λ w. AreStepsOf (Both a b) w (record { width = start; height = h } ∷ [])) before
            (first-steps (Both a b) start
            (subst (IsStart (Both a b)) (sym is) (tall-begins a b are_a are_b)) (tall-falls a b are_a are_b) h at);
        last = subst (λ w. stacked_height a b w ≡ Some h) before at;
      })
    where
      before : start ≡ start + 1 - 1
      before = omega arith

  module _ (list : List Config) (lowest width h : ℕ) (so_far : TallSoFar a b list lowest width)
      (at : stacked_height a b width ≡ Some h) where
    next : suc (width - 1) ≡ width
    next = omega (arith, so_far.past)

    same : suc (width - 1) ≡ width + 1 - 1
    same = omega (arith, so_far.past)

    here : stacked_height a b (suc (width - 1)) ≡ Some h
    here = subst (λ w. stacked_height a b w ≡ Some h) (sym next) at

    begins : IsStart (Both a b) (max (first_width a) (first_width b))
    begins = tall-begins a b are_a are_b

    pub tall-lower : (more : List Config) → h < lowest → more ≡ list ++ record { width = width; height = h } ∷ [] →
        TallSoFar a b more h (width + 1)
    tall-lower more lower push =
        subst (λ steps. TallSoFar a b steps h (width + 1)) (sym push) (record {
          past = omega (arith, so_far.past);
          steps = subst (λ w. AreStepsOf (Both a b) w (list ++ record { width = width; height = h } ∷ [])) same
              (subst (λ w. AreStepsOf (Both a b) (suc (width - 1)) (list ++ record { width = w; height = h } ∷ [])) next
              (next-lower (Both a b) (max (first_width a) (first_width b)) begins (tall-falls a b are_a are_b)
              (width - 1) lowest h so_far.last here list so_far.steps lower));
          last = subst (λ w. stacked_height a b w ≡ Some h) same here;
        })

    pub tall-flat : lowest ≤ h → TallSoFar a b list lowest (width + 1)
    tall-flat flat = record {
      past = omega (arith, so_far.past);
      steps = subst (λ w. AreStepsOf (Both a b) w list) same
          (next-flat (Both a b) (max (first_width a) (first_width b)) begins (tall-falls a b are_a are_b)
          (width - 1) lowest h so_far.last here list so_far.steps flat);
      last =
          let fall = tall-falls a b are_a are_b (width - 1) (suc (width - 1)) lowest h (omega arith) so_far.last here in
          let equal : h ≡ lowest = omega (arith, flat, fall) in
          subst (λ w. stacked_height a b w ≡ Some lowest) same (here ∙ ap Some equal);
    }

  pub tall-all : (list : List Config) (lowest width page : ℕ) → TallSoFar a b list lowest width → width ≡ page + 1 →
      AreStepsOf (Both a b) page list
  tall-all list lowest width page so_far end =
      let last : width - 1 ≡ page = omega (arith, end) in
      subst (λ w. AreStepsOf (Both a b) w list) last so_far.steps
