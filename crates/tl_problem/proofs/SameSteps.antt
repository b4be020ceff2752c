-- Two step functions have the same height at each width up to some one if they do at those at which their steps begin.
use Rattle.std.proofs.Common.{◌≡◌, ℕ, ◌<◌, ◌≤◌, zero, suc, nat_le, List, [], ◌∷◌, filter, ◌⊎◌, inl, inr, None, refl, sym}
use Rattle.std.proofs.Common.{ap, ◌∙◌, subst, arith}
use Rattle.std.specs.Option.{option_map}
use Rattle.std.specs.List.{All, Contains, last_or}
use Rattle.std.proofs.lemmas.Bool.{cases_lt, cases_eq}
use Rattle.std.proofs.lemmas.List.Elements.{All-nil, All-cons, All-contains}
use Rattle.tl_base.specs.declared.steps.Config.{Config}
use Rattle.tl_base.specs.Steps.{height_at}
use Rattle.tl_base.proofs.Members.{Contains-first, Contains-later}
use Rattle.tl_problem.proofs.Heights.{test_le_false, height-same}
use Rattle.tl_problem.specs.inner.Agreeing.{AreSameAt, AreSameUpTo}

-- no step begins at the width
abbrev NoneBegins : ℕ → List Config → Type 0
NoneBegins w steps = All (λ step. step.width ≡ w → ⊥) steps

-- a step begins at the width, or none does
begins : (w : ℕ) (steps : List Config) →
    ((step : Config) × Contains steps step × (step.width ≡ w)) ⊎ NoneBegins w steps
begins w [] = inr (All-nil (λ (step : Config). step.width ≡ w → ⊥))
begins w (step ∷ steps) =
    elim (cases_eq step.width w) [
      | inl same ↦ inl (step, Contains-first step steps, same)
      | inr other ↦ elim (begins w steps) [
        | inl found ↦ inl (found.0, Contains-later step steps found.0 found.1, found.2)
        | inr none ↦ inr (All-cons (λ (s : Config). s.width ≡ w → ⊥) step steps other none)
      ]
    ]

none-narrow : (steps : List Config) → NoneBegins 0 steps → filter (λ step. nat_le step.width 0) steps ≡ []
none-narrow [] none = refl
none-narrow (step ∷ steps) none =
    let wide : 0 < step.width = elim (cases_lt 0 step.width) [
      | inl more ↦ more
      | inr less ↦ absurd (none 0 step (omega arith) (omega (arith, less)))
    ] in
    let first = test_le_false step.width 0 wide in
    rw first (none-narrow steps (λ k d within. none (suc k) d (omega arith)))

-- where no step begins at 0 there is no height there
no_height : (steps : List Config) → NoneBegins 0 steps → height_at steps 0 ≡ None
no_height steps none = ap (λ (narrow : List Config). option_map (λ step. step.height) (last_or None narrow)) (none-narrow steps none)

-- where no step begins at a width the height is that of the width before
height-next : (steps : List Config) (w : ℕ) → NoneBegins (suc w) steps → height_at steps w ≡ height_at steps (suc w)
height-next steps w none = height-same steps w (suc w) (omega arith)
    (λ k d within less le. none k d within (omega (arith, less, le)))

module _ (low high : List Config) (most : ℕ) (at_low : All (AreSameAt low high most) low)
    (at_high : All (AreSameAt low high most) high) where
  told : (w : ℕ) → w ≤ most → (NoneBegins w low → NoneBegins w high → height_at low w ≡ height_at high w) →
      height_at low w ≡ height_at high w
  told w within none =
      elim (begins w low) [
        | inl found ↦ subst (λ v. height_at low v ≡ height_at high v) found.2
            (All-contains (AreSameAt low high most) low found.0 at_low found.1 (omega (arith, found.2, within)))
        | inr neither ↦ elim (begins w high) [
          | inl found ↦ subst (λ v. height_at low v ≡ height_at high v) found.2
              (All-contains (AreSameAt low high most) high found.0 at_high found.1 (omega (arith, found.2, within)))
          | inr also ↦ none neither also
        ]
      ]

  pub same-upto : AreSameUpTo low high most
  same-upto zero within = told zero within (λ none also. no_height low none ∙ sym (no_height high also))
  same-upto (suc w) within = told (suc w) within (λ none also.
      sym (height-next low w none) ∙ same-upto w (omega (arith, within)) ∙ height-next high w also)

-- and what is so at each width is so where a step begins
pub same-at : (low high steps : List Config) (most : ℕ) → AreSameUpTo low high most → All (AreSameAt low high most) steps
same-at low high steps most same = λ k d within. same _
