-- The least area of a cell is at its least room, or where a step begins.
use Rattle.std.proofs.Common.{◌≡◌, ℕ, ◌+◌, ◌<◌, ◌≤◌, zero, suc, min, Bool, true, false, cond, nat_le, List, [], ◌∷◌, ◌⊎◌, inl}
use Rattle.std.proofs.Common.{inr, length, get_or}
use Rattle.std.proofs.Common.{filter, Option, Some, None, refl, sym, ap, ◌∙◌, arith}
use Rattle.std.specs.List.{AllPairs, last_or}
use Rattle.std.specs.Option.{option_map}
use Rattle.std.proofs.lemmas.Bool.{cases_eq, cases_lt}
use Rattle.std.proofs.Math.Nat.{mul-le-mul}
use Rattle.tl_base.specs.declared.steps.Config.{Config}
use Rattle.tl_base.specs.Steps.{AreSteps, height_at}
use Rattle.tl_base.proofs.Decreasing.{Falls, le_test}
use Rattle.tl_base.proofs.Members.{AllPairs-tail}
use Rattle.tl_problem.specs.inner.Least.{step_at, area_with, IsLeastStep}
use Rattle.tl_problem.proofs.NeedLemmas.{filter-none}
use Rattle.tl_problem.proofs.Heights.{test_le, test_le_false}

-- steps wider than a width are none that begin up to it
wider-none : (w : ℕ) (step : Config) (steps : List Config) → AllPairs Falls (step ∷ steps) → w ≤ step.width →
    filter (λ s. nat_le s.width w) steps ≡ []
wider-none w step steps decreasing wide = filter-none (λ s. nat_le s.width w) steps
    (λ k d within. let more = decreasing 0 (suc k) d (omega arith) (omega arith) in
    test_le_false (get_or steps k d).width w (omega (arith, more.0)))

-- the last of those that pass is the first or one of them
last-from : (p : Config → Bool) (x : Config) (steps : List Config) (s : Config) → last_or (Some x) (filter p steps) ≡ Some s →
    (x ≡ s) ⊎ ((k : ℕ) × ((k < length steps) × ((step_at steps k ≡ s) × (p s ≡ true))))
last-from p x [] s is = let e : x ≡ s = cc in inl e
last-from p x (step ∷ steps) s is =
    (elim (p step) as (λ b. p step ≡ b → last_or (Some x) (cond b (step ∷ filter p steps) (filter p steps)) ≡ Some s →
    (x ≡ s) ⊎ ((k : ℕ) × ((k < length (step ∷ steps)) × ((step_at (step ∷ steps) k ≡ s) × (p s ≡ true))))) [
      | true ↦ λ passes here. elim (last-from p step steps s here) [
        | inl same ↦ inr (0, (omega arith, (same, ap p (sym same) ∙ passes)))
        | inr later ↦ inr (suc later.0, (omega (arith, later.1.0), later.1.1))
      ]
      | false ↦ λ passes here. elim (last-from p x steps s here) [
        | inl same ↦ inl same
        | inr later ↦ inr (suc later.0, (omega (arith, later.1.0), later.1.1))
      ]
    ]) refl is

-- where a step begins, its height is the height
at-step : (o : Option Config) (steps : List Config) → AllPairs Falls steps → (k : ℕ) → k < length steps →
    last_or o (filter (λ s. nat_le s.width (step_at steps k).width) steps) ≡ Some (step_at steps k)
at-step o [] decreasing k within = absurd (omega arith)
at-step o (step ∷ steps) decreasing zero within =
    let keep = test_le step.width step.width (omega arith) in
    rw (keep, wider-none step.width step steps decreasing (omega arith)) refl
at-step o (step ∷ steps) decreasing (suc k) within =
    let wide = decreasing 0 (suc k) (record { width = 0; height = 0 }) (omega arith) within in
    let keep = test_le step.width (step_at steps k).width (omega (arith, wide.0)) in
    rw keep (at-step (Some step) steps (AllPairs-tail Falls step steps decreasing) k (omega arith))

pub height-at-step : (steps : List Config) → AreSteps steps → (k : ℕ) → k < length steps →
    height_at steps (step_at steps k).width ≡ Some (step_at steps k).height
height-at-step steps are k within = ap (option_map (λ s. s.height)) (at-step None steps are.decreasing k within)

-- what is so of a step is so with one step before it
shift : (o : Option Config) (step : Config) (steps : List Config) (low w : ℕ) (s : Config) →
    (last_or o (filter (λ x. nat_le x.width low) steps) ≡ Some s) ⊎
    ((k : ℕ) × ((k < length steps) × ((step_at steps k ≡ s) × ((low < s.width) × (s.width ≤ w))))) →
    (last_or o (filter (λ x. nat_le x.width low) steps) ≡ Some s) ⊎
    ((k : ℕ) × ((k < length (step ∷ steps)) × ((step_at (step ∷ steps) k ≡ s) × ((low < s.width) × (s.width ≤ w)))))
shift o step steps low w s (inl same) = inl same
shift o step steps low w s (inr later) = inr (suc later.0, (omega (arith, later.1.0), later.1.1))

-- a height past a width is that at the width, or that of a step between
between : (o : Option Config) (steps : List Config) → AllPairs Falls steps → (low w : ℕ) → low ≤ w → (s : Config) →
    last_or o (filter (λ x. nat_le x.width w) steps) ≡ Some s →
    (last_or o (filter (λ x. nat_le x.width low) steps) ≡ Some s) ⊎
    ((k : ℕ) × ((k < length steps) × ((step_at steps k ≡ s) × ((low < s.width) × (s.width ≤ w)))))
between o [] decreasing low w more s is = inl is
between o (step ∷ steps) decreasing low w more s is =
    elim (cases_lt low step.width) [
      | inr early ↦
          let one = test_le step.width low early in
          let other = test_le step.width w (omega arith) in
          rw one (shift (Some step) step steps low w s (between (Some step) steps (AllPairs-tail Falls step steps decreasing) low w more s
          (rw other at is)))
      | inl late ↦
          let out = test_le_false step.width low late in
          let rest = wider-none low step steps decreasing (omega arith) in
          elim (cases_lt w step.width) [
            | inl past ↦
                let also = test_le_false step.width w past in
                rw out (shift o step steps low w s (between o steps (AllPairs-tail Falls step steps decreasing) low w more s (rw also at is)))
            | inr within ↦
                let keep = test_le step.width w within in
                elim (last-from (λ x. nat_le x.width w) step steps s (rw keep at is)) [
                  | inl same ↦ inr (
                    0,
                    (
                      omega arith,
                      (
                        same,
                        (
                          omega (arith, ap (λ x. x.width) same),
                          omega (arith, ap (λ x. x.width) same),
                        ),
                      ),
                    ),
                  )
                  | inr later ↦
                      let wide = decreasing 0 (suc later.0) (record { width = 0; height = 0 }) (omega arith)
                      (omega (arith, later.1.0)) in
                      inr (
                        suc later.0,
                        (
                          omega (arith, later.1.0),
                          (later.1.1.0, (omega (arith, wide.0, ap (λ x. x.width) later.1.1.0), le_test later.1.1.1)),
                        ),
                      )
                ]
          ]
    ]

pub height-between : (steps : List Config) → AreSteps steps → (low w h : ℕ) → low ≤ w → height_at steps w ≡ Some h →
    (height_at steps low ≡ Some h) ⊎
    ((k : ℕ) × ((k < length steps) × ((low < (step_at steps k).width) ×
    (((step_at steps k).width ≤ w) × ((step_at steps k).height ≡ h)))))
height-between steps are low w h more is = at (last_or None (filter (λ x. nat_le x.width w) steps)) refl is where
  at : (o : Option Config) → last_or None (filter (λ x. nat_le x.width w) steps) ≡ o → option_map (λ x. x.height) o ≡ Some h →
      (height_at steps low ≡ Some h) ⊎
      ((k : ℕ) × ((k < length steps) × ((low < (step_at steps k).width) ×
      (((step_at steps k).width ≤ w) × ((step_at steps k).height ≡ h)))))
  at None same none = cc
  at (Some s) same some =
      let e : s.height ≡ h = cc in
      elim (between None steps are.decreasing low w more s same) [
        | inl here ↦ inl (ap (option_map (λ x. x.height)) here ∙ ap Some e)
        | inr later ↦
            let width = ap (λ x. x.width) later.1.1.0 in
            inr (
              later.0,
              (
                later.1.0,
                (
                  omega (arith, width, later.1.1.1.0),
                  (omega (arith, width, later.1.1.1.1), ap (λ x. x.height) later.1.1.0 ∙ e),
                ),
              ),
            )
      ]

-- ---- the least over the steps, one after another

module _ (gap row_gap : ℕ) (steps : List Config) (low high start : ℕ) where
  pub IsLeastStep-none : IsLeastStep gap row_gap steps 0 low high start start
  IsLeastStep-none = record { below_start = omega arith; below_steps = λ k below. absurd (omega arith); attained = inl refl }

  module _ (upto least : ℕ) (h : IsLeastStep gap row_gap steps upto low high start least) where
    abbrev here : Config
    here = step_at steps upto

    pub IsLeastStep-skip : (low < here.width → here.width ≤ high → ⊥) →
        IsLeastStep gap row_gap steps (upto + 1) low high start least
    IsLeastStep-skip out = record {
      below_start = h.below_start;
      below_steps = λ k below past within. elim (cases_eq k upto) [
        | inl same ↦ absurd (out (rw same at past) (rw same at within))
        | inr apart ↦ h.below_steps k (omega arith) past within
      ];
      attained = elim h.attained [
        | inl first ↦ inl first
        | inr later ↦ inr (later.0, (omega (arith, later.1.0), later.1.1))
      ];
    }

    pub IsLeastStep-more : low < here.width → here.width ≤ high →
        IsLeastStep gap row_gap steps (upto + 1) low high start (min least (area_with gap row_gap here.width here.height))
    IsLeastStep-more past within = record {
      below_start = omega (arith, h.below_start);
      below_steps = λ k below later inside. elim (cases_eq k upto) [
        | inl same ↦ rw same (omega arith)
        | inr apart ↦ omega (arith, h.below_steps k (omega arith) later inside)
      ];
      attained = elim (cases_lt least (area_with gap row_gap here.width here.height)) [
        | inl old ↦ elim h.attained [
          | inl first ↦ inl (omega (arith, first))
          | inr later ↦ inr (later.0, (omega (arith, later.1.0), (later.1.1.0, (later.1.1.1.0, omega (arith, later.1.1.1.1)))))
        ]
        | inr new ↦ inr (upto, (omega arith, (past, (within, omega (arith, new)))))
      ];
    }

-- ---- the least area of a cell between two rooms

area-mono : (gap row_gap v w h : ℕ) → v ≤ w → area_with gap row_gap v h ≤ area_with gap row_gap w h
area-mono gap row_gap v w h le = mul-le-mul (wider v w gap le) (same (h + row_gap)) where
  wider : (v w gap : ℕ) → v ≤ w → v + gap ≤ w + gap
  wider v w gap le = omega arith

  same : (n : ℕ) → n ≤ n
  same n = omega arith

module _ (gap row_gap : ℕ) (steps : List Config) (are : AreSteps steps) (low high first least : ℕ)
    (is : height_at steps low ≡ Some first)
    (h : IsLeastStep gap row_gap steps (length steps) low high (area_with gap row_gap low first) least) where
  pub least-below : (w k : ℕ) → low ≤ w → w ≤ high → height_at steps w ≡ Some k → least ≤ area_with gap row_gap w k
  least-below w k more within here =
      elim (height-between steps are low w k more here) [
        | inl same ↦
            let both : Some first ≡ Some k = sym is ∙ same in
            let e : first ≡ k = cc in
            let wide = area-mono gap row_gap low w k more in
            omega (arith, h.below_start, wide, ap (area_with gap row_gap low) e)
        | inr later ↦
            let step = step_at steps later.0 in
            let small = h.below_steps later.0 later.1.0 later.1.1.0 (omega (arith, later.1.1.1.0, within)) in
            let wide = area-mono gap row_gap step.width w k later.1.1.1.0 in
            omega (arith, small, wide, ap (area_with gap row_gap step.width) later.1.1.1.1)
      ]

  pub least-attained : low ≤ high →
      (w : ℕ) × ((k : ℕ) × ((low ≤ w) × ((w ≤ high) × ((height_at steps w ≡ Some k) × (area_with gap row_gap w k ≡ least)))))
  least-attained more =
      elim h.attained [
        | inl start ↦ (low, (first, (omega arith, (more, (is, sym start)))))
        | inr later ↦
            let step = step_at steps later.0 in (
              step.width,
              (
                step.height,
                (
                  omega (arith, later.1.1.0),
                  (later.1.1.1.0, (height-at-step steps are later.0 later.1.0, sym later.1.1.1.1)),
                ),
              ),
            )
      ]
