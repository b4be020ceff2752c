-- Steps from one width on and up to another: those between, after one for the height at the first width.
use Rattle.std.proofs.Common.{◌≡◌, ℕ, ◌+◌, ◌<◌, ◌≤◌, ◌⊎◌, inl, inr, List, [], ◌∷◌, ◌++◌, length, get_or, Some, Contains, sym, ap}
use Rattle.std.proofs.Common.{subst, ◌∙◌, arith}
use Rattle.std.proofs.lemmas.Bool.{cases_lt}
use Rattle.std.proofs.lemmas.List.{get_or_default, length_push}
use Rattle.std.proofs.lemmas.List.Elements.{Contains-push, Contains-push_cases, Contains-append_left}
use Rattle.tl_base.specs.declared.steps.Config.{Config}
use Rattle.tl_base.specs.Steps.{AreSteps, height_at}
use Rattle.tl_base.proofs.Decreasing.{Falls, no_step}
use Rattle.tl_base.proofs.Members.{AllPairs-append, AllPairs-cons, AllPairs-none, Contains-none}
use Rattle.tl_form.specs.Problems.{AreStepsOf}
use Rattle.tl_form.specs.inner.CellSteps.{From}
use Rattle.tl_form.proofs.NeedSteps.{AreStepsOf-from, height-falls, height-own, height-since, height-wider, step-at, wider-lower}

-- the list has the height at `from`, and those of the first `i` steps that begin after it and up to the page
pub record BetweenSoFar (steps : List Config) (from page i : ℕ) (list : List Config) : Type 0 where
  pub are : AreSteps list
  pub kept : (step : Config) → Contains list step → (from ≤ step.width) × (step.width ≤ page) ×
      (height_at steps step.width ≡ Some step.height)
  pub before : (step : Config) → Contains list step → (step.width ≤ from) ⊎
      ((k : ℕ) × (k < i) × (k < length steps) × (get_or steps k no_step ≡ step))
  pub every : (k : ℕ) → k < i → k < length steps → from < (get_or steps k no_step).width → (get_or steps k no_step).width ≤ page →
      Contains list (get_or steps k no_step)
  pub first : (h : ℕ) → height_at steps from ≡ Some h → Contains list (record { width = from; height = h })

-- steps of one
pub are-one : (step : Config) → AreSteps (step ∷ [])
are-one step = record { has_step = omega arith; decreasing = λ i j d before within. absurd (omega arith) }

pub between-first : (steps : List Config) (from page h : ℕ) (list : List Config) → from ≤ page → height_at steps from ≡ Some h →
    list ≡ record { width = from; height = h } ∷ [] → BetweenSoFar steps from page 0 list
between-first steps from page h list within at is =
    subst (BetweenSoFar steps from page 0) (sym is) (record {
      are = are-one one;
      kept = λ step has. elim (Contains-push_cases [] one step has) [
        | inl none ↦ absurd (Contains-none step none)
        | inr same ↦
            subst (λ (any : Config). (from ≤ any.width) × (any.width ≤ page) × (height_at steps any.width ≡ Some any.height)) same
            (omega arith, within, at)
      ];
      before = λ step has. elim (Contains-push_cases [] one step has) [
        | inl none ↦ absurd (Contains-none step none)
        | inr same ↦ inl (omega (arith, ap (λ (any : Config). any.width) same))
      ];
      every = λ k less inside wide narrow. absurd (omega (arith, less));
      first = λ other also.
          let equal : Some h ≡ Some other = sym at ∙ also in
          let height : h ≡ other = cc in
          subst (λ n. Contains (one ∷ []) (record { width = from; height = n })) height (Contains-push [] one);
    })
  where
    one : Config
    one = record { width = from; height = h }

module _ (steps : List Config) (are : AreSteps steps) (from page : ℕ) where
  -- the next step is between
  pub between-kept : (i : ℕ) (list more : List Config) (step : Config) → BetweenSoFar steps from page i list → i < length steps →
      step ≡ get_or steps i step → from < step.width → step.width ≤ page → more ≡ list ++ step ∷ [] →
      BetweenSoFar steps from page (i + 1) more
  between-kept i list more step so_far inside is wide narrow push =
      subst (BetweenSoFar steps from page (i + 1)) (sym push) (record {
        are = record {
          has_step = omega (arith, length_push list step);
          decreasing = AllPairs-append Falls list (step ∷ []) so_far.are.decreasing
              (AllPairs-cons Falls step [] (λ k d none. absurd (omega (arith, none))) (AllPairs-none Falls))
              (λ one other first second. elim (Contains-push_cases [] step other second) [
                | inl none ↦ absurd (Contains-none other none)
                | inr same ↦ subst (λ (any : Config). Falls one any) same (falls-to one first)
              ]);
        };
        kept = λ one has. elim (Contains-push_cases list step one has) [
          | inl old ↦ so_far.kept one old
          | inr same ↦
              subst (λ (any : Config). (from ≤ any.width) × (any.width ≤ page) × (height_at steps any.width ≡ Some any.height))
              same
              (omega (arith, wide), narrow, height-own steps are step there)
        ];
        before = λ one has. elim (Contains-push_cases list step one has) [
          | inl old ↦ elim (so_far.before one old) [
            | inl at ↦ inl at
            | inr earlier ↦ inr (earlier.0, omega (arith, earlier.1), earlier.2, earlier.3)
          ]
          | inr same ↦ inr (i, omega arith, inside, at_index ∙ same)
        ];
        every = λ k less within after upto. elim (cases_lt k i) [
          | inl old ↦ Contains-append_left list (step ∷ []) (get_or steps k no_step) (so_far.every k old within after upto)
          | inr new ↦
              let here : i ≡ k = omega (arith, less, new) in
              let same : step ≡ get_or steps k no_step = sym at_index ∙ ap (λ n. get_or steps n no_step) here in
              subst (λ (any : Config). Contains (list ++ step ∷ []) any) same (Contains-push list step)
        ];
        first = λ h at. Contains-append_left list (step ∷ []) (record { width = from; height = h }) (so_far.first h at);
      })
    where
      at_index : get_or steps i no_step ≡ step
      at_index = get_or_default steps i no_step step inside ∙ sym is

      there : Contains steps step
      there = (i, inside, sym is)

      falls-to : (one : Config) → Contains list one → Falls one step
      falls-to one has = elim (so_far.before one has) [
        | inl at ↦
            let keep = so_far.kept one has in
            let found = step-at steps one.width one.height keep.2 in
            let fall = wider-lower steps are found.0 step found.1 there (omega (arith, found.2, at, wide)) in
            (omega (arith, at, wide), omega (arith, fall, found.3))
        | inr earlier ↦
            let fall = are.decreasing earlier.0 i no_step earlier.1 inside in (
              omega (arith, fall.0, ap (λ (any : Config). any.width) earlier.3, ap (λ (any : Config). any.width) at_index),
              omega (arith, fall.1, ap (λ (any : Config). any.height) earlier.3, ap (λ (any : Config). any.height) at_index),
            )
      ]

  -- the next step is not
  pub between-left : (i : ℕ) (list : List Config) (step : Config) → BetweenSoFar steps from page i list → i < length steps →
      step ≡ get_or steps i step → (from < step.width → page < step.width) → BetweenSoFar steps from page (i + 1) list
  between-left i list step so_far inside is outside = record {
    are = so_far.are;
    kept = so_far.kept;
    before = λ one has. elim (so_far.before one has) [
      | inl at ↦ inl at
      | inr earlier ↦ inr (earlier.0, omega (arith, earlier.1), earlier.2, earlier.3)
    ];
    every = λ k less within after upto. elim (cases_lt k i) [
      | inl old ↦ so_far.every k old within after upto
      | inr new ↦
          let here : i ≡ k = omega (arith, less, new) in
          let same : step ≡ get_or steps k no_step = is ∙ sym (get_or_default steps i no_step step inside) ∙ ap
          (λ n. get_or steps n no_step) here in
          let width = ap (λ (any : Config). any.width) same in
          absurd (omega (arith, width, upto, outside (omega (arith, after, width))))
    ];
    first = so_far.first;
  }

  -- all steps have been looked at
  pub between-all : (i h : ℕ) (list : List Config) → BetweenSoFar steps from page i list → length steps ≤ i →
      height_at steps from ≡ Some h →
      AreStepsOf (From from (λ w n. height_at steps w ≡ Some n)) page list
  between-all i h list so_far whole at =
      AreStepsOf-from (From from (λ w n. height_at steps w ≡ Some n)) page list so_far.are
      (record {
        falls = λ v w m n wider within first second. height-falls steps are v w m n wider first.1 second.1;
        wider = λ v w m wider within first.
            let more = height-wider steps are v w m wider first.1 in
            (more.0, (omega (arith, first.0, wider), more.1));
      })
      (λ step has. let keep = so_far.kept step has in (keep.1, (keep.0, keep.2)))
      (λ w n within need.
      let found = step-at steps w n need.1 in
      elim (cases_lt from found.0.width) [
        | inl wide ↦
            let index : get_or steps found.1.0 no_step ≡ found.0 =
            get_or_default steps found.1.0 no_step found.0 found.1.1 ∙ found.1.2 in
            let width = ap (λ (any : Config). any.width) index in (
              found.0,
              subst (λ (any : Config). Contains list any) index
                  (so_far.every found.1.0 (omega (arith, found.1.1, whole)) found.1.1 (omega (arith, width, wide))
                  (omega (arith, width, found.2, within))),
              found.2,
              found.3,
            )
        | inr narrow ↦
            let since = height-since steps are found.0 from w found.1 narrow need.0 (need.1 ∙ ap Some (sym found.3)) in (
              record { width = from; height = found.0.height },
              so_far.first found.0.height since,
              need.0,
              found.3,
            )
      ])
