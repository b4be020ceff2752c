-- Steps that are found width by width: at each width one more, where the height is lower.
use Rattle.std.proofs.Common.{◌≡◌, ◌∙◌, ℕ, zero, suc, ◌+◌, ◌-◌, ◌<◌, ◌≤◌, nat_le, Bool, cond, if◌then◌else◌, List}
use Rattle.std.proofs.Common.{[], ◌∷◌}
use Rattle.std.proofs.Common.{◌++◌, ◌⊎◌, inl, inr, length, get_or, filter, slice_get, option_map, Option, None, Some, refl, sym}
use Rattle.std.proofs.Common.{ap, subst, arith}
use Rattle.std.proofs.Common.{length-append}
use Rattle.std.specs.List.{All, last_or}
use Rattle.std.proofs.lemmas.Bool.{cases_lt}
use Rattle.std.proofs.lemmas.Option.{slice_get-get_or, same_Some}
use Rattle.std.proofs.lemmas.List.Elements.{All-nil, All-push}
use Rattle.std.proofs.lemmas.List.Quantifiers.{all_pairs_push}
use Rattle.tl_cert.proofs.ZoneBounds.{not_lt_test}
use Rattle.tl_base.specs.declared.steps.Config.{Config}
use Rattle.tl_base.specs.Steps.{AreSteps, first_width, height_at}
use Rattle.tl_base.proofs.Decreasing.{no_step, test_le, test_le_false, test_lt}
use Rattle.tl_base.proofs.Stacking.{height_at-push}
use Rattle.tl_form.specs.Problems.{AreStepsOf}
use Rattle.tl_form.specs.inner.Collecting.{is_below, with_step, AreStepsBelow}
use Rattle.tl_form.proofs.NeedSteps.{first-least}

-- ---- heights with one step more

last_push : {X : Type 0} (o : Option X) (xs : List X) (x : X) → last_or o (xs ++ x ∷ []) ≡ Some x
last_push o [] x = refl
last_push o (y ∷ xs) x = last_push (Some y) xs x

height_push-below : (steps : List Config) (step : Config) (w : ℕ) → w < step.width →
    height_at (steps ++ step ∷ []) w ≡ height_at steps w
height_push-below steps step w less = height_at-push steps step w ∙ ap (λ b. cond b (Some step.height) (height_at steps w))
    (test_le_false less)

height_push-past : (steps : List Config) (step : Config) (w : ℕ) → step.width ≤ w →
    height_at (steps ++ step ∷ []) w ≡ Some step.height
height_push-past steps step w more = height_at-push steps step w ∙ ap (λ b. cond b (Some step.height) (height_at steps w))
    (test_le more)

-- where all steps are narrow enough the last has the height
height_all : (steps : List Config) (w : ℕ) → 0 < length steps → All (λ step. step.width ≤ w) steps →
    height_at steps w ≡ Some (get_or steps (length steps - 1) no_step).height
height_all steps w some narrow =
    ap (λ xs. option_map (λ step. step.height) (last_or None xs)) (whole steps narrow)
    ∙ ap (option_map (λ step. step.height)) (last_is None steps some)
  where
    whole : (xs : List Config) → All (λ step. step.width ≤ w) xs → filter (λ step. nat_le step.width w) xs ≡ xs
    whole [] all = refl
    whole (x ∷ xs) all =
        ap (λ b. cond b (x ∷ filter (λ step. nat_le step.width w) xs) (filter (λ step. nat_le step.width w) xs))
        (test_le (all 0 x (omega arith)))
        ∙ ap (λ rest. x ∷ rest) (whole xs (λ k d within. all (suc k) d (omega arith)))

    last_is : (o : Option Config) (xs : List Config) → 0 < length xs → last_or o xs ≡ Some (get_or xs (length xs - 1) no_step)
    last_is o [] none = absurd (omega arith)
    last_is o (x ∷ []) one = refl
    last_is o (x ∷ y ∷ xs) more = last_is (Some x) (y ∷ xs) (omega arith) ∙ ap Some (at (omega arith))
      where
        at : length (x ∷ y ∷ xs) - 1 ≡ suc (length (y ∷ xs) - 1) → get_or (y ∷ xs) (length (y ∷ xs) - 1) no_step ≡
            get_or (x ∷ y ∷ xs) (length (x ∷ y ∷ xs) - 1) no_step
        at same = sym (ap (λ k. get_or (x ∷ y ∷ xs) k no_step) same)

-- ---- one width more

module _ (needs : ℕ → ℕ → Type 0) (functional : (w a b : ℕ) → needs w a → needs w b → a ≡ b)
    (falls : (v w a b : ℕ) → v ≤ w → needs v a → needs w b → b ≤ a) (least : ℕ) where
  pub below_none : (steps : List Config) → steps ≡ [] → AreStepsBelow needs least least steps
  below_none steps is = subst (AreStepsBelow needs least least) (sym is) (record {
    decreasing = λ i j d before within. absurd (omega (arith, within));
    before = All-nil (λ (step : Config). step.width < least);
    some = λ less. absurd (omega (arith, less));
    first = λ some. absurd (omega (arith, some));
    each = λ v below from. absurd (omega (arith, below, from));
  })

  module _ (w h : ℕ) (steps : List Config) (from : least ≤ w) (below : AreStepsBelow needs least w steps) (here : needs w h) where
    abbrev step : Config
    step = record { width = w; height = h }

    -- the last step so far
    abbrev last : Config
    last = get_or steps (length steps - 1) no_step

    pushed : 0 < length steps → h < last.height → AreStepsBelow needs least (w + 1) (steps ++ step ∷ [])
    pushed some lower = record {
      decreasing = all_pairs_push (λ a b. (a.width < b.width) × (b.height < a.height)) steps step below.decreasing
          (λ k d within. (below.before k d within, above k d within));
      before = All-push (λ each. each.width < w + 1) steps step (λ k d within. omega (arith, below.before k d within))
          (omega arith);
      some = λ less. omega (arith, length-append steps (step ∷ []));
      first = λ many. first_kept steps below.first;
      each = λ v before since. at v before since (cases_lt v w);
    } where
      above : (k : ℕ) (d : Config) → k < length steps → h < (get_or steps k d).height
      above k d within = elim (cases_lt k (length steps - 1)) [
        | inl before ↦ omega (arith, lower, (below.decreasing k (length steps - 1) d before (omega arith)).1, same_last d)
        | inr end ↦ let at_end : k ≡ length steps - 1 = omega (arith, end, within) in
            omega (arith, lower, ap (λ i. (get_or steps i d).height) at_end, same_last d)
      ]
        where
          same_last : (d : Config) → (get_or steps (length steps - 1) d).height ≡ last.height
          same_last d = ap (λ (s : Config). s.height) (same_Some _ _
              (sym (slice_get-get_or steps (length steps - 1) d (omega arith))
              ∙ slice_get-get_or steps (length steps - 1) no_step (omega arith)))

      first_kept : (xs : List Config) → (0 < length xs → first_width xs ≡ least) → first_width (steps ++ step ∷ []) ≡ least
      first_kept xs first = by_list steps some below.first
        where
          by_list : (xs : List Config) → 0 < length xs → (0 < length xs → first_width xs ≡ least) →
              first_width (xs ++ step ∷ []) ≡ least
          by_list [] none first = absurd (omega (arith, none))
          by_list (x ∷ xs) some first = first some

      at : (v : ℕ) → v < w + 1 → least ≤ v → (v < w) ⊎ (w ≤ v) → (n : ℕ) × (height_at (steps ++ step ∷ []) v ≡ Some n) × needs v n
      at v before since (inl less) =
          let found = below.each v less since in (found.0, height_push-below steps step v less ∙ found.1, found.2)
      at v before since (inr more) =
          let same : w ≡ v = omega (arith, before, more) in
          (h, height_push-past steps step v more, subst (λ n. needs n h) same here)

    alone : steps ≡ [] → AreStepsBelow needs least (w + 1) (steps ++ step ∷ [])
    alone is = subst (λ xs. AreStepsBelow needs least (w + 1) (xs ++ step ∷ [])) (sym is) (record {
      decreasing = λ i j d before within. absurd (omega (arith, before, within));
      before = All-push (λ each. each.width < w + 1) [] step (All-nil (λ (each : Config). each.width < w + 1)) (omega arith);
      some = λ less. omega arith;
      first = λ some. sym at_least;
      each = λ v before since.
          let same : w ≡ v = omega (arith, before, since, at_least) in
          (h, height_push-past [] step v (omega (arith, same)), subst (λ n. needs n h) same here);
    }) where
      at_least : least ≡ w
      at_least = elim (cases_lt least w) [
        | inl less ↦ absurd (omega (arith, below.some less, ap length is))
        | inr same ↦ omega (arith, same, from)
      ]

    kept : 0 < length steps → last.height ≤ h → AreStepsBelow needs least (w + 1) steps
    kept some higher = record {
      decreasing = below.decreasing;
      before = λ k d within. omega (arith, below.before k d within);
      some = λ less. some;
      first = below.first;
      each = λ v before since. at v before since (cases_lt v w);
    } where
      before_w : least < w
      before_w = omega (arith, below.first some, by_list steps some (below.before 0 no_step some))
        where
          by_list : (xs : List Config) → 0 < length xs → (get_or xs 0 no_step).width < w → first_width xs < w
          by_list [] none less = absurd (omega (arith, none))
          by_list (x ∷ xs) some less = less

      narrow : (v : ℕ) → w ≤ v + 1 → All (λ each. each.width ≤ v) steps
      narrow v near k d within = omega (arith, below.before k d within, near)

      previous : (n : ℕ) × (height_at steps (w - 1) ≡ Some n) × needs (w - 1) n
      previous = below.each (w - 1) (omega (arith, before_w)) (omega (arith, before_w))

      stays : h ≡ last.height
      stays =
          let same : previous.0 ≡ last.height = same_Some _ _
          (sym previous.1 ∙ height_all steps (w - 1) some (narrow (w - 1) (omega (arith, before_w)))) in
          omega (arith, higher, same, falls (w - 1) w previous.0 h (omega arith) previous.2 here)

      at : (v : ℕ) → v < w + 1 → least ≤ v → (v < w) ⊎ (w ≤ v) → (n : ℕ) × (height_at steps v ≡ Some n) × needs v n
      at v before since (inl less) = below.each v less since
      at v before since (inr more) =
          let same : w ≡ v = omega (arith, before, more) in
          (h, height_all steps v some (narrow v (omega (arith, same))) ∙ ap Some (sym stays), subst (λ n. needs n h) same here)

    pub below_more : AreStepsBelow needs least (w + 1) (with_step steps w h)
    below_more = by_length (length steps) refl
      where
        by_length : (n : ℕ) → length steps ≡ n → AreStepsBelow needs least (w + 1) (with_step steps w h)
        by_length zero none =
            let empty : steps ≡ [] = nothing steps none in
            subst (λ (o : Option Config). AreStepsBelow needs least (w + 1) (if is_below o h then steps ++ step ∷ [] else steps))
            (sym (ap (λ xs. slice_get xs (length xs - 1)) empty)) (alone empty)
          where
            nothing : {X : Type 0} (xs : List X) → length xs ≡ 0 → xs ≡ []
            nothing [] is = refl
            nothing (x ∷ xs) is = absurd (omega (arith, is))
        by_length (suc n) many =
            subst (λ (o : Option Config). AreStepsBelow needs least (w + 1) (if is_below o h then steps ++ step ∷ [] else steps))
            (sym (slice_get-get_or steps (length steps - 1) no_step (omega (arith, many)))) (elim (cases_lt h last.height) [
              | inl lower ↦ subst (λ (b : Bool). AreStepsBelow needs least (w + 1) (if b then steps ++ step ∷ [] else steps))
                  (sym (test_lt lower)) (pushed (omega (arith, many)) lower)
              | inr higher ↦ subst (λ (b : Bool). AreStepsBelow needs least (w + 1) (if b then steps ++ step ∷ [] else steps))
                  (sym (not_lt_test _ _ higher)) (kept (omega (arith, many)) higher)
            ])

  -- up to a page they are the steps
  pub below_steps : (page : ℕ) (steps : List Config) → least ≤ page → AreStepsBelow needs least (page + 1) steps →
      AreStepsOf (λ w h. (least ≤ w) × needs w h) page steps
  below_steps page steps wide below = record {
    decreasing = are;
    within = λ k d within. omega (arith, below.before k d within);
    each = λ w h within. (
      (λ is. forth w h within is),
      (λ need. let found = below.each w (omega (arith, within)) need.0 in
          found.1 ∙ ap Some (functional w found.0 h found.2 need.1)),
    );
  } where
    are : AreSteps steps
    are = record { has_step = below.some (omega (arith, wide)); decreasing = below.decreasing }

    forth : (w h : ℕ) → w ≤ page → height_at steps w ≡ Some h → (least ≤ w) × needs w h
    forth w h within is =
        let since : least ≤ w = omega (arith, below.first are.has_step, first-least steps are w h is) in
        let found = below.each w (omega (arith, within)) since in
        (since, subst (needs w) (same_Some _ _ (sym found.1 ∙ is)) found.2)

  pub below_begins : (page : ℕ) (steps : List Config) → least ≤ page → AreStepsBelow needs least (page + 1) steps →
      first_width steps ≡ least
  below_begins page steps wide below = below.first (below.some (omega (arith, wide)))
