-- Two step functions one above the other: where their sum changes, and that the steps found are its steps.
use Rattle.std.proofs.Common.{◌≡◌, ℕ, ◌-◌, ◌<◌, ◌≤◌, max, Bool, nat_le, true, false, List, [], ◌∷◌, ◌++◌, ◌⊎◌, inl, inr, length}
use Rattle.std.proofs.Common.{get_or, filter, cond}
use Rattle.std.proofs.Common.{Option, Some, None, refl, sym, ap, ◌∙◌, subst, arith}
use Rattle.std.specs.List.{All, AllPairs, last_or}
use Rattle.std.specs.Option.{option_map, IsSomeAnd, IsSome}
use Rattle.std.proofs.lemmas.Bool.{cases_lt}
use Rattle.std.proofs.Math.Seq.{get_or-append_seam}
use Rattle.std.proofs.lemmas.List.{get_or_default, get_or_append_left, append-nil, length_push}
use Rattle.std.proofs.lemmas.List.Elements.{filter-append}
use Rattle.std.proofs.lemmas.List.Quantifiers.{all_pairs_push}
use Rattle.tl_base.specs.declared.steps.Config.{Config}
use Rattle.tl_base.specs.Steps.{AreSteps, first_width, first_height, height_at, both_heights, stacked_height}
use Rattle.tl_base.specs.inner.Stacking.{IsPastNarrow, IsNextWidth}
use Rattle.tl_base.proofs.Decreasing.{no_step, Falls, falls, le_test, first_height-is, height_at-below, height_at-last}
use Rattle.tl_base.proofs.Decreasing.{height_at-step, test_le}
use Rattle.tl_base.proofs.Decreasing.{test_le_false, test_le_below}

-- ---- one step function

module _ (steps : List Config) (are : AreSteps steps) (w n : ℕ) (some : 0 < n) (within : n ≤ length steps)
    (at : IsPastNarrow steps w n) where
  -- up to the next step the same steps are narrow enough
  narrow_between : (v : ℕ) → w ≤ v → (n < length steps → v < (get_or steps n no_step).width) → IsPastNarrow steps v n
  narrow_between v from below = (
    (λ k d low high. test_le (omega (arith, le_test (at.0 k d low high), from))),
    (λ k d low high. wide k d low high (cases_lt n k)),
  ) where
    wide : (k : ℕ) (d : Config) → n ≤ k → k < length steps → (n < k) ⊎ (k ≤ n) → nat_le (get_or steps k d).width v ≡ false
    wide k d low high (inl later) =
        let fall = are.decreasing n k d later high in
        test_le_false (omega (
          arith,
          fall.0,
          below (omega arith),
          ap (λ a. a.width) (get_or_default steps n d no_step (omega arith)),
        ))
    wide k d low high (inr here) =
        let same : k ≡ n = omega arith in
        test_le_false (omega (
          arith,
          below (omega arith),
          ap (λ a. a.width) (get_or_default steps n d no_step (omega arith)),
          ap (λ i. (get_or steps i d).width) same,
        ))

  -- so the height stays
  same_between : (v : ℕ) → w ≤ v → (n < length steps → v < (get_or steps n no_step).width) → height_at steps v ≡ height_at steps w
  same_between v from below =
      height_at-last steps are v n some within (narrow_between v from below) ∙ sym (height_at-last steps are w n some within at)

  -- past the last step it stays
  pub stays : length steps ≡ n → (v : ℕ) → w ≤ v → height_at steps v ≡ height_at steps w
  stays last v from = same_between v from (λ more. absurd (omega arith))

  -- at the next step it is less
  pub next_is : n < length steps → IsNextWidth (height_at steps) w (get_or steps n no_step).width
  next_is more = record {
    above = test_le_below (at.1 n no_step (omega arith) more);
    same = λ v from below. same_between v from (λ _. below);
    lower =
        let fall = falls steps are (n - 1) n (omega arith) more in
        lower_of (height_at steps w) (height_at steps (get_or steps n no_step).width)
        (height_at-last steps are w n some within at)
        (height_at-step steps are n more) fall.1;
  } where
    lower_of : (before here : Option ℕ) {high low : ℕ} → before ≡ Some high → here ≡ Some low → low < high →
        IsSomeAnd before (λ b. IsSomeAnd here (λ h. h < b))
    lower_of before here is_before is_here less = rw is_before (rw is_here less)

  -- there is a height
  pub has_height : IsSome (height_at steps w)
  has_height = subst (λ h. IsSome h) (sym (height_at-last steps are w n some within at)) refl

  -- it is at most that of the first step
  pub height_le_first : (get_or steps (n - 1) no_step).height ≤ first_height steps
  height_le_first = at_most (cases_lt 0 (n - 1)) where
    at_most : (0 < n - 1) ⊎ (n - 1 ≤ 0) → (get_or steps (n - 1) no_step).height ≤ first_height steps
    at_most (inl later) = let fall = falls steps are 0 (n - 1) later (omega arith) in
        omega (arith, fall.1, first_height-is steps no_step are.has_step)
    at_most (inr first) = let here : n - 1 ≡ 0 = omega arith in omega (
      arith,
      first_height-is steps no_step are.has_step,
      ap (λ k. (get_or steps k no_step).height) here,
    )

-- ---- two, one above the other

none_above : (n : Option ℕ) → both_heights n None ≡ None
none_above None = refl
none_above (Some n) = refl

-- below the greater first width there is no height
pub none_below : (a b : List Config) → AreSteps a → AreSteps b → (v : ℕ) → v < max (first_width a) (first_width b) →
    stacked_height a b v ≡ None
none_below a b are_a are_b v below = none (cases_lt v (first_width a)) where
  none : (v < first_width a) ⊎ (first_width a ≤ v) → stacked_height a b v ≡ None
  none (inl in_a) = ap (λ h. both_heights h (height_at b v)) (height_at-below a are_a v in_a)
  none (inr past) = ap (both_heights (height_at a v)) (height_at-below b are_b v (omega (arith, past, below))) ∙ none_above
      (height_at a v)

-- ---- the steps found so far

-- the height with one step more
pub height_at-push : (steps : List Config) (step : Config) (w : ℕ) →
    height_at (steps ++ step ∷ []) w ≡ cond (nat_le step.width w) (Some step.height) (height_at steps w)
height_at-push steps step w =
    ap (λ narrow. option_map (λ s. s.height) (last_or None narrow)) (filter-append (λ s. nat_le s.width w) steps (step ∷ []))
    ∙ last_is (filter (λ s. nat_le s.width w) steps) (nat_le step.width w)
  where
    last_push : (o : Option Config) (all : List Config) → last_or o (all ++ step ∷ []) ≡ Some step
    last_push o [] = refl
    last_push o (s ∷ all) = last_push (Some s) all

    last_nil : (all : List Config) → last_or None (all ++ []) ≡ last_or None all
    last_nil all = ap (last_or None) (append-nil all)

    last_is : (all : List Config) (narrow : Bool) →
        option_map (λ s. s.height) (last_or None (all ++ cond narrow (step ∷ []) [])) ≡ cond narrow (Some step.height)
        (option_map (λ s.
        s.height) (last_or None all))
    last_is all true = ap (option_map (λ s. s.height)) (last_push None all)
    last_is all false = ap (option_map (λ s. s.height)) (last_nil all)

-- the steps of the sum whose widths are below this one, at which the sum falls again, or begins
pub record AreStepsBelow (least : ℕ) (height : ℕ → Option ℕ) (steps : List Config) (width : ℕ) : Type 0 where
  pub from : least ≤ width
  pub begins : (length steps ≡ 0) → width ≡ least
  pub first : 0 < length steps → first_width steps ≡ least
  pub decreasing : AllPairs Falls steps
  pub before : (k : ℕ) (d : Config) → k < length steps → ((get_or steps k d).width < width) ×
      IsSomeAnd (height width) (λ here. here <
      (get_or steps k d).height)
  pub heights : (v : ℕ) → v < width → height_at steps v ≡ height v

-- no step is found yet
pub none_found : (least : ℕ) (height : ℕ → Option ℕ) (steps : List Config) → steps ≡ [] →
    ((v : ℕ) → v < least → height v ≡ None) →
    AreStepsBelow least height steps least
none_found least height steps is none = subst (λ list. AreStepsBelow least height list least) (sym is) (record {
  from = omega arith;
  begins = λ _. refl;
  first = λ some. absurd (omega arith);
  decreasing = λ i j d low high. absurd (omega arith);
  before = λ k d within. absurd (omega arith);
  heights = λ v below. sym (none v below);
})

module _ (least : ℕ) (height : ℕ → Option ℕ) (steps : List Config) (width h : ℕ)
    (found : AreStepsBelow least height steps width) (here :
    height width ≡ Some h) where
  -- the step at this width
  abbrev step : Config
  step = record { width = width; height = h }

  -- it is wider and lower than those before
  falls_to : AllPairs Falls (steps ++ step ∷ [])
  falls_to = all_pairs_push Falls steps step found.decreasing (λ k d within. falls_here k d (found.before k d within)) where
    falls_here : (k : ℕ) (d : Config) → ((get_or steps k d).width < width) ×
        IsSomeAnd (height width) (λ low. low < (get_or steps k
        d).height) → Falls (get_or steps k d) step
    falls_here k d before = (before.0, rw here at before.1)

  -- the first width
  begins_with : (list : List Config) → list ≡ steps → first_width (list ++ step ∷ []) ≡ least
  begins_with [] is = found.begins (ap length (sym is))
  begins_with (s ∷ list) is = ap first_width is ∙ found.first (omega (arith, ap length is))

  -- the heights below a width up to which the height stays
  heights_to : (v : ℕ) → (width ≤ v → height v ≡ height width) → height_at (steps ++ step ∷ []) v ≡ height v
  heights_to v stays = height_at-push steps step v ∙ at (cases_lt v width) where
    at : (v < width) ⊎ (width ≤ v) → cond (nat_le width v) (Some h) (height_at steps v) ≡ height v
    at (inl below) = ap (λ test. cond test (Some h) (height_at steps v)) (test_le_false below) ∙ found.heights v below
    at (inr past) = ap (λ test. cond test (Some h) (height_at steps v)) (test_le past) ∙ sym (stays past ∙ here)

  -- the steps below the next width
  pub one_more : (list : List Config) (next : ℕ) → list ≡ steps ++ step ∷ [] → IsNextWidth height width next →
      AreStepsBelow least height list next
  one_more list next is changes = subst (λ all. AreStepsBelow least height all next) (sym is) (record {
    from = omega (arith, found.from, changes.above);
    begins = λ none. absurd (omega (arith, length_push steps step));
    first = λ some. begins_with steps refl;
    decreasing = falls_to;
    before = λ k d within. all_before k d within (cases_lt k (length steps));
    heights = λ v below. heights_to v (λ past. changes.same v past below);
  }) where
    all_before : (k : ℕ) (d : Config) → k < length (steps ++ step ∷ []) → (k < length steps) ⊎ (length steps ≤ k) →
        ((get_or (steps ++ step ∷ []) k d).width < next) × IsSomeAnd (height next)
        (λ low. low < (get_or (steps ++ step ∷ []) k d).height)
    all_before k d within (inl old) =
        let same : get_or (steps ++ step ∷ []) k d ≡ get_or steps k d = get_or_append_left steps (step ∷ []) d k old in
        let before = found.before k d old in (
          omega (arith, before.0, changes.above, ap (λ s. s.width) same),
          lower_still (height width) (height next) before.1 changes.lower (ap (λ s. s.height) same),
        )
      where
        lower_still : (now then : Option ℕ) {high same : ℕ} → IsSomeAnd now (λ low. low < high) →
            IsSomeAnd now (λ before. IsSomeAnd then (λ low. low < before)) → same ≡ high → IsSomeAnd then (λ low. low < same)
        lower_still None then less falls is = absurd less
        lower_still (Some now) None less falls is = absurd falls
        lower_still (Some now) (Some then) less falls is = omega (arith, less, falls, is)
    all_before k d within (inr new) =
        let at : k ≡ length steps = omega (arith, within, new, length_push steps step) in
        let same : get_or (steps ++ step ∷ []) k d ≡ step = ap
        (λ i. get_or (steps ++ step ∷ []) i d) at ∙ get_or-append_seam steps step [] d in (
          omega (arith, changes.above, ap (λ s. s.width) same),
          lower_here (height width) (height next) here changes.lower (ap (λ s. s.height) same),
        )
      where
        lower_here : (now then : Option ℕ) {same : ℕ} → now ≡ Some h →
            IsSomeAnd now (λ before. IsSomeAnd then (λ low. low < before)) →
            same ≡ h → IsSomeAnd then (λ low. low < same)
        lower_here now None is falls same = absurd (rw is at falls)
        lower_here now (Some then) is falls same = let less : then < h = rw is at falls in omega (arith, less, same)

  -- no width is next: these are all
  pub all_found : (list : List Config) → list ≡ steps ++ step ∷ [] → AreSteps list
  all_found list is = subst (λ all. AreSteps all) (sym is) (record {
    has_step =
        omega (arith, length_push steps step);
    decreasing = falls_to;
  })

  pub all_first : (list : List Config) → list ≡ steps ++ step ∷ [] → first_width list ≡ least
  all_first list is = ap first_width is ∙ begins_with steps refl

  pub all_heights : (list : List Config) → list ≡ steps ++ step ∷ [] → ((v : ℕ) → width ≤ v → height v ≡ height width) →
      (v : ℕ) → height_at list v ≡ height v
  all_heights list is stays v = ap (λ all. height_at all v) is ∙ heights_to v (stays v)

-- where each step begins within a page, so does the first
pub first_width-within : (page : ℕ) (steps : List Config) → AreSteps steps → All (λ step. step.width ≤ page) steps →
    first_width steps ≤ page
first_width-within page [] are within = absurd (omega (arith, are.has_step))
first_width-within page (step ∷ steps) are within = within 0 step (omega arith)
