-- Where sections tell of a table at each width from its least one up to the page, it has steps by them.
use Rattle.std.proofs.Common.{◌≡◌, ℕ, zero, suc, ◌+◌, ◌≤◌, min, max, List, [], ◌∷◌, ◌++◌, ◌⊎◌, inl, inr, length, get_or, take}
use Rattle.std.proofs.Common.{refl, sym, subst, arith}
use Rattle.std.specs.List.{AllZip, AllByRecursion}
use Rattle.std.proofs.lemmas.Bool.{cases_eq, cases_lt}
use Rattle.std.proofs.lemmas.List.{take_all, take_more}
use Rattle.std.proofs.lemmas.List.Elements.{All-contains, All-get_or, All-nil}
use Rattle.tl_base.specs.declared.style.Style.{Style}
use Rattle.tl_base.specs.declared.steps.Config.{Config}
use Rattle.tl_base.specs.Steps.{first_width}
use Rattle.tl_cert.specs.declared.section.Section.{Section}
use Rattle.tl_table.specs.declared.cell.Table.{Table, out-Table}
use Rattle.tl_form.specs.declared.heights.InnerSteps.{InnerSteps}
use Rattle.tl_form.specs.Expected.{placed_width}
use Rattle.tl_table.specs.Least.{IsLeastWidth}
use Rattle.tl_form.specs.Nested.{IsAsWide, IsPlacedWithin, IsGreatestLower, IsLeastFound, AreStepsBy}
use Rattle.tl_form.specs.Problems.{AreStepsOf}
use Rattle.tl_form.specs.inner.Collecting.{IsMost, IsFewest}
use Rattle.tl_form.proofs.BestOf as best
use Rattle.tl_form.proofs.Coverage.{AreTold}
use Rattle.tl_form.proofs.NeedSteps.{AreStepsOf-same, first-least, height-first}
use Rattle.tl_form.proofs.StepsExist.{steps-exist}

-- ---- the best of some items, item by item

module _ {X : Type 0} (No : List X → Type 0) (Best : List X → ℕ → Type 0) (nil : No [])
    (more : (xs : List X) (x : X) → No xs ⊎ ((m : ℕ) × Best xs m) → No (xs ++ x ∷ []) ⊎ ((m : ℕ) × Best (xs ++ x ∷ []) m)) where
  best_upto : (xs : List X) (n : ℕ) (d : X) → n ≤ length xs → No (take n xs) ⊎ ((m : ℕ) × Best (take n xs) m)
  best_upto xs zero d within = inl nil
  best_upto xs (suc n) d within =
      let next : n + 1 ≡ suc n = omega arith in
      subst (λ many. No (take many xs) ⊎ ((m : ℕ) × Best (take many xs) m)) next
      (subst (λ all. No all ⊎ ((m : ℕ) × Best all m)) (sym (take_more xs n d (omega arith)))
      (more (take n xs) (get_or xs n d) (best_upto xs n d (omega arith))))

  best_of : (xs : List X) (d : X) → No xs ⊎ ((m : ℕ) × Best xs m)
  best_of xs d = subst (λ all. No all ⊎ ((m : ℕ) × Best all m)) (take_all (length xs) xs (omega arith))
      (best_upto xs (length xs) d (omega arith))

module _ {X : Type 0} (Counts : X → Type 0) (measure : X → ℕ) (decide : (x : X) → Counts x ⊎ (Counts x → ⊥)) (d : X) where
  most_of : (xs : List X) → best.NoneCounts Counts measure xs ⊎ ((most : ℕ) × IsMost Counts measure xs most)
  most_of xs = best_of (best.NoneCounts Counts measure) (IsMost Counts measure) (All-nil (λ x. Counts x → ⊥)) more xs d
    where
      more : (xs : List X) (x : X) → best.NoneCounts Counts measure xs ⊎ ((m : ℕ) × IsMost Counts measure xs m) →
          best.NoneCounts Counts measure (xs ++ x ∷ []) ⊎ ((m : ℕ) × IsMost Counts measure (xs ++ x ∷ []) m)
      more xs x (inl none) = elim (decide x) [
        | inl counts ↦ inr (measure x, best.most_begins Counts measure xs x none counts)
        | inr other ↦ inl (best.none_skips Counts measure xs x none other)
      ]
      more xs x (inr (m, is)) = elim (decide x) [
        | inl counts ↦ inr (max m (measure x), best.most_grows Counts measure xs x m is counts)
        | inr other ↦ inr (m, best.most_skips Counts measure xs x m is other)
      ]

  fewest_of : (xs : List X) → best.NoneCounts Counts measure xs ⊎ ((fewest : ℕ) × IsFewest Counts measure xs fewest)
  fewest_of xs = best_of (best.NoneCounts Counts measure) (IsFewest Counts measure) (All-nil (λ x. Counts x → ⊥)) more xs d
    where
      more : (xs : List X) (x : X) → best.NoneCounts Counts measure xs ⊎ ((m : ℕ) × IsFewest Counts measure xs m) →
          best.NoneCounts Counts measure (xs ++ x ∷ []) ⊎ ((m : ℕ) × IsFewest Counts measure (xs ++ x ∷ []) m)
      more xs x (inl none) = elim (decide x) [
        | inl counts ↦ inr (measure x, best.fewest_begins Counts measure xs x none counts)
        | inr other ↦ inl (best.none_skips Counts measure xs x none other)
      ]
      more xs x (inr (m, is)) = elim (decide x) [
        | inl counts ↦ inr (min m (measure x), best.fewest_falls Counts measure xs x m is counts)
        | inr other ↦ inr (m, best.fewest_skips Counts measure xs x m is other)
      ]

-- ---- what sections tell of a width

as_wide : (number w : ℕ) (section : Section) → IsAsWide number w section ⊎ (IsAsWide number w section → ⊥)
as_wide number w section = elim (cases_eq section.table number) [
  | inl same ↦ elim (cases_lt section.width w) [
    | inl less ↦ inr (λ is. omega (arith, less, is.wide))
    | inr more ↦ inl (record { of = same; wide = more })
  ]
  | inr other ↦ inr (λ is. other is.of)
]

within : (style : Style) (number w : ℕ) (section : Section) →
    IsPlacedWithin style number w section ⊎ (IsPlacedWithin style number w section → ⊥)
within style number w section = elim (cases_eq section.table number) [
  | inl same ↦ elim (cases_lt w (placed_width style section)) [
    | inl wide ↦ inr (λ is. omega (arith, wide, is.narrow))
    | inr narrow ↦ inl (record { of = same; narrow = narrow })
  ]
  | inr other ↦ inr (λ is. other is.of)
]

pub lower_told : (style : Style) (sections : List Section) (number w : ℕ) → AreTold style sections number w →
    (lower : ℕ) × IsGreatestLower sections number w lower
lower_told style sections number w (section, has, tells) =
    elim (most_of (IsAsWide number w) (λ one. one.lower) (as_wide number w) section sections) [
      | inl none ↦ absurd (All-contains (λ one. IsAsWide number w one →
          ⊥) sections section none has (record { of = tells.of; wide = tells.wide }))
      | inr found ↦ (found.0, record { attained = found.1.attained; never_more = found.1.never_more })
    ]

pub height_told : (style : Style) (sections : List Section) (number w : ℕ) → AreTold style sections number w →
    (height : ℕ) × IsLeastFound style sections number w height
height_told style sections number w (section, has, tells) =
    elim (fewest_of (IsPlacedWithin style number w) (λ one. one.height) (within style number w) section sections) [
      | inl none ↦ absurd (All-contains (λ one. IsPlacedWithin style number w one →
          ⊥) sections section none has (record { of = tells.of; narrow = tells.narrow }))
      | inr found ↦ (found.0, record { attained = found.1.attained; never_less = found.1.never_less })
    ]

lower_falls : (sections : List Section) (number v w a b : ℕ) → v ≤ w → IsGreatestLower sections number v a →
    IsGreatestLower sections number w b → b ≤ a
lower_falls sections number v w a b wider first second =
    let at = second.attained in
    let most = subst (λ section. IsAsWide number v section → section.lower ≤ a) at.3
    (All-get_or (λ section. IsAsWide number v section → section.lower ≤ a) sections at.0 at.1 at.2 first.never_more) in
    omega (arith, at.4.1, most (record { of = at.4.0.of; wide = omega (arith, at.4.0.wide, wider) }))

found_falls : (style : Style) (sections : List Section) (number v w a b : ℕ) → v ≤ w → IsLeastFound style sections number v a →
    IsLeastFound style sections number w b → b ≤ a
found_falls style sections number v w a b wider first second =
    let at = first.attained in
    let least = subst (λ section. IsPlacedWithin style number w section → b ≤ section.height) at.3
    (All-get_or (λ section. IsPlacedWithin style number w section →
    b ≤ section.height) sections at.0 at.1 at.2 second.never_less) in
    omega (arith, at.4.1, least (record { of = at.4.0.of; narrow = omega (arith, at.4.0.narrow, wider) }))

-- ---- steps of what is there at each width from the least one up to the page, and falls

module _ (Needs : ℕ → ℕ → Type 0) (falls : (v w m n : ℕ) → v ≤ w → Needs v m → Needs w n →
    n ≤ m) (least page : ℕ) (narrow : least ≤ page)
    (there : (w : ℕ) → least ≤ w → w ≤ page → (h : ℕ) × Needs w h) where
  pub steps_upto : (steps : List Config) × AreStepsOf (λ w h. (least ≤ w) × Needs w h) page steps
  steps_upto =
      let made = steps-exist (λ w h. (least ≤ w) × Needs (min w page) h) least
      (record {
        from = λ w h need. need.0;
        has = λ w wide. let one = there (min w page) (omega (arith, wide, narrow)) (omega arith) in (one.0, (wide, one.1));
      })
      (λ v w m n wider first second. falls (min v page) (min w page) m n (omega (arith, wider)) first.1 second.1) page narrow in (
        made.0,
        AreStepsOf-same (λ w h. (least ≤ w) × Needs (min w page) h) (λ w h. (least ≤ w) × Needs w h) page made.0
            (λ w h upto need. let same : min w page ≡ w = omega (arith, upto) in (need.0, subst (λ v. Needs v h) same need.1))
            (λ w h upto need. let same : min w page ≡ w = omega (arith, upto) in
            (need.0, subst (λ v. Needs v h) (sym same) need.1)) made.1,
      )

  pub steps_begin : (steps : List Config) → AreStepsOf (λ w h. (least ≤ w) × Needs w h) page steps → first_width steps ≡ least
  steps_begin steps of =
      let one = there least (omega arith) narrow in
      let below = first-least steps of.decreasing least one.0 ((of.each least one.0 narrow).1 (omega arith, one.1)) in
      let above = ((of.each (first_width steps) _ (omega (arith, below, narrow))).0 (height-first steps of.decreasing)).0 in
      omega (arith, below, above)

-- ---- the steps of a nested table

pub steps_by : (style : Style) (sections : List Section) (nested : Table) (least page : ℕ) → IsLeastWidth nested style least →
    least ≤ page →
    ((w : ℕ) → least ≤ w → w ≤ page → AreTold style sections (out-Table nested).number w) →
    (steps : InnerSteps) × AreStepsBy style page sections nested steps
steps_by style sections nested least page is_least narrow told =
    let number = (out-Table nested).number in
    let lows = steps_upto (IsGreatestLower sections number) (lower_falls sections number) least page narrow
    (λ w wide upto. lower_told style sections number w (told w wide upto)) in
    let highs = steps_upto (IsLeastFound style sections number) (found_falls style sections number) least page narrow
    (λ w wide upto. height_told style sections number w (told w wide upto)) in (
      record { table = number; low = lows.0; high = highs.0 },
      record {
        named = refl;
        least = least;
        is_least = is_least;
        begins = (
          steps_begin (IsGreatestLower sections number) (lower_falls sections number) least page narrow
              (λ w wide upto. lower_told style sections number w (told w wide upto)) lows.0 lows.1,
          steps_begin (IsLeastFound style sections number) (found_falls style sections number) least page narrow
              (λ w wide upto. height_told style sections number w (told w wide upto)) highs.0 highs.1,
        );
        low = lows.1;
        high = highs.1;
      },
    )

pub inner_by : (style : Style) (page : ℕ) (sections : List Section) (tables : List Table) →
    AllByRecursion (λ nested. (steps : InnerSteps) × AreStepsBy style page sections nested steps) tables →
    (inner : List InnerSteps) × AllZip (AreStepsBy style page sections) tables inner
inner_by style page sections [] all = ([], tt)
inner_by style page sections (nested ∷ tables) all =
    let rest = inner_by style page sections tables all.1 in
    (all.0.0 ∷ rest.0, (all.0.1, rest.1))
