-- The order of cuts and the lower bound on a drawn trace. One cut of the whole:
--
--       0            zone 1: bound 3, area bound 6
--      / \           zone 2: bound 4, area bound 2
--     1   2
use Rattle.tl_base.specs.Style.{spacing_of}
use Rattle.std.proofs.Common.{◌≡◌, ℕ, ◌<◌, List, [], ◌∷◌, ◌⊎◌, inl, inr, length, get_or, refl, ap, ◌∙◌, subst}
use Rattle.std.proofs.Common.{arith}
use Rattle.std.proofs.lemmas.Bool.{cases_lt}
use Rattle.tl_base.specs.declared.style.Style.TheVariants.{Plain}
use Rattle.tl_base.specs.Steps.{height_at}
use Rattle.tl_base.proofs.Members.{Contains-cases, Contains-none}
use Rattle.tl_problem.specs.declared.cell.Cell.{Cell}
use Rattle.tl_problem.specs.declared.placed.Placed.{Placed}
use Rattle.tl_problem.specs.Problem.{ProblemModel}
use Rattle.tl_problem.specs.Placements.{IsPlacementIn}
use Rattle.tl_problem.specs.Zones.{InZone}
use Rattle.tl_problem.specs.Agreement.{HasOneClass, LowIsHigh}
use Rattle.tl_problem.proofs.AreaLaws.{area-unique}
use Rattle.tl_problem.proofs.BoundLaws.{bound-unique}
use Rattle.tl_problem.proofs.Heights.{test_le, test_le_false}
use Rattle.tl_cert.specs.declared.trace.CutAt.{CutAt}
use Rattle.tl_cert.specs.Traces.{Stands, zone_of}
use Rattle.tl_cert.specs.Worked.{IsBoundOf}
use Rattle.tl_astar.specs.declared.rises.Rise.{Rise}
use Rattle.tl_astar.specs.declared.rises.Rises.{Rises}
use Rattle.tl_astar.specs.inner.Rises.{Wants, rises_of}
use Rattle.tl_astar.specs.Best.{CutsBelowByArea, HaveSameSteps, IsShut, MayBeLower, IsOfLeastBound, IsAreaOf, IsLeastProved}

abbrev cut_of : ℕ → CutAt
cut_of z = record { zone = z; span = 0; class = 0 }

abbrev one_cut : List CutAt
one_cut = cut_of 0 ∷ []

-- zones 1 and 2 stand, and no other
stand : (z : ℕ) → Stands one_cut z → (z ≡ 1) ⊎ (z ≡ 2)
stand z stands =
    let not = stands.not_cut 0 (cut_of 0) (omega arith) in
    elim (cases_lt z 1) [
      | inl first ↦ absurd (not (omega (arith, first)))
      | inr more ↦ elim (cases_lt z 2) [
        | inl one ↦ inl (omega (arith, one, more))
        | inr two ↦ inr
            (omega (arith, two, stands.there))
      ]
    ]

first_stands : Stands one_cut 1
first_stands = record {
  there = omega arith;
  not_cut = λ i d within same. let first : i ≡ 0 = omega (arith, within) in not i d first same;
} where
  not : (i : ℕ) (d : CutAt) → i ≡ 0 → (get_or one_cut i d).zone ≡ 1 → ⊥
  not i d first same = omega (arith, subst (λ n. (get_or one_cut n d).zone ≡ 1) first same)

second_stands : Stands one_cut 2
second_stands = record {
  there = omega arith;
  not_cut = λ i d within same. let first : i ≡ 0 = omega (arith, within) in not i d first same;
} where
  not : (i : ℕ) (d : CutAt) → i ≡ 0 → (get_or one_cut i d).zone ≡ 2 → ⊥
  not i d first same = omega (arith, subst (λ n. (get_or one_cut n d).zone ≡ 2) first same)

module _ (problem : ProblemModel) (first : IsBoundOf problem one_cut 1 3) (second : IsBoundOf problem one_cut 2 4)
    (first_area : IsAreaOf problem one_cut 1 6) (second_area : IsAreaOf problem one_cut 2 2)
    (several : HasOneClass (zone_of problem one_cut 1) → ⊥) where
  bound_at : (z other : ℕ) → Stands one_cut z → IsBoundOf problem one_cut z other →
      ((z ≡ 1) × (other ≡ 3)) ⊎ ((z ≡ 2) × (other ≡ 4))
  bound_at z other stands has = elim (stand z stands) [
    | inl one ↦ inl (
      one,
      bound-unique problem (InZone problem (zone_of problem one_cut 1)) other 3
          (subst (λ n. IsBoundOf problem one_cut n other) one has) first,
    )
    | inr two ↦ inr (
      two,
      bound-unique problem (InZone problem (zone_of problem one_cut 2)) other 4
          (subst (λ n. IsBoundOf problem one_cut n other) two has) second,
    )
  ]

  -- zone 1 may be cut, whatever the height of the best
  one_first : (height : ℕ) → IsOfLeastBound problem height one_cut (cut_of 1)
  one_first height = (
    3,
    first,
    λ z other stands has may. elim (bound_at z other stands has) [
      | inl one ↦ omega (arith, one.1)
      | inr two ↦ omega (arith, two.1)
    ],
  )

  -- where the best has nine lines, zone 2 may not be cut before it
  two_not_first : IsOfLeastBound problem 9 one_cut (cut_of 2) → ⊥
  two_not_first is =
      let four = bound-unique problem (InZone problem (zone_of problem one_cut 2)) is.0 4 is.1 second in
      let may : MayBeLower problem (zone_of problem one_cut 1) 9 =
      record { classes = several; area = λ same. (6, first_area, omega arith) } in
      let below = is.2 1 3 first_stands first may in
      omega (arith, four, below)

  -- but where it has five, and the steps are the same, zone 1 holds nothing lower, and zone 2 may
  two_alone : HaveSameSteps problem → IsOfLeastBound problem 5 one_cut (cut_of 2)
  two_alone same = (
    4,
    second,
    λ z other stands has may. elim (bound_at z other stands has) [
      | inr two ↦ omega (arith, two.1)
      | inl one ↦
          let area = (subst (λ n. MayBeLower problem (zone_of problem one_cut n) 5) one.0 may).area same in
          let six = area-unique problem (InZone problem (zone_of problem one_cut 1)) area.0 6 area.1 first_area in
          absurd (omega (arith, six, area.2))
    ],
  )

  -- where they are not, its area bound excuses no zone
  two_not_alone : (HaveSameSteps problem → ⊥) → IsOfLeastBound problem 5 one_cut (cut_of 2) → ⊥
  two_not_alone differ is =
      let four = bound-unique problem (InZone problem (zone_of problem one_cut 2)) is.0 4 is.1 second in
      let may : MayBeLower problem (zone_of problem one_cut 1) 5 =
      record { classes = several; area = λ same. absurd (differ same) } in
      let below = is.2 1 3 first_stands first may in
      omega (arith, four, below)

  -- so a search may end with zone 1 uncut if the steps are the same, and may not if they are not
  one_shut : HaveSameSteps problem → IsShut problem (zone_of problem one_cut 1) 5
  one_shut same = inr (same, (6, first_area, omega arith))

  one_open : (HaveSameSteps problem → ⊥) → IsShut problem (zone_of problem one_cut 1) 5 → ⊥
  one_open differ (inl (inl none)) = none first.some.0 first.some.1
  one_open differ (inl (inr (inl high))) =
      let three = bound-unique problem (InZone problem (zone_of problem one_cut 1)) high.0 3 high.1 first in
      omega (arith, three, high.2)
  one_open differ (inl (inr (inr single))) = several single.0
  one_open differ (inr shut) = differ shut.0

  -- where the placement in zone 2 has five lines, zone 1, whose area bound is six, may not be cut
  one_not_by_area : (placed : Placed) → IsPlacementIn problem (InZone problem (zone_of problem one_cut 2)) placed →
      placed.height ≡ 5 →
      CutsBelowByArea problem (cut_of 0 ∷ cut_of 1 ∷ []) → ⊥
  one_not_by_area placed placement five is =
      let at = is 1 (cut_of 0) (omega arith) in
      let six = area-unique problem (InZone problem (zone_of problem one_cut 1)) at.0 6 at.1 first_area in
      let below = at.2 2 placed (omega arith) placement in
      omega (arith, six, below, five)

  -- zone 1 proves six lines and zone 2 four: where the best has five, four is the lower bound
  four_proved : IsLeastProved problem one_cut 5 4
  four_proved = record {
    at_most = omega arith;
    never_more = λ z bound area stands has_bound has_area. elim (bound_at z bound stands has_bound) [
      | inr two ↦ omega (arith, two.1)
      | inl one ↦
          let here = subst (λ n. IsAreaOf problem one_cut n area) one.0 has_area in
          let six = area-unique problem (InZone problem (zone_of problem one_cut 1)) area 6 here first_area in
          omega (arith, six)
    ];
    attained = inr (2, 4, 2, second_stands, second, second_area, refl);
  }

  -- and three, the least of the bounds, is not
  three_not_proved : IsLeastProved problem one_cut 5 3 → ⊥
  three_not_proved is =
      let more = is.never_more 1 3 6 first_stands first first_area in
      elim is.attained [
        | inl same ↦ omega (arith, same)
        | inr some ↦ elim (bound_at some.0 some.1 some.3 some.4) [
          | inr two ↦ omega (arith, two.1, some.6)
          | inl one ↦
              let here = subst (λ n. IsAreaOf problem one_cut n some.2) one.0 some.5 in
              let six = area-unique problem (InZone problem (zone_of problem one_cut 1)) some.2 6 here first_area in
              omega (arith, six, some.6)
        ]
      ]

-- ---- the same steps, and the same needs on the page

-- a cell of two lines, which by `low` would have one from nine columns on, on a page of five
abbrev past_the_page : Cell
past_the_page = record {
  left = 0;
  right = 1;
  top = 0;
  bottom = 1;
  low = record { width = 1; height = 2 } ∷ record { width = 9; height = 1 } ∷ [];
  high = record { width = 1; height = 2 } ∷ [];
}

abbrev narrow : ProblemModel
narrow = record { cols = 1; rows = 1; spacing = spacing_of Plain 0; width = 5; cells = past_the_page ∷ [] }

-- `low` is `high` at each width of the page
low_is_high : LowIsHigh narrow
low_is_high cell has w within = elim (Contains-cases past_the_page [] cell has) [
  | inr none ↦ absurd (Contains-none cell none)
  | inl same ↦ subst (λ (c : Cell). height_at c.low w ≡ height_at c.high w) same (elim (cases_lt w 1) [
    | inl none ↦ rw (test_le_false 1 w none, test_le_false 9 w (omega arith)) refl
    | inr some ↦ rw (test_le 1 w some, test_le_false 9 w (omega arith)) refl
  ])
]

-- and yet the steps are not the same
not_same : HaveSameSteps narrow → ⊥
not_same same = let steps = same 0 past_the_page (omega arith) in omega (arith, ap length steps)

-- ---- what rises want

-- a cell of strip 0 has two lines below nine columns and four below five, one of strip 1 three below seven
abbrev nine : Rise
nine = record { width = 9; strip = 0; height = 2 }

abbrev seven : Rise
seven = record { width = 7; strip = 1; height = 3 }

abbrev five : Rise
five = record { width = 5; strip = 0; height = 4 }

-- where the first span ends after one of three rises, and the second after all, the second has the last two
second_span : (rises : Rises) → rises.all.items ≡ nine ∷ seven ∷ five ∷ [] → rises.ends.items ≡ 1 ∷ 3 ∷ [] →
    rises_of rises 1 ≡ seven ∷ five ∷ []
second_span rises all ends = rw (all, ends) refl

-- at six columns strip 0 is to have two lines
two_wanted : Wants (nine ∷ seven ∷ five ∷ []) 6 0 2
two_wanted = record {
  number = 0;
  rise = nine;
  there = omega arith;
  is = refl;
  wider = λ k d before.
      let first : 0 ≡ k = omega (arith, before) in
      subst (λ n. 6 < (get_or (nine ∷ seven ∷ five ∷ []) n d).width) first (omega arith);
  of_strip = refl;
  high = refl;
}

-- and not four
four_not_wanted : Wants (nine ∷ seven ∷ five ∷ []) 6 0 4 → ⊥
four_not_wanted wants = elim (cases_lt wants.number 2) [
  | inr third ↦ omega (arith, wants.wider 2 five third)
  | inl before ↦ elim (cases_lt wants.number 1) [
    | inl first ↦ omega (arith, high 0 (omega (arith, first)))
    | inr second ↦ omega (arith, high 1 (omega (arith, before, second)))
  ]
] where
  high : (n : ℕ) → wants.number ≡ n → (get_or (nine ∷ seven ∷ five ∷ []) n wants.rise).height ≡ 4
  high n is = subst (λ k. (get_or (nine ∷ seven ∷ five ∷ []) k wants.rise).height ≡ 4) is
      (ap (λ rise. rise.height) wants.is ∙ wants.high)
