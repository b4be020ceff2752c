-- The log that is made for a trace of one cut, counted by hand. Two cells side by side, each of three words of one letter,
-- on a page of six columns, so that the columns have four in all:
--
--   a a a  b b b
--
-- A cell needs three lines in one or two columns, two in three or four, and one from five on; it has three at most. The cut
-- is of the first column's classes: zone 1 gives it at most four columns, and so has all widths; zone 2 gives it five on, and
-- has none. In zone 1 each cell may have three columns, so the bound is two lines; but both areas are nine at least and the
-- columns end at place eight at most: the area bound is three lines. This is the log for three lines:
--
--   z2 cycle
--   z1 area
--   z0 @1 fired
use Rattle.tl_base.specs.Style.{spacing_of}
use Rattle.std.proofs.Common.{◌≡◌, ℕ, ◌+◌, ◌*◌, ◌<◌, ◌≤◌, ◌⊎◌, zero, suc, List, [], ◌∷◌, inl, inr, length, get_or, Some, refl}
use Rattle.std.proofs.Common.{sym, ap, subst, arith}
use Rattle.std.proofs.lemmas.Bool.{cases_lt}
use Rattle.std.proofs.lemmas.List.Elements.{All-from_recursion}
use Rattle.tl_base.specs.declared.style.Style.TheVariants.{Plain}
use Rattle.tl_base.specs.declared.steps.Config.{Config}
use Rattle.tl_base.specs.Steps.{first_width, height_at, IsLowAt}
use Rattle.tl_base.specs.Sizes.{position, room, total}
use Rattle.tl_problem.specs.declared.cell.Cell.{Cell}
use Rattle.tl_problem.specs.Problem.{ProblemModel, cell_width, cell_height}
use Rattle.tl_problem.specs.Layouts.{WithinPage}
use Rattle.tl_problem.specs.Spans.{spans_of, classes_of}
use Rattle.tl_problem.specs.Zones.{span_width, IsWidthOf, InZone}
use Rattle.tl_problem.specs.Bounds.{IsGreatestRoom, IsBound}
use Rattle.tl_problem.specs.Areas.{area, IsLeastArea, IsAreaBound}
use Rattle.tl_problem.proofs.BoundLaws.{bound-unique}
use Rattle.tl_problem.proofs.Heights.{test_le, test_le_false}
use Rattle.tl_cert.specs.declared.log.End.{End}
use Rattle.tl_cert.specs.declared.log.End.TheVariants.{Fired, Cycle, Chain, Area}
use Rattle.tl_cert.specs.declared.log.LogLine.{LogLine}
use Rattle.tl_cert.specs.declared.log.Nogood.TheVariants.{Zone}
use Rattle.tl_cert.specs.declared.trace.CutAt.{CutAt}
use Rattle.tl_cert.specs.Traces.{Stands, zone_of}
use Rattle.tl_cert.specs.Worked.{IsBoundOf}
use Rattle.tl_solve.specs.TraceLogs.{line_of_zone, IsStandingLine, IsCutLine, IsTraceLog}

abbrev step : ℕ → ℕ → Config
step width height = record { width = width; height = height }

abbrev three_words : List Config
three_words = step 1 3 ∷ step 3 2 ∷ step 5 1 ∷ []

abbrev cell : ℕ → Cell
cell left = record { left = left; right = left + 1; top = 0; bottom = 1; low = three_words; high = three_words }

abbrev cells : List Cell
cells = cell 0 ∷ cell 1 ∷ []

abbrev problem : ProblemModel
problem = record { cols = 2; rows = 1; spacing = spacing_of Plain 0; width = 6; cells = cells }

abbrev trace : List CutAt
trace = record { zone = 0; span = 0; class = 1 } ∷ []

abbrev line : ℕ → List ℕ → End → LogLine
line zone fires end = record { nogood = Zone zone; fires = fires; end = end }

-- ---- widths

fits : (a b : ℕ) → 1 ≤ a → 1 ≤ b → a + b ≤ 4 → WithinPage problem (a ∷ b ∷ [])
fits a b one other page = record {
  columns = refl;
  page = omega arith;
  cells = All-from_recursion (λ c. first_width c.low ≤ cell_width problem (a ∷ b ∷ []) c) cells
      (omega arith, (omega arith, tt));
}

-- of any widths within the page the two rooms sum to at most four, and the columns end at place eight at most
rooms : (widths : List ℕ) → WithinPage problem widths → (1 ≤ room 2 widths 0 1) × (1 ≤ room 2 widths 1 2) ×
    (room 2 widths 0 1 + room 2 widths 1 2 ≤ 4) × (position 2 widths 2 ≤ 8)
rooms widths is = (
  is.cells 0 (cell 0) (omega arith),
  is.cells 1 (cell 0) (omega arith),
  (all widths is.columns is.page).0,
  (all widths is.columns is.page).1,
) where
  all : (ws : List ℕ) → length ws ≡ 2 → total 2 0 ws ≤ 6 → (room 2 ws 0 1 + room 2 ws 1 2 ≤ 4) × (position 2 ws 2 ≤ 8)
  all [] columns page = absurd (omega arith)
  all (a ∷ []) columns page = absurd (omega arith)
  all (a ∷ b ∷ []) columns page = (omega arith, omega arith)
  all (a ∷ b ∷ c ∷ more) columns page = absurd (omega arith)

-- zone 1 has all widths within the page, and zone 2 has none
in_first : (widths : List ℕ) → WithinPage problem widths → InZone problem (zone_of problem trace 1) widths
unfolding spans_of classes_of
in_first widths page = record { page = page; ranges = ranges } where
  ranges : (s : ℕ) → s < 2 → IsWidthOf problem (zone_of problem trace 1) s (span_width problem widths s)
  ranges zero within = let all = rooms widths page in (omega (arith, all.0), omega (arith, all.1, all.2))
  ranges (suc zero) within = let all = rooms widths page in (omega (arith, all.1), omega (arith, all.0, all.2))
  ranges (suc (suc s)) within = absurd (omega arith)

none_in_second : (widths : List ℕ) → InZone problem (zone_of problem trace 2) widths → ⊥
unfolding spans_of classes_of
none_in_second widths inside =
    let five = (inside.ranges 0 (omega arith)).0 in
    let all = rooms widths inside.page in
    omega (arith, five, all.1, all.2)

-- ---- the bound of zone 1

Among : List ℕ → Type 0
Among = InZone problem (zone_of problem trace 1)

three_and_one : Among (3 ∷ 1 ∷ [])
unfolding Among
three_and_one = in_first (3 ∷ 1 ∷ []) (fits 3 1 (omega arith) (omega arith) (omega arith))

one_and_three : Among (1 ∷ 3 ∷ [])
unfolding Among
one_and_three = in_first (1 ∷ 3 ∷ []) (fits 1 3 (omega arith) (omega arith) (omega arith))

page_of : (widths : List ℕ) → Among widths → WithinPage problem widths
unfolding Among
page_of widths inside = inside.page

first_room : IsGreatestRoom problem Among 0 1 3
first_room = record {
  attained = (3 ∷ 1 ∷ [], three_and_one, refl);
  never_more = λ widths inside. let all = rooms widths (page_of widths inside) in omega (arith, all.1, all.2);
}

-- three columns or more need two lines at most
two-enough : (w : ℕ) → 3 ≤ w → IsLowAt three_words 2 w
two-enough w wide =
    elim (cases_lt w 5) [
      | inl narrow ↦ rw (test_le 1 w (omega arith), test_le 3 w wide, test_le_false 5 w narrow) (omega arith)
      | inr wider ↦ rw (test_le 1 w (omega arith), test_le 3 w wide, test_le 5 w wider) (omega arith)
    ]

two_lines : IsBound problem Among 2
two_lines = record {
  some = (3 ∷ 1 ∷ [], three_and_one);
  least = record {
    attained = (2 ∷ [], record { rows = refl; cells = All-from_recursion Given cells (first, (second, tt)) }, refl);
    never_less = λ heights give. one_row heights give.rows (give.cells 0 (cell 0) (omega arith) 3 first_room);
  };
} where
  Given : Cell → Type 0
  Given c = (w : ℕ) → IsGreatestRoom problem Among c.left c.right w → IsLowAt c.low (cell_height problem (2 ∷ []) c) w

  first : Given (cell 0)
  first w greatest = two-enough w (greatest.never_more (3 ∷ 1 ∷ []) three_and_one)

  second : Given (cell 1)
  second w greatest = two-enough w (greatest.never_more (1 ∷ 3 ∷ []) one_and_three)

  one_row : (heights : List ℕ) → length heights ≡ 1 → 2 ≤ room 0 heights 0 1 → 2 ≤ total 0 0 heights
  one_row [] rows two = absurd (omega arith)
  one_row (a ∷ []) rows two = omega arith
  one_row (a ∷ b ∷ more) rows two = absurd (omega arith)

-- ---- its area bound

-- at least nine at every width from one column to four
area-least : (w h : ℕ) → 1 ≤ w → w ≤ 4 → height_at three_words w ≡ Some h → 9 ≤ area problem w h
area-least w h some most is =
    elim (cases_lt w 3) [
      | inl narrow ↦
          let three : Some 3 ≡ Some h = rw (test_le 1 w some, test_le_false 3 w narrow, test_le_false 5 w (omega arith)) at is in
          let same : 3 ≡ h = cc in
          subst (λ lines. 9 ≤ (w + 2) * (lines + 0)) same (omega arith)
      | inr wide ↦
          let two : Some 2 ≡ Some h = rw (test_le 1 w some, test_le 3 w wide, test_le_false 5 w (omega arith)) at is in
          let same : 2 ≡ h = cc in
          subst (λ lines. 9 ≤ (w + 2) * (lines + 0)) same (omega arith)
    ]

first_area : IsLeastArea problem Among (cell 0) 9
first_area = record {
  attained = (
    1,
    3,
    record { no_more = (1 ∷ 3 ∷ [], one_and_three, omega arith); no_less = (3 ∷ 1 ∷ [], three_and_one, omega arith) },
    refl,
    refl,
  );
  never_less = λ w h between is.
      let least = rooms between.no_more.0 (page_of between.no_more.0 between.no_more.1) in
      let most = rooms between.no_less.0 (page_of between.no_less.0 between.no_less.1) in
      area-least w h (omega (arith, least.0, between.no_more.2)) (omega (arith, most.1, most.2, between.no_less.2)) is;
}

second_area : IsLeastArea problem Among (cell 1) 9
second_area = record {
  attained = (
    1,
    3,
    record { no_more = (3 ∷ 1 ∷ [], three_and_one, omega arith); no_less = (1 ∷ 3 ∷ [], one_and_three, omega arith) },
    refl,
    refl,
  );
  never_less = λ w h between is.
      let least = rooms between.no_more.0 (page_of between.no_more.0 between.no_more.1) in
      let most = rooms between.no_less.0 (page_of between.no_less.0 between.no_less.1) in
      area-least w h (omega (arith, least.1, between.no_more.2)) (omega (arith, most.0, most.2, between.no_less.2)) is;
}

three_lines : IsAreaBound problem Among 3
three_lines = record {
  some = (3 ∷ 1 ∷ [], three_and_one);
  no_column = λ none. absurd (omega arith);
  columns = λ some. (
    3,
    record {
      areas = 9 ∷ 9 ∷ [];
      end = 8;
      least = (first_area, (second_area, tt));
      greatest = record {
        attained = (3 ∷ 1 ∷ [], three_and_one, refl);
        never_more = λ widths inside. (rooms widths (page_of widths inside)).3;
      };
      rounded = record { enough = omega arith; least = λ other enough. omega arith };
    },
    refl,
  );
}

-- ---- the log

abbrev log : List LogLine
log = line 2 [] Cycle ∷ line 1 [] Area ∷ line 0 (1 ∷ []) Fired ∷ []

-- zones 1 and 2 stand, and no other
which-stands : (z : ℕ) → Stands trace z → (z ≡ 1) ⊎ (z ≡ 2)
which-stands z stands =
    let not = stands.not_cut 0 (record { zone = 0; span = 0; class = 1 }) (omega arith) in
    elim (cases_lt z 1) [
      | inl first ↦ absurd (not (omega (arith, first)))
      | inr more ↦ elim (cases_lt z 2) [
        | inl one ↦ inl (omega (arith, one, more))
        | inr two ↦ inr (omega (arith, two, stands.there))
      ]
    ]

first_line : IsStandingLine problem trace 3 1 (line 1 [] Area)
unfolding Among
first_line = record { nogood = refl; fires = refl; ends = ((2, two_lines, omega arith), (3, three_lines, omega arith)) }

second_line : IsStandingLine problem trace 3 2 (line 2 [] Cycle)
second_line = record { nogood = refl; fires = refl; ends = none_in_second }

whole_line : IsCutLine problem trace 0 0 (line 0 (1 ∷ []) Fired)
whole_line = record {
  nogood = refl;
  fires = inl ((λ widths inside. in_first widths inside.page), refl);
  ends = refl;
}

is_log : IsTraceLog problem trace 3 log
is_log = record {
  count = refl;
  standing = λ z stands. elim (which-stands z stands) [
    | inl one ↦ subst (λ n. IsStandingLine problem trace 3 n (line_of_zone trace log n)) (sym one) first_line
    | inr two ↦ subst (λ n. IsStandingLine problem trace 3 n (line_of_zone trace log n)) (sym two) second_line
  ];
  cut = λ i d within. let only : i ≡ 0 = omega (arith, within) in
      subst (λ n. IsCutLine problem trace n (get_or trace n d).zone (line_of_zone trace log (get_or trace n d).zone)) (sym only)
      whole_line;
}

-- the whole may not fire both parts: all its widths lie in the lower one
not_both : IsCutLine problem trace 0 0 (line 0 (1 ∷ 0 ∷ []) Fired) → ⊥
not_both is = elim is.fires [
  | inl alone ↦ omega (arith, ap length alone.1)
  | inr both ↦ both.0 (λ widths inside. in_first widths inside.page)
]

-- and a bound of two lines is not enough for zone 1 to end by `chain`
not_chain : IsStandingLine problem trace 3 1 (line 1 [] Chain) → ⊥
unfolding Among
not_chain is =
    let same = bound-unique problem (InZone problem (zone_of problem trace 1)) is.ends.0 2 is.ends.1 two_lines in
    omega (arith, same, is.ends.2)

-- ---- a zone whose bound is enough, and a cut both of whose parts have widths

module _ (other : ProblemModel) (three : IsBoundOf other trace 1 3) where
  by_chain : IsStandingLine other trace 3 1 (line 1 [] Chain)
  by_chain = record { nogood = refl; fires = refl; ends = (3, three, omega arith) }

  not_area : IsStandingLine other trace 3 1 (line 1 [] Area) → ⊥
  not_area is =
      let same = bound-unique other (InZone other (zone_of other trace 1)) is.ends.0.0 3 is.ends.0.1 three in
      omega (arith, same, is.ends.0.2)

module _ (other : ProblemModel) (widths : List ℕ) (inside : InZone other (zone_of other trace 0) widths)
    (high : InZone other (zone_of other trace 1) widths → ⊥) where
  both : IsCutLine other trace 0 0 (line 0 (1 ∷ 0 ∷ []) Fired)
  both = record { nogood = refl; fires = inr ((λ all. high (all widths inside)), refl); ends = refl }

  not_alone : IsCutLine other trace 0 0 (line 0 (1 ∷ []) Fired) → ⊥
  not_alone is = elim is.fires [
    | inl alone ↦ high (alone.0 widths inside)
    | inr two ↦ omega (arith, ap length two.1)
  ]
