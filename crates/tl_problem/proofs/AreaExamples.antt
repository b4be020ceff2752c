-- The area bound of two cells side by side, `a a` and `b b`, on seven columns, counted by hand. Each cell has from one
-- column to four; it needs two lines in one or two columns, and one line from three on. Each has an area of 5 at least,
-- at three columns with the gap, and the columns end at place 9 at most: 10 in 9 is two lines. One line is not enough.
use Rattle.tl_base.specs.Style.{spacing_of}
use Rattle.std.proofs.Common.{◌≡◌, ℕ, ◌+◌, ◌*◌, ◌≤◌, List, [], ◌∷◌, length, Some, refl, subst, inl, inr, arith}
use Rattle.std.proofs.lemmas.Bool.{cases_lt}
use Rattle.std.proofs.lemmas.List.Elements.{All-from_recursion}
use Rattle.tl_base.specs.declared.style.Style.TheVariants.{Plain}
use Rattle.tl_base.specs.declared.steps.Config.{Config}
use Rattle.tl_base.specs.Steps.{first_width, height_at}
use Rattle.tl_problem.specs.declared.cell.Cell.{Cell}
use Rattle.tl_base.specs.Sizes.{position, total}
use Rattle.tl_problem.specs.Problem.{ProblemModel, cell_width}
use Rattle.tl_problem.specs.Layouts.{WithinPage}
use Rattle.tl_problem.specs.Areas.{area, IsLeastArea, IsAreaBound}
use Rattle.tl_problem.proofs.Heights.{test_le, test_le_false}
use Rattle.tl_problem.proofs.Examples.{step, cell}

abbrev two_words : List Config
two_words = step 1 2 ∷ step 3 1 ∷ []

abbrev first : Cell
first = cell 0 1 0 1 two_words

abbrev second : Cell
second = cell 1 2 0 1 two_words

abbrev side_by_side : ProblemModel
side_by_side = record { cols = 2; rows = 1; spacing = spacing_of Plain 0; width = 7; cells = first ∷ second ∷ [] }

fits : (a b : ℕ) → 1 ≤ a → 1 ≤ b → a + b ≤ 5 → WithinPage side_by_side (a ∷ b ∷ [])
fits a b one other page = record {
  columns = refl;
  page = omega arith;
  cells = All-from_recursion (λ c. first_width c.low ≤ cell_width side_by_side (a ∷ b ∷ []) c) side_by_side.cells
      (omega arith, (omega arith, tt));
}

-- at least 5 at every width from one column on
area-least : (w h : ℕ) → 1 ≤ w → height_at two_words w ≡ Some h → 5 ≤ area side_by_side w h
area-least w h some is =
    elim (cases_lt w 3) [
      | inl narrow ↦
          let two : Some 2 ≡ Some h = rw (test_le 1 w some, test_le_false 3 w narrow) at is in
          let same : 2 ≡ h = cc in
          subst (λ lines. 5 ≤ (w + 2) * (lines + 0)) same (omega arith)
      | inr enough ↦
          let one : Some 1 ≡ Some h = rw (test_le 1 w some, test_le 3 w enough) at is in
          let same : 1 ≡ h = cc in
          subst (λ lines. 5 ≤ (w + 2) * (lines + 0)) same (omega arith)
    ]

first_area : IsLeastArea side_by_side (WithinPage side_by_side) first 5
first_area = record {
  attained = (
    3,
    1,
    record {
      no_more = (1 ∷ 1 ∷ [], fits 1 1 (omega arith) (omega arith) (omega arith), omega arith);
      no_less =
          (3 ∷ 1 ∷ [], fits 3 1 (omega arith) (omega arith) (omega arith), omega arith);
    },
    refl,
    refl,
  );
  never_less = λ w h between is. let wide = between.no_more.1.cells 0 first (omega arith) in
      area-least w h (omega (arith, wide, between.no_more.2)) is;
}

second_area : IsLeastArea side_by_side (WithinPage side_by_side) second 5
second_area = record {
  attained = (
    3,
    1,
    record {
      no_more = (1 ∷ 1 ∷ [], fits 1 1 (omega arith) (omega arith) (omega arith), omega arith);
      no_less =
          (1 ∷ 3 ∷ [], fits 1 3 (omega arith) (omega arith) (omega arith), omega arith);
    },
    refl,
    refl,
  );
  never_less = λ w h between is. let wide = between.no_more.1.cells 1 first (omega arith) in
      area-least w h (omega (arith, wide, between.no_more.2)) is;
}

two_lines : IsAreaBound side_by_side (WithinPage side_by_side) 2
two_lines = record {
  some = (1 ∷ 1 ∷ [], fits 1 1 (omega arith) (omega arith) (omega arith));
  no_column = λ none. absurd (omega arith);
  columns = λ some. (
    2,
    record {
      areas = 5 ∷ 5 ∷ [];
      end = 9;
      least = (first_area, (second_area, tt));
      greatest = record {
        attained = (1 ∷ 4 ∷ [], fits 1 4 (omega arith) (omega arith) (omega arith), refl);
        never_more =
            λ widths is. ends widths is.columns is.page;
      };
      rounded = record { enough = omega arith; least = λ other enough. omega arith };
    },
    refl,
  );
} where
  ends : (widths : List ℕ) → length widths ≡ 2 → total 2 0 widths ≤ 7 → position 2 widths 2 ≤ 9
  ends [] columns page = absurd (omega arith)
  ends (a ∷ []) columns page = absurd (omega arith)
  ends (a ∷ b ∷ []) columns page = omega arith
  ends (a ∷ b ∷ c ∷ more) columns page = absurd (omega arith)
