-- The shared bound of a table of two columns, counted by hand, on 21 columns of text, of which the columns have 19:
--
--   aaaaa bbbb   ccccc dddd      two lines from 5 columns on, one from 10 on
--   e            f               one line
--
-- Each upper cell alone may have 10 columns, so the chain is one line and one more. But both cannot have them: together they
-- need three lines at least, and with the lower ones five. With a weight of 1 for each cell each row bears 2, and five lines
-- in two columns are three.
use Rattle.tl_base.specs.Style.{spacing_of}
use Rattle.std.proofs.Common.{◌≡◌, ℕ, ◌+◌, ◌*◌, ◌<◌, ◌≤◌, zero, suc, List, [], ◌∷◌, length, get_or, refl, ap}
use Rattle.std.proofs.Common.{inl, inr, unwrap_or, arith}
use Rattle.std.proofs.lemmas.Bool.{cases_lt}
use Rattle.std.proofs.lemmas.List.Elements.{All-from_recursion}
use Rattle.tl_base.specs.declared.style.Style.TheVariants.{Plain}
use Rattle.tl_base.specs.declared.steps.Config.{Config}
use Rattle.tl_base.specs.Steps.{first_width, height_at}
use Rattle.tl_base.specs.Sizes.{position, room, total}
use Rattle.tl_problem.specs.declared.weighting.Weighting.{Weighting}
use Rattle.tl_problem.specs.Problem.{ProblemModel, cell_width}
use Rattle.tl_problem.specs.Layouts.{WithinPage}
use Rattle.tl_problem.specs.Spans.{spans_of}
use Rattle.tl_problem.specs.Zones.{span_at, span_width}
use Rattle.tl_problem.specs.Shares.{AreLoose, IsShareBound, IsWeighting, load, sum_over, weight_on}
use Rattle.tl_problem.proofs.Heights.{test_le, test_le_false}
use Rattle.tl_problem.proofs.Examples.{step, cell}

abbrev long : List Config
long = step 5 2 ∷ step 10 1 ∷ []

abbrev short : List Config
short = step 1 1 ∷ []

abbrev shared : ProblemModel
shared = record {
  cols = 2;
  rows = 2;
  spacing = spacing_of Plain 0;
  width = 21;
  cells = cell 0 1 0 1 long ∷ cell 1 2 0 1 long ∷ cell 0 1 1 2 short ∷ cell 1 2 1 2 short ∷ [];
}

abbrev prices : List ℕ
prices = 0 ∷ 0 ∷ []

abbrev even : Weighting
even = record { divisor = 2; weights = 1 ∷ 1 ∷ 1 ∷ 1 ∷ []; multipliers = prices }

fits : (a b : ℕ) → 5 ≤ a → 5 ≤ b → a + b ≤ 19 → WithinPage shared (a ∷ b ∷ [])
fits a b one other page = record {
  columns = refl;
  page = omega arith;
  cells = All-from_recursion (λ c. first_width c.low ≤ cell_width shared (a ∷ b ∷ []) c) shared.cells
      (omega arith, (omega arith, (omega arith, (omega arith, tt))));
}

-- the lines of a long cell
abbrev lines_of_long : ℕ → ℕ
lines_of_long w = unwrap_or (height_at long w) 0

long-two : (w : ℕ) → 5 ≤ w → w < 10 → lines_of_long w ≡ 2
long-two w some narrow = rw (test_le 5 w some, test_le_false 10 w narrow) refl

long-one : (w : ℕ) → 10 ≤ w → lines_of_long w ≡ 1
long-one w enough = rw (test_le 5 w (omega (arith, enough)), test_le 10 w enough) refl

-- on 19 columns two of them need three lines together
long-both : (a b : ℕ) → 5 ≤ a → 5 ≤ b → a + b ≤ 19 → 3 ≤ lines_of_long a + lines_of_long b
long-both a b one other page =
    elim (cases_lt a 10) [
      | inl narrow ↦ elim (cases_lt b 10) [
        | inl also ↦ omega (arith, long-two a one narrow, long-two b other also)
        | inr enough ↦ omega (arith, long-two a one narrow, long-one b enough)
      ]
      | inr enough ↦ elim (cases_lt b 10) [
        | inl narrow ↦ omega (arith, long-one a enough, long-two b other narrow)
        | inr also ↦ absurd (omega (arith, enough, also, page))
      ]
    ]

short-one : (w : ℕ) → 1 ≤ w → unwrap_or (height_at short w) 0 ≡ 1
short-one w some = rw (test_le 1 w some) refl

loose : AreLoose shared (WithinPage shared) (10 ∷ 9 ∷ []) (room 2 (10 ∷ 9 ∷ []))
loose = record {
  columns = refl;
  each = λ left right ahead within. record {
    no_more = (10 ∷ 9 ∷ [], fits 10 9 (omega arith) (omega arith) (omega arith), omega arith);
    no_less = (10 ∷ 9 ∷ [], fits 10 9 (omega arith) (omega arith) (omega arith), omega arith);
  };
  single = λ column within. first_two column within;
  end = (10 ∷ 9 ∷ [], fits 10 9 (omega arith) (omega arith) (omega arith), omega arith);
} where
  first_two : (column : ℕ) → column < 2 → room 2 (10 ∷ 9 ∷ []) column (column + 1) ≡ get_or (10 ∷ 9 ∷ []) column 0
  first_two zero within = refl
  first_two (suc zero) within = refl
  first_two (suc (suc column)) within = absurd (omega arith)

-- no span pays for its room
no_price : (s : ℕ) → get_or prices s 0 ≡ zero
no_price zero = refl
no_price (suc zero) = refl
no_price (suc (suc s)) = refl

nothing : (f : ℕ → ℕ) (n : ℕ) → sum_over (λ s. get_or prices s 0 * f s) n ≡ zero
nothing f zero = refl
nothing f (suc n) = omega (arith, nothing f n, ap (λ price. price * f n) (no_price n))

even-is : IsWeighting shared even
unfolding spans_of
even-is = record {
  some = omega arith;
  few = omega arith;
  cells = refl;
  rows = λ row below. two_rows row below;
  spans = two_spans;
  several = λ s one. no_price s;
  cheap = λ s. omega (arith, no_price s);
} where
  two_rows : (row : ℕ) → row < 2 → sum_over (weight_on shared even.weights row) 4 ≤ 2
  two_rows zero below = omega arith
  two_rows (suc zero) below = omega arith
  two_rows (suc (suc row)) below = absurd (omega arith)

  two_spans : 2 ≡ length (spans_of shared)
  two_spans = refl

-- no loose widths need less
needs : (widths : List ℕ) (rooms : ℕ → ℕ → ℕ) → AreLoose shared (WithinPage shared) widths rooms →
    5 ≤ load shared even widths rooms
needs widths rooms are =
    let a = rooms 0 1 in
    let b = rooms 1 2 in
    let first = are.each 0 1 (omega arith) (omega arith) in
    let second = are.each 1 2 (omega arith) (omega arith) in
    let wide = first.no_more.1.cells 0 (cell 0 1 0 1 long) (omega arith) in
    let wide_too = second.no_more.1.cells 1 (cell 1 2 0 1 long) (omega arith) in
    let one : 5 ≤ a = omega (arith, first.no_more.2, wide) in
    let other : 5 ≤ b = omega (arith, second.no_more.2, wide_too) in
    let page = ends are.end.0 are.end.1.columns are.end.1.page in
    let sum = both widths are.columns are.single are.end.2 in
    let lines = long-both a b one other (omega (arith, sum, page)) in
    let none = nothing (span_width shared widths) (length (spans_of shared)) in
    omega (arith, lines, short-one a (omega (arith, one)), short-one b (omega (arith, other)), none) where
      ends : (widths : List ℕ) → length widths ≡ 2 → total 2 0 widths ≤ 21 → position 2 widths 2 ≤ 23
      ends [] columns page = absurd (omega arith)
      ends (a ∷ []) columns page = absurd (omega arith)
      ends (a ∷ b ∷ []) columns page = omega arith
      ends (a ∷ b ∷ c ∷ more) columns page = absurd (omega arith)

      both : (widths : List ℕ) → length widths ≡ 2 →
          ((column : ℕ) → column < 2 → rooms column (column + 1) ≡ get_or widths column 0) →
          position 2 widths 2 ≤ position 2 are.end.0 2 → rooms 0 1 + rooms 1 2 + 4 ≤ position 2 are.end.0 2
      both [] columns single end = absurd (omega arith)
      both (a ∷ []) columns single end = absurd (omega arith)
      both (a ∷ b ∷ []) columns single end = omega (arith, single 0 (omega arith), single 1 (omega arith), end)
      both (a ∷ b ∷ c ∷ more) columns single end = absurd (omega arith)

five : load shared even (10 ∷ 9 ∷ []) (room 2 (10 ∷ 9 ∷ [])) ≡ 5
five = omega (
  arith,
  nothing (span_width shared (10 ∷ 9 ∷ [])) (length (spans_of shared)),
  nothing (λ s. room 2 (10 ∷ 9 ∷ []) (span_at shared s).left (span_at shared s).right) (length (spans_of shared)),
)

three_lines : IsShareBound shared even (WithinPage shared) 3
three_lines = record {
  some = (10 ∷ 9 ∷ [], fits 10 9 (omega arith) (omega arith) (omega arith));
  no_column = λ none. absurd (omega arith);
  columns = λ some. (
    3,
    record {
      taken = 5;
      least = record { attained = (10 ∷ 9 ∷ [], room 2 (10 ∷ 9 ∷ []), loose, five); never_less = needs };
      rounded = record { enough = omega arith; least = λ other enough. omega (arith, enough) };
    },
    refl,
  );
}
