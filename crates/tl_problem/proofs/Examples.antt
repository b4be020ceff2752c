-- The definitions, run on cases counted by hand.
use Rattle.tl_base.specs.Style.{spacing_of}
use Rattle.std.proofs.Common.{◌≡◌, ℕ, ◌+◌, ◌-◌, ◌^◌, ◌≤◌, List, [], ◌∷◌, map, refl, arith}
use Rattle.std.specs.List.{range_with_len}
use Rattle.std.proofs.lemmas.List.Elements.{All-from_recursion}
use Rattle.tl_base.specs.declared.style.Style.TheVariants.{Plain}
use Rattle.tl_base.specs.declared.steps.Config.{Config}
use Rattle.tl_base.specs.Steps.{first_width}
use Rattle.tl_problem.specs.declared.cell.Cell.{Cell}
use Rattle.tl_base.specs.Sizes.{position, room, total}
use Rattle.tl_problem.specs.Problem.{ProblemModel, cell_width}
use Rattle.tl_problem.specs.Layouts.{WithinPage}
use Rattle.tl_problem.specs.Spans.{span, spans_of, classes_of, count_of}
use Rattle.tl_problem.specs.Zones.{range, whole_zone, lower_part, upper_part}

-- ---- the places of two columns, two and one wide, with a gap of two columns

second_column : position 2 (2 ∷ 1 ∷ []) 1 ≡ 4
second_column = refl

one_column : room 2 (2 ∷ 1 ∷ []) 1 2 ≡ 1
one_column = refl

both_columns : room 2 (2 ∷ 1 ∷ []) 0 2 ≡ 5
both_columns = refl

whole_width : total 2 0 (2 ∷ 1 ∷ []) ≡ 5
whole_width = refl

-- with lines around: a gap of one column, and one at each edge
framed_width : total 1 2 (2 ∷ 1 ∷ []) ≡ 6
framed_width = refl

-- no column or row takes no room, not even its edges
no_height : total 1 2 [] ≡ 0
no_height = refl

-- ---- a problem of two columns: a cell over both, of the words `aaaa bbbb cc`, and below it `x` and `yy`, on a page of
-- nine columns. These are its two lowest layouts, of the classes from 7 columns on and from 4 columns on:
--
--   aaaa       aaaa
--   bbbb cc    bbbb
--   x  yy      cc
--              x  yy

abbrev pub step : ℕ → ℕ → Config
step width height = record { width = width; height = height }

abbrev pub cell : ℕ → ℕ → ℕ → ℕ → List Config → Cell
cell left right top bottom steps = record { left = left; right = right; top = top; bottom = bottom; low = steps; high = steps }

abbrev pub wide : Cell
wide = cell 0 2 0 1 (step 4 3 ∷ step 7 2 ∷ step 12 1 ∷ [])

abbrev pub problem : ProblemModel
problem = record {
  cols = 2;
  rows = 2;
  spacing = spacing_of Plain 0;
  width = 9;
  cells =
      wide ∷ cell 0 1 1 2 (step 1 1 ∷ []) ∷ cell 1 2 1 2 (step 2 1 ∷ []) ∷ [];
}

-- spans by left, then right
three_spans : spans_of problem ≡ span 0 1 ∷ span 0 2 ∷ span 1 2 ∷ []
unfolding spans_of
three_spans = refl

-- the wide cell's last step begins past the page
two_classes : classes_of problem (span 0 2) ≡ 4 ∷ 7 ∷ []
unfolding classes_of
two_classes = refl

one_class : classes_of problem (span 1 2) ≡ 2 ∷ []
unfolding classes_of
one_class = refl

two_vectors : count_of problem ≡ 2
unfolding spans_of classes_of
two_vectors = refl

-- 32 columns of four classes each have 2 ^ 64 vectors: the count stops one before
abbrev many : ProblemModel
many = record {
  cols = 32;
  rows = 1;
  spacing = spacing_of Plain 0;
  width = 190;
  cells =
      map (λ column. cell column (column + 1) 0 1 (step 1 4 ∷ step 2 3 ∷ step 3 2 ∷ step 4 1 ∷ [])) (range_with_len 0 32);
}

count_stops : count_of many ≡ 2 ^ 64 - 1
unfolding spans_of classes_of
count_stops = refl

-- the classes by number
the_whole : whole_zone problem ≡ range 0 0 ∷ range 0 1 ∷ range 0 0 ∷ []
unfolding spans_of classes_of
the_whole = refl

narrow_part : lower_part (whole_zone problem) 1 0 ≡ range 0 0 ∷ range 0 0 ∷ range 0 0 ∷ []
unfolding spans_of classes_of
narrow_part = refl

wide_part : upper_part (whole_zone problem) 1 0 ≡ range 0 0 ∷ range 1 1 ∷ range 0 0 ∷ []
unfolding spans_of classes_of
wide_part = refl

-- widths of a sum that the page has room for are within it
pub within : (first second : ℕ) → 1 ≤ first → 2 ≤ second → first + second ≤ 7 → WithinPage problem (first ∷ second ∷ [])
within first second some more page = record {
  columns = refl;
  page = omega arith;
  cells = All-from_recursion (λ c. first_width c.low ≤ cell_width problem (first ∷ second ∷ []) c) problem.cells (
    omega arith,
    (omega arith, (omega arith, tt)),
  );
}
