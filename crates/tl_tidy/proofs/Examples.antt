-- The definitions, run on a problem that was counted by hand: `a a` and `b` over `c` and `d d`, on six columns. In four
-- lines both columns may be narrow; three are enough for two pages, of which the chosen one has the first column narrow:
--
--   a  b         a  b         a a  b
--   a            a            c    d
--   c  d         c  d d            d
--      d
--
-- The whole zone is cut at the first column. Its lower part, with the chosen page, is cut at the second; there the lower
-- part has the first page alone, which is too high, and the upper part the chosen one. So two cuts are needed.
use Rattle.tl_base.proofs.SizeLaws.{spacing-sound}
use Rattle.tl_base.specs.Style.{spacing_of}
use Rattle.std.proofs.Common.{◌≡◌, ℕ, ◌+◌, ◌<◌, ◌≤◌, zero, suc, List, [], ◌∷◌, ◌⊎◌, inl, inr, length, get_or, refl, arith}
use Rattle.std.specs.List.{AllPairs, Any}
use Rattle.std.proofs.lemmas.List.Elements.{All-from_recursion}
use Rattle.tl_base.specs.declared.style.Style.TheVariants.{Plain}
use Rattle.tl_base.specs.declared.steps.Config.{Config}
use Rattle.tl_base.specs.Steps.{AreSteps, first_width, IsLowAt}
use Rattle.tl_base.proofs.Members.{AllPairs-none, AllPairs-cons}
use Rattle.tl_base.specs.Sizes.{room, total}
use Rattle.tl_problem.specs.declared.cell.Cell.{Cell}
use Rattle.tl_problem.specs.declared.zone.Range.{Range}
use Rattle.tl_problem.specs.Problem.{ProblemModel, cell_width, cell_height}
use Rattle.tl_problem.specs.Layouts.{WithinPage}
use Rattle.tl_problem.specs.Sound.{IsSound, IsSoundCell, ShareSlot}
use Rattle.tl_problem.specs.Spans.{spans_of, classes_of}
use Rattle.tl_problem.specs.Zones.{classes_at, range, range_at, whole_zone, span_width, IsWidthOf}
use Rattle.tl_problem.proofs.Heights.{test_le, test_le_false}
use Rattle.tl_tidy.specs.Classes.{IsBefore, IsLowVector, IsChosenVector}
use Rattle.tl_tidy.specs.Needs.{HasLowBound, ZoneHoldsLow, IsNeed, one_class, lower, both}
use Rattle.tl_tidy.specs.inner.Walk.{HoldsNone}
use Rattle.tl_tidy.proofs.BoundsExist.{low-or_high}
use Rattle.tl_tidy.proofs.WalkLaws.{high-none}

abbrev step : ℕ → ℕ → Config
step width height = record { width = width; height = height }

-- one line of three columns, or two of one
abbrev long : List Config
long = step 1 2 ∷ step 3 1 ∷ []

abbrev short : List Config
short = step 1 1 ∷ []

abbrev cell : ℕ → ℕ → List Config → Cell
cell column row steps =
    record { left = column; right = column + 1; top = row; bottom = row + 1; low = steps; high = steps }

abbrev problem : ProblemModel
problem = record {
  cols = 2;
  rows = 2;
  spacing = spacing_of Plain 0;
  width = 6;
  cells = cell 0 0 long ∷ cell 1 0 short ∷ cell 0 1 short ∷ cell 1 1 long ∷ [];
}

-- two classes for each of the two columns
the_whole : whole_zone problem ≡ range 0 1 ∷ range 0 1 ∷ []
unfolding spans_of classes_of
the_whole = refl

-- ---- the problem is sound

Falls : Config → Config → Type 0
Falls a b = (a.width < b.width) × (b.height < a.height)

long_steps : AreSteps long
unfolding Falls
long_steps = record {
  has_step = omega arith;
  decreasing = AllPairs-cons Falls (step 1 2) (step 3 1 ∷ [])
      (All-from_recursion (Falls (step 1 2)) (step 3 1 ∷ []) ((omega arith, omega arith), tt))
      (AllPairs-cons Falls (step 3 1) [] (All-from_recursion (Falls (step 3 1)) [] tt) (AllPairs-none Falls));
}

short_steps : AreSteps short
short_steps = record { has_step = omega arith; decreasing = λ i j d before inside. absurd (omega arith) }

sound_cell : (column row : ℕ) (steps : List Config) → column < 2 → row < 2 → AreSteps steps →
    IsSoundCell problem (cell column row steps)
sound_cell column row steps in_columns in_rows are = record {
  columns = (omega arith, omega (arith, in_columns));
  rows = (omega arith, omega (arith, in_rows));
  steps = (are, are);
  same_least = refl;
  low_below = λ h w low. low;
}

Apart : Cell → Cell → Type 0
Apart a b = ShareSlot a b → ⊥

apart : AllPairs Apart problem.cells
unfolding Apart
apart = AllPairs-cons Apart (cell 0 0 long) (cell 1 0 short ∷ cell 0 1 short ∷ cell 1 1 long ∷ [])
    (All-from_recursion (Apart (cell 0 0 long)) (cell 1 0 short ∷ cell 0 1 short ∷ cell 1 1 long ∷ [])
    ((λ share. omega (arith, share.0.1)), ((λ share. omega (arith, share.1.1)), ((λ share. omega (arith, share.0.1)), tt))))
    (AllPairs-cons Apart (cell 1 0 short) (cell 0 1 short ∷ cell 1 1 long ∷ [])
    (All-from_recursion (Apart (cell 1 0 short)) (cell 0 1 short ∷ cell 1 1 long ∷ [])
    ((λ share. omega (arith, share.0.0)), ((λ share. omega (arith, share.1.1)), tt)))
    (AllPairs-cons Apart (cell 0 1 short) (cell 1 1 long ∷ [])
    (All-from_recursion (Apart (cell 0 1 short)) (cell 1 1 long ∷ []) ((λ share. omega (arith, share.0.1)), tt))
    (AllPairs-cons Apart (cell 1 1 long) [] (All-from_recursion (Apart (cell 1 1 long)) [] tt) (AllPairs-none Apart))))

-- widths that the page has room for are within it
within : (first second : ℕ) → 1 ≤ first → 1 ≤ second → first + second ≤ 4 → WithinPage problem (first ∷ second ∷ [])
within first second some more page = record {
  columns = refl;
  page = omega arith;
  cells = All-from_recursion (λ c. first_width c.low ≤ cell_width problem (first ∷ second ∷ []) c) problem.cells (
    omega arith,
    (omega arith, (omega arith, (omega arith, tt))),
  );
}

sound : IsSound problem
unfolding Apart
sound = record {
  spaced = spacing-sound Plain 0 (omega arith);
  few_columns = omega arith;
  few_rows = omega arith;
  narrow = omega arith;
  cells = All-from_recursion (IsSoundCell problem) problem.cells (
    sound_cell 0 0 long (omega arith) (omega arith) long_steps,
    (
      sound_cell 1 0 short (omega arith) (omega arith) short_steps,
      (
        sound_cell 0 1 short (omega arith) (omega arith) short_steps,
        (sound_cell 1 1 long (omega arith) (omega arith) long_steps, tt),
      ),
    ),
  );
  apart = apart;
  columns = columns;
  rows = rows;
  low_enough = omega arith;
  fits = (1 ∷ 1 ∷ [], within 1 1 (omega arith) (omega arith) (omega arith));
} where
  columns : (column : ℕ) → column < 2 → Any (λ c. c.left ≡ column) problem.cells
  columns zero inside = (0, cell 0 0 long, omega arith, refl, refl)
  columns (suc zero) inside = (1, cell 1 0 short, omega arith, refl, refl)
  columns (suc (suc n)) inside = absurd (omega (arith, inside))

  rows : (row : ℕ) → row < 2 → Any (λ c. c.top ≡ row) problem.cells
  rows zero inside = (0, cell 0 0 long, omega arith, refl, refl)
  rows (suc zero) inside = (2, cell 0 1 short, omega arith, refl, refl)
  rows (suc (suc n)) inside = absurd (omega (arith, inside))

-- ---- the chosen layout is low enough, in each zone that has its widths

module _ (zone : List Range) where
  ranges-from : IsWidthOf problem zone 0 1 → IsWidthOf problem zone 1 3 → length zone ≡ 2 →
      (s : ℕ) → s < length zone → IsWidthOf problem zone s (span_width problem (1 ∷ 3 ∷ []) s)
  unfolding spans_of
  ranges-from first second two zero inside = first
  ranges-from first second two (suc zero) inside = second
  ranges-from first second two (suc (suc s)) inside = absurd (omega (arith, two, inside))

  holds-from : IsWidthOf problem zone 0 1 → IsWidthOf problem zone 1 3 → length zone ≡ 2 → ZoneHoldsLow problem 3 zone
  holds-from first second two = record {
    widths = 1 ∷ 3 ∷ [];
    heights = 2 ∷ 1 ∷ [];
    among = record { page = page; ranges = ranges-from first second two };
    layout = record {
      page = page;
      enough = record {
        rows = refl;
        cells = All-from_recursion
            (λ c. IsLowAt c.low (cell_height problem (2 ∷ 1 ∷ []) c) (cell_width problem (1 ∷ 3 ∷ []) c)) problem.cells (
              omega arith,
              (omega arith, (omega arith, (omega arith, tt))),
            );
      };
    };
    low = omega arith;
  } where
    page : WithinPage problem (1 ∷ 3 ∷ [])
    page = within 1 3 (omega arith) (omega arith) (omega arith)

-- ---- where both columns are narrow no layout is

abbrev narrow : List Range
narrow = range 0 0 ∷ range 0 0 ∷ []

two_lines : (h w : ℕ) → 1 ≤ w → w ≤ 2 → IsLowAt long h w → 2 ≤ h
two_lines h w some few low = rw (test_le_false 3 w (omega (arith, few))) at (rw (test_le 1 w some) at low)

four_lines : (heights : List ℕ) → length heights ≡ 2 → 2 ≤ room 0 heights 0 1 → 2 ≤ room 0 heights 1 2 →
    4 ≤ total 0 0 heights
four_lines [] rows first second = absurd (omega arith)
four_lines (h ∷ []) rows first second = absurd (omega arith)
four_lines (h ∷ k ∷ []) rows first second = omega arith
four_lines (h ∷ k ∷ n ∷ more) rows first second = absurd (omega arith)

narrow_none : HoldsNone problem 3 narrow
unfolding spans_of classes_of
narrow_none holds =
    let first = (holds.among.ranges 0 (omega arith)).1 in
    let second = (holds.among.ranges 1 (omega arith)).1 in
    let wide = holds.layout.page.cells 0 (cell 0 0 long) (omega arith) in
    let also = holds.layout.page.cells 3 (cell 0 0 long) (omega arith) in
    let tall = two_lines (room 0 holds.heights 0 1) (room 2 holds.widths 0 1) wide first
    (holds.layout.enough.cells 0 (cell 0 0 long) (omega arith)) in
    let more = two_lines (room 0 holds.heights 1 2) (room 2 holds.widths 1 2) also second
    (holds.layout.enough.cells 3 (cell 0 0 long) (omega arith)) in
    let whole = four_lines holds.heights holds.layout.enough.rows tall more in
    omega (arith, whole, holds.low)

-- ---- the chosen vector

chosen_vector : IsChosenVector problem 3 (0 ∷ 1 ∷ [])
unfolding spans_of classes_of
chosen_vector = record {
  low = record {
    vectors = record { spans = refl; classes = classes };
    holds = holds-from (range 0 0 ∷ range 1 1 ∷ []) (omega arith, omega arith) (omega arith, omega arith) refl;
  };
  first = first;
} where
  classes : (s : ℕ) → s < 2 → get_or (0 ∷ 1 ∷ []) s 0 < length (classes_at problem s)
  classes zero inside = omega arith
  classes (suc zero) inside = omega arith
  classes (suc (suc s)) inside = absurd (omega (arith, inside))

  first : (other : List ℕ) → IsLowVector problem 3 other → (0 ∷ 1 ∷ [] ≡ other) ⊎ IsBefore (0 ∷ 1 ∷ []) other
  first [] low = absurd (omega (arith, low.vectors.spans))
  first (a ∷ []) low = absurd (omega (arith, low.vectors.spans))
  first (a ∷ b ∷ c ∷ more) low = absurd (omega (arith, low.vectors.spans))
  first (suc a ∷ b ∷ []) low = inr (record { span = 0; same = λ s less. absurd (omega (arith, less)); less = omega arith })
  first (zero ∷ zero ∷ []) low = absurd (narrow_none low.holds)
  first (zero ∷ suc zero ∷ []) low = inl refl
  first (zero ∷ suc (suc b) ∷ []) low = absurd (omega (arith, low.vectors.classes 1 (omega arith)))

-- ---- two cuts

low_bound : (zone : List Range) → ZoneHoldsLow problem 3 zone → HasLowBound problem 3 zone
low_bound zone holds =
    elim (low-or_high problem sound 3 zone)
    [ inl low ↦ low | inr high ↦ absurd (high-none problem sound 3 zone high holds) ]

two_cuts : IsNeed problem 3 (whole_zone problem) 2
unfolding spans_of classes_of
two_cuts =
    lower {zone = range 0 1 ∷ range 0 1 ∷ []} {n = 1} 0
    (low_bound (range 0 1 ∷ range 0 1 ∷ [])
    (holds-from (range 0 1 ∷ range 0 1 ∷ []) (omega arith, omega arith) (omega arith, omega arith) refl))
    (record { there = omega arith; more = λ same. omega (arith, same); before = λ t less. absurd (omega (arith, less)) })
    lower_holds
    (both {zone = range 0 0 ∷ range 0 1 ∷ []} {n = 0} {m = 0} 1 (low_bound (range 0 0 ∷ range 0 1 ∷ []) lower_holds)
    (record { there = omega arith; more = λ same. omega (arith, same); before = before })
    narrow_none
    (one_class (All-from_recursion (λ r. r.first ≡ r.last) narrow (refl, (refl, tt))))
    (one_class (All-from_recursion (λ r. r.first ≡ r.last) (range 0 0 ∷ range 1 1 ∷ []) (refl, (refl, tt))))) where
      lower_holds : ZoneHoldsLow problem 3 (range 0 0 ∷ range 0 1 ∷ [])
      lower_holds = holds-from (range 0 0 ∷ range 0 1 ∷ []) (omega arith, omega arith) (omega arith, omega arith) refl

      before : (t : ℕ) → t < 1 → (range_at (range 0 0 ∷ range 0 1 ∷ []) t).first ≡ (range_at (range 0 0 ∷ range 0 1 ∷ []) t).last
      before zero less = refl
      before (suc t) less = absurd (omega (arith, less))
