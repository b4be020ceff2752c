-- Bounds and placements of the problem of two columns, counted by hand. On nine columns the wide cell has at most nine
-- and needs two lines, and one line is below it; where it has at most six it needs three.
use Rattle.std.proofs.Common.{◌≡◌, ℕ, ◌+◌, ◌-◌, ◌<◌, ◌≤◌, zero, suc, List, [], ◌∷◌, length, Some, refl, sym, subst, arith}
use Rattle.std.specs.Option.{IsSomeAnd}
use Rattle.std.proofs.lemmas.List.Elements.{All-from_recursion}
use Rattle.tl_base.specs.declared.steps.Config.{Config}
use Rattle.tl_base.specs.Steps.{AreSteps, height_at, IsLowAt}
use Rattle.tl_base.proofs.Members.{AllPairs-none, AllPairs-cons}
use Rattle.tl_problem.specs.declared.cell.Cell.{Cell}
use Rattle.tl_problem.specs.declared.zone.Range.{Range}
use Rattle.tl_base.specs.Sizes.{room, total}
use Rattle.tl_problem.specs.Problem.{cell_height}
use Rattle.tl_problem.specs.Spans.{spans_of, classes_of}
use Rattle.tl_problem.specs.Zones.{whole_zone, lower_part, span_width, IsWidthOf, InZone}
use Rattle.tl_problem.specs.Bounds.{IsGreatestRoom, IsBound}
use Rattle.tl_problem.proofs.Heights.{test_le, IsLowAt-wider}
use Rattle.tl_problem.proofs.Examples.{step, cell, wide, problem, within}

pub decreasing : AreSteps wide.low
decreasing = record {
  has_step = omega arith;
  decreasing = AllPairs-cons Falls (step 4 3) (step 7 2 ∷ step 12 1 ∷ [])
      (All-from_recursion (Falls (step 4 3)) (step 7 2 ∷ step 12 1 ∷ [])
      ((omega arith, omega arith), ((omega arith, omega arith), tt)))
      (AllPairs-cons Falls (step 7 2) (step 12 1 ∷ []) (All-from_recursion (Falls (step 7 2)) (step 12 1 ∷ [])
      ((omega arith, omega arith), tt))
      (AllPairs-cons Falls (step 12 1) [] (All-from_recursion (Falls (step 12 1)) [] tt) (AllPairs-none Falls)));
} where
  Falls : Config → Config → Type 0
  Falls a b = (a.width < b.width) × (b.height < a.height)

one_step : (width height : ℕ) → AreSteps (step width height ∷ [])
one_step width height = record { has_step = omega arith; decreasing = λ i j d before inside. absurd (omega arith) }

-- ---- bounds

-- a zone of the problem whose widths are all those of the page that give the wide cell at most `most`
module _ (zone : List Range) (most need : ℕ) (some : 5 ≤ most) (is : height_at wide.low most ≡ Some need)
    (fill : (first second : ℕ) → 1 ≤ first → 2 ≤ second → first + second + 2 ≤ most → InZone problem zone (first ∷ second ∷ []))
    (limit : (widths : List ℕ) → InZone problem zone widths → room 2 widths 0 2 ≤ most) where
  at_least : (widths : List ℕ) → InZone problem zone widths → (1 ≤ room 2 widths 0 1) × (2 ≤ room 2 widths 1 2)
  at_least widths inside = (inside.page.cells 1 wide (omega arith), inside.page.cells 2 wide (omega arith))

  first_at_most : (widths : List ℕ) → InZone problem zone widths → room 2 widths 0 1 ≤ most - 4
  first_at_most widths inside = split widths inside.page.columns (limit widths inside) (at_least widths inside) where
    split : (widths : List ℕ) → length widths ≡ 2 → room 2 widths 0 2 ≤ most →
        (1 ≤ room 2 widths 0 1) × (2 ≤ room 2 widths 1 2) → room 2 widths 0 1 ≤ most - 4
    split [] columns both each = absurd (omega arith)
    split (first ∷ []) columns both each = absurd (omega arith)
    split (first ∷ second ∷ []) columns both each = omega arith
    split (first ∷ second ∷ third ∷ more) columns both each = absurd (omega arith)

  second_at_most : (widths : List ℕ) → InZone problem zone widths → room 2 widths 1 2 ≤ most - 3
  second_at_most widths inside = split widths inside.page.columns (limit widths inside) (at_least widths inside) where
    split : (widths : List ℕ) → length widths ≡ 2 → room 2 widths 0 2 ≤ most →
        (1 ≤ room 2 widths 0 1) × (2 ≤ room 2 widths 1 2) → room 2 widths 1 2 ≤ most - 3
    split [] columns both each = absurd (omega arith)
    split (first ∷ []) columns both each = absurd (omega arith)
    split (first ∷ second ∷ []) columns both each = omega arith
    split (first ∷ second ∷ third ∷ more) columns both each = absurd (omega arith)

  -- the greatest rooms of the three cells
  wide_room : IsGreatestRoom problem (InZone problem zone) 0 2 most
  wide_room = record {
    attained = (
      1 ∷ (most - 3) ∷ [],
      fill 1 (most - 3) (omega arith) (omega arith) (omega arith),
      omega arith,
    );
    never_more = limit;
  }

  first_room : IsGreatestRoom problem (InZone problem zone) 0 1 (most - 4)
  first_room = record {
    attained = (
      (most - 4) ∷ 2 ∷ [],
      fill (most - 4) 2 (omega arith) (omega arith) (omega arith),
      omega arith,
    );
    never_more = first_at_most;
  }

  second_room : IsGreatestRoom problem (InZone problem zone) 1 2 (most - 3)
  second_room = record {
    attained = (1 ∷ (most - 3) ∷ [], fill 1 (most - 3) (omega arith) (omega arith) (omega arith), omega arith);
    never_more =
        second_at_most;
  }

  -- the wide cell as high as it needs, and one line below it
  pub bound : IsBound problem (InZone problem zone) (need + 1)
  bound = record {
    some = (1 ∷ (most - 3) ∷ [], fill 1 (most - 3) (omega arith) (omega arith) (omega arith));
    least = record {
      attained = (
        need ∷ 1 ∷ [],
        record {
          rows = refl;
          cells =
              All-from_recursion Given problem.cells (tall, (short_first, (short_second, tt)));
        },
        omega arith,
      );
      never_less = λ heights give.
          let one = subst (λ o. IsSomeAnd o (λ height. height ≤ cell_height problem heights wide)) is
          (give.cells 0 wide (omega arith) most wide_room) in
          two_rows heights give.rows one (line heights (most - 4) (omega arith)
          (give.cells 1 wide (omega arith) (most - 4) first_room));
    };
  } where
    Given : Cell → Type 0
    Given c = (w : ℕ) → IsGreatestRoom problem (InZone problem zone) c.left c.right w →
        IsLowAt c.low (cell_height problem (need ∷ 1 ∷ []) c) w

    tall : Given wide
    tall w greatest =
        let more = greatest.never_more (1 ∷ (most - 3) ∷ []) (fill 1 (most - 3) (omega arith) (omega arith) (omega arith)) in
        IsLowAt-wider wide.low decreasing (cell_height problem (need ∷ 1 ∷ []) wide) most w (omega (arith, more))
        (subst (λ o. IsSomeAnd o (λ height. height ≤ cell_height problem (need ∷ 1 ∷ []) wide)) (sym is) (omega arith))

    short_first : Given (cell 0 1 1 2 (step 1 1 ∷ []))
    short_first w greatest =
        let more = greatest.never_more (1 ∷ (most - 3) ∷ []) (fill 1 (most - 3) (omega arith) (omega arith) (omega arith)) in
        IsLowAt-wider (step 1 1 ∷ []) (one_step 1 1) 1 1 w (omega (arith, more)) (omega arith)

    short_second : Given (cell 1 2 1 2 (step 2 1 ∷ []))
    short_second w greatest =
        let more = greatest.never_more (1 ∷ (most - 3) ∷ []) (fill 1 (most - 3) (omega arith) (omega arith) (omega arith)) in
        IsLowAt-wider (step 2 1 ∷ []) (one_step 2 1) 1 2 w (omega (arith, more)) (omega arith)

    line : (heights : List ℕ) (w : ℕ) → 1 ≤ w → IsLowAt (step 1 1 ∷ []) (room 0 heights 1 2) w → 1 ≤ room 0 heights 1 2
    line heights w enough low = rw (test_le 1 w enough) at low

    two_rows : (heights : List ℕ) → length heights ≡ 2 → need ≤ cell_height problem heights (cell 0 2 0 1 []) →
        1 ≤ room 0 heights 1 2 →
        need + 1 ≤ total 0 0 heights
    two_rows [] rows tall short = absurd (omega arith)
    two_rows (first ∷ []) rows tall short = absurd (omega arith)
    two_rows (first ∷ second ∷ []) rows tall short = omega arith
    two_rows (first ∷ second ∷ third ∷ more) rows tall short = absurd (omega arith)

-- each span of the problem has a width of its range's classes where the wide cell has one
module _ (zone : List Range) (widths : List ℕ) where
  ranges-from : IsWidthOf problem zone 0 (span_width problem widths 0) → IsWidthOf problem zone 1 (span_width problem widths 1) →
      IsWidthOf problem zone 2 (span_width problem widths 2) → length zone ≡ 3 →
      (s : ℕ) → s < length zone → IsWidthOf problem zone s (span_width problem widths s)
  ranges-from first both second three zero inside = first
  ranges-from first both second three (suc zero) inside = both
  ranges-from first both second three (suc (suc zero)) inside = second
  ranges-from first both second three (suc (suc (suc s))) inside = absurd (omega arith)

in_whole : (first second : ℕ) → 1 ≤ first → 2 ≤ second → first + second + 2 ≤ 9 →
    InZone problem (whole_zone problem) (first ∷ second ∷ [])
unfolding spans_of classes_of
in_whole first second some more page = record {
  page = within first second some more (omega arith);
  ranges = ranges-from (whole_zone problem) (first ∷ second ∷ []) (omega arith, omega arith) (omega arith, omega arith)
      (omega arith, omega arith) refl;
}

whole_at_most : (widths : List ℕ) → InZone problem (whole_zone problem) widths → room 2 widths 0 2 ≤ 9
unfolding spans_of classes_of
whole_at_most widths inside = (inside.ranges 1 (omega arith)).1

-- the bound of the whole
pub whole_bound : IsBound problem (InZone problem (whole_zone problem)) 3
whole_bound = bound (whole_zone problem) 9 2 (omega arith) refl in_whole whole_at_most

in_narrow : (first second : ℕ) → 1 ≤ first → 2 ≤ second → first + second + 2 ≤ 6 →
    InZone problem (lower_part (whole_zone problem) 1 0) (first ∷ second ∷ [])
unfolding spans_of classes_of
in_narrow first second some more page = record {
  page = within first second some more (omega arith);
  ranges = ranges-from (lower_part (whole_zone problem) 1 0) (first ∷ second ∷ []) (omega arith, omega arith) (
    omega arith,
    omega arith,
  ) (omega arith, omega arith) refl;
}

narrow_at_most : (widths : List ℕ) → InZone problem (lower_part (whole_zone problem) 1 0) widths → room 2 widths 0 2 ≤ 6
unfolding spans_of classes_of
narrow_at_most widths inside = (inside.ranges 1 (omega arith)).1

-- the bound of its part up to six columns
pub narrow_bound : IsBound problem (InZone problem (lower_part (whole_zone problem) 1 0)) 4
narrow_bound = bound (lower_part (whole_zone problem) 1 0) 6 3 (omega arith) refl in_narrow narrow_at_most
