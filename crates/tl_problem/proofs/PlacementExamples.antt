-- Placements of the problem of two columns, counted by hand: the opening has the least widths, 1 and 2, under which the
-- wide cell needs three lines; of widths 1 and 6 the tight placement has 1 and 4, under which it needs two, as before.
use Rattle.std.proofs.Common.{inl, inr, ◌≡◌, ℕ, ◌+◌, ◌≤◌, zero, suc, List, [], ◌∷◌, length, Some, refl, sym, subst, arith}
use Rattle.std.specs.Option.{IsSomeAnd}
use Rattle.std.proofs.lemmas.Bool.{cases_lt}
use Rattle.std.proofs.lemmas.List.Elements.{All-from_recursion}
use Rattle.tl_base.specs.Steps.{height_at, IsLowAt}
use Rattle.tl_problem.specs.declared.cell.Cell.{Cell}
use Rattle.tl_problem.specs.declared.placed.Placed.{Placed}
use Rattle.tl_base.specs.Sizes.{position, room}
use Rattle.tl_problem.specs.Problem.{cell_width, cell_height}
use Rattle.tl_problem.specs.Layouts.{WithinPage, GiveHigh}
use Rattle.tl_problem.specs.Placements.{AreLeast, IsOpening}
use Rattle.tl_problem.specs.Tight.{KeepHigh, IsTightFrom}
use Rattle.tl_problem.proofs.Heights.{test_le, test_le_false, IsLowAt-wider}
use Rattle.tl_problem.proofs.Examples.{step, cell, wide, problem, within}
use Rattle.tl_problem.proofs.BoundExamples.{decreasing}

abbrev placed : List ℕ → List ℕ → ℕ → ℕ → Placed
placed widths heights width height = record { widths = widths; heights = heights; width = width; height = height }

-- two sizes whose places are no greater than those of each other two of a kind
two-least : (gap : ℕ) (OfKind : List ℕ → Type 0) (first second : ℕ) → OfKind (first ∷ second ∷ []) →
    ((other : List ℕ) → OfKind other → (length other ≡ 2) × ((first ≤ room gap other 0 1) ×
    (first + second ≤ room gap other 0 1 + room gap other 1 2))) → AreLeast gap OfKind (first ∷ second ∷ [])
two-least gap OfKind first second kind each = record {
  kind = kind;
  earliest = λ other also place inside. let facts = each other also in
      at other facts.0 facts.1.0 facts.1.1 place inside;
} where
  at : (other : List ℕ) → length other ≡ 2 → first ≤ room gap other 0 1 →
      first + second ≤ room gap other 0 1 + room gap other 1 2 → (place : ℕ) →
      place ≤ 2 → position gap (first ∷ second ∷ []) place ≤ position gap other place
  at [] two one both place inside = absurd (omega arith)
  at (a ∷ []) two one both place inside = absurd (omega arith)
  at (a ∷ b ∷ c ∷ more) two one both place inside = absurd (omega arith)
  at (a ∷ b ∷ []) two one both zero inside = omega arith
  at (a ∷ b ∷ []) two one both (suc zero) inside = omega (arith, one)
  at (a ∷ b ∷ []) two one both (suc (suc zero)) inside = omega (arith, both)
  at (a ∷ b ∷ []) two one both (suc (suc (suc place))) inside = absurd (omega arith)

-- a cell that has a width needs no more lines than it has
line-needs : (w width h : ℕ) → width ≤ w → IsLowAt (step width 1 ∷ []) h w → 1 ≤ h
line-needs w width h wider low = rw (test_le width w wider) at low

-- the heights that are least under some widths, where the wide cell needs so many lines
rows-least : (widths : List ℕ) (need : ℕ) → (height_at wide.high (room 2 widths 0 2) ≡ Some need) → 1 ≤ room 2 widths 0 1 →
    2 ≤ room 2 widths 1 2 →
    AreLeast 0 (GiveHigh problem widths) (need ∷ 1 ∷ [])
rows-least widths need is first second =
    two-least 0 (GiveHigh problem widths) need 1
    (record {
      rows = refl;
      cells = All-from_recursion Given problem.cells (
        subst (λ o. IsSomeAnd o (λ height. height ≤ cell_height problem (need ∷ 1 ∷ []) wide)) (sym is) (omega arith),
        (short 1 (room 2 widths 0 1) first, (short 2 (room 2 widths 1 2) second, tt)),
      );
    })
    (λ heights give.
    let tall = subst (λ o. IsSomeAnd o (λ height. height ≤ cell_height problem heights wide)) is
    (give.cells 0 wide (omega arith)) in
    let line = line-needs (room 2 widths 0 1) 1 (cell_height problem heights (cell 0 1 1 2 [])) first
    (give.cells 1 wide (omega arith)) in
    (give.rows, (omega (arith, tall), omega (arith, tall, line)))) where
      Given : Cell → Type 0
      Given c = IsLowAt c.high (cell_height problem (need ∷ 1 ∷ []) c) (cell_width problem widths c)

      short : (width w : ℕ) → width ≤ w → IsLowAt (step width 1 ∷ []) (room 0 (need ∷ 1 ∷ []) 1 2) w
      short width w wider = rw (test_le width w wider) (omega arith)

-- the opening
opening : IsOpening problem (placed (1 ∷ 2 ∷ []) (3 ∷ 1 ∷ []) 5 4)
opening = record {
  columns = two-least 2 (WithinPage problem) 1 2 (within 1 2 (omega arith) (omega arith) (omega arith))
      (λ other is. let one = is.cells 1 wide (omega arith) in let two = is.cells 2 wide (omega arith) in
      (is.columns, (omega (arith, one), omega (arith, one, two))));
  placement = record {
    page = within 1 2 (omega arith) (omega arith) (omega arith);
    rows =
        rows-least (1 ∷ 2 ∷ []) 3 refl (omega arith) (omega arith);
    width = refl;
    height = refl;
  };
}

-- two lines are enough for the wide cell in seven columns and no fewer
wide-needs : (w : ℕ) → IsLowAt wide.high 2 w → 7 ≤ w
wide-needs w low =
    elim (cases_lt w 7) [
      | inl narrow ↦ let three = IsLowAt-wider wide.high decreasing 2 w 6 (omega arith) low in absurd (omega (arith, three))
      | inr enough ↦ enough
    ]

-- a cell of one step has its width wherever it has a height
step-needs : (width w : ℕ) → IsLowAt (step width 1 ∷ []) 1 w → width ≤ w
step-needs width w low =
    elim (cases_lt w width) [
      | inl narrow ↦ absurd (rw (test_le_false width w narrow) at low)
      | inr enough ↦ enough
    ]

-- made tight from widths 1 and 6
tight : IsTightFrom problem (1 ∷ 6 ∷ []) (placed (1 ∷ 4 ∷ []) (2 ∷ 1 ∷ []) 7 3)
tight = record {
  columns = two-least 2 (KeepHigh problem (1 ∷ 6 ∷ [])) 1 4
      (record { columns = refl; cells = All-from_recursion Keeps problem.cells (kept 2, (kept 1, (kept 1, tt))) })
      (λ other keep.
      let both = wide-needs (room 2 other 0 2) (keep.cells 0 wide (omega arith) 2 refl) in
      let one = step-needs 1 (room 2 other 0 1) (keep.cells 1 wide (omega arith) 1 refl) in
      (keep.columns, (one, two_rooms other keep.columns both)));
  placement = record {
    page = within 1 4 (omega arith) (omega arith) (omega arith);
    rows =
        rows-least (1 ∷ 4 ∷ []) 2 refl (omega arith) (omega arith);
    width = refl;
    height = refl;
  };
} where
  Keeps : Cell → Type 0
  Keeps c = (h : ℕ) → height_at c.high (cell_width problem (1 ∷ 6 ∷ []) c) ≡ Some h →
      IsLowAt c.high h (cell_width problem (1 ∷ 4 ∷ []) c)

  kept : (need h : ℕ) → Some need ≡ Some h → need ≤ h
  kept need h is = let same : need ≡ h = cc in omega (arith, same)

  two_rooms : (other : List ℕ) → length other ≡ 2 → 7 ≤ room 2 other 0 2 → 5 ≤ room 2 other 0 1 + room 2 other 1 2
  two_rooms [] two both = absurd (omega arith)
  two_rooms (a ∷ []) two both = absurd (omega arith)
  two_rooms (a ∷ b ∷ []) two both = omega arith
  two_rooms (a ∷ b ∷ c ∷ more) two both = absurd (omega arith)
