-- The definitions, run on tables counted by hand.
use Rattle.std.proofs.Common.{◌≡◌, ℕ, true, false, List, [], ◌∷◌, refl}
use Rattle.tl_grid.specs.declared.shape.SpanOf.{SpanOf}
use Rattle.tl_grid.specs.declared.shape.ShapeGroup.{ShapeGroup}
use Rattle.tl_grid.specs.declared.shape.Shape.{Shape}
use Rattle.tl_grid.specs.declared.shape.Place.{Place}
use Rattle.tl_grid.specs.Forming.{formed}
use Rattle.tl_grid.specs.Overlap.{numbers_over}
use Rattle.tl_grid.specs.Dropping.{ArePlaces, kept_column_count, kept_row_count}

-- a cell of these spans
abbrev cell : ℕ → ℕ → SpanOf
cell colspan rowspan = record { colspan = colspan; rowspan = rowspan }

-- a group that is no footer
abbrev body : List (List SpanOf) → ShapeGroup
body rows = record { foot = false; rows = rows }

-- a footer
abbrev foot : List (List SpanOf) → ShapeGroup
foot rows = record { foot = true; rows = rows }

-- a table of these groups
abbrev table : List ShapeGroup → Shape
table groups = record { columns = 0; groups = groups }

-- a place, by its edges
abbrev place : ℕ → ℕ → ℕ → ℕ → Place
place left right top bottom =
    record { left = left; right = right; top = top; bottom = bottom }

-- A grows to the end of its row group, which B makes three rows high; C begins the next group.
--     A B
--     A B  (no cell begins in these two rows,
--     A B   so they are dropped)
--     C C
abbrev growing : Shape
growing = table
    (body ((cell 1 0 ∷ cell 1 3 ∷ []) ∷ []) ∷ body ((cell 2 1 ∷ []) ∷ []) ∷ [])

-- before dropping the standard leaves row 1 out of A
growing_rows : numbers_over 0 0 (formed growing).cells ≡ 0 ∷ []
growing_rows = refl

-- the row after its group's last
growing_left_out : numbers_over 0 1 (formed growing).cells ≡ []
growing_left_out = refl

-- the last row that B reaches
growing_last : numbers_over 0 2 (formed growing).cells ≡ 0 ∷ []
growing_last = refl

-- the next group
growing_next : numbers_over 0 3 (formed growing).cells ≡ 2 ∷ []
growing_next = refl

-- after dropping
growing_column_count : kept_column_count growing ≡ 2
growing_column_count = refl

-- and its rows
growing_row_count : kept_row_count growing ≡ 2
growing_row_count = refl

-- the places
growing_places : ArePlaces growing (place 0 1 0 1 ∷ place 1 2 0 1 ∷ place 0 2 1 2 ∷ [])
growing_places = record { as_many = refl; each = (refl, (refl, (refl, tt))) }

-- A footer that is written first goes to the end, and keeps its place among the cells as written.
--     A
--     A (dropped)
--     F
abbrev foot_first : Shape
foot_first = table
    (foot ((cell 1 1 ∷ []) ∷ []) ∷ body ((cell 1 2 ∷ []) ∷ []) ∷ [])

-- after dropping
foot_first_column_count : kept_column_count foot_first ≡ 1
foot_first_column_count = refl

-- and its rows
foot_first_row_count : kept_row_count foot_first ≡ 2
foot_first_row_count = refl

-- the places
foot_first_places : ArePlaces foot_first (place 0 1 1 2 ∷ place 0 1 0 1 ∷ [])
foot_first_places = record { as_many = refl; each = (refl, (refl, tt)) }

-- C is two columns wide, and B still covers the second.
--     A B
--     C *
abbrev overlapped : Shape
overlapped = table
    (body ((cell 1 1 ∷ cell 1 2 ∷ []) ∷ (cell 2 1 ∷ []) ∷ []) ∷ [])

-- the slot with two cells
overlapped_at : numbers_over 1 1 (formed overlapped).cells ≡ 1 ∷ 2 ∷ []
overlapped_at = refl

-- the slot before it
overlapped_before : numbers_over 0 1 (formed overlapped).cells ≡ 2 ∷ []
overlapped_before = refl

-- A wide cell keeps only the columns in which a cell is anchored, and a row without cells is left
-- out.
--     A A A .
--     (no cell)
--     B C
abbrev wide : Shape
wide = table
    (body ((cell 3 1 ∷ []) ∷ [] ∷ (cell 1 1 ∷ cell 1 1 ∷ []) ∷ []) ∷ [])

-- after dropping
wide_column_count : kept_column_count wide ≡ 2
wide_column_count = refl

-- and its rows
wide_row_count : kept_row_count wide ≡ 2
wide_row_count = refl

-- the places
wide_places : ArePlaces wide (place 0 2 0 1 ∷ place 0 1 1 2 ∷ place 1 2 1 2 ∷ [])
wide_places = record { as_many = refl; each = (refl, (refl, (refl, tt))) }
