-- Whole rows and row groups: the walk gives the standard's cells, or the first overlap.
use Rattle.std.proofs.Common.{◌≡◌, ℕ, ◌+◌, ◌<◌, ◌≤◌, max, List, [], ◌∷◌, ◌++◌, map, length, Option, Some, None, Result, Ok, Err}
use Rattle.std.proofs.Common.{refl, sym, ap}
use Rattle.std.proofs.Common.{◌∙◌, subst, inl, inr, arith}
use Rattle.std.specs.List.{filter, AllByRecursion}
use Rattle.std.proofs.lemmas.List.{map-append, length-map}
use Rattle.std.proofs.lemmas.List.Elements.{filter-append}
use Rattle.std.proofs.lemmas.Bool.{cases_lt}
use Rattle.tl_grid.specs.declared.shape.SpanOf.{SpanOf}
use Rattle.tl_grid.specs.declared.block.Block.{Block}
use Rattle.tl_grid.specs.declared.error.GridError.{GridError}
use Rattle.tl_grid.specs.declared.error.GridError.TheVariants.{Memory, TooManyCells, Overlap, TooManyColumns, TooManyRows}
use Rattle.tl_grid.specs.Forming.{FormedCell, Forming, with_cell, form_cells, begin_row, next_row, form_row, form_rows}
use Rattle.tl_grid.specs.Forming.{grown_into}
use Rattle.tl_grid.specs.Overlap.{numbers_over, IsBefore}
use Rattle.tl_grid.specs.inner.OpenBlocks.{reaches, Walk, hit}
use Rattle.tl_grid.specs.inner.Walk.{Row, RowGroup, row_with_cell, walk_of, unless_hit, place_cells, row_of, after_row, then_ok}
use Rattle.tl_grid.specs.inner.Walk.{place_rows}
use Rattle.tl_grid.proofs.Chains.{spot, Chain, chain_append, chain_kept}
use Rattle.tl_grid.proofs.Passing.{passes}
use Rattle.tl_grid.proofs.Cells.{cell_of, AllQuiet, BeginsBy, BeginsAbove, block_number, numbers_here, grown_cells, still_cells}
use Rattle.tl_grid.proofs.Cells.{grown_elsewhere}
use Rattle.tl_grid.proofs.Later.{form_cells_before, form_cells_row, Later, later_rows}
use Rattle.tl_grid.proofs.Rows.{RowMatches, IsWide, IsFoundIn, IsSound, sound_on, column_found, row_step, row_overlap, hit_block}
use Rattle.tl_grid.proofs.Rows.{all_weaken}
use Rattle.tl_grid.proofs.Rows.{one_at_most_here}
use Rattle.tl_grid.specs.inner.States.{BlockEndsBy}

-- the error is the first overlap of the cells, in a row above row n
abbrev pub FoundAbove : ℕ → List FormedCell → GridError → Type 0
FoundAbove n cells (Memory e) = ⊥
FoundAbove n cells (TooManyCells count) = ⊥
FoundAbove n cells (Overlap first second x y) = IsFoundIn cells first second x y × (y < n)
FoundAbove n cells (TooManyColumns count) = ⊥
FoundAbove n cells (TooManyRows count) = ⊥

-- the slots up to a row above row n are above row n
up_to : (n x y x' y' : ℕ) → y < n → IsBefore x' y' x y → y' < n
up_to n x y x' y' lt (inl above) = omega arith
up_to n x y x' y' lt (inr (same, left)) = omega arith

-- it stays so where the slots up to it keep their cells
pub found_kept : (n : ℕ) (cs ds : List FormedCell) (e : GridError) →
    ((x y : ℕ) → y < n → numbers_over x y ds ≡ numbers_over x y cs) → FoundAbove n cs e → FoundAbove n ds e
found_kept n cs ds (Memory e) same f = f
found_kept n cs ds (TooManyCells count) same f = f
found_kept n cs ds (Overlap first second x y) same f =
    let P : List ℕ → Type 0 = λ l. length l ≤ 1 in (
      record {
        two = same x y f.1 ∙ f.0.two;
        before = λ x' y' before. subst P (sym (same x' y' (up_to n x y x' y' f.1 before))) (f.0.before x' y' before);
      },
      f.1,
    )
found_kept n cs ds (TooManyColumns count) same f = f
found_kept n cs ds (TooManyRows count) same f = f

-- a row in the walk is the standard's row, or stops at its first overlap
abbrev pub RowGives : List FormedCell → ℕ → Forming → Result Row GridError → Type 0
RowGives done y s (Ok row) = RowMatches done y s row
RowGives done y s (Err error) = FoundAbove (y + 1) s.cells error

-- what is before a column is before one further right
before_further : (x' y' x z y : ℕ) → x < z → IsBefore x' y' x y → IsBefore x' y' z y
before_further x' y' x z y lt (inl above) = inl above
before_further x' y' x z y lt (inr (same, left)) = inr (same, omega arith)

-- one cell, by whether it runs into a block
row_gives_step : (more : Result Row GridError) (o : Option Block) (span : SpanOf) (spans : List SpanOf)
    (done : List FormedCell) (y number : ℕ) (s : Forming) (r : Row) → AllQuiet y done → IsWide span →
    RowMatches done y s r → hit (walk_of y r).ahead ((walk_of y r).column + span.colspan) ≡ o →
    (o ≡ None → RowGives done y (form_cells (number + 1) ((walk_of y r).column + span.colspan) spans
    (with_cell number (walk_of y r).column span s)) more) →
    RowGives done y (form_cells (number + 1) ((walk_of y r).column + span.colspan) spans
    (with_cell number (walk_of y r).column span s)) (unless_hit o number y more)
row_gives_step more None span spans done y number s r quiet wide m found rest = rest refl
row_gives_step more (Some b) span spans done y number s r quiet wide m found rest =
    let w : Walk = walk_of y r in
    let t : Forming = with_cell number w.column span s in
    let at_row : s.row ≡ y = m.at_row in
    let f : IsFoundIn t.cells b.number number b.left y = row_overlap done y number span s r b quiet wide m found in
    let (ahead, is) = hit_block y w.column (w.column + span.colspan) w.ahead b
    (passes y r.ahead r.column r.passed m.prefix m.rest).begins found in
    let left : b.left < w.column + span.colspan = is.3 in
    let P : List ℕ → Type 0 = λ l. length l ≤ 1 in (
      record {
        two = form_cells_before spans (number + 1) (w.column + span.colspan) t b.left y (inr (sym at_row, left)) ∙ f.two;
        before = λ x' y' before.
            let Q : ℕ → Type 0 = λ row. IsBefore x' y' (w.column + span.colspan) row in
            subst P (sym (form_cells_before spans (number + 1) (w.column + span.colspan) t x' y'
            (subst Q (sym at_row) (before_further x' y' b.left (w.column + span.colspan) y left before))))
            (f.before x' y' before);
      },
      omega arith,
    )

-- a whole row
pub row_gives : (spans : List SpanOf) (done : List FormedCell) (y number : ℕ) (s : Forming) (r : Row) →
    AllQuiet y done → AllByRecursion IsWide spans → RowMatches done y s r →
    RowGives done y (form_cells number r.column spans s) (place_cells y number r spans)
row_gives [] done y number s r quiet wide m = m
row_gives (span ∷ spans) done y number s r quiet wide m =
    let w : Walk = walk_of y r in
    let P : ℕ → Type 0 = λ x. RowGives done y (form_cells (number + 1) (x + span.colspan) spans
    (with_cell number x span s)) (place_cells y number r (span ∷ spans)) in
    subst P (sym (column_found done y s r quiet m))
    (row_gives_step (place_cells y (number + 1) (row_with_cell y number span r w) spans)
    (hit w.ahead (w.column + span.colspan)) span spans done y number s r quiet wide.0 m refl
    (λ none. row_gives spans done y (number + 1)
    (with_cell number w.column span s) (row_with_cell y number span r w) quiet wide.1
    (row_step done y number span s r quiet wide.0 m none)))

-- a row group in the standard's steps and in the walk, between two rows
pub record GroupMatches (done : List FormedCell) (s : Forming) (g : RowGroup) : Type 0 where
  pub cells : s.cells ≡ done ++ map (cell_of g.row) g.blocks
  pub at_row : s.row ≡ g.row
  pub high : s.height ≡ g.height
  pub within : AllByRecursion (BlockEndsBy s.width) g.open_blocks
  pub tops : AllByRecursion (BeginsAbove g.row) g.blocks
  pub sound : AllByRecursion (IsSound s.width g.height) g.blocks
  pub low : g.row ≤ g.height
  pub same : (x' y' : ℕ) → g.row ≤ y' → filter (spot x' y') g.blocks ≡ filter (spot x' y') g.open_blocks
  pub chain : Chain 0 (filter (reaches g.row) g.open_blocks)
  pub past : (x' y' : ℕ) → y' < g.row → length (numbers_over x' y' s.cells) ≤ 1
  pub quiet : AllQuiet g.row done

-- the cells when a row begins
begun_cells : (done : List FormedCell) (y : ℕ) (bs : List Block) → AllQuiet y done →
    AllByRecursion (BeginsAbove y) bs →
    map (grown_into y) (done ++ map (cell_of y) bs) ≡ done ++ map (cell_of (y + 1)) bs
begun_cells done y bs quiet tops =
    map-append (grown_into y) done (map (cell_of y) bs)
    ∙ ap (λ l. l ++ map (grown_into y) (map (cell_of y) bs)) (still_cells y y done quiet)
    ∙ ap (λ l. done ++ l) (grown_cells y bs tops)

-- a row begins
row_begins : (done : List FormedCell) (s : Forming) (g : RowGroup) → GroupMatches done s g →
    RowMatches done g.row (begin_row s) (row_of g)
row_begins done s g m =
    let at_row : s.row ≡ g.row = m.at_row in
    record {
      cells = ap (λ row. map (grown_into row) s.cells) at_row ∙ ap (map (grown_into g.row)) m.cells
          ∙ begun_cells done g.row g.blocks m.quiet m.tops;
      at_row = at_row;
      high = ap (λ h. max h (s.row + 1)) m.high ∙ ap (λ row. max g.height (row + 1)) at_row;
      wide = omega arith;
      within = m.within;
      tops = all_weaken (BeginsAbove g.row) (BeginsBy g.row) (λ b h. omega arith) g.blocks m.tops;
      sound = all_weaken (IsSound s.width g.height) (IsSound s.width (max g.height (g.row + 1)))
          (sound_on s.width s.width g.height (max g.height (g.row + 1)) (omega arith) (omega arith)) g.blocks m.sound;
      low = omega arith;
      same = m.same;
      prefix = omega arith;
      rest = m.chain;
      past = λ x' y' lt.
          let P : List ℕ → Type 0 = λ l. length l ≤ 1 in
          subst P (sym (grown_elsewhere x' s.row y' (λ e. omega arith) s.cells)) (m.past x' y' lt);
    }

-- a quiet cell is quiet from any later row on
pub quiet_on : (y z : ℕ) → y ≤ z → (cs : List FormedCell) → AllQuiet y cs → AllQuiet z cs
quiet_on y z le [] q = tt
quiet_on y z le (c ∷ cs) q =
    (record { still = q.0.still; above = λ row h. q.0.above row (omega arith) }, quiet_on y z le cs q.1)

-- a row ends
row_ends : (done : List FormedCell) (y : ℕ) (s : Forming) (r : Row) → AllQuiet y done → RowMatches done y s r →
    GroupMatches done (next_row s) (after_row y r)
row_ends done y s r quiet m =
    let at_row : s.row ≡ y = m.at_row in
    let low : y < r.height = m.low in
    let Q : List Block → Type 0 = λ l. Chain 0 l in
    let all_open : Chain 0 (filter (reaches y) (r.passed ++ r.ahead)) =
    subst Q (sym (filter-append (reaches y) r.passed r.ahead))
    (chain_append 0 r.column (filter (reaches y) r.passed) (filter (reaches y) r.ahead) m.prefix m.rest) in
    record {
      cells = m.cells;
      at_row = ap (λ row. row + 1) at_row;
      high = m.high;
      within = m.within;
      tops = all_weaken (BeginsBy y) (BeginsAbove (y + 1)) (λ b h. omega arith) r.blocks m.tops;
      sound = m.sound;
      low = omega arith;
      same = λ x' y' le. m.same x' y' (omega arith);
      chain = chain_kept 0 y (y + 1) (omega arith) (r.passed ++ r.ahead) all_open;
      past = λ x' y' lt. elim (cases_lt y' y) [
        | inl above ↦ m.past x' y' above
        | inr here ↦
            let same : y' ≡ y = omega arith in
            let P : List ℕ → Type 0 = λ l. length l ≤ 1 in
            let one : length (filter (spot x' y) r.blocks) ≤ 1 = one_at_most_here done y s r x' m in
            subst P (sym (ap (λ row. numbers_over x' row s.cells) same ∙ ap (numbers_over x' y)
            m.cells ∙ numbers_here x' y done r.blocks quiet m.tops))
            (rw (length-map (filter (spot x' y) r.blocks) block_number) one)
      ];
      quiet = quiet_on y (y + 1) (omega arith) done quiet;
    }

-- the rows of a group in the walk are the standard's, or stop at their first overlap
abbrev pub RowsGive : List FormedCell → Forming → Result RowGroup GridError → Type 0
RowsGive done s (Ok group) = GroupMatches done s group
RowsGive done s (Err error) = FoundAbove s.row s.cells error

-- an overlap above row n is above any later row
pub found_on : (n m : ℕ) (cs : List FormedCell) (e : GridError) → n ≤ m → FoundAbove n cs e → FoundAbove m cs e
found_on n m cs (Memory e) le f = f
found_on n m cs (TooManyCells count) le f = f
found_on n m cs (Overlap first second x y) le f = (f.0, omega (arith, f.1))
found_on n m cs (TooManyColumns count) le f = f
found_on n m cs (TooManyRows count) le f = f

-- each cell of the rows has a column
abbrev pub AllWide : List (List SpanOf) → Type 0
AllWide = AllByRecursion (AllByRecursion IsWide)

-- the rest of the rows, after one
rows_give_step : (result : Result Row GridError) (done : List FormedCell) (y number : ℕ) (s : Forming)
    (rows : List (List SpanOf)) → s.row ≡ y → AllQuiet y done → RowGives done y s result →
    ((row : Row) → RowMatches done y s row → RowsGive done (form_rows number rows (next_row s))
    (place_rows number (after_row y row) rows)) →
    RowsGive done (form_rows number rows (next_row s)) (then_ok (λ row. place_rows number (after_row y row) rows) result)
rows_give_step (Ok row) done y number s rows at_row quiet gives next = next row gives
rows_give_step (Err error) done y number s rows at_row quiet gives next =
    let last : Forming = form_rows number rows (next_row s) in
    let later : Later (s.row + 1) (next_row s) last = later_rows rows number (next_row s) in
    let on : s.row + 1 ≤ last.row = later.on in
    found_on (y + 1) last.row last.cells error (omega arith)
    (found_kept (y + 1) s.cells last.cells error (λ x' y' lt. later.numbers x' y' (omega arith)) gives)

-- all rows of a group
pub rows_give : (rows : List (List SpanOf)) (done : List FormedCell) (number : ℕ) (s : Forming) (g : RowGroup) →
    AllWide rows → GroupMatches done s g → RowsGive done (form_rows number rows s) (place_rows number g rows)
rows_give [] done number s g wide m = m
rows_give (spans ∷ rows) done number s g wide m =
    let at_row : s.row ≡ g.row = m.at_row in
    rows_give_step (place_cells g.row number (row_of g) spans) done g.row (number + length spans)
    (form_cells number 0 spans (begin_row s)) rows
    (form_cells_row spans number 0 (begin_row s) ∙ at_row) m.quiet
    (row_gives spans done g.row number (begin_row s) (row_of g) m.quiet wide.0 (row_begins done s g m))
    (λ row matches. rows_give rows done (number + length spans) (form_row number spans s) (after_row g.row row) wide.1
    (row_ends done g.row (form_cells number 0 spans (begin_row s)) row m.quiet matches))
