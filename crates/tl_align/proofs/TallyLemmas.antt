-- What is kept of each column while the cells are looked at, and the sides that it comes to.
use Rattle.std.proofs.Common.{◌≡◌, ◌∙◌, ℕ, zero, suc, ◌<◌, Bool, true, false, not, ◌&&◌, ◌||◌, List, [], ◌∷◌, length, map, set}
use Rattle.std.proofs.Common.{get_or, replicate, inl, inr, refl, sym, ap, ap₂, subst, arith, None, unwrap_or}
use Rattle.std.specs.Bool.{if◌then◌else◌}
use Rattle.std.specs.List.{All, list_all, list_any}
use Rattle.std.proofs.Math.ListN.{get_or-map}
use Rattle.std.proofs.lemmas.Bool.{and_left, and_right, cases_eq, ne_eqb}
use Rattle.std.proofs.lemmas.List.{get_or-set_same, get_or-set_other, get_or-replicate, length-map, length-replicate, length-set}
use Rattle.tl_base.specs.declared.limits.TheConstants.{MAX_COLUMNS}
use Rattle.tl_grid.specs.Dropping.{IsPlaced}
use Rattle.tl_sides.specs.declared.align.Align.{Align}
use Rattle.tl_sides.specs.declared.side.Side.{Side}
use Rattle.tl_sides.specs.declared.side.Side.TheVariants.{Left, Right}
use Rattle.tl_table.specs.declared.cell.Table.{Table, out-Table}
use Rattle.tl_table.specs.declared.cell.TableCell.{TableCell, out-TableCell}
use Rattle.tl_table.specs.Heads.{head_end_of}
use Rattle.tl_table.specs.Sound.{IsSound, IsSoundWithin}
use Rattle.tl_table.specs.Tables.{OpenCell, OpenTable, place_of}
use Rattle.tl_align.specs.declared.columns.Tally.{Tally}
use Rattle.tl_align.specs.declared.columns.Tally.TheVariants.{Blank, Numbers, Other}
use Rattle.tl_align.specs.Sides.{are_number, column_side, has_text, is_single, numbers_side, own_side, side_of, sides_of, tells}
use Rattle.tl_align.specs.inner.Tallies.{AreTallies, given_side, side, tally_from, tally_of, with}

-- ---- cells of a sound table

-- the cell begins in one of the columns that a table may have
abbrev pub IsWithin : TableCell → Type 0
IsWithin cell = (out-TableCell cell).place.left < MAX_COLUMNS

-- each cell of a sound table does
pub sound_within : (table : Table) → IsSound table → All IsWithin (out-Table table).cells
sound_within table sound = within sound.depth sound.sound
  where
    within : (depth : ℕ) → IsSoundWithin depth table → All IsWithin (out-Table table).cells
    within zero well = absurd well
    within (suc depth) well = λ k cell below.
        let cells : List TableCell = (out-Table table).cells in
        let placed : IsPlaced (out-Table table).cols (out-Table table).rows (place_of (get_or cells k cell)) =
        subst (IsPlaced (out-Table table).cols (out-Table table).rows) (get_or-map place_of cells k cell)
        (well.placed k (place_of cell) (omega (arith, length-map cells place_of))) in
        omega (arith, placed, well.few_columns)

-- so does the one at a place in the list
pub item_within : (table : Table) → IsSound table → (items : List TableCell) → items ≡ (out-Table table).cells
    → (k : ℕ) (cell : TableCell) → k < length items → cell ≡ get_or items k cell → IsWithin cell
item_within table sound items same k cell below at =
    subst IsWithin (sym at) (subst (All IsWithin) (sym same) (sound_within table sound) k cell below)

-- ---- cell by cell

-- a cell tells nothing of columns in which it does not begin
tells-elsewhere : (head_end column : ℕ) (cell : OpenCell) → (cell.place.left ≡ column → ⊥) → tells head_end column cell ≡ false
tells-elsewhere head_end column cell elsewhere =
    and_left _ (has_text cell) (and_left _ _ (and_right (is_single cell) _ (ne_eqb cell.place.left column elsewhere)))

-- the tallies, with the cells that are left, come to those of all cells
pub record IsTallied (head_end : ℕ) (all rest : List OpenCell) (tallies : List Tally) : Type 0 where
  pub long : length tallies ≡ MAX_COLUMNS
  pub same : (column : ℕ) → column < MAX_COLUMNS → tally_from head_end column (get_or tallies column Blank) rest
      ≡ tally_from head_end column Blank all

-- before the first cell all are blank
pub tallied-start : (head_end : ℕ) (all : List OpenCell) → IsTallied head_end all all (replicate MAX_COLUMNS Blank)
tallied-start head_end all = record {
  long = length-replicate MAX_COLUMNS Blank;
  same = λ column below.
      ap (λ tally. tally_from head_end column tally all) (get_or-replicate MAX_COLUMNS column Blank Blank below);
}

-- of a cell that tells nothing, a tally takes none
past_silent : (head_end column : ℕ) (tally : Tally) (cell : OpenCell) (rest : List OpenCell) → tells head_end column cell ≡ false
    → tally_from head_end column tally (cell ∷ rest) ≡ tally_from head_end column tally rest
past_silent head_end column tally cell rest silent =
    ap (λ told. if told then tally_from head_end column (with tally (are_number cell.blocks)) rest
    else tally_from head_end column tally rest) silent

-- of a cell that tells something, a tally takes whether it is a number
past_told : (head_end column : ℕ) (tally : Tally) (cell : OpenCell) (rest : List OpenCell) → tells head_end column cell ≡ true
    → tally_from head_end column tally (cell ∷ rest) ≡ tally_from head_end column (with tally (are_number cell.blocks)) rest
past_told head_end column tally cell rest told =
    ap (λ told. if told then tally_from head_end column (with tally (are_number cell.blocks)) rest
    else tally_from head_end column tally rest) told

-- one cell further, where the cell tells nothing
pub tallied-silent : (head_end : ℕ) (all rest : List OpenCell) (cell : OpenCell) (tallies : List Tally)
    → IsTallied head_end all (cell ∷ rest) tallies → tells head_end cell.place.left cell ≡ false → IsTallied head_end all rest tallies
tallied-silent head_end all rest cell tallies was silent = record {
  long = was.long;
  same = λ column below.
      let nothing : tells head_end column cell ≡ false =
      elim (cases_eq cell.place.left column) [
        | inl here ↦ subst (λ place. tells head_end place cell ≡ false) here silent
        | inr elsewhere ↦ tells-elsewhere head_end column cell elsewhere
      ] in
      sym (past_silent head_end column (get_or tallies column Blank) cell rest nothing) ∙ was.same column below;
}

-- one cell further, where the cell tells something of its column
pub tallied-told : (head_end : ℕ) (all rest : List OpenCell) (cell : OpenCell) (tallies : List Tally)
    → IsTallied head_end all (cell ∷ rest) tallies → tells head_end cell.place.left cell ≡ true → cell.place.left < MAX_COLUMNS
    → IsTallied head_end all rest (set tallies cell.place.left (with (get_or tallies cell.place.left Blank) (are_number cell.blocks)))
tallied-told head_end all rest cell tallies was told within =
    let tally : Tally = with (get_or tallies cell.place.left Blank) (are_number cell.blocks) in
    record {
      long = length-set tallies cell.place.left tally ∙ was.long;
      same = λ column below. elim (cases_eq cell.place.left column) [
        | inl here ↦
            subst (λ place. tally_from head_end place (get_or (set tallies cell.place.left tally) place Blank) rest
            ≡ tally_from head_end place Blank all) here
            (ap (λ t. tally_from head_end cell.place.left t rest) (get_or-set_same tallies cell.place.left tally Blank (omega (arith, was.long)))
            ∙ sym (past_told head_end cell.place.left (get_or tallies cell.place.left Blank) cell rest told)
            ∙ was.same cell.place.left within)
        | inr elsewhere ↦
            ap (λ t. tally_from head_end column t rest) (get_or-set_other tallies cell.place.left column tally Blank (λ here. elsewhere (sym here)))
            ∙ sym (past_silent head_end column (get_or tallies column Blank) cell rest (tells-elsewhere head_end column cell elsewhere))
            ∙ was.same column below
      ];
    }

-- ---- the side of a column

-- the right where so, and else the left
abbrev right_if : Bool → Side
right_if so = if so then Right else Left

-- whether a tally comes to numbers, where some of the cells that are left tell something, and all that do are numbers
abbrev comes_to : Tally → Bool → Bool → Bool
comes_to Blank some all = some && all
comes_to Numbers some all = all
comes_to Other some all = false

-- one cell more
side_more : (tally : Tally) (told number some all : Bool) (rest : Tally → Tally)
    → ((t : Tally) → side (rest t) ≡ right_if (comes_to t some all))
    → side (if told then rest (with tally number) else rest tally) ≡ right_if (comes_to tally (told || some) ((not told || number) && all))
side_more Blank true true some all rest is = is Numbers
side_more Blank true false some all rest is = is Other
side_more Blank false number some all rest is = is Blank
side_more Numbers true true some all rest is = is Numbers
side_more Numbers true false some all rest is = is Other
side_more Numbers false number some all rest is = is Numbers
side_more Other true true some all rest is = is Other
side_more Other true false some all rest is = is Other
side_more Other false number some all rest is = is Other

-- all cells
side_through : (head_end column : ℕ) (cells : List OpenCell) (tally : Tally) → side (tally_from head_end column tally cells)
    ≡ right_if (comes_to tally (list_any (tells head_end column) cells)
    (list_all (λ cell. not (tells head_end column cell) || are_number cell.blocks) cells))
side_through head_end column [] Blank = refl
side_through head_end column [] Numbers = refl
side_through head_end column [] Other = refl
side_through head_end column (cell ∷ cells) tally =
    side_more tally (tells head_end column cell) (are_number cell.blocks) (list_any (tells head_end column) cells)
    (list_all (λ cell. not (tells head_end column cell) || are_number cell.blocks) cells)
    (λ t. tally_from head_end column t cells) (side_through head_end column cells)

-- the tally of a column of a table says its side
pub side-tally_of : (table : OpenTable) (column : ℕ) → side (tally_of table column) ≡ numbers_side table column
side-tally_of table column =
    let cells : List OpenCell = map out-TableCell table.cells in
    side_through (head_end_of cells table.rows) column cells Blank

-- the tallies of all columns say their sides
pub sides-tallies : (table : OpenTable) (tallies : List Tally) → AreTallies table tallies → (column : ℕ) → column < MAX_COLUMNS
    → get_or (map side tallies) column Left ≡ numbers_side table column
sides-tallies table tallies are column below =
    get_or-map side tallies column Blank ∙ ap side (are.1 column below) ∙ side-tally_of table column

-- ---- the sides of all cells

-- two maps that agree on each item make the same list
same_maps : (f g : TableCell → Side) (cells : List TableCell) → All (λ cell. f cell ≡ g cell) cells → map f cells ≡ map g cells
same_maps f g [] agree = refl
same_maps f g (cell ∷ cells) agree =
    ap₂ (λ first others. first ∷ others) (agree 0 cell (omega arith))
    (same_maps f g cells (λ k other below. agree (suc k) other (omega arith)))

-- a list of the sides of all columns gives the sides of all cells, which are asked for their own or not
pub sides_by_list : (align : Align) (asked : Bool) (table : OpenTable) (columns : List Side)
    → ((cell : OpenCell) → own_side align cell ≡ (if asked then cell.align else None)) → All IsWithin table.cells
    → ((column : ℕ) → column < MAX_COLUMNS → get_or columns column Left ≡ column_side align table column)
    → map (λ cell. given_side asked columns (out-TableCell cell)) table.cells ≡ sides_of align table
sides_by_list align asked table columns own within sides =
    same_maps (λ cell. given_side asked columns (out-TableCell cell)) (λ cell. side_of align table (out-TableCell cell)) table.cells
    (λ k cell below.
    let here : OpenCell = out-TableCell (get_or table.cells k cell) in
    ap₂ (λ asks listed. unwrap_or asks (if is_single here then listed else Left)) (sym (own here))
    (sides here.place.left (within k cell below)))
