-- Tables in whose cells none is nested: two that are the same are one value, as they have no box.
use Rattle.std.proofs.Common.{◌≡◌, ◌∙◌, List, [], ◌∷◌, ◌++◌, length, refl, sym, ap, ap₂, arith}
use Rattle.std.specs.List.{AllZip, flat_map}
use Rattle.std.proofs.lemmas.List.Concat.{flat_map-cons}
use Rattle.tl_table.specs.declared.cell.Content.{Content, out-Content, roll-Content, roll-out-Content}
use Rattle.tl_table.specs.declared.cell.Content.TheOpen as open_content
use Rattle.tl_table.specs.declared.cell.Table.{Table, out-Table, roll-Table, roll-out-Table}
use Rattle.tl_table.specs.declared.cell.TableCell.{TableCell, out-TableCell, roll-TableCell, roll-out-TableCell}
use Rattle.tl_table.specs.Same.{AreSame, AreSameBy, AreSameCell, AreSameContent}
use Rattle.tl_table.specs.Tables.{OpenContent, tables_in, tables_of}
use Rattle.tl_table.proofs.SameTables.{same_opened}
use Rattle.tl_lay.specs.Flat.{HasNoNested}

-- ---- lists that are joined to none

pub first_none : {X : Type 0} (xs ys : List X) → xs ++ ys ≡ [] → xs ≡ []
first_none [] ys same = refl
first_none (x ∷ xs) ys same = absurd (omega (arith, ap length same))

pub second_none : {X : Type 0} (xs ys : List X) → xs ++ ys ≡ [] → ys ≡ []
second_none [] ys same = same
second_none (x ∷ xs) ys same = absurd (omega (arith, ap length same))

-- ---- no nested table

-- no table is nested in these blocks
abbrev pub AreFlatBlocks : List Content → Type 0
AreFlatBlocks blocks = flat_map (λ block. tables_of (out-Content block)) blocks ≡ []

-- no table is nested in these cells
abbrev pub AreFlatCells : List TableCell → Type 0
AreFlatCells cells = flat_map (λ cell. tables_in (out-TableCell cell)) cells ≡ []

pub flat_block : (block : Content) (blocks : List Content) → AreFlatBlocks (block ∷ blocks) → tables_of (out-Content block) ≡ []
flat_block block blocks flat = first_none (tables_of (out-Content block)) (flat_map (λ one. tables_of (out-Content one)) blocks)
    (sym (flat_map-cons (λ one. tables_of (out-Content one)) block blocks) ∙ flat)

pub flat_blocks : (block : Content) (blocks : List Content) → AreFlatBlocks (block ∷ blocks) → AreFlatBlocks blocks
flat_blocks block blocks flat = second_none (tables_of (out-Content block)) (flat_map (λ one. tables_of (out-Content one)) blocks)
    (sym (flat_map-cons (λ one. tables_of (out-Content one)) block blocks) ∙ flat)

pub flat_cell : (cell : TableCell) (cells : List TableCell) → AreFlatCells (cell ∷ cells) →
    AreFlatBlocks (out-TableCell cell).blocks
flat_cell cell cells flat = first_none (tables_in (out-TableCell cell)) (flat_map (λ one. tables_in (out-TableCell one)) cells)
    (sym (flat_map-cons (λ one. tables_in (out-TableCell one)) cell cells) ∙ flat)

pub flat_cells : (cell : TableCell) (cells : List TableCell) → AreFlatCells (cell ∷ cells) → AreFlatCells cells
flat_cells cell cells flat = second_none (tables_in (out-TableCell cell)) (flat_map (λ one. tables_in (out-TableCell one)) cells)
    (sym (flat_map-cons (λ one. tables_in (out-TableCell one)) cell cells) ∙ flat)

-- ---- one value

one_content : (one other : Content) → tables_of (out-Content one) ≡ [] →
    AreSameContent AreSame (out-Content one) (out-Content other) → one ≡ other
one_content one other flat same =
    sym (roll-out-Content one) ∙ ap roll-Content (by_open (out-Content one) (out-Content other) flat same) ∙ roll-out-Content other
  where
    by_open : (a b : OpenContent) → tables_of a ≡ [] → AreSameContent AreSame a b → a ≡ b
    by_open (open_content.Para p) (open_content.Para q) flat same = ap open_content.Para same
    by_open (open_content.Para p) (open_content.Table box) flat same = absurd same
    by_open (open_content.Table box) (open_content.Para q) flat same = absurd same
    by_open (open_content.Table box) (open_content.Table crate) flat same = absurd (omega (arith, ap length flat))

one_list : (ones others : List Content) → AreFlatBlocks ones →
    AllZip (λ block content. AreSameContent AreSame (out-Content block) (out-Content content)) ones others → ones ≡ others
one_list [] [] flat same = refl
one_list [] (other ∷ others) flat same = absurd same
one_list (one ∷ ones) [] flat same = absurd same
one_list (one ∷ ones) (other ∷ others) flat same =
    ap₂ (λ (first : Content) (rest : List Content). first ∷ rest)
    (one_content one other (flat_block one ones flat) same.0) (one_list ones others (flat_blocks one ones flat) same.1)

one_cell : (one other : TableCell) → AreFlatBlocks (out-TableCell one).blocks →
    AreSameCell AreSame (out-TableCell one) (out-TableCell other) → one ≡ other
one_cell one other flat same =
    sym (roll-out-TableCell one) ∙ ap roll-TableCell opened ∙ roll-out-TableCell other
  where
    blocks : (out-TableCell one).blocks ≡ (out-TableCell other).blocks
    blocks = one_list (out-TableCell one).blocks (out-TableCell other).blocks flat same.blocks

    opened : out-TableCell one ≡ out-TableCell other
    opened = λ i. record { kind = same.kind i; in_head = same.in_head i; place = same.place i; least = same.least i; align = same.align i; blocks = blocks i }

one_row : (ones others : List TableCell) → AreFlatCells ones →
    AllZip (λ cell twin. AreSameCell AreSame (out-TableCell cell) (out-TableCell twin)) ones others → ones ≡ others
one_row [] [] flat same = refl
one_row [] (other ∷ others) flat same = absurd same
one_row (one ∷ ones) [] flat same = absurd same
one_row (one ∷ ones) (other ∷ others) flat same =
    ap₂ (λ (first : TableCell) (rest : List TableCell). first ∷ rest)
    (one_cell one other (flat_cell one ones flat) same.0) (one_row ones others (flat_cells one ones flat) same.1)

-- tables that are the same are one, where none is nested in a cell
pub one_table : (one other : Table) → HasNoNested one → AreSame one other → one ≡ other
one_table one other flat same = sym (roll-out-Table one) ∙ ap roll-Table opened ∙ roll-out-Table other where
  by : AreSameBy AreSame (out-Table one) (out-Table other)
  by = same_opened one other same

  cells : (out-Table one).cells ≡ (out-Table other).cells
  cells = one_row (out-Table one).cells (out-Table other).cells flat by.cells

  opened : out-Table one ≡ out-Table other
  opened = λ i. record { number = by.number i; cols = by.cols i; rows = by.rows i; cells = cells i }
