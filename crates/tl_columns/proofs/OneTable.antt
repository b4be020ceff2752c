-- Records have one table.
use Rattle.std.proofs.Common.{◌≡◌, ◌∙◌, ℕ, Bool, List, [], ◌∷◌, map, Result, Ok, Err, IfOk, IfErr}
use Rattle.std.proofs.Common.{inl, inr, refl, sym, ap, alloc_error}
use Rattle.std.specs.List.{AllZip}
use Rattle.tl_base.specs.Returned.{IsMemoryOr, ReturnsOk}
use Rattle.tl_base.specs.declared.breaking.Breaking.{Breaking}
use Rattle.tl_table.specs.declared.cell.Content.{Content, out-Content, roll-Content, roll-out-Content}
use Rattle.tl_table.specs.declared.cell.Table.{Table, out-Table, roll-Table, roll-out-Table}
use Rattle.tl_table.specs.declared.cell.TableCell.{TableCell, out-TableCell, roll-TableCell, roll-out-TableCell}
use Rattle.tl_table.specs.Tables.{OpenCell, OpenContent}
use Rattle.tl_columns.specs.declared.error.CsvError.{CsvError}
use Rattle.tl_columns.specs.declared.error.CsvError.TheVariants.{Memory}
use Rattle.tl_columns.specs.Columns.{placed_fields, IsFieldCell, IsCsvTable, PlacedField}
use Rattle.tl_columns.specs.Records.{Fields}
use Rattle.tl_columns.specs.Refused.{IsCsvRefused}
use Rattle.tl_columns.proofs.OneError.{never_refused}

rolled : (blocks : List Content) → map roll-Content (map out-Content blocks) ≡ blocks
rolled [] = refl
rolled (block ∷ blocks) = λ i. roll-out-Content block i ∷ rolled blocks i

same_blocks : (blocks others : List Content) → map out-Content blocks ≡ map out-Content others → blocks ≡ others
same_blocks blocks others same =
    sym (rolled blocks) ∙ ap (λ (opens : List OpenContent). map roll-Content opens) same ∙ rolled others

module _ (head : Bool) (floors : List ℕ) (breaking : Breaking) where
  same_open : (at : PlacedField) (cell other : OpenCell) → IsFieldCell head floors breaking at cell →
      IsFieldCell head floors breaking at other → cell ≡ other
  same_open at cell other one two =
      let kind = one.kind ∙ sym two.kind in
      let in_head = one.in_head ∙ sym two.in_head in
      let place = one.place ∙ sym two.place in
      let least = one.least ∙ sym two.least in
      let align = one.align ∙ sym two.align in
      let blocks = same_blocks cell.blocks other.blocks (one.blocks ∙ sym two.blocks) in
      λ i. record { kind = kind i; in_head = in_head i; place = place i; least = least i; align = align i; blocks = blocks i }

  same_cell : (at : PlacedField) (cell other : TableCell) → IsFieldCell head floors breaking at (out-TableCell cell) →
      IsFieldCell head floors breaking at (out-TableCell other) → cell ≡ other
  same_cell at cell other one two =
      sym (roll-out-TableCell cell)
      ∙ ap roll-TableCell (same_open at (out-TableCell cell) (out-TableCell other) one two) ∙ roll-out-TableCell other

  same_cells : (ats : List PlacedField) (cells others : List TableCell) →
      AllZip (λ at cell. IsFieldCell head floors breaking at (out-TableCell cell)) ats cells →
      AllZip (λ at cell. IsFieldCell head floors breaking at (out-TableCell cell)) ats others → cells ≡ others
  same_cells [] [] [] one two = refl
  same_cells [] [] (other ∷ others) one two = absurd two
  same_cells [] (cell ∷ cells) others one two = absurd one
  same_cells (at ∷ ats) [] others one two = absurd one
  same_cells (at ∷ ats) (cell ∷ cells) [] one two = absurd two
  same_cells (at ∷ ats) (cell ∷ cells) (other ∷ others) one two =
      let first = same_cell at cell other one.0 two.0 in
      let later = same_cells ats cells others one.1 two.1 in
      λ i. first i ∷ later i

  same_table : (all : List Fields) (table other : Table) → IsCsvTable all head floors breaking table →
      IsCsvTable all head floors breaking other → table ≡ other
  same_table all table other one two =
      let number = one.number ∙ sym two.number in
      let cols = one.cols ∙ sym two.cols in
      let rows = one.rows ∙ sym two.rows in
      let cells = same_cells (placed_fields all) (out-Table table).cells (out-Table other).cells one.cells two.cells in
      let opened : out-Table table ≡ out-Table other =
      λ i. record { number = number i; cols = cols i; rows = rows i; cells = cells i } in
      sym (roll-out-Table table) ∙ ap roll-Table opened ∙ roll-out-Table other

  -- where the records have a table, it is returned
  pub each_table : (all : List Fields) (result : Result Table CsvError) →
      IfOk result (IsCsvTable all head floors breaking) →
      IfErr result (IsMemoryOr (Memory alloc_error) (IsCsvRefused all)) →
      (table : Table) → IsCsvTable all head floors breaking table → ReturnsOk (Memory alloc_error) table result
  each_table all (Ok found) ok err table is = same_table all found table ok is
  each_table all (Err error) ok err table is = elim err [
    | inl memory ↦ memory
    | inr why ↦ absurd (never_refused all head floors breaking table error is why)
  ]
