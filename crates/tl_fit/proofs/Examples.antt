-- The definitions, run on a table that is drawn, and read aloud.
--
--   |aa b||cccc| d||     (a table in the right cell, with two cells of its own)
use Rattle.std.proofs.Common.{◌≡◌, ◌∙◌, inl, inr, ℕ, ◌<◌, List, [], ◌∷◌, ◌++◌, length, codes, refl, ap, arith, append-nil, false}
use Rattle.std.proofs.Common.{None}
use Rattle.std.specs.List.{flat_map}
use Rattle.std.specs.declared.alloc.Global.{Global}
use Rattle.std.specs.declared.boxed.Box.{Box}
use Rattle.tl_base.specs.declared.breaking.Breaking.{Breaking}
use Rattle.tl_base.specs.declared.breaking.Breaking.TheVariants.{Words, Wider}
use Rattle.tl_base.specs.declared.limits.TheConstants.{MAX_FILE_BYTES}
use Rattle.tl_base.specs.declared.style.Style.{Style}
use Rattle.tl_text.specs.declared.paragraph.Atom.{Atom}
use Rattle.tl_text.specs.declared.paragraph.Atom.TheVariants.{Word}
use Rattle.tl_table.specs.declared.cell.Content.{roll-Content, out-roll-Content}
use Rattle.tl_table.specs.declared.cell.Content.TheOpen as open_content
use Rattle.tl_table.specs.declared.cell.Kind.TheVariants as kinds
use Rattle.tl_table.specs.declared.cell.Table.{Table, roll-Table, out-roll-Table}
use Rattle.tl_table.specs.declared.cell.TableCell.{roll-TableCell, out-roll-TableCell}
use Rattle.tl_table.specs.Tables.{OpenTable, OpenCell, OpenContent}
use Rattle.tl_columns.specs.Columns.{slot_in}
use Rattle.tl_read.specs.declared.source.Source.{Source}
use Rattle.tl_read.specs.Reading.{with_breaking}
use Rattle.tl_read.proofs.Readings.{table_within}
use Rattle.tl_fit.specs.Fit.{IsTableWith, IsGreatest, IsFit}
use Rattle.tl_fit.specs.Units.{units_in_table, units_in_cell, units_in_content}
use Rattle.tl_fit.proofs.UnitsOpen.{open_units, units_in_table-out, units_in_cell-out, units_in_content-out}

-- ---- the units of a table

abbrev aa : Atom
aa = Word (codes "aa")

abbrev b : Atom
b = Word (codes "b")

abbrev cccc : Atom
cccc = Word (codes "cccc")

abbrev d : Atom
d = Word (codes "d")

abbrev cell : ℕ → OpenContent → OpenCell
cell column block =
    record { kind = kinds.Plain; in_head = false; place = slot_in 0 column; least = 0; align = None; blocks = roll-Content block ∷ [] }

abbrev row : ℕ → OpenContent → OpenContent → OpenTable
row number left right = record {
  number = number;
  cols = 2;
  rows = 1;
  cells = roll-TableCell (cell 0 left) ∷ roll-TableCell (cell 1 right) ∷ [];
}

-- a cell of one block has its units
units_of_cell : (column : ℕ) (block : OpenContent) → units_in_cell (roll-TableCell (cell column block)) ≡ open_units block
units_of_cell column block =
    units_in_cell-out (roll-TableCell (cell column block))
    ∙ ap (λ (one : OpenCell). flat_map units_in_content one.blocks) (out-roll-TableCell (cell column block))
    ∙ append-nil (units_in_content (roll-Content block))
    ∙ units_in_content-out (roll-Content block)
    ∙ ap open_units (out-roll-Content block)

-- a table of two cells has the units of the left one first
units_of_row : (number : ℕ) (left right : OpenContent) → units_in_table (roll-Table (row number left right)) ≡
    open_units left ++ open_units right
units_of_row number left right =
    units_in_table-out (roll-Table (row number left right))
    ∙ ap (λ (table : OpenTable). flat_map units_in_cell table.cells) (out-roll-Table (row number left right))
    ∙ (λ i. units_of_cell 0 left i ++ append-nil (units_in_cell (roll-TableCell (cell 1 right))) i)
    ∙ ap (λ (units : List Atom). open_units left ++ units) (units_of_cell 1 right)

abbrev inner : Table
inner = roll-Table (row 1 (open_content.Para (cccc ∷ [])) (open_content.Para (d ∷ [])))

units_of_inner : units_in_table inner ≡ cccc ∷ d ∷ []
units_of_inner = units_of_row 1 (open_content.Para (cccc ∷ [])) (open_content.Para (d ∷ []))

-- wherever in memory the nested table lies, its units come where it stands
units_of_outer : (box : Box Table Global) → box.value ≡ inner →
    units_in_table (roll-Table (row 0 (open_content.Para (aa ∷ b ∷ [])) (open_content.Table box))) ≡ aa ∷ b ∷ cccc ∷ d ∷ []
units_of_outer box is =
    units_of_row 0 (open_content.Para (aa ∷ b ∷ [])) (open_content.Table box)
    ∙ ap (λ (units : List Atom). aa ∷ b ∷ units) (ap units_in_table is ∙ units_of_inner)

-- ---- bytes past the limit of a file are no table

module _ (source : Source) (bytes : List ℕ) (past : MAX_FILE_BYTES < length bytes) where
  -- they are no table, however words are broken
  no_table : (breaking : Breaking) (table : Table) → IsTableWith breaking source bytes table → ⊥
  no_table breaking table is =
      omega (arith, past, (table_within (with_breaking breaking source) bytes table is).0)

  -- their words stay whole, whatever the page
  words_whole : (style : Style) (width : ℕ) → IsFit source style width bytes Words
  words_whole style width = inr (no_table Words)

  -- and no number from 1 on is one with which a page holds them
  no_number : (style : Style) (width : ℕ) → IsGreatest source style width bytes 0
  no_number style width = record {
    within = omega arith;
    fits = inl refl;
    greatest = λ more above within fits. no_table (Wider more) fits.0 fits.1;
  }
