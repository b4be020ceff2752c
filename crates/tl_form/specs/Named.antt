-- The layout that a certificate names: the document's own table is laid out by the last section, and a nested table in a
-- room by the first of its sections with the least height among those whose placements the room holds.
use Rattle.std.specs.Prelude.{◌≡◌, ℕ, zero, suc, ◌-◌, ◌<◌, ◌≤◌, List, length, get_or, take}
use Rattle.std.specs.List.{AllZip, flat_map}
use Rattle.tl_base.specs.declared.style.Style.{Style}
use Rattle.tl_problem.specs.declared.placed.Placed.{Placed}
use Rattle.tl_problem.specs.Problem.{ProblemModel}
use Rattle.tl_cert.specs.declared.certificate.Certificate.{Certificate}
use Rattle.tl_cert.specs.declared.section.Section.{Section}
use Rattle.tl_table.specs.declared.cell.Table.{Table, out-Table}
use Rattle.tl_table.specs.declared.cell.TableCell.{out-TableCell}
use Rattle.tl_table.specs.declared.layout.Layout.{Layout, out-Layout}
use Rattle.tl_form.specs.Expected.{Document, IsDocumentOf}
use Rattle.tl_table.specs.Layouts.{OpenLayout, width_for}
use Rattle.tl_form.specs.Nested.{IsPlacedWithin}
use Rattle.tl_table.specs.Tables.{OpenTable, OpenCell, tables_in}
use Rattle.tl_form.specs.Valid.{IsProblemAt, HasPlacement}

-- section `i` is the one by which the table is laid out in a room of `w` columns: no other within the room is lower, and
-- those before it are higher
pub record IsChosen (style : Style) (sections : List Section) (number w i : ℕ) : Type 0 where
  pub there : i < length sections
  pub within : (d : Section) → IsPlacedWithin style number w (get_or sections i d)
  pub least : (j : ℕ) (d : Section) → j < length sections → IsPlacedWithin style number w (get_or sections j d) →
      (get_or sections i d).height ≤ (get_or sections j d).height
  pub first : (j : ℕ) (d : Section) → j < i → IsPlacedWithin style number w (get_or sections j d) →
      (get_or sections i d).height < (get_or sections j d).height

-- the placement of a section, on its own problem after the sections before it
abbrev pub IsPlacementAt : Document → List Section → Section → Placed → Type 0
IsPlacementAt document before section placed = (problem : ProblemModel) × IsProblemAt document before section problem
    × HasPlacement section problem placed

-- the placement of section `i`, on its own problem
abbrev pub IsPlacementOf : Document → List Section → ℕ → Placed → Type 0
IsPlacementOf document sections i placed = (d : Section) → IsPlacementAt document (take i sections) (get_or sections i d) placed

-- the placement of the last section, in the document of the table on a page in a style
abbrev pub IsLastPlacement : Table → Style → ℕ → List Section → Placed → Type 0
IsLastPlacement table style page sections placed = (document : Document) × IsDocumentOf table style page document
    × IsPlacementOf document sections (length sections - 1) placed

-- the tables nested in a cell are laid out in its room; `laid` says how a nested table is
abbrev pub AreLaidIn : (Table → ℕ → Layout → Type 0) → ℕ → OpenCell → List Layout → Type 0
AreLaidIn laid w cell part = AllZip (λ nested one. laid nested w one) (tables_in cell) part

-- the layout has the widths and heights of a placement, and those of the nested tables in the rooms that these give
pub record IsNamedLayoutBy (laid : Table → ℕ → Layout → Type 0) (style : Style) (table : OpenTable) (placed : Placed)
    (layout : OpenLayout) : Type 0 where
  pub columns : layout.widths ≡ placed.widths
  pub lines : layout.heights ≡ placed.heights
  pub parts : List (List Layout)
  pub cells : AllZip (λ cell part. AreLaidIn laid (width_for style layout (out-TableCell cell).place) (out-TableCell cell) part)
      table.cells parts
  pub given : flat_map (λ part. part) parts ≡ layout.inner

-- the table is laid out by section `i`, with fewer than `depth` tables inside one another
abbrev pub IsLaidWithin : ℕ → Document → List Section → ℕ → Table → Layout → Type 0
IsLaidWithin zero document sections i table layout = ⊥
IsLaidWithin (suc depth) document sections i table layout = (placed : Placed) × IsPlacementOf document sections i placed
    × IsNamedLayoutBy (λ nested w one. (j : ℕ) × IsChosen document.style sections (out-Table nested).number w j
    × IsLaidWithin depth document sections j nested one) document.style (out-Table table) placed (out-Layout layout)

-- the layout of the document that the sections name
abbrev pub IsNamedBy : Document → List Section → Layout → Type 0
IsNamedBy document sections layout = (depth : ℕ)
    × IsLaidWithin depth document sections (length sections - 1) document.table layout

-- the layout of the table in a style that the certificate names
abbrev pub IsNamed : Table → Style → Certificate → Layout → Type 0
IsNamed table style certificate layout = (document : Document) × IsDocumentOf table style certificate.width document
    × IsNamedBy document certificate.sections layout
