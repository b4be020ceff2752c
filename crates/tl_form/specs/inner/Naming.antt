-- How the layout that a certificate names is found, table by table. No public clause cites this file.
use Rattle.std.specs.Prelude.{◌≡◌, ℕ, ◌<◌, ◌≤◌, List, ◌++◌, length, get_or, sum, Option, Some, None}
use Rattle.std.specs.List.{AllByRecursion, AllZip}
use Rattle.tl_base.specs.declared.limits.TheConstants.{MAX_COLUMNS, MAX_PAGE_WIDTH}
use Rattle.tl_base.specs.declared.style.Style.{Style}
use Rattle.tl_base.specs.Style.{gap_of}
use Rattle.tl_problem.specs.declared.placed.Placed.{Placed}
use Rattle.tl_base.specs.Sizes.{room}
use Rattle.tl_table.specs.declared.cell.TableCell.{TableCell, out-TableCell}
use Rattle.tl_table.specs.Tables.{OpenTable, tables_in, IsAmong}
use Rattle.tl_cert.specs.declared.section.Section.{Section}
use Rattle.tl_table.specs.declared.cell.Table.{Table, out-Table}
use Rattle.tl_table.specs.declared.layout.Layout.{Layout}
use Rattle.tl_form.specs.Expected.{Document}
use Rattle.tl_form.specs.Named.{IsChosen, IsLaidWithin, IsPlacementOf}
use Rattle.tl_form.specs.Nested.{IsPlacedWithin, IsSectionInRange}
use Rattle.tl_table.specs.Sound.{IsSound, IsSoundWithin}
use Rattle.tl_form.specs.Valid.{AreGoodBelow}

-- a table of a document whose sections are all good
pub record IsPart (document : Document) (budget : ℕ) (style : Style) (sections : List Section) (table : Table) : Type 0 where
  pub drawn : document.style ≡ style
  pub sound : IsSound document.table
  pub good : AreGoodBelow document budget sections (length sections)
  pub small : (i : ℕ) (d : Section) → i < length sections → IsSectionInRange (get_or sections i d)
  pub among : IsAmong document.table table

-- the table is one of a document whose sections are all good, for some budget
abbrev pub HasPart : Style → List Section → Table → Type 0
HasPart style sections table = (document : Document) × (budget : ℕ) × IsPart document budget style sections table

-- each section has few columns
abbrev pub HaveFewColumns : List Section → Type 0
HaveFewColumns sections = (i : ℕ) (d : Section) → i < length sections → length (get_or sections i d).widths ≤ MAX_COLUMNS

-- of the first `n` sections this is the one by which the table is laid out in a room
pub record IsBestOf (style : Style) (sections : List Section) (number w n i : ℕ) : Type 0 where
  pub there : i < n
  pub within : (d : Section) → IsPlacedWithin style number w (get_or sections i d)
  pub least : (j : ℕ) (d : Section) → j < n → IsPlacedWithin style number w (get_or sections j d) →
      (get_or sections i d).height ≤ (get_or sections j d).height
  pub first : (j : ℕ) (d : Section) → j < i → IsPlacedWithin style number w (get_or sections j d) →
      (get_or sections i d).height < (get_or sections j d).height

-- none of the first `n` sections is one of the table whose placement the room holds
abbrev pub NoneWithin : Style → List Section → ℕ → ℕ → ℕ → Type 0
NoneWithin style sections number w n = (j : ℕ) (d : Section) → j < n → IsPlacedWithin style number w (get_or sections j d) → ⊥

-- section `i` is lower than the best so far, if there is one
abbrev pub IsLower : List Section → ℕ → Option ℕ → Type 0
IsLower sections i None = Unit {0}
IsLower sections i (Some best) = (d : Section) → (get_or sections i d).height < (get_or sections best d).height

-- the table is laid out by section `at`
abbrev pub IsLaidOut : Style → List Section → ℕ → Table → Layout → Type 0
IsLaidOut style sections at table layout = (document : Document) (budget : ℕ) → IsPart document budget style sections table →
    (depth : ℕ) → IsSoundWithin depth table → IsLaidWithin depth document sections at table layout

-- a nested table may be laid out in a room of `w` columns
pub record CanLay (style : Style) (sections : List Section) (w : ℕ) (nested : Table) : Type 0 where
  pub part : HasPart style sections nested
  pub at : ℕ
  pub there : at < length sections
  pub within : (d : Section) → IsPlacedWithin style (out-Table nested).number w (get_or sections at d)

-- a nested table is laid out in a room of `w` columns, by the section that is chosen for it there
pub record IsLaidIn (style : Style) (sections : List Section) (w : ℕ) (nested : Table) (layout : Layout) : Type 0 where
  pub at : ℕ
  pub chosen : IsChosen style sections (out-Table nested).number w at
  pub laid : IsLaidOut style sections at nested layout

-- the placement is that of section `at`
abbrev pub IsPlacedBy : Style → List Section → ℕ → Table → Placed → Type 0
IsPlacedBy style sections at table placed = (document : Document) (budget : ℕ) → IsPart document budget style sections table →
    IsPlacementOf document sections at placed

-- the table is laid out by each section whose placement this is
abbrev pub IsLaidWith : Style → List Section → Table → Placed → Layout → Type 0
IsLaidWith style sections table placed layout = (at : ℕ) → IsPlacedBy style sections at table placed →
    IsLaidOut style sections at table layout

-- the columns that a cell covers are there, and the tables nested in it may be laid out in its room
pub record HasLayoutRoom (style : Style) (sections : List Section) (widths : List ℕ) (cell : TableCell) : Type 0 where
  pub some : (out-TableCell cell).place.left < (out-TableCell cell).place.right
  pub within : (out-TableCell cell).place.right ≤ length widths
  pub can : AllByRecursion (CanLay style sections (room (gap_of style) widths (out-TableCell cell).place.left
      (out-TableCell cell).place.right))
      (tables_in (out-TableCell cell))

-- the placement gives each cell of the table its room, on a page
pub record HasRooms (style : Style) (sections : List Section) (table : OpenTable) (placed : Placed) : Type 0 where
  pub page : sum placed.widths ≤ MAX_PAGE_WIDTH
  pub few : length placed.widths ≤ MAX_COLUMNS
  pub each : AllByRecursion (HasLayoutRoom style sections placed.widths) table.cells

-- after these layouts come those of the tables
pub record LaysOut (style : Style) (sections : List Section) (w : ℕ) (tables : List Table)
    (before after : List Layout) : Type 0 where
  pub part : List Layout
  pub joined : after ≡ before ++ part
  pub each : AllZip (IsLaidIn style sections w) tables part
