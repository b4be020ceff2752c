-- Which sections a certificate of a document has, and in which order: for each nested table, from the greatest number
-- down, one on the whole page, and then one a column narrower than the placement before, as long as the table has a
-- layout there; last one of the document's own table.
use Rattle.std.specs.Prelude.{◌≡◌, ℕ, zero, suc, ◌+◌, ◌-◌, ◌<◌, ◌==◌, nat_le, if◌then◌else◌, List, [], ◌∷◌, length, get_or, take}
use Rattle.std.specs.Prelude.{Option, None, Some}
use Rattle.tl_base.specs.declared.style.Style.{Style}
use Rattle.tl_base.specs.Style.{gap_of, edges_of}
use Rattle.tl_base.specs.Sizes.{total}
use Rattle.tl_cert.specs.declared.section.Section.{Section}
use Rattle.tl_table.specs.declared.cell.Table.{Table, out-Table}
use Rattle.tl_table.specs.Least.{IsLeastWidth}
use Rattle.tl_table.specs.Numbered.{HasNumber}
use Rattle.tl_table.specs.Tables.{IsAmong}
use Rattle.tl_table.specs.Sound.{nested_in_table}

-- ---- a document: a table with those nested in it, on a page

-- a table, the style and the page, the greatest number of a table inside, and the least width of each table by number,
-- from the table's own on
pub record Document : Type 0 where
  pub table : Table
  pub style : Style
  pub page : ℕ
  pub last : ℕ
  pub least : List ℕ

-- the number of the document's own table
abbrev pub own_number : Document → ℕ
own_number document = (out-Table document.table).number

-- the least width of the table with this number
abbrev pub least_of : Document → ℕ → ℕ
least_of document number = get_or document.least (number - own_number document) 0

-- the document of a table on a page in a style
pub record IsDocumentOf (table : Table) (style : Style) (page : ℕ) (document : Document) : Type 0 where
  pub same : document.table ≡ table
  pub drawn : document.style ≡ style
  pub wide : document.page ≡ page
  pub numbers : document.last ≡ own_number document + nested_in_table document.table
  pub each : length document.least ≡ nested_in_table document.table + 1
  pub least : (one : Table) → IsAmong document.table one →
      IsLeastWidth one document.style (least_of document (out-Table one).number)

-- the table of the document with this number
abbrev pub IsTableOf : Document → ℕ → Table → Type 0
IsTableOf document = HasNumber document.table

-- ---- what is due

-- a section of this table at this width
pub record Due : Type 0 where
  pub table : ℕ
  pub width : ℕ

-- the first section of a table is on the whole page
abbrev pub first_due : Document → ℕ → Due
first_due document number = record { table = number; width = document.page }

-- a table's next width after a placement of so many columns: one less, where it has a layout there
abbrev pub next_width : ℕ → ℕ → Option ℕ
next_width least zero = None
next_width least (suc narrower) = if nat_le least narrower then Some narrower else None

-- the table's next section, or where it has none the first of the table before it
abbrev pub due_in : Document → ℕ → Option ℕ → Due
due_in document number None = first_due document (number - 1)
due_in document number (Some width) = record { table = number; width = width }

-- what is due after a section of a table with a placement of so many columns: nothing after the document's own table
abbrev pub next_due : Document → ℕ → ℕ → Option Due
next_due document number placed = if number == own_number document then None
    else Some (due_in document number (next_width (least_of document number) placed))

-- how many columns the placement of a section takes
abbrev pub placed_width : Style → Section → ℕ
placed_width style section = total (gap_of style) (edges_of style) section.widths

-- what is due once these sections follow
abbrev pub due_from : Document → Option Due → List Section → Option Due
due_from document due [] = due
due_from document None (section ∷ sections) = None
due_from document (Some now) (section ∷ sections) =
    due_from document (next_due document now.table (placed_width document.style section)) sections

-- what is due after these sections, from the first on
abbrev pub due_after : Document → List Section → Option Due
due_after document sections = due_from document (Some (first_due document document.last)) sections

-- the section is the one that is due after those before it
abbrev pub IsDue : Document → List Section → Section → Type 0
IsDue document before section = due_after document before ≡
    Some (record { table = section.table; width = section.width })

-- the first `count` sections are each the one that is due after those before it
abbrev pub AreDueInOrder : Document → List Section → ℕ → Type 0
AreDueInOrder document sections count = (i : ℕ) (d : Section) → i < count → IsDue document (take i sections) (get_or sections i d)

-- these are the sections that a certificate of the document has, as far as tables and widths go
pub record AreExpected (document : Document) (sections : List Section) : Type 0 where
  pub due : (i : ℕ) (d : Section) → i < length sections → IsDue document (take i sections) (get_or sections i d)
  pub whole : due_after document sections ≡ None
