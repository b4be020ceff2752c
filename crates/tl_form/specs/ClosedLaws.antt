-- When sections are closed, their lower bounds being their heights: what they then tell of a nested table, and which budget
-- is enough. Each law is the contract of a function of `closed_laws`.
use Rattle.std.specs.Prelude.{◌≡◌, ℕ, ◌-◌, ◌^◌, ◌<◌, ◌≤◌, List, length, take, Some}
use Rattle.std.specs.List.{All}
use Rattle.tl_base.specs.declared.limits.TheConstants.{MAX_PAGE_WIDTH}
use Rattle.tl_base.specs.declared.style.Style.{Style}
use Rattle.tl_cert.specs.declared.section.Section.{Section}
use Rattle.tl_table.specs.declared.cell.Table.{Table, out-Table}
use Rattle.tl_form.specs.Expected.{Document, Due, IsDocumentOf, due_after}
use Rattle.tl_table.specs.Least.{IsLeastHeight, IsLeastWidth}
use Rattle.tl_form.specs.Nested.{IsGreatestLower, IsLeastFound}
use Rattle.tl_form.specs.Problems.{IsCountAll}
use Rattle.tl_table.specs.Tables.{IsAmong}
use Rattle.tl_table.specs.Sound.{IsSound}
use Rattle.tl_form.specs.Valid.{AreGoodBelow}

-- a section whose lower bound is its height
abbrev pub IsClosedSection : Section → Type 0
IsClosedSection section = section.lower ≡ section.height

-- the document of a sound table on a page that some layout of it fits
pub record IsWideDocument (table : Table) (style : Style) (page : ℕ) (document : Document) : Type 0 where
  pub sound : IsSound table
  pub of : IsDocumentOf table style page document
  pub narrow : page ≤ MAX_PAGE_WIDTH
  pub wide : (least : ℕ) → IsLeastWidth table style least → least ≤ page

-- what a closed nested table needs in `w` columns: its least height there is both its bounds
pub record IsKnownAt (style : Style) (sections : List Section) (one : Table) (w h : ℕ) : Type 0 where
  pub least : IsLeastHeight one style w h
  pub low : IsGreatestLower sections (out-Table one).number w h
  pub high : IsLeastFound style sections (out-Table one).number w h

-- good sections tell the least heights of a table that they are done with, where all of its sections are closed: at each
-- width from its least width up to the page's
abbrev pub ClosedTellLeast : Type 0
ClosedTellLeast = (table : Table) (style : Style) (page budget : ℕ) (document : Document) (sections : List Section) (now : Due)
    (one : Table) (least w : ℕ) → IsWideDocument table style page document →
    AreGoodBelow document budget sections (length sections) → due_after document sections ≡ Some now →
    IsAmong table one → now.table < (out-Table one).number →
    All (λ section. section.table ≡ (out-Table one).number → IsClosedSection section) sections →
    IsLeastWidth one style least → least ≤ w → w ≤ page → (h : ℕ) × IsKnownAt style sections one w h

-- with a budget of at least the greatest count of the document and its tables, good sections are closed
abbrev pub BudgetCloses : Type 0
BudgetCloses = (table : Table) (style : Style) (page budget most n : ℕ) (document : Document) (sections : List Section) →
    IsWideDocument table style page document → IsCountAll table style page most → most ≤ budget → budget < 2 ^ 64 - 1 →
    n ≤ length sections → AreGoodBelow document budget sections n → All IsClosedSection (take n sections)
