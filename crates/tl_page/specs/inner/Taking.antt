-- What a block, a cell and a table take where they fit, and that nothing fits otherwise. No public clause cites this file.
use Rattle.std.specs.Prelude.{◌≡◌, ℕ, ◌≤◌, List, ◌++◌, drop, Option, IfSome, IsSomeAnd}
use Rattle.tl_base.specs.declared.style.Style.{Style}
use Rattle.tl_table.specs.declared.cell.Table.{Table}
use Rattle.tl_table.specs.declared.layout.Layout.{Layout}
use Rattle.tl_table.specs.Tables.{OpenCell, OpenContent}
use Rattle.tl_table.specs.Layouts.{Share, Fits, FitsWithin, FitsShare, FitsRoom}
use Rattle.tl_page.specs.declared.measure.Taken.{Taken}

-- the block fits in `w` columns by the layouts from `next` on, in so many lines and in no fewer; nothing is found where
-- it does not fit
pub record TakesBlock (style : Style) (w : ℕ) (block : OpenContent) (inner : List Layout) (next : ℕ)
    (found : Option Taken) : Type 0 where
  pub fits : IfSome found (λ taken. (level : ℕ) × (share : Share) × FitsShare (FitsWithin level style) w block share
      × (share.height ≡ taken.lines) × (share.inner ++ drop taken.next inner ≡ drop next inner))
  pub least : (level : ℕ) (share : Share) (more : List Layout) → FitsShare (FitsWithin level style) w block share →
      share.inner ++ more ≡ drop next inner →
      IsSomeAnd found (λ taken. (taken.lines ≤ share.height) × (more ≡ drop taken.next inner))

-- the cell fits in a room of `w` columns and `h` lines by the layouts from `next` on and before the one found; none is
-- found where it does not fit
pub record TakesCell (style : Style) (w h : ℕ) (cell : OpenCell) (inner : List Layout) (next : ℕ)
    (found : Option ℕ) : Type 0 where
  pub fits : IfSome found (λ past. (level : ℕ) × (given : List Layout) × FitsRoom (FitsWithin level style) w h cell given
      × (given ++ drop past inner ≡ drop next inner))
  pub all : (level : ℕ) (given more : List Layout) → FitsRoom (FitsWithin level style) w h cell given →
      given ++ more ≡ drop next inner → IsSomeAnd found (λ past. more ≡ drop past inner)

-- the table fits a page of `w` columns by the layout with the height found; none is found where it fits none
pub record TakesTable (style : Style) (w : ℕ) (table : Table) (layout : Layout) (found : Option ℕ) : Type 0 where
  pub fits : IfSome found (λ height. Fits table style w height layout)
  pub all : (height : ℕ) → Fits table style w height layout → IsSomeAnd found (λ found. height ≡ found)
