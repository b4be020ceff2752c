-- Walks of chains along a table. No public clause cites this file.
use Rattle.std.specs.Prelude.{◌≡◌, ℕ, ◌≤◌, List, ◌++◌, drop, length, sum_by, Option, Contains}
use Rattle.std.specs.List.{AllZip, flat_map}
use Rattle.tl_base.specs.declared.style.Style.{Style}
use Rattle.tl_base.specs.declared.chain.Chain.{Chain}
use Rattle.tl_base.specs.declared.chain.Entry.{Entry}
use Rattle.tl_table.specs.declared.cell.Table.{Table, out-Table}
use Rattle.tl_table.specs.Chains.{AreSideBySide, HasWidth, IsChain, IsLink, Link, covered, Weighs}
use Rattle.tl_table.specs.Tables.{OpenTable, OpenCell}
use Rattle.tl_verify.specs.declared.chains.Row.{Row}
use Rattle.tl_verify.specs.declared.chains.Walked.{Walked}

-- the chains from place `at` on begin with `own`, and go on from place `past` on
pub record Begins (chains : List Chain) (at : ℕ) (own : List Chain) (past : ℕ) : Type 0 where
  pub split : drop at chains ≡ own ++ drop past chains
  pub within : past ≤ length chains

-- from place `at` on a chain of the table stands, with those that it rests on, of at most this weight
pub record IsWalk (style : Style) (table : Table) (chains : List Chain) (at most : ℕ) (walked : Walked) : Type 0 where
  pub own : List Chain
  pub begins : Begins chains at own walked.past
  pub chain : IsChain table style own walked.weight
  pub light : walked.weight ≤ most

-- from place `at` on no chain of the table stands, with those that it rests on, of at most this weight
abbrev pub HasNoWalk : Style → Table → List Chain → ℕ → ℕ → Type 0
HasNoWalk style table chains at most = (own rest : List Chain) (weight : ℕ) → drop at chains ≡ own ++ rest →
    IsChain table style own weight → weight ≤ most → ⊥

-- a walk of one of these tables, the one with this number
abbrev pub IsWalkIn : Style → List Table → ℕ → List Chain → ℕ → ℕ → Walked → Type 0
IsWalkIn style tables number chains at most walked = (nested : Table) × Contains tables nested ×
    ((out-Table nested).number ≡ number)
    × IsWalk style nested chains at most walked

-- there is no walk of the one of these tables that has this number
abbrev pub HasNoWalkIn : Style → List Table → ℕ → List Chain → ℕ → ℕ → Type 0
HasNoWalkIn style tables number chains at most = (nested : Table) → Contains tables nested → (out-Table nested).number ≡ number →
    HasNoWalk style nested chains at most

-- what stands for an entry on this cell, with the chains that give its width
abbrev pub link_of : OpenCell → ℕ → List Chain → Link
link_of cell width inner = record { place = cell.place; width = width; inner = inner }

-- from place `at` on the chains stand that give an entry on the cell its width
pub record IsStep (style : Style) (cell : OpenCell) (inner : Option ℕ) (chains : List Chain) (at : ℕ)
    (walked : Walked) : Type 0 where
  pub own : List Chain
  pub begins : Begins chains at own walked.past
  pub wide : HasWidth (Weighs style) cell inner (link_of cell walked.weight own)

-- from place `at` on no chains stand that give an entry on the cell its width, up to this one
abbrev pub HasNoStep : Style → OpenCell → Option ℕ → List Chain → ℕ → ℕ → Type 0
HasNoStep style cell inner chains at most = (own rest : List Chain) (width : ℕ) → drop at chains ≡ own ++ rest →
    HasWidth (Weighs style) cell inner (link_of cell width own) → width ≤ most → ⊥

-- these links stand for the entries, side by side from a column on, and the chains begin with those that they rest on
pub record AreLinked (style : Style) (table : OpenTable) (entries : List Entry) (from : ℕ) (chains : List Chain)
    (links : List Link)
    (rest : List Chain) : Type 0 where
  pub stand : AllZip (λ entry link. IsLink (Weighs style) table entry link) entries links
  pub in_order : AreSideBySide from links
  pub split : chains ≡ flat_map (λ link. link.inner) links ++ rest

-- the widths of links
abbrev pub link_widths : List Link → ℕ
link_widths links = sum_by (λ link. link.width) links

-- the entries of a chain stand from place `at` on
pub record IsRow (style : Style) (table : OpenTable) (entries : List Entry) (chains : List Chain) (at most : ℕ)
    (row : Row) : Type 0 where
  pub links : List Link
  pub linked : AreLinked style table entries 0 (drop at chains) links (drop row.past chains)
  pub covers : row.covered ≡ covered links
  pub wide : row.width ≡ link_widths links
  pub light : row.width ≤ most
  pub within : row.past ≤ length chains
  pub inside : row.covered ≤ table.cols
  pub many : length entries ≤ table.cols

-- no links of at most this width in all stand for the entries, with the chains that they rest on at the head of these
abbrev pub HasNoRow : Style → OpenTable → List Entry → List Chain → ℕ → Type 0
HasNoRow style table entries chains most = (links : List Link) (rest : List Chain) →
    AreLinked style table entries 0 chains links rest → link_widths links ≤ most → ⊥
