-- A page that is too narrow for the table with one number of columns is so with a lesser one too, where no unit
-- is of a width between them.
use Rattle.std.proofs.Common.{ℕ, ◌<◌, ◌≤◌, List, arith}
use Rattle.tl_base.specs.declared.breaking.Breaking.{Breaking}
use Rattle.tl_base.specs.declared.breaking.Breaking.TheVariants.{Wider}
use Rattle.tl_base.specs.declared.style.Style.{Style}
use Rattle.tl_text.specs.Widest.{widest_within}
use Rattle.tl_table.specs.declared.cell.Table.{Table}
use Rattle.tl_table.specs.Laws.{FileSpellsOneTable}
use Rattle.tl_table.specs.Least.{IsLeastWidth}
use Rattle.tl_table.specs.Same.{AreSame}
use Rattle.tl_table.proofs.Deeper.{FitsWithin-wider}
use Rattle.tl_table.proofs.SameFits.{same_fits}
use Rattle.tl_read.specs.declared.source.Source.{Source}
use Rattle.tl_read.specs.Reading.{with_breaking}
use Rattle.tl_fit.specs.Fit.{FitsWith, HasLayout, IsTableWith}
use Rattle.tl_fit.specs.Units.{units_in_table}
use Rattle.tl_fit.proofs.OneReading.{one_table}
use Rattle.tl_fit.proofs.ReadingSteady.{reading_steady}

-- a table has no layout on a page narrower than its least width
none_narrower : (table : Table) (style : Style) (width least : ℕ) → IsLeastWidth table style least → width < least →
    HasLayout table style width → ⊥
none_narrower table style width least is narrow (height, layout, fits) =
    omega (arith, narrow, is.least width height layout fits)

-- and one on each page that is as wide
pub some_as_wide : (table : Table) (style : Style) (width least : ℕ) → IsLeastWidth table style least → least ≤ width →
    HasLayout table style width
some_as_wide table style width least is wide =
    let (height, layout, fits) = is.attained in
    (height, layout, (fits.0, FitsWithin-wider fits.0 style table least width height layout wide fits.1))

-- a table that is the same has the same layouts
same_layout : (one other : Table) (style : Style) (width : ℕ) → AreSame one other → HasLayout one style width →
    HasLayout other style width
same_layout one other style width same (height, layout, fits) =
    (height, layout, same_fits one other style width height layout same fits)

-- a page narrower than the least width of the table of a file, broken so, holds no table of the file, broken so
pub no_layout_narrower : FileSpellsOneTable → (source : Source) (style : Style) (width : ℕ) (bytes : List ℕ)
    (breaking : Breaking) (table : Table) (least : ℕ) → IsTableWith breaking source bytes table →
    IsLeastWidth table style least → width < least → FitsWith source style width bytes breaking → ⊥
no_layout_narrower spells_one source style width bytes breaking table least is is_least narrow (other, other_is, laid) =
    let same = one_table spells_one (with_breaking breaking source) bytes other table other_is is in
    none_narrower table style width least is_least narrow (same_layout other table style width same laid)

-- where a page is narrower than the least width of the table with one number of columns, it holds no table of
-- the file with a lesser number, if no unit is of a width between the two
pub no_layout_between : FileSpellsOneTable → (source : Source) (style : Style) (width : ℕ)
    (bytes : List ℕ) (less most : ℕ) (table : Table) (least : ℕ) → IsTableWith (Wider most) source bytes table →
    IsLeastWidth table style least → width < least → widest_within most (units_in_table table) ≤ less → 0 < less →
    less ≤ most → FitsWith source style width bytes (Wider less) → ⊥
no_layout_between spells_one source style width bytes less most table least is is_least narrow wide_below some
    below fits =
    no_layout_narrower spells_one source style width bytes (Wider less) table least
    (reading_steady source bytes less most table is wide_below some below) is_least narrow fits
