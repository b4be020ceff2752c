-- The least width of a table is the least total of columns that give each cell its least room.
use Rattle.std.proofs.Common.{◌≡◌, ℕ, zero, suc, ◌+◌, ◌<◌, ◌≤◌, List, [], ◌∷◌, take, replicate, refl, sym, subst, arith}
use Rattle.std.specs.List.{All, AllZip, AllByRecursion, flat_map}
use Rattle.std.proofs.lemmas.List.{length-replicate}
use Rattle.std.proofs.lemmas.List.Sums.{sum_by-cons}
use Rattle.std.proofs.lemmas.List.Elements.{recursion_from_All, All-from_recursion}
use Rattle.tl_base.specs.declared.style.Style.{Style}
use Rattle.tl_base.specs.Style.{gap_of, row_gap_of, edges_of}
use Rattle.tl_base.proofs.Zips.{AllZip-weaker}
use Rattle.tl_grid.specs.Dropping.{IsPlaced}
use Rattle.tl_base.specs.Sizes.{room, total}
use Rattle.tl_table.specs.declared.cell.Table.{Table, out-Table}
use Rattle.tl_table.specs.declared.cell.TableCell.{TableCell, out-TableCell}
use Rattle.tl_table.specs.declared.layout.Layout.{Layout, out-Layout, roll-Layout, out-roll-Layout}
use Rattle.tl_table.specs.declared.widest.Demand.{Demand}
use Rattle.tl_table.specs.Tables.{OpenTable}
use Rattle.tl_table.specs.Layouts.{OpenLayout, FitsRoom, FitsCell, FitsBy, FitsWithin, width_for, height_for, total_height}
use Rattle.tl_table.specs.Least.{IsLeastWidth}
use Rattle.tl_table.specs.Sound.{place_of}
use Rattle.tl_table.specs.inner.Demands.{GiveRooms, IsLeastFor}
use Rattle.tl_table.specs.inner.LeastRooms.{AreDemandsOf}
use Rattle.tl_table.proofs.Deeper.{FitsRoom-weaker, FitsRoom-higher, FitsWithin-deeper, FitsWithin-deeper'}
use Rattle.tl_table.proofs.Rooms.{ahead, room-ends}

-- ---- rows of one height are high enough for any cell of that height

-- one more row of equal rows lies ahead of the next place
ahead-equal : (n height k : ℕ) → k < n → ahead (replicate n height) (suc k) ≡ ahead (replicate n height) k + height
ahead-equal zero height k within = absurd (omega arith)
ahead-equal (suc n) height zero within = omega (arith, sum_by-cons (λ (size : ℕ). size) height [])
ahead-equal (suc n) height (suc k) within =
    omega (
      arith,
      sum_by-cons (λ (size : ℕ). size) height (take (suc k) (replicate n height)),
      sum_by-cons (λ (size : ℕ). size) height
          (take k (replicate n height)),
      ahead-equal n height k (omega arith),
    )

pub room-equal : (gap n height top bottom : ℕ) → top < bottom → bottom ≤ n → height ≤ room gap (replicate n height) top bottom
room-equal gap n height top bottom some within =
    let next = room-ends 0 (replicate n height) (suc top) bottom (omega arith) in
    omega (arith, room-ends gap (replicate n height) top bottom (omega arith), next, ahead-equal n height top (omega arith))

-- ---- columns that give each cell its room hold each cell

-- of some depth and some height all cells hold by some layouts of their nested tables
pub record AreHeld (style : Style) (widths : List ℕ) (cells : List TableCell) : Type 0 where
  pub depth : ℕ
  pub height : ℕ
  pub parts : List (List Layout)
  pub each : AllZip (λ cell inner. FitsRoom (FitsWithin depth style)
      (room (gap_of style) widths (place_of cell).left (place_of cell).right) height
      (out-TableCell cell) inner) cells parts

are_held : (style : Style) (widths : List ℕ) (cells : List TableCell) (demands : List Demand) → AreDemandsOf style cells demands →
    AllByRecursion (λ demand. demand.width ≤ room (gap_of style) widths demand.left demand.right) demands →
    AreHeld style widths cells
are_held style widths [] [] those wide = record { depth = 0; height = 0; parts = []; each = tt }
are_held style widths [] (demand ∷ demands) those wide = absurd those
are_held style widths (cell ∷ cells) [] those wide = absurd those
are_held style widths (cell ∷ cells) (demand ∷ demands) those wide =
    with_first (are_held style widths cells demands those.1 wide.1)
  where
    here : demand.width ≤ room (gap_of style) widths (place_of cell).left (place_of cell).right
    here = subst (λ from. demand.width ≤ room (gap_of style) widths from (place_of cell).right) those.0.left
        (subst (λ past. demand.width ≤ room (gap_of style) widths demand.left past) those.0.right wide.0)

    with_first : AreHeld style widths cells → AreHeld style widths (cell ∷ cells)
    with_first rest =
        let one = those.0.room.fits (room (gap_of style) widths (place_of cell).left (place_of cell).right) here in record {
          depth = one.0 + rest.depth;
          height = one.1 + rest.height;
          parts = one.2 ∷ rest.parts;
          each = (
            FitsRoom-higher (FitsWithin (one.0 + rest.depth) style)
                (room (gap_of style) widths (place_of cell).left (place_of cell).right) one.1
                (one.1 + rest.height) (out-TableCell cell) one.2 (omega arith)
                (FitsRoom-weaker (FitsWithin one.0 style) (FitsWithin (one.0 + rest.depth) style)
                (FitsWithin-deeper' rest.depth one.0 style)
                (room (gap_of style) widths (place_of cell).left (place_of cell).right) one.1 (out-TableCell cell) one.2 one.3),
            AllZip-weaker
                (λ other inner. FitsRoom (FitsWithin rest.depth style)
                (room (gap_of style) widths (place_of other).left (place_of other).right)
                rest.height (out-TableCell other) inner)
                (λ other inner. FitsRoom (FitsWithin (one.0 + rest.depth) style)
                (room (gap_of style) widths (place_of other).left (place_of other).right) (one.1 + rest.height)
                (out-TableCell other) inner)
                cells rest.parts
                (λ other inner fits. FitsRoom-higher (FitsWithin (one.0 + rest.depth) style)
                (room (gap_of style) widths (place_of other).left (place_of other).right) rest.height (one.1 + rest.height)
                (out-TableCell other)
                inner (omega arith)
                (FitsRoom-weaker (FitsWithin rest.depth style) (FitsWithin (one.0 + rest.depth) style)
                (FitsWithin-deeper one.0 rest.depth style)
                (room (gap_of style) widths (place_of other).left (place_of other).right) rest.height (out-TableCell other)
                inner fits))
                rest.each,
          );
        }

-- what holds of each of a list helps with what holds of two lists place by place
AllZip-helped : {A B : Type 0} (H : A → Type 0) (P Q : A → B → Type 0) (xs : List A) (ys : List B) →
    ((x : A) (y : B) → H x → P x y → Q x y) →
    AllByRecursion H xs → AllZip P xs ys → AllZip Q xs ys
AllZip-helped H P Q [] [] weaker helps all = tt
AllZip-helped H P Q [] (y ∷ ys) weaker helps all = absurd all
AllZip-helped H P Q (x ∷ xs) [] weaker helps all = absurd all
AllZip-helped H P Q (x ∷ xs) (y ∷ ys) weaker helps all = (
  weaker x y helps.0 all.0,
  AllZip-helped H P Q xs ys weaker helps.1 all.1,
)

pub some_layout : (style : Style) (table : OpenTable) (demands : List Demand) (widths : List ℕ) →
    All (λ cell. IsPlaced table.cols table.rows (place_of cell)) table.cells →
    AreDemandsOf style table.cells demands → GiveRooms (gap_of style) table.cols demands widths →
    (depth : ℕ) × (height : ℕ) × (layout : OpenLayout) ×
    FitsBy (FitsWithin depth style) style table (total (gap_of style) (edges_of style) widths) height layout
some_layout style table demands widths placed those give = (
  held.depth,
  total_height style table layout,
  layout,
  record {
    columns = give.columns;
    rows = length-replicate table.rows held.height;
    within = omega arith;
    high = refl;
    parts = held.parts;
    cells = AllZip-helped (λ cell. IsPlaced table.cols table.rows (place_of cell))
        (λ cell inner. FitsRoom (FitsWithin held.depth style)
        (room (gap_of style) widths (place_of cell).left (place_of cell).right) held.height
        (out-TableCell cell) inner)
        (λ cell inner. FitsCell (FitsWithin held.depth style) style table layout (out-TableCell cell) inner) table.cells held.parts
        (λ cell inner at fits. FitsRoom-higher (FitsWithin held.depth style)
        (room (gap_of style) widths (place_of cell).left (place_of cell).right)
        held.height (height_for style table layout (place_of cell)) (out-TableCell cell) inner
        (omega (
          arith,
          room-equal (row_gap_of style) table.rows held.height (place_of cell).top (place_of cell).bottom at.2 at.3,
        )) fits)
        (recursion_from_All (λ cell. IsPlaced table.cols table.rows (place_of cell)) table.cells placed) held.each;
    given = refl;
  },
) where
  held : AreHeld style widths table.cells
  held = are_held style widths table.cells demands those
      (recursion_from_All (λ demand. demand.width ≤ room (gap_of style) widths demand.left demand.right) demands give.each)

  layout : OpenLayout
  layout = record { widths = widths; heights = replicate table.rows held.height; inner = flat_map (λ inner. inner) held.parts }

-- ---- a layout that fits gives each cell its room

gives_rooms : (style : Style) (depth : ℕ) (table : OpenTable) (layout : OpenLayout) (cells : List TableCell) (parts : List (List Layout))
    (demands : List Demand) →
    AreDemandsOf style cells demands →
    AllZip (λ cell inner. FitsCell (FitsWithin depth style) style table layout (out-TableCell cell) inner) cells parts →
    AllByRecursion (λ demand. demand.width ≤ room (gap_of style) layout.widths demand.left demand.right) demands
gives_rooms style depth table layout [] parts [] those fits = tt
gives_rooms style depth table layout [] parts (demand ∷ demands) those fits = absurd those
gives_rooms style depth table layout (cell ∷ cells) parts [] those fits = absurd those
gives_rooms style depth table layout (cell ∷ cells) [] (demand ∷ demands) those fits = absurd fits
gives_rooms style depth table layout (cell ∷ cells) (inner ∷ parts) (demand ∷ demands) those fits = (
  subst (λ from. demand.width ≤ room (gap_of style) layout.widths from demand.right) (sym those.0.left)
      (subst (λ past. demand.width ≤ room (gap_of style) layout.widths (place_of cell).left past) (sym those.0.right)
      (those.0.room.least depth (width_for style layout (place_of cell)) (height_for style table layout (place_of cell)) inner fits.0)),
  gives_rooms style depth table layout cells parts demands those.1 fits.1,
)

not_narrower : (style : Style) (table : Table) (demands : List Demand) (weight : ℕ) →
    AreDemandsOf style (out-Table table).cells demands →
    IsLeastFor style (out-Table table).cols demands weight →
    (other height depth : ℕ) (layout : Layout) → FitsWithin depth style table other height layout → weight ≤ other
not_narrower style table demands weight those least other height zero layout fits = absurd fits
not_narrower style table demands weight those least other height (suc depth) layout fits =
    omega (
      arith,
      fits.within,
      least.never_less (out-Layout layout).widths (record {
        columns = fits.columns;
        each = All-from_recursion (λ demand. demand.width ≤ room (gap_of style)
            (out-Layout layout).widths demand.left demand.right) demands
            (gives_rooms style depth (out-Table table) (out-Layout layout) (out-Table table).cells fits.parts demands those fits.cells);
      }),
    )

-- the least total for the demands of its cells is the least width of the table
pub least_width_for : (style : Style) (table : Table) (demands : List Demand) (weight : ℕ) →
    All (λ cell. IsPlaced (out-Table table).cols (out-Table table).rows (place_of cell)) (out-Table table).cells →
    AreDemandsOf style (out-Table table).cells demands → IsLeastFor style (out-Table table).cols demands weight →
    IsLeastWidth table style weight
least_width_for style table demands weight placed those least =
    let made = some_layout style (out-Table table) demands least.attained.0 placed those least.attained.1 in record {
      attained = (
        made.1,
        roll-Layout made.2,
        (
          suc made.0,
          subst (λ layout. FitsBy (FitsWithin made.0 style) style (out-Table table) weight made.1 layout)
              (sym (out-roll-Layout made.2))
              (subst (λ width. FitsBy (FitsWithin made.0 style) style (out-Table table) width made.1 made.2)
              least.attained.2 made.3),
        ),
      );
      least = λ other height layout fits. not_narrower style table demands weight those least other height fits.0 layout fits.1;
    }
