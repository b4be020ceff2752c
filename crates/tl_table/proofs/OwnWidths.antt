-- A cell's own width, and what it takes to hold the cell beside it: the least widths of its nested tables.
use Rattle.std.proofs.Common.{◌≡◌, ◌∙◌, ℕ, zero, suc, ◌+◌, ◌-◌, ◌<◌, ◌≤◌, max, List, [], ◌∷◌, ◌++◌, length, take, get_or, sum_by}
use Rattle.std.proofs.Common.{refl, sym, ap}
use Rattle.std.proofs.Common.{subst, ⊎_elim, arith}
use Rattle.std.specs.List.{AllZip, AllByRecursion, flat_map}
use Rattle.std.proofs.lemmas.Bool.{cases_lt}
use Rattle.std.proofs.lemmas.List.Concat.{flat_map-cons}
use Rattle.tl_base.specs.declared.style.Style.{Style}
use Rattle.tl_base.specs.Style.{gap_of, edges_of}
use Rattle.tl_base.proofs.Zips.{AllZip-weaker}
use Rattle.tl_base.proofs.Members.{AllByRecursion-append}
use Rattle.tl_base.specs.Sizes.{total}
use Rattle.tl_base.proofs.Taken.{taken_more}
use Rattle.tl_text.specs.declared.paragraph.Atom.{Atom}
use Rattle.tl_text.specs.Cuttings.{joined, HasCutting}
use Rattle.tl_text.proofs.Paragraphs.{AllFit, HasCutting-from_fit}
use Rattle.tl_text.proofs.Minimals.{AllFit-from_cutting}
use Rattle.tl_table.specs.declared.cell.Content.{Content, out-Content}
use Rattle.tl_table.specs.declared.cell.Content.TheOpen as open_content
use Rattle.tl_table.specs.declared.cell.Table.{Table, out-Table}
use Rattle.tl_table.specs.declared.layout.Layout.{Layout, out-Layout}
use Rattle.tl_table.specs.Tables.{OpenCell, OpenContent, tables_of, tables_in}
use Rattle.tl_table.specs.Layouts.{Share, FitsShare, FitsRoom, FitsWithin}
use Rattle.tl_table.specs.Least.{IsLeastWidth}
use Rattle.tl_table.specs.Chains.{widest_unit, widest_in, widest_among, own_width}
use Rattle.tl_table.specs.inner.LeastRooms.{IsLeastCellRoom}
use Rattle.tl_table.specs.inner.Links.{IsOther, AreOthers}
use Rattle.tl_table.proofs.Deeper.{FitsShare-weaker, FitsWithin-deeper, FitsWithin-deeper', FitsWithin-wider}

-- ---- paragraphs

pub fit_of_widest : (w : ℕ) (atoms : List Atom) → widest_unit atoms ≤ w → AllFit w atoms
fit_of_widest w [] narrow = tt
fit_of_widest w (atom ∷ atoms) narrow = (omega arith, fit_of_widest w atoms (omega arith))

pub widest_of_fit : (w : ℕ) (atoms : List Atom) → AllFit w atoms → widest_unit atoms ≤ w
widest_of_fit w [] fit = omega arith
widest_of_fit w (atom ∷ atoms) fit = omega (arith, fit.0, widest_of_fit w atoms fit.1)

pub widest_unit-fits : (w : ℕ) (atoms : List Atom) → widest_unit atoms ≤ w → HasCutting w atoms
widest_unit-fits w atoms narrow = HasCutting-from_fit w atoms (fit_of_widest w atoms narrow)

pub widest_unit-least : (w : ℕ) (atoms : List Atom) → HasCutting w atoms → widest_unit atoms ≤ w
widest_unit-least w atoms has = widest_of_fit w atoms (AllFit-from_cutting w atoms has)

-- ---- what fits in a room is no wider than it

widest_in-fits : (fits : Table → ℕ → ℕ → Layout → Type 0) (w : ℕ) (block : OpenContent) (share : Share) →
    FitsShare fits w block share →
    widest_in block ≤ w
widest_in-fits fits w (open_content.Para paragraph) share one = widest_unit-least w paragraph (one.0.0, one.0.1, one.0.2)
widest_in-fits fits w (open_content.Table box) share one = omega arith

widest_among-fits : (fits : Table → ℕ → ℕ → Layout → Type 0) (w : ℕ) (blocks : List Content) (shares : List Share) →
    AllZip (λ block share. FitsShare fits w (out-Content block) share) blocks shares → widest_among blocks ≤ w
widest_among-fits fits w [] [] all = omega arith
widest_among-fits fits w [] (share ∷ shares) all = absurd all
widest_among-fits fits w (block ∷ blocks) [] all = absurd all
widest_among-fits fits w (block ∷ blocks) (share ∷ shares) all =
    omega (arith, widest_in-fits fits w (out-Content block) share all.0, widest_among-fits fits w blocks shares all.1)

pub own_width-fits : (fits : Table → ℕ → ℕ → Layout → Type 0) (w h : ℕ) (cell : OpenCell) (inner : List Layout) →
    FitsRoom fits w h cell inner →
    own_width cell ≤ w
own_width-fits fits w h cell inner room = omega (arith, room.floor, widest_among-fits fits w cell.blocks room.shares room.blocks)

-- each table nested in the cell fits in the room
tables_of-fit : (fits : Table → ℕ → ℕ → Layout → Type 0) (w : ℕ) (block : OpenContent) (share : Share) →
    FitsShare fits w block share →
    AllByRecursion (λ table. (height : ℕ) × (layout : Layout) × fits table w height layout) (tables_of block)
tables_of-fit fits w (open_content.Para paragraph) share one = tt
tables_of-fit fits w (open_content.Table box) share one = ((one.height, one.layout, one.laid), tt)

tables_among-fit : (fits : Table → ℕ → ℕ → Layout → Type 0) (w : ℕ) (blocks : List Content) (shares : List Share) →
    AllZip (λ block share. FitsShare fits w (out-Content block) share) blocks shares →
    AllByRecursion (λ table. (height : ℕ) × (layout : Layout) × fits table w height layout)
    (flat_map (λ block. tables_of (out-Content block)) blocks)
tables_among-fit fits w [] shares all = tt
tables_among-fit fits w (block ∷ blocks) [] all = absurd all
tables_among-fit fits w (block ∷ blocks) (share ∷ shares) all =
    subst (AllByRecursion (λ table. (height : ℕ) × (layout : Layout) × fits table w height layout))
    (sym (flat_map-cons (λ one. tables_of (out-Content one)) block blocks))
    (AllByRecursion-append (λ table. (height : ℕ) × (layout : Layout) × fits table w height layout)
    (tables_of (out-Content block))
    (flat_map (λ one. tables_of (out-Content one)) blocks)
    (tables_of-fit fits w (out-Content block) share all.0) (tables_among-fit fits w blocks shares all.1))

pub tables_in-fit : (fits : Table → ℕ → ℕ → Layout → Type 0) (w h : ℕ) (cell : OpenCell) (inner : List Layout) →
    FitsRoom fits w h cell inner →
    AllByRecursion (λ table. (height : ℕ) × (layout : Layout) × fits table w height layout) (tables_in cell)
tables_in-fit fits w h cell inner room = tables_among-fit fits w cell.blocks room.shares room.blocks

-- ---- what is as wide as all of it holds the cell

share_in : (style : Style) (v : ℕ) (block : OpenContent) → widest_in block ≤ v →
    AllByRecursion (λ table. (least : ℕ) × IsLeastWidth table style least × (least ≤ v)) (tables_of block) →
    (depth : ℕ) × (share : Share) × FitsShare (FitsWithin depth style) v block share
share_in style v (open_content.Para paragraph) narrow each =
    let cut = widest_unit-fits v paragraph narrow in
    (0, record { height = length (joined cut.0); inner = [] }, ((cut.0, cut.1, cut.2, omega arith), refl))
share_in style v (open_content.Table box) narrow each =
    let one = each.0.1.attained in (
      one.2.0,
      record { height = one.0; inner = one.1 ∷ [] },
      record {
        layout = one.1;
        height = one.0;
        laid = FitsWithin-wider one.2.0 style box.value each.0.0 v one.0 one.1 each.0.2 one.2.1;
        within = omega
            arith;
        given = refl;
      },
    )

shares_in : (style : Style) (v : ℕ) (blocks : List Content) → widest_among blocks ≤ v →
    AllByRecursion (λ block. AllByRecursion (λ table. (least : ℕ) × IsLeastWidth table style least × (least ≤ v))
    (tables_of (out-Content block)))
    blocks →
    (depth : ℕ) × (shares : List Share) × AllZip (λ block share. FitsShare (FitsWithin depth style) v (out-Content block) share)
    blocks shares
shares_in style v [] narrow each = (0, [], tt)
shares_in style v (block ∷ blocks) narrow each =
    let one = share_in style v (out-Content block) (omega arith) each.0 in
    let rest = shares_in style v blocks (omega arith) each.1 in (
      one.0 + rest.0,
      one.1 ∷ rest.1,
      (
        FitsShare-weaker (FitsWithin one.0 style) (FitsWithin (one.0 + rest.0) style) (FitsWithin-deeper' rest.0 one.0 style) v
            (out-Content block)
            one.1 one.2,
        AllZip-weaker (λ other share. FitsShare (FitsWithin rest.0 style) v (out-Content other) share)
            (λ other share. FitsShare (FitsWithin (one.0 + rest.0) style) v (out-Content other) share) blocks rest.1
            (λ other share fits. FitsShare-weaker (FitsWithin rest.0 style) (FitsWithin (one.0 + rest.0) style)
            (FitsWithin-deeper one.0 rest.0 style) v (out-Content other) share fits) rest.2,
      ),
    )

others_below : (style : Style) (w depth : ℕ) (blocks : List Content) (shares : List Share) →
    AllZip (λ block share. FitsShare (FitsWithin depth style) w (out-Content block) share) blocks shares →
    AllByRecursion (AreOthers style w) blocks → 0 < w → AllByRecursion
    (λ block. AllByRecursion (λ table. (least : ℕ) × IsLeastWidth table style least × (least ≤ w - 1))
    (tables_of (out-Content block))) blocks
others_below style w depth [] shares fits others some = tt
others_below style w depth (block ∷ blocks) [] fits others some = absurd fits
others_below style w depth (block ∷ blocks) (share ∷ shares) fits others some =
    (go (out-Content block) fits.0 others.0, others_below style w depth blocks shares fits.1 others.1 some)
  where
    below : (least : ℕ) → least ≤ w → (least ≡ w → ⊥) → least ≤ w - 1
    below least within other = ⊎_elim (λ (less : least < w). omega arith)
        (λ (past : w ≤ least). let same : least ≡ w = omega arith in absurd (other same)) (cases_lt least w)

    go : (block : OpenContent) → FitsShare (FitsWithin depth style) w block share →
        AllByRecursion (IsOther style w) (tables_of block) →
        AllByRecursion (λ table. (least : ℕ) × IsLeastWidth table style least × (least ≤ w - 1)) (tables_of block)
    go (open_content.Para paragraph) one other = tt
    go (open_content.Table box) one other =
        ((other.0.0, other.0.1, below other.0.0 (other.0.1.least w one.height one.layout (depth, one.laid)) other.0.2), tt)

pub own_or_inner : (style : Style) (cell : OpenCell) (w : ℕ) → IsLeastCellRoom style cell w →
    AllByRecursion (AreOthers style w) cell.blocks →
    w ≡ own_width cell
own_or_inner style cell w least others =
    let one = least.fits w (omega arith) in
    let own = own_width-fits (FitsWithin one.0 style) w one.1 cell one.2 one.3 in
    ⊎_elim
    (λ (less : own_width cell < w).
    let made = shares_in style (w - 1) cell.blocks (omega arith)
    (others_below style w one.0 cell.blocks one.3.shares one.3.blocks others (omega arith)) in
    absurd (omega (
      arith,
      least.least made.0 (w - 1) (sum_by (λ share. share.height) made.1) (flat_map (λ share. share.inner) made.1)
          (record { floor = omega arith; shares = made.1; blocks = made.2; within = omega arith; given = refl }),
    )))
    (λ (past : w ≤ own_width cell). omega arith)
    (cases_lt (own_width cell) w)

-- a table that is wider than nothing has a column
pub column_of_width : (table : Table) (style : Style) (w : ℕ) → IsLeastWidth table style w → 0 < w → 0 < (out-Table table).cols
column_of_width table style w least some = let one = least.attained in go (out-Table table).cols refl one.0 one.1 one.2.0 one.2.1
  where
    go : (cols : ℕ) → (out-Table table).cols ≡ cols → (height : ℕ) (layout : Layout) (depth : ℕ) →
        FitsWithin depth style table w height layout →
        0 < (out-Table table).cols
    go (suc cols) is height layout depth fits = omega (arith, is)
    go zero is height layout zero fits = absurd fits
    go zero is height layout (suc depth) fits = absurd (omega (
      arith,
      least.least 0 height layout (
        suc depth,
        record {
          columns = fits.columns;
          rows = fits.rows;
          within = none (out-Layout layout).widths (fits.columns ∙ is);
          high = fits.high;
          parts = fits.parts;
          cells = fits.cells;
          given = fits.given;
        },
      ),
    ))
      where
        none : (widths : List ℕ) → length widths ≡ 0 → total (gap_of style) (edges_of style) widths ≤ 0
        none [] empty = omega arith
        none (width ∷ widths) empty = absurd (omega arith)

-- a cell's own width is no more than its least room
pub own_below : (style : Style) (cell : OpenCell) (w : ℕ) → IsLeastCellRoom style cell w → own_width cell ≤ w
own_below style cell w least = let one = least.fits w (omega arith) in
    own_width-fits (FitsWithin one.0 style) w one.1 cell one.2 one.3

-- one more block may be wider
pub widest_among-more : (blocks : List Content) (block : Content) →
    widest_among (blocks ++ block ∷ []) ≡ max (widest_among blocks) (widest_in (out-Content block))
widest_among-more [] block = omega arith
widest_among-more (one ∷ blocks) block = let rest = widest_among-more blocks block in omega arith

-- the least width of a paragraph is that of its widest unit
pub widest_unit-is : (paragraph : List Atom) (w : ℕ) → ((v : ℕ) → w ≤ v → HasCutting v paragraph) →
    ((v : ℕ) → HasCutting v paragraph → w ≤ v) →
    w ≡ widest_unit paragraph
widest_unit-is paragraph w holds least = omega (
  arith,
  widest_unit-least w paragraph (holds w (omega arith)),
  least (widest_unit paragraph)
      (widest_unit-fits (widest_unit paragraph) paragraph (omega arith)),
)

-- a loop over blocks comes to the next one
pub widest_among-next : (least : ℕ) (items : List Content) (n : ℕ) (item : Content) (width more new : ℕ) → n < length items →
    item ≡ get_or items n item → width ≡ max least (widest_among (take n items)) →
    more ≡ widest_in (out-Content item) → new ≡ max width more → new ≡ max least (widest_among (take (n + 1) items))
widest_among-next least items n item width more new within is before here max_is =
    let prefix = taken_more items n item item within is in
    omega (arith, before, here, max_is, ap widest_among prefix, widest_among-more (take n items) item)
