-- No layout fits a page that is narrower than a chain of its table weighs.
use Rattle.std.proofs.Common.{◌≡◌, ℕ, zero, suc, ◌+◌, ◌-◌, ◌*◌, ◌<◌, ◌≤◌, List, [], ◌∷◌, length, sum_by, map, Option, Some, None}
use Rattle.std.proofs.Common.{slice_get, sym, ap}
use Rattle.std.proofs.Common.{subst, arith}
use Rattle.std.specs.List.{AllZip, AllByRecursion}
use Rattle.std.proofs.lemmas.List.{take_all}
use Rattle.std.proofs.lemmas.List.Sums.{sum_by-cons}
use Rattle.std.proofs.lemmas.List.Elements.{recursion_from_All, All-from_recursion, All-get_or}
use Rattle.tl_base.specs.declared.style.Style.{Style}
use Rattle.tl_base.specs.declared.style.Style.TheVariants.{Plain, Compact, Frame, Grid, Box, Rule, Apart}
use Rattle.tl_base.specs.Style.{gap_of, edges_of}
use Rattle.tl_grid.specs.Dropping.{IsPlaced}
use Rattle.tl_base.specs.Sizes.{room, total}
use Rattle.tl_base.specs.declared.chain.Chain.{Chain}
use Rattle.tl_base.specs.declared.chain.Entry.{Entry}
use Rattle.tl_table.specs.declared.cell.Table.{Table, out-Table}
use Rattle.tl_table.specs.declared.cell.TableCell.{TableCell, out-TableCell}
use Rattle.tl_table.specs.declared.layout.Layout.{Layout, out-Layout}
use Rattle.tl_table.specs.Tables.{OpenTable, OpenCell, tables_in}
use Rattle.tl_table.specs.Layouts.{OpenLayout, FitsRoom, FitsCell, FitsWithin, width_for, height_for}
use Rattle.tl_table.specs.Chains.{Link, HasWidth, IsLink, AreSideBySide, covered, links_weight, IsChainWithin}
use Rattle.tl_table.specs.Sound.{IsSound, place_of, places_of, IsSoundCell}
use Rattle.tl_table.proofs.OwnWidths.{own_width-fits, tables_in-fit}
use Rattle.tl_table.proofs.Rooms.{ahead, room-ends, total-ahead}
use Rattle.tl_table.proofs.SoundParts.{sound_cells}
use Rattle.tl_table.proofs.Widths.{grid_of}

-- ---- links no wider than their rooms, side by side, are no wider than the columns

-- the link's cell covers columns, and its room is as wide as the link
pub record IsWithinRoom (gap cols : ℕ) (widths : List ℕ) (link : Link) : Type 0 where
  pub some : link.place.left < link.place.right
  pub inside : link.place.right ≤ cols
  pub wide : link.width ≤ room gap widths link.place.left link.place.right

-- what links weigh without the edges, by the columns that they cover
record WeighsWithin (style : Style) (cols : ℕ) (widths : List ℕ) (from : ℕ) (links : List Link) : Type 0 where
  light : sum_by (λ link. link.width) links + gap_of style * length links + ahead widths from ≤ ahead widths cols + gap_of
      style * covered links
  few : length links ≤ covered links
  within : covered links + from ≤ cols

light_more : (style : Style) (width room left right from past rest many columns span : ℕ) → width ≤ room →
    room + left ≡ right + gap_of style * (span - 1) → 1 ≤ span → from ≤ left →
    rest + gap_of style * many + right ≤ past + gap_of style * columns →
    (width + rest) + gap_of style * suc many + from ≤ past + gap_of style * (span + columns)
light_more Plain width room left right from past rest many columns span wide ends some order light = omega arith
light_more Compact width room left right from past rest many columns span wide ends some order light = omega arith
light_more Frame width room left right from past rest many columns span wide ends some order light = omega arith
light_more Grid width room left right from past rest many columns span wide ends some order light = omega arith
light_more Box width room left right from past rest many columns span wide ends some order light = omega arith
light_more Rule width room left right from past rest many columns span wide ends some order light = omega arith
light_more Apart width room left right from past rest many columns span wide ends some order light = omega arith

weighs_within : (style : Style) (cols : ℕ) (widths : List ℕ) (from : ℕ) (links : List Link) → from ≤ cols →
    AllByRecursion (IsWithinRoom (gap_of style) cols widths) links → AreSideBySide from links →
    WeighsWithin style cols widths from links
weighs_within style cols widths from [] inside each order =
    record { light = omega (arith, room-ends 0 widths from cols inside); few = omega arith; within = omega arith }
weighs_within style cols widths from (link ∷ links) inside each order =
    more (weighs_within style cols widths link.place.right links each.0.inside each.1 order.1)
  where
    more : WeighsWithin style cols widths link.place.right links → WeighsWithin style cols widths from (link ∷ links)
    more rest =
        let covers = sum_by-cons (λ (one : Link). one.place.right - one.place.left) link links in record {
          light =
              let wide = sum_by-cons (λ (one : Link). one.width) link links in
              subst (λ w. w + gap_of style * suc (length links) + ahead widths from ≤ ahead widths cols + gap_of style * covered
              (link ∷ links))
              (sym wide)
              (subst (λ c. (link.width + sum_by (λ one. one.width) links) + gap_of style * suc
              (length links) + ahead widths from ≤ ahead widths cols
              + gap_of style * c) (sym covers)
              (light_more style link.width (room (gap_of style) widths link.place.left link.place.right)
              (ahead widths link.place.left)
              (ahead widths link.place.right) (ahead widths from) (ahead widths cols)
              (sum_by (λ one. one.width) links) (length links) (covered links) (link.place.right - link.place.left) each.0.wide
              (room-ends (gap_of style) widths link.place.left link.place.right (omega (arith, each.0.some)))
              (omega (arith, each.0.some))
              (omega (arith, room-ends 0 widths from link.place.left order.0)) rest.light));
          few = omega (arith, rest.few, covers, each.0.some);
          within = omega (arith, rest.within, covers, each.0.some, order.0);
        }

in_all : (style : Style) (weight many columns cols whole : ℕ) → weight + gap_of style * many ≤ whole + gap_of style * columns →
    1 ≤ many →
    many ≤ columns → columns ≤ cols →
    weight + gap_of style * (many + (cols - columns) - 1) + edges_of style ≤ whole + gap_of style *
    (cols - 1) + edges_of style
in_all Plain weight many columns cols whole light some few within = omega arith
in_all Compact weight many columns cols whole light some few within = omega arith
in_all Frame weight many columns cols whole light some few within = omega arith
in_all Grid weight many columns cols whole light some few within = omega arith
in_all Box weight many columns cols whole light some few within = omega arith
in_all Rule weight many columns cols whole light some few within = omega arith
in_all Apart weight many columns cols whole light some few within = omega arith

links_within : (style : Style) (cols : ℕ) (widths : List ℕ) (links : List Link) → length widths ≡ cols → 0 < length links →
    AllByRecursion (IsWithinRoom (gap_of style) cols widths) links → AreSideBySide 0 links →
    links_weight style cols links ≤ total (gap_of style) (edges_of style) widths
links_within style cols widths links columns some each order =
    let far = weighs_within style cols widths 0 links (omega arith) each order in
    let whole = ap (sum_by (λ (size : ℕ). size)) (take_all cols widths (omega (arith, columns))) in
    omega (
      arith,
      in_all style (sum_by (λ link. link.width) links) (length links) (covered links) cols (ahead widths cols)
          (omega (arith, far.light))
          (omega arith) far.few (omega (arith, far.within)),
      total-ahead (gap_of style) (edges_of style) widths (omega (arith, columns, far.few, far.within)),
      ap (λ n. gap_of style * (n - 1)) columns,
      whole,
    )

-- ---- the links of a chain are no wider than the rooms of a layout that fits

module _ (style : Style) (depth : ℕ)
    (never : (table : Table) (chains : List Chain) (weight width height : ℕ) (layout : Layout) (at : ℕ) → IsSound table →
    IsChainWithin depth style
    table chains weight → FitsWithin at style table width height layout → weight ≤ width) where
  link_wide : (fitted w h : ℕ) (cell : OpenCell) (inner : List Layout) (named : Option ℕ) (link : Link) → IsSoundCell cell →
      HasWidth (IsChainWithin depth style) cell named link →
      FitsRoom (FitsWithin fitted style) w h cell inner → link.width ≤ w
  link_wide fitted w h cell inner None link sound wide fits =
      omega (arith, wide.0, own_width-fits (FitsWithin fitted style) w h cell inner fits)
  link_wide fitted w h cell inner (Some number) link sound wide fits =
      let at = wide.1 in
      let one = subst (λ table. (height : ℕ) × (layout : Layout) × FitsWithin fitted style table w height layout) at.2
      (All-get_or (λ table. (height : ℕ) × (layout : Layout) × FitsWithin fitted style table w height layout) (tables_in cell)
      at.0 wide.0 at.1
      (All-from_recursion (λ table. (height : ℕ) × (layout : Layout) × FitsWithin fitted style table w height layout)
      (tables_in cell)
      (tables_in-fit (FitsWithin fitted style) w h cell inner fits))) in
      let good = subst IsSound at.2 (All-get_or IsSound (tables_in cell) at.0 wide.0 at.1
      (All-from_recursion IsSound (tables_in cell) sound.inner))
      in
      never wide.0 link.inner link.width w one.0 one.1 fitted good wide.3 one.2

  -- the cell of a number fits by some part of the layout
  cell_fits : (fitted : ℕ) (table : OpenTable) (layout : OpenLayout) (cells : List TableCell) (parts : List (List Layout)) (k : ℕ)
      (cell : TableCell) →
      slice_get cells k ≡ Some cell →
      AllZip (λ one inner. FitsCell (FitsWithin fitted style) style table layout (out-TableCell one) inner) cells parts →
      (inner : List Layout) × FitsCell (FitsWithin fitted style) style table layout (out-TableCell cell) inner
  cell_fits fitted table layout [] parts k cell named fits = let no : None ≡ Some cell = named in cc
  cell_fits fitted table layout (one ∷ cells) [] k cell named fits = absurd fits
  cell_fits fitted table layout (one ∷ cells) (inner ∷ parts) zero cell named fits = let same : Some one ≡ Some cell = named in
      let is : one ≡ cell =
      cc in (inner, subst (λ it. FitsCell (FitsWithin fitted style) style table layout (out-TableCell it) inner) is fits.0)
  cell_fits fitted table layout (one ∷ cells) (inner ∷ parts) (suc k) cell named fits =
      cell_fits fitted table layout cells parts k cell named fits.1

  links_in_rooms : (table : Table) (fitted : ℕ) (layout : OpenLayout) (parts : List (List Layout)) (entries : List Entry)
      (links : List Link) →
      IsSound table →
      AllZip (λ one inner. FitsCell (FitsWithin fitted style) style (out-Table table) layout (out-TableCell one) inner)
      (out-Table table).cells parts →
      AllZip (λ entry link. IsLink (IsChainWithin depth style) (out-Table table) entry link) entries links →
      AllByRecursion (IsWithinRoom (gap_of style) (out-Table table).cols layout.widths) links
  links_in_rooms table fitted layout parts entries [] sound fits stand = tt
  links_in_rooms table fitted layout parts [] (link ∷ links) sound fits stand = absurd stand
  links_in_rooms table fitted layout parts (entry ∷ entries) (link ∷ links) sound fits stand =
      let one = stand.0 in
      let here = cell_fits fitted (out-Table table) layout (out-Table table).cells parts entry.cell one.cell one.named fits in
      let at : IsPlaced (out-Table table).cols (out-Table table).rows (place_of one.cell) =
      placed_at (out-Table table).cells entry.cell one.cell one.named
      (recursion_from_All (IsPlaced (out-Table table).cols (out-Table table).rows) (places_of (out-Table table))
      (grid_of table sound.depth sound.sound).placed) in
      let good : IsSoundCell (out-TableCell one.cell) = named_at (λ cell. IsSoundCell (out-TableCell cell))
      (out-Table table).cells entry.cell
      one.cell one.named (sound_cells table sound) in (
        record {
          some = subst (λ place. place.left < place.right) (sym one.placed) at.0;
          inside = subst (λ place. place.right ≤ (out-Table table).cols) (sym one.placed) at.1;
          wide = subst (λ place. link.width ≤ room (gap_of style) layout.widths place.left place.right) (sym one.placed)
              (link_wide fitted (width_for style layout (place_of one.cell)) (height_for style (out-Table table) layout (place_of one.cell))
              (out-TableCell one.cell)
              here.0 entry.inner link good one.wide here.1);
        },
        links_in_rooms table fitted layout parts entries links sound fits stand.1,
      )
    where
      placed_at : {cols rows : ℕ} (cells : List TableCell) (k : ℕ) (cell : TableCell) → slice_get cells k ≡ Some cell →
          AllByRecursion (IsPlaced cols rows) (map place_of cells) → IsPlaced cols rows (place_of cell)
      placed_at [] k cell named all = let no : None ≡ Some cell = named in cc
      placed_at {cols} {rows} (one ∷ cells) zero cell named all = let same : Some one ≡ Some cell = named in let is : one ≡ cell =
          cc in subst (λ it. IsPlaced cols rows (place_of it)) is all.0
      placed_at (one ∷ cells) (suc k) cell named all = placed_at cells k cell named all.1

      named_at : {X : Type 0} (P : X → Type 0) (xs : List X) (k : ℕ) (x : X) → slice_get xs k ≡ Some x → AllByRecursion P xs → P x
      named_at P [] k x named all = let no : None ≡ Some x = named in cc
      named_at P (one ∷ xs) zero x named all = let same : Some one ≡ Some x = named in let is : one ≡ x = cc in subst P is all.0
      named_at P (one ∷ xs) (suc k) x named all = named_at P xs k x named all.1

-- no page that a layout fits is narrower than a chain weighs
pub never_narrower : (depth : ℕ) (style : Style) (table : Table) (chains : List Chain) (weight width height : ℕ)
    (layout : Layout) (fitted : ℕ) →
    IsSound table → IsChainWithin depth style table chains weight → FitsWithin fitted style table width height layout →
    weight ≤ width
never_narrower zero style table chains weight width height layout fitted sound chain fits = absurd chain
never_narrower (suc depth) style table chains weight width height layout zero sound chain fits = absurd fits
never_narrower (suc depth) style table chains weight width height layout (suc fitted) sound chain fits =
    omega (
      arith,
      chain.weighed,
      fits.within,
      links_within style (out-Table table).cols (out-Layout layout).widths chain.links fits.columns
          (some_links chain.chain.entries chain.links chain.has_entry chain.stand)
          (links_in_rooms style depth (λ inner those w v h l at. never_narrower depth style inner those w v h l at) table fitted
          (out-Layout layout)
          fits.parts chain.chain.entries chain.links sound fits.cells chain.stand) chain.in_order,
    )
  where
    some_links : (entries : List Entry) (links : List Link) → 0 < length entries →
        AllZip (λ entry link. IsLink (IsChainWithin depth style) (out-Table table) entry link) entries links → 0 < length links
    some_links [] links some stand = absurd (omega arith)
    some_links (entry ∷ entries) [] some stand = absurd stand
    some_links (entry ∷ entries) (link ∷ links) some stand = omega arith
