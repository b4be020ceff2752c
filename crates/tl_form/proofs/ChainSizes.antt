-- The chains of a table are at most as many as it has tables, itself counted, and each has at most as many entries as its table
-- has columns: the cells of a chain stand side by side, so that none is there twice.
use Rattle.std.proofs.Common.{◌≡◌, ◌∙◌, ℕ, zero, suc, ◌+◌, ◌-◌, ◌*◌, ◌<◌, ◌≤◌, inl, inr, cond, ltb, List, [], ◌∷◌, ◌++◌, length}
use Rattle.std.proofs.Common.{Option, Some, None, Contains, slice_get, sum_by, refl, sym, ap, subst, arith}
use Rattle.std.specs.List.{AllZip, flat_map}
use Rattle.std.proofs.lemmas.Bool.{cases_lt, lt-ltb, le-ltb}
use Rattle.std.proofs.lemmas.List.{length-append}
use Rattle.std.proofs.lemmas.List.Concat.{flat_map-cons}
use Rattle.std.proofs.lemmas.List.Elements.{All-contains, All-from_recursion}
use Rattle.std.proofs.lemmas.List.Sums.{sum_by-cons, sum_by-append, get_or-le-sum_by}
use Rattle.std.proofs.lemmas.Option.{get_or_from_slice_get, slice_get_within}
use Rattle.tl_base.specs.declared.limits.TheConstants.{MAX_COLUMNS}
use Rattle.tl_base.specs.declared.style.Style.{Style}
use Rattle.tl_base.specs.declared.chain.Chain.{Chain}
use Rattle.tl_base.specs.declared.chain.Entry.{Entry}
use Rattle.tl_base.proofs.Members.{Contains-cases, Contains-flat_map, Contains-none, flat_map-Contains}
use Rattle.tl_cert.proofs.TextSizes.{entries_in}
use Rattle.tl_grid.specs.declared.shape.Place.{Place}
use Rattle.tl_table.specs.declared.cell.Content.{Content, out-Content}
use Rattle.tl_table.specs.declared.cell.Content.TheOpen as open_content
use Rattle.tl_table.specs.declared.cell.Table.{Table, out-Table}
use Rattle.tl_table.specs.declared.cell.TableCell.{TableCell, out-TableCell}
use Rattle.tl_table.specs.Chains.{AreSideBySide, HasWidth, IsChainWithin, IsLink, Link}
use Rattle.tl_table.specs.Sound.{IsSound, IsSoundWithin, nested_in_cell, nested_in_content, nested_in_table}
use Rattle.tl_table.specs.Tables.{OpenContent, inner_tables, tables_in, tables_of}
use Rattle.tl_table.proofs.SizesOpen.{nested_in_table-out, nested_in_cell-out, nested_in_content-out, open_tables}
use Rattle.tl_table.proofs.SoundParts.{sound_inner}
use Rattle.tl_form.proofs.DueProblems.{cell_within}

-- ---- the tables inside the cells that begin at or past a column

-- how many are inside the cell, where it does
abbrev counted_from : ℕ → TableCell → ℕ
counted_from from cell = cond (ltb (out-TableCell cell).place.left from) 0 (nested_in_cell cell)

abbrev tables_from : ℕ → List TableCell → ℕ
tables_from from [] = 0
tables_from from (cell ∷ cells) = counted_from from cell + tables_from from cells

counted_there : (from : ℕ) (cell : TableCell) → from ≤ (out-TableCell cell).place.left →
    counted_from from cell ≡ nested_in_cell cell
counted_there from cell past = ap (λ before. cond before 0 (nested_in_cell cell)) (le-ltb (out-TableCell cell).place.left from past)

counted_not : (from : ℕ) (cell : TableCell) → (out-TableCell cell).place.left < from → counted_from from cell ≡ 0
counted_not from cell before =
    ap (λ before. cond before 0 (nested_in_cell cell)) (lt-ltb (out-TableCell cell).place.left from before)

counted_later : (from past : ℕ) (cell : TableCell) → from ≤ past → counted_from past cell ≤ counted_from from cell
counted_later from past cell later = elim (cases_lt (out-TableCell cell).place.left past) [
  | inl before ↦ omega (arith, counted_not past cell before)
  | inr after ↦ omega (arith, counted_there past cell after, counted_there from cell (omega (arith, after, later)))
]

tables_later : (from past : ℕ) (cells : List TableCell) → from ≤ past → tables_from past cells ≤ tables_from from cells
tables_later from past [] later = omega arith
tables_later from past (cell ∷ cells) later = omega (arith, counted_later from past cell later, tables_later from past cells later)

-- past a cell its own tables are no longer counted
tables_past : (from past : ℕ) (cells : List TableCell) (k : ℕ) (cell : TableCell) → slice_get cells k ≡ Some cell →
    from ≤ (out-TableCell cell).place.left → (out-TableCell cell).place.left < past →
    nested_in_cell cell + tables_from past cells ≤ tables_from from cells
tables_past from past [] k cell named begins ends = absurd cc
tables_past from past (first ∷ cells) zero cell named begins ends =
    let same : first ≡ cell = cc in
    subst (λ (one : TableCell). nested_in_cell cell + (counted_from past one + tables_from past cells) ≤
    counted_from from one + tables_from from cells) (sym same)
    (omega (
      arith,
      counted_not past cell ends,
      counted_there from cell begins,
      tables_later from past cells (omega (arith, begins, ends)),
    ))
tables_past from past (first ∷ cells) (suc k) cell named begins ends = omega (
  arith,
  counted_later from past first (omega (arith, begins, ends)),
  tables_past from past cells k cell named begins ends,
)

tables_all : (cells : List TableCell) → tables_from 0 cells ≡ sum_by nested_in_cell cells
tables_all [] = refl
tables_all (cell ∷ cells) = omega (
  arith,
  counted_there 0 cell (omega arith),
  tables_all cells,
  sum_by-cons nested_in_cell cell cells,
)

-- a table that is nested directly in a cell is among those inside it, with the tables inside it
nested_in_block : (block : OpenContent) (nested : Table) → Contains (tables_of block) nested →
    1 + nested_in_table nested ≤ open_tables block
nested_in_block (open_content.Para paragraph) nested has = absurd (Contains-none nested has)
nested_in_block (open_content.Table box) nested has = elim (Contains-cases box.value [] nested has) [
  | inl same ↦ omega (arith, ap nested_in_table same)
  | inr none ↦ absurd (Contains-none nested none)
]

nested_among : (blocks : List Content) (nested : Table) → Contains (flat_map (λ block. tables_of (out-Content block)) blocks) nested →
    1 + nested_in_table nested ≤ sum_by nested_in_content blocks
nested_among blocks nested has =
    let found = flat_map-Contains (λ block. tables_of (out-Content block)) blocks nested has in
    let at = found.1 in
    omega (
      arith,
      nested_in_block (out-Content found.0) nested found.2,
      nested_in_content-out found.0,
      ap nested_in_content at.2,
      get_or-le-sum_by nested_in_content blocks at.0 found.0 at.1,
    )

nested_in : (cell : TableCell) (nested : Table) → Contains (tables_in (out-TableCell cell)) nested →
    1 + nested_in_table nested ≤ nested_in_cell cell
nested_in cell nested has = omega (arith, nested_among (out-TableCell cell).blocks nested has, nested_in_cell-out cell)

-- ---- chains

-- there are at most so many chains, none with more entries than a table may have columns
abbrev AreFewChains : ℕ → List Chain → Type 0
AreFewChains most chains = (length chains ≤ most) × (entries_in chains ≤ MAX_COLUMNS * length chains)

few_joined : (first second : ℕ) (chains more : List Chain) → AreFewChains first chains → AreFewChains second more →
    AreFewChains (first + second) (chains ++ more)
few_joined first second chains more few also = (
  omega (arith, length-append chains more, few.0, also.0),
  omega (
    arith,
    length-append chains more,
    sum_by-append (λ (chain : Chain). length chain.entries) chains more,
    few.1,
    also.1,
  ),
)

module _ (style : Style) (depth : ℕ) (table : Table) (sound : IsSound table)
    (each : (nested : Table) (chains : List Chain) (weight : ℕ) → Contains (inner_tables (out-Table table)) nested →
    IsChainWithin depth style nested chains weight → AreFewChains (1 + nested_in_table nested) chains) where
  abbrev cells : List TableCell
  cells = (out-Table table).cells

  has_cell : (k : ℕ) (cell : TableCell) → slice_get cells k ≡ Some cell → Contains cells cell
  has_cell k cell named = (k, slice_get_within cells k cell named, get_or_from_slice_get cells k cell cell named)

  -- the chains that an entry rests on are among the tables of its cell
  link_few : (cell : TableCell) (k : ℕ) (inner : Option ℕ) (link : Link) → slice_get cells k ≡ Some cell →
      HasWidth (IsChainWithin depth style) (out-TableCell cell) inner link → AreFewChains (nested_in_cell cell) link.inner
  link_few cell k None link named wide = subst (AreFewChains (nested_in_cell cell)) (sym wide.1) (omega arith, omega arith)
  link_few cell k (Some number) link named (nested, has, is, weighed) =
      let few = each nested link.inner link.width
      (Contains-flat_map (λ one. tables_in (out-TableCell one)) cells cell nested (has_cell k cell named) has) weighed in
      (omega (arith, few.0, nested_in cell nested has), few.1)

  links_few : (from : ℕ) (entries : List Entry) (links : List Link) →
      AllZip (λ entry link. IsLink (IsChainWithin depth style) (out-Table table) entry link) entries links →
      AreSideBySide from links → AreFewChains (tables_from from cells) (flat_map (λ link. link.inner) links)
  links_few from [] [] stand in_order = (omega arith, omega arith)
  links_few from [] (link ∷ links) stand in_order = absurd stand
  links_few from (entry ∷ entries) [] stand in_order = absurd stand
  links_few from (entry ∷ entries) (link ∷ links) stand in_order =
      let is = stand.0 in
      let left : link.place.left ≡ (out-TableCell is.cell).place.left = ap (λ (place : Place). place.left) is.placed in
      let right : link.place.right ≡ (out-TableCell is.cell).place.right = ap (λ (place : Place). place.right) is.placed in
      let wide = cell_within table sound is.cell (has_cell entry.cell is.cell is.named) in
      let past = tables_past from link.place.right cells entry.cell is.cell is.named (omega (arith, in_order.0, left))
      (omega (arith, wide.0, right)) in
      let both = few_joined (nested_in_cell is.cell) (tables_from link.place.right cells) link.inner
      (flat_map (λ (one : Link). one.inner) links) (link_few is.cell entry.cell entry.inner link is.named is.wide)
      (links_few link.place.right entries links stand.1 in_order.1) in
      subst (AreFewChains (tables_from from cells)) (sym (flat_map-cons (λ (one : Link). one.inner) link links))
      (omega (arith, both.0, past), both.1)

  -- each entry takes a column of its own
  entries_few : (from : ℕ) (entries : List Entry) (links : List Link) →
      AllZip (λ entry link. IsLink (IsChainWithin depth style) (out-Table table) entry link) entries links →
      AreSideBySide from links → length entries ≤ (out-Table table).cols - from
  entries_few from [] [] stand in_order = omega arith
  entries_few from [] (link ∷ links) stand in_order = absurd stand
  entries_few from (entry ∷ entries) [] stand in_order = absurd stand
  entries_few from (entry ∷ entries) (link ∷ links) stand in_order =
      let is = stand.0 in
      let left : link.place.left ≡ (out-TableCell is.cell).place.left = ap (λ (place : Place). place.left) is.placed in
      let right : link.place.right ≡ (out-TableCell is.cell).place.right = ap (λ (place : Place). place.right) is.placed in
      let wide = cell_within table sound is.cell (has_cell entry.cell is.cell is.named) in
      omega (arith, in_order.0, left, right, wide.0, wide.1, entries_few link.place.right entries links stand.1 in_order.1)

few_columns : (table : Table) → IsSound table → (out-Table table).cols ≤ MAX_COLUMNS
few_columns table sound = by_depth sound.depth sound.sound
  where
    by_depth : (depth : ℕ) → IsSoundWithin depth table → (out-Table table).cols ≤ MAX_COLUMNS
    by_depth zero is = absurd is
    by_depth (suc depth) is = is.few_columns

pub few_chains : (depth : ℕ) (table : Table) (style : Style) (chains : List Chain) (weight : ℕ) → IsSound table →
    IsChainWithin depth style table chains weight → AreFewChains (1 + nested_in_table table) chains
few_chains zero table style chains weight sound is = absurd is
few_chains (suc depth) table style chains weight sound is =
    let each : (nested : Table) (chains : List Chain) (weight : ℕ) → Contains (inner_tables (out-Table table)) nested →
    IsChainWithin depth style nested chains weight → AreFewChains (1 + nested_in_table nested) chains =
    λ nested chains weight has chain. few_chains depth nested style chains weight
    (All-contains IsSound (inner_tables (out-Table table)) nested
    (All-from_recursion IsSound (inner_tables (out-Table table)) (sound_inner table sound)) has) chain in
    let few = links_few style depth table sound each 0 is.chain.entries is.links is.stand is.in_order in
    let narrow = entries_few style depth table sound each 0 is.chain.entries is.links is.stand is.in_order in
    let all = tables_all (out-Table table).cells ∙ sym (nested_in_table-out table) in
    subst (AreFewChains (1 + nested_in_table table)) (sym is.followed) (
      omega (arith, few.0, all),
      omega (
        arith,
        sum_by-cons (λ (chain : Chain). length chain.entries) is.chain (flat_map (λ (link : Link). link.inner) is.links),
        few.1,
        narrow,
        few_columns table sound,
      ),
    )
