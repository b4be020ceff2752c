-- The numbers of the chains of a table with few cells are within their ranges.
use Rattle.std.proofs.Common.{◌≡◌, ℕ, zero, suc, ◌+◌, ◌<◌, ◌≤◌, inl, List, [], ◌∷◌, ◌++◌, length, Option, Some, None, Contains}
use Rattle.std.proofs.Common.{slice_get, codes, refl, sym, ap, subst, arith}
use Rattle.std.specs.List.{AllZip, AllByRecursion, flat_map}
use Rattle.std.proofs.lemmas.Option.{get_or_from_slice_get, slice_get_within}
use Rattle.std.proofs.lemmas.List.Concat.{flat_map-cons}
use Rattle.std.proofs.lemmas.List.Elements.{All-contains, All-from_recursion}
use Rattle.tl_base.specs.declared.limits.TheConstants.{MAX_CELLS, MAX_TABLES}
use Rattle.tl_base.specs.declared.style.Style.{Style}
use Rattle.tl_base.proofs.Members.{Contains-flat_map, AllByRecursion-append, AllByRecursion-weaker}
use Rattle.tl_cert.specs.Pieces.{AllWithin, IsPieceInRange, character, number, word}
use Rattle.tl_cert.specs.declared.limits.TheConstants.{MAX_TABLE}
use Rattle.tl_cert.specs.Text.{IsChainWritable, entry_pieces, inner_pieces, space}
use Rattle.tl_base.specs.declared.chain.Chain.{Chain}
use Rattle.tl_base.specs.declared.chain.Entry.{Entry}
use Rattle.tl_cert.proofs.reading.Words.{within-word}
use Rattle.tl_table.specs.declared.cell.Table.{Table, out-Table}
use Rattle.tl_table.specs.declared.cell.TableCell.{TableCell, out-TableCell}
use Rattle.tl_table.specs.Tables.{OpenTable, inner_tables, tables_in}
use Rattle.tl_table.specs.Chains.{HasWidth, IsChainWithin, IsLink, Link}
use Rattle.tl_table.specs.FewCells.{HasFewCells}
use Rattle.tl_table.specs.Sound.{IsSound}
use Rattle.tl_table.proofs.SoundParts.{sound_inner}
use Rattle.tl_table.proofs.FewCells.{among-from}

-- ---- chains

-- the numbers of an entry are in their ranges
abbrev IsEntryWithin : Entry → Type 0
IsEntryWithin entry = AllWithin (entry_pieces entry)

entries-within : (entries : List Entry) → AllByRecursion IsEntryWithin entries →
    AllWithin (flat_map (λ entry. character space ∷ entry_pieces entry) entries)
entries-within [] each = tt
entries-within (entry ∷ entries) each =
    subst AllWithin (sym (flat_map-cons (λ one. character space ∷ entry_pieces one) entry entries)) (
      tt,
      AllByRecursion-append IsPieceInRange (entry_pieces entry) (flat_map (λ one. character space ∷ entry_pieces one) entries)
          each.0 (entries-within entries each.1),
    )

chain-within : (chain : Chain) → 0 < length chain.entries → chain.table < MAX_TABLES →
    AllByRecursion IsEntryWithin chain.entries → IsChainWritable chain
chain-within chain some low each = (
  omega (arith, some),
  AllByRecursion-append IsPieceInRange (word (codes "chain "))
      (number 0 MAX_TABLE chain.table ∷ (flat_map (λ entry. character space ∷ entry_pieces entry) chain.entries ++ word
      (codes "\n")))
      (within-word (codes "chain ")) (
        (omega arith, omega (arith, low)),
        AllByRecursion-append IsPieceInRange (flat_map (λ entry. character space ∷ entry_pieces entry) chain.entries)
            (word (codes "\n"))
            (entries-within chain.entries each) (within-word (codes "\n")),
      ),
)

-- what an entry stands for lies in the table
module _ (weighs : Table → List Chain → ℕ → Type 0) (table : OpenTable) (few : length table.cells ≤ MAX_CELLS + 1)
    (low : AllByRecursion (λ nested. (out-Table nested).number < MAX_TABLES) (inner_tables table)) where
  nested-inside : (k : ℕ) (cell : TableCell) (nested : Table) → slice_get table.cells k ≡ Some cell →
      Contains (tables_in (out-TableCell cell)) nested →
      Contains (inner_tables table) nested
  nested-inside k cell nested named has =
      Contains-flat_map (λ one. tables_in (out-TableCell one)) table.cells cell nested
      (k, slice_get_within table.cells k cell named, get_or_from_slice_get table.cells k cell cell named) has

  inner-within : (cell : TableCell) (k : ℕ) (inner : Option ℕ) (link : Link) → slice_get table.cells k ≡ Some cell →
      HasWidth weighs (out-TableCell cell) inner link → AllWithin (inner_pieces inner)
  inner-within cell k None link named wide = tt
  inner-within cell k (Some named_table) link named (nested, has, is, weighed) =
      let small = All-contains (λ any. (out-Table any).number < MAX_TABLES) (inner_tables table) nested
      (All-from_recursion (λ any. (out-Table any).number < MAX_TABLES) (inner_tables table) low)
      (nested-inside k cell nested named has) in
      (tt, ((omega arith, omega (arith, small, is)), tt))

  entry-within : (entry : Entry) (link : Link) → IsLink weighs table entry link → IsEntryWithin entry
  entry-within entry link is = (
    (omega arith, omega (arith, slice_get_within table.cells entry.cell is.cell is.named, few)),
    inner-within is.cell entry.cell entry.inner link is.named is.wide,
  )

  links-within : (entries : List Entry) (links : List Link) →
      AllZip (λ entry link. IsLink weighs table entry link) entries links →
      AllByRecursion IsEntryWithin entries
  links-within [] [] stand = tt
  links-within [] (link ∷ links) stand = absurd stand
  links-within (entry ∷ entries) [] stand = absurd stand
  links-within (entry ∷ entries) (link ∷ links) stand = (entry-within entry link stand.0, links-within entries links stand.1)

  -- what each link rests on is writable, where the chains of nested tables are
  link-inner : (cell : TableCell) (k : ℕ) (inner : Option ℕ) (link : Link) → slice_get table.cells k ≡ Some cell →
      HasWidth weighs (out-TableCell cell) inner link →
      ((nested : Table) (chains : List Chain) (weight : ℕ) → Contains (inner_tables table) nested → weighs nested chains weight →
      AllByRecursion IsChainWritable chains) → AllByRecursion IsChainWritable link.inner
  link-inner cell k None link named wide each = subst (AllByRecursion IsChainWritable) (sym wide.1) tt
  link-inner cell k (Some named_table) link named (nested, has, is, weighed) each =
      each nested link.inner link.width (nested-inside k cell nested named has) weighed

  links-inner : (entries : List Entry) (links : List Link) → AllZip (λ entry link. IsLink weighs table entry link) entries links →
      ((nested : Table) (chains : List Chain) (weight : ℕ) → Contains (inner_tables table) nested → weighs nested chains weight →
      AllByRecursion IsChainWritable chains) → AllByRecursion IsChainWritable (flat_map (λ link. link.inner) links)
  links-inner [] [] stand each = tt
  links-inner [] (link ∷ links) stand each = absurd stand
  links-inner (entry ∷ entries) [] stand each = absurd stand
  links-inner (entry ∷ entries) (link ∷ links) stand each =
      subst (AllByRecursion IsChainWritable) (sym (flat_map-cons (λ (one : Link). one.inner) link links))
      (AllByRecursion-append IsChainWritable link.inner (flat_map (λ (one : Link). one.inner) links)
      (link-inner stand.0.cell entry.cell entry.inner link stand.0.named stand.0.wide each)
      (links-inner entries links stand.1 each))

pub chains-writable : (depth : ℕ) (table : Table) (style : Style) (chains : List Chain) (weight : ℕ) → IsSound table →
    HasFewCells table →
    IsChainWithin depth style table chains weight → (1 ≤ length chains) × AllByRecursion IsChainWritable chains
chains-writable zero table style chains weight sound few is = absurd is
chains-writable (suc depth) table style chains weight sound few is = (
  omega (arith, ap length is.followed),
  subst (AllByRecursion IsChainWritable) (sym is.followed) (
    chain-within is.chain is.has_entry (omega (arith, is.of_table, sound.few_tables))
        (links-within (IsChainWithin depth style) (out-Table table) own low is.chain.entries is.links is.stand),
    links-inner (IsChainWithin depth style) (out-Table table) own low is.chain.entries is.links is.stand
        (λ nested inner weighed has chain. (chains-writable depth nested style inner weighed
        (All-contains IsSound (inner_tables (out-Table table)) nested
        (All-from_recursion IsSound (inner_tables (out-Table table)) sounds) has)
        (λ inside among. few inside (among-from table nested inside has among)) chain).1),
  ),
) where
  own : length (out-Table table).cells ≤ MAX_CELLS + 1
  own = few table (inl refl)

  sounds : AllByRecursion IsSound (inner_tables (out-Table table))
  sounds = sound_inner table sound

  low : AllByRecursion (λ nested. (out-Table nested).number < MAX_TABLES) (inner_tables (out-Table table))
  low = AllByRecursion-weaker IsSound (λ nested. (out-Table nested).number < MAX_TABLES) (inner_tables (out-Table table))
      (λ nested one. omega (arith, one.few_tables)) sounds
