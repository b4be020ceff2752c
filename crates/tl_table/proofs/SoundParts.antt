-- The tables nested in a sound table are sound.
use Rattle.std.proofs.Common.{◌≡◌, ℕ, zero, suc, ◌+◌, ◌<◌, ◌≤◌, List, [], ◌∷◌, length, get_or, sum_by, sym, subst, arith}
use Rattle.std.specs.List.{AllByRecursion, All, flat_map}
use Rattle.std.proofs.lemmas.List.Concat.{flat_map-cons}
use Rattle.std.proofs.lemmas.List.Sums.{sum_by-cons}
use Rattle.std.proofs.lemmas.List.Elements.{recursion_from_All, All-from_recursion, All-get_or}
use Rattle.tl_base.specs.declared.limits.TheConstants.{MAX_DEPTH, MAX_PAGE_WIDTH}
use Rattle.tl_base.proofs.Members.{AllByRecursion-append, AllByRecursion-weaker, AllByRecursion-prefix, AllByRecursion-suffix}
use Rattle.tl_table.specs.declared.cell.Content.{out-Content}
use Rattle.tl_table.specs.declared.cell.Content.TheOpen as open_content
use Rattle.tl_table.specs.declared.cell.Table.{Table, out-Table}
use Rattle.tl_table.specs.declared.cell.TableCell.{TableCell, out-TableCell}
use Rattle.tl_table.specs.Tables.{OpenContent, tables_of, tables_in, inner_tables}
use Rattle.tl_table.specs.Spellable.{IsSpellableWithin}
use Rattle.tl_table.specs.Sound.{IsSoundWithin, IsSound, table_size, cell_size, content_size, nested_in_table}
use Rattle.tl_table.specs.Sound.{IsSoundBlock, IsSoundCell}
use Rattle.tl_table.proofs.InnerNumbers.{last_inner}
use Rattle.tl_table.proofs.SizesOpen.{table_size-out, cell_size-out, content_size-out, open_size}

-- ---- what holds of each of some lists joined

pub each_joined : {X Y : Type 0} (P : Y → Type 0) (f : X → List Y) (xs : List X) → AllByRecursion P (flat_map f xs) →
    AllByRecursion (λ x. AllByRecursion P (f x)) xs
each_joined P f [] all = tt
each_joined P f (x ∷ xs) all = let both = subst (AllByRecursion P) (flat_map-cons f x xs) all in (
  AllByRecursion-prefix P (f x) (flat_map f xs) both,
  each_joined P f xs (AllByRecursion-suffix P (f x) (flat_map f xs) both),
)

pub both_each : {X : Type 0} (P Q : X → Type 0) (xs : List X) → AllByRecursion P xs → AllByRecursion Q xs →
    AllByRecursion (λ x. P x × Q x) xs
both_each P Q [] one other = tt
both_each P Q (x ∷ xs) one other = ((one.0, other.0), both_each P Q xs one.1 other.1)

-- joined, what each measures is no greater than all together
small_joined : {X : Type 0} (measure : Table → ℕ) (f : X → List Table) (size : X → ℕ) (xs : List X) →
    ((x : X) → AllByRecursion (λ table. measure table ≤ size x) (f x)) →
    AllByRecursion (λ table. measure table ≤ sum_by size xs) (flat_map f xs)
small_joined measure f size [] each = tt
small_joined measure f size (x ∷ xs) each =
    let sum = sum_by-cons size x xs in
    subst (AllByRecursion (λ table. measure table ≤ sum_by size (x ∷ xs))) (sym (flat_map-cons f x xs))
    (AllByRecursion-append (λ table. measure table ≤ sum_by size (x ∷ xs)) (f x) (flat_map f xs)
    (AllByRecursion-weaker (λ table. measure table ≤ size x) (λ table. measure table ≤ sum_by size (x ∷ xs)) (f x)
    (λ table small. omega arith) (each x))
    (AllByRecursion-weaker (λ table. measure table ≤ sum_by size xs) (λ table. measure table ≤ sum_by size (x ∷ xs))
    (flat_map f xs)
    (λ table small. omega arith) (small_joined measure f size xs each)))

-- ---- a nested table holds no more than the table

small_in_block : (block : OpenContent) → AllByRecursion (λ table. table_size table ≤ open_size block) (tables_of block)
small_in_block (open_content.Para paragraph) = tt
small_in_block (open_content.Table box) = (omega arith, tt)

small_in_cell : (cell : TableCell) → AllByRecursion (λ table. table_size table ≤ cell_size cell) (tables_in (out-TableCell cell))
small_in_cell cell =
    AllByRecursion-weaker (λ table. table_size table ≤ sum_by content_size (out-TableCell cell).blocks)
    (λ table. table_size table ≤ cell_size cell)
    (tables_in (out-TableCell cell)) (λ table small. omega (arith, cell_size-out cell))
    (small_joined table_size (λ block. tables_of (out-Content block)) content_size (out-TableCell cell).blocks
    (λ block. subst (λ n. AllByRecursion (λ table. table_size table ≤ n) (tables_of (out-Content block)))
    (sym (content_size-out block))
    (small_in_block (out-Content block))))

small_in_table : (table : Table) → AllByRecursion (λ inner. table_size inner ≤ table_size table) (inner_tables (out-Table table))
small_in_table table = subst (λ n. AllByRecursion (λ inner. table_size inner ≤ n) (inner_tables (out-Table table)))
    (sym (table_size-out table))
    (small_joined table_size (λ cell. tables_in (out-TableCell cell)) cell_size (out-Table table).cells small_in_cell)

-- it holds no more than the table, and has no greater number inside
abbrev IsNoMore : Table → Table → Type 0
IsNoMore table inner = (table_size inner ≤ table_size table) ×
    ((out-Table inner).number + nested_in_table inner ≤ (out-Table table).number + nested_in_table table)

-- the tables nested directly in a sound table are sound
pub sound_inner : (table : Table) → IsSound table → AllByRecursion IsSound (inner_tables (out-Table table))
sound_inner table sound = by_depth sound.depth sound.shallow sound.sound sound.spellable.0 sound.spellable.1
  where
    by_depth : (depth : ℕ) → depth ≤ MAX_DEPTH → IsSoundWithin depth table → (deep : ℕ) →
        IsSpellableWithin deep sound.breaking table → AllByRecursion IsSound (inner_tables (out-Table table))
    by_depth zero shallow is deep spelt = absurd is
    by_depth (suc depth) shallow is zero spelt = absurd spelt
    by_depth (suc depth) shallow is (suc deep) spelt =
        AllByRecursion-weaker
        (λ inner. IsSoundWithin depth inner × (IsSpellableWithin deep sound.breaking inner × IsNoMore table inner))
        IsSound (inner_tables (out-Table table))
        (λ inner all. record {
          depth = depth;
          shallow = omega (arith, shallow);
          sound = all.0;
          few_tables = omega (arith, all.1.1.1, sound.few_tables);
          size = omega (arith, all.1.1.0, sound.size);
          breaking = sound.breaking;
          spellable = (deep, all.1.0);
        })
        (both_each (IsSoundWithin depth) (λ inner. IsSpellableWithin deep sound.breaking inner × IsNoMore table inner)
        (inner_tables (out-Table table)) is.inner
        (both_each (IsSpellableWithin deep sound.breaking) (IsNoMore table) (inner_tables (out-Table table)) spelt.inner
        (both_each (λ inner. table_size inner ≤ table_size table)
        (λ inner. (out-Table inner).number + nested_in_table inner ≤ (out-Table table).number + nested_in_table table)
        (inner_tables (out-Table table)) (small_in_table table) (last_inner depth table is))))

narrow_of : (table : Table) (depth : ℕ) → IsSoundWithin depth table →
    All (λ cell. (out-TableCell cell).least ≤ MAX_PAGE_WIDTH) (out-Table table).cells
narrow_of table zero sound = absurd sound
narrow_of table (suc depth) sound = sound.narrow

-- each cell of a sound table is sound
pub sound_cells : (table : Table) → IsSound table → AllByRecursion (λ cell. IsSoundCell (out-TableCell cell))
    (out-Table table).cells
sound_cells table sound =
    AllByRecursion-weaker (λ cell. ((out-TableCell cell).least ≤ MAX_PAGE_WIDTH) ×
    AllByRecursion IsSound (tables_in (out-TableCell cell)))
    (λ cell. IsSoundCell (out-TableCell cell)) (out-Table table).cells
    (λ cell both. record { narrow = both.0; inner = both.1 })
    (both_each (λ cell. (out-TableCell cell).least ≤ MAX_PAGE_WIDTH)
    (λ cell. AllByRecursion IsSound (tables_in (out-TableCell cell)))
    (out-Table table).cells
    (recursion_from_All (λ cell. (out-TableCell cell).least ≤ MAX_PAGE_WIDTH) (out-Table table).cells
    (narrow_of table sound.depth sound.sound))
    (each_joined IsSound (λ cell. tables_in (out-TableCell cell)) (out-Table table).cells
    (sound_inner table sound)))

-- each block of a sound cell is sound
pub sound_blocks : (cell : TableCell) → IsSoundCell (out-TableCell cell) →
    AllByRecursion (λ block. IsSoundBlock (out-Content block)) (out-TableCell cell).blocks
sound_blocks cell sound = each_joined IsSound (λ block. tables_of (out-Content block)) (out-TableCell cell).blocks sound.inner

-- what holds of each item holds of one that a loop has come to
pub at_item : {X : Type 0} (P : X → Type 0) (xs : List X) (i : ℕ) (x : X) → AllByRecursion P xs → i < length xs →
    x ≡ get_or xs i x → P x
at_item P xs i x all within is = subst P (sym is) (All-get_or P xs i x within (All-from_recursion P xs all))

-- what is so of each table of each item is so of each of all their tables
pub joined-each : {X : Type 0} (P : Table → Type 0) (f : X → List Table) (xs : List X) →
    AllByRecursion (λ x. AllByRecursion P (f x)) xs →
    AllByRecursion P (flat_map f xs)
joined-each P f [] all = tt
joined-each P f (x ∷ xs) all =
    subst (AllByRecursion P) (sym (flat_map-cons f x xs)) (AllByRecursion-append P (f x) (flat_map f xs) all.0
    (joined-each P f xs all.1))
