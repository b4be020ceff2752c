-- What a cell needs by one account where it has a height by another, and how much it needs at most.
use Rattle.std.proofs.Common.{ℕ, ◌+◌, ◌-◌, ◌*◌, ◌≤◌, List, [], ◌∷◌, sum, sum_by, refl, sym, subst, arith}
use Rattle.std.specs.List.{AllZip, AllByRecursion}
use Rattle.std.proofs.lemmas.List.Sums.{sum_by-cons}
use Rattle.tl_base.proofs.Sums.{sum-cons}
use Rattle.tl_table.specs.declared.cell.Content.{Content, out-Content}
use Rattle.tl_table.specs.declared.cell.Content.TheOpen as open_content
use Rattle.tl_table.specs.declared.cell.Table.{Table}
use Rattle.tl_table.specs.declared.cell.TableCell.{TableCell, out-TableCell}
use Rattle.tl_table.specs.Tables.{OpenCell, OpenContent, tables_in, tables_of}
use Rattle.tl_form.specs.Problems.{BlockNeeds, CellNeeds}
use Rattle.tl_table.specs.Sound.{IsSpeltBlock, cell_size, content_size, table_size}
use Rattle.tl_form.proofs.LineCounts.{lines-le}
use Rattle.tl_table.proofs.SizesOpen.{cell_size-out, content_size-out, open_size}
use Rattle.tl_table.proofs.SoundParts.{each_joined}

-- ---- by another account

-- heights that stand so to one another, also when they are added, and when as many lines are taken from both
pub record Adds (Rel : ℕ → ℕ → Type 0) : Type 0 where
  pub same : (n : ℕ) → Rel n n
  pub plus : (k l m n : ℕ) → Rel k l → Rel m n → Rel (k + m) (l + n)
  pub less : (k l n : ℕ) → Rel k l → Rel (k - n) (l - n)

pub adds-any : Adds (λ m n. Unit {0})
adds-any = record { same = λ n. tt; plus = λ k l m n first second. tt; less = λ k l n is. tt }

pub adds-less : Adds (λ m n. n ≤ m)
adds-less = record {
  same = λ n. omega arith;
  plus = λ k l m n first second. omega (arith, first, second);
  less = λ k l n is. omega (arith, is);
}

module _ (Rel : ℕ → ℕ → Type 0) (adds : Adds Rel) (needs others : Table → ℕ → ℕ → Type 0) (w : ℕ) where
  -- what a nested table needs the one way it needs so the other way
  abbrev pub IsSo : Table → Type 0
  IsSo nested = (h : ℕ) → needs nested w h → (k : ℕ) × others nested w k × Rel h k

  block-by : (block : OpenContent) (h : ℕ) → AllByRecursion IsSo (tables_of block) → BlockNeeds needs block w h →
      (k : ℕ) × BlockNeeds others block w
      k × Rel h k
  block-by (open_content.Para paragraph) h so need = (h, need, adds.same h)
  block-by (open_content.Table box) h so need = so.0 h need

  blocks-by : (blocks : List Content) (heights : List ℕ) → AllByRecursion
      (λ block. AllByRecursion IsSo (tables_of (out-Content block))) blocks →
      AllZip (λ block height. BlockNeeds needs (out-Content block) w height) blocks heights →
      (ks : List ℕ) × AllZip (λ block height. BlockNeeds others (out-Content block) w height) blocks ks ×
      Rel (sum heights) (sum ks)
  blocks-by [] [] so need = ([], tt, adds.same 0)
  blocks-by [] (h ∷ heights) so need = absurd need
  blocks-by (block ∷ blocks) [] so need = absurd need
  blocks-by (block ∷ blocks) (h ∷ heights) so need =
      let first = block-by (out-Content block) h so.0 need.0 in
      let rest = blocks-by blocks heights so.1 need.1 in (
        first.0 ∷ rest.0,
        (first.1, rest.1),
        subst (λ n. Rel n (sum (first.0 ∷ rest.0))) (sym (sum-cons h heights))
            (subst (λ n. Rel (h + sum heights) n) (sym (sum-cons first.0 rest.0))
            (adds.plus h first.0 (sum heights) (sum rest.0) first.2 rest.2)),
      )

  pub cell-by : (inside : ℕ) (cell : OpenCell) (h : ℕ) → AllByRecursion IsSo (tables_in cell) → CellNeeds needs inside cell w h →
      (k : ℕ) × CellNeeds others inside cell w k × Rel h k
  cell-by inside cell h so need =
      let all = blocks-by cell.blocks need.heights (each_joined IsSo (λ block. tables_of (out-Content block)) cell.blocks so)
      need.blocks in (
        sum all.0 - inside,
        record { floor = need.floor; heights = all.0; blocks = all.1; all = refl },
        subst (λ n. Rel n (sum all.0 - inside)) need.all (adds.less (sum need.heights) (sum all.0) inside all.2),
      )

-- ---- at most two lines for all that it holds

module _ (needs : Table → ℕ → ℕ → Type 0) (w : ℕ) where
  -- a nested table needs no more than that
  abbrev pub IsSmall : Table → Type 0
  IsSmall nested = (h : ℕ) → needs nested w h → h ≤ 2 * table_size nested

  block-small : (block : OpenContent) (h : ℕ) → IsSpeltBlock block → AllByRecursion IsSmall (tables_of block) →
      BlockNeeds needs block w h →
      h ≤ 2 * open_size block
  block-small (open_content.Para paragraph) h spelt small need = omega (arith, lines-le paragraph w h spelt need)
  block-small (open_content.Table box) h spelt small need = small.0 h need

  blocks-small : (blocks : List Content) (heights : List ℕ) → AllByRecursion (λ block. IsSpeltBlock (out-Content block)) blocks →
      AllByRecursion (λ block. AllByRecursion IsSmall (tables_of (out-Content block))) blocks →
      AllZip (λ block height. BlockNeeds needs (out-Content block) w height) blocks heights →
      sum heights ≤ 2 * sum_by content_size blocks
  blocks-small [] [] spelt small need = omega arith
  blocks-small [] (h ∷ heights) spelt small need = absurd need
  blocks-small (block ∷ blocks) [] spelt small need = absurd need
  blocks-small (block ∷ blocks) (h ∷ heights) spelt small need =
      omega (
        arith,
        sum-cons h heights,
        sum_by-cons content_size block blocks,
        content_size-out block,
        block-small (out-Content block) h spelt.0 small.0 need.0,
        blocks-small blocks heights spelt.1 small.1 need.1,
      )

  pub cell-small : (inside : ℕ) (cell : TableCell) (h : ℕ) → AllByRecursion (λ block. IsSpeltBlock (out-Content block))
      (out-TableCell cell).blocks →
      AllByRecursion IsSmall (tables_in (out-TableCell cell)) → CellNeeds needs inside (out-TableCell cell) w h →
      h + 2 ≤ 2 * cell_size cell
  cell-small inside cell h spelt small need =
      omega (
        arith,
        need.all,
        cell_size-out cell,
        blocks-small (out-TableCell cell).blocks need.heights spelt
            (each_joined IsSmall (λ block. tables_of (out-Content block)) (out-TableCell cell).blocks small) need.blocks,
      )
