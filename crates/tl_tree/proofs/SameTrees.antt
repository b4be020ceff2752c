-- One outline is one tree: what an outline says of a tree is all that the tree holds.
use Rattle.std.proofs.Common.{◌≡◌, ◌≤◌, ◌<◌, ℕ, ◌+◌, zero, suc, Option, Some, None, List, [], ◌∷◌, ◌++◌, length, refl, sym, ap}
use Rattle.std.proofs.Common.{◌∙◌, subst, arith, append_assoc}
use Rattle.std.proofs.Common.{length-append}
use Rattle.std.specs.List.{AllZip, flat_map}
use Rattle.tl_token.specs.declared.token.Token.{Token}
use Rattle.tl_tree.specs.Tags.{kinds}
use Rattle.tl_tree.specs.Outline.{Entry, Entries, table, caption, columns, group, row, cell, paragraph, table_end, block_outline}
use Rattle.tl_tree.specs.Outline.{cell_outline, group_outline, outline}
use Rattle.tl_tree.specs.Paragraphs.{entries_of}
use Rattle.tl_tree.specs.Spelling.{SpellsTree}
use Rattle.tl_tree.specs.Same.{OpenBlock, OpenCell, OpenGroup, OpenTable, AreSameBlock, AreSameCell, AreSameRow, AreSameGroup}
use Rattle.tl_tree.specs.Same.{AreSameCaption, AreSameTable}
use Rattle.tl_tree.specs.Same.{AreSameWithin, AreSame}
use Rattle.tl_tree.specs.Outline.{caption_outline, row_outline}
use Rattle.tl_tree.specs.declared.node.Block.{Block, out-Block, roll-Block, roll-out-Block}
use Rattle.tl_tree.specs.declared.node.Block.TheOpen as parts
use Rattle.tl_tree.specs.declared.node.CellNode.{CellNode, out-CellNode, roll-out-CellNode}
use Rattle.tl_tree.specs.declared.node.GroupNode.{GroupNode, out-GroupNode, roll-out-GroupNode}
use Rattle.tl_tree.specs.declared.node.TableNode.{TableNode, out-TableNode, roll-out-TableNode}
use Rattle.tl_tree.proofs.Outlines.{paragraph_made, nested_made, cell_made, group_made, table_made}
use Rattle.tl_tree.proofs.Verdicts.{same_marks}

-- how far out in a table an entry stands, from a block of a flow to the table's end
abbrev rank : Entry → ℕ
rank (table number) = 0
rank (paragraph atoms) = 0
rank (cell head colspan rowspan least align) = 1
rank row = 2
rank (group part) = 3
rank caption = 4
rank (columns n) = 4
rank table_end = 4

abbrev first_rank : Entries → ℕ
first_rank [] = 4
first_rank (entry ∷ entries) = rank entry

tail_same : {x y : Entry} {xs ys : Entries} → x ∷ xs ≡ y ∷ ys → xs ≡ ys
tail_same e = cc

-- Parts of one rank that follow one another: where each is told from the entries after it, so is the list.
module _ {X : Type 0} (f : X → Entries) (S : X → X → Type 0) (k n : ℕ) (begins : (x : X) (r : Entries) →
    first_rank (f x ++ r) ≡ k)
    (one : (x y : X) (r s : Entries) → k ≤ first_rank r → k ≤ first_rank s → length (f x ++ r) ≤ n → f x ++ r ≡ f y ++ s →
    S x y × (r ≡ s)) where
  next_rank : (xs : List X) (r : Entries) → k < first_rank r → k ≤ first_rank (flat_map f xs ++ r)
  next_rank [] r h = omega arith
  next_rank (x ∷ xs) r h =
      let e : first_rank ((f x ++ flat_map f xs) ++ r) ≡ k =
      ap first_rank (append_assoc (f x) (flat_map f xs) r) ∙ begins x (flat_map f xs ++ r) in
      omega arith

  begun : (x : X) (xs : List X) (r s : Entries) → r ≡ (f x ++ flat_map f xs) ++ s → first_rank r ≡ k
  begun x xs r s e = ap first_rank (e ∙ append_assoc (f x) (flat_map f xs) s) ∙ begins x (flat_map f xs ++ s)

  all_same : (xs ys : List X) (r s : Entries) → k < first_rank r → k < first_rank s → length (flat_map f xs ++ r) ≤ n
      → flat_map f xs ++ r ≡ flat_map f ys ++ s → AllZip S xs ys × (r ≡ s)
  all_same [] [] r s h i few e = (tt, e)
  all_same [] (y ∷ ys) r s h i few e = absurd (let b = begun y ys r s e in omega arith)
  all_same (x ∷ xs) [] r s h i few e = absurd (let b = begun x xs s r (sym e) in omega arith)
  all_same (x ∷ xs) (y ∷ ys) r s h i few e =
      let a = append_assoc (f x) (flat_map f xs) r in
      let b = append_assoc (f y) (flat_map f ys) s in
      let long = length-append (f x) (flat_map f xs ++ r) in
      let same_length : length ((f x ++ flat_map f xs) ++ r) ≡ length (f x ++ (flat_map f xs ++ r)) = ap length a in
      let first = one x y (flat_map f xs ++ r) (flat_map f ys ++ s) (next_rank xs r h) (next_rank ys s i) (omega arith)
      (sym a ∙ e ∙ b) in
      let later = all_same xs ys r s h i (omega arith) first.1 in
      ((first.0, later.0), later.1)

-- ---- the parts, by what they hold

abbrev open_block : OpenBlock → Entries
open_block (parts.Para p) = paragraph p ∷ []
open_block (parts.Table box) = outline box.value

block_opened : (b : Block) → block_outline b ≡ open_block (out-Block b)
block_opened b = ap block_outline (sym (roll-out-Block b)) ∙ made (out-Block b)
  where
    made : (o : OpenBlock) → block_outline (roll-Block o) ≡ open_block o
    made (parts.Para p) = paragraph_made p
    made (parts.Table box) = nested_made box

abbrev open_cell : OpenCell → Entries
open_cell c = cell c.head c.colspan c.rowspan c.least c.align ∷ flat_map block_outline c.flow

cell_opened : (c : CellNode) → cell_outline c ≡ open_cell (out-CellNode c)
cell_opened c = ap cell_outline (sym (roll-out-CellNode c)) ∙ cell_made (out-CellNode c)

abbrev open_group : OpenGroup → Entries
open_group g = group g.part ∷ flat_map row_outline g.rows

group_opened : (g : GroupNode) → group_outline g ≡ open_group (out-GroupNode g)
group_opened g = ap group_outline (sym (roll-out-GroupNode g)) ∙ group_made (out-GroupNode g)

abbrev open_table : OpenTable → Entries
open_table t = table t.number ∷ (caption_outline t.caption ++
    (columns t.columns ∷ (flat_map group_outline t.groups ++ table_end ∷ [])))

table_opened : (t : TableNode) → outline t ≡ open_table (out-TableNode t)
table_opened t =
    let o = out-TableNode t in
    ap outline (sym (roll-out-TableNode t)) ∙ table_made o.number o.caption o.columns o.groups

table_rank : (t : TableNode) (r : Entries) → first_rank (outline t ++ r) ≡ 0
table_rank t r = ap (λ es. first_rank (es ++ r)) (table_opened t)

module _ (n : ℕ) (same : TableNode → TableNode → Type 0)
    (nested : (x y : TableNode) (r s : Entries) → length (outline x ++ r) ≤ n → outline x ++ r ≡ outline y ++ s →
    same x y × (r ≡ s)) where
  -- ---- flows
  open_block_same : (x y : OpenBlock) (r s : Entries) → length (open_block x ++ r) ≤ n → open_block x ++ r ≡ open_block y ++ s
      → AreSameBlock same x y × (r ≡ s)
  open_block_same (parts.Para p) (parts.Para q) r s few e = (cc, cc)
  open_block_same (parts.Para p) (parts.Table box) r s few e =
      absurd (let t : paragraph p ∷ r ≡ open_table (out-TableNode box.value) ++ s =
      e ∙ ap (λ es. es ++ s) (table_opened box.value) in cc)
  open_block_same (parts.Table box) (parts.Para q) r s few e =
      absurd (let t : open_table (out-TableNode box.value) ++ r ≡ paragraph q ∷ s =
      sym (ap (λ es. es ++ r) (table_opened box.value)) ∙ e in cc)
  open_block_same (parts.Table x) (parts.Table y) r s few e = nested x.value y.value r s few e

  block_same : (x y : Block) (r s : Entries) → 0 ≤ first_rank r → 0 ≤ first_rank s → length (block_outline x ++ r) ≤ n
      → block_outline x ++ r ≡ block_outline y ++ s → AreSameBlock same (out-Block x) (out-Block y) × (r ≡ s)
  block_same x y r s h i few e =
      let a = ap (λ es. es ++ r) (block_opened x) in
      let b = ap (λ es. es ++ s) (block_opened y) in
      open_block_same (out-Block x) (out-Block y) r s (subst (λ (es : Entries). length es ≤ n) a few) (sym a ∙ e ∙ b)

  block_rank : (x : Block) (r : Entries) → first_rank (block_outline x ++ r) ≡ 0
  block_rank x r = ap (λ es. first_rank (es ++ r)) (block_opened x) ∙ of_open (out-Block x)
    where
      of_open : (o : OpenBlock) → first_rank (open_block o ++ r) ≡ 0
      of_open (parts.Para p) = refl
      of_open (parts.Table box) = table_rank box.value r

  flow_same : (xs ys : List Block) (r s : Entries) → 0 < first_rank r → 0 < first_rank s →
      length (flat_map block_outline xs ++ r) ≤ n
      → flat_map block_outline xs ++ r ≡ flat_map block_outline ys ++ s →
      AllZip (λ x y. AreSameBlock same (out-Block x) (out-Block y)) xs ys × (r ≡ s)
  flow_same = all_same block_outline (λ x y. AreSameBlock same (out-Block x) (out-Block y)) 0 n block_rank block_same

  -- ---- rows
  open_cell_same : (x y : OpenCell) (r s : Entries) → 0 < first_rank r → 0 < first_rank s → length (open_cell x ++ r) ≤ n
      → open_cell x ++ r ≡ open_cell y ++ s → AreSameCell same x y × (r ≡ s)
  open_cell_same x y r s h i few e =
      let flows = flow_same x.flow y.flow r s h i (omega arith) (tail_same e) in
      (record { head = cc; colspan = cc; rowspan = cc; least = cc; align = cc; flow = flows.0 }, flows.1)

  cell_same : (x y : CellNode) (r s : Entries) → 1 ≤ first_rank r → 1 ≤ first_rank s → length (cell_outline x ++ r) ≤ n
      → cell_outline x ++ r ≡ cell_outline y ++ s → AreSameCell same (out-CellNode x) (out-CellNode y) × (r ≡ s)
  cell_same x y r s h i few e =
      let a = ap (λ es. es ++ r) (cell_opened x) in
      let b = ap (λ es. es ++ s) (cell_opened y) in
      open_cell_same (out-CellNode x) (out-CellNode y) r s (omega arith) (omega arith)
      (subst (λ (es : Entries). length es ≤ n) a few) (sym a ∙ e ∙ b)

  cell_rank : (x : CellNode) (r : Entries) → first_rank (cell_outline x ++ r) ≡ 1
  cell_rank x r = ap (λ es. first_rank (es ++ r)) (cell_opened x)

  row_same : (x y : List CellNode) (r s : Entries) → 2 ≤ first_rank r → 2 ≤ first_rank s → length (row_outline x ++ r) ≤ n
      → row_outline x ++ r ≡ row_outline y ++ s → AreSameRow same x y × (r ≡ s)
  row_same x y r s h i few e =
      all_same cell_outline (λ c d. AreSameCell same (out-CellNode c) (out-CellNode d)) 1 n cell_rank cell_same x y r s
      (omega arith) (omega arith)
      (omega arith) (tail_same e)

  -- ---- groups
  open_group_same : (x y : OpenGroup) (r s : Entries) → 3 ≤ first_rank r → 3 ≤ first_rank s → length (open_group x ++ r) ≤ n
      → open_group x ++ r ≡ open_group y ++ s → AreSameGroup same x y × (r ≡ s)
  open_group_same x y r s h i few e =
      let rows = all_same row_outline (AreSameRow same) 2 n (λ cells more. refl) row_same x.rows y.rows r s (omega arith)
      (omega arith) (omega arith)
      (tail_same e) in
      (record { part = cc; rows = rows.0 }, rows.1)

  group_same : (x y : GroupNode) (r s : Entries) → 3 ≤ first_rank r → 3 ≤ first_rank s → length (group_outline x ++ r) ≤ n
      → group_outline x ++ r ≡ group_outline y ++ s → AreSameGroup same (out-GroupNode x) (out-GroupNode y) × (r ≡ s)
  group_same x y r s h i few e =
      let a = ap (λ es. es ++ r) (group_opened x) in
      let b = ap (λ es. es ++ s) (group_opened y) in
      open_group_same (out-GroupNode x) (out-GroupNode y) r s h i (subst (λ (es : Entries). length es ≤ n) a few) (sym a ∙ e ∙ b)

  group_rank : (x : GroupNode) (r : Entries) → first_rank (group_outline x ++ r) ≡ 3
  group_rank x r = ap (λ es. first_rank (es ++ r)) (group_opened x)

  -- ---- tables
  caption_same : (x y : Option (List Block)) (a b : ℕ) (r s : Entries) → length (caption_outline x ++ (columns a ∷ r)) ≤ n
      → caption_outline x ++ (columns a ∷ r) ≡ caption_outline y ++ (columns b ∷ s) →
      AreSameCaption same x y × (columns a ∷ r ≡ columns b ∷ s)
  caption_same None None a b r s few e = (tt, e)
  caption_same None (Some flow) a b r s few e = absurd (cc)
  caption_same (Some flow) None a b r s few e = absurd (cc)
  caption_same (Some one) (Some other) a b r s few e = flow_same one other (columns a ∷ r) (columns b ∷ s) (omega arith)
      (omega arith) (omega arith)
      (tail_same e)

  laid_out : (t : OpenTable) (r : Entries) → open_table t ++ r
      ≡ table t.number ∷ (caption_outline t.caption ++ (columns t.columns ∷ (flat_map group_outline t.groups ++ (table_end ∷ r))))
  laid_out t r = simp append_assoc

  open_table_same : (x y : OpenTable) (r s : Entries) → length (open_table x ++ r) ≤ n + 1 →
      open_table x ++ r ≡ open_table y ++ s →
      AreSameTable same x y × (r ≡ s)
  open_table_same x y r s few e =
      let a = laid_out x r in
      let b = laid_out y s in
      let x_groups = flat_map group_outline x.groups ++ (table_end ∷ r) in
      let y_groups = flat_map group_outline y.groups ++ (table_end ∷ s) in
      let whole : table x.number ∷ (caption_outline x.caption ++ (columns x.columns ∷ x_groups)) ≡ table y.number ∷
      (caption_outline y.caption ++ (columns y.columns ∷ y_groups)) = sym a ∙ e ∙ b in
      let long : length (open_table x ++ r) ≡ length (table x.number ∷
      (caption_outline x.caption ++ (columns x.columns ∷ x_groups))) = ap length a in
      let later = length-append (caption_outline x.caption) (columns x.columns ∷ x_groups) in
      let captions = caption_same x.caption y.caption x.columns y.columns x_groups y_groups (omega arith) (tail_same whole) in
      let groups = all_same group_outline (λ g h. AreSameGroup same (out-GroupNode g) (out-GroupNode h))
      3 n group_rank group_same x.groups y.groups
      (table_end ∷ r) (table_end ∷ s) (omega arith) (omega arith) (omega arith) (tail_same captions.1) in
      let rest = captions.1 in
      (record { number = cc; caption = captions.0; columns = cc; groups = groups.0 }, tail_same groups.1)

-- two tables are told from the entries after them
table_same : (n : ℕ) (x y : TableNode) (r s : Entries) → length (outline x ++ r) ≤ n → outline x ++ r ≡ outline y ++ s →
    AreSameWithin n x y × (r ≡ s)
table_same zero x y r s few e =
    absurd (let a : length (outline x ++ r) ≡ length (open_table (out-TableNode x) ++ r) =
    ap (λ es. length (es ++ r)) (table_opened x) in omega arith)
table_same (suc n) x y r s few e =
    let a = ap (λ es. es ++ r) (table_opened x) in
    let b = ap (λ es. es ++ s) (table_opened y) in
    let long : length (outline x ++ r) ≡ length (open_table (out-TableNode x) ++ r) = ap length a in
    open_table_same n (AreSameWithin n) (table_same n) (out-TableNode x) (out-TableNode y) r s (omega arith) (sym a ∙ e ∙ b)

pub same_outline : (x y : TableNode) → outline x ≡ outline y → AreSame x y
same_outline x y e = (
  length (outline x ++ []),
  (table_same (length (outline x ++ [])) x y [] [] (omega arith)
      (ap (λ es. es ++ []) e)).0,
)

-- tokens spell at most one tree
pub one_tree : (tokens : List Token) (x y : TableNode) → SpellsTree tokens x → SpellsTree tokens y → AreSame x y
one_tree tokens x y one other =
    same_outline x y (one.same ∙ ap (λ ms. entries_of 0 ms) (same_marks (kinds tokens)
    one.marks other.marks one.document other.document) ∙ sym other.same)
