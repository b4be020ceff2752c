-- When two trees are the same, wherever in memory their nested tables lie.
use Rattle.std.specs.Prelude.{◌≡◌, ℕ, zero, suc, Option, Some, None, List}
use Rattle.std.specs.List.{AllZip}
use Rattle.tl_tree.specs.declared.node.Block.{Block, out-Block}
use Rattle.tl_tree.specs.declared.node.Block.TheOpen as parts
use Rattle.tl_tree.specs.declared.node.CellNode.{CellNode, out-CellNode}
use Rattle.tl_tree.specs.declared.node.GroupNode.{GroupNode, out-GroupNode}
use Rattle.tl_tree.specs.declared.node.TableNode.{TableNode, out-TableNode}

-- a block, by what it holds
abbrev pub OpenBlock : Type 0
OpenBlock = parts.Block-F Block CellNode GroupNode TableNode

-- a cell, by what it holds
abbrev pub OpenCell : Type 0
OpenCell = parts.CellNode-F Block CellNode GroupNode TableNode

-- a group of rows, by what it holds
abbrev pub OpenGroup : Type 0
OpenGroup = parts.GroupNode-F Block CellNode GroupNode TableNode

-- a table, by what it holds
abbrev pub OpenTable : Type 0
OpenTable = parts.TableNode-F Block CellNode GroupNode TableNode

-- two blocks are the same, where `same` says so of nested tables
abbrev pub AreSameBlock : (TableNode → TableNode → Type 0) → OpenBlock → OpenBlock → Type 0
AreSameBlock same (parts.Para one) (parts.Para other) = one ≡ other
AreSameBlock same (parts.Para one) (parts.Table other) = ⊥
AreSameBlock same (parts.Table one) (parts.Para other) = ⊥
AreSameBlock same (parts.Table one) (parts.Table other) = same one.value other.value

-- two flows hold the same blocks in order
abbrev pub AreSameFlow : (TableNode → TableNode → Type 0) → List Block → List Block → Type 0
AreSameFlow same one other = AllZip (λ block twin. AreSameBlock same (out-Block block) (out-Block twin)) one other

-- two cells are of one kind, have the same numbers, ask for the same side and hold the same flow
pub record AreSameCell (same : TableNode → TableNode → Type 0) (one other : OpenCell) : Type 0 where
  pub head : one.head ≡ other.head
  pub colspan : one.colspan ≡ other.colspan
  pub rowspan : one.rowspan ≡ other.rowspan
  pub least : one.least ≡ other.least
  pub align : one.align ≡ other.align
  pub flow : AreSameFlow same one.flow other.flow

-- two rows hold the same cells in order
abbrev pub AreSameRow : (TableNode → TableNode → Type 0) → List CellNode → List CellNode → Type 0
AreSameRow same one other = AllZip (λ cell twin. AreSameCell same (out-CellNode cell) (out-CellNode twin)) one other

-- two groups are of one kind and hold the same rows in order
pub record AreSameGroup (same : TableNode → TableNode → Type 0) (one other : OpenGroup) : Type 0 where
  pub part : one.part ≡ other.part
  pub rows : AllZip (AreSameRow same) one.rows other.rows

-- both tables have a caption of the same flow, or neither has one
abbrev pub AreSameCaption : (TableNode → TableNode → Type 0) → Option (List Block) → Option (List Block) → Type 0
AreSameCaption same None None = Unit {0}
AreSameCaption same None (Some other) = ⊥
AreSameCaption same (Some one) None = ⊥
AreSameCaption same (Some one) (Some other) = AreSameFlow same one other

-- two tables have the same number, caption, columns and groups
pub record AreSameTable (same : TableNode → TableNode → Type 0) (one other : OpenTable) : Type 0 where
  pub number : one.number ≡ other.number
  pub caption : AreSameCaption same one.caption other.caption
  pub columns : one.columns ≡ other.columns
  pub groups : AllZip (λ group twin. AreSameGroup same (out-GroupNode group) (out-GroupNode twin)) one.groups other.groups

-- two trees with fewer than `depth` tables inside one another are the same
abbrev pub AreSameWithin : ℕ → TableNode → TableNode → Type 0
AreSameWithin zero one other = ⊥
AreSameWithin (suc depth) one other = AreSameTable (AreSameWithin depth) (out-TableNode one) (out-TableNode other)

-- two trees are the same
abbrev pub AreSame : TableNode → TableNode → Type 0
AreSame one other = (depth : ℕ) × AreSameWithin depth one other
