use Rattle.std.proofs.Common.{List, [], map}
use Rattle.std.specs.List.{flat_map}
use Rattle.tl_tree.specs.declared.node.CellNode.{CellNode}
use Rattle.tl_tree.specs.declared.node.GroupNode.{out-GroupNode}
use Rattle.tl_table.specs.Formed.{Becomes, BecomeContents, cells_of_groups, is_thead, marks_of_groups, Writes}
use Rattle.tl_table.proofs.forming.+forming.Given as goal

abbrev pub invariant-contents-loop-block : goal.invariant-contents-loop-block
invariant-contents-loop-block l = BecomeContents (Becomes l.breaking) l.breaking l.yielded l.blocks.items

abbrev pub invariant-row_cells-loop-node : goal.invariant-row_cells-loop-node
invariant-row_cells-loop-node l = Writes l.breaking l.yielded (map (λ (node : CellNode). l.in_head) l.yielded) l.places
    l.fn.written.items l.written.items

abbrev pub invariant-group_cells-loop-row : goal.invariant-group_cells-loop-row
invariant-group_cells-loop-row l = Writes l.breaking (flat_map (λ (row : List CellNode). row) l.yielded)
    (flat_map (λ (row : List CellNode). map (λ (cell : CellNode). is_thead (out-GroupNode l.fn.group).part) row) l.yielded) l.places
    l.fn.written.items l.written.items

abbrev pub invariant-written_cells-loop-group : goal.invariant-written_cells-loop-group
invariant-written_cells-loop-group l = Writes l.breaking (cells_of_groups l.yielded) (marks_of_groups l.yielded) l.places []
    l.written.items
