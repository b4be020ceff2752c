use Rattle.std.proofs.Common.{take}
use Rattle.tl_table.specs.Tables.{tables_of}
use Rattle.tl_table.specs.declared.cell.Content.{out-Content}
use Rattle.std.specs.List.{flat_map}
use Rattle.tl_verify.specs.inner.Walks.{HasNoWalkIn}
use Rattle.tl_verify.proofs.Walking.{RowSoFar}
use Rattle.tl_verify.proofs.chains.+chains.Given as goal

abbrev pub invariant-walk_row-loop-entry : goal.invariant-walk_row-loop-entry
invariant-walk_row-loop-entry l = RowSoFar l.style l.table l.entries l.chains l.at l.most l.entry-index l.row

abbrev pub invariant-walk_inner-loop-block : goal.invariant-walk_inner-loop-block
invariant-walk_inner-loop-block l =
    HasNoWalkIn l.style (flat_map (λ block. tables_of (out-Content block)) (take l.block-index l.block-items))
    l.number l.chains l.at l.most
