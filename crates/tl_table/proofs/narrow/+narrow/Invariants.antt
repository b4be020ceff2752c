use Rattle.std.proofs.Common.{take}
use Rattle.std.specs.List.{AllByRecursion}
use Rattle.tl_table.specs.declared.cell.Table.{out-Table}
use Rattle.tl_table.specs.inner.Links.{AreOthers}
use Rattle.tl_table.proofs.LinkLemmas.{LinksSoFar}
use Rattle.tl_table.proofs.narrow.+narrow.Given as goal

abbrev pub decreases-link_by : goal.decreases-link_by
decreases-link_by l = goal.size-link_by l

abbrev pub decreases-link_of : goal.decreases-link_of
decreases-link_of l = goal.size-link_of l

abbrev pub decreases-narrow_chain : goal.decreases-narrow_chain
decreases-narrow_chain l = goal.size-narrow_chain l

abbrev pub invariant-link_of-loop-block : goal.invariant-link_of-loop-block
invariant-link_of-loop-block l = AllByRecursion (AreOthers l.style l.width) (take l.block-index l.block-items)

abbrev pub invariant-narrow_chain-loop-number : goal.invariant-narrow_chain-loop-number
invariant-narrow_chain-loop-number l = LinksSoFar l.style (out-Table l.table)
    l.demands l.number-items l.number-index l.entries l.inner
