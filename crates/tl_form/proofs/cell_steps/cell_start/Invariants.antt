use Rattle.std.proofs.Common.{take}
use Rattle.tl_form.specs.inner.CellSteps.{NeedsBy}
use Rattle.tl_form.proofs.CellNeedLemmas.{StartSoFar}
use Rattle.tl_form.proofs.cell_steps.cell_start.Given as goal

abbrev pub invariant-loop-block : goal.invariant-loop-block
invariant-loop-block l = StartSoFar (NeedsBy l.bound l.inner) l.cell.least (take l.block-index l.cell.blocks) l.start
