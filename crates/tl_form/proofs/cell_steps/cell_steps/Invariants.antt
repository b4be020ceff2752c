use Rattle.std.proofs.Common.{take}
use Rattle.tl_form.specs.inner.CellSteps.{NeedsBy}
use Rattle.tl_form.proofs.CellNeedLemmas.{StepsSoFar}
use Rattle.tl_form.proofs.cell_steps.cell_steps.Given as goal

abbrev pub invariant-loop-block : goal.invariant-loop-block
invariant-loop-block l = StepsSoFar (NeedsBy l.bound l.inner) l.start l.page (take l.block-index l.cell.blocks) l.steps
