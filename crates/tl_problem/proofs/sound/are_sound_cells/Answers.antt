-- All cells were tested.
use Rattle.std.proofs.Common.{refl, arith}
use Rattle.tl_problem.specs.Sound.{IsSoundCell}
use Rattle.tl_problem.specs.inner.Soundness.{grid}
use Rattle.tl_problem.proofs.NeedLemmas.{All-from_numbers}
use Rattle.tl_problem.proofs.sound.are_sound_cells.Goals as goal

pub returns : goal.returns
returns c = (
  λ yes. All-from_numbers (IsSoundCell (grid c.args.cols c.args.rows)) c.args.cells.now
      (λ k within. c.loop-number.invariant k (omega (arith, c.loop-number-test.false))),
  λ all. refl,
)
