-- The room is clear.
use Rattle.std.proofs.Common.{◌*◌}
use Rattle.tl_problem.specs.declared.sound.TheConstants.{FEW_PLACES, PLACES}
use Rattle.tl_problem.proofs.Soundness.{none-everywhere}
use Rattle.tl_problem.proofs.sound.fits.Goals as goal

pub fits_between-requires-clause-clear : goal.fits_between-requires-clause-clear
fits_between-requires-clause-clear c = λ pair. none-everywhere (FEW_PLACES * FEW_PLACES) pair

pub fits_between-requires-2-clause-clear : goal.fits_between-requires-2-clause-clear
fits_between-requires-2-clause-clear c = λ pair. none-everywhere (PLACES * PLACES) pair
