use Rattle.std.proofs.Common.{◌≡◌, ◌≤◌, ◌+◌, ℕ, length, get_or}
use Rattle.tl_base.specs.declared.limits.TheConstants.{MAX_COLUMNS}
use Rattle.tl_problem.specs.inner.Soundness.{AreLeastPlaces}
use Rattle.tl_problem.proofs.sound.fits_between.Given as goal

abbrev pub invariant-loop-column : goal.invariant-loop-column
invariant-loop-column l = (length l.places ≡ MAX_COLUMNS + 1) × (AreLeastPlaces l.spacing.gap l.cells l.column l.places
    × ((k : ℕ) → k ≤ l.column → get_or l.places k 0 ≤ l.end))
