use Rattle.std.proofs.Common.{ℕ, ◌<◌, ◌≤◌}
use Rattle.tl_base.specs.declared.breaking.Breaking.TheVariants.{Wider}
use Rattle.tl_base.specs.declared.limits.TheConstants.{MAX_PAGE_WIDTH}
use Rattle.tl_fit.specs.Fit.{FitsWith}
use Rattle.tl_fit.proofs.fitting.greatest.Given as goal

-- no greater number holds
abbrev pub invariant-loop-most : goal.invariant-loop-most
invariant-loop-most l = (l.most ≤ MAX_PAGE_WIDTH) ×
    ((more : ℕ) → l.most < more → more ≤ MAX_PAGE_WIDTH → FitsWith l.source l.style l.width l.bytes (Wider more) → ⊥)

abbrev pub decreases-loop-most : goal.decreases-loop-most
decreases-loop-most l = l.most
