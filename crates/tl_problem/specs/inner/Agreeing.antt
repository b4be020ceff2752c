-- No public clause cites this file. Where two step functions have the same heights.
use Rattle.std.specs.Prelude.{◌≡◌, ℕ, ◌≤◌, List}
use Rattle.tl_base.specs.declared.steps.Config.{Config}
use Rattle.tl_base.specs.Steps.{height_at}

-- both have the same height at the width at which a step begins, if that is at most `most`
abbrev pub AreSameAt : List Config → List Config → ℕ → Config → Type 0
AreSameAt low high most step = step.width ≤ most → height_at low step.width ≡ height_at high step.width

-- both have the same height at each width up to `most`
abbrev pub AreSameUpTo : List Config → List Config → ℕ → Type 0
AreSameUpTo low high most = (w : ℕ) → w ≤ most → height_at low w ≡ height_at high w
