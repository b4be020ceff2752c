use Rattle.std.proofs.Common.{◌≡◌, ℕ, ◌+◌, ◌<◌, get_or}
use Rattle.tl_table.specs.declared.widest.Demand.{Demand}
use Rattle.tl_table.proofs.widest.in_last_column.Given as goal

-- none so far begins in the last column
abbrev pub invariant-loop-number : goal.invariant-loop-number
invariant-loop-number l = (k : ℕ) (d : Demand) → k < l.number → (get_or l.demands k d).left + 1 ≡ l.cols → ⊥
