-- Tables that are the same have the same budget of each search, and the same reach.
use Rattle.std.proofs.Common.{◌≡◌, ℕ, ◌+◌, ◌*◌, ap}
use Rattle.tl_table.specs.declared.cell.Table.{Table}
use Rattle.tl_table.specs.Same.{AreSame}
use Rattle.tl_table.proofs.SameTables.{same_nests}
use Rattle.tl_lay.specs.declared.task.Task.{Task}
use Rattle.tl_lay.specs.Budgets.{budget_in, budget_of, reach}

-- the budget
pub same_budget : (task : Task) (one other : Table) → AreSame one other → budget_in task one ≡ budget_in task other
same_budget task one other same = ap (λ (n : ℕ). budget_of task.budget (1 + n * task.width)) (same_nests one other same)

-- the reach
pub same_reach : (task : Task) (one other : Table) → AreSame one other → reach task one ≡ reach task other
same_reach task one other same =
    ap (λ (n : ℕ). (1 + n * task.width) * budget_of task.budget (1 + n * task.width)) (same_nests one other same)
