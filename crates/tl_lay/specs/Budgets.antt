-- How many cuts each search for a table may make, and all together.
use Rattle.std.specs.Prelude.{ℕ, ◌+◌, ◌*◌, ◌/◌, min, Option, Some, None}
use Rattle.tl_base.specs.declared.limits.TheConstants.{MAX_REACH}
use Rattle.tl_table.specs.declared.cell.Table.{Table}
use Rattle.tl_table.specs.Sound.{nested_in_table}
use Rattle.tl_lay.specs.declared.limits.TheConstants.{DEFAULT_BUDGET}
use Rattle.tl_lay.specs.declared.task.Task.{Task}

-- how many searches there may be: one of the document's own table, and one of each nested table at each width
abbrev pub searches : Table → ℕ → ℕ
searches table width = 1 + nested_in_table table * width

-- the budget of each of so many searches: the one that is given, or as much as the reach allows, up to the default
abbrev pub budget_of : Option ℕ → ℕ → ℕ
budget_of None count = min DEFAULT_BUDGET (MAX_REACH / count)
budget_of (Some budget) count = budget

-- the budget of each search that a table on its page asks for
abbrev pub budget_in : Task → Table → ℕ
budget_in task table = budget_of task.budget (searches table task.width)

-- the cuts that all searches may make together
abbrev pub reach : Task → Table → ℕ
reach task table = searches table task.width * budget_in task table
