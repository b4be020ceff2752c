-- The theorem of `narrow`. Of bytes that are a table, it answers with a page of at most as many lines as are asked for, on the
-- narrowest page that has a layout of so few, of all pages from 1 column to as many as the task has.
use Rattle.std.specs.Prelude.{◌≡◌, ⊤, ℕ, ◌≤◌, List, Some, IfSome}
use Rattle.tl_table.specs.declared.cell.Table.{Table}
use Rattle.tl_narrow.specs.Slimmest.{IsBelowCounts, IsSlimmestWidth}
use Rattle.tl_lay.specs.declared.answer.Answer.{Answer}
use Rattle.tl_lay.specs.declared.answer.Answer.TheVariants as answers
use Rattle.tl_lay.specs.declared.answer.Evidence.{Evidence}
use Rattle.tl_lay.specs.declared.task.Task.{Task}
use Rattle.tl_lay.specs.Budgets.{budget_in}
use Rattle.tl_lay.specs.Lowest.{IsPageOf, IsTableIn}

-- this is the narrowest page that has a layout of at most so many lines
abbrev pub IsNarrowest : Task → Table → ℕ → ℕ → Type 0
IsNarrowest task table height width = IsSlimmestWidth table task.style height task.width width

-- there is a page of the table in at most `height` lines that fits `width` columns
pub record HasLowPage (task : Task) (table : Table) (height width : ℕ) (evidence : Evidence) : Type 0 where
  pub lines : ℕ
  pub low : lines ≤ height
  pub taken : ℕ
  pub page : List ℕ
  pub there : evidence.page ≡ Some page
  pub is_page : IsPageOf task table width lines taken page

-- there is such a page, and the narrowest is no wider
pub record HasWiderPage (task : Task) (table : Table) (height : ℕ) (evidence : Evidence) (width : ℕ) : Type 0 where
  pub low : HasLowPage task table height width evidence
  pub narrowest : ℕ
  pub is : IsNarrowest task table height narrowest
  pub within : narrowest ≤ width

-- what each answer of `narrow` says of the bytes, where at most `most` lines are asked for. Slimmest: no page that is narrower
-- than this one holds the table. Between: the narrowest page has at least so many columns, if there is one, and at most as many as
-- the page that was found, if one was; the budget of each search was below the count of what there is to search on the widest
-- page. TooTall: no page holds it. There is no other answer but a refusal, of which `IsNarrowed` says why
abbrev pub Narrows : Task → ℕ → List ℕ → Answer → Type 0
Narrows task most bytes (answers.Slimmest width height evidence) = (height ≡ most) × (table : Table)
    × IsTableIn task bytes table × HasLowPage task table most width evidence × IsNarrowest task table most width
Narrows task most bytes (answers.Between width least evidence) = (table : Table) × IsTableIn task bytes table
    × ((narrowest : ℕ) → IsNarrowest task table most narrowest → least ≤ narrowest)
    × IfSome width (HasWiderPage task table most evidence)
    × IsBelowCounts table task.style task.width (budget_in task table)
Narrows task most bytes (answers.TooTall height evidence) = (height ≡ most) × (table : Table) × IsTableIn task bytes table
    × ((width : ℕ) → IsNarrowest task table most width → ⊥)
Narrows task most bytes (answers.Refused refusal) = ⊤
Narrows task most bytes other = ⊥
