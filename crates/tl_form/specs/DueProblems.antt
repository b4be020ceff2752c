-- The problem of the section that is due next. On a page that some layout of the document's table fits, good sections give each
-- table nested in the one that is due its steps, and whatever is made of such steps is a sound problem: none of its sums,
-- counts and lengths passes its range. The law is the contract of a function of `due_laws`.
use Rattle.std.specs.Prelude.{◌≡◌, ℕ, ◌*◌, ◌≤◌, List, length, Some}
use Rattle.tl_problem.specs.declared.placed.Placed.{Placed}
use Rattle.tl_problem.specs.Problem.{ProblemModel}
use Rattle.tl_problem.specs.Placements.{IsPlacement}
use Rattle.tl_problem.specs.Sound.{IsSound}
use Rattle.tl_cert.specs.declared.section.Section.{Section}
use Rattle.tl_table.specs.declared.cell.Table.{Table}
use Rattle.tl_table.specs.Least.{IsLeastWidth}
use Rattle.tl_table.specs.Sound.{table_size}
use Rattle.tl_form.specs.declared.heights.InnerSteps.{InnerSteps}
use Rattle.tl_form.specs.ClosedLaws.{IsWideDocument}
use Rattle.tl_form.specs.Expected.{Document, Due, IsTableOf, due_after}
use Rattle.tl_form.specs.Nested.{AreInnerSteps, IsProblemFor}
use Rattle.tl_form.specs.Problems.{IsProblemOf}
use Rattle.tl_form.specs.Valid.{AreGoodBelow}

-- the sections of the document so far are good, and next is due one of this table; some layout of the document's table fits
-- the page
pub record IsNext (document : Document) (budget : ℕ) (before : List Section) (now : Due) (one : Table) : Type 0 where
  pub wide : IsWideDocument document.table document.style document.page document
  pub good : AreGoodBelow document budget before (length before)
  pub due : due_after document before ≡ Some now
  pub named : IsTableOf document now.table one

-- what the sections before it give the section that is due: it is as wide as a layout of its table needs at least, and has a
-- problem; each problem that is made of the steps that they tell is sound, and no placement of it needs more than two lines for
-- all that the table holds
pub record GivesSoundProblem (document : Document) (before : List Section) (now : Due) (one : Table) : Type 0 where
  pub wide : (least : ℕ) → IsLeastWidth one document.style least → least ≤ now.width
  pub within : now.width ≤ document.page
  pub some : (problem : ProblemModel) × IsProblemFor one document.style now.width before problem
  pub alone : (inner : List InnerSteps) (problem : ProblemModel) →
      AreInnerSteps one document.style now.width before inner → IsProblemOf one document.style now.width inner problem →
      IsSound problem
  pub low : (problem : ProblemModel) (placed : Placed) → IsProblemFor one document.style now.width before problem →
      IsPlacement problem placed → placed.height ≤ 2 * table_size one

-- good sections give the next one that is due a problem, and sound problems alone
abbrev pub SectionsGiveSoundProblems : Type 0
SectionsGiveSoundProblems = (document : Document) (budget : ℕ) (before : List Section) (now : Due) (one : Table) →
    IsNext document budget before now one → GivesSoundProblem document before now one
