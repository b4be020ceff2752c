-- No public clause cites this file: it says what is asked of the table of a demonstration, and what the count of its problem is.
use Rattle.std.specs.Prelude.{◌≡◌, ℕ, true, false, List, [], length, Some}
use Rattle.tl_base.specs.declared.breaking.Breaking.TheVariants.{Words}
use Rattle.tl_base.specs.declared.style.Style.TheVariants.{Plain}
use Rattle.tl_cert.specs.declared.section.Section.{Section}
use Rattle.tl_demo.specs.declared.laws.TheConstants.{DEMO_WIDTH}
use Rattle.tl_table.specs.declared.cell.Table.{Table, out-Table}
use Rattle.tl_form.specs.Expected.{Document, IsDocumentOf, due_after}
use Rattle.tl_form.specs.Valid.{AreGoodBelow, IsProblemAt}
use Rattle.tl_read.specs.declared.source.Source.TheVariants.{Html}
use Rattle.tl_problem.specs.Problem.{ProblemModel}
use Rattle.tl_problem.specs.Spans.{count_of}
use Rattle.tl_lay.specs.declared.limits.TheConstants.{DEMO_BUDGET}
use Rattle.tl_base.specs.declared.search.Search.TheVariants.{Best}
use Rattle.tl_sides.specs.declared.align.Align.TheVariants.{Columns}
use Rattle.tl_lay.specs.declared.format.Format.TheVariants.{Text}
use Rattle.tl_lay.specs.declared.task.Task.{Task}

-- what is asked of the table of a demonstration
abbrev pub demo_task : Task
demo_task = record {
  width = DEMO_WIDTH;
  style = Plain;
  source = Html Words;
  budget = Some DEMO_BUDGET;
  search = Best;
  workers = 1;
  format = Text (Columns []);
  certified = true;
}

-- these sections are good, and the one that is due next is the table's own
pub record HasOwnNext (table : Table) (before : List Section) : Type 0 where
  pub document : Document
  pub of : IsDocumentOf table Plain DEMO_WIDTH document
  pub good : AreGoodBelow document DEMO_BUDGET before (length before)
  pub next : due_after document before ≡ Some (record { table = (out-Table table).number; width = DEMO_WIDTH })

-- as many ways has the problem of the table, on these sections, to give each span a class
pub record IsCountAfter (table : Table) (before : List Section) (count : ℕ) : Type 0 where
  pub problem : ProblemModel
  pub counted : count ≡ count_of problem
  pub own : (document : Document) → IsDocumentOf table Plain DEMO_WIDTH document → (section : Section) →
      section.table ≡ (out-Table table).number → section.width ≡ DEMO_WIDTH → IsProblemAt document before section problem
