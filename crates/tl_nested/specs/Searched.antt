-- The sections of a document that a search gave: those that are due, in their order, each that of an outcome of the search
-- for its own problem.
use Rattle.std.specs.Prelude.{◌≡◌, ℕ, ◌<◌, ◌≤◌, List, length, get_or, take, None}
use Rattle.std.specs.List.{AllByRecursion}
use Rattle.tl_base.specs.declared.style.Style.{Style}
use Rattle.tl_problem.specs.Problem.{ProblemModel}
use Rattle.tl_cert.specs.declared.limits.TheConstants.{MAX_SECTIONS}
use Rattle.tl_cert.specs.declared.section.Section.{Section}
use Rattle.tl_cert.specs.Text.{IsSectionWritable}
use Rattle.tl_table.specs.declared.cell.Table.{Table}
use Rattle.tl_form.specs.declared.subject.Subject.{Subject}
use Rattle.tl_form.specs.Expected.{Document, IsDocumentOf, own_number, least_of, due_after}
use Rattle.tl_form.specs.Subjects.{meant}
use Rattle.tl_form.specs.Valid.{IsGood}
use Rattle.tl_solve.specs.declared.outcome.Outcome.{Outcome}
use Rattle.tl_solve.specs.Solver.{IsSolverOutcome}

-- the page is at least as wide as the least width of the document's own table
abbrev pub IsWideEnough : Subject → Type 0
IsWideEnough subject = least_of (meant subject) (own_number (meant subject)) ≤ subject.page

-- the section has the height, the lower bound, the widths, the trace and the log of the outcome
pub record IsSectionOf (outcome : Outcome) (section : Section) : Type 0 where
  pub height : section.height ≡ outcome.best.height
  pub lower : section.lower ≡ outcome.lower
  pub widths : section.widths ≡ outcome.best.widths
  pub trace : section.trace ≡ outcome.trace
  pub log : section.log ≡ outcome.log

-- a good section on those before it, that of an outcome which `given` says was given for its own problem
pub record IsSearched (given : ProblemModel → Outcome → Type 0) (document : Document) (budget : ℕ) (before : List Section)
    (section : Section) : Type 0 where
  pub good : IsGood document budget before section
  pub outcome : Outcome
  pub solved : IsSolverOutcome good.problem budget outcome
  pub gives : given good.problem outcome
  pub same : IsSectionOf outcome section

-- each section is good on those before it, and that of an outcome which `given` says was given for its own problem
abbrev pub EachIsSearched : (ProblemModel → Outcome → Type 0) → Document → ℕ → List Section → Type 0
EachIsSearched given document budget sections = (i : ℕ) (d : Section) → i < length sections →
    IsSearched given document budget (take i sections) (get_or sections i d)

-- the sections are all that are due for the table on a page, each good and that of an outcome which `given` says was given
pub record AreSectionsOf (given : ProblemModel → Outcome → Type 0) (table : Table) (style : Style) (page budget : ℕ)
    (sections : List Section) : Type 0 where
  pub document : Document
  pub of : IsDocumentOf table style page document
  pub each : EachIsSearched given document budget sections
  pub none : due_after document sections ≡ None

-- the sections can be written into a certificate
pub record AreWritable (sections : List Section) : Type 0 where
  pub some : 1 ≤ length sections
  pub most : length sections ≤ MAX_SECTIONS
  pub each : AllByRecursion IsSectionWritable sections
