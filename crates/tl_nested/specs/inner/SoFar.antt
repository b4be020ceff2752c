-- What the sections are so far. No public clause cites this file.
use Rattle.std.specs.Prelude.{◌≡◌, ℕ, ◌+◌, ◌-◌, ◌*◌, ◌≤◌, List, length, Option, None, Some}
use Rattle.std.specs.List.{AllByRecursion}
use Rattle.tl_problem.specs.Problem.{ProblemModel}
use Rattle.tl_cert.specs.declared.section.Section.{Section}
use Rattle.tl_cert.specs.Text.{IsSectionWritable}
use Rattle.tl_form.specs.Expected.{Document, Due, own_number, due_after}
use Rattle.tl_solve.specs.declared.outcome.Outcome.{Outcome}
use Rattle.tl_nested.specs.Searched.{EachIsSearched}

-- how many sections may still follow, the one that is due counted, and as many more as the page has columns
abbrev pub sections_left : Document → Option Due → ℕ
sections_left document None = document.page
sections_left document (Some now) = (now.table - own_number document) * (document.page + 1) + now.width + 1

-- the sections so far, and what is due after them
pub record AreSoFar (given : ProblemModel → Outcome → Type 0) (document : Document) (budget : ℕ) (sections : List Section)
    (next : Option Due) : Type 0 where
  pub each : EachIsSearched given document budget sections
  pub due : due_after document sections ≡ next
  pub few : length sections + sections_left document next
      ≤ (document.last - own_number document) * (document.page + 1) + document.page + 1
  pub writable : AllByRecursion IsSectionWritable sections
