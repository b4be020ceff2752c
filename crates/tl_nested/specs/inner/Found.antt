-- What is found of nested tables, many at once, on what was found of deeper ones. No public clause cites this file.
use Rattle.std.specs.Prelude.{◌≡◌, ℕ, ◌+◌, ◌<◌, ◌≤◌, ◌⊎◌, List, [], length, Option, None, Some}
use Rattle.std.specs.List.{All}
use Rattle.tl_base.specs.declared.limits.TheConstants.{MAX_COLUMNS, MAX_PAGE_WIDTH}
use Rattle.tl_base.specs.declared.style.Style.{Style}
use Rattle.tl_problem.specs.Problem.{ProblemModel}
use Rattle.tl_cert.specs.declared.section.Section.{Section}
use Rattle.tl_form.specs.Expected.{Document, Due, due_after, first_due, own_number, placed_width, AreDueInOrder}
use Rattle.tl_form.specs.Valid.{IsProblemAt}
use Rattle.tl_solve.specs.declared.outcome.Outcome.{Outcome}
use Rattle.tl_solve.specs.Solver.{IsSolverOutcome}
use Rattle.tl_nested.specs.declared.found.Found.{Found}
use Rattle.tl_nested.specs.Searched.{IsSectionOf}
use Rattle.tl_nested.specs.inner.Depths.{depth_of}

-- the section of an outcome
abbrev pub section_of : Due → Outcome → Section
section_of now outcome = record {
  table = now.table;
  width = now.width;
  height = outcome.best.height;
  lower = outcome.lower;
  widths = outcome.best.widths;
  trace = outcome.trace;
  log = outcome.log;
}

-- what is kept of an outcome: its section, and its placement
abbrev pub found_of : Due → Outcome → Found
found_of now outcome = record { section = section_of now outcome; placed = outcome.best }

-- a section that is that of an outcome, which `given` says was given, for its own problem on the sections that are told
pub record IsFoundOn (given : ProblemModel → Outcome → Type 0) (document : Document) (budget : ℕ) (told : List Section)
    (section : Section) : Type 0 where
  pub problem : ProblemModel
  pub own : IsProblemAt document told section problem
  pub outcome : Outcome
  pub solved : IsSolverOutcome problem budget outcome
  pub gives : given problem outcome
  pub same : IsSectionOf outcome section

-- it is one of the table with this number
pub record IsFoundFor (given : ProblemModel → Outcome → Type 0) (document : Document) (budget : ℕ) (told : List Section)
    (number : ℕ) (section : Section) : Type 0 where
  pub found : IsFoundOn given document budget told section
  pub of : section.table ≡ number

-- it is one of a table that lies as deep as this
pub record IsFoundAt (given : ProblemModel → Outcome → Type 0) (document : Document) (budget : ℕ) (told : List Section)
    (depths : List ℕ) (depth : ℕ) (section : Section) : Type 0 where
  pub found : IsFoundOn given document budget told section
  pub at : depth_of (own_number document) depths section.table ≡ depth

-- each section was found on them all, and is one of a table that lies deeper than this
abbrev pub AreTold : (ProblemModel → Outcome → Type 0) → Document → ℕ → List ℕ → ℕ → List Section → Type 0
AreTold given document budget depths depth told =
    All (λ section. IsFoundOn given document budget told section
    × (depth < depth_of (own_number document) depths section.table)) told

-- a width at which a table may be searched next: no narrower than it needs, and no wider than the page
abbrev pub MayBeSearchedNext : ℕ → ℕ → Option ℕ → Type 0
MayBeSearchedNext least page None = Unit {0}
MayBeSearchedNext least page (Some width) = (least ≤ width) × (width ≤ page)

-- how many widths may follow
abbrev pub widths_left : Option ℕ → ℕ
widths_left None = 0
widths_left (Some width) = width + 1

-- the widths of a section are those of a placement on a page
pub record HasNarrowWidths (style : Style) (section : Section) : Type 0 where
  pub few : length section.widths ≤ MAX_COLUMNS
  pub narrow : placed_width style section ≤ MAX_PAGE_WIDTH

-- the sections that were found begin a certificate, and this is due after them; or none does, and the first is due
abbrev pub IsBegun : Document → List Section → List Section → Due → Type 0
IsBegun document found sections due =
    ((sections ≡ found) × AreDueInOrder document found (length found) × (due_after document found ≡ Some due))
    ⊎ ((sections ≡ []) × (due ≡ first_due document document.last))
