-- What a demonstration of a number counts: of its table, laid out on its page by the best-first search, and of a
-- certificate of it that is valid.
use Rattle.std.specs.Prelude.{◌≡◌, ℕ, ◌-◌, List, length, take, None, Some}
use Rattle.std.specs.List.{last_or}
use Rattle.tl_base.specs.declared.breaking.Breaking.TheVariants.{Words}
use Rattle.tl_base.specs.declared.style.Style.TheVariants.{Plain}
use Rattle.tl_cert.specs.declared.certificate.Certificate.{Certificate}
use Rattle.tl_cert.specs.declared.section.Section.{Section}
use Rattle.tl_demo.specs.Demo.{demo_text_of}
use Rattle.tl_demo.specs.declared.laws.TheConstants.{DEMO_WIDTH}
use Rattle.tl_table.specs.declared.cell.Table.{Table, out-Table}
use Rattle.tl_form.specs.Valid.{IsValid, IsProblemAt}
use Rattle.tl_nested.specs.Searched.{AreSectionsOf}
use Rattle.tl_problem.specs.Problem.{ProblemModel}
use Rattle.tl_problem.specs.Spans.{count_of}
use Rattle.tl_lay.specs.declared.limits.TheConstants.{DEMO_BUDGET}
use Rattle.tl_base.specs.declared.search.Search.TheVariants.{Best}
use Rattle.tl_read.specs.declared.reading.Reading.TheVariants as readings
use Rattle.tl_lay.specs.declared.summary.Summary.{Summary}
use Rattle.tl_lay.specs.Answers.{IsOutcomeOf}
use Rattle.tl_read.specs.declared.source.Source.TheVariants.{Html}
use Rattle.tl_read.specs.Reading.{IsReading}

-- the sections but the last
abbrev pub before_last : List Section → List Section
before_last sections = take (length sections - 1) sections

-- The numbers of a table: its cells, and of the last section of a valid certificate, which is the table's own, the ways to
-- give each span of its problem a class, the height, the lower bound and the cuts. Each section is that of an outcome of the
-- best-first search
pub record IsSummaryOf (table : Table) (summary : Summary) : Type 0 where
  pub certificate : Certificate
  pub valid : IsValid table Plain DEMO_WIDTH DEMO_BUDGET certificate
  pub searched : AreSectionsOf (IsOutcomeOf Best 1 DEMO_BUDGET) table Plain DEMO_WIDTH DEMO_BUDGET certificate.sections
  pub section : Section
  pub last : last_or None certificate.sections ≡ Some section
  pub problem : ProblemModel
  pub own : IsProblemAt searched.document (before_last certificate.sections) section problem
  pub cells : summary.cells ≡ length (out-Table table).cells
  pub count : summary.count ≡ count_of problem
  pub height : summary.height ≡ section.height
  pub lower : summary.lower ≡ section.lower
  pub cuts : summary.cuts ≡ length section.trace

-- the text of the number's table is read as a table, which has these numbers
pub record IsDemonstrated (number : ℕ) (summary : Summary) : Type 0 where
  pub table : Table
  pub read : IsReading (Html Words) (demo_text_of number) (readings.Table table)
  pub numbers : IsSummaryOf table summary
