-- What a table on a page is answered with: its page and the text of a certificate.
use Rattle.std.specs.Prelude.{◌≡◌, ℕ, ◌<◌, Bool, true, false, List, length, map, Option}
use Rattle.std.specs.Prelude.{Some, None}
use Rattle.std.specs.List.{Any}
use Rattle.tl_base.specs.declared.breaking.Breaking.{Breaking}
use Rattle.tl_base.specs.declared.style.Style.{Style}
use Rattle.tl_astar.specs.Best.{IsBestOutcome}
use Rattle.tl_branch.specs.Learn.{IsLearnOutcome}
use Rattle.tl_rounds.specs.Outcomes.{IsRoundsOutcome}
use Rattle.tl_solve.specs.Plain.{IsPlainOutcome}
use Rattle.tl_solve.specs.declared.outcome.Outcome.{Outcome}
use Rattle.tl_problem.specs.Problem.{ProblemModel}
use Rattle.tl_cert.specs.declared.certificate.Certificate.{Certificate}
use Rattle.tl_cert.specs.declared.certificate.Claim.{Claim}
use Rattle.tl_cert.specs.declared.certificate.Claim.TheVariants as claims
use Rattle.tl_cert.specs.Faults.{IsTextOf}
use Rattle.tl_cert.specs.Text.{cert_text}
use Rattle.tl_base.specs.declared.search.Search.{Search}
use Rattle.tl_base.specs.declared.search.Search.TheVariants as kinds
use Rattle.tl_table.specs.declared.cell.Table.{Table}
use Rattle.tl_table.specs.declared.layout.Layout.{Layout, out-Layout}
use Rattle.tl_table.specs.Layouts.{Fits, total_width}
use Rattle.tl_table.specs.Least.{IsLeastHeight, IsLeastWidth}
use Rattle.tl_form.specs.Named.{IsNamed}
use Rattle.tl_form.specs.OpenLaws.{IsSpent}
use Rattle.tl_form.specs.Valid.{IsValid}
use Rattle.tl_form.specs.ValidLaws.{IsBetween}
use Rattle.tl_html.specs.Html as html
use Rattle.tl_html.specs.Readable.{IsHtmlPage, SpellsAlike}
use Rattle.tl_narrow.specs.Slimmest.{IsBelowCounts}
use Rattle.tl_nested.specs.Searched.{AreSectionsOf}
use Rattle.tl_page.specs.declared.look.Look.{Look}
use Rattle.tl_page.specs.Pages.{IsPage}
use Rattle.tl_page.specs.Pages as pages
use Rattle.tl_page.specs.Standing.{HoldsAllText}
use Rattle.tl_page.specs.Trimmed.{IsTrimmedPage, trimmed}
use Rattle.tl_sides.specs.declared.align.Align.{Align}
use Rattle.tl_lay.specs.declared.answer.Answer.{Answer}
use Rattle.tl_lay.specs.declared.answer.Answer.TheVariants as answers
use Rattle.tl_lay.specs.declared.format.Format.{Format}
use Rattle.tl_lay.specs.declared.format.Format.TheVariants as formats
use Rattle.tl_lay.specs.declared.task.Task.{Task}
use Rattle.tl_lay.specs.Budgets.{budget_in, reach}
use Rattle.tl_lay.specs.Inputs.{IsOfBytes}

-- ---- the files

-- how a page of this style looks, with the lines of its cells on these sides
abbrev pub look_of : Style → Align → Look
look_of style align = record { style = style; align = align }

-- the file of the page: in text, with or without the spaces at the ends of its lines, or as HTML
abbrev pub IsPageFile : Format → Style → Table → Layout → List ℕ → Type 0
IsPageFile (formats.Text align) style table layout bytes = (lines : List (List ℕ)) × IsPage (look_of style align) table layout lines
    × (bytes ≡ pages.page_bytes lines)
IsPageFile (formats.Trimmed align) style table layout bytes = IsTrimmedPage (look_of style align) table layout bytes
IsPageFile formats.Html style table layout bytes = (bytes ≡ html.html_bytes table layout) × IsHtmlPage table layout bytes

-- these lines are a page of the table in the layout, so many, on which each unit of each cell stands whole and in order
abbrev pub AreWholeLines : Look → Table → ℕ → Layout → List (List ℕ) → Type 0
AreWholeLines look table height layout lines =
    IsPage look table layout lines × HoldsAllText look table layout lines × (length lines ≡ height)

-- a page of the table in a layout, with all its text: its lines, as they are or without the spaces at their ends; or HTML,
-- which spells the same table
abbrev pub IsWholePage : Format → Style → Breaking → Table → ℕ → Layout → List ℕ → Type 0
IsWholePage (formats.Text align) style breaking table height layout page = (lines : List (List ℕ))
    × AreWholeLines (look_of style align) table height layout lines × (page ≡ pages.page_bytes lines)
IsWholePage (formats.Trimmed align) style breaking table height layout page = (lines : List (List ℕ))
    × AreWholeLines (look_of style align) table height layout lines × (page ≡ pages.page_bytes (map trimmed lines))
IsWholePage formats.Html style breaking table height layout page = IsHtmlPage table layout page × SpellsAlike page breaking table

-- the file of the certificate, where it is asked for
abbrev pub certificate_file : Bool → Certificate → Option (List ℕ)
certificate_file true certificate = Some (cert_text certificate)
certificate_file false certificate = None

-- the certificate has a text, which is not too long, and is read back as it is
abbrev pub IsReadable : Certificate → Type 0
IsReadable certificate = IsTextOf (cert_text certificate) certificate

-- where it is asked for, its text is read back as it is
abbrev pub IsReadBack : Bool → Certificate → Type 0
IsReadBack true certificate = IsReadable certificate
IsReadBack false certificate = Unit {0}

-- ---- a layout

-- what the search that is named promises besides of each outcome, for so many workers and this budget
abbrev pub IsOutcomeOf : Search → ℕ → ℕ → ProblemModel → Outcome → Type 0
IsOutcomeOf kinds.Plain workers budget problem outcome = IsPlainOutcome problem outcome
IsOutcomeOf kinds.Best workers budget problem outcome = IsBestOutcome problem budget outcome
IsOutcomeOf kinds.Learn workers budget problem outcome = IsLearnOutcome problem outcome
IsOutcomeOf kinds.Rounds workers budget problem outcome = IsRoundsOutcome workers problem budget outcome

-- the file is a page of the table: that of this layout, which fits a page of `width` columns, has so many lines and takes so
-- many columns
pub record IsPageAt (format : Format) (style : Style) (table : Table) (width height taken : ℕ) (layout : Layout)
    (page : List ℕ) : Type 0 where
  pub fits : Fits table style width height layout
  pub wide : taken ≡ total_width style (out-Layout layout)
  pub is_page : IsPageFile format style table layout page

-- the certificate claims this of the table on a page of `width` columns, and is valid for this budget
pub record Certifies (table : Table) (style : Style) (width budget : ℕ) (claim : Claim) (certificate : Certificate) : Type 0 where
  pub claimed : certificate.claim ≡ claim
  pub valid : IsValid table style width budget certificate

-- ---- what is answered

-- a text of the certificate, where there is one and its text is wanted; it is read back as it is
abbrev pub IsTextWanted : Bool → Option Certificate → Option (List ℕ) → Type 0
IsTextWanted certified None text = text ≡ None
IsTextWanted certified (Some certificate) text = (text ≡ certificate_file certified certificate) × IsReadBack certified certificate

-- this is a page of the table, and the text that of a certificate that claims this of it: each of its sections is that of an
-- outcome of the search that is named, and the page is that of the layout that it names
pub record IsWritten (task : Task) (table : Table) (width budget : ℕ) (claim : Claim) (height taken : ℕ) (page : List ℕ)
    (text : Option (List ℕ)) : Type 0 where
  pub certificate : Certificate
  pub certifies : Certifies table task.style width budget claim certificate
  pub searched : AreSectionsOf (IsOutcomeOf task.search task.workers budget) table task.style width budget certificate.sections
  pub layout : Layout
  pub named : IsNamed table task.style certificate layout
  pub is_page : IsPageAt task.format task.style table width height taken layout page
  pub is_text : IsTextWanted task.certified (Some certificate) text

-- no layout is lower than this page
pub record IsWrittenLowest (task : Task) (table : Table) (width budget height taken : ℕ) (page : List ℕ)
    (text : Option (List ℕ)) : Type 0 where
  pub written : IsWritten task table width budget (claims.Lowest height) height taken page text
  pub least : IsLeastHeight table task.style width height

-- no layout is below the bound: some section made as many cuts as the budget allows, which is below the counts
pub record IsWrittenBounded (task : Task) (table : Table) (width budget height lower taken : ℕ) (page : List ℕ)
    (text : Option (List ℕ)) : Type 0 where
  pub apart : lower < height
  pub written : IsWritten task table width budget (claims.Bounded height lower) height taken page text
  pub spent : Any (IsSpent budget) written.certificate.sections
  pub between : IsBetween table task.style width height lower
  pub below : IsBelowCounts table task.style width budget

-- there is no page, as the table needs more columns, and the text is that of a certificate that claims this
pub record IsWrittenNarrow (task : Task) (table : Table) (width budget least : ℕ) (text : Option (List ℕ)) : Type 0 where
  pub is_least : IsLeastWidth table task.style least
  pub narrow : width < least
  pub certificate : Certificate
  pub certifies : Certifies table task.style width budget (claims.Narrow least) certificate
  pub is_text : IsTextWanted task.certified (Some certificate) text

-- what a layout of the table comes to, by the answer
pub data IsLaidAs (task : Task) (table : Table) : Answer → Type 0 where
  lowest_laid : {height taken : ℕ} {page : List ℕ} {text : Option (List ℕ)}
      → IsWrittenLowest task table task.width (budget_in task table) height taken page text
      → IsLaidAs task table (answers.Lowest height taken page text)
  bounded_laid : {height lower taken : ℕ} {page : List ℕ} {text : Option (List ℕ)}
      → IsWrittenBounded task table task.width (budget_in task table) height lower taken page text
      → IsLaidAs task table (answers.Bounded height lower taken page text)
  narrow_laid : {least : ℕ} {text : Option (List ℕ)} → IsWrittenNarrow task table task.width (budget_in task table) least text
      → IsLaidAs task table (answers.Narrow least task.width text)

-- what bytes are answered with: why they are refused, or the own part of a call holds of their table
abbrev pub IsAnswered : Task → (Table → Answer → Type 0) → List ℕ → Answer → Type 0
IsAnswered task Own bytes answer =
    IsOfBytes task.source (reach task) (λ refusal. answer ≡ answers.Refused refusal) (λ table. Own table answer) bytes

-- what `lay` answers
abbrev pub IsLaid : Task → List ℕ → Answer → Type 0
IsLaid task = IsAnswered task (IsLaidAs task)
