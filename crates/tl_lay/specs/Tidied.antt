-- What `tidy` comes to: the lowest page that there is, on the narrowest page that is as low, in the layout that is chosen among
-- those of that page, whatever search found the height; or how far it came.
use Rattle.std.specs.Prelude.{◌≡◌, ◌≢◌, ◌⊎◌, ⊤, ℕ, ◌-◌, ◌<◌, List, [], ◌∷◌, length, take, Some}
use Rattle.tl_base.specs.declared.style.Style.{Style}
use Rattle.tl_cert.specs.declared.certificate.Certificate.{Certificate}
use Rattle.tl_cert.specs.declared.certificate.Claim.TheVariants as claims
use Rattle.tl_cert.specs.declared.section.Section.{Section}
use Rattle.tl_table.specs.declared.cell.Table.{Table}
use Rattle.tl_problem.specs.declared.placed.Placed.{Placed}
use Rattle.tl_problem.specs.Problem.{ProblemModel}
use Rattle.tl_problem.specs.Spans.{count_of}
use Rattle.tl_form.specs.Nested.{IsProblemFor}
use Rattle.tl_narrow.specs.declared.slim.Slim.{Slim}
use Rattle.tl_narrow.specs.Slims.{IsSlim}
use Rattle.tl_problem.specs.Agreement.{AgreesOnPage}
use Rattle.tl_tidy.specs.Classes.{IsChosen}
use Rattle.tl_tidy.specs.Needs.{IsNeedAbove, IsNeedWithin}
use Rattle.tl_lay.specs.declared.answer.Answer.{Answer}
use Rattle.tl_lay.specs.declared.answer.Answer.TheVariants as answers
use Rattle.tl_lay.specs.declared.answer.Evidence.{Evidence}
use Rattle.tl_lay.specs.declared.task.Task.{Task}
use Rattle.tl_lay.specs.declared.tidiest.Ending.{Ending}
use Rattle.tl_lay.specs.declared.tidiest.Ending.TheVariants as endings
use Rattle.tl_lay.specs.Answers.{Certifies, IsAnswered, IsLaidAs}
use Rattle.tl_lay.specs.Budgets.{budget_in}
use Rattle.tl_lay.specs.Slimmed.{IsEvidence, IsSearchedOn, IsSlimIn}

-- ---- other widths for the table itself

-- the section with other widths of its columns
abbrev pub with_widths : Section → List ℕ → Section
with_widths section widths = record {
  table = section.table;
  width = section.width;
  height = section.height;
  lower = section.lower;
  widths = widths;
  trace = section.trace;
  log = section.log;
}

-- the sections, of which the last has other widths
abbrev pub with_last : List Section → List ℕ → List Section
with_last [] widths = []
with_last (section ∷ []) widths = with_widths section widths ∷ []
with_last (section ∷ next ∷ more) widths = section ∷ with_last (next ∷ more) widths

-- the certificate, whose last section, that of the table itself, has other widths
abbrev pub laid_with : Certificate → List ℕ → Certificate
laid_with certificate widths = record {
  width = certificate.width;
  style = certificate.style;
  budget = certificate.budget;
  claim = certificate.claim;
  chains = certificate.chains;
  sections = with_last certificate.sections widths;
}

-- what the search for the narrowest page tells, with another certificate of the page that is kept
abbrev pub with_kept : Slim → Certificate → Slim
with_kept slim kept = record {
  width = slim.width;
  least = slim.least;
  kept = Some kept;
  less = slim.less;
  spent = slim.spent;
}

-- the problem of the table itself, on what the sections of the certificate before the last tell of nested tables
abbrev pub IsOwnProblem : Table → Style → Certificate → ProblemModel → Type 0
IsOwnProblem table style certificate problem =
    IsProblemFor table style certificate.width (take (length certificate.sections - 1) certificate.sections) problem

-- ---- how it ends

module _ (task : Task) (table : Table) (height : ℕ) where
  -- each cell has the same steps by `low` and by `high`, the budget is no less than the cuts that show which layout is the chosen
  -- one, and this is its placement
  pub record IsChosenWithin (problem : ProblemModel) (placed : Placed) : Type 0 where
    pub same : AgreesOnPage problem
    pub enough : IsNeedWithin problem height (budget_in task table)
    pub chosen : IsChosen problem height placed

  -- a nested table is not known well enough, as some cell has other steps by `low` than by `high` at a width up to the page's; or
  -- the budget is less than the cuts that show which layout is the chosen one, and so less than the count of the problem
  abbrev pub IsLeftOpen : ProblemModel → Type 0
  IsLeftOpen problem = (AgreesOnPage problem → ⊥)
      ⊎ (IsNeedAbove problem height (budget_in task table) × (budget_in task table < count_of problem))

  -- the narrowest page that is so low was found: this certificate of it is kept, in which the table has this problem
  pub record IsMet (slim : Slim) (kept : Certificate) (problem : ProblemModel) : Type 0 where
    pub same : slim.width ≡ slim.least
    pub is_kept : slim.kept ≡ Some kept
    pub own : IsOwnProblem table task.style kept problem

  -- what is told, by the ending: a narrower page may be as low; or the narrowest page was found, with some layout; or with
  -- the chosen one, whose widths the table has in the certificate
  pub data IsTidyEnd (slim : Slim) : Slim → Ending → Type 0 where
    may_be_narrower : slim.width ≢ slim.least → IsTidyEnd slim slim (endings.Wider slim.width slim.least)
    left_open : {kept : Certificate} {problem : ProblemModel} → IsMet slim kept problem → IsLeftOpen problem
        → IsTidyEnd slim slim endings.Unchosen
    chosen : {kept : Certificate} {problem : ProblemModel} {placed : Placed} → IsMet slim kept problem
        → IsChosenWithin problem placed
        → IsTidyEnd slim (with_kept slim (laid_with kept placed.widths)) (endings.Tidy height slim.width)

-- what an ending is answered with
abbrev pub tidy_answer : Ending → Evidence → Answer
tidy_answer (endings.Tidy height width) evidence = answers.Tidy height width evidence
tidy_answer (endings.Wider width least) evidence = answers.Wider width least evidence
tidy_answer endings.Unchosen evidence = answers.Unchosen evidence

-- a lowest page was found by the search that is named, and then the narrowest page that is as low was looked for
pub record IsTrimmed (task : Task) (table : Table) (answer : Answer) : Type 0 where
  pub height : ℕ
  pub first : Certificate
  pub lowest : Certifies table task.style task.width (budget_in task table) (claims.Lowest height) first
  pub searched : IsSearchedOn task table task.width first
  pub slim : Slim
  pub found : IsSlimIn task table height (Some first) slim
  pub some : slim.width ≢ 0
  pub told : Slim
  pub ending : Ending
  pub ends : IsTidyEnd task table height slim told ending
  pub tells : IsSlim table task.style height task.width (budget_in task table) told
  pub evidence : Evidence
  pub is_evidence : IsEvidence task table height told evidence
  pub so : answer ≡ tidy_answer ending evidence

-- an answer with a page that is not known to be the lowest, or with none
abbrev pub EndsEarly : Answer → Type 0
EndsEarly (answers.Bounded height lower width page text) = ⊤
EndsEarly (answers.Narrow least width text) = ⊤
EndsEarly other = ⊥

-- what `tidy` comes to, by the answer: the lowest page was found, and trimmed; or what there is instead is told, as by `lay`
abbrev pub IsTidiedAs : Task → Table → Answer → Type 0
IsTidiedAs task table answer = IsTrimmed task table answer ⊎ (IsLaidAs task table answer × EndsEarly answer)

-- what `tidy` answers
abbrev pub IsTidied : Task → List ℕ → Answer → Type 0
IsTidied task = IsAnswered task (IsTidiedAs task)
