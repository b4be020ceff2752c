-- What `narrow` comes to: the page of the narrowest layout that was found, with its certificate, and the certificates that show
-- that no narrower page holds the table in so few lines, or with which the search ended early.
use Rattle.std.specs.Prelude.{◌≡◌, ℕ, zero, suc, ◌≤◌, ◌==◌, nat_le, if◌then◌else◌, List, Option, Some, None}
use Rattle.tl_cert.specs.declared.certificate.Certificate.{Certificate}
use Rattle.tl_table.specs.declared.cell.Table.{Table}
use Rattle.tl_table.specs.declared.layout.Layout.{Layout}
use Rattle.tl_table.specs.Layouts.{Fits}
use Rattle.tl_table.specs.Least.{IsLeastWidth}
use Rattle.tl_form.specs.Named.{IsNamed}
use Rattle.tl_nested.specs.Searched.{AreSectionsOf}
use Rattle.tl_narrow.specs.declared.slim.Slim.{Slim}
use Rattle.tl_narrow.specs.Slims.{AreSearched, IsSlim}
use Rattle.tl_narrow.specs.Trials.{IsBisection}
use Rattle.tl_lay.specs.declared.answer.Answer.{Answer}
use Rattle.tl_lay.specs.declared.answer.Answer.TheVariants as answers
use Rattle.tl_lay.specs.declared.answer.Evidence.{Evidence}
use Rattle.tl_lay.specs.declared.task.Task.{Task}
use Rattle.tl_lay.specs.Answers.{IsAnswered, IsOutcomeOf, IsPageFile, IsTextWanted}
use Rattle.tl_lay.specs.Budgets.{budget_in}

-- ---- the search

-- the sections of the certificate are those of a search on a page of so many columns
abbrev pub IsSearchedOn : Task → Table → ℕ → Certificate → Type 0
IsSearchedOn task table width certificate = AreSectionsOf (IsOutcomeOf task.search task.workers (budget_in task table)) table task.style width
    (budget_in task table) certificate.sections

-- the search came to these two widths by the trials that were due: the widest page first, unless its certificate is handed in, and
-- then always the page in the middle; the first of the two begins with the least width of the table
abbrev pub ComesOfTrials : Task → Table → ℕ → Option Certificate → ℕ → ℕ → Type 0
ComesOfTrials task table height handed least width = (own : ℕ) → IsLeastWidth table task.style own →
    IsBisection (IsSearchedOn task table) table task.style height task.width (budget_in task table) handed own least width

-- what the search for the narrowest page of at most `height` lines tells, among the pages of up to as many columns as the task
-- allows, by which searches, and in which order of trials; of the widest one the certificate is handed in, where there is one
pub record IsSlimIn (task : Task) (table : Table) (height : ℕ) (handed : Option Certificate) (slim : Slim) : Type 0 where
  pub tells : IsSlim table task.style height task.width (budget_in task table) slim
  pub by : AreSearched (IsSearchedOn task table) task.width handed slim
  pub order : ComesOfTrials task table height handed slim.least slim.width

-- a width that is not 0
abbrev pub found_width : ℕ → Option ℕ
found_width zero = None
found_width (suc narrower) = Some (suc narrower)

-- what it is answered with: the narrowest page, or between which widths it is, or that there is none
abbrev pub slim_answer : Task → ℕ → Slim → Evidence → Answer
slim_answer task height slim evidence = if slim.width == slim.least then answers.Slimmest slim.width height evidence
    else if nat_le slim.least task.width then answers.Between (found_width slim.width) slim.least evidence
    else answers.TooTall height evidence

-- ---- the page and the texts

-- the page of a certificate: that of the layout that it names, which fits a page of `width` columns and has at most `height`
-- lines
pub record IsSlimPage (task : Task) (table : Table) (height width : ℕ) (certificate : Certificate) (page : List ℕ) : Type 0 where
  pub lines : ℕ
  pub low : lines ≤ height
  pub layout : Layout
  pub named : IsNamed table task.style certificate layout
  pub fits : Fits table task.style width lines layout
  pub is_page : IsPageFile task.format task.style table layout page

-- the page of the certificate that was kept, where there is one
abbrev pub IsPageOfKept : Task → Table → ℕ → ℕ → Option Certificate → Option (List ℕ) → Type 0
IsPageOfKept task table height width None page = page ≡ None
IsPageOfKept task table height width (Some kept) page = (bytes : List ℕ) × (page ≡ Some bytes)
    × IsSlimPage task table height width kept bytes

-- what is known of the narrowest page: the page, and the texts of the certificates of the page that was kept, of one that is too
-- narrow, and of one that could not be decided
pub record IsEvidence (task : Task) (table : Table) (height : ℕ) (slim : Slim) (evidence : Evidence) : Type 0 where
  pub drawn : IsPageOfKept task table height slim.width slim.kept evidence.page
  pub kept : IsTextWanted task.certified slim.kept evidence.kept
  pub less : IsTextWanted task.certified slim.less evidence.less
  pub spent : IsTextWanted task.certified slim.spent evidence.spent

-- what a search for the narrowest page of at most `height` lines comes to, by the answer
pub record IsSlimmed (task : Task) (height : ℕ) (table : Table) (answer : Answer) : Type 0 where
  pub slim : Slim
  pub found : IsSlimIn task table height None slim
  pub evidence : Evidence
  pub is_evidence : IsEvidence task table height slim evidence
  pub so : answer ≡ slim_answer task height slim evidence

-- what `narrow` answers
abbrev pub IsNarrowed : Task → ℕ → List ℕ → Answer → Type 0
IsNarrowed task height = IsAnswered task (IsSlimmed task height)
