-- The theorem of `tidy`. Of bytes that are a table, it answers with the lowest page that there is, as `lay` does, on the narrowest
-- page that has a layout as low, with the certificates that show it; or it says what the budget left open. That the layout is the
-- chosen one is said by what `tidy` comes to (specs/Tidied).
use Rattle.std.specs.Prelude.{◌≡◌, ◌⊎◌, ⊤, ℕ, ◌-◌, ◌<◌, ◌≤◌, List, Option, None, Some}
use Rattle.tl_cert.specs.declared.certificate.Certificate.{Certificate}
use Rattle.tl_cert.specs.declared.certificate.Claim.{Claim}
use Rattle.tl_cert.specs.declared.certificate.Claim.TheVariants as claims
use Rattle.tl_problem.specs.Problem.{ProblemModel}
use Rattle.tl_table.specs.declared.cell.Table.{Table}
use Rattle.tl_table.specs.Least.{IsLeastHeight}
use Rattle.tl_narrow.specs.Slimmest.{IsBelowCounts}
use Rattle.tl_narrow.specs.Slims.{IsHighCertificate, IsLowCertificate, IsSpentCertificate, trial_between}
use Rattle.tl_lay.specs.declared.answer.Answer.{Answer}
use Rattle.tl_lay.specs.declared.answer.Answer.TheVariants as answers
use Rattle.tl_lay.specs.declared.answer.Evidence.{Evidence}
use Rattle.tl_lay.specs.declared.task.Task.{Task}
use Rattle.tl_lay.specs.Answers.{Certifies, IsTextWanted}
use Rattle.tl_lay.specs.Budgets.{budget_in}
use Rattle.tl_lay.specs.Lowest.{FitsNone, HasNoneBelow, IsPageOf, IsTableIn}
use Rattle.tl_lay.specs.Narrowest.{IsNarrowest}
use Rattle.tl_lay.specs.Tidied.{IsLeftOpen, IsOwnProblem}

-- ---- the page

-- there is a page of the table that fits `width` columns, and is as low as any of the page width: so many lines
pub record HasLowestOn (task : Task) (table : Table) (width height : ℕ) (evidence : Evidence) : Type 0 where
  pub taken : ℕ
  pub page : List ℕ
  pub there : evidence.page ≡ Some page
  pub is_page : IsPageOf task table width height taken page
  pub lowest : IsLeastHeight table task.style task.width height

-- ---- the certificates

-- where it is wanted, the text is that of a valid certificate with this claim
abbrev pub IsTextOfClaim : Task → Table → Claim → Option (List ℕ) → Type 0
IsTextOfClaim task table claim text = (certificate : Certificate) × IsTextWanted task.certified (Some certificate) text
    × Certifies table task.style task.width (budget_in task table) claim certificate

-- where texts are wanted, this one is that of a certificate of which this holds, but for one case, in which there is none
abbrev pub ShowsUnless : Task → Type 0 → (Certificate → Type 0) → Option (List ℕ) → Type 0
ShowsUnless task Never Shows text = (Never × (text ≡ None))
    ⊎ ((Never → ⊥) × (certificate : Certificate) × Shows certificate × IsTextWanted task.certified (Some certificate) text)

-- these are the texts of a search for the narrowest page of so many lines, which found it between these widths: that of the page
-- itself; that of the page one column narrower than `least`, unless there is none; and, unless the widths are the same, that of
-- the page with which the search ended early
pub record IsShown (task : Task) (table : Table) (height width least : ℕ) (evidence : Evidence) : Type 0 where
  pub kept : Certificate
  pub low : IsLowCertificate table task.style height width (budget_in task table) kept
  pub is_text : IsTextWanted task.certified (Some kept) evidence.kept
  pub less : ShowsUnless task (least ≡ 1) (IsHighCertificate table task.style height (least - 1) (budget_in task table))
      evidence.less
  pub spent : ShowsUnless task (width ≡ least) (IsSpentCertificate table task.style height task.width
      (trial_between task.width least width) (budget_in task table)) evidence.spent

-- ---- what is left open

-- on each page from this one up to the page width, the budget of each search was below the count of what there is to search
abbrev pub IsBelowFrom : Task → Table → ℕ → Type 0
IsBelowFrom task table from = (page : ℕ) → from ≤ page → page ≤ task.width →
    IsBelowCounts table task.style page (budget_in task table)

-- the choice among the layouts of the page that is kept stays open, for the problem that its certificate gives the table
pub record LeavesOpen (task : Task) (table : Table) (height : ℕ) (kept : Certificate) : Type 0 where
  pub problem : ProblemModel
  pub own : IsOwnProblem table task.style kept problem
  pub left : IsLeftOpen task table height problem

-- ---- the answers

-- what each answer of `tidy` says of the bytes. Tidy: the page is the lowest, and the narrowest that is as low. Bounded: its height
-- is open, and Wider: its width is, between two bounds; Unchosen: it is the lowest and the narrowest, and the choice among its
-- layouts is open; then the budget was below the counts. Narrow: no layout fits. There is no other answer but a refusal, of
-- which `IsTidied` says why
abbrev pub Tidies : Task → List ℕ → Answer → Type 0
Tidies task bytes (answers.Tidy height width evidence) = (table : Table) × IsTableIn task bytes table
    × HasLowestOn task table width height evidence × IsNarrowest task table height width
    × IsShown task table height width width evidence
Tidies task bytes (answers.Bounded height lower width page text) = (table : Table) × IsTableIn task bytes table
    × IsPageOf task table task.width height width page × HasNoneBelow task table lower × (lower < height)
    × IsBelowFrom task table task.width × IsTextOfClaim task table (claims.Bounded height lower) text
Tidies task bytes (answers.Wider width least evidence) = (table : Table) × (height : ℕ) × IsTableIn task bytes table
    × HasLowestOn task table width height evidence × (least < width)
    × ((narrowest : ℕ) × IsNarrowest task table height narrowest × (least ≤ narrowest) × (narrowest ≤ width))
    × IsShown task table height width least evidence × IsBelowFrom task table (width - 1)
Tidies task bytes (answers.Unchosen evidence) = (table : Table) × (height : ℕ) × (width : ℕ) × IsTableIn task bytes table
    × HasLowestOn task table width height evidence × IsNarrowest task table height width
    × (shown : IsShown task table height width width evidence) × LeavesOpen task table height shown.kept
    × IsBelowFrom task table width
Tidies task bytes (answers.Narrow least width text) = (table : Table) × IsTableIn task bytes table × (width ≡ task.width)
    × FitsNone task table least text
Tidies task bytes (answers.Refused refusal) = ⊤
Tidies task bytes other = ⊥
