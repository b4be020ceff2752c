-- When a certificate of a document is valid, and which step of judging it fails first. The steps are, in this order: the
-- claim is for this document; a claim that the page is too narrow has a chain, and is then valid; each section that is
-- due, on what the sections before it tell of nested tables, has a placement, a trace and a log; no section is left; the
-- claim has the numbers of the last section.
use Rattle.std.specs.Prelude.{◌≡◌, ℕ, ◌<◌, ◌↔◌, List, length, get_or, take, None, IsSomeAnd}
use Rattle.std.specs.List.{last_or}
use Rattle.tl_base.specs.declared.style.Style.{Style}
use Rattle.tl_base.specs.declared.chain.Chain.{Chain}
use Rattle.tl_problem.specs.declared.placed.Placed.{Placed}
use Rattle.tl_problem.specs.Problem.{ProblemModel}
use Rattle.tl_problem.specs.Sound.{IsSound}
use Rattle.tl_problem.specs.Tight.{IsTight}
use Rattle.tl_cert.specs.declared.certificate.Certificate.{Certificate}
use Rattle.tl_cert.specs.declared.certificate.Claim.{Claim}
use Rattle.tl_cert.specs.declared.certificate.Claim.TheVariants.{Lowest, Bounded, Narrow}
use Rattle.tl_cert.specs.declared.section.Section.{Section}
use Rattle.tl_cert.specs.Lines.{IsGoodLog}
use Rattle.tl_cert.specs.Worked.{IsWorked}
use Rattle.tl_cert.specs.Text.{IsNarrow}
use Rattle.tl_table.specs.declared.cell.Table.{Table}
use Rattle.tl_form.specs.declared.heights.InnerSteps.{InnerSteps}
use Rattle.tl_table.specs.Chains.{IsChain}
use Rattle.tl_form.specs.Expected.{Document, IsDocumentOf, IsTableOf, own_number, least_of, due_after, IsDue}
use Rattle.tl_form.specs.Nested.{AreInnerSteps}
use Rattle.tl_form.specs.Problems.{IsProblemOf}

-- ---- the claim, and a chain

-- the certificate is for this page, style and budget, and says that the page is too narrow exactly where no layout fits it
pub record IsClaimFor (document : Document) (budget : ℕ) (certificate : Certificate) : Type 0 where
  pub wide : certificate.width ≡ document.page
  pub drawn : certificate.style ≡ document.style
  pub cuts : certificate.budget ≡ budget
  pub kind : IsNarrow certificate.claim ↔ (document.page < least_of document (own_number document))

-- the chains are one of the document's table with those that it rests on, weigh `least`, and are wider than the page
pub record AreTooWide (document : Document) (chains : List Chain) (least : ℕ) : Type 0 where
  pub weighed : IsChain document.table document.style chains least
  pub wider : document.page < least

-- ---- a section, on what those before it tell

-- the problem of a section: that of its table at its width, with the steps that the sections before it give the tables
-- nested directly in it
pub record IsProblemAt (document : Document) (before : List Section) (section : Section) (problem : ProblemModel) : Type 0 where
  pub one : Table
  pub named : IsTableOf document section.table one
  pub inner : List InnerSteps
  pub steps : AreInnerSteps one document.style section.width before inner
  pub made : IsProblemOf one document.style section.width inner problem
  pub sound : IsSound problem

-- the widths of the section are those of a tight placement of its height
pub record HasPlacement (section : Section) (problem : ProblemModel) (placed : Placed) : Type 0 where
  pub wide : placed.widths ≡ section.widths
  pub high : placed.height ≡ section.height
  pub tight : IsTight problem placed

-- the section has a placement on this problem, which is its own
pub record IsLaid (document : Document) (before : List Section) (section : Section) (problem : ProblemModel) : Type 0 where
  pub own : IsProblemAt document before section problem
  pub placed : Placed
  pub placement : HasPlacement section problem placed

-- the section's trace was worked for the budget
abbrev pub HasTrace : ℕ → Section → ProblemModel → Type 0
HasTrace budget section problem = IsWorked problem section.trace section.height section.lower budget

-- the section's log shows its lower bound
abbrev pub HasLog : Section → ProblemModel → Type 0
HasLog section problem = IsGoodLog problem section.trace section.log section.lower

-- a good section: the one that is due, with a placement, a trace and a log
pub record IsGood (document : Document) (budget : ℕ) (before : List Section) (section : Section) : Type 0 where
  pub due : IsDue document before section
  pub problem : ProblemModel
  pub laid : IsLaid document before section problem
  pub traced : HasTrace budget section problem
  pub logged : HasLog section problem

-- the first `n` sections are good, each on those before it
abbrev pub AreGoodBelow : Document → ℕ → List Section → ℕ → Type 0
AreGoodBelow document budget sections n = (i : ℕ) (d : Section) → i < n →
    IsGood document budget (take i sections) (get_or sections i d)

-- the sections are all that are due, and good
pub record AreWhole (document : Document) (budget : ℕ) (sections : List Section) : Type 0 where
  pub good : AreGoodBelow document budget sections (length sections)
  pub none : due_after document sections ≡ None

-- ---- validity

-- the claim has the numbers of the section
abbrev pub HasNumbers : Claim → Section → Type 0
HasNumbers (Lowest height) section = (section.height ≡ height) × (section.lower ≡ height)
HasNumbers (Bounded height lower) section = (section.height ≡ height) × (section.lower ≡ lower) × (lower < height)
HasNumbers (Narrow least) section = ⊥

-- the claim has the numbers of the last section
abbrev pub EndsWith : Claim → List Section → Type 0
EndsWith claim sections = IsSomeAnd (last_or None sections) (HasNumbers claim)

-- what shows the claim: a chain, or the sections
abbrev pub IsShown : Document → ℕ → Certificate → Claim → Type 0
IsShown document budget certificate (Narrow least) = AreTooWide document certificate.chains least
IsShown document budget certificate (Lowest height) =
    AreWhole document budget certificate.sections × EndsWith (Lowest height) certificate.sections
IsShown document budget certificate (Bounded height lower) =
    AreWhole document budget certificate.sections × EndsWith (Bounded height lower) certificate.sections

-- the certificate is valid for the document and for a budget: its claim is for them, and is shown
pub record IsValidFor (document : Document) (budget : ℕ) (certificate : Certificate) : Type 0 where
  pub claim : IsClaimFor document budget certificate
  pub shown : IsShown document budget certificate certificate.claim

-- the certificate is valid for the table on a page in a style, and for a budget
abbrev pub IsValid : Table → Style → ℕ → ℕ → Certificate → Type 0
IsValid table style page budget certificate = (document : Document) × IsDocumentOf table style page document
    × IsValidFor document budget certificate
