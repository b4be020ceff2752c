-- Which step of judging a certificate fails first, each as a relation of its own.
use Rattle.std.specs.Prelude.{◌≡◌, ℕ, ◌<◌, ◌≤◌, ◌⊎◌, length, get_or, take, None, Some}
use Rattle.tl_base.specs.declared.style.Style.{Style}
use Rattle.tl_problem.specs.Problem.{ProblemModel}
use Rattle.tl_cert.specs.declared.certificate.Certificate.{Certificate}
use Rattle.tl_cert.specs.declared.certificate.Claim.TheVariants.{Narrow}
use Rattle.tl_cert.specs.declared.section.Section.{Section}
use Rattle.tl_cert.specs.Text.{IsNarrow}
use Rattle.tl_table.specs.declared.cell.Table.{Table}
use Rattle.tl_form.specs.Expected.{Document, IsDocumentOf, due_after, IsDue}
use Rattle.tl_form.specs.Valid.{IsClaimFor, AreTooWide, IsLaid, HasTrace, HasLog, AreGoodBelow, EndsWith}

-- the certificate is for this document, its claim rests on sections, and the first `n` of them are good
pub record IsGoodUpTo (document : Document) (budget : ℕ) (certificate : Certificate) (n : ℕ) : Type 0 where
  pub claim : IsClaimFor document budget certificate
  pub by_sections : IsNarrow certificate.claim → ⊥
  pub there : n ≤ length certificate.sections
  pub good : AreGoodBelow document budget certificate.sections n

-- all sections are good and none is left, but the claim has other numbers
pub record HasOtherNumbers (document : Document) (budget : ℕ) (certificate : Certificate) : Type 0 where
  pub good : IsGoodUpTo document budget certificate (length certificate.sections)
  pub none : due_after document certificate.sections ≡ None
  pub wrong : EndsWith certificate.claim certificate.sections → ⊥

-- the claim is not for this document, or has other numbers than its sections
abbrev pub HasWrongClaim : Document → ℕ → Certificate → Type 0
HasWrongClaim document budget certificate =
    (IsClaimFor document budget certificate → ⊥) ⊎ HasOtherNumbers document budget certificate

-- the chains are not those that the claim needs
pub record HasWrongChain (document : Document) (budget : ℕ) (certificate : Certificate) : Type 0 where
  pub claim : IsClaimFor document budget certificate
  pub least : ℕ
  pub narrow : certificate.claim ≡ Narrow least
  pub wrong : AreTooWide document certificate.chains least → ⊥

-- a section of this table is due after some good ones, and is not the next
pub record IsMissing (document : Document) (budget : ℕ) (certificate : Certificate) (table : ℕ) : Type 0 where
  pub at : ℕ
  pub good : IsGoodUpTo document budget certificate at
  pub width : ℕ
  pub due : due_after document (take at certificate.sections) ≡ Some (record { table = table; width = width })
  pub wrong : (d : Section) → at < length certificate.sections →
      IsDue document (take at certificate.sections) (get_or certificate.sections at d) → ⊥

-- no section is due after the first `number`, and one more is there
pub record IsExtra (document : Document) (budget : ℕ) (certificate : Certificate) (number : ℕ) : Type 0 where
  pub good : IsGoodUpTo document budget certificate number
  pub none : due_after document (take number certificate.sections) ≡ None
  pub more : number < length certificate.sections

-- `section` has this number, is due, and all before it are good
pub record ComesTo (document : Document) (budget : ℕ) (certificate : Certificate) (number : ℕ) (section : Section) : Type 0 where
  pub good : IsGoodUpTo document budget certificate number
  pub there : number < length certificate.sections
  pub is : get_or certificate.sections number section ≡ section
  pub due : IsDue document (take number certificate.sections) section

-- the section with this number has no tight placement of its height
pub record HasWrongLayout (document : Document) (budget : ℕ) (certificate : Certificate) (number : ℕ) : Type 0 where
  pub section : Section
  pub comes : ComesTo document budget certificate number section
  pub wrong : (problem : ProblemModel) → IsLaid document (take number certificate.sections) section problem → ⊥

-- the section with this number has a placement, but no trace that was worked
pub record HasWrongTrace (document : Document) (budget : ℕ) (certificate : Certificate) (number : ℕ) : Type 0 where
  pub section : Section
  pub comes : ComesTo document budget certificate number section
  pub problem : ProblemModel
  pub laid : IsLaid document (take number certificate.sections) section problem
  pub wrong : HasTrace budget section problem → ⊥

-- the section with this number has a placement and a trace on this problem, but no log that is good
pub record HasWrongLog (document : Document) (budget : ℕ) (certificate : Certificate) (number : ℕ) (section : Section)
    (problem : ProblemModel) : Type 0 where
  pub comes : ComesTo document budget certificate number section
  pub laid : IsLaid document (take number certificate.sections) section problem
  pub traced : HasTrace budget section problem
  pub wrong : HasLog section problem → ⊥

-- ---- one word for all

-- why a certificate is not valid; a number is that of a section, but for `missing`, which names the table
pub data Failure : Type 0 where
  wrong_claim : Failure
  wrong_chain : Failure
  missing : ℕ → Failure
  extra : ℕ → Failure
  wrong_layout : ℕ → Failure
  wrong_trace : ℕ → Failure
  wrong_log : ℕ → Failure

-- some problem is the section's, on which the log is not good
abbrev pub HasSomeWrongLog : Document → ℕ → Certificate → ℕ → Type 0
HasSomeWrongLog document budget certificate number = (section : Section) × (problem : ProblemModel)
    × HasWrongLog document budget certificate number section problem

-- the first step that fails is this
abbrev pub FailsFor : Document → ℕ → Certificate → Failure → Type 0
FailsFor document budget certificate wrong_claim = HasWrongClaim document budget certificate
FailsFor document budget certificate wrong_chain = HasWrongChain document budget certificate
FailsFor document budget certificate (missing table) = IsMissing document budget certificate table
FailsFor document budget certificate (extra number) = IsExtra document budget certificate number
FailsFor document budget certificate (wrong_layout number) = HasWrongLayout document budget certificate number
FailsFor document budget certificate (wrong_trace number) = HasWrongTrace document budget certificate number
FailsFor document budget certificate (wrong_log number) = HasSomeWrongLog document budget certificate number

-- so it is for the table on a page in a style, and for a budget
abbrev pub Fails : Table → Style → ℕ → ℕ → Certificate → Failure → Type 0
Fails table style page budget certificate fault = (document : Document) × IsDocumentOf table style page document
    × FailsFor document budget certificate fault
