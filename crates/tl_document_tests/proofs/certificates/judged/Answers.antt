use Rattle.std.proofs.Common.{◌∙◌, ℕ, sym, subst}
use Rattle.tl_base.specs.declared.style.Style.{Style}
use Rattle.tl_base.specs.declared.style.Style.TheVariants.{Plain}
use Rattle.tl_cert.specs.declared.certificate.Certificate.{Certificate}
use Rattle.tl_table.specs.declared.cell.Table.{Table}
use Rattle.tl_form.specs.Expected.{IsDocumentOf}
use Rattle.tl_form.specs.Valid.{IsValid, IsValidFor}
use Rattle.tl_document_tests.proofs.certificates.judged.Goals as goal

-- valid at its own width and budget
valid_own : (table : Table) (style : Style) (page budget : ℕ) (certificate : Certificate) →
    IsValid table style page budget certificate →
    IsValid table style certificate.width certificate.budget certificate
valid_own table style page budget certificate valid = (
  valid.0,
  subst (λ w. IsDocumentOf table style w valid.0) (sym valid.1.wide ∙ sym valid.2.claim.wide) valid.1,
  subst (λ b. IsValidFor valid.0 b certificate) (sym valid.2.claim.cuts) valid.2,
)

pub named-requires-clause-valid : goal.named-requires-clause-valid
named-requires-clause-valid g c =
    valid_own c.in_ok-table.table Plain c.args.width c.args.budget c.in-Ok.certificate c.in_default-verify.ensures.valid

pub named-requires-in-Bounded-clause-valid : goal.named-requires-in-Bounded-clause-valid
named-requires-in-Bounded-clause-valid g c =
    valid_own c.in_ok-table.table Plain c.args.width c.args.budget c.in-Ok.certificate c.in_default-verify.ensures.valid
