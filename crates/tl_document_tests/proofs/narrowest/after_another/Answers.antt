-- The certificate that the first search kept is that of the widest page of the second.
use Rattle.std.proofs.Common.{◌≡◌, ℕ, Option, IfSome, arith, sym, subst}
use Rattle.tl_base.specs.declared.style.Style.TheVariants.{Plain}
use Rattle.tl_cert.specs.declared.certificate.Certificate.{Certificate}
use Rattle.tl_narrow.specs.Slims.{IsLowCertificate}
use Rattle.tl_narrow.proofs.Laws.{kept_is_low}
use Rattle.tl_document_tests.proofs.narrowest.after_another.Goals as goal

pub slimmest-requires-2-clause-kept : goal.slimmest-requires-2-clause-kept
slimmest-requires-2-clause-kept g c = λ lifetimes outlives.
    let first = c.in_ok-first.first in
    let ten : first.width ≡ 10 = omega (arith, c.if-first-ne10.false) in
    subst (λ (kept : Option Certificate). IfSome kept (IsLowCertificate c.in_ok-table.table Plain c.args.height 10 5000))
    (sym c.take-kept.ensures.value)
    (subst (λ (w : ℕ). IfSome first.kept (IsLowCertificate c.in_ok-table.table Plain c.args.height w 5000)) ten
    (kept_is_low c.in_ok-table.table Plain c.args.height 12 5000 first c.in_ok-first.ensures.slim))
