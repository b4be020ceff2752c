-- How long the text of a valid certificate is at most. The law is the contract of a function of `length_laws`.
use Rattle.std.specs.Prelude.{ℕ, ◌+◌, ◌*◌, ◌≤◌, length}
use Rattle.tl_base.specs.declared.limits.TheConstants.{MAX_CERTIFICATE_BYTES, MAX_REACH}
use Rattle.tl_base.specs.declared.style.Style.{Style}
use Rattle.tl_cert.specs.declared.certificate.Certificate.{Certificate}
use Rattle.tl_cert.specs.Text.{IsWritable, cert_text}
use Rattle.tl_table.specs.declared.cell.Table.{Table}
use Rattle.tl_table.specs.Sound.{IsSound, nested_in_table}
use Rattle.tl_form.specs.Valid.{IsValid}

-- A valid certificate that has a text is never too long to be read back, where its searches, one of the table and one of each
-- nested table at each width of the page, may make no more cuts together than the reach.
abbrev pub ValidIsShort : Type 0
ValidIsShort = (table : Table) (style : Style) (page budget : ℕ) (certificate : Certificate) → IsSound table →
    (1 + nested_in_table table * page) * budget ≤ MAX_REACH → IsValid table style page budget certificate →
    IsWritable certificate →
    length (cert_text certificate) ≤ MAX_CERTIFICATE_BYTES
