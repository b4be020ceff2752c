-- Bytes are the text of one certificate, or no certificate's for one reason.
use Rattle.std.proofs.Common.{◌≡◌, ◌∙◌, ℕ, ◌-◌, List, [], length, refl, sym, ap, arith, append-nil}
use Rattle.tl_cert.specs.declared.certificate.Certificate.{Certificate}
use Rattle.tl_cert.specs.declared.error.CertError.{CertError}
use Rattle.tl_cert.specs.declared.error.CertError.TheVariants.{Memory, Syntax, Range, TooLong}
use Rattle.tl_cert.specs.Faults.{IsNoText, IsTextOf}
use Rattle.tl_cert.specs.inner.reading.Readings.{outside}
use Rattle.tl_cert.proofs.text.Laws.{texts_apart, one_place, whole_again, whole_outside}

-- two certificates of one text are the same
pub one_certificate : (text : List ℕ) (one other : Certificate) → IsTextOf text one → IsTextOf text other → one ≡ other
one_certificate text one other first second =
    (texts_apart one other [] [] first.writable.0 second.writable.0
    (append-nil _ ∙ sym first.text ∙ second.text ∙ sym (append-nil _))).0

-- two reasons why bytes are no certificate's are the same
pub one_error : (bytes : List ℕ) (one other : CertError) → IsNoText bytes one → IsNoText bytes other → one ≡ other
one_error bytes (Memory error) other first second = absurd first
one_error bytes (Syntax place) (Memory error) first second = absurd second
one_error bytes (Syntax place) (Syntax other) first second = ap Syntax (one_place bytes place other first.1 second.1)
one_error bytes (Syntax place) (Range other) first second = absurd (first.1.no_range other second.1)
one_error bytes (Syntax place) TooLong first second = absurd (omega (arith, first.0, second))
one_error bytes (Range place) (Memory error) first second = absurd second
one_error bytes (Range place) (Syntax other) first second = absurd (second.1.no_range place first.1)
one_error bytes (Range place) (Range other) first second =
    let one = whole_outside bytes place first.1 in
    let two = whole_outside bytes other second.1 in
    let left : outside (length bytes - place) ≡ outside (length bytes - other) = sym one.0 ∙ two.0 in
    let same : length bytes - place ≡ length bytes - other = cc in
    ap Range (sym one.1 ∙ ap (λ (n : ℕ). length bytes - n) same ∙ two.1)
one_error bytes (Range place) TooLong first second = absurd (omega (arith, first.0, second))
one_error bytes TooLong (Memory error) first second = absurd second
one_error bytes TooLong (Syntax other) first second = absurd (omega (arith, first, second.0))
one_error bytes TooLong (Range other) first second = absurd (omega (arith, first, second.0))
one_error bytes TooLong TooLong first second = refl

-- the text of a certificate is no certificate's for no reason
pub text_or_error : (bytes : List ℕ) (certificate : Certificate) (error : CertError) → IsTextOf bytes certificate →
    IsNoText bytes error → ⊥
text_or_error bytes certificate (Memory error) is no_text = no_text
text_or_error bytes certificate (Syntax place) is no_text = no_text.1.no_text certificate is.writable.0 (sym is.text)
text_or_error bytes certificate (Range place) is no_text =
    let read = whole_again bytes certificate is.writable is.text in
    let out = (whole_outside bytes place no_text.1).0 in
    cc
text_or_error bytes certificate TooLong is no_text = omega (arith, is.short, no_text)
