-- What `read` returns, for each way in which a whole text is read.
use Rattle.std.proofs.Common.{◌≡◌, ℕ, ◌-◌, ◌≤◌, List, [], length, inl, inr, refl, sym, ap, subst, ◌∙◌, arith}
use Rattle.std.specs.Prelude.{Result, Ok, Err, IfOk, IfErr, alloc_error}
use Rattle.tl_base.specs.Returned.{ReturnsOk, ReturnsError, IsMemoryOr}
use Rattle.tl_cert.specs.declared.certificate.Certificate.{Certificate}
use Rattle.tl_cert.specs.declared.error.CertError.{CertError}
use Rattle.tl_cert.specs.declared.error.CertError.TheVariants.{Memory, Syntax, Range, TooLong}
use Rattle.tl_base.specs.declared.limits.TheConstants.{MAX_CERTIFICATE_BYTES}
use Rattle.tl_cert.specs.Faults.{IsRangeFault, IsSyntaxFault, IsNoText, IsTextOf}
use Rattle.tl_cert.specs.inner.CertReading.{whole_at}
use Rattle.tl_cert.specs.inner.Gives.{ReturnsAs}
use Rattle.tl_cert.specs.inner.reading.Readings.{wrong, outside}
use Rattle.tl_cert.proofs.text.Laws.{whole_again, whole_outside, whole_wrong, syntax_from, range_of, text_of}

abbrev Read : Type 0
Read = Result Certificate CertError

abbrev Results : Read → List ℕ → Type 0
Results r bytes = ReturnsAs r (length bytes) (whole_at bytes)

pub result_ok : (r : Read) (bytes : List ℕ) → length bytes ≤ MAX_CERTIFICATE_BYTES → Results r bytes →
    IfOk r (λ c. IsTextOf bytes c)
result_ok (Ok c) bytes short is = let p = text_of bytes c [] is in record { short = short; writable = p.0; text = p.1 }
result_ok (Err e) bytes short is = tt

pub result_each_ok : (r : Read) (bytes : List ℕ) → Results r bytes → (c : Certificate) → IsTextOf bytes c →
    ReturnsOk (Memory alloc_error) c r
result_each_ok (Ok d) bytes is c text = let again = whole_again bytes c text.writable text.text in cc
result_each_ok (Err (Memory e)) bytes is c text = refl
result_each_ok (Err (Syntax place)) bytes is c text = let again = whole_again bytes c text.writable text.text in let here =
    is.1 in absurd cc
result_each_ok (Err (Range place)) bytes is c text = let again = whole_again bytes c text.writable text.text in let here =
    is.1 in absurd cc
result_each_ok (Err TooLong) bytes is c text = absurd is

pub result_err : (r : Read) (bytes : List ℕ) → length bytes ≤ MAX_CERTIFICATE_BYTES → Results r bytes
    → IfErr r (IsMemoryOr (Memory alloc_error) (IsNoText bytes))
result_err (Ok c) bytes short is = tt
result_err (Err (Memory e)) bytes short is = inl refl
result_err (Err (Syntax place)) bytes short is = inr (short, subst (IsSyntaxFault bytes) (sym is.2) (syntax_from bytes is.0 is.1))
result_err (Err (Range place)) bytes short is = inr (short, subst (IsRangeFault bytes) (sym is.2) (range_of bytes is.0 is.1))
result_err (Err TooLong) bytes short is = absurd is

pub result_each_err : (r : Read) (bytes : List ℕ) → length bytes ≤ MAX_CERTIFICATE_BYTES → Results r bytes → (e : CertError) →
    IsNoText bytes e
    → ReturnsError (Memory alloc_error) e r
result_each_err r bytes short is (Memory e) refused = absurd refused
result_each_err r bytes short is TooLong refused = absurd (omega arith)
result_each_err r bytes short is (Syntax place) refused =
    let p = whole_wrong bytes place refused.1 in
    at_wrong r is p.0 p.1 p.2
  where
    at_wrong : (r : Read) → Results r bytes → (left : ℕ) → whole_at bytes ≡ wrong left → length bytes - left ≡ place
        → ReturnsError (Memory alloc_error) (Syntax place) r
    at_wrong (Ok c) is left w p = absurd cc
    at_wrong (Err (Memory e)) is left w p = inl refl
    at_wrong (Err (Syntax other)) is left w p =
        let here = is.1 in
        let same : is.0 ≡ left = cc in
        inr (ap (λ (k : ℕ). Syntax k) (is.2 ∙ ap (λ (k : ℕ). length bytes - k) same ∙ p))
    at_wrong (Err (Range other)) is left w p = let here = is.1 in absurd cc
    at_wrong (Err TooLong) is left w p = absurd is
result_each_err r bytes short is (Range place) refused =
    let p = whole_outside bytes place refused.1 in
    at_outside r is p.0 p.1
  where
    at_outside : (r : Read) → Results r bytes → whole_at bytes ≡ outside (length bytes - place) →
        length bytes - (length bytes - place) ≡ place
        → ReturnsError (Memory alloc_error) (Range place) r
    at_outside (Ok c) is w p = absurd cc
    at_outside (Err (Memory e)) is w p = inl refl
    at_outside (Err (Syntax other)) is w p = let here = is.1 in absurd cc
    at_outside (Err (Range other)) is w p =
        let here = is.1 in
        let same : is.0 ≡ length bytes - place = cc in
        inr (ap (λ (k : ℕ). Range k) (is.2 ∙ ap (λ (k : ℕ). length bytes - k) same ∙ p))
    at_outside (Err TooLong) is w p = absurd is
