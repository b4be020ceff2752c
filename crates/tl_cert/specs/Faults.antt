-- Where bytes that are no certificate go wrong. Places count bytes from 0.
use Rattle.std.specs.Prelude.{◌≡◌, ◌≢◌, ℕ, ◌+◌, ◌<◌, ◌≤◌, List, ◌∷◌, ◌++◌, length, take}
use Rattle.tl_cert.specs.declared.certificate.Certificate.{Certificate}
use Rattle.tl_cert.specs.declared.error.CertError.{CertError}
use Rattle.tl_cert.specs.declared.error.CertError.TheVariants.{Memory, Syntax, Range, TooLong}
use Rattle.tl_base.specs.declared.limits.TheConstants.{MAX_CERTIFICATE_BYTES}
use Rattle.tl_cert.specs.Pieces.{TextPiece, number, spell, numeral, IsPieceInRange, AllWithin, IsPastDigits}
use Rattle.tl_cert.specs.Text.{cert_pieces, cert_text, IsShaped, IsWritable}

-- the text of a certificate begins so, the ranges of its numbers left aside
pub record BeginsText (bytes : List ℕ) : Type 0 where
  pub whole : Certificate
  pub more : List ℕ
  pub shaped : IsShaped whole
  pub text : cert_text whole ≡ bytes ++ more

-- The first number that is outside its range, whole, begins at this place. Before it the text is one of a certificate, and
-- what follows the number does not matter.
pub record IsRangeFault (bytes : List ℕ) (place : ℕ) : Type 0 where
  pub whole : Certificate
  pub shaped : IsShaped whole
  pub before : List TextPiece
  pub low : ℕ
  pub high : ℕ
  pub n : ℕ
  pub after : List TextPiece
  pub tail : List ℕ
  pub pieces : cert_pieces whole ≡ before ++ number low high n ∷ after
  pub within : AllWithin before
  pub beyond : ¬ IsPieceInRange (number low high n)
  pub text : bytes ≡ spell before ++ (numeral n ++ tail)
  pub past : IsPastDigits tail
  pub place_is : place ≡ length (spell before)

-- The bytes before the place begin a text and with the byte at it none, or they end there. They are no text, and no number
-- before the place is outside its range.
pub record IsSyntaxFault (bytes : List ℕ) (place : ℕ) : Type 0 where
  pub there : place ≤ length bytes
  pub begins : BeginsText (take place bytes)
  pub ends : place < length bytes → ¬ BeginsText (take (place + 1) bytes)
  pub no_text : (c : Certificate) → IsShaped c → cert_text c ≢ bytes
  pub no_range : (other : ℕ) → ¬ IsRangeFault bytes other

-- Why the bytes are no certificate: there are too many, or of the other two faults this is the first by place.
abbrev pub IsNoText : List ℕ → CertError → Type 0
IsNoText bytes (Memory error) = ⊥
IsNoText bytes (Syntax place) = (length bytes ≤ MAX_CERTIFICATE_BYTES) × IsSyntaxFault bytes place
IsNoText bytes (Range place) = (length bytes ≤ MAX_CERTIFICATE_BYTES) × IsRangeFault bytes place
IsNoText bytes TooLong = MAX_CERTIFICATE_BYTES < length bytes

-- the bytes are the text of this certificate
pub record IsTextOf (bytes : List ℕ) (c : Certificate) : Type 0 where
  pub short : length bytes ≤ MAX_CERTIFICATE_BYTES
  pub writable : IsWritable c
  pub text : bytes ≡ cert_text c
