-- What it means that a reading is exact for texts that are made of pieces: it reads just these texts, and each fault is
-- where it has to be.
use Rattle.std.proofs.Common.{◌≡◌, ℕ, List, [], ◌∷◌, ◌++◌, length}
use Rattle.tl_cert.specs.Pieces.{TextPiece, number, spell, numeral, IsPieceInRange, AllWithin, IsPastDigits}
use Rattle.tl_cert.specs.inner.reading.Readings.{got, wrong, outside, Reading}

-- both end at once, or begin with one character
abbrev pub SameStart : List ℕ → List ℕ → Type 0
SameStart [] [] = Unit {0}
SameStart [] (c ∷ other) = ⊥
SameStart (b ∷ rest) [] = ⊥
SameStart (b ∷ rest) (c ∷ other) = b ≡ c

-- Up to what is left a text begins, and none goes on as what is left does.
pub record Stuck {A : Type 0} (IsShaped : A → Type 0) (pieces : A → List TextPiece) (text : List ℕ) (left : ℕ) : Type 0 where
  pub prefix : List ℕ
  pub rest : List ℕ
  pub parts : text ≡ prefix ++ rest
  pub count : length rest ≡ left
  pub value : A
  pub more : List ℕ
  pub shaped : IsShaped value
  pub begins : spell (pieces value) ≡ prefix ++ more
  pub ends : (v : A) (after other : List ℕ) → IsShaped v → SameStart rest other → spell (pieces v) ++ after ≡ prefix ++ other → ⊥

-- The first number that is outside its range begins where so many characters are left.
pub record Outside {A : Type 0} (IsShaped : A → Type 0) (pieces : A → List TextPiece) (text : List ℕ) (left : ℕ) : Type 0 where
  pub value : A
  pub shaped : IsShaped value
  pub before : List TextPiece
  pub low : ℕ
  pub high : ℕ
  pub n : ℕ
  pub after : List TextPiece
  pub tail : List ℕ
  pub split : pieces value ≡ before ++ number low high n ∷ after
  pub within : AllWithin before
  pub beyond : IsPieceInRange (number low high n) → ⊥
  pub parts : text ≡ spell before ++ (numeral n ++ tail)
  pub past : IsPastDigits tail
  pub count : length (numeral n ++ tail) ≡ left

-- what was read is such a text, within the ranges
pub record Takes {A : Type 0} (IsShaped : A → Type 0) (pieces : A →
    List TextPiece) (text : List ℕ) (v : A) (rest : List ℕ) : Type 0 where
  pub shaped : IsShaped v
  pub within : AllWithin (pieces v)
  pub parts : text ≡ spell (pieces v) ++ rest

pub record Exact {A : Type 0} (read : Reading A) (IsShaped : A → Type 0) (pieces : A → List TextPiece) : Type 0 where
  -- there is such a text
  pub some : A
  pub some_shaped : IsShaped some
  -- no two values have one text, and no text is a proper prefix of another
  pub apart : (v w : A) (t u : List ℕ) → IsShaped v → IsShaped w → spell (pieces v) ++ t ≡ spell (pieces w) ++ u →
      (v ≡ w) × (t ≡ u)
  -- what is read is such a text, and what is such a text is read
  pub takes : (text : List ℕ) (v : A) (rest : List ℕ) → read text ≡ got v rest → Takes IsShaped pieces text v rest
  pub again : (v : A) (rest : List ℕ) → IsShaped v → AllWithin (pieces v) → read (spell (pieces v) ++ rest) ≡ got v rest
  -- a fault is one, and of the numbers outside their range the first is found
  pub wrong_at : (text : List ℕ) (left : ℕ) → read text ≡ wrong left → Stuck IsShaped pieces text left
  pub outside_at : (text : List ℕ) (left : ℕ) → read text ≡ outside left → Outside IsShaped pieces text left
  pub first_out : (text : List ℕ) (left : ℕ) → Outside IsShaped pieces text left → read text ≡ outside left
