-- One reading or another, by the next character, is exact for the texts of both.
use Rattle.std.proofs.Common.{◌≡◌, ℕ, Bool, true, false, cond, List, [], ◌∷◌, ◌++◌, ◌⊎◌, inl, inr, refl, sym, ap, ◌∙◌}
use Rattle.std.proofs.Common.{append_assoc}
use Rattle.tl_cert.specs.Pieces.{TextPiece, number, spell, numeral, AllWithin}
use Rattle.tl_cert.specs.inner.reading.Readings.{got, wrong, outside, Reading, begins, either}
use Rattle.tl_cert.proofs.reading.Spellings.{spell_two}
use Rattle.tl_cert.proofs.reading.NumeralDigits.{numeral_first}
use Rattle.tl_cert.proofs.reading.Exact.{SameStart, Stuck, Outside, Takes, Exact}

-- texts that end at once or begin with one character pass the same tests
same_begins : (test : ℕ → Bool) (prefix rest other : List ℕ) → SameStart rest other →
    begins test (prefix ++ rest) ≡ begins test (prefix ++ other)
same_begins test [] [] [] same = refl
same_begins test [] [] (c ∷ other) same = absurd same
same_begins test [] (b ∷ rest) [] same = absurd same
same_begins test [] (b ∷ rest) (c ∷ other) same = ap test same
same_begins test (d ∷ prefix) rest other same = refl

-- what follows a number's first digit makes no difference
begins-numeral : (test : ℕ → Bool) (prefix : List ℕ) (n : ℕ) (x y : List ℕ) →
    begins test (prefix ++ (numeral n ++ x)) ≡ begins test (prefix ++ (numeral n ++ y))
begins-numeral test [] n x y = let p = numeral_first n in ap (λ (ds : List ℕ). begins test (ds ++ x)) p.2
    ∙ sym (ap (λ (ds : List ℕ). begins test (ds ++ y)) p.2)
begins-numeral test (d ∷ prefix) n x y = refl

-- which reading it is
pub record Chosen {C : Type 0} (test : ℕ → Bool) (pieces : C → List TextPiece)
    (IsFirst IsOther IsShaped : C → Type 0) : Type 0 where
  pub separated : (v : C) → IsShaped v → IsFirst v ⊎ IsOther v
  pub first : (v : C) → IsFirst v → IsShaped v
  pub other : (v : C) → IsOther v → IsShaped v
  pub yes : (v : C) (t : List ℕ) → IsFirst v → begins test (spell (pieces v) ++ t) ≡ true
  pub no : (v : C) (t : List ℕ) → IsOther v → begins test (spell (pieces v) ++ t) ≡ false

module _ {C : Type 0} {test : ℕ → Bool} {pieces : C → List TextPiece} {IsFirst IsOther IsShaped : C → Type 0}
    {one two : Reading C} (first : Exact one IsFirst pieces) (other : Exact two IsOther pieces)
    (chosen : Chosen test pieces IsFirst IsOther IsShaped) where
  clash : (v w : C) (t u : List ℕ) → IsFirst v → IsOther w → spell (pieces v) ++ t ≡ spell (pieces w) ++ u → ⊥
  clash v w t u is_first is_other e =
      let yes = chosen.yes v t is_first in
      let no = chosen.no w u is_other in
      let both : begins test (spell (pieces v) ++ t) ≡ begins test (spell (pieces w) ++ u) = ap (begins test) e in
      cc

  either_apart : (v w : C) (t u : List ℕ) → IsShaped v → IsShaped w → spell (pieces v) ++ t ≡ spell (pieces w) ++ u →
      (v ≡ w) × (t ≡ u)
  either_apart v w t u is_v is_w e =
      elim (chosen.separated v is_v) [
        | inl v1 ↦ elim (chosen.separated w is_w) [
          | inl w1 ↦ first.apart v w t u v1 w1 e
          | inr w2 ↦ absurd
              (clash v w t u v1 w2 e)
        ]
        | inr v2 ↦ elim (chosen.separated w is_w) [
          | inl w1 ↦ absurd (clash w v u t w1 v2 (sym e))
          | inr w2 ↦ other.apart v w t u v2 w2 e
        ]
      ]

  either_takes : (text : List ℕ) (v : C) (rest : List ℕ) (b : Bool) → cond b (one text) (two text) ≡ got v rest →
      Takes IsShaped pieces text v rest
  either_takes text v rest true e = let p = first.takes text v rest e in
      record { shaped = chosen.first v p.shaped; within = p.within; parts = p.parts }
  either_takes text v rest false e = let p = other.takes text v rest e in
      record { shaped = chosen.other v p.shaped; within = p.within; parts = p.parts }

  -- a value of the other kind begins with another character
  first_ends : (prefix rest : List ℕ) (v : C) (after other : List ℕ) → begins test (prefix ++ rest) ≡ true → IsOther v →
      SameStart rest other
      → spell (pieces v) ++ after ≡ prefix ++ other → ⊥
  first_ends prefix rest v after other begun is_other same e =
      let no = chosen.no v after is_other in
      let start = same_begins test prefix rest other same in
      let both : begins test (spell (pieces v) ++ after) ≡ begins test (prefix ++ other) = ap (begins test) e in
      cc

  other_ends : (prefix rest : List ℕ) (v : C) (after other : List ℕ) → begins test (prefix ++ rest) ≡ false → IsFirst v →
      SameStart rest other
      → spell (pieces v) ++ after ≡ prefix ++ other → ⊥
  other_ends prefix rest v after other begun is_first same e =
      let yes = chosen.yes v after is_first in
      let start = same_begins test prefix rest other same in
      let both : begins test (spell (pieces v) ++ after) ≡ begins test (prefix ++ other) = ap (begins test) e in
      cc

  either_wrong : (text : List ℕ) (left : ℕ) (b : Bool) → begins test text ≡ b → cond b (one text) (two text) ≡ wrong left →
      Stuck IsShaped pieces text left
  either_wrong text left true begun e =
      let stuck = first.wrong_at text left e in
      let begun' : begins test (stuck.prefix ++ stuck.rest) ≡ true = ap (begins test) (sym stuck.parts) ∙ begun in
      record {
        prefix = stuck.prefix;
        rest = stuck.rest;
        parts = stuck.parts;
        count = stuck.count;
        value = stuck.value;
        more = stuck.more;
        shaped = chosen.first stuck.value stuck.shaped;
        begins = stuck.begins;
        ends = λ v after next shaped same goes_on.
            elim (chosen.separated v shaped) [
              | inl is_first ↦ stuck.ends v after next is_first same goes_on
              | inr is_other ↦ first_ends stuck.prefix stuck.rest v after next begun' is_other same goes_on
            ];
      }
  either_wrong text left false begun e =
      let stuck = other.wrong_at text left e in
      let begun' : begins test (stuck.prefix ++ stuck.rest) ≡ false = ap (begins test) (sym stuck.parts) ∙ begun in
      record {
        prefix = stuck.prefix;
        rest = stuck.rest;
        parts = stuck.parts;
        count = stuck.count;
        value = stuck.value;
        more = stuck.more;
        shaped = chosen.other stuck.value stuck.shaped;
        begins = stuck.begins;
        ends = λ v after next shaped same goes_on.
            elim (chosen.separated v shaped) [
              | inl is_first ↦ other_ends stuck.prefix stuck.rest v after next begun' is_first same goes_on
              | inr is_other ↦ stuck.ends v after next is_other same goes_on
            ];
      }

  abbrev as_outside : (IsPart : C → Type 0) → ((v : C) → IsPart v → IsShaped v) → (text : List ℕ) (left : ℕ) →
      Outside IsPart pieces text left
      → Outside IsShaped pieces text left
  as_outside IsPart is text left out = record {
    value = out.value;
    shaped = is out.value out.shaped;
    before = out.before;
    low = out.low;
    high = out.high;
    n = out.n;
    after = out.after;
    tail = out.tail;
    split = out.split;
    within = out.within;
    beyond = out.beyond;
    parts = out.parts;
    past = out.past;
    count = out.count;
  }

  either_outside : (text : List ℕ) (left : ℕ) (b : Bool) → cond b (one text) (two text) ≡ outside left →
      Outside IsShaped pieces text left
  either_outside text left true e = as_outside IsFirst chosen.first text left (first.outside_at text left e)
  either_outside text left false e = as_outside IsOther chosen.other text left (other.outside_at text left e)

  -- the text up to the number begins as the value's text does
  begins_as : (text : List ℕ) (left : ℕ) (out : Outside IsShaped pieces text left) →
      begins test text ≡ begins test (spell (pieces out.value) ++ [])
  begins_as text left out =
      ap (begins test) out.parts ∙ begins-numeral test (spell out.before) out.n out.tail (spell out.after ++ [])
      ∙ ap (begins test) (sym (ap (λ (ps : List TextPiece). spell ps ++ []) out.split ∙ spell_two out.before
      (number out.low out.high out.n ∷ out.after) []
      ∙ ap (λ (t : List ℕ). spell out.before ++ t) (append_assoc (numeral out.n) (spell out.after) [])))

  either_first_out : (text : List ℕ) (left : ℕ) → Outside IsShaped pieces text left →
      cond (begins test text) (one text) (two text) ≡ outside left
  either_first_out text left out =
      elim (chosen.separated out.value out.shaped) [
        | inl is_first ↦
            rw (begins_as text left out ∙ chosen.yes out.value [] is_first) (first.first_out text left (record {
              value = out.value;
              shaped = is_first;
              before = out.before;
              low = out.low;
              high = out.high;
              n = out.n;
              after = out.after;
              tail = out.tail;
              split = out.split;
              within = out.within;
              beyond = out.beyond;
              parts = out.parts;
              past = out.past;
              count = out.count;
            }))
        | inr is_other ↦
            rw (begins_as text left out ∙ chosen.no out.value [] is_other) (other.first_out text left (record {
              value = out.value;
              shaped = is_other;
              before = out.before;
              low = out.low;
              high = out.high;
              n = out.n;
              after = out.after;
              tail = out.tail;
              split = out.split;
              within = out.within;
              beyond = out.beyond;
              parts = out.parts;
              past = out.past;
              count = out.count;
            }))
      ]

  either_again : (v : C) (rest : List ℕ) → IsShaped v → AllWithin (pieces v) →
      cond (begins test (spell (pieces v) ++ rest)) (one (spell (pieces v) ++ rest))
      (two (spell (pieces v) ++ rest)) ≡ got v rest
  either_again v rest shaped within =
      elim (chosen.separated v shaped) [
        | inl is_first ↦ rw (chosen.yes v rest is_first) (first.again v rest is_first within)
        | inr is_other ↦ rw (chosen.no v rest is_other) (other.again v rest is_other within)
      ]

  pub exact_either : Exact (either test one two) IsShaped pieces
  unfolding either
  exact_either = record {
    some = first.some;
    some_shaped = chosen.first first.some first.some_shaped;
    apart = either_apart;
    takes = λ text v rest e. either_takes text v rest (begins test text) e;
    again = either_again;
    wrong_at = λ text left e. either_wrong text left (begins test text) refl e;
    outside_at = λ text left e. either_outside text left (begins test text) e;
    first_out = either_first_out;
  }
