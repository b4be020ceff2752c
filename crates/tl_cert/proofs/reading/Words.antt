-- Reading a word, or nothing, is exact.
use Rattle.std.proofs.Common.{◌≡◌, ℕ, suc, eqb, List, [], ◌∷◌, ◌++◌, length, refl, sym, ap, subst, ◌∙◌, inl, inr}
use Rattle.std.proofs.lemmas.Bool.{cases_Bool, eqb-true, eqb-false, eq-eqb}
use Rattle.std.proofs.lemmas.List.{append_cancel_left}
use Rattle.tl_cert.specs.Pieces.{TextPiece, number, spell, word, AllWithin}
use Rattle.tl_cert.specs.inner.reading.Readings.{Answer, got, wrong, outside, word_at, give}
use Rattle.tl_cert.proofs.reading.Exact.{SameStart, Exact}

pub spell-word : (w : List ℕ) → spell (word w) ≡ w
spell-word [] = refl
spell-word (c ∷ w) = ap (λ (t : List ℕ). c ∷ t) (spell-word w)

pub within-word : (w : List ℕ) → AllWithin (word w)
within-word [] = tt
within-word (c ∷ w) = (tt, within-word w)

-- no number stands in a word
pub no_number : (w : List ℕ) (before after : List TextPiece) (low high n : ℕ) → word w ≡ before ++ number low high n ∷ after → ⊥
no_number [] [] after low high n e = cc
no_number [] (p ∷ before) after low high n e = cc
no_number (c ∷ w) [] after low high n e = cc
no_number (c ∷ w) (p ∷ before) after low high n e = let tail : word w ≡ before ++ number low high n ∷ after = cc in
    no_number w before after low high n tail

word_head : (b c : ℕ) (w text : List ℕ) → b ≡ c → word_at (c ∷ w) (b ∷ text) ≡ word_at w text
unfolding word_at
word_head b c w text same = rw (eq-eqb b c same) refl

word_ends : (b c : ℕ) (w text : List ℕ) → (b ≡ c → ⊥) → word_at (c ∷ w) (b ∷ text) ≡ wrong (suc (length text))
unfolding word_at
word_ends b c w text differ =
    elim (cases_Bool (eqb b c)) [ inl hit ↦ absurd (differ (eqb-true b c hit)) | inr miss ↦ rw miss refl ]

word_again : (w rest : List ℕ) → word_at w (w ++ rest) ≡ got tt rest
unfolding word_at
word_again [] rest = refl
word_again (c ∷ w) rest = word_head c c w (w ++ rest) refl ∙ word_again w rest

-- where the word is not read, up to where it was
record WordStuck (w text : List ℕ) (left : ℕ) : Type 0 where
  prefix : List ℕ
  rest : List ℕ
  more : List ℕ
  parts : text ≡ prefix ++ rest
  count : length rest ≡ left
  begins : w ≡ prefix ++ more
  ends : (after other : List ℕ) → SameStart rest other → w ++ after ≡ prefix ++ other → ⊥

abbrev WordAnswer : List ℕ → List ℕ → Answer (Unit {0}) → Type 0
WordAnswer w text (got v rest) = text ≡ w ++ rest
WordAnswer w text (wrong left) = WordStuck w text left
WordAnswer w text (outside left) = ⊥

further : (c : ℕ) (w text : List ℕ) (x : Answer (Unit {0})) → WordAnswer w text x → WordAnswer (c ∷ w) (c ∷ text) x
further c w text (got v rest) a = ap (λ (t : List ℕ). c ∷ t) a
further c w text (wrong left) a = record {
  prefix = c ∷ a.prefix;
  rest = a.rest;
  more = a.more;
  parts = ap (λ (t : List ℕ). c ∷ t) a.parts;
  count = a.count;
  begins = ap (λ (t : List ℕ). c ∷ t) a.begins;
  ends = λ after other same e. let tail : w ++ after ≡ a.prefix ++ other = cc in a.ends after other same tail;
}
further c w text (outside left) a = a

at_end : (c : ℕ) (w after other : List ℕ) → SameStart [] other → (c ∷ w) ++ after ≡ other → ⊥
at_end c w after [] same e = cc
at_end c w after (d ∷ other) same e = same

at_other : (b c : ℕ) (w text after other : List ℕ) → (b ≡ c → ⊥) → SameStart (b ∷ text) other → (c ∷ w) ++ after ≡ other → ⊥
at_other b c w text after [] differ same e = same
at_other b c w text after (d ∷ other) differ same e = let head : c ≡ d = cc in differ (same ∙ sym head)

word_answer : (w text : List ℕ) → WordAnswer w text (word_at w text)
unfolding word_at
word_answer [] text = refl
word_answer (c ∷ w) [] = record {
  prefix = [];
  rest = [];
  more = c ∷ w;
  parts = refl;
  count = refl;
  begins = refl;
  ends =
      at_end c w;
}
word_answer (c ∷ w) (b ∷ text) =
    elim (cases_Bool (eqb b c)) [
      | inl hit ↦
          let same : b ≡ c = eqb-true b c hit in
          let P : ℕ → Type 0 = λ d. WordAnswer (c ∷ w) (d ∷ text) (word_at (c ∷ w) (d ∷ text)) in
          let Q : Answer (Unit {0}) → Type 0 = WordAnswer (c ∷ w) (c ∷ text) in
          subst P (sym same) (subst Q (sym (word_head c c w text refl)) (further c w text (word_at w text) (word_answer w text)))
      | inr miss ↦
          let Q : Answer (Unit {0}) → Type 0 = WordAnswer (c ∷ w) (b ∷ text) in
          subst Q (sym (word_ends b c w text (eqb-false b c miss)))
          (record {
            prefix = [];
            rest = b ∷ text;
            more = c ∷ w;
            parts = refl;
            count = refl;
            begins = refl;
            ends =
                λ after other. at_other b c w text after other (eqb-false b c miss);
          })
    ]

-- any value of a word's one value
abbrev pub IsAny : {A : Type 0} → A → Type 0
IsAny v = Unit {0}

pub exact_word : (w : List ℕ) → Exact (word_at w) IsAny (λ _. word w)
exact_word w = record {
  some = tt;
  some_shaped = tt;
  apart = λ v u t s _ _ e. (refl, append_cancel_left (spell (word w)) t s e);
  takes = λ text v rest e.
      let P : Answer (Unit {0}) → Type 0 = WordAnswer w text in
      record {
        shaped = tt;
        within = within-word w;
        parts = subst P e (word_answer w text) ∙ ap (λ (t : List ℕ). t ++ rest)
            (sym (spell-word w));
      };
  again = λ v rest _ _. ap (λ (t : List ℕ). word_at w (t ++ rest)) (spell-word w) ∙ word_again w rest;
  wrong_at = λ text left e.
      let P : Answer (Unit {0}) → Type 0 = WordAnswer w text in
      let stuck : WordStuck w text left = subst P e (word_answer w text) in
      record {
        prefix = stuck.prefix;
        rest = stuck.rest;
        parts = stuck.parts;
        count = stuck.count;
        value = tt;
        more = stuck.more;
        shaped = tt;
        begins = spell-word w ∙ stuck.begins;
        ends = λ v after other _ same e. stuck.ends after other same (ap (λ (t : List ℕ). t ++ after) (sym (spell-word w)) ∙ e);
      };
  outside_at = λ text left e. let P : Answer (Unit {0}) → Type 0 = WordAnswer w text in absurd (subst P e (word_answer w text));
  first_out = λ text left out. absurd (no_number w out.before out.after out.low out.high out.n out.split);
}

pub exact_give : {A : Type 0} (a : A) → Exact (give a) (λ v. v ≡ a) (λ _. [])
unfolding give
exact_give a = record {
  some = a;
  some_shaped = refl;
  apart = λ v w t u one two e. (one ∙ sym two, e);
  takes = λ text v rest e. record { shaped = cc; within = tt; parts = cc };
  again = λ v rest same _. ap (λ x. got x rest) (sym same);
  wrong_at = λ text left e. absurd cc;
  outside_at = λ text left e. absurd cc;
  first_out = λ text left out. absurd (no_number [] out.before out.after out.low out.high out.n out.split);
}
