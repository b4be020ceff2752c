-- Readings of a number that one character ends, and of a word that stands for a value, are exact.
use Rattle.std.proofs.Common.{◌≡◌, ℕ, true, false, eqb, List, [], ◌∷◌, ◌++◌, refl, sym, ap, subst, ◌∙◌, append_assoc}
use Rattle.std.specs.List.{flat_map}
use Rattle.std.specs.Char.{is_ascii_digit}
use Rattle.std.proofs.lemmas.Bool.{eqb-true, eq-eqb}
use Rattle.std.proofs.lemmas.List.{append-nil}
use Rattle.tl_cert.specs.Pieces.{TextPiece, number, character, field, word}
use Rattle.tl_cert.specs.inner.reading.Readings.{Reading, ◌>>=◌, give, word_at}
use Rattle.tl_cert.specs.inner.reading.Numbers.{field_at}
use Rattle.tl_cert.proofs.reading.Exact.{Exact}
use Rattle.tl_cert.proofs.reading.Sequence.{Joined, exact_then}
use Rattle.tl_cert.proofs.reading.Words.{IsAny, exact_word, exact_give}
use Rattle.tl_cert.proofs.reading.Same.{exact_same}
use Rattle.tl_cert.proofs.reading.NumberReading.{IsRule, exact_number}

-- A value that a reading's value stands for.
pub exact_made : {A C : Type 0} {read : Reading A} {IsFirst : A → Type 0} {first_pieces : A → List TextPiece} (make : A →
    C) (part : C → A)
    (IsShaped : C → Type 0) (pieces : C → List TextPiece)
    → Exact read IsFirst first_pieces → ((v : C) → IsShaped v → IsFirst (part v) × (v ≡ make (part v)))
    → ((a : A) → IsFirst a → IsShaped (make a) × (pieces (make a) ≡ first_pieces a))
    → Exact (read >>= λ a. give (make a)) IsShaped pieces
exact_made {A} {C} {read} {IsFirst} {first_pieces} make part IsShaped pieces first separated made =
    let joined : Joined IsFirst first_pieces (λ (a : A) (v : C). v ≡ make a) (λ (a : A) (v : C). []) IsShaped pieces = record {
      separated = λ v is. let p = separated v is in record { part = part v; first = p.0; second = p.1 };
      shaped = λ a v one two. subst IsShaped (sym two) (made a one).0;
      text = λ a v one two. ap pieces two ∙ (made a one).1 ∙ sym (append-nil (first_pieces a));
    } in
    exact_then first (λ a one. exact_give (make a)) joined

-- A word and then what another reading reads.
pub exact_after : {C : Type 0} (w : List ℕ) {next : Reading C} {IsShaped : C → Type 0} (rest pieces : C → List TextPiece) →
    Exact next IsShaped rest
    → ((v : C) → IsShaped v → pieces v ≡ word w ++ rest v)
    → Exact (word_at w >>= λ _. next) IsShaped pieces
exact_after {C} w {next} {IsShaped} rest pieces second text =
    let joined : Joined {A = Unit {0}} IsAny (λ _. word w) (λ (u : Unit {0}) (v : C). IsShaped v)
    (λ (u : Unit {0}) (v : C). rest v) IsShaped pieces = record {
      separated = λ v is. record { part = tt; first = tt; second = is };
      shaped = λ a v one two. two;
      text = λ a v one two. text v two;
    } in
    exact_then (exact_word w) (λ a one. second) joined

-- a word that stands for one value
pub exact_sign : {C : Type 0} (w : List ℕ) (value : C) (pieces : C → List TextPiece) → pieces value ≡ word w
    → Exact (word_at w >>= λ _. give value) (λ v. v ≡ value) pieces
exact_sign {C} w value pieces text = exact_after w (λ _. []) pieces (exact_give value)
    (λ v is. ap pieces is ∙ text ∙ sym (append-nil (word w)))

-- the character is the only one that ends the number
pub one_end : (end : ℕ) → is_ascii_digit end ≡ false → IsRule (λ n. true) (λ n c. eqb c end)
one_end end other = record {
  some_end = λ n can. (end, eq-eqb end end refl);
  no_end = λ n e cannot ends. absurd cc;
  not_digit = λ n e ends. ap is_ascii_digit (eqb-true e end ends) ∙ other;
  longer = λ n positive. (n, [], refl, sym (append-nil _));
}

pub exact_field : (low high end : ℕ) → is_ascii_digit end ≡ false →
    Exact (field_at low high end) IsAny (λ n. field low high n end)
unfolding field_at
exact_field low high end other =
    exact_made (λ (x : ℕ × ℕ). x.0) (λ n. (n, end)) IsAny (λ n. field low high n end) (exact_number low high (one_end end other))
    (λ n is. (eq-eqb end end refl, refl))
    (λ x is. (tt, ap (λ (c : ℕ). number low high x.0 ∷ character c ∷ []) (sym (eqb-true x.1 end is))))

-- Any part of a value, and then the others.
pub exact_part_then : {A C : Type 0} {read : Reading A} {IsFirst : A → Type 0} {first_pieces : A → List TextPiece} (part : C →
    A) {next : A → Reading C}
    (IsShaped : C → Type 0)
    (pieces : C → List TextPiece) (rest : A → C → List TextPiece) → Exact read IsFirst first_pieces
    → ((a : A) → IsFirst a → Exact (next a) (λ v. IsShaped v × (part v ≡ a)) (rest a))
    → ((v : C) → IsShaped v → IsFirst (part v) × (pieces v ≡ first_pieces (part v) ++ rest (part v) v)) →
    Exact (read >>= next) IsShaped pieces
exact_part_then {A} {C} {read} {IsFirst} {first_pieces} part {next} IsShaped pieces rest first second text =
    let joined : Joined IsFirst first_pieces (λ (a : A) (v : C). IsShaped v × (part v ≡ a)) rest IsShaped pieces = record {
      separated = λ v is. record { part = part v; first = (text v is).0; second = (is, refl) };
      shaped = λ a v one two. two.0;
      text = λ a v one two. (text v two.0).1 ∙ ap (λ (b : A). first_pieces b ++ rest b v) two.1;
    } in
    exact_then first second joined

-- No character more, where the value is the only one that is left.
pub exact_only : {C : Type 0} (value : C) (IsShaped : C → Type 0) → IsShaped value → ((v : C) → IsShaped v → v ≡ value) →
    Exact (give value) IsShaped (λ v. [])
exact_only {C} value IsShaped shaped only = exact_same IsShaped (λ v. []) (exact_give value)
    (λ v is. subst IsShaped (sym is) shaped) only (λ v is. refl)

-- items with a separator before each, and one more of it, are the separator and items with one after each
pub shifted : {X : Type 0} (f : X → List TextPiece) (sep : TextPiece) (xs : List X) (t : List TextPiece)
    → flat_map (λ x. sep ∷ f x) xs ++ (sep ∷ t) ≡ sep ∷ (flat_map (λ x. f x ++ (sep ∷ [])) xs ++ t)
shifted f sep [] t = refl
shifted f sep (x ∷ xs) t =
    ap (λ (ps : List TextPiece). sep ∷ ps)
    (append_assoc (f x) (flat_map (λ y. sep ∷ f y) xs) (sep ∷ t) ∙ ap (λ (ps : List TextPiece). f x ++ ps) (shifted f sep xs t)
    ∙ sym (append_assoc (f x ++ (sep ∷ [])) (flat_map (λ y. f y ++ (sep ∷ [])) xs) t
    ∙ append_assoc (f x) (sep ∷ []) (flat_map (λ y. f y ++ (sep ∷ [])) xs ++ t)))
