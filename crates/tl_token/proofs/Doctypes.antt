-- What is read as a doctype is one of the grammar, and what is no prefix of one is none.
use Rattle.std.proofs.Common.{◌≡◌, ◌≢◌, ℕ, Bool, true, ◌&&◌, List, [], ◌∷◌, ◌++◌, Option, Some, None, refl, sym, ap, ◌∙◌}
use Rattle.std.proofs.Common.{subst, inl, inr, eqb}
use Rattle.std.proofs.Common.{cond, append_assoc}
use Rattle.std.proofs.lemmas.Bool.{false≢true, and_parts, and_from, cases_Bool}
use Rattle.std.specs.Prelude.{codes}
use Rattle.std.specs.Char.{to_ascii_lowercase}
use Rattle.tl_token.specs.Elements.{is_word}
use Rattle.tl_token.specs.Grammar.{past_first, hidden, tag, character, unended_tag, unended_comment, bad_tag, unknown_element}
use Rattle.tl_token.specs.Grammar.{bad_reference, bad_character}
use Rattle.tl_token.specs.inner.Reading.{Found, stands, faulty, closed_or, in_doctype, doctype_word}
use Rattle.tl_token.proofs.CharacterTests.{chosen, clash}

-- after the `<!`, the rest w of the word, and anything up to the first `>`
pub record Worded (w cs rest : List ℕ) : Type 0 where
  pub word : List ℕ
  pub inside : List ℕ
  pub opened : cs ≡ word ++ inside
  pub named : is_word word w ≡ true
  pub closed : past_first (codes ">") inside ≡ Some rest

-- a `>` at the end is the first, where there is none
mark_at_end : (cs : List ℕ) → past_first (codes ">") cs ≡ None → past_first (codes ">") (cs ++ codes ">") ≡ Some []
mark_at_end [] h = refl
mark_at_end (c ∷ cs) h = elim (chosen (λ (o : Option (List ℕ)). o ≡ None) (eqb c 62 && true) _ _ h) [
  | inl e ↦ cc
  | inr e ↦ ap (λ b. cond b (Some (cs ++ codes ">")) (past_first (codes ">") (cs ++ codes ">"))) (e.0) ∙ mark_at_end cs (e.1)
]

-- what follows the first `>` goes on with more text
pub mark_and_more : (cs rest more : List ℕ) → past_first (codes ">") cs ≡ Some rest →
    past_first (codes ">") (cs ++ more) ≡ Some (rest ++ more)
mark_and_more [] rest more h = cc
mark_and_more (c ∷ cs) rest more h = elim (chosen (λ (o : Option (List ℕ)). o ≡ Some rest) (eqb c 62 && true) _ _ h) [
  | inl e ↦
      let same : cs ≡ rest = cc in
      ap (λ b. cond b (Some (cs ++ more)) (past_first (codes ">") (cs ++ more))) (e.0) ∙ ap (λ x. Some (x ++ more)) same
  | inr e ↦ ap (λ b. cond b (Some (cs ++ more)) (past_first (codes ">") (cs ++ more))) (e.0) ∙ mark_and_more cs rest more (e.1)
]

Worded-more : (w cs rest : List ℕ) (c d : ℕ) → eqb (to_ascii_lowercase c) d ≡ true → Worded w cs rest →
    Worded (d ∷ w) (c ∷ cs) rest
Worded-more w cs rest c d e k = record {
  word = c ∷ k.word;
  inside = k.inside;
  opened = ap (λ x. c ∷ x) (k.opened);
  named = and_from _ _ e (k.named);
  closed = k.closed;
}

Worded-less : (w cs rest : List ℕ) (c d : ℕ) → Worded (d ∷ w) (c ∷ cs) rest →
    (eqb (to_ascii_lowercase c) d ≡ true) × Worded w cs rest
Worded-less w cs rest c d k = from (k.word) (k.opened) (k.named)
  where
    from : (word : List ℕ) → c ∷ cs ≡ word ++ k.inside → is_word word (d ∷ w) ≡ true →
        (eqb (to_ascii_lowercase c) d ≡ true) × Worded w cs rest
    from [] opened named = absurd (false≢true named)
    from (e ∷ word) opened named =
        let same : e ≡ c = cc in
        let later : cs ≡ word ++ k.inside = cc in
        let (head, others) = and_parts _ _ named in (
          ap (λ x. eqb (to_ascii_lowercase x) d) (sym same) ∙ head,
          record { word = word; inside = k.inside; opened = later; named = others; closed = k.closed },
        )

-- what follows the `<!`, where the rest w of the word is to come
abbrev pub WordIs : Found → List ℕ → List ℕ → Type 0
WordIs (stands hidden rest) w cs = Worded w cs rest
WordIs (stands (tag kind) rest) w cs = ⊥
WordIs (stands (character c) rest) w cs = ⊥
WordIs (faulty unended_tag) w cs = (more : List ℕ) × (more ≢ []) × Worded w (cs ++ more) []
WordIs (faulty bad_tag) w cs = (more rest : List ℕ) → Worded w (cs ++ more) rest → ⊥
WordIs (faulty unended_comment) w cs = ⊥
WordIs (faulty unknown_element) w cs = ⊥
WordIs (faulty bad_reference) w cs = ⊥
WordIs (faulty bad_character) w cs = ⊥

closed_word : (cs : List ℕ) (o : Option (List ℕ)) → past_first (codes ">") cs ≡ o → WordIs (closed_or unended_tag o) [] cs
closed_word cs None h = (
  codes ">",
  (λ e. cc),
  record {
    word = [];
    inside = cs ++ codes ">";
    opened = refl;
    named =
        refl;
    closed = mark_at_end cs h;
  },
)
closed_word cs (Some rest) h = record { word = []; inside = cs; opened = refl; named = refl; closed = h }

more_word : (found : Found) (w cs : List ℕ) (c d : ℕ) → eqb (to_ascii_lowercase c) d ≡ true → WordIs found w cs →
    WordIs found (d ∷ w) (c ∷ cs)
more_word (stands hidden rest) w cs c d e k = Worded-more w cs rest c d e k
more_word (stands (tag kind) rest) w cs c d e k = k
more_word (stands (character a) rest) w cs c d e k = k
more_word (faulty unended_tag) w cs c d e k = (k.0, k.1, Worded-more w (cs ++ k.0) [] c d e (k.2))
more_word (faulty bad_tag) w cs c d e k = λ more rest given. k more rest ((Worded-less w (cs ++ more) rest c d given).1)
more_word (faulty unended_comment) w cs c d e k = k
more_word (faulty unknown_element) w cs c d e k = k
more_word (faulty bad_reference) w cs c d e k = k
more_word (faulty bad_character) w cs c d e k = k

-- the word is of lowercase letters
pub word_is : (w cs : List ℕ) → is_word w w ≡ true → WordIs (doctype_word w cs) w cs
word_is [] cs small = closed_word cs (past_first (codes ">") cs) refl
word_is (d ∷ w) [] small =
    ((d ∷ w) ++ codes ">", (λ e. cc), record { word = d ∷ w; inside = codes ">"; opened = refl; named = small; closed = refl })
word_is (d ∷ w) (c ∷ cs) small = elim (cases_Bool (eqb (to_ascii_lowercase c) d)) [
  | inl e ↦
      let P : Bool → Type 0 = λ b. WordIs (cond b (doctype_word w cs) (faulty bad_tag)) (d ∷ w) (c ∷ cs) in
      subst P (sym e) (more_word (doctype_word w cs) w cs c d e (word_is w cs ((and_parts _ _ small).1)))
  | inr e ↦
      let P : Bool → Type 0 = λ b. WordIs (cond b (doctype_word w cs) (faulty bad_tag)) (d ∷ w) (c ∷ cs) in
      subst P (sym e) (λ more rest given. clash _ ((Worded-less w (cs ++ more) rest c d given).0) e)
]

-- a word and what follows it are read
pub word_whole : (w cs rest : List ℕ) → Worded w cs rest → doctype_word w cs ≡ stands hidden rest
word_whole [] cs rest k = from (k.word) (k.opened) (k.named)
  where
    from : (word : List ℕ) → cs ≡ word ++ k.inside → is_word word [] ≡ true → doctype_word [] cs ≡ stands hidden rest
    from [] opened named = ap in_doctype opened ∙ ap (closed_or unended_tag) (k.closed)
    from (e ∷ word) opened named = absurd (false≢true named)
word_whole (d ∷ w) [] rest k = from (k.word) (k.opened) (k.named)
  where
    from : (word : List ℕ) → [] ≡ word ++ k.inside → is_word word (d ∷ w) ≡ true → doctype_word (d ∷ w) [] ≡ stands hidden rest
    from [] opened named = absurd (false≢true named)
    from (e ∷ word) opened named = cc
word_whole (d ∷ w) (c ∷ cs) rest k =
    let (head, others) = Worded-less w cs rest c d k in
    ap (λ b. cond b (doctype_word w cs) (faulty bad_tag)) head ∙ word_whole w cs rest others

-- where more text makes it whole, it did not end
pub word_unended : (w cs more : List ℕ) → is_word w w ≡ true → more ≢ [] → Worded w (cs ++ more) [] →
    doctype_word w cs ≡ faulty unended_tag
word_unended w cs more small some k = from (doctype_word w cs) refl (word_is w cs small)
  where
    none : (xs : List ℕ) → xs ++ more ≡ [] → ⊥
    none [] e = some e
    none (x ∷ xs) e = cc

    from : (found : Found) → doctype_word w cs ≡ found → WordIs found w cs → found ≡ faulty unended_tag
    from (stands hidden left) e j =
        let longer : Worded w (cs ++ more) (left ++ more) = record {
          word = j.word;
          inside = j.inside ++ more;
          opened = ap (λ x. x ++ more) (j.opened) ∙ append_assoc (j.word) (j.inside) more;
          named = j.named;
          closed = mark_and_more (j.inside) left more (j.closed);
        } in
        let a = word_whole w (cs ++ more) (left ++ more) longer in
        let b = word_whole w (cs ++ more) [] k in
        let same : left ++ more ≡ [] = cc in
        absurd (none left same)
    from (stands (tag kind) left) e j = absurd j
    from (stands (character a) left) e j = absurd j
    from (faulty unended_tag) e j = refl
    from (faulty bad_tag) e j = absurd (j more [] k)
    from (faulty unended_comment) e j = absurd j
    from (faulty unknown_element) e j = absurd j
    from (faulty bad_reference) e j = absurd j
    from (faulty bad_character) e j = absurd j
