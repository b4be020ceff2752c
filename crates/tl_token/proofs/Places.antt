-- What the reader finds at a place is what the grammar says of it, and the other way round.
use Rattle.std.proofs.Common.{◌≡◌, ℕ, Bool, true, false, not, ◌||◌, List, [], ◌∷◌, ◌++◌, Option, Some, None, refl, sym, ap, ◌∙◌}
use Rattle.std.proofs.Common.{subst, inl, inr, cond}
use Rattle.std.proofs.lemmas.Bool.{false≢true}
use Rattle.std.proofs.lemmas.List.{append-nil}
use Rattle.std.specs.Prelude.{codes}
use Rattle.std.specs.Char.{is_ascii_alphabetic}
use Rattle.tl_token.specs.Characters.{◌∈◌, is_control, opens_markup}
use Rattle.tl_token.specs.Elements.{Tag, element_of}
use Rattle.tl_token.specs.Grammar.{past_first, Doctype, opening, IsTagName, IsTag, reference, hidden, tag, character}
use Rattle.tl_token.specs.Grammar.{LexemeStands}
use Rattle.tl_token.specs.Grammar.{comment, doctype}
use Rattle.tl_token.specs.Grammar.{markup, by_reference, plain, unended_tag, unended_comment, bad_tag, unknown_element}
use Rattle.tl_token.specs.Grammar.{bad_reference, bad_character}
use Rattle.tl_token.specs.Grammar.{IsUnendedTag, IsBadTag, FaultStands}
use Rattle.tl_token.specs.inner.States.{tag_open, TagOutcome, reads, unended, wrong, read}
use Rattle.tl_token.specs.inner.Reading.{Found, stands, faulty, closed_or, in_comment, comment_open, doctype_word, declaration}
use Rattle.tl_token.specs.inner.Reading.{known_or_not}
use Rattle.tl_token.specs.inner.Reading.{tag_found, angle, referred_or, standing}
use Rattle.tl_token.specs.declared.token.Element.{Element}
use Rattle.tl_token.proofs.CharacterTests.{clash, is_it, or_left}
use Rattle.tl_token.proofs.TagSound.{tag_sound}
use Rattle.tl_token.proofs.TagWhole.{tag_whole}
use Rattle.tl_token.proofs.TagMore.{further, Further, ending}
use Rattle.tl_token.proofs.Doctypes.{Worded, WordIs, word_is, word_whole}

-- what was found stands there
abbrev pub Holds : List ℕ → Found → Type 0
Holds cs (stands piece rest) = LexemeStands cs piece rest
Holds cs (faulty fault) = FaultStands fault cs

-- a tag begins with `<`, and a letter or `/` follows it
pub tag_second : (d : ℕ) (cs : List ℕ) (t : Tag) (rest : List ℕ) → IsTag (codes "<" ++ (d ∷ cs)) t rest →
    (is_ascii_alphabetic d || d ∈ "/") ≡ true
tag_second d cs t rest h = from (t.is_end) (t.name) (h.named) (h.spelled)
  where
    from : (e : Bool) (n : List ℕ) → IsTagName n → codes "<" ++ (d ∷ cs) ≡ opening e ++ (n ++ h.following) →
        (is_ascii_alphabetic d || d ∈ "/") ≡ true
    from e [] n k = absurd n
    from true (c ∷ m) n k = let same : d ≡ 47 = cc in let P : ℕ → Type 0 = λ x. (is_ascii_alphabetic x || x ∈ "/") ≡ true in
        subst P (sym same) refl
    from false (c ∷ m) n k =
        let same : d ≡ c = cc in
        let P : ℕ → Type 0 = λ x. (is_ascii_alphabetic x || x ∈ "/") ≡ true in
        subst P (sym same) (or_left (is_ascii_alphabetic c) (c ∈ "/") (n.0))

-- so it does not begin with `<!`
pub no_tag_here : (cs : List ℕ) (t : Tag) (rest : List ℕ) → IsTag (codes "<!" ++ cs) t rest → ⊥
no_tag_here cs t rest h = false≢true (tag_second 33 cs t rest h)

-- a proper prefix of a tag
unended_stands : (d : ℕ) (cs : List ℕ) → read tag_open (d ∷ cs) ≡ unended → IsUnendedTag (codes "<" ++ (d ∷ cs))
unended_stands d cs h =
    let F : TagOutcome → Type 0 = λ o. Further tag_open (d ∷ cs) o in
    let (u, live, same) = subst F h (further tag_open (d ∷ cs)) in
    let e = ending u live in
    inl (inl ((λ e. cc), e.more, e.some, (e.whole, tag_sound ((d ∷ cs) ++ e.more) (e.whole) [] (same (e.more) ∙ e.is_read))))

-- what is no tag, and no prefix of one
wrong_is_bad : (d : ℕ) (cs : List ℕ) → opens_markup d ≡ true → (d ∈ "!") ≡ false → read tag_open (d ∷ cs) ≡ wrong →
    IsBadTag (codes "<" ++ (d ∷ cs))
wrong_is_bad d cs opens mark h =
    let F : TagOutcome → Type 0 = λ o. Further tag_open (d ∷ cs) o in
    let stays = subst F h (further tag_open (d ∷ cs)) in
    let marked = λ (e : d ≡ 33). let P : ℕ → Type 0 = λ x. (x ∈ "!") ≡ false in false≢true (sym (subst P e mark)) in
    record {
      second = d;
      after = cs;
      opened = refl;
      opens = opens;
      no_tag = λ t rest k. let e = tag_whole (d ∷ cs) t rest k in let never : reads t rest ≡ wrong = sym e ∙ h in cc;
      no_comment = λ rest k. let e = k.opened in marked cc;
      no_doctype = λ rest k. let e = k.opened in marked cc;
      ended = λ u. elim u [
        | inl k ↦ elim k [
          | inl f ↦ let (t, whole) = f.3 in let e = tag_whole ((d ∷ cs) ++ f.1) t [] whole in let never : reads t [] ≡ wrong =
              sym e ∙ stays (f.1) in cc
          | inr f ↦ let e = f.3.opened in marked cc
        ]
        | inr e ↦ marked cc
      ];
      comment_ended = λ k. let e = k.opened in marked cc;
    }

tag_holds : (d : ℕ) (cs : List ℕ) (o : TagOutcome) → opens_markup d ≡ true → (d ∈ "!") ≡ false → read tag_open (d ∷ cs) ≡ o
    → Holds (codes "<" ++ (d ∷ cs)) (tag_found o)
tag_holds d cs (reads t rest) opens mark h = known (element_of (t.name)) refl
  where
    known : (o : Option Element) → element_of (t.name) ≡ o → Holds (codes "<" ++ (d ∷ cs)) (known_or_not t rest o)
    known None e = (t, rest, tag_sound (d ∷ cs) t rest h, e)
    known (Some element) e = markup element t (tag_sound (d ∷ cs) t rest h) e refl
tag_holds d cs unended opens mark h = unended_stands d cs h
tag_holds d cs wrong opens mark h = wrong_is_bad d cs opens mark h

-- what is found after `<!` and the word `doctype`
doctype_of : (cs rest : List ℕ) → Worded (codes "doctype") cs rest → Doctype (codes "<!" ++ cs) rest
doctype_of cs rest k = record {
  word = k.word;
  inside = k.inside;
  opened = ap (λ x. codes "<!" ++ x) (k.opened);
  named =
      k.named;
  closed = k.closed;
}

pub worded_of : (cs rest : List ℕ) → Doctype (codes "<!" ++ cs) rest → Worded (codes "doctype") cs rest
worded_of cs rest k = let e = k.opened in record {
  word = k.word;
  inside = k.inside;
  opened = cc;
  named = k.named;
  closed =
      k.closed;
}

-- a word `doctype` does not begin with `-`
pub no_dash : (cs rest : List ℕ) → Worded (codes "doctype") (codes "-" ++ cs) rest → ⊥
no_dash cs rest k = let h = word_whole (codes "doctype") (codes "-" ++ cs) rest k in
    let never : faulty bad_tag ≡ stands hidden rest = h in cc

-- `<!` and a character that is no `-`, of what is no doctype and no prefix of one
bad_declaration : (c : ℕ) (cs : List ℕ) → (c ∈ "-") ≡ false →
    ((more rest : List ℕ) → Worded (codes "doctype") ((c ∷ cs) ++ more) rest → ⊥)
    → IsBadTag (codes "<!" ++ (c ∷ cs))
bad_declaration c cs dash never =
    let dashed = λ (e : c ≡ 45). let P : ℕ → Type 0 = λ x. (x ∈ "-") ≡ false in false≢true (sym (subst P e dash)) in
    record {
      second = 33;
      after = c ∷ cs;
      opened = refl;
      opens = refl;
      no_tag = λ t rest k. no_tag_here (c ∷ cs) t rest k;
      no_comment = λ rest k. let e = k.opened in dashed cc;
      no_doctype = λ rest k.
          let P : List ℕ → Type 0 = λ x. Worded (codes "doctype") x rest in
          never [] rest (subst P (sym (append-nil (c ∷ cs))) (worded_of (c ∷ cs) rest k));
      ended = λ u. elim u [
        | inl k ↦ elim k [
          | inl f ↦ no_tag_here ((c ∷ cs) ++ f.1) (f.3.0) [] (f.3.1)
          | inr f ↦ never (f.1) [] (worded_of ((c ∷ cs) ++ f.1) [] (f.3))
        ]
        | inr e ↦ dashed cc
      ];
      comment_ended = λ k. let e = k.opened in dashed cc;
    }

-- `<!-` and a character that is no `-`
bad_comment : (c : ℕ) (cs : List ℕ) → (c ∈ "-") ≡ false → IsBadTag (codes "<!-" ++ (c ∷ cs))
bad_comment c cs dash =
    let dashed = λ (e : c ≡ 45). let P : ℕ → Type 0 = λ x. (x ∈ "-") ≡ false in false≢true (sym (subst P e dash)) in
    record {
      second = 33;
      after = 45 ∷ c ∷ cs;
      opened = refl;
      opens = refl;
      no_tag = λ t rest k. no_tag_here (45 ∷ c ∷ cs) t rest k;
      no_comment = λ rest k. let e = k.opened in dashed cc;
      no_doctype = λ rest k. no_dash (c ∷ cs) rest (worded_of (45 ∷ c ∷ cs) rest k);
      ended = λ u. elim u [
        | inl k ↦ elim k [
          | inl f ↦ no_tag_here ((45 ∷ c ∷ cs) ++ f.1) (f.3.0) [] (f.3.1)
          | inr f ↦ no_dash ((c ∷ cs) ++ f.1) [] (worded_of ((45 ∷ c ∷ cs) ++ f.1) [] (f.3))
        ]
        | inr e ↦ cc
      ];
      comment_ended = λ k. let e = k.opened in dashed cc;
    }

comment_holds : (cs : List ℕ) (o : Option (List ℕ)) → past_first (codes "-->") cs ≡ o →
    Holds (codes "<!--" ++ cs) (closed_or unended_comment o)
comment_holds cs None h = record { inside = cs; opened = refl; closed = h }
comment_holds cs (Some rest) h = comment (record { inside = cs; opened = refl; closed = h })

word_holds : (c : ℕ) (cs : List ℕ) (found : Found) → (c ∈ "-") ≡ false → WordIs found (codes "doctype") (c ∷ cs) →
    Holds (codes "<!" ++ (c ∷ cs)) found
word_holds c cs (stands hidden rest) dash k = doctype (doctype_of (c ∷ cs) rest k)
word_holds c cs (stands (tag kind) rest) dash k = absurd k
word_holds c cs (stands (character a) rest) dash k = absurd k
word_holds c cs (faulty unended_tag) dash k = inl (inr ((λ e. cc), k.0, k.1, doctype_of ((c ∷ cs) ++ k.0) [] (k.2)))
word_holds c cs (faulty bad_tag) dash k = bad_declaration c cs dash k
word_holds c cs (faulty unended_comment) dash k = absurd k
word_holds c cs (faulty unknown_element) dash k = absurd k
word_holds c cs (faulty bad_reference) dash k = absurd k
word_holds c cs (faulty bad_character) dash k = absurd k

-- a choice of what is found
found_by : (cs : List ℕ) (b : Bool) (x y : Found) → (b ≡ true → Holds cs x) → (b ≡ false → Holds cs y) → Holds cs (cond b x y)
found_by cs true x y f g = f refl
found_by cs false x y f g = g refl

open_holds : (cs : List ℕ) → Holds (codes "<!-" ++ cs) (comment_open cs)
open_holds [] = inr refl
open_holds (c ∷ cs) = found_by (codes "<!-" ++ (c ∷ cs)) (c ∈ "-") _ _
    (λ e. let P : ℕ → Type 0 = λ x. Holds (codes "<!-" ++ (x ∷ cs)) (in_comment cs) in
    subst P (sym (is_it c 45 e)) (comment_holds cs (past_first (codes "-->") cs) refl))
    (λ e. bad_comment c cs e)

declaration_holds : (cs : List ℕ) → Holds (codes "<!" ++ cs) (declaration cs)
declaration_holds [] =
    inl (inr (
      (λ e. cc),
      codes "doctype>",
      (λ e. cc),
      record {
        word = codes "doctype";
        inside = codes ">";
        opened =
            refl;
        named = refl;
        closed = refl;
      },
    ))
declaration_holds (c ∷ cs) = found_by (codes "<!" ++ (c ∷ cs)) (c ∈ "-") _ _
    (λ e. let P : ℕ → Type 0 = λ x. Holds (codes "<!" ++ (x ∷ cs)) (comment_open cs) in
    subst P (sym (is_it c 45 e)) (open_holds cs))
    (λ e. word_holds c cs (doctype_word (codes "doctype") (c ∷ cs)) e (word_is (codes "doctype") (c ∷ cs) refl))

angle_holds : (cs : List ℕ) → Holds (codes "<" ++ cs) (angle cs)
angle_holds [] = inl (inl ((λ e. cc), codes "a>", (λ e. cc), (_, tag_sound (codes "a>") _ [] refl)))
angle_holds (c ∷ cs) = found_by (codes "<" ++ (c ∷ cs)) (c ∈ "!") _ _
    (λ e. let P : ℕ → Type 0 = λ x. Holds (codes "<" ++ (x ∷ cs)) (declaration cs) in
    subst P (sym (is_it c 33 e)) (declaration_holds cs))
    (λ e. found_by (codes "<" ++ (c ∷ cs)) (opens_markup c) _ _
    (λ o. tag_holds c cs (read tag_open (c ∷ cs)) o e refl)
    (λ o. plain (refl, (λ _. ((λ e. cc), ap not o)), (λ k. absurd (false≢true k)))))

reference_holds : (cs : List ℕ) (o : Option (Option ℕ × List ℕ)) → reference cs ≡ o → Holds (codes "&" ++ cs) (referred_or cs o)
reference_holds cs None h = plain (refl, (λ k. absurd (false≢true k)), (λ _. h))
reference_holds cs (Some (None, rest)) h = (cs, rest, refl, h)
reference_holds cs (Some (Some d, rest)) h = by_reference refl h

-- what the reader finds stands there
pub place_sound : (c : ℕ) (cs : List ℕ) → Holds (c ∷ cs) (standing c cs)
place_sound c cs = found_by (c ∷ cs) (c ∈ "<") _ _
    (λ e. let P : ℕ → Type 0 = λ x. Holds (x ∷ cs) (angle cs) in subst P (sym (is_it c 60 e)) (angle_holds cs))
    (λ e. found_by (c ∷ cs) (c ∈ "&") _ _
    (λ a. let P : ℕ → Type 0 = λ x. Holds (x ∷ cs) (referred_or cs (reference cs)) in
    subst P (sym (is_it c 38 a)) (reference_holds cs (reference cs) refl))
    (λ a. found_by (c ∷ cs) (is_control c) _ _
    (λ k. (c, cs, refl, k))
    (λ k. plain (ap not k, (λ l. absurd (clash (c ∈ "<") l e)), (λ l. absurd (clash (c ∈ "&") l a))))))
