-- The reader finds each piece and each fault of the grammar. So at most one stands at a place.
use Rattle.std.proofs.Common.{◌≡◌, ◌≢◌, ℕ, Bool, true, false, ◌||◌, ◌⊎◌, List, [], ◌∷◌, ◌++◌, refl, sym, ap, ◌∙◌, subst, inl, inr}
use Rattle.std.proofs.Common.{eqb, cond}
use Rattle.std.proofs.lemmas.Bool.{false≢true, cases_Bool, not-true}
use Rattle.std.specs.Prelude.{codes}
use Rattle.std.specs.Char.{is_ascii_alphabetic}
use Rattle.tl_token.specs.Characters.{◌∈◌, is_control, opens_markup, begins}
use Rattle.tl_token.specs.Elements.{Tag, element_of}
use Rattle.tl_token.specs.Grammar.{Doctype, opening, IsTag, Lexeme, hidden, tag, character, LexemeStands, comment, doctype}
use Rattle.tl_token.specs.Grammar.{markup}
use Rattle.tl_token.specs.Grammar.{by_reference, plain}
use Rattle.tl_token.specs.Grammar.{Fault, unended_tag, unended_comment, bad_tag, unknown_element, bad_reference, bad_character}
use Rattle.tl_token.specs.Grammar.{IsBadTag, FaultStands}
use Rattle.tl_token.specs.inner.States.{tag_open, TagOutcome, reads, unended, wrong, read}
use Rattle.tl_token.specs.inner.Reading.{Found, stands, faulty, closed_or, declaration, known_or_not, tag_found, angle}
use Rattle.tl_token.specs.inner.Reading.{referred_or, standing}
use Rattle.tl_token.specs.declared.token.TokenKind.{TokenKind}
use Rattle.tl_token.proofs.CharacterTests.{clash, is_it, or_cases, or_false, or_left, excludes}
use Rattle.tl_token.proofs.TagWhole.{tag_whole}
use Rattle.tl_token.proofs.TagMore.{further, Further}
use Rattle.tl_token.proofs.Doctypes.{Worded, word_whole, word_unended}
use Rattle.tl_token.proofs.Places.{Holds, place_sound, tag_second, worded_of, no_dash}

-- the first or the second of two, by a test
first_of_two : (b : Bool) (x y : Found) → b ≡ true → cond b x y ≡ x
first_of_two true x y h = refl
first_of_two false x y h = absurd (false≢true h)

second_of_two : (b : Bool) (x y : Found) → b ≡ false → cond b x y ≡ y
second_of_two true x y h = absurd (false≢true (sym h))
second_of_two false x y h = refl

-- a tag begins with `<`
tag_first : (c : ℕ) (cs : List ℕ) (t : Tag) (rest : List ℕ) → IsTag (c ∷ cs) t rest → c ≡ 60
tag_first c cs t rest h = from (t.is_end) (h.spelled)
  where
    from : (e : Bool) → c ∷ cs ≡ opening e ++ (t.name ++ h.following) → c ≡ 60
    from true k = cc
    from false k = cc

-- after the `<` of a tag, what is read decides
angle_tag : (d : ℕ) (cs : List ℕ) → (is_ascii_alphabetic d || d ∈ "/") ≡ true →
    angle (d ∷ cs) ≡ tag_found (read tag_open (d ∷ cs))
angle_tag d cs h =
    second_of_two (d ∈ "!") _ _ (excludes (λ x. is_ascii_alphabetic x || x ∈ "/") d 33 refl h)
    ∙ first_of_two (opens_markup d) _ _ (opens (or_cases (is_ascii_alphabetic d) (d ∈ "/") h))
  where
    opens : ((is_ascii_alphabetic d ≡ true) ⊎ ((is_ascii_alphabetic d ≡ false) × ((d ∈ "/") ≡ true))) → opens_markup d ≡ true
    opens (inl a) = or_left (is_ascii_alphabetic d) (d ∈ "/!?") a
    opens (inr s) = let P : ℕ → Type 0 = λ x. opens_markup x ≡ true in subst P (sym (is_it d 47 (s.1))) refl

-- where a tag begins, with more text or without
tag_standing : (c : ℕ) (cs more : List ℕ) (t : Tag) (rest : List ℕ) → IsTag ((c ∷ cs) ++ more) t rest → cs ≢ []
    → standing c cs ≡ tag_found (read tag_open cs)
tag_standing c [] more t rest h some = absurd (some refl)
tag_standing c (d ∷ cs) more t rest h some =
    let is = tag_first c ((d ∷ cs) ++ more) t rest h in
    let P : ℕ → Type 0 = λ x. IsTag (x ∷ ((d ∷ cs) ++ more)) t rest in
    ap (λ x. standing x (d ∷ cs)) is ∙ angle_tag d cs (tag_second d (cs ++ more) t rest (subst P is h))

tag_is_read : (c : ℕ) (cs : List ℕ) (t : Tag) (rest : List ℕ) → IsTag (c ∷ cs) t rest →
    standing c cs ≡ known_or_not t rest (element_of (t.name))
tag_is_read c [] t rest h =
    let P : ℕ → Type 0 = λ x. IsTag (x ∷ []) t rest in
    let e = tag_whole [] t rest (subst P (tag_first c [] t rest h) h) in
    let never : unended ≡ reads t rest = e in cc
tag_is_read c (d ∷ cs) t rest h =
    let P : ℕ → Type 0 = λ x. IsTag (x ∷ (d ∷ cs)) t rest in
    let is = tag_first c (d ∷ cs) t rest h in
    let k = subst P is h in
    ap (λ x. standing x (d ∷ cs)) is ∙ angle_tag d cs (tag_second d cs t rest k) ∙ ap tag_found (tag_whole (d ∷ cs) t rest k)

-- each piece that stands at a place is found
pub place_whole : (c : ℕ) (cs : List ℕ) (piece : Lexeme) (rest : List ℕ) → LexemeStands (c ∷ cs) piece rest →
    standing c cs ≡ stands piece rest
place_whole c cs _ rest (comment k) =
    let e = k.opened in
    let is : c ≡ 60 = cc in
    let later : cs ≡ 33 ∷ 45 ∷ 45 ∷ k.inside = cc in
    ap (λ x. standing x cs) is ∙ ap (standing 60) later ∙ ap (closed_or unended_comment) (k.closed)
place_whole c cs _ rest (doctype k) =
    let e = k.opened in
    let is : c ≡ 60 = cc in
    let later : cs ≡ 33 ∷ (k.word ++ k.inside) = cc in
    ap (λ x. standing x cs) is ∙ ap (standing 60) later
    ∙ worded (k.word ++ k.inside) (record { word = k.word; inside = k.inside; opened = refl; named = k.named; closed = k.closed })
  where
    worded : (ds : List ℕ) → Worded (codes "doctype") ds rest → declaration ds ≡ stands hidden rest
    worded [] w = let never : faulty unended_tag ≡ stands hidden rest = word_whole (codes "doctype") [] rest w in cc
    worded (d ∷ ds) w = elim (cases_Bool (d ∈ "-")) [
      | inl e ↦
          let P : ℕ → Type 0 = λ x. Worded (codes "doctype") (x ∷ ds) rest in
          absurd (no_dash ds rest (subst P (is_it d 45 e) w))
      | inr e ↦ second_of_two (d ∈ "-") _ _ e ∙ word_whole (codes "doctype") (d ∷ ds) rest w
    ]
place_whole c cs _ rest (markup element t k known kind) =
    tag_is_read c cs t rest k ∙ ap (known_or_not t rest) known ∙ ap (λ (x : TokenKind). stands (tag x) rest) (sym kind)
place_whole c cs _ rest (by_reference a h) = ap (λ x. standing x cs) (is_it c 38 a) ∙ ap (referred_or cs) h
place_whole c cs _ _ (plain k) = elim (cases_Bool (c ∈ "<")) [
  | inl l ↦ ap (λ x. standing x cs) (is_it c 60 l) ∙ text cs ((k.1 l).0) (not-true (begins opens_markup cs) ((k.1 l).1))
      ∙ ap (λ x. stands (character x) cs) (sym (is_it c 60 l))
  | inr l ↦ second_of_two (c ∈ "<") _ _ l ∙ elim (cases_Bool (c ∈ "&")) [
    | inl a ↦ first_of_two (c ∈ "&") _ _ a ∙ ap (referred_or cs) (k.2 a) ∙ ap (λ x. stands (character x) cs) (sym (is_it c 38 a))
    | inr a ↦ second_of_two (c ∈ "&") _ _ a ∙ second_of_two (is_control c) _ _ (not-true (is_control c) (k.0))
  ]
]
  where
    text : (ds : List ℕ) → ds ≢ [] → begins opens_markup ds ≡ false → angle ds ≡ stands (character 60) ds
    text [] some h = absurd (some refl)
    text (d ∷ ds) some h =
        let marks = or_false (is_ascii_alphabetic d) (d ∈ "/!?") h in
        let mark : (d ∈ "!") ≡ false = unmarked d (marks.1) in
        second_of_two (d ∈ "!") _ _ mark ∙ second_of_two (opens_markup d) _ _ h
      where
        unmarked : (d : ℕ) → (d ∈ "/!?") ≡ false → (d ∈ "!") ≡ false
        unmarked d h = (or_false (eqb d 33) _ ((or_false (eqb d 47) _ h).1)).0

-- A proper prefix of a tag does not end.
prefix_of_tag : (c : ℕ) (cs more : List ℕ) (t : Tag) → more ≢ [] → IsTag ((c ∷ cs) ++ more) t [] →
    standing c cs ≡ faulty unended_tag
prefix_of_tag c [] more t some h = ap (λ x. standing x []) (tag_first c more t [] h)
prefix_of_tag c (d ∷ cs) more t some h =
    let P : ℕ → Type 0 = λ x. IsTag (x ∷ ((d ∷ cs) ++ more)) t [] in
    let e = tag_whole ((d ∷ cs) ++ more) t [] (subst P (tag_first c ((d ∷ cs) ++ more) t [] h) h) in
    tag_standing c (d ∷ cs) more t [] h (λ e. cc) ∙ ap tag_found (from (read tag_open (d ∷ cs)) (further tag_open (d ∷ cs)) e)
  where
    none : (xs : List ℕ) → xs ++ more ≡ [] → ⊥
    none [] e = some e
    none (x ∷ xs) e = cc

    from : (o : TagOutcome) → Further tag_open (d ∷ cs) o → read tag_open ((d ∷ cs) ++ more) ≡ reads t [] → o ≡ unended
    from (reads u rest) f e = let k = f more in let same : rest ++ more ≡ [] = cc in absurd (none rest same)
    from unended f e = refl
    from wrong f e = let k = f more in let never : wrong ≡ reads t [] = sym k ∙ e in cc

-- A proper prefix of a doctype does not end.
prefix_of_doctype : (c : ℕ) (cs more : List ℕ) → more ≢ [] → Doctype ((c ∷ cs) ++ more) [] → standing c cs ≡ faulty unended_tag
prefix_of_doctype c [] more some k = let e = k.opened in let is : c ≡ 60 = cc in ap (λ x. standing x []) is
prefix_of_doctype c (d ∷ cs) more some k =
    let e = k.opened in
    let is : c ≡ 60 = cc in
    let mark : d ≡ 33 = cc in
    let P : ℕ → Type 0 = λ x. Doctype (x ∷ (d ∷ cs) ++ more) [] in
    let Q : ℕ → Type 0 = λ x. Doctype (60 ∷ ((x ∷ cs) ++ more)) [] in
    ap (λ x. standing x (d ∷ cs)) is ∙ ap (λ x. standing 60 (x ∷ cs)) mark ∙ worded cs
    (worded_of (cs ++ more) [] (subst Q mark (subst P is k)))
  where
    worded : (ds : List ℕ) → Worded (codes "doctype") (ds ++ more) [] → declaration ds ≡ faulty unended_tag
    worded [] w = refl
    worded (d ∷ ds) w = elim (cases_Bool (d ∈ "-")) [
      | inl e ↦
          let P : ℕ → Type 0 = λ x. Worded (codes "doctype") (x ∷ (ds ++ more)) [] in
          absurd (no_dash (ds ++ more) [] (subst P (is_it d 45 e) w))
      | inr e ↦ second_of_two (d ∈ "-") _ _ e ∙ word_unended (codes "doctype") (d ∷ ds) more refl some w
    ]

-- where nothing stands that a `<` may open, the reader finds a bad tag
bad_is_found : (c : ℕ) (cs : List ℕ) (found : Found) → IsBadTag (c ∷ cs) → Holds (c ∷ cs) found → found ≡ faulty bad_tag
bad_is_found c cs (stands _ rest) bad (comment k) = absurd (bad.no_comment rest k)
bad_is_found c cs (stands _ rest) bad (doctype k) = absurd (bad.no_doctype rest k)
bad_is_found c cs (stands _ rest) bad (markup e t k known kind) = absurd (bad.no_tag t rest k)
bad_is_found c cs (stands _ rest) bad (by_reference a h) =
    let o = bad.opened in let is : c ≡ 60 = cc in let P : ℕ → Type 0 = λ x. (x ∈ "&") ≡ true in absurd (false≢true (subst P is a))
bad_is_found c cs (stands _ rest) bad (plain k) =
    let o = bad.opened in
    let is : c ≡ 60 = cc in
    let later : cs ≡ bad.second ∷ bad.after = cc in
    let P : ℕ → Type 0 = λ x. (x ∈ "<") ≡ true in
    let no = (k.1 (subst P (sym is) refl)).1 in
    absurd (clash (opens_markup (bad.second)) (bad.opens) (sym (ap (begins opens_markup) later) ∙ not-true
    (begins opens_markup cs) no))
bad_is_found c cs (faulty unended_tag) bad k = absurd (bad.ended k)
bad_is_found c cs (faulty unended_comment) bad k = absurd (bad.comment_ended k)
bad_is_found c cs (faulty bad_tag) bad k = refl
bad_is_found c cs (faulty unknown_element) bad k = absurd (bad.no_tag (k.0) (k.1) (k.2))
bad_is_found c cs (faulty bad_reference) bad k = let o = bad.opened in let e = k.2 in cc
bad_is_found c cs (faulty bad_character) bad k =
    let o = bad.opened in
    let e = k.2 in
    let is : k.0 ≡ 60 = cc in
    let P : ℕ → Type 0 = λ x. is_control x ≡ true in
    absurd (false≢true (subst P is (k.3)))

-- each fault that stands at a place is found
pub fault_whole : (fault : Fault) (c : ℕ) (cs : List ℕ) → FaultStands fault (c ∷ cs) → standing c cs ≡ faulty fault
fault_whole unended_tag c cs (inl (inl k)) = prefix_of_tag c cs (k.1) (k.3.0) (k.2) (k.3.1)
fault_whole unended_tag c cs (inl (inr k)) = prefix_of_doctype c cs (k.1) (k.2) (k.3)
fault_whole unended_tag c cs (inr e) =
    let is : c ≡ 60 = cc in
    let later : cs ≡ 33 ∷ 45 ∷ [] = cc in
    ap (λ x. standing x cs) is ∙ ap (standing 60) later
fault_whole unended_comment c cs k =
    let e = k.opened in
    let is : c ≡ 60 = cc in
    let later : cs ≡ 33 ∷ 45 ∷ 45 ∷ k.inside = cc in
    ap (λ x. standing x cs) is ∙ ap (standing 60) later ∙ ap (closed_or unended_comment) (k.closed)
fault_whole bad_tag c cs k = bad_is_found c cs (standing c cs) k (place_sound c cs)
fault_whole unknown_element c cs k = tag_is_read c cs (k.0) (k.1) (k.2) ∙ ap (known_or_not (k.0) (k.1)) (k.3)
fault_whole bad_reference c cs k =
    let e = k.2 in
    let is : c ≡ 38 = cc in
    let later : cs ≡ k.0 = cc in
    ap (λ x. standing x cs) is ∙ ap (standing 38) later ∙ ap (referred_or (k.0)) (k.3)
fault_whole bad_character c cs k =
    let e = k.2 in
    let is : c ≡ k.0 = cc in
    let P : ℕ → Type 0 = λ x. is_control x ≡ true in
    let control = subst P (sym is) (k.3) in
    second_of_two (c ∈ "<") _ _ (excludes is_control c 60 refl control) ∙ second_of_two (c ∈ "&") _ _
    (excludes is_control c 38 refl control)
    ∙ first_of_two (is_control c) _ _ control

-- nothing stands at the end of the file
pub nothing_at_end : (piece : Lexeme) (rest : List ℕ) → LexemeStands [] piece rest → ⊥
nothing_at_end _ rest (comment k) = let e = k.opened in cc
nothing_at_end _ rest (doctype k) = let e = k.opened in cc
nothing_at_end _ rest (markup e t k known kind) = from (t.is_end) (k.spelled)
  where
    from : (e : Bool) → [] ≡ opening e ++ (t.name ++ k.following) → ⊥
    from true h = cc
    from false h = cc

pub no_fault_at_end : (fault : Fault) → FaultStands fault [] → ⊥
no_fault_at_end unended_tag (inl (inl k)) = k.0 refl
no_fault_at_end unended_tag (inl (inr k)) = k.0 refl
no_fault_at_end unended_tag (inr e) = cc
no_fault_at_end unended_comment k = let e = k.opened in cc
no_fault_at_end bad_tag k = let e = k.opened in cc
no_fault_at_end unknown_element k = nothing_at_end hidden [] (absurd (from ((k.0).is_end) (k.2.spelled)))
  where
    from : (e : Bool) → [] ≡ opening e ++ ((k.0).name ++ k.2.following) → ⊥
    from true h = cc
    from false h = cc
no_fault_at_end bad_reference k = let e = k.2 in cc
no_fault_at_end bad_character k = let e = k.2 in cc
