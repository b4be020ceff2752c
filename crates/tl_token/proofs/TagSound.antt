-- What the states read as a tag is a tag of the grammar.
use Rattle.std.proofs.Common.{◌≡◌, ◌≢◌, ℕ, Bool, true, false, not, ◌||◌, List, [], ◌∷◌, ◌++◌, refl, sym, ap, ◌∙◌, subst, inl, inr}
use Rattle.std.proofs.Common.{eqb, append_assoc}
use Rattle.std.proofs.Common.{if◌then◌else◌}
use Rattle.std.proofs.lemmas.Bool.{eqb-true}
use Rattle.std.proofs.lemmas.List.{append-nil}
use Rattle.std.specs.Prelude.{IsTrue, codes}
use Rattle.std.specs.Char.{is_ascii_alphabetic, is_ascii_alphanumeric}
use Rattle.tl_token.specs.Characters.{◌∈◌, is_space, is_name_character, is_value_character, is_gap}
use Rattle.tl_token.specs.Elements.{Attribute, Tag}
use Rattle.tl_token.specs.Grammar.{Each, Value, missing, quoted, unquoted, Attributes, end, gap, attribute, IsTagName, opening}
use Rattle.tl_token.specs.Grammar.{IsTag}
use Rattle.tl_token.specs.inner.States.{TagState, tag_open, end_tag_open, tag_name, between, in_name, after_name, before_value}
use Rattle.tl_token.specs.inner.States.{in_quotes, in_value}
use Rattle.tl_token.specs.inner.States.{ended, failed, empty_tag, with_attribute, step, reads, read}
use Rattle.tl_token.specs.inner.States.{with_more}
use Rattle.tl_token.proofs.CharacterTests.{chosen, or_left, or_right, is_it, Each-push, push≢nil, push_regroup}
use Rattle.tl_token.proofs.TagWhole.{space_no_name}

-- after the tag t, cs goes on to the whole tag, from which the rest follows
pub record Continues (t : Tag) (cs : List ℕ) (whole : Tag) (rest : List ℕ) : Type 0 where
  pub others : List Attribute
  pub whole_is : whole ≡ with_more t others
  pub spelled : Attributes cs others rest

pub record IsName (name : List ℕ) : Type 0 where
  pub some : name ≢ []
  pub each : Each is_name_character name

-- where an attribute without its value, or with a part of it, is read
abbrev valued : List ℕ → List ℕ → List ℕ → List ℕ
valued before after cs = before ++ (codes "=" ++ (after ++ cs))

-- what was read of the state and then cs is a whole tag, from which the rest follows
abbrev pub Completes : TagState → List ℕ → Tag → List ℕ → Type 0
Completes tag_open cs whole rest = IsTag (codes "<" ++ cs) whole rest
Completes end_tag_open cs whole rest = IsTag (codes "</" ++ cs) whole rest
Completes (tag_name is_end name) cs whole rest = IsTagName name → IsTag (opening is_end ++ (name ++ cs)) whole rest
Completes (between t) cs whole rest = Continues t cs whole rest
Completes (in_name t name) cs whole rest = IsName name → Continues t (name ++ cs) whole rest
Completes (after_name t name) cs whole rest =
    IsName name → (spaces : List ℕ) → spaces ≢ [] → Each is_space spaces → Continues t (name ++ (spaces ++ cs)) whole rest
Completes (before_value t name) cs whole rest =
    IsName name → (before after : List ℕ) → Each is_space before → Each is_space after →
    Continues t (name ++ valued before after cs) whole rest
Completes (in_quotes t name quote value) cs whole rest =
    IsName name → (before after : List ℕ) → Each is_space before → Each is_space after → IsTrue (quote ∈ "\"'") →
    Each (λ c. not (eqb c quote)) value
    → Continues t (name ++ valued before after (quote ∷ (value ++ cs))) whole rest
Completes (in_value t name value) cs whole rest =
    IsName name → (before after : List ℕ) → Each is_space before → Each is_space after → value ≢ [] →
    Each is_value_character value
    → Continues t (name ++ valued before after (value ++ cs)) whole rest
Completes (ended t) cs whole rest = (whole ≡ t) × (rest ≡ cs)
Completes failed cs whole rest = ⊥

-- an attribute, and what continues the tag with it
continues_with : (t whole : Tag) (name value following later rest : List ℕ) → IsName name → Value following value later
    → Continues (with_attribute t name value) later whole rest → Continues t (name ++ following) whole rest
continues_with t whole name value following later rest n v k = record {
  others = record { name = name; value = value } ∷ k.others;
  whole_is = k.whole_is
      ∙ ap (λ (x : List Attribute). record { is_end = t.is_end; name = t.name; attributes = x })
      (append_assoc (t.attributes) (record { name = name; value = value } ∷ []) (k.others));
  spelled = attribute {a = record { name = name; value = value }} (n.some) (n.each) refl v (k.spelled);
}

continues_past : (t whole : Tag) (c : ℕ) (cs rest : List ℕ) → is_gap c ≡ true → Continues t cs whole rest →
    Continues t (c ∷ cs) whole rest
continues_past t whole c cs rest g k = record { others = k.others; whole_is = k.whole_is; spelled = gap g (k.spelled) }

continues_spaces : (t whole : Tag) (spaces cs rest : List ℕ) → Each is_space spaces → Continues t cs whole rest →
    Continues t (spaces ++ cs) whole rest
continues_spaces t whole [] cs rest e k = k
continues_spaces t whole (c ∷ spaces) cs rest e k =
    continues_past t whole c (spaces ++ cs) rest (or_left (is_space c) (c ∈ "/") (e.0))
    (continues_spaces t whole spaces cs rest (e.1) k)

-- the `>` ends the tag
continues_end : (t whole : Tag) (c : ℕ) (cs rest : List ℕ) → (c ∈ ">") ≡ true → (whole ≡ t) × (rest ≡ cs) →
    Continues t (c ∷ cs) whole rest
continues_end t whole c cs rest e k =
    let P : List ℕ → Type 0 = λ r. Continues t (c ∷ cs) whole r in
    subst P (sym (k.1)) (record {
      others = [];
      whole_is = k.0 ∙ ap (λ (x : List Attribute). record { is_end = t.is_end; name = t.name; attributes = x })
          (sym (append-nil (t.attributes)));
      spelled = end e;
    })

-- a value is missing where white space, `/` or `>` is next
no_value : (c : ℕ) (cs : List ℕ) → is_name_character c ≡ false → Value (c ∷ cs) [] (c ∷ cs)
no_value c cs h = missing refl refl (ap not h)

no_value_in : (spaces cs : List ℕ) → spaces ≢ [] → Each is_space spaces → Value (spaces ++ cs) [] (spaces ++ cs)
no_value_in [] cs n e = absurd (n refl)
no_value_in (c ∷ spaces) cs n e = no_value c (spaces ++ cs) (space_no_name c (e.0))

abbrev valued_at : ℕ → Tag → List ℕ → Tag → List ℕ → Type 0
valued_at c t cs whole rest = Continues t (c ∷ cs) whole rest

module _ (c : ℕ) (cs : List ℕ) (whole : Tag) (rest : List ℕ) where
  abbrev Goes : TagState → Type 0
  Goes s = Completes s cs whole rest

  back_between : (t : Tag) → Goes (step (between t) c) → Completes (between t) (c ∷ cs) whole rest
  back_between t h = elim (chosen Goes (is_name_character c) _ _ h) [
    | inl n ↦ n.1 (record { some = λ e. cc; each = (n.0, tt) })
    | inr n ↦ elim (chosen Goes (is_gap c) _ _ (n.1)) [
      | inl g ↦ continues_past t whole c cs rest (g.0) (g.1)
      | inr g ↦ elim (chosen Goes (c ∈ ">") _ _ (g.1)) [
        | inl e ↦ continues_end t whole c cs rest (e.0) (e.1)
        | inr e ↦ absurd (e.1)
      ]
    ]
  ]

  -- the characters `/` and `>` after an attribute that has no value
  without_value : (t : Tag) (name spaces : List ℕ) → IsName name → Value (spaces ++ c ∷ cs) [] (spaces ++ c ∷ cs) →
      Each is_space spaces
      → Goes (if c ∈ "/" then between (with_attribute t name []) else if c ∈ ">" then ended
      (with_attribute t name []) else failed)
      → Continues t (name ++ (spaces ++ (c ∷ cs))) whole rest
  without_value t name spaces n v e h =
      let u = with_attribute t name [] in
      let k : Continues u (c ∷ cs) whole rest = elim (chosen Goes (c ∈ "/") _ _ h) [
        | inl s ↦ continues_past u whole c cs rest (or_right (is_space c) (c ∈ "/") (s.0)) (s.1)
        | inr s ↦ elim (chosen Goes (c ∈ ">") _ _ (s.1)) [
          | inl d ↦ continues_end u whole c cs rest (d.0) (d.1)
          | inr d ↦ absurd (d.1)
        ]
      ]
      in continues_with t whole name [] _ _ rest n v (continues_spaces u whole spaces (c ∷ cs) rest e k)

  back_in_name : (t : Tag) (name : List ℕ) → Goes (step (in_name t name) c) → Completes (in_name t name) (c ∷ cs) whole rest
  back_in_name t name h = λ n. elim (chosen Goes (is_name_character c) _ _ h) [
    | inl k ↦
        let P : List ℕ → Type 0 = λ x. Continues t x whole rest in
        subst P (push_regroup name cs c) (k.1 (record {
          some = push≢nil name c;
          each =
              Each-push is_name_character name c (n.each) (k.0);
        }))
    | inr k ↦ elim (chosen Goes (is_space c) _ _ (k.1)) [
      | inl s ↦ s.1 n (c ∷ []) (λ e. cc) (s.0, tt)
      | inr s ↦ elim (chosen Goes (c ∈ "=") _ _ (s.1)) [
        | inl e ↦
            let P : ℕ → Type 0 = λ d. Continues t (name ++ (d ∷ cs)) whole rest in
            subst P (sym (is_it c 61 (e.0))) (e.1 n [] [] tt tt)
        | inr e ↦ without_value t name [] n (no_value c cs (k.0)) tt (e.1)
      ]
    ]
  ]

  back_after_name : (t : Tag) (name : List ℕ) → Goes (step (after_name t name) c) →
      Completes (after_name t name) (c ∷ cs) whole rest
  back_after_name t name h = λ n spaces some each. elim (chosen Goes (is_space c) _ _ h) [
    | inl s ↦
        let P : List ℕ → Type 0 = λ x. Continues t (name ++ x) whole rest in
        subst P (push_regroup spaces cs c) (s.1 n (spaces ++ c ∷ []) (push≢nil spaces c) (Each-push is_space spaces c each (s.0)))
    | inr s ↦ elim (chosen Goes (c ∈ "=") _ _ (s.1)) [
      | inl e ↦
          let P : ℕ → Type 0 = λ d. Continues t (name ++ (spaces ++ (d ∷ cs))) whole rest in
          subst P (sym (is_it c 61 (e.0))) (e.1 n spaces [] each tt)
      | inr e ↦ elim (chosen Goes (is_name_character c) _ _ (e.1)) [
        | inl k ↦ continues_with t whole name [] _ _ rest n (no_value_in spaces (c ∷ cs) some each)
            (continues_spaces (with_attribute t name []) whole spaces (c ∷ cs) rest each
            (k.1 (record { some = λ e. cc; each = (k.0, tt) })))
        | inr k ↦ without_value t name spaces n (no_value_in spaces (c ∷ cs) some each) each (k.1)
      ]
    ]
  ]

  back_before_value : (t : Tag) (name : List ℕ) → Goes (step (before_value t name) c) →
      Completes (before_value t name) (c ∷ cs) whole rest
  back_before_value t name h = λ n before after b a. elim (chosen Goes (is_space c) _ _ h) [
    | inl s ↦
        let P : List ℕ → Type 0 = λ x. Continues t (name ++ (before ++ (codes "=" ++ x))) whole rest in
        subst P (push_regroup after cs c) (s.1 n before (after ++ c ∷ []) b (Each-push is_space after c a (s.0)))
    | inr s ↦ elim (chosen Goes (c ∈ "\"'") _ _ (s.1)) [
      | inl q ↦ q.1 n before after b a (q.0) tt
      | inr q ↦ elim (chosen Goes (is_value_character c) _ _ (q.1)) [
        | inl v ↦ v.1 n before after b a (λ e. cc) (v.0, tt)
        | inr v ↦ absurd (v.1)
      ]
    ]
  ]

  back_in_quotes : (t : Tag) (name : List ℕ) (quote : ℕ) (value : List ℕ) → Goes (step (in_quotes t name quote value) c)
      → Completes (in_quotes t name quote value) (c ∷ cs) whole rest
  back_in_quotes t name quote value h = λ n before after b a q v. elim (chosen Goes (eqb c quote) _ _ h) [
    | inl e ↦
        let P : ℕ → Type 0 = λ d. Continues t (name ++ valued before after (quote ∷ (value ++ (d ∷ cs)))) whole rest in
        subst P (sym (eqb-true c quote (e.0))) (continues_with t whole name value _ cs rest n
        (quoted quote q before after b a v refl) (e.1))
    | inr e ↦
        let P : List ℕ → Type 0 = λ x. Continues t (name ++ valued before after (quote ∷ x)) whole rest in
        subst P (push_regroup value cs c) (e.1 n before after b a q (Each-push (λ c. not (eqb c quote)) value c v (ap not (e.0))))
  ]

  back_in_value : (t : Tag) (name value : List ℕ) → Goes (step (in_value t name value) c) →
      Completes (in_value t name value) (c ∷ cs) whole rest
  back_in_value t name value h = λ n before after b a some v. elim (chosen Goes (is_value_character c) _ _ h) [
    | inl k ↦
        let P : List ℕ → Type 0 = λ x. Continues t (name ++ valued before after x) whole rest in
        subst P (push_regroup value cs c) (k.1 n before after b a (push≢nil value c)
        (Each-push is_value_character value c v (k.0)))
    | inr k ↦ elim (chosen Goes (is_space c) _ _ (k.1)) [
      | inl s ↦ continues_with t whole name value _ (c ∷ cs) rest n
          (unquoted before after b a some v (or_left (is_space c) (c ∈ ">") (s.0)) refl)
          (continues_past (with_attribute t name value) whole c cs rest (or_left (is_space c) (c ∈ "/") (s.0)) (s.1))
      | inr s ↦ elim (chosen Goes (c ∈ ">") _ _ (s.1)) [
        | inl e ↦ continues_with t whole name value _ (c ∷ cs) rest n
            (unquoted before after b a some v (or_right (is_space c) (c ∈ ">") (e.0)) refl)
            (continues_end (with_attribute t name value) whole c cs rest (e.0) (e.1))
        | inr e ↦ absurd (e.1)
      ]
    ]
  ]

  -- the name is whole, and the attributes follow it
  back_named : (is_end : Bool) (name : List ℕ) → IsTagName name → (is_gap c || c ∈ ">") ≡ true →
      Continues (empty_tag is_end name) (c ∷ cs) whole rest
      → IsTag (opening is_end ++ (name ++ (c ∷ cs))) whole rest
  back_named is_end name n p k =
      let P : Tag → Type 0 = λ w. IsTag (opening is_end ++ (name ++ (c ∷ cs))) w rest in
      subst P (sym (k.whole_is)) (record { following = c ∷ cs; spelled = refl; named = n; separated = p; attributes = k.spelled })

  back_tag_name : (is_end : Bool) (name : List ℕ) → Goes (step (tag_name is_end name) c) →
      Completes (tag_name is_end name) (c ∷ cs) whole rest
  back_tag_name is_end name h = λ n. elim (chosen Goes (is_ascii_alphanumeric c) _ _ h) [
    | inl k ↦
        let P : List ℕ → Type 0 = λ x. IsTag (opening is_end ++ x) whole rest in
        subst P (push_regroup name cs c) (k.1 (name_push name c n (k.0)))
    | inr k ↦ elim (chosen Goes (is_gap c) _ _ (k.1)) [
      | inl g ↦ back_named is_end name n (or_left (is_gap c) (c ∈ ">") (g.0))
          (continues_past (empty_tag is_end name) whole c cs rest (g.0) (g.1))
      | inr g ↦ elim (chosen Goes (c ∈ ">") _ _ (g.1)) [
        | inl e ↦ back_named is_end name n (or_right (is_gap c) (c ∈ ">") (e.0))
            (continues_end (empty_tag is_end name) whole c cs rest (e.0) (e.1))
        | inr e ↦ absurd (e.1)
      ]
    ]
  ]
    where
      name_push : (name : List ℕ) (c : ℕ) → IsTagName name → is_ascii_alphanumeric c ≡ true → IsTagName (name ++ c ∷ [])
      name_push [] c n k = absurd n
      name_push (d ∷ name) c n k = (n.0, Each-push is_ascii_alphanumeric name c (n.1) k)

  back_end_tag_open : Goes (step end_tag_open c) → Completes end_tag_open (c ∷ cs) whole rest
  back_end_tag_open h = elim (chosen Goes (is_ascii_alphabetic c) _ _ h) [
    | inl k ↦ k.1 (k.0, tt)
    | inr k ↦ absurd (k.1)
  ]

  back_tag_open : Goes (step tag_open c) → Completes tag_open (c ∷ cs) whole rest
  back_tag_open h = elim (chosen Goes (c ∈ "/") _ _ h) [
    | inl s ↦
        let P : ℕ → Type 0 = λ d. IsTag (codes "<" ++ (d ∷ cs)) whole rest in
        subst P (sym (is_it c 47 (s.0))) (s.1)
    | inr s ↦ elim (chosen Goes (is_ascii_alphabetic c) _ _ (s.1)) [
      | inl k ↦ k.1 (k.0, tt)
      | inr k ↦ absurd (k.1)
    ]
  ]

-- What the states read from a state on completes what was read of it.
pub completed : (s : TagState) (cs : List ℕ) (whole : Tag) (rest : List ℕ) → read s cs ≡ reads whole rest →
    Completes s cs whole rest
completed (ended t) cs whole rest h = (cc, cc)
completed failed cs whole rest h = cc
completed tag_open [] whole rest h = cc
completed tag_open (c ∷ cs) whole rest h = back_tag_open c cs whole rest (completed (step tag_open c) cs whole rest h)
completed end_tag_open [] whole rest h = cc
completed end_tag_open (c ∷ cs) whole rest h = back_end_tag_open c cs whole rest (completed (step end_tag_open c) cs whole rest h)
completed (tag_name e n) [] whole rest h = cc
completed (tag_name e n) (c ∷ cs) whole rest h = back_tag_name c cs whole rest e n
    (completed (step (tag_name e n) c) cs whole rest h)
completed (between t) [] whole rest h = cc
completed (between t) (c ∷ cs) whole rest h = back_between c cs whole rest t (completed (step (between t) c) cs whole rest h)
completed (in_name t n) [] whole rest h = cc
completed (in_name t n) (c ∷ cs) whole rest h = back_in_name c cs whole rest t n
    (completed (step (in_name t n) c) cs whole rest h)
completed (after_name t n) [] whole rest h = cc
completed (after_name t n) (c ∷ cs) whole rest h = back_after_name c cs whole rest t n
    (completed (step (after_name t n) c) cs whole rest h)
completed (before_value t n) [] whole rest h = cc
completed (before_value t n) (c ∷ cs) whole rest h = back_before_value c cs whole rest t n
    (completed (step (before_value t n) c) cs whole rest h)
completed (in_quotes t n q v) [] whole rest h = cc
completed (in_quotes t n q v) (c ∷ cs) whole rest h = back_in_quotes c cs whole rest t n q v
    (completed (step (in_quotes t n q v) c) cs whole rest h)
completed (in_value t n v) [] whole rest h = cc
completed (in_value t n v) (c ∷ cs) whole rest h = back_in_value c cs whole rest t n v
    (completed (step (in_value t n v) c) cs whole rest h)

-- a tag that the states read is a tag
pub tag_sound : (cs : List ℕ) (whole : Tag) (rest : List ℕ) → read tag_open cs ≡ reads whole rest →
    IsTag (codes "<" ++ cs) whole rest
tag_sound cs whole rest h = completed tag_open cs whole rest h
