-- A tag of the grammar is what the states read.
use Rattle.std.proofs.Common.{◌≡◌, ◌≢◌, ℕ, Bool, true, false, not, ◌||◌, List, [], ◌∷◌, ◌++◌, refl, sym, ap, ◌∙◌, subst, inl, inr}
use Rattle.std.proofs.Common.{eqb, cond, append_assoc}
use Rattle.std.proofs.lemmas.Bool.{eq-eqb, false≢true, not-true, not_from_true}
use Rattle.std.proofs.lemmas.List.{append-nil}
use Rattle.std.proofs.Common.{arith}
use Rattle.std.proofs.lemmas.Bool.Decides.{nat_tests}
use Rattle.std.specs.Prelude.{codes}
use Rattle.std.specs.Char.{is_ascii_alphabetic, is_ascii_alphanumeric}
use Rattle.tl_token.specs.Characters.{◌∈◌, is_space, is_name_character, is_value_character, is_gap, begins}
use Rattle.tl_token.specs.Elements.{Attribute, Tag}
use Rattle.tl_token.specs.Grammar.{Each, Value, missing, quoted, unquoted, Attributes, end, gap, attribute, IsTagName, opening}
use Rattle.tl_token.specs.Grammar.{IsTag}
use Rattle.tl_token.specs.inner.States.{TagState, tag_open, tag_name, between, in_name, after_name, before_value, in_quotes}
use Rattle.tl_token.specs.inner.States.{in_value, empty_tag}
use Rattle.tl_token.specs.inner.States.{with_attribute, reads, read}
use Rattle.tl_token.proofs.CharacterTests.{or_left, or_cases, or_false, is_it, is_either, push_regroup}
use Rattle.tl_token.proofs.CharacterTests.{clash, excludes}
use Rattle.tl_token.specs.inner.States.{with_more}

-- tests of one character that exclude each other
pub space_no_name : (c : ℕ) → is_space c ≡ true → is_name_character c ≡ false
space_no_name c h = not_from_true (is_space c || c ∈ "/>=\"'<") (or_left (is_space c) (c ∈ "/>=\"'<") h)

pub gap_no_name : (c : ℕ) → is_gap c ≡ true → is_name_character c ≡ false
gap_no_name c h = elim (or_cases (is_space c) (c ∈ "/") h) [
  | inl s ↦ space_no_name c s
  | inr s ↦ let P : ℕ → Type 0 = λ d. is_name_character d ≡ false in subst P (sym (is_it c 47 (s.1))) refl
]

name_no_space : (c : ℕ) → is_name_character c ≡ true → is_space c ≡ false
name_no_space c h = (or_false (is_space c) (c ∈ "/>=\"'<") (not-true (is_space c || c ∈ "/>=\"'<") h)).0

name_no_equals : (c : ℕ) → is_name_character c ≡ true → (c ∈ "=") ≡ false
name_no_equals c h = excludes is_name_character c 61 refl h

pub letter_no_slash : (c : ℕ) → is_ascii_alphabetic c ≡ true → (c ∈ "/") ≡ false
letter_no_slash c h = excludes is_ascii_alphabetic c 47 refl h

gap_no_letter : (c : ℕ) → is_gap c ≡ true → is_ascii_alphanumeric c ≡ false
gap_no_letter c h = elim (or_cases (is_space c) (c ∈ "/") h) [
  | inl s ↦ grind (arith, nat_tests, s)
  | inr s ↦ let P : ℕ → Type 0 = λ d. is_ascii_alphanumeric d ≡ false in subst P (sym (is_it c 47 (s.1))) refl
]

value_no_space : (c : ℕ) → is_value_character c ≡ true → is_space c ≡ false
value_no_space c h = (or_false (is_space c) (c ∈ "\"'=<>`") (not-true (is_space c || c ∈ "\"'=<>`") h)).0

value_no_quote : (c : ℕ) → is_value_character c ≡ true → (c ∈ "\"'") ≡ false
value_no_quote c h =
    let others = (or_false (is_space c) (c ∈ "\"'=<>`") (not-true (is_space c || c ∈ "\"'=<>`") h)).1 in
    let (double, later) = or_false (eqb c 34) _ others in
    let (single, _) = or_false (eqb c 39) _ later in
    rw (double, single) refl

pub space_no_value : (c : ℕ) → is_space c ≡ true → is_value_character c ≡ false
space_no_value c h = not_from_true (is_space c || c ∈ "\"'=<>`") (or_left (is_space c) (c ∈ "\"'=<>`") h)

-- the first or the second of two states, by a test
pub took : (b : Bool) (s t : TagState) (cs : List ℕ) → b ≡ true → read (cond b s t) cs ≡ read s cs
took true s t cs h = refl
took false s t cs h = absurd (false≢true h)

pub left : (b : Bool) (s t : TagState) (cs : List ℕ) → b ≡ false → read (cond b s t) cs ≡ read t cs
left true s t cs h = absurd (false≢true (sym h))
left false s t cs h = refl

-- runs of characters through a state
pub in_name_run : (t : Tag) (m n cs : List ℕ) → Each is_name_character n →
    read (in_name t m) (n ++ cs) ≡ read (in_name t (m ++ n)) cs
in_name_run t m [] cs h = ap (λ x. read (in_name t x) cs) (sym (append-nil m))
in_name_run t m (c ∷ n) cs h =
    took (is_name_character c) _ _ (n ++ cs) (h.0) ∙ in_name_run t (m ++ c ∷ []) n cs (h.1) ∙ ap (λ x. read (in_name t x) cs)
    (push_regroup m n c)

pub after_name_run : (t : Tag) (n spaces cs : List ℕ) → Each is_space spaces →
    read (after_name t n) (spaces ++ cs) ≡ read (after_name t n) cs
after_name_run t n [] cs h = refl
after_name_run t n (c ∷ spaces) cs h = took (is_space c) _ _ (spaces ++ cs) (h.0) ∙ after_name_run t n spaces cs (h.1)

pub before_value_run : (t : Tag) (n spaces cs : List ℕ) → Each is_space spaces →
    read (before_value t n) (spaces ++ cs) ≡ read (before_value t n) cs
before_value_run t n [] cs h = refl
before_value_run t n (c ∷ spaces) cs h = took (is_space c) _ _ (spaces ++ cs) (h.0) ∙ before_value_run t n spaces cs (h.1)

pub in_quotes_run : (t : Tag) (n : List ℕ) (quote : ℕ) (m v cs : List ℕ) → Each (λ c. not (eqb c quote)) v
    → read (in_quotes t n quote m) (v ++ cs) ≡ read (in_quotes t n quote (m ++ v)) cs
in_quotes_run t n quote m [] cs h = ap (λ x. read (in_quotes t n quote x) cs) (sym (append-nil m))
in_quotes_run t n quote m (c ∷ v) cs h =
    left (eqb c quote) _ _ (v ++ cs) (not-true (eqb c quote) (h.0)) ∙ in_quotes_run t n quote (m ++ c ∷ []) v cs (h.1)
    ∙ ap (λ x. read (in_quotes t n quote x) cs) (push_regroup m v c)

pub in_value_run : (t : Tag) (n m v cs : List ℕ) → Each is_value_character v →
    read (in_value t n m) (v ++ cs) ≡ read (in_value t n (m ++ v)) cs
in_value_run t n m [] cs h = ap (λ x. read (in_value t n x) cs) (sym (append-nil m))
in_value_run t n m (c ∷ v) cs h =
    took (is_value_character c) _ _ (v ++ cs) (h.0) ∙ in_value_run t n (m ++ c ∷ []) v cs (h.1) ∙ ap
    (λ x. read (in_value t n x) cs) (push_regroup m v c)

pub tag_name_run : (e : Bool) (m n cs : List ℕ) → Each is_ascii_alphanumeric n →
    read (tag_name e m) (n ++ cs) ≡ read (tag_name e (m ++ n)) cs
tag_name_run e m [] cs h = ap (λ x. read (tag_name e x) cs) (sym (append-nil m))
tag_name_run e m (c ∷ n) cs h =
    took (is_ascii_alphanumeric c) _ _ (n ++ cs) (h.0) ∙ tag_name_run e (m ++ c ∷ []) n cs (h.1) ∙ ap
    (λ x. read (tag_name e x) cs) (push_regroup m n c)

-- the name of an attribute, up to its `=`
pub to_equals : (t : Tag) (n before cs : List ℕ) → Each is_space before →
    read (in_name t n) (before ++ (codes "=" ++ cs)) ≡ read (before_value t n) cs
to_equals t n [] cs h = refl
to_equals t n (c ∷ before) cs h =
    let following = before ++ (codes "=" ++ cs) in
    left (is_name_character c) _ _ following (space_no_name c (h.0)) ∙ took (is_space c) _ _ following
    (h.0) ∙ after_name_run t n before (codes "=" ++ cs) (h.1)

-- a `/` or a `>`, or white space, after the attributes so far
pub gap_between : (t : Tag) (c : ℕ) (cs : List ℕ) → is_gap c ≡ true → read (between t) (c ∷ cs) ≡ read (between t) cs
gap_between t c cs h = left (is_name_character c) _ _ cs (gap_no_name c h) ∙ took (is_gap c) _ _ cs h

-- White space after a name ends an attribute without a value, where what follows goes on as a tag does.
name_then : (t : Tag) (n cs rest : List ℕ) (others : List Attribute) → Attributes cs others rest
    → read (after_name t n) cs ≡ read (between (with_attribute t n [])) cs
name_then t n _ rest _ (end {c = c} {rest = cs} h) =
    let P : ℕ → Type 0 = λ d. read (after_name t n) (d ∷ cs) ≡ read (between (with_attribute t n [])) (d ∷ cs) in
    subst P (sym (is_it c 62 h)) refl
name_then t n _ rest others (gap {c = c} {cs = cs} h later) = elim (or_cases (is_space c) (c ∈ "/") h) [
  | inl s ↦ took (is_space c) _ _ cs s ∙ name_then t n cs rest others later ∙ sym (gap_between (with_attribute t n []) c cs h)
  | inr s ↦
      let P : ℕ → Type 0 = λ d. read (after_name t n) (d ∷ cs) ≡ read (between (with_attribute t n [])) (d ∷ cs) in
      subst P (sym (is_it c 47 (s.1))) refl
]
name_then t n cs rest _ (attribute {a = a} {following = following} some each e value later) = named (a.name) some each e
  where
    named : (m : List ℕ) → m ≢ [] → Each is_name_character m → cs ≡ m ++ following →
        read (after_name t n) cs ≡ read (between (with_attribute t n [])) cs
    named [] some each e = absurd (some refl)
    named (c ∷ m) some each e =
        let P : List ℕ → Type 0 = λ x. read (after_name t n) x ≡ read (between (with_attribute t n [])) x in
        subst P (sym e) (left (is_space c) _ _ (m ++ following) (name_no_space c (each.0)) ∙ left (c ∈ "=") _ _ (m ++ following)
        (name_no_equals c (each.0))
        ∙ took (is_name_character c) _ _ (m ++ following) (each.0) ∙ sym
        (took (is_name_character c) _ _ (m ++ following) (each.0)))

-- What follows a name ends an attribute without a value, where it goes on as a tag does and no value follows.
name_ends : (t : Tag) (n cs rest : List ℕ) (others : List Attribute) → begins is_name_character cs ≡ false →
    Attributes cs others rest
    → read (in_name t n) cs ≡ read (between (with_attribute t n [])) cs
name_ends t n _ rest _ b (end {c = c} {rest = cs} h) =
    let P : ℕ → Type 0 = λ d. read (in_name t n) (d ∷ cs) ≡ read (between (with_attribute t n [])) (d ∷ cs) in
    subst P (sym (is_it c 62 h)) refl
name_ends t n _ rest others b (gap {c = c} {cs = cs} h later) = elim (or_cases (is_space c) (c ∈ "/") h) [
  | inl s ↦ left (is_name_character c) _ _ cs (space_no_name c s) ∙ took (is_space c)
      _ _ cs s ∙ name_then t n cs rest others later
      ∙ sym (gap_between (with_attribute t n []) c cs h)
  | inr s ↦
      let P : ℕ → Type 0 = λ d. read (in_name t n) (d ∷ cs) ≡ read (between (with_attribute t n [])) (d ∷ cs) in
      subst P (sym (is_it c 47 (s.1))) refl
]
name_ends t n cs rest _ b (attribute {a = a} {following = following} some each e value later) = named (a.name) some each e
  where
    named : (m : List ℕ) → m ≢ [] → Each is_name_character m → cs ≡ m ++ following →
        read (in_name t n) cs ≡ read (between (with_attribute t n [])) cs
    named [] some each e = absurd (some refl)
    named (c ∷ m) some each e = absurd (clash (is_name_character c) (each.0) (sym (ap (begins is_name_character) e) ∙ b))

-- a value in quotes, and one without
quoted_read : (t : Tag) (n value rest : List ℕ) (quote : ℕ) → (quote ∈ "\"'") ≡ true → Each (λ c. not (eqb c quote)) value
    → read (before_value t n) (quote ∷ (value ++ (quote ∷ rest))) ≡ read (between (with_attribute t n value)) rest
quoted_read t n value rest quote q v =
    let opens : read (before_value t n) (quote ∷ (value ++ (quote ∷ rest))) ≡ read (in_quotes t n quote [])
    (value ++ (quote ∷ rest)) =
    elim (is_either quote 34 39 q) [
      | inl e ↦ let P : ℕ → Type 0 =
          λ d. read (before_value t n) (d ∷ (value ++ (quote ∷ rest))) ≡ read (in_quotes t n d []) (value ++ (quote ∷ rest)) in
          subst P (sym e) refl
      | inr e ↦ let P : ℕ → Type 0 =
          λ d. read (before_value t n) (d ∷ (value ++ (quote ∷ rest))) ≡ read (in_quotes t n d []) (value ++ (quote ∷ rest)) in
          subst P (sym e) refl
    ] in
    opens ∙ in_quotes_run t n quote [] value (quote ∷ rest) v ∙ took (eqb quote quote) _ _ rest (eq-eqb quote quote refl)

pub unquoted_read : (t : Tag) (n value rest : List ℕ) → value ≢ [] → Each is_value_character value
    → read (before_value t n) (value ++ rest) ≡ read (in_value t n value) rest
unquoted_read t n [] rest some each = absurd (some refl)
unquoted_read t n (c ∷ value) rest some each =
    left (is_space c) _ _ (value ++ rest) (value_no_space c (each.0)) ∙ left (c ∈ "\"'") _ _ (value ++ rest)
    (value_no_quote c (each.0))
    ∙ took (is_value_character c) _ _ (value ++ rest) (each.0) ∙ in_value_run t n (c ∷ []) value rest (each.1)

pub value_ends : (t : Tag) (n value cs : List ℕ) → begins (λ c. is_space c || c ∈ ">") cs ≡ true
    → read (in_value t n value) cs ≡ read (between (with_attribute t n value)) cs
value_ends t n value [] h = absurd (false≢true h)
value_ends t n value (c ∷ cs) h = elim (or_cases (is_space c) (c ∈ ">") h) [
  | inl s ↦ left (is_value_character c) _ _ cs (space_no_value c s) ∙ took (is_space c) _ _ cs s
      ∙ sym (gap_between (with_attribute t n value) c cs (or_left (is_space c) (c ∈ "/") s))
  | inr e ↦
      let P : ℕ → Type 0 = λ d. read (in_value t n value) (d ∷ cs) ≡ read (between (with_attribute t n value)) (d ∷ cs) in
      subst P (sym (is_it c 62 (e.1))) refl
]

-- a name that is read whole
pub named_read : (t : Tag) (n cs : List ℕ) → n ≢ [] → Each is_name_character n →
    read (between t) (n ++ cs) ≡ read (in_name t n) cs
named_read t [] cs some each = absurd (some refl)
named_read t (c ∷ n) cs some each = took (is_name_character c) _ _ (n ++ cs) (each.0) ∙ in_name_run t (c ∷ []) n cs (each.1)

-- the value after a name
valued_read : (t : Tag) (n following value later rest : List ℕ) (others : List Attribute) → Value following value later →
    Attributes later others rest
    → read (in_name t n) following ≡ read (between (with_attribute t n value)) later
valued_read t n following value later rest others (missing v l b) attributes =
    let P : List ℕ → Type 0 = λ x. read (in_name t n) following ≡ read (between (with_attribute t n x)) later in
    let Q : List ℕ → Type 0 = λ x. read (in_name t n) x ≡ read (between (with_attribute t n [])) later in
    subst P (sym v) (subst Q l (name_ends t n later rest others
    (ap (begins is_name_character) l ∙ not-true (begins is_name_character following) b) attributes))
valued_read t n following value later rest others (quoted quote q before after b a v e) attributes =
    let opened = quote ∷ (value ++ (quote ∷ later)) in
    ap (read (in_name t n)) e ∙ to_equals t n before (after ++ opened)
    b ∙ before_value_run t n after opened a ∙ quoted_read t n value later quote q v
valued_read t n following value later rest others (unquoted before after b a some v ends e) attributes =
    ap (read (in_name t n)) e ∙ to_equals t n before (after ++ (value ++ later)) b ∙ before_value_run t n after (value ++ later) a
    ∙ unquoted_read t n value later some v ∙ value_ends t n value later ends

-- the attributes of a tag are read
pub attributes_read : (t : Tag) (cs rest : List ℕ) (others : List Attribute) → Attributes cs others rest →
    read (between t) cs ≡ reads (with_more t others) rest
attributes_read t _ rest _ (end {c = c} {rest = cs} h) =
    let P : ℕ → Type 0 = λ d. read (between t) (d ∷ cs) ≡ reads (with_more t []) cs in
    subst P (sym (is_it c 62 h))
    (ap (λ (x : List Attribute). reads (record { is_end = t.is_end; name = t.name; attributes = x }) cs)
    (sym (append-nil (t.attributes))))
attributes_read t _ rest others (gap {c = c} {cs = cs} h later) = gap_between t c cs h ∙ attributes_read t cs rest others later
attributes_read t cs rest _ (attribute {a = a} {others = others} {following = following} {later =
    later} some each e value attributes) =
    ap (read (between t)) e ∙ named_read t (a.name) following some each ∙ valued_read t (a.name) following (a.value)
    later rest others value attributes
    ∙ attributes_read (with_attribute t (a.name) (a.value)) later rest others attributes
    ∙ ap (λ (x : List Attribute). reads (record { is_end = t.is_end; name = t.name; attributes = x }) rest)
    (append_assoc (t.attributes) (a ∷ []) others)

pub tag_name_ends : (e : Bool) (n cs : List ℕ) → begins (λ c. is_gap c || c ∈ ">") cs ≡ true →
    read (tag_name e n) cs ≡ read (between (empty_tag e n)) cs
tag_name_ends e n [] h = absurd (false≢true h)
tag_name_ends e n (c ∷ cs) h = elim (or_cases (is_gap c) (c ∈ ">") h) [
  | inl g ↦ left (is_ascii_alphanumeric c) _ _ cs (gap_no_letter c g) ∙ took (is_gap c) _ _ cs g ∙ sym
      (gap_between (empty_tag e n) c cs g)
  | inr g ↦
      let P : ℕ → Type 0 = λ d. read (tag_name e n) (d ∷ cs) ≡ read (between (empty_tag e n)) (d ∷ cs) in
      subst P (sym (is_it c 62 (g.1))) refl
]

-- a tag from its name on
from_name : (e : Bool) (c : ℕ) (n following rest : List ℕ) (others : List Attribute) → Each is_ascii_alphanumeric n
    → begins (λ c. is_gap c || c ∈ ">") following ≡ true → Attributes following others rest
    → read (tag_name e (c ∷ [])) (n ++ following) ≡ reads (record { is_end = e; name = c ∷ n; attributes = others }) rest
from_name e c n following rest others each separated attributes =
    tag_name_run e (c ∷ []) n following each ∙ tag_name_ends e (c ∷ n) following separated
    ∙ attributes_read (empty_tag e (c ∷ n)) following rest others attributes

head_read : (e : Bool) (n cs following rest : List ℕ) (others : List Attribute) → IsTagName n →
    begins (λ c. is_gap c || c ∈ ">") following ≡ true
    → Attributes following others rest → codes "<" ++ cs ≡ opening e ++ (n ++ following)
    → read tag_open cs ≡ reads (record { is_end = e; name = n; attributes = others }) rest
head_read e [] cs following rest others n separated attributes h = absurd n
head_read true (c ∷ m) cs following rest others n separated attributes h =
    let cut : cs ≡ 47 ∷ ((c ∷ m) ++ following) = cc in
    ap (read tag_open) cut ∙ took (is_ascii_alphabetic c) _ _ (m ++ following) (n.0) ∙ from_name true c m following rest others
    (n.1) separated attributes
head_read false (c ∷ m) cs following rest others n separated attributes h =
    let cut : cs ≡ (c ∷ m) ++ following = cc in
    ap (read tag_open) cut ∙ left (c ∈ "/") _ _ (m ++ following) (letter_no_slash c (n.0)) ∙ took (is_ascii_alphabetic c) _ _
    (m ++ following) (n.0)
    ∙ from_name false c m following rest others (n.1) separated attributes

-- each tag is read
pub tag_whole : (cs : List ℕ) (t : Tag) (rest : List ℕ) → IsTag (codes "<" ++ cs) t rest → read tag_open cs ≡ reads t rest
tag_whole cs t rest h = head_read (t.is_end) (t.name) cs (h.following) rest (t.attributes) (h.named) (h.separated)
    (h.attributes) (h.spelled)
