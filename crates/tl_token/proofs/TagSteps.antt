-- How the states read what the reader's methods pass.
use Rattle.std.proofs.Common.{◌≡◌, ◌≢◌, ℕ, ◌<◌, ◌≤◌, Bool, true, false, not, ◌||◌, ◌⊎◌, List, [], ◌∷◌, ◌++◌, length, refl, sym}
use Rattle.std.proofs.Common.{ap, ◌∙◌, subst, inl}
use Rattle.std.proofs.Common.{inr, eqb, cond, append_assoc, arith, if◌then◌else◌}
use Rattle.std.proofs.lemmas.Bool.{eq-eqb, false≢true, cases_Bool}
use Rattle.std.proofs.lemmas.List.{append-nil}
use Rattle.std.proofs.lemmas.Bool.Decides.{nat_tests}
use Rattle.std.specs.Prelude.{IfOk, Result, Ok, Err, IsErrAnd}
use Rattle.std.specs.Char.{is_ascii_alphabetic, is_ascii_alphanumeric}
use Rattle.tl_token.specs.Characters.{◌∈◌, is_space, is_name_character, is_value_character, is_gap, begins, run, past}
use Rattle.tl_token.specs.Elements.{Attribute, Tag}
use Rattle.tl_token.specs.Grammar.{Each}
use Rattle.tl_token.specs.inner.States.{TagState, tag_open, end_tag_open, tag_name, between, in_name, after_name, before_value}
use Rattle.tl_token.specs.inner.States.{in_quotes, in_value}
use Rattle.tl_token.specs.inner.States.{ended, failed, empty_tag, with_attribute, with_more, named_attribute, unended, read}
use Rattle.tl_token.specs.inner.Found.{stop, Stops, ReadsValue, ReadsAttributes}
use Rattle.tl_token.specs.declared.tag.Given.{Given}
use Rattle.tl_token.specs.inner.Reading.{tag_found}
use Rattle.tl_token.specs.declared.piece.Fault.{Fault}
use Rattle.tl_token.specs.inner.Reader.{Eats}
use Rattle.tl_token.proofs.CharacterTests.{or_right, or_false}
use Rattle.tl_token.proofs.TagWhole.{took, left, after_name_run, before_value_run, in_quotes_run, tag_name_run, to_equals}
use Rattle.tl_token.proofs.TagWhole.{gap_between, unquoted_read}
use Rattle.tl_token.proofs.TagWhole.{value_ends, named_read, tag_name_ends, letter_no_slash}
use Rattle.tl_token.proofs.ReaderLemmas.{past_none}

-- a text is its longest run and what follows it
pub run_split : (test : ℕ → Bool) (cs : List ℕ) → cs ≡ run test cs ++ past test cs
run_split test [] = refl
run_split test (c ∷ cs) = by_test (test c) (run_split test cs)
  where
    by_test : (b : Bool) → cs ≡ run test cs ++ past test cs →
        c ∷ cs ≡ (cond b (c ∷ run test cs) []) ++ (cond b (past test cs) (c ∷ cs))
    by_test true h = ap (λ x. c ∷ x) h
    by_test false h = refl

pub run_each : (test : ℕ → Bool) (cs : List ℕ) → Each test (run test cs)
run_each test [] = tt
run_each test (c ∷ cs) = by_test (test c) refl (run_each test cs)
  where
    by_test : (b : Bool) → test c ≡ b → Each test (run test cs) → Each test (cond b (c ∷ run test cs) [])
    by_test true e h = (e, h)
    by_test false e h = tt

pub past_ended : (test : ℕ → Bool) (cs : List ℕ) → begins test (past test cs) ≡ false
past_ended test [] = refl
past_ended test (c ∷ cs) = by_test (test c) refl (past_ended test cs)
  where
    by_test : (b : Bool) → test c ≡ b → begins test (past test cs) ≡ false → begins test (cond b (past test cs) (c ∷ cs)) ≡ false
    by_test true e h = h
    by_test false e h = e

pub past_le : (test : ℕ → Bool) (cs : List ℕ) → length (past test cs) ≤ length cs
past_le test [] = omega arith
past_le test (c ∷ cs) = by_test (test c) (past_le test cs)
  where
    by_test : (b : Bool) → length (past test cs) ≤ length cs → length (cond b (past test cs) (c ∷ cs)) ≤ length (c ∷ cs)
    by_test true h = omega arith
    by_test false h = omega arith

pub run_some : (test : ℕ → Bool) (cs : List ℕ) → begins test cs ≡ true → run test cs ≢ []
run_some test [] h = λ e. false≢true h
run_some test (c ∷ cs) h =
    λ e. let k : run test (c ∷ cs) ≡ c ∷ run test cs = ap (λ b. cond b (c ∷ run test cs) []) h in
    let never : c ∷ run test cs ≡ [] = sym k ∙ e in cc

pub past_less : (test : ℕ → Bool) (cs : List ℕ) → begins test cs ≡ true → length (past test cs) < length cs
past_less test [] h = absurd (false≢true h)
past_less test (c ∷ cs) h =
    let k : past test (c ∷ cs) ≡ past test cs = ap (λ b. cond b (past test cs) (c ∷ cs)) h in
    let less = past_le test cs in
    let P : List ℕ → Type 0 = λ x. length x < length (c ∷ cs) in
    subst P (sym k) (omega arith)

-- a state reads a run, and what follows it
run_read : (test : ℕ → Bool) (s : TagState) (t : TagState) (cs : List ℕ) →
    ((w ds : List ℕ) → Each test w → w ≡ run test cs → read s (w ++ ds) ≡ read t ds)
    → read s cs ≡ read t (past test cs)
run_read test s t cs h = ap (read s) (run_split test cs) ∙ h (run test cs) (past test cs) (run_each test cs) refl

-- a value in quotes
pub quoted_ends : (t : Tag) (n old new : List ℕ) (quote : ℕ) → past (λ c. not (eqb c quote)) old ≡ quote ∷ new
    → read (in_quotes t n quote []) old ≡ read (between (with_attribute t n (run (λ c. not (eqb c quote)) old))) new
quoted_ends t n old new quote e =
    let v = run (λ c. not (eqb c quote)) old in
    run_read (λ c. not (eqb c quote)) (in_quotes t n quote []) (in_quotes t n quote v) old
    (λ w ds each same. in_quotes_run t n quote [] w ds each ∙ ap (λ x. read (in_quotes t n quote x) ds) same)
    ∙ ap (read (in_quotes t n quote v)) e ∙ took (eqb quote quote) _ _ new (eq-eqb quote quote refl)

pub nothing_left : (quote : ℕ) (cs : List ℕ) → begins (λ c. eqb c quote) cs ≡ false →
    begins (λ c. not (eqb c quote)) cs ≡ false → cs ≡ []
nothing_left quote [] h k = refl
nothing_left quote (c ∷ cs) h k = absurd (false≢true (sym k ∙ ap not h))

pub quoted_stops : (t : Tag) (n old : List ℕ) (quote : ℕ) → begins (λ c. eqb c quote) (past (λ c. not (eqb c quote)) old) ≡ false
    → read (in_quotes t n quote []) old ≡ unended
quoted_stops t n old quote h =
    let v = run (λ c. not (eqb c quote)) old in
    run_read (λ c. not (eqb c quote)) (in_quotes t n quote []) (in_quotes t n quote v) old
    (λ w ds each same. in_quotes_run t n quote [] w ds each ∙ ap (λ x. read (in_quotes t n quote x) ds) same)
    ∙ ap (read (in_quotes t n quote v)) (nothing_left quote (past (λ c. not (eqb c quote)) old) h
    (past_ended (λ c. not (eqb c quote)) old))

-- a value without quotes
value_run : (t : Tag) (n old : List ℕ) → begins is_value_character old ≡ true
    → read (before_value t n) old ≡ read (in_value t n (run is_value_character old)) (past is_value_character old)
value_run t n old h = run_read is_value_character (before_value t n) (in_value t n (run is_value_character old)) old
    (λ w ds each same. let P : List ℕ → Type 0 = λ x. x ≢ [] in
    unquoted_read t n w ds (subst P (sym same) (run_some is_value_character old h)) each ∙ ap (λ x. read (in_value t n x) ds)
    same)

pub unquoted_ends : (t : Tag) (n old : List ℕ) → begins is_value_character old ≡ true
    → begins (λ c. is_space c || c ∈ ">") (past is_value_character old) ≡ true
    → read (before_value t n) old ≡ read (between (with_attribute t n (run is_value_character old))) (past is_value_character old)
unquoted_ends t n old h k = value_run t n old h ∙ value_ends t n (run is_value_character old) (past is_value_character old) k

no_value_end : (t : Tag) (n v cs : List ℕ) → begins is_value_character cs ≡ false → begins (λ c. is_space c || c ∈ ">") cs ≡ false
    → read (in_value t n v) cs ≡ stop cs
no_value_end t n v [] h k = refl
no_value_end t n v (c ∷ cs) h k =
    let (space, close) = or_false (is_space c) (c ∈ ">") k in
    left (is_value_character c) _ _ cs h ∙ left (is_space c) _ _ cs space ∙ left (c ∈ ">") _ _ cs close

no_value_start : (t : Tag) (n cs : List ℕ) → begins is_space cs ≡ false → begins (λ c. c ∈ "\"'") cs ≡ false →
    begins is_value_character cs ≡ false
    → read (before_value t n) cs ≡ stop cs
no_value_start t n [] s q v = refl
no_value_start t n (c ∷ cs) s q v = left (is_space c) _ _ cs s ∙ left (c ∈ "\"'") _ _ cs q ∙ left (is_value_character c) _ _ cs v

pub unquoted_stops : (t : Tag) (n old : List ℕ) → begins is_space old ≡ false → begins (λ c. c ∈ "\"'") old ≡ false
    → (begins is_value_character old ≡ false) ⊎ (begins (λ c. is_space c || c ∈ ">") (past is_value_character old) ≡ false)
    → read (before_value t n) old ≡ stop (past is_value_character old)
unquoted_stops t n old s q (inl v) = no_value_start t n old s q v ∙ ap stop (sym (past_none is_value_character old v))
unquoted_stops t n old s q (inr k) = elim (cases_Bool (begins is_value_character old)) [
  | inl v ↦ value_run t n old v ∙ no_value_end t n (run is_value_character old) (past is_value_character old)
      (past_ended is_value_character old) k
  | inr v ↦ no_value_start t n old s q v ∙ ap stop (sym (past_none is_value_character old v))
]

-- after an attribute without a value, what is neither a character of a name nor white space
without_value : (t : Tag) (c : ℕ) (cs : List ℕ) → is_name_character c ≡ false → is_space c ≡ false
    → read (if c ∈ "/" then between t else if c ∈ ">" then ended t else failed) cs ≡ read (between t) (c ∷ cs)
without_value t c cs k s = elim (cases_Bool (c ∈ "/")) [
  | inl d ↦ took (c ∈ "/") _ _ cs d ∙ sym (gap_between t c cs (or_right (is_space c) (c ∈ "/") d))
  | inr d ↦
      let none : is_gap c ≡ false = ap (λ b. b || (c ∈ "/")) s ∙ d in
      let next : TagState = if c ∈ ">" then ended t else failed in
      left (c ∈ "/") (between t) next cs d
      ∙ sym (left (is_name_character c) (in_name t (c ∷ [])) (if is_gap c then between t else next) cs k ∙ left (is_gap c)
      (between t) next cs none)
]

-- a name that no `=` follows
no_equals : (t : Tag) (n cs : List ℕ) → begins is_space cs ≡ false → begins (λ c. c ∈ "=") cs ≡ false
    → read (after_name t n) cs ≡ read (between (with_attribute t n [])) cs
no_equals t n [] s q = refl
no_equals t n (c ∷ cs) s q = left (is_space c) _ _ cs s ∙ left (c ∈ "=") _ _ cs q ∙ elim (cases_Bool (is_name_character c)) [
  | inl k ↦ took (is_name_character c) _ _ cs k ∙ sym (took (is_name_character c) _ _ cs k)
  | inr k ↦ left (is_name_character c) _ _ cs k ∙ without_value (with_attribute t n []) c cs k s
]

-- directly after the name of an attribute without a value, what is neither a character of a name nor white space
no_equals_at_once : (t : Tag) (n cs : List ℕ) → begins is_name_character cs ≡ false → begins is_space cs ≡ false →
    begins (λ c. c ∈ "=") cs ≡ false
    → read (in_name t n) cs ≡ read (between (with_attribute t n [])) cs
no_equals_at_once t n [] m s q = refl
no_equals_at_once t n (c ∷ cs) m s q =
    left (is_name_character c) _ _ cs m ∙ left (is_space c) _ _ cs s ∙ left (c ∈ "=") _ _ cs q ∙ without_value
    (with_attribute t n []) c cs m s

pub name_alone : (t : Tag) (n old : List ℕ) → begins is_name_character old ≡ false →
    begins (λ c. c ∈ "=") (past is_space old) ≡ false
    → read (in_name t n) old ≡ read (between (with_attribute t n [])) (past is_space old)
name_alone t n [] m q = refl
name_alone t n (c ∷ cs) m q = by_test (is_space c) refl q
  where
    by_test : (b : Bool) → is_space c ≡ b → begins (λ c. c ∈ "=") (cond b (past is_space cs) (c ∷ cs)) ≡ false
        → read (in_name t n) (c ∷ cs) ≡ read (between (with_attribute t n [])) (cond b (past is_space cs) (c ∷ cs))
    by_test true s q =
        left (is_name_character c) _ _ cs m ∙ took (is_space c) _ _ cs s
        ∙ run_read is_space (after_name t n) (after_name t n) cs (λ w ds each same. after_name_run t n w ds each)
        ∙ no_equals t n (past is_space cs) (past_ended is_space cs) q
    by_test false s q = no_equals_at_once t n (c ∷ cs) m s q

-- a name and its `=`, up to the value
pub name_equals : (t : Tag) (n old after : List ℕ) → past is_space old ≡ 61 ∷ after →
    read (in_name t n) old ≡ read (before_value t n) (past is_space after)
name_equals t n old after e =
    ap (read (in_name t n)) (run_split is_space old ∙ ap (λ x. run is_space old ++ x) e) ∙ to_equals t n (run is_space old)
    after (run_each is_space old)
    ∙ run_read is_space (before_value t n) (before_value t n) after (λ w ds each same. before_value_run t n w ds each)

-- white space and `/` between attributes
gaps_run : (t : Tag) (w cs : List ℕ) → Each is_gap w → read (between t) (w ++ cs) ≡ read (between t) cs
gaps_run t [] cs h = refl
gaps_run t (c ∷ w) cs h = gap_between t c (w ++ cs) (h.0) ∙ gaps_run t w cs (h.1)

pub gaps_read : (t : Tag) (old : List ℕ) → read (between t) old ≡ read (between t) (past is_gap old)
gaps_read t old = run_read is_gap (between t) (between t) old (λ w ds each same. gaps_run t w ds each)

-- the name of an attribute
pub name_read : (t : Tag) (old : List ℕ) → begins is_name_character old ≡ true
    → read (between t) old ≡ read (in_name t (run is_name_character old)) (past is_name_character old)
name_read t old h = run_read is_name_character (between t) (in_name t (run is_name_character old)) old
    (λ w ds each same. let P : List ℕ → Type 0 = λ x. x ≢ [] in
    named_read t w ds (subst P (sym same) (run_some is_name_character old h)) each ∙ ap (λ x. read (in_name t x) ds) same)

-- where no attribute and no `>` is next, the tag is broken
pub attributes_stop : (t : Tag) (cs : List ℕ) → begins is_name_character cs ≡ false → begins is_gap cs ≡ false →
    begins (λ c. c ∈ ">") cs ≡ false
    → read (between t) cs ≡ stop cs
attributes_stop t [] m g e = refl
attributes_stop t (c ∷ cs) m g e = left (is_name_character c) _ _ cs m ∙ left (is_gap c) _ _ cs g ∙ left (c ∈ ">") _ _ cs e

-- The name of a tag.
abbrev pub opened : Bool → TagState
opened true = end_tag_open
opened false = tag_open

letter_alphanumeric : (c : ℕ) → is_ascii_alphabetic c ≡ true → is_ascii_alphanumeric c ≡ true
letter_alphanumeric c h = grind (arith, nat_tests, h)

pub tag_opened : (old new : List ℕ) (b : Bool) → Eats 47 b old new → read tag_open old ≡ read (opened b) new
tag_opened old new true h = ap (read tag_open) h
tag_opened old new false h = ap (read tag_open) (sym (h.0))

pub no_name : (old new : List ℕ) (b : Bool) → Eats 47 b old new → begins is_ascii_alphabetic new ≡ false →
    read (opened b) new ≡ stop new
no_name old [] true h k = refl
no_name old (c ∷ cs) true h k = left (is_ascii_alphabetic c) _ _ cs k
no_name old [] false h k = refl
no_name old (c ∷ cs) false h k =
    let slash : (c ∈ "/") ≡ false = ap (begins (λ d. eqb d 47)) (h.0) ∙ h.1 in
    left (c ∈ "/") _ _ cs slash ∙ left (is_ascii_alphabetic c) _ _ cs k

pub tag_named : (b : Bool) (cs : List ℕ) → begins is_ascii_alphabetic cs ≡ true
    → read (opened b) cs ≡ read (tag_name b (run is_ascii_alphanumeric cs)) (past is_ascii_alphanumeric cs)
tag_named b [] h = absurd (false≢true h)
tag_named b (c ∷ cs) h =
    let letter = letter_alphanumeric c h in
    start b ∙ run_read is_ascii_alphanumeric (tag_name b (c ∷ [])) (tag_name b (c ∷ run is_ascii_alphanumeric cs)) cs
    (λ w ds each same. tag_name_run b (c ∷ []) w ds each ∙ ap (λ x. read (tag_name b (c ∷ x)) ds) same)
    ∙ sym (ap (λ t. read (tag_name b (cond t (c ∷ run is_ascii_alphanumeric cs) []))
    (cond t (past is_ascii_alphanumeric cs) (c ∷ cs))) letter)
  where
    start : (b : Bool) → read (opened b) (c ∷ cs) ≡ read (tag_name b (c ∷ [])) cs
    start true = took (is_ascii_alphabetic c) _ _ cs h
    start false = left (c ∈ "/") _ _ cs (letter_no_slash c h) ∙ took (is_ascii_alphabetic c) _ _ cs h

pub no_name_end : (b : Bool) (n cs : List ℕ) → begins is_ascii_alphanumeric cs ≡ false →
    begins (λ c. is_gap c || c ∈ ">") cs ≡ false
    → read (tag_name b n) cs ≡ stop cs
no_name_end b n [] h k = refl
no_name_end b n (c ∷ cs) h k =
    let (g, close) = or_false (is_gap c) (c ∈ ">") k in
    left (is_ascii_alphanumeric c) _ _ cs h ∙ left (is_gap c) _ _ cs g ∙ left (c ∈ ">") _ _ cs close

-- a value is read from the states before, where these read the text to the others
pub reads_from : {X : Type 0} (s r : Tag → List ℕ → TagState) (text : X → List ℕ) (result : Result X Fault) (old mid new : List ℕ)
    → ReadsValue s text result mid new → ((t : Tag) (n : List ℕ) → read (r t n) old ≡ read (s t n) mid) →
    ReadsValue r text result old new
reads_from s r text (Ok v) old mid new h k = λ t n. k t n ∙ h t n
reads_from s r text (Err fault) old mid new h k = λ t n. ap tag_found (k t n) ∙ h t n

pub no_longer_than : {X E : Type 0} (result : Result X E) (a b c : ℕ) → IfOk result (λ _. a ≤ b) → b ≤ c →
    IfOk result (λ _. a ≤ c)
no_longer_than (Ok v) a b c h k = let l : a ≤ b = h in omega arith
no_longer_than (Err e) a b c h k = h

-- The attributes so far are read from the first place up to this one.
abbrev pub ReadSoFar : List ℕ → List Attribute → List ℕ → Type 0
ReadSoFar old all cs = (t : Tag) → read (between t) old ≡ read (between (with_more t all)) cs

pub so_far_none : (old : List ℕ) → ReadSoFar old [] (past is_gap old)
so_far_none old t =
    gaps_read t old ∙ ap (λ (x : List Attribute). read (between (record { is_end = t.is_end; name = t.name; attributes = x }))
    (past is_gap old))
    (sym (append-nil (t.attributes)))

-- one more attribute, and the white space and `/` after it
pub so_far_more : (old cs later value : List ℕ) (all : List Attribute) → ReadSoFar old all cs → begins is_name_character cs ≡ true
    → ((t : Tag) (n : List ℕ) → read (in_name t n) (past is_name_character cs) ≡ read (between (with_attribute t n value)) later)
    → ReadSoFar old (all ++ named_attribute (run is_name_character cs) value ∷ []) (past is_gap later)
so_far_more old cs later value all h named v t =
    let name = run is_name_character cs in
    h t ∙ name_read (with_more t all) cs named ∙ v (with_more t all) name
    ∙ ap (λ (x : List Attribute). read (between (record { is_end = t.is_end; name = t.name; attributes = x })) later)
    (append_assoc (t.attributes) all (named_attribute name value ∷ []))
    ∙ gaps_read (with_more t (all ++ named_attribute name value ∷ [])) later

-- a fault that is handed on
pub failed_with : {X : Type 0} (P : Result X Fault → Type 0) (result : Result X Fault) (fault : Fault) →
    IsErrAnd result (λ e. e ≡ fault)
    → P (Err fault) → P result
failed_with P (Ok x) fault h k = absurd h
failed_with P (Err e) fault h k = let Q : Fault → Type 0 = λ f. P (Err f) in subst Q (sym h) k

pub attributes_failed : (result : Result Given Fault) (fault : Fault) (old new : List ℕ) → IsErrAnd result (λ e. e ≡ fault)
    → ((t : Tag) → Stops (between t) old fault) → ReadsAttributes result old new
attributes_failed result fault old new h k = failed_with (λ r. ReadsAttributes r old new) result fault h k

-- a tag up to the end of its name, and then up to its attributes
pub named_tag : (old new : List ℕ) (b : Bool) → Eats 47 b old new → begins is_ascii_alphabetic new ≡ true
    → read tag_open old ≡ read (tag_name b (run is_ascii_alphanumeric new)) (past is_ascii_alphanumeric new)
named_tag old new b h k = tag_opened old new b h ∙ tag_named b new k

pub tag_attributes : (old new : List ℕ) (b : Bool) → Eats 47 b old new → begins is_ascii_alphabetic new ≡ true
    → begins (λ c. is_gap c || c ∈ ">") (past is_ascii_alphanumeric new) ≡ true
    → read tag_open old ≡ read (between (empty_tag b (run is_ascii_alphanumeric new))) (past is_ascii_alphanumeric new)
tag_attributes old new b h k l = named_tag old new b h k ∙ tag_name_ends b (run is_ascii_alphanumeric new)
    (past is_ascii_alphanumeric new) l
