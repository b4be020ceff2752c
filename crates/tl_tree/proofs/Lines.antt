-- The paragraph that is open, as its text comes.
use Rattle.std.proofs.Common.{◌≡◌, ◌<◌, ◌≤◌, ℕ, ◌+◌, Bool, true, false, not, ◌&&◌, ◌||◌, List, [], ◌∷◌, ◌++◌, length, map, sum_by}
use Rattle.std.proofs.Common.{refl, sym, ap, ◌∙◌, subst}
use Rattle.std.proofs.Common.{cond, arith, append_assoc, Result, Ok, Err, OnOk}
use Rattle.std.specs.Prelude.{OnErr, is_ok, Option, Some, None, MatchOption, SomeIff, string_bytes}
use Rattle.tl_base.specs.declared.limits.TheConstants.{MAX_FILE_BYTES}
use Rattle.tl_text.proofs.ClusterLemmas.{both-left, both-right}
use Rattle.tl_text.proofs.WordParagraphs.{begun_more}
use Rattle.tl_tree.specs.declared.flow.Line.{Line}
use Rattle.tl_tree.specs.inner.Lines.{open_word, ReadsMarks}
use Rattle.std.specs.Str.{chars, IsUtf8}
use Rattle.std.specs.Char.{encode_utf8, is_ascii_whitespace}
use Rattle.std.proofs.lemmas.Str.{chars-nil}
use Rattle.tl_base.proofs.Texts.{chars-push}
use Rattle.std.specs.List.{AllByRecursion, list_all, list_any}
use Rattle.std.proofs.lemmas.Bool.{false≢true, ltb-true, and_from, not-true}
use Rattle.std.proofs.lemmas.Bool.Decides.{nat_tests}
use Rattle.std.proofs.lemmas.List.{append-nil, map-id}
use Rattle.std.proofs.lemmas.List.Elements.{All-from_recursion}
use Rattle.std.proofs.lemmas.List.Sums.{sum_by-cons, sum_by-append}
use Rattle.tl_base.specs.Text.{byte_count}
use Rattle.tl_text.specs.Words.{has_character}
use Rattle.tl_text.specs.Paragraph.{IsParagraph, IsSolid, IsSpeltAtom, atom_size, lined_pieces, has_leading_glue}
use Rattle.tl_text.specs.declared.paragraph.Atom.{Atom}
use Rattle.tl_text.specs.declared.paragraph.Atom.TheVariants.{Word, Glue, Break}
use Rattle.tl_text.proofs.WordLemmas.{words_from, words_from-start, words_from-letter, words_from-white, words_from-end}
use Rattle.tl_text.proofs.WordLemmas.{has_character-chars}
use Rattle.tl_tree.specs.Grammar.{Marks, character, line_break}
use Rattle.tl_tree.specs.Paragraphs.{first_text, after_breaks, atoms_of}
use Rattle.tl_tree.specs.inner.Atoms.{is_whole}

-- the atoms once the paragraph goes on with those marks
abbrev pub atoms_from : List Atom → List ℕ → Marks → List Atom
atoms_from atoms word ms = atoms ++ (map Word (words_from word (first_text ms)) ++ after_breaks ms)

-- the word that is open, as an atom
abbrev pub open_atoms : List ℕ → List Atom
open_atoms word = map Word (words_from word [])

-- a letter joins the word
pub read_letter : (atoms : List Atom) (word : List ℕ) (c : ℕ) (ms : Marks) → is_ascii_whitespace c ≡ false
    → atoms_from atoms (word ++ c ∷ []) ms ≡ atoms_from atoms word (character c ∷ ms)
read_letter atoms word c ms letter = ap (λ ws. atoms ++ (map Word ws ++ after_breaks ms))
    (sym (words_from-letter word (first_text ms) c letter))

map-if : (b : Bool) (word : List ℕ) (words : List (List ℕ)) →
    map Word (cond b (word ∷ words) words) ≡ map Word (cond b (word ∷ []) []) ++ map Word words
map-if true word words = refl
map-if false word words = refl

-- white space ends the word
pub read_white : (atoms : List Atom) (word : List ℕ) (c : ℕ) (ms : Marks) → is_ascii_whitespace c ≡ true
    → atoms_from (atoms ++ open_atoms word) [] ms ≡ atoms_from atoms word (character c ∷ ms)
read_white atoms word c ms white =
    let rest = words_from [] (first_text ms) in
    let e : map Word (words_from word (c ∷ first_text ms)) ≡ open_atoms word ++ map Word rest =
    ap (λ ws. map Word ws) (words_from-white word (first_text ms) c white) ∙ map-if (has_character word) word rest
    ∙ ap (λ ws. map Word ws ++ map Word rest) (sym (words_from-end word)) in
    append_assoc atoms (open_atoms word) _
    ∙ ap (λ x. atoms ++ x) (sym (append_assoc (open_atoms word) (map Word rest) (after_breaks ms)) ∙ ap
    (λ x. x ++ after_breaks ms) (sym e))

-- a break ends the word and stands after it
pub read_line_break : (atoms : List Atom) (word : List ℕ) (ms : Marks)
    → atoms_from ((atoms ++ open_atoms word) ++ Break ∷ []) [] ms ≡ atoms_from atoms word (line_break ∷ ms)
read_line_break atoms word ms =
    append_assoc (atoms ++ open_atoms word) (Break ∷ []) _ ∙ append_assoc atoms (open_atoms word) _
    ∙ ap (λ ws. atoms ++ (open_atoms word ++ (Break ∷ (map Word ws ++ after_breaks ms)))) (words_from-start (first_text ms))

-- nothing more comes
pub read_end : (atoms : List Atom) (word : List ℕ) → atoms_from atoms word [] ≡ atoms ++ open_atoms word
read_end atoms word = ap (λ x. atoms ++ x) (append-nil (open_atoms word))

-- nothing has come
pub read_none : (ms : Marks) → atoms_from [] [] ms ≡ atoms_of ms
read_none ms = ap (λ ws. map Word ws ++ after_breaks ms) (words_from-start (first_text ms))

pub whole_word : (word : List ℕ) → list_any is_ascii_whitespace word ≡ false → list_all is_whole (open_atoms word) ≡ true
whole_word word solid = subst (λ (ws : List (List ℕ)). list_all is_whole (map Word ws) ≡ true) (sym (words_from-end word))
    (by_test (has_character word) refl)
  where
    by_test : (b : Bool) → has_character word ≡ b → list_all is_whole (map Word (cond b (word ∷ []) [])) ≡ true
    by_test false h = refl
    by_test true h = and_from _ true (and_from _ _ h (ap not solid)) refl

pub whole_append : (xs ys : List Atom) → list_all is_whole xs ≡ true → list_all is_whole ys ≡ true →
    list_all is_whole (xs ++ ys) ≡ true
whole_append [] ys h k = k
whole_append (x ∷ xs) ys h k = and_from (is_whole x) _ (both-left (is_whole x) _ h)
    (whole_append xs ys (both-right (is_whole x) _ h) k)

-- no character passes the test after one more that does not
pub none_push : (test : ℕ → Bool) (word : List ℕ) (c : ℕ) → list_any test word ≡ false → test c ≡ false →
    list_any test (word ++ c ∷ []) ≡ false
none_push test [] c h k = rw k refl
none_push test (d ∷ word) c h k = by_first (λ g. none_push test word c g k) (test d) refl h
  where
    by_first : (list_any test word ≡ false → list_any test (word ++ c ∷ []) ≡ false)
        → (b : Bool) → test d ≡ b → (b || list_any test word) ≡ false → (test d || list_any test (word ++ c ∷ [])) ≡ false
    by_first go false e g = rw e (go g)
    by_first go true e g = absurd (false≢true (sym g))

-- whole atoms within the limit are a paragraph
solid_of : (text : List ℕ) → (has_character text && not (list_any is_ascii_whitespace text)) ≡ true → IsSolid text
solid_of text h = (
  ltb-true 0 (length text) (both-left (has_character text) _ h),
  not-true (list_any is_ascii_whitespace text) (both-right (has_character text) _ h),
)

spelt_whole : (atoms : List Atom) → list_all is_whole atoms ≡ true → AllByRecursion IsSpeltAtom atoms
spelt_whole [] h = tt
spelt_whole (Word text ∷ atoms) h = (
  solid_of text (both-left (is_whole (Word text)) _ h),
  spelt_whole atoms (both-right (is_whole (Word text)) _ h),
)
spelt_whole (Glue text ∷ atoms) h = absurd (false≢true h)
spelt_whole (Break ∷ atoms) h = (tt, spelt_whole atoms h)

begun_whole : (atoms : List Atom) → list_all is_whole atoms ≡ true → has_leading_glue atoms ≡ false
begun_whole [] h = refl
begun_whole (Word text ∷ atoms) h = begun_more text (lined_pieces atoms)
    (begun_whole atoms (both-right (is_whole (Word text)) _ h))
begun_whole (Glue text ∷ atoms) h = absurd (false≢true h)
begun_whole (Break ∷ atoms) h = begun_whole atoms h

pub whole_paragraph : (atoms : List Atom) → 0 < length atoms → list_all is_whole atoms ≡ true →
    sum_by atom_size atoms ≤ MAX_FILE_BYTES → IsParagraph atoms
whole_paragraph atoms some whole small = record {
  has_atom = some;
  begun = begun_whole atoms whole;
  spelt = All-from_recursion IsSpeltAtom atoms (spelt_whole atoms whole);
  size = small;
}

-- the sizes of the atoms and of the word that is open
pub open_size : (word : List ℕ) → sum_by atom_size (open_atoms word) ≤ byte_count word
open_size word = subst (λ (ws : List (List ℕ)). sum_by atom_size (map Word ws) ≤ byte_count word) (sym (words_from-end word))
    (by_test (has_character word))
  where
    by_test : (b : Bool) → sum_by atom_size (map Word (cond b (word ∷ []) [])) ≤ byte_count word
    by_test true = omega (arith, sum_by-cons atom_size (Word word) [])
    by_test false = omega arith

pub closed_size : (atoms : List Atom) (word : List ℕ) → sum_by atom_size
    (atoms ++ open_atoms word) ≤ sum_by atom_size atoms + byte_count word
closed_size atoms word = omega (arith, sum_by-append atom_size atoms (open_atoms word), open_size word)

-- what a push leaves
pub whole_push : {E : Type 0} (r : Result (Unit {0}) E) (old new : List Atom) (x : Atom) → OnOk r (new ≡ old ++ x ∷ []) →
    OnErr r (new ≡ old)
    → is_whole x ≡ true → list_all is_whole old ≡ true → list_all is_whole new ≡ true
whole_push (Ok done) old new x pushed left is h = rw pushed (whole_append old (x ∷ []) h (and_from (is_whole x) true is refl))
whole_push (Err error) old new x pushed left is h = rw left h

-- a text with bytes, none of them white space, is whole
pub whole_text : (bytes : List ℕ) → IsUtf8 bytes → 0 < length bytes → list_any is_ascii_whitespace (chars bytes) ≡ false →
    is_whole (Word (chars bytes)) ≡ true
whole_text bytes utf8 some solid =
    let shown = has_character-chars bytes utf8 in
    let has : has_character (chars bytes) ≡ true = grind (arith, nat_tests) in
    and_from (has_character (chars bytes)) _ has (ap not solid)

pub open_text : (bytes : List ℕ) → IsUtf8 bytes → 0 < length bytes → open_atoms (chars bytes) ≡ Word (chars bytes) ∷ []
open_text bytes utf8 some =
    let shown = has_character-chars bytes utf8 in
    let has : has_character (chars bytes) ≡ true = grind (arith, nat_tests) in
    ap (λ ws. map Word ws) (words_from-end (chars bytes)) ∙ ap (λ b. map Word (cond b (chars bytes ∷ []) [])) has

pub no_text : (bytes : List ℕ) → length bytes ≡ 0 → bytes ≡ []
no_text [] h = refl
no_text (b ∷ bytes) h = absurd (omega arith)

pub open_none : (bytes : List ℕ) → length bytes ≡ 0 → open_atoms (chars bytes) ≡ []
open_none bytes h = rw (no_text bytes h, chars-nil) refl

-- the word after a push of a character
pub solid_after : (b : Bool) (old new : List ℕ) (c : ℕ) → IsUtf8 old → IsUtf8 new → new ≡ cond b (old ++ encode_utf8 c) old
    → is_ascii_whitespace c ≡ false → list_any is_ascii_whitespace (chars old) ≡ false →
    list_any is_ascii_whitespace (chars new) ≡ false
solid_after true old new c utf8 valid is letter h = rw (chars-push old new c utf8 valid is)
    (none_push is_ascii_whitespace (chars old) c h letter)
solid_after false old new c utf8 valid is letter h = rw is h

pub marks_push : (cs : List ℕ) (c : ℕ) (ms : Marks) → map character (cs ++ c ∷ []) ++ ms ≡ map character cs ++ (character c ∷ ms)
marks_push [] c ms = refl
marks_push (d ∷ cs) c ms = ap (λ x. character d ∷ x) (marks_push cs c ms)

pub marks_all : (cs all : List ℕ) (ms : Marks) → map (λ c. c) cs ≡ all → map character cs ++ ms ≡ map character all ++ ms
marks_all cs all ms h = ap (λ x. map character x ++ ms) (sym (map-id cs) ∙ h)

-- what reading a character leaves
pub reads_letter : {E : Type 0} (r : Result (Unit {0}) E) (old new : Line) (c : ℕ) → new.atoms ≡ old.atoms
    → IsUtf8 (string_bytes old.word) → IsUtf8 (string_bytes new.word)
    → string_bytes new.word ≡ cond (is_ok r) (string_bytes old.word ++ encode_utf8 c) (string_bytes old.word)
    → is_ascii_whitespace c ≡ false → OnOk r (ReadsMarks old new (character c ∷ []))
reads_letter (Ok done) old new c same utf8 valid is letter = record {
  same = λ later. ap (λ a. atoms_from a (open_word new) later) same
      ∙ ap (λ w. atoms_from old.atoms w later) (chars-push (string_bytes old.word) (string_bytes new.word) c utf8 valid is)
      ∙ read_letter old.atoms (open_word old) c later letter;
}
reads_letter (Err error) old new c same utf8 valid is letter = tt

pub reads_white : {E : Type 0} (r : Result (Unit {0}) E) (old new : Line) (c : ℕ) →
    OnOk r (new.atoms ≡ old.atoms ++ open_atoms (open_word old))
    → OnOk r (open_word new ≡ []) → is_ascii_whitespace c ≡ true → OnOk r (ReadsMarks old new (character c ∷ []))
reads_white (Ok done) old new c atoms word white = record {
  same = λ later. ap (λ a. atoms_from a (open_word new) later) atoms
      ∙ ap (λ w. atoms_from (old.atoms ++ open_atoms (open_word old)) w later) word
      ∙ read_white old.atoms (open_word old) c later white;
}
reads_white (Err error) old new c atoms word white = tt

-- the paragraph that ends, if it has an atom
pub ends_paragraph : (o : Option (List Atom)) (atoms all : List Atom) → SomeIff o (IsParagraph atoms) atoms → atoms ≡ all
    → list_all is_whole atoms ≡ true → sum_by atom_size atoms ≤ MAX_FILE_BYTES → MatchOption o (all ≡ []) (λ p. p ≡ all)
ends_paragraph (Some p) atoms all given same whole small = given.1 ∙ same
ends_paragraph None [] all given same whole small = sym same
ends_paragraph None (atom ∷ atoms) all given same whole small =
    absurd (given (whole_paragraph (atom ∷ atoms) (omega arith) whole small))
