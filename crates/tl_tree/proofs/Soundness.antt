-- The tree that tokens spell within the limits is sound.
use Rattle.std.proofs.Common.{◌≡◌, ◌≤◌, ℕ, ◌+◌, ◌*◌, ◌-◌, Bool, true, false, List, [], ◌∷◌, ◌++◌, map, sum_by, refl, sym, ap, ◌∙◌}
use Rattle.std.proofs.Common.{subst}
use Rattle.std.proofs.Common.{cond, arith, Result, Ok, Err, IfOk, OnOk}
use Rattle.std.proofs.lemmas.List.Sums.{sum_by-cons}
use Rattle.std.specs.Char.{is_ascii_whitespace}
use Rattle.std.specs.List.{AllByRecursion, list_all, list_any}
use Rattle.std.proofs.lemmas.Bool.{and_from}
use Rattle.tl_base.specs.declared.limits.TheConstants.{MAX_FILE_BYTES, MAX_COLSPAN, MAX_DECLARED_COLUMNS, MAX_DEPTH}
use Rattle.tl_base.proofs.Members.{AllByRecursion-append, AllByRecursion-suffix}
use Rattle.tl_token.specs.Characters.{is_control}
use Rattle.tl_token.specs.declared.token.Token.{Token}
use Rattle.tl_text.specs.Words.{has_character}
use Rattle.tl_text.specs.Paragraph.{atom_size}
use Rattle.tl_text.specs.declared.paragraph.Atom.{Atom}
use Rattle.tl_text.specs.declared.paragraph.Atom.TheVariants.{Word, Break}
use Rattle.tl_text.proofs.WordLemmas.{words_from, words_from-end}
use Rattle.tl_text.proofs.ClusterLemmas.{both-left, both-right}
use Rattle.tl_tree.specs.Tags.{kinds}
use Rattle.tl_tree.specs.Grammar as marks
use Rattle.tl_tree.specs.Grammar.{Mark, Marks, character, line_break}
use Rattle.tl_tree.specs.Paragraphs.{leading, first_text, after_breaks, atoms_of, paragraph_of, entries_after, entries_of}
use Rattle.tl_tree.specs.Outline.{Entries, outline}
use Rattle.tl_tree.specs.Readable.{AreReadable}
use Rattle.tl_tree.specs.Sound.{IsNumberedFrom, table_count, IsNestedBelow, IsPlainAtom, IsEntryInRange, IsSound}
use Rattle.tl_tree.specs.Spelling.{SpellsTree, IsWithinLimits}
use Rattle.tl_tree.specs.declared.node.TableNode.{TableNode}
use Rattle.tl_tree.specs.declared.error.TreeError.{TreeError}
use Rattle.tl_tree.specs.inner.Atoms.{is_whole}
use Rattle.tl_tree.specs.inner.Machine.{before, reached, all_told}
use Rattle.tl_tree.specs.inner.Verdict.{is_failed}
use Rattle.tl_tree.proofs.Lines.{atoms_from, open_atoms, read_letter, read_white, read_line_break, read_none, read_end, none_push}
use Rattle.tl_tree.proofs.Lines.{whole_word, whole_paragraph}
use Rattle.tl_tree.proofs.MachineWhole.{document_whole}
use Rattle.tl_tree.proofs.FineMoves.{mark_size, IsFineMark, small_marks}
use Rattle.tl_tree.proofs.FineMarks.{AreFineMarks, number_at, fine_marks, number_told}
use Rattle.tl_tree.proofs.EntrySizes.{leading_atoms_size, later_size, entries_size}
use Rattle.tl_tree.proofs.Documents.{kinds_length, few_tables}

-- ---- the atoms of a paragraph

abbrev IsPlain : Atom → Type 0
IsPlain atom = (is_whole atom ≡ true) × IsPlainAtom atom

plain_open : (word : List ℕ) → list_any is_ascii_whitespace word ≡ false → list_any is_control word ≡ false →
    AllByRecursion IsPlain (open_atoms word)
plain_open word solid plain =
    let P : List (List ℕ) → Type 0 = λ words. AllByRecursion IsPlainAtom (map Word words) in
    both_of (open_atoms word) (whole_word word solid) (subst P (sym (words_from-end word)) (by_test (has_character word)))
  where
    by_test : (b : Bool) → AllByRecursion IsPlainAtom (map Word (cond b (word ∷ []) []))
    by_test true = (plain, tt)
    by_test false = tt

    both_of : (atoms : List Atom) → list_all is_whole atoms ≡ true → AllByRecursion IsPlainAtom atoms →
        AllByRecursion IsPlain atoms
    both_of [] whole h = tt
    both_of (atom ∷ atoms) whole h = (
      (both-left (is_whole atom) _ whole, h.0),
      both_of atoms (both-right (is_whole atom) _ whole) h.1,
    )

-- the atoms that are read from marks in their ranges
plain_atoms : (n : ℕ) (word : List ℕ) (ms : Marks) → list_any is_ascii_whitespace word ≡ false → list_any is_control word ≡ false
    → AllByRecursion (IsFineMark n) ms → AllByRecursion IsPlain (atoms_from [] word ms)
plain_atoms n word [] solid plain fine = rw (read_end [] word) (plain_open word solid plain)
plain_atoms n word (character c ∷ ms) solid plain fine =
    by_white (is_ascii_whitespace c) refl
    (λ letter. plain_atoms n (word ++ c ∷ []) ms (none_push is_ascii_whitespace word c solid letter)
    (none_push is_control word c plain fine.0) fine.1)
    (plain_atoms n [] ms refl refl fine.1)
  where
    by_white : (b : Bool) → is_ascii_whitespace c ≡ b
        → (is_ascii_whitespace c ≡ false → AllByRecursion IsPlain (atoms_from [] (word ++ c ∷ []) ms))
        → AllByRecursion IsPlain (atoms_from [] [] ms) → AllByRecursion IsPlain (atoms_from [] word (character c ∷ ms))
    by_white false letter goes_on anew = rw (sym (read_letter [] word c ms letter)) (goes_on letter)
    by_white true white goes_on anew =
        rw (sym (read_white [] word c ms white)) (AllByRecursion-append IsPlain (open_atoms word) (atoms_from [] [] ms)
        (plain_open word solid plain) anew)
plain_atoms n word (line_break ∷ ms) solid plain fine =
    let anew = plain_atoms n [] ms refl refl fine.1 in
    let ended = AllByRecursion-append IsPlain (open_atoms word) (Break ∷ []) (plain_open word solid plain) ((refl, tt), tt) in
    rw (sym (read_line_break [] word ms)) (AllByRecursion-append IsPlain (open_atoms word ++ Break ∷ []) (atoms_from [] [] ms) ended anew)
plain_atoms n word (m ∷ ms) solid plain fine = other_mark (plain_atoms n [] ms refl refl fine.1)
  where
    other_mark : AllByRecursion IsPlain (atoms_from [] [] ms) → AllByRecursion IsPlain (open_atoms word ++ after_breaks ms)
    other_mark anew = AllByRecursion-append IsPlain (open_atoms word) (after_breaks ms) (plain_open word solid plain)
        (AllByRecursion-suffix IsPlain (map Word (words_from [] (first_text ms))) (after_breaks ms) anew)

all_whole : (atoms : List Atom) → AllByRecursion IsPlain atoms → list_all is_whole atoms ≡ true
all_whole [] h = refl
all_whole (atom ∷ atoms) h = and_from (is_whole atom) _ h.0.0 (all_whole atoms h.1)

all_plain : (atoms : List Atom) → AllByRecursion IsPlain atoms → AllByRecursion IsPlainAtom atoms
all_plain [] h = tt
all_plain (atom ∷ atoms) h = (h.0.1, all_plain atoms h.1)

-- ---- the ranges of the entries

fewer : (m : Mark) (ms : Marks) → sum_by mark_size (m ∷ ms) ≤ MAX_FILE_BYTES → sum_by mark_size ms ≤ MAX_FILE_BYTES
fewer m ms h = omega (arith, sum_by-cons mark_size m ms)

paragraph_in_range : (atoms : List Atom) → AllByRecursion IsPlain atoms → sum_by atom_size atoms ≤ MAX_FILE_BYTES →
    AllByRecursion IsEntryInRange (paragraph_of atoms)
paragraph_in_range [] plain size = tt
paragraph_in_range (atom ∷ atoms) plain size = (
  record {
    is_paragraph = whole_paragraph (atom ∷ atoms) (omega arith) (all_whole (atom ∷ atoms) plain) size;
    plain = all_plain (atom ∷ atoms) plain;
  },
  tt,
)

module _ (n : ℕ) (few : n ≤ MAX_DECLARED_COLUMNS) where
  leading_fine : (d : ℕ) (ms : Marks) → AreFineMarks n d ms → AllByRecursion (IsFineMark n) (leading ms)
  leading_fine d [] fine = tt
  leading_fine d (character c ∷ ms) fine = (fine.0, leading_fine d ms fine.1)
  leading_fine d (line_break ∷ ms) fine = (tt, leading_fine d ms fine.1)
  leading_fine d (_ ∷ ms) fine = tt

  -- the paragraph that begins before the entries
  with_paragraph : (k d : ℕ) (ms : Marks) → AreFineMarks n d ms → sum_by mark_size ms ≤ MAX_FILE_BYTES
      → AllByRecursion IsEntryInRange (entries_after k ms) → AllByRecursion IsEntryInRange (entries_of k ms)
  with_paragraph k d ms fine size later =
      let P : List Atom → Type 0 = λ atoms. AllByRecursion IsPlain atoms in
      let plain = subst P (read_none (leading ms)) (plain_atoms n [] (leading ms) refl refl (leading_fine d ms fine)) in
      let a = leading_atoms_size (leading ms) in
      let b = later_size k ms in
      AllByRecursion-append IsEntryInRange (paragraph_of (atoms_of (leading ms))) (entries_after k ms)
      (paragraph_in_range (atoms_of (leading ms)) plain (omega arith)) later

  later_in_range : (k d : ℕ) (ms : Marks) → AreFineMarks n d ms → sum_by mark_size ms ≤ MAX_FILE_BYTES →
      AllByRecursion IsEntryInRange (entries_after k ms)
  later_in_range k d [] fine size = tt
  later_in_range k d (character c ∷ ms) fine size = later_in_range k d ms fine.1 (fewer (character c) ms size)
  later_in_range k d (line_break ∷ ms) fine size = later_in_range k d ms fine.1 (fewer line_break ms size)
  later_in_range k d (marks.paragraph_ends ∷ ms) fine size =
      let small = fewer marks.paragraph_ends ms size in with_paragraph k d ms fine.1 small (later_in_range k d ms fine.1 small)
  later_in_range k d (marks.table_begins ∷ ms) fine size =
      let small = fewer marks.table_begins ms size in
      (tt, with_paragraph (k + 1) (d + 1) ms fine.1 small (later_in_range (k + 1) (d + 1) ms fine.1 small))
  later_in_range k d (marks.table_ends ∷ ms) fine size =
      let small = fewer marks.table_ends ms size in
      (tt, with_paragraph k (d - 1) ms fine small (later_in_range k (d - 1) ms fine small))
  later_in_range k d (marks.columns c ∷ ms) fine size =
      let small = fewer (marks.columns c) ms size in (
        omega arith,
        with_paragraph k d ms fine.1 small (later_in_range k d ms fine.1 small),
      )
  later_in_range k d (marks.cell_begins head spans ∷ ms) fine size =
      let small = fewer (marks.cell_begins head spans) ms size in
      (fine.0, with_paragraph k d ms fine.1 small (later_in_range k d ms fine.1 small))
  later_in_range k d (m ∷ ms) fine size =
      let small = fewer m ms size in (tt, with_paragraph k d ms fine.1 small (later_in_range k d ms fine.1 small))

  pub all_in_range : (k d : ℕ) (ms : Marks) → AreFineMarks n d ms → sum_by mark_size ms ≤ MAX_FILE_BYTES →
      AllByRecursion IsEntryInRange (entries_of k ms)
  all_in_range k d ms fine size = with_paragraph k d ms fine size (later_in_range k d ms fine size)

-- ---- the tables

numbered_past : (k : ℕ) (atoms : List Atom) (es : Entries) → IsNumberedFrom k es → IsNumberedFrom k (paragraph_of atoms ++ es)
numbered_past k [] es h = h
numbered_past k (atom ∷ atoms) es h = h

all_numbered : (k : ℕ) (ms : Marks) → IsNumberedFrom k (entries_after k ms)
all_numbered k [] = tt
all_numbered k (character c ∷ ms) = all_numbered k ms
all_numbered k (line_break ∷ ms) = all_numbered k ms
all_numbered k (marks.table_begins ∷ ms) =
    (refl, numbered_past (k + 1) (atoms_of (leading ms)) (entries_after (k + 1) ms) (all_numbered (k + 1) ms))
all_numbered k (_ ∷ ms) = numbered_past k (atoms_of (leading ms)) (entries_after k ms) (all_numbered k ms)

count_past : (atoms : List Atom) (es : Entries) → table_count (paragraph_of atoms ++ es) ≡ table_count es
count_past [] es = refl
count_past (atom ∷ atoms) es = refl

all_counted : (k : ℕ) (ms : Marks) → k + table_count (entries_after k ms) ≡ number_at k ms
all_counted k [] = omega arith
all_counted k (character c ∷ ms) = all_counted k ms
all_counted k (line_break ∷ ms) = all_counted k ms
all_counted k (marks.table_begins ∷ ms) =
    let e = count_past (atoms_of (leading ms)) (entries_after (k + 1) ms) in
    let h = all_counted (k + 1) ms in
    omega arith
all_counted k (_ ∷ ms) =
    let e = count_past (atoms_of (leading ms)) (entries_after k ms) in
    let h = all_counted k ms in
    omega arith

nested_past : (d : ℕ) (atoms : List Atom) (es : Entries) → IsNestedBelow MAX_DEPTH d es →
    IsNestedBelow MAX_DEPTH d (paragraph_of atoms ++ es)
nested_past d [] es h = h
nested_past d (atom ∷ atoms) es h = h

all_nested : (n k d : ℕ) (ms : Marks) → AreFineMarks n d ms → IsNestedBelow MAX_DEPTH d (entries_after k ms)
all_nested n k d [] fine = tt
all_nested n k d (character c ∷ ms) fine = all_nested n k d ms fine.1
all_nested n k d (line_break ∷ ms) fine = all_nested n k d ms fine.1
all_nested n k d (marks.table_begins ∷ ms) fine =
    (fine.0, nested_past (d + 1) (atoms_of (leading ms)) (entries_after (k + 1) ms) (all_nested n (k + 1) (d + 1) ms fine.1))
all_nested n k d (marks.table_ends ∷ ms) fine = nested_past (d - 1) (atoms_of (leading ms)) (entries_after k ms)
    (all_nested n k (d - 1) ms fine)
all_nested n k d (_ ∷ ms) fine = nested_past d (atoms_of (leading ms)) (entries_after k ms) (all_nested n k d ms fine.1)

-- ---- the tree

pub spelt_sound : (tokens : List Token) (node : TableNode) → AreReadable tokens → IsWithinLimits (kinds tokens) →
    SpellsTree tokens node → IsSound node
spelt_sound tokens node readable within spelt =
    let ks = kinds tokens in
    let ms = all_told before ks in
    let accepted = document_whole spelt.document in
    let alive : is_failed (reached before ks) ≡ false = ap is_failed accepted.ends in
    let same : outline node ≡ entries_of 0 ms = spelt.same ∙ ap (λ x. entries_of 0 x) (sym accepted.tells) in
    let most = MAX_COLSPAN * MAX_FILE_BYTES in
    let long = kinds_length ks readable.readable in
    let bytes = readable.size in
    let fine = fine_marks most 0 0 before ks readable.readable alive (omega arith) within in
    let small = small_marks before ks readable.readable in
    let few = few_tables 0 0 ks (omega arith) within in
    let told = number_told 0 before ks readable.readable alive in
    let begun = all_counted 0 ms in
    let past = count_past (atoms_of (leading ms)) (entries_after 0 ms) in
    let sizes = entries_size 0 ms in
    record {
      numbered = rw same (numbered_past 0 (atoms_of (leading ms)) (entries_after 0 ms) (all_numbered 0 ms));
      few_tables = rw same (omega arith);
      shallow = rw same (nested_past 0 (atoms_of (leading ms)) (entries_after 0 ms) (all_nested most 0 0 ms fine));
      sound = rw same (record { in_range = all_in_range most (omega arith) 0 0 ms fine (omega arith); size = omega arith });
    }

pub each_sound : (tokens : List Token) (r : Result TableNode TreeError) → AreReadable tokens → IfOk r (SpellsTree tokens)
    → OnOk r (IsWithinLimits (kinds tokens)) → IfOk r IsSound
each_sound tokens (Ok node) readable ok within = spelt_sound tokens node readable within ok
each_sound tokens (Err error) readable ok within = tt
