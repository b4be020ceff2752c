-- How much the entries of marks count.
use Rattle.std.proofs.Common.{◌≡◌, ◌≤◌, ℕ, ◌+◌, Bool, true, false, List, [], ◌∷◌, ◌++◌, length, map, sum_by, refl, sym, ap, ◌∙◌}
use Rattle.std.proofs.Common.{subst, cond, arith}
use Rattle.std.proofs.Common.{length-append}
use Rattle.std.proofs.lemmas.Bool.Decides.{nat_tests}
use Rattle.std.proofs.lemmas.List.{append-nil}
use Rattle.std.proofs.lemmas.List.Sums.{sum_by-cons, sum_by-append}
use Rattle.std.specs.Char.{is_ascii_whitespace, encode_utf8}
use Rattle.std.specs.Str.{encode_utf8_all}
use Rattle.std.proofs.lemmas.Str.{encodes-append}
use Rattle.tl_base.specs.Text.{byte_count}
use Rattle.tl_text.specs.Words.{has_character}
use Rattle.tl_text.specs.Paragraph.{atom_size}
use Rattle.tl_text.specs.declared.paragraph.Atom.{Atom}
use Rattle.tl_text.specs.declared.paragraph.Atom.TheVariants.{Word, Break}
use Rattle.tl_text.proofs.WordLemmas.{words_from, words_from-end}
use Rattle.tl_tree.specs.Grammar.{Mark, Marks, character, line_break}
use Rattle.tl_tree.specs.Paragraphs.{leading, first_text, after_breaks, atoms_of, paragraph_of, entry_of, number_after}
use Rattle.tl_tree.specs.Paragraphs.{entries_after, entries_of}
use Rattle.tl_tree.specs.Outline.{Entries, paragraph}
use Rattle.tl_tree.specs.Sound.{entry_size}
use Rattle.tl_tree.specs.inner.Lines.{line_atoms, line_size, open_word}
use Rattle.tl_tree.specs.declared.flow.Line.{Line}
use Rattle.tl_tree.proofs.Lines.{atoms_from, open_atoms, read_letter, read_white, read_line_break, read_none, read_end, open_size}
use Rattle.tl_tree.proofs.FineMoves.{mark_size}

-- a text without a character is empty
no_character : (text : List ℕ) → has_character text ≡ false → text ≡ []
no_character [] none = refl
no_character (c ∷ text) none = absurd (grind (arith, nat_tests))

bytes-push : (word : List ℕ) (c : ℕ) → byte_count (word ++ c ∷ []) ≡ byte_count word + length (encode_utf8 c)
bytes-push word c =
    ap length (encodes-append word (c ∷ [])) ∙ length-append (encode_utf8_all word) (encode_utf8_all (c ∷ []))
    ∙ ap (λ bs. byte_count word + length bs) (append-nil (encode_utf8 c))

-- the atoms count no more than what they are read from
atoms_size : (word : List ℕ) (ms : Marks) → sum_by atom_size (atoms_from [] word ms) ≤ byte_count word + sum_by mark_size ms
atoms_size word [] = let e = read_end [] word in let h = open_size word in rw e (omega arith)
atoms_size word (character c ∷ ms) = by_white (is_ascii_whitespace c) refl (atoms_size (word ++ c ∷ []) ms) (atoms_size [] ms)
  where
    by_white : (b : Bool) → is_ascii_whitespace c ≡ b
        → sum_by atom_size (atoms_from [] (word ++ c ∷ []) ms) ≤ byte_count (word ++ c ∷ []) + sum_by mark_size ms
        → sum_by atom_size (atoms_from [] [] ms) ≤ byte_count [] + sum_by mark_size ms
        → sum_by atom_size (atoms_from [] word (character c ∷ ms)) ≤ byte_count word + sum_by mark_size (character c ∷ ms)
    by_white false letter goes_on anew =
        rw (sym (read_letter [] word c ms letter)) (omega (arith, bytes-push word c, sum_by-cons mark_size (character c) ms))
    by_white true white goes_on anew =
        let h = open_size word in
        let e = read_white [] word c ms white in
        let s = sum_by-append atom_size (open_atoms word) (atoms_from [] [] ms) in
        rw (sym e) (omega (arith, s, sum_by-cons mark_size (character c) ms))
atoms_size word (line_break ∷ ms) =
    let goes_on = atoms_size [] ms in
    let h = open_size word in
    let e = read_line_break [] word ms in
    let s = sum_by-append atom_size (open_atoms word ++ Break ∷ []) (atoms_from [] [] ms) in
    let t = sum_by-append atom_size (open_atoms word) (Break ∷ []) in
    rw (sym e) (omega (arith, s, t, sum_by-cons mark_size line_break ms))
atoms_size word (m ∷ ms) = other_mark word m ms (atoms_size [] ms)
  where
    other_mark : (word : List ℕ) (m : Mark) (ms : Marks) → sum_by atom_size
        (atoms_from [] [] ms) ≤ byte_count [] + sum_by mark_size ms
        → sum_by atom_size (open_atoms word ++ after_breaks ms) ≤ byte_count word + sum_by mark_size (m ∷ ms)
    other_mark word m ms anew =
        let h = open_size word in
        let s = sum_by-append atom_size (open_atoms word) (after_breaks ms) in
        let t = sum_by-append atom_size (map Word (words_from [] (first_text ms))) (after_breaks ms) in
        omega (arith, sum_by-cons mark_size m ms)

pub paragraph_size : (atoms : List Atom) → sum_by entry_size (paragraph_of atoms) ≡ sum_by atom_size atoms
paragraph_size [] = refl
paragraph_size (atom ∷ atoms) = omega (arith, sum_by-cons entry_size (paragraph (atom ∷ atoms)) [])

pub leading_atoms_size : (ms : Marks) → sum_by atom_size (atoms_of ms) ≤ sum_by mark_size ms
leading_atoms_size ms = let h = atoms_size [] ms in let P : List Atom → Type 0 =
    λ atoms. sum_by atom_size atoms ≤ sum_by mark_size ms in
    subst P (read_none ms) (omega arith)

pub later_size : (k : ℕ) (ms : Marks) → sum_by entry_size (entries_after k ms) + sum_by mark_size
    (leading ms) ≤ sum_by mark_size ms
later_size k [] = omega arith
later_size k (character c ∷ ms) =
    let h = later_size k ms in
    omega (arith, sum_by-cons mark_size (character c) (leading ms), sum_by-cons mark_size (character c) ms)
later_size k (line_break ∷ ms) =
    let h = later_size k ms in
    omega (arith, sum_by-cons mark_size line_break (leading ms), sum_by-cons mark_size line_break ms)
later_size k (m ∷ ms) = other_mark (entry_of k m) m (number_after k m) ms (omega arith) (later_size (number_after k m) ms)
  where
    other_mark : (es : Entries) (m : Mark) (j : ℕ) (ms : Marks) → sum_by entry_size es ≤ mark_size m
        → sum_by entry_size (entries_after j ms) + sum_by mark_size (leading ms) ≤ sum_by mark_size ms
        → sum_by entry_size (es ++ (paragraph_of (atoms_of (leading ms)) ++ entries_after j ms)) + 0 ≤ sum_by mark_size (m ∷ ms)
    other_mark es m j ms few h =
        let a = sum_by-append entry_size es (paragraph_of (atoms_of (leading ms)) ++ entries_after j ms) in
        let b = sum_by-append entry_size (paragraph_of (atoms_of (leading ms))) (entries_after j ms) in
        let c = paragraph_size (atoms_of (leading ms)) in
        let d = leading_atoms_size (leading ms) in
        omega (arith, sum_by-cons mark_size m ms)

pub entries_size : (k : ℕ) (ms : Marks) → sum_by entry_size (entries_of k ms) ≤ sum_by mark_size ms
entries_size k ms =
    let a = sum_by-append entry_size (paragraph_of (atoms_of (leading ms))) (entries_after k ms) in
    let b = paragraph_size (atoms_of (leading ms)) in
    let c = leading_atoms_size (leading ms) in
    let d = later_size k ms in
    omega arith

-- the paragraph that is open counts what its atoms do
whole_open : (word : List ℕ) → byte_count word ≤ sum_by atom_size (open_atoms word)
whole_open word = subst (λ (ws : List (List ℕ)). byte_count word ≤ sum_by atom_size (map Word ws)) (sym (words_from-end word))
    (by_test (has_character word) refl)
  where
    by_test : (b : Bool) → has_character word ≡ b → byte_count word ≤ sum_by atom_size (map Word (cond b (word ∷ []) []))
    by_test true h = omega (arith, sum_by-cons atom_size (Word word) [])
    by_test false h = let P : List ℕ → Type 0 = λ w. byte_count w ≤ 0 in subst P (sym (no_character word h)) (omega arith)

pub open_line_size : (line : Line) → line_size line ≤ sum_by atom_size (line_atoms line [])
open_line_size line =
    let e : sum_by atom_size (line_atoms line []) ≡ sum_by atom_size (line.atoms ++ open_atoms (open_word line)) =
    ap (λ atoms. sum_by atom_size atoms) (read_end line.atoms (open_word line)) in
    let s = sum_by-append atom_size line.atoms (open_atoms (open_word line)) in
    let w = whole_open (open_word line) in
    omega arith
