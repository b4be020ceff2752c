-- The words of a line, taken from its front.
use Rattle.std.proofs.Common.{◌∙◌, ◌≡◌, ◌+◌, ◌-◌, ◌<◌, ◌++◌, ◌==◌, List, [], ◌∷◌, ℕ, Option, Global, String, map, string_bytes}
use Rattle.std.proofs.Common.{sym, subst, ap, ap₂, arith, drop, get_or, length, take}
use Rattle.std.specs.List.{All, position_or_len}
use Rattle.std.specs.Str.{IsUtf8}
use Rattle.std.proofs.lemmas.List.{append_assoc, length-append, length-drop, take_all}
use Rattle.std.proofs.lemmas.List.Elements.{All-map}
use Rattle.std.proofs.lemmas.List.Splits.{slice_split_first}
use Rattle.std.proofs.lemmas.Str.{IsUtf8-string_bytes}
use Rattle.std.proofs.Math.Seq.{get_or-append_seam}
use Rattle.tl_request.specs.Requests.{words_in}
use Rattle.tl_request.specs.inner.Headings.{words_left}

-- what precedes the first space is the first word, and what follows it has the others
pub first_word_at : (bytes : List ℕ) (at rest : ℕ) → position_or_len (λ (byte : ℕ). byte == 32) bytes ≡ at → at < length bytes →
    length bytes - (at + 1) ≡ rest → words_in bytes ≡ take at bytes ∷ words_in (take rest (drop (at + 1) bytes))
first_word_at bytes at rest found within left =
    slice_split_first (λ (byte : ℕ). byte == 32) bytes 0 (omega (arith, found, within))
    ∙ ap₂ (λ first more. first ∷ more) (ap (λ n. take n bytes) found) (ap words_in (ap (λ n. drop (n + 1) bytes) found
    ∙ sym (take_all rest (drop (at + 1) bytes) (omega (arith, length-drop (at + 1) bytes, left)))))

-- a word that is taken joins those before it
pub word_joins : (words more : List (List ℕ)) (line bytes word given : List ℕ) (later : Option (List ℕ)) →
    more ≡ words ++ given ∷ [] → given ≡ word → words_in bytes ≡ word ∷ words_left later →
    words ++ words_in bytes ≡ words_in line → more ++ words_left later ≡ words_in line
word_joins words more line bytes word given later pushed same first so_far =
    ap (λ all. all ++ words_left later) pushed
    ∙ append_assoc words (given ∷ []) (words_left later)
    ∙ ap (λ all. words ++ all) (ap (λ it. it ∷ words_left later) same ∙ sym first)
    ∙ so_far

-- a word that is not UTF-8 is one of the line's
pub not_utf8 : (words : List (List ℕ)) (line bytes word : List ℕ) (later : Option (List ℕ)) →
    words_in bytes ≡ word ∷ words_left later → words ++ words_in bytes ≡ words_in line → (IsUtf8 word → ⊥) →
    All IsUtf8 (words_in line) → ⊥
not_utf8 words line bytes word later first so_far not_text all =
    let line_is : words ++ word ∷ words_left later ≡ words_in line = ap (λ more. words ++ more) (sym first) ∙ so_far in
    not_text (subst IsUtf8 (ap (λ it. get_or it (length words) []) (sym line_is) ∙ get_or-append_seam words word (words_left later) [])
    (all (length words) [] (omega (arith, sym (ap length line_is) ∙ length-append words (word ∷ words_left later)))))

-- the bytes of strings are UTF-8
pub texts_are_utf8 : (texts : List (String Global)) → All IsUtf8 (map string_bytes texts)
texts_are_utf8 texts = All-map IsUtf8 string_bytes texts (λ k d less. IsUtf8-string_bytes (get_or texts k d))
