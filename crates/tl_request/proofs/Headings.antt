-- Words that end with numbers of bytes.
use Rattle.std.proofs.Common.{◌∙◌, ◌≡◌, ◌<◌, ◌^◌, List, [], ◌∷◌, ◌++◌, ℕ, Bool, true, false, sym, ap, refl, subst, arith, drop, get_or, length, decimal}
use Rattle.std.proofs.lemmas.List.{append_assoc, append_cancel_right}
use Rattle.std.proofs.lemmas.Fmt.{decimal_injective}
use Rattle.tl_command.specs.Ask.{Asked, IsAsk}
use Rattle.tl_request.specs.Requests.{IsHeading, command_line, count_of_names, is_check, sizes_for, words_in}
use Rattle.tl_request.specs.inner.Headings.{IsSplit, IsSplitAs}

-- of a check the last word is the size of the certificate, and the one before it that of the file
pub of_check : (all own : List (List ℕ)) (file text : ℕ) → is_check all ≡ true → IsSplit all own file text →
    all ≡ (own ++ decimal file ∷ []) ++ decimal text ∷ []
of_check all own file text is split = split.spelled ∙ ap (λ check. own ++ sizes_for check file text) is
    ∙ sym (append_assoc own (decimal file ∷ []) (decimal text ∷ []))

-- of any other command the last word is the size of the file
pub of_other : (all own : List (List ℕ)) (file text : ℕ) → is_check all ≡ false → IsSplit all own file text →
    all ≡ own ++ decimal file ∷ []
of_other all own file text is split = split.spelled ∙ ap (λ check. own ++ sizes_for check file text) is

-- numbers with the same decimal are the same
same_size : (one other : ℕ) → one < 2 ^ 32 → other < 2 ^ 32 → decimal one ≡ decimal other → one ≡ other
same_size one other small few same = decimal_injective one other (omega (arith, small)) (omega (arith, few)) same

-- the last of words
last_word : (one other : List (List ℕ)) (last end : List ℕ) → one ++ last ∷ [] ≡ other ++ end ∷ [] → last ≡ end
last_word [] [] last end same = ap (λ words. get_or words 0 []) same
last_word [] (word ∷ []) last end same = absurd (omega (arith, ap length same))
last_word [] (word ∷ next ∷ other) last end same = absurd (omega (arith, ap length same))
last_word (word ∷ []) [] last end same = absurd (omega (arith, ap length same))
last_word (word ∷ next ∷ one) [] last end same = absurd (omega (arith, ap length same))
last_word (word ∷ one) (next ∷ other) last end same = last_word one other last end (ap (drop 1) same)

-- what stands before the last word
pub before_last : (one other : List (List ℕ)) (last end : List ℕ) → one ++ last ∷ [] ≡ other ++ end ∷ [] → one ≡ other
before_last one other last end same = append_cancel_right one other (last ∷ [])
    (same ∙ ap (λ word. other ++ word ∷ []) (sym (last_word one other last end same)))

-- words end with the numbers of bytes of files in one way alone
pub split_once : (check : Bool) (all own other : List (List ℕ)) (file text file' text' : ℕ) → is_check all ≡ check →
    IsSplit all own file text → IsSplit all other file' text' → (own ≡ other) × ((file ≡ file') × (text ≡ text'))
split_once true all own other file text file' text' is one two =
    let same = sym (of_check all own file text is one) ∙ of_check all other file' text' is two in
    let before = before_last (own ++ decimal file ∷ []) (other ++ decimal file' ∷ []) (decimal text) (decimal text') same in (
      before_last own other (decimal file) (decimal file') before,
      (
        same_size file file' one.file_small two.file_small (last_word own other (decimal file) (decimal file') before),
        same_size text text' one.text_small two.text_small
            (last_word (own ++ decimal file ∷ []) (other ++ decimal file' ∷ []) (decimal text) (decimal text') same),
      ),
    )
split_once false all own other file text file' text' is one two =
    let same = sym (of_other all own file text is one) ∙ of_other all other file' text' is two in (
      before_last own other (decimal file) (decimal file') same,
      (
        same_size file file' one.file_small two.file_small (last_word own other (decimal file) (decimal file') same),
        one.alone is ∙ sym (two.alone is),
      ),
    )

-- a line stands for one command line, with so many names, of files with so many bytes
pub stands_once : (line : List ℕ) (command : List (List ℕ)) (names file text : ℕ) (asked : Asked) (file' text' : ℕ) →
    IsSplitAs line command names file text → IsHeading line asked file' text' →
    IsAsk command asked × (length asked.names ≡ names) × (file ≡ file') × (text ≡ text')
stands_once line command names file text asked file' text' split is =
    let other : IsSplit (words_in line) is.words file' text' = record {
      spelled = is.spelled;
      file_small = is.file_small;
      text_small = is.text_small;
      alone = is.alone;
    } in
    let same = split_once (is_check (words_in line)) (words_in line) split.words is.words file text file' text' refl split.split
    other in (
      subst (λ (words : List (List ℕ)). IsAsk words asked) (sym (split.so ∙ ap command_line same.0)) is.asks,
      is.unnamed ∙ ap count_of_names (sym same.0) ∙ sym split.named,
      same.1.0,
      same.1.1,
    )
