-- The definitions on lines written by hand: above each is the line, and then what it stands for.
use Rattle.std.proofs.Common.{◌≡◌, [], ◌∷◌, ◌++◌, refl, arith, codes, decimal, true, false}
use Rattle.std.proofs.lemmas.Fmt.{decimal_digit}
use Rattle.tl_request.specs.Requests.{command_line, is_check, sizes_for, words_in}

-- lay 72 --style frame 1234
words_of_a_line : words_in (codes "lay 72 --style frame 1234")
    ≡ codes "lay" ∷ codes "72" ∷ codes "--style" ∷ codes "frame" ∷ codes "1234" ∷ []
words_of_a_line = refl

-- between two spaces there is a word without a byte, and so there is at the end and where a line has none
empty_words : words_in (codes "lay  7 ") ≡ codes "lay" ∷ [] ∷ codes "7" ∷ [] ∷ []
empty_words = refl

no_byte : words_in [] ≡ [] ∷ []
no_byte = refl

-- a tab is no space
tab_in_a_word : words_in (108 ∷ 9 ∷ 32 ∷ 55 ∷ []) ≡ (108 ∷ 9 ∷ []) ∷ (55 ∷ []) ∷ []
tab_in_a_word = refl

-- lay 72 --style frame
-- lay 72 in page --style frame
plain_page : command_line (codes "lay" ∷ codes "72" ∷ codes "--style" ∷ codes "frame" ∷ [])
    ≡ codes "lay" ∷ codes "72" ∷ codes "in" ∷ codes "page" ∷ codes "--style" ∷ codes "frame" ∷ []
plain_page = refl

-- tidy 72 --csv --cert --head
-- tidy 72 in page cert --csv --head
certified_page : command_line (codes "tidy" ∷ codes "72" ∷ codes "--csv" ∷ codes "--cert" ∷ codes "--head" ∷ [])
    ≡ codes "tidy" ∷ codes "72" ∷ codes "in" ∷ codes "page" ∷ codes "cert" ∷ codes "--csv" ∷ codes "--head" ∷ []
certified_page = refl

-- check 72
-- check 72 in page
judged : command_line (codes "check" ∷ codes "72" ∷ []) ≡ codes "check" ∷ codes "72" ∷ codes "in" ∷ codes "page" ∷ []
judged = refl

-- lay
-- lay
too_short : command_line (codes "lay" ∷ []) ≡ codes "lay" ∷ []
too_short = refl

-- one size, and two of a check
one_size : sizes_for false 1234 0 ≡ decimal 1234 ∷ []
one_size = refl

two_sizes : sizes_for true 1234 0 ≡ decimal 1234 ∷ decimal 0 ∷ []
two_sizes = refl

-- check 72 --csv 4 5
-- check 72 --csv, of a file with 4 bytes and a certificate with 5
line_of_a_check : words_in (codes "check 72 --csv 4 5")
    ≡ (codes "check" ∷ codes "72" ∷ codes "--csv" ∷ []) ++ sizes_for (is_check (words_in (codes "check 72 --csv 4 5"))) 4 5
line_of_a_check = rw (decimal_digit 4 (omega arith), decimal_digit 5 (omega arith))

-- lay 72 4 5
-- lay 72 4, which no command takes, of a file with 5 bytes
line_of_another : words_in (codes "lay 72 4 5")
    ≡ (codes "lay" ∷ codes "72" ∷ codes "4" ∷ []) ++ sizes_for (is_check (words_in (codes "lay 72 4 5"))) 5 0
line_of_another = rw (decimal_digit 5 (omega arith))
