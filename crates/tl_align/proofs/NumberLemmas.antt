-- The test of a number, a character at a time, says just what the grammar does.
use Rattle.std.proofs.Common.{◌≡◌, ◌∙◌, ℕ, Bool, true, ◌&&◌, List, [], ◌∷◌, ◌++◌, map, refl, sym, ap, subst}
use Rattle.std.specs.List.{flat_map, fold, list_all}
use Rattle.std.proofs.lemmas.List.Folds.{fold-map}
use Rattle.std.proofs.lemmas.List.Sums.{fold-append}
use Rattle.tl_text.specs.declared.paragraph.Atom.{Atom}
use Rattle.tl_text.specs.declared.paragraph.Atom.TheVariants.{Glue}
use Rattle.tl_align.specs.declared.number.Class.{Class}
use Rattle.tl_align.specs.declared.number.Class.TheVariants.{Digit, Sign, Currency, Separator, Percent, Letter}
use Rattle.tl_align.specs.declared.number.Reading.{Reading}
use Rattle.tl_align.specs.declared.number.Reading.TheVariants.{Start, Marked, InDigits, AfterSeparator, AfterPercent, AfterLetter}
use Rattle.tl_align.specs.declared.number.Reading.TheVariants.{AfterSign, InPower, Failed}
use Rattle.tl_align.specs.Numbers.{class_of, IsMark, no_mark, sign, currency, AreGrouped, last_digit, beside, separated, AreDigits}
use Rattle.tl_align.specs.Numbers.{end_digit, next_to, IsTail, no_tail, percent, exponent, signed_exponent, IsBody, IsNumeral, after}
use Rattle.tl_align.specs.Numbers.{is_whole, through, NumbersAreByTheGrammar, is_glue, text_of}

-- ---- what the test takes is by the grammar

-- a digit and a tail
body_end : {tail : List Class} → IsTail tail → IsBody (Digit ∷ tail)
body_end {tail} ended = record { digits = Digit ∷ []; tail = tail; split = refl; grouped = last_digit; ended = ended }

-- a digit before digits
body_beside : {classes : List Class} → IsBody classes → IsBody (Digit ∷ classes)
body_beside body = record {
  digits = Digit ∷ body.digits;
  tail = body.tail;
  split = ap (λ others. Digit ∷ others) body.split;
  grouped = beside body.grouped;
  ended = body.ended;
}

-- a digit and a separator before digits
body_separated : {classes : List Class} → IsBody classes → IsBody (Digit ∷ Separator ∷ classes)
body_separated body = record {
  digits = Digit ∷ Separator ∷ body.digits;
  tail = body.tail;
  split = ap (λ others. Digit ∷ Separator ∷ others) body.split;
  grouped = separated body.grouped;
  ended = body.ended;
}

-- with these characters after what was read, all is a number
abbrev Completes : Reading → List Class → Type 0
Completes Start classes = IsNumeral classes
Completes Marked classes = IsBody classes
Completes InDigits classes = IsBody (Digit ∷ classes)
Completes AfterSeparator classes = IsBody classes
Completes AfterPercent classes = classes ≡ []
Completes AfterLetter classes = IsTail (Letter ∷ classes)
Completes AfterSign classes = AreDigits classes
Completes InPower classes = AreDigits (Digit ∷ classes)
Completes Failed classes = ⊥

-- one character back
back : (reading : Reading) (class : Class) (classes : List Class) → Completes (after reading class) classes
    → Completes reading (class ∷ classes)
back Start Sign classes body = record { mark = Sign ∷ []; body = classes; split = refl; marked = sign; numbered = body }
back Start Currency classes body = record { mark = Currency ∷ []; body = classes; split = refl; marked = currency; numbered = body }
back Start Digit classes body = record { mark = []; body = Digit ∷ classes; split = refl; marked = no_mark; numbered = body }
back Marked Digit classes body = body
back InDigits Digit classes body = body_beside body
back InDigits Separator classes body = body_separated body
back InDigits Percent classes none = subst (λ others. IsBody (Digit ∷ Percent ∷ others)) (sym none) (body_end percent)
back InDigits Letter classes tail = body_end tail
back AfterSeparator Digit classes body = body
back AfterLetter Sign classes digits = signed_exponent digits
back AfterLetter Digit classes digits = exponent digits
back AfterSign Digit classes digits = digits
back InPower Digit classes digits = next_to digits
back _ _ classes never = absurd never

-- where the test ends well, all is a number
sound : (classes : List Class) (reading : Reading) → is_whole (fold after reading classes) ≡ true → Completes reading classes
sound [] InDigits whole = body_end no_tail
sound [] AfterPercent whole = refl
sound [] InPower whole = end_digit
sound [] _ whole = cc
sound (class ∷ classes) reading whole = back reading class classes (sound classes (after reading class) whole)

-- ---- what is by the grammar the test takes

-- the digits of an exponent
digits_read : {digits : List Class} → AreDigits digits → (reading : Reading) → after reading Digit ≡ InPower
    → fold after reading digits ≡ InPower
digits_read end_digit reading first = first
digits_read (next_to {others} more) reading first = ap (λ so_far. fold after so_far others) first ∙ digits_read more InPower refl

-- digits with separators, and what follows them
grouped_read : {digits : List Class} → AreGrouped digits → (rest : List Class) (reading : Reading) → after reading Digit ≡ InDigits
    → fold after reading (digits ++ rest) ≡ fold after InDigits rest
grouped_read last_digit rest reading first = ap (λ so_far. fold after so_far rest) first
grouped_read (beside {others} more) rest reading first =
    ap (λ so_far. fold after so_far (others ++ rest)) first ∙ grouped_read more rest InDigits refl
grouped_read (separated {others} more) rest reading first =
    ap (λ so_far. fold after (after so_far Separator) (others ++ rest)) first ∙ grouped_read more rest AfterSeparator refl

-- a tail
tail_read : {tail : List Class} → IsTail tail → is_whole (fold after InDigits tail) ≡ true
tail_read no_tail = refl
tail_read percent = refl
tail_read (exponent digits) = ap is_whole (digits_read digits AfterLetter refl)
tail_read (signed_exponent digits) = ap is_whole (digits_read digits AfterSign refl)

-- digits and a tail
body_read : (classes : List Class) → IsBody classes → (reading : Reading) → after reading Digit ≡ InDigits
    → is_whole (fold after reading classes) ≡ true
body_read classes body reading first =
    ap (λ all. is_whole (fold after reading all)) body.split
    ∙ ap is_whole (grouped_read body.grouped body.tail reading first)
    ∙ tail_read body.ended

-- a mark, digits and a tail
marked_read : {mark : List Class} → IsMark mark → (classes : List Class) → IsBody classes
    → is_whole (fold after Start (mark ++ classes)) ≡ true
marked_read no_mark classes body = body_read classes body Start refl
marked_read sign classes body = body_read classes body Marked refl
marked_read currency classes body = body_read classes body Marked refl

-- ---- both

pub by_the_grammar : NumbersAreByTheGrammar
by_the_grammar text =
    let same = fold-map after class_of Start text in (
      λ test. sound (map class_of text) Start (ap is_whole same ∙ test),
      λ number.
          ap is_whole (sym same)
          ∙ ap (λ classes. is_whole (fold after Start classes)) number.split
          ∙ marked_read number.marked number.body number.numbered,
    )

-- ---- units

-- these units go on with a word, which with them is a number
abbrev pub goes_on : Reading → List Atom → Bool
goes_on reading others = list_all is_glue others && is_whole (through reading (flat_map text_of others))

-- one unit further
pub goes_on-glue : (reading : Reading) (text : List ℕ) (others : List Atom) → goes_on (through reading text) others
    ≡ goes_on reading (Glue text ∷ others)
goes_on-glue reading text others =
    ap (λ last. list_all is_glue others && is_whole last)
    (sym (fold-append (λ so_far c. after so_far (class_of c)) reading text (flat_map text_of others)))
