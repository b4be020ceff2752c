-- Signs: each takes one column, and what a run of them is.
use Rattle.std.proofs.Common.{◌≡◌, ℕ, zero, suc, ◌+◌, Bool, true, false, ◌==◌, ◌∷◌, [], ◌++◌, get_or, refl, ◌∙◌, ap, sym, subst, arith}
use Rattle.std.proofs.Common.{append-nil, append_assoc}
use Rattle.std.specs.Char.{encode_utf8}
use Rattle.std.specs.List.{list_all}
use Rattle.std.proofs.lemmas.Bool.{eqb-true}
use Rattle.std.proofs.lemmas.List.Sums.{AllPass-from_list_all}
use Rattle.tl_base.specs.declared.style.Style.{Style}
use Rattle.tl_base.specs.declared.style.Style.TheVariants.{Plain, Compact, Frame, Grid, Box, Rule, Apart}
use Rattle.tl_text.specs.Words.{width_of}
use Rattle.unicode_width.proofs.Computing.{unicode_width}
use Rattle.tl_page.specs.Pictures.{spaces}
use Rattle.tl_page.specs.Signs.{ascii_sign, light_sign, double_sign, sign, signs, IsSign, run}

-- ---- how wide they are

measured : list_all (λ character. width_of (character ∷ []) == 1) signs ≡ true
unfolding unicode_width
measured = refl

pub one_column : (character : ℕ) → IsSign character → width_of (character ∷ []) ≡ 1
one_column character (k, within, same) =
    subst (λ (some : ℕ). width_of (some ∷ []) ≡ 1) same
    (eqb-true (width_of (get_or signs k character ∷ [])) 1
    (AllPass-from_list_all (λ character. width_of (character ∷ []) == 1) signs measured k character within))

-- ---- runs

pub run-spaces : (count : ℕ) → run count 0x20 ≡ spaces count
unfolding encode_utf8
run-spaces zero = refl
run-spaces (suc count) = ap (λ rest. 0x20 ∷ rest) (run-spaces count)

-- one more
pub run-more : (count character : ℕ) → run (count + 1) character ≡ run count character ++ encode_utf8 character
run-more zero character = append-nil (encode_utf8 character)
run-more (suc count) character =
    let next : suc count + 1 ≡ suc (count + 1) = omega arith in
    ap (λ (n : ℕ). run n character) next ∙ ap (λ rest. encode_utf8 character ++ rest) (run-more count character)
    ∙ sym (append_assoc (encode_utf8 character) (run count character) (encode_utf8 character))

-- ---- what is drawn at a corner is a sign

ascii_is : (rule : ℕ) (up down left right : Bool) → IsSign rule → IsSign (ascii_sign rule up down left right)
ascii_is rule true true false false is = (1, omega arith, refl)
ascii_is rule false false true true is = is
ascii_is rule up down left right is = (3, omega arith, refl)

light_is : (up down left right : Bool) → IsSign (light_sign up down left right)
light_is true true false false = (5, omega arith, refl)
light_is false false true true = (6, omega arith, refl)
light_is false true false true = (7, omega arith, refl)
light_is false true true false = (8, omega arith, refl)
light_is true false false true = (9, omega arith, refl)
light_is true false true false = (10, omega arith, refl)
light_is true true false true = (11, omega arith, refl)
light_is true true true false = (12, omega arith, refl)
light_is false true true true = (13, omega arith, refl)
light_is true false true true = (14, omega arith, refl)
light_is true true true true = (15, omega arith, refl)
light_is up down left right = (0, omega arith, refl)

double_is : (up down left right : Bool) → IsSign (double_sign up down left right)
double_is true true false false = (5, omega arith, refl)
double_is false false true true = (16, omega arith, refl)
double_is false true false true = (17, omega arith, refl)
double_is false true true false = (18, omega arith, refl)
double_is true false false true = (19, omega arith, refl)
double_is true false true false = (20, omega arith, refl)
double_is true true false true = (21, omega arith, refl)
double_is true true true false = (22, omega arith, refl)
double_is false true true true = (23, omega arith, refl)
double_is true false true true = (24, omega arith, refl)
double_is true true true true = (25, omega arith, refl)
double_is up down left right = (0, omega arith, refl)

pub sign_is : (style : Style) (under up down left right : Bool) → IsSign (sign style under up down left right)
sign_is Plain under up down left right = (0, omega arith, refl)
sign_is Compact under up down left right = (0, omega arith, refl)
sign_is Frame under up down left right = ascii_is 0x2D up down left right (2, omega arith, refl)
sign_is Grid false up down left right = ascii_is 0x2D up down left right (2, omega arith, refl)
sign_is Grid true up down left right = ascii_is 0x3D up down left right (4, omega arith, refl)
sign_is Box false up down left right = light_is up down left right
sign_is Box true up down left right = double_is up down left right
sign_is Rule false up down left right = (0, omega arith, refl)
sign_is Rule true up down left right = (2, omega arith, refl)
sign_is Apart false up down left right = (0, omega arith, refl)
sign_is Apart true up down left right = (2, omega arith, refl)
