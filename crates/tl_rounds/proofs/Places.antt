-- What the pieces of numbered places give, place by place.
use Rattle.std.proofs.Common.{◌≡◌, ◌∙◌, ℕ, ◌<◌, List, length, get_or, subst, arith}
use Rattle.std.specs.List.{AllZip, range_with_len}
use Rattle.std.proofs.lemmas.List.FromFn.{length-range_with_len, get_or-range_with_len}
use Rattle.std.proofs.lemmas.List.{get_or_default}
use Rattle.tl_base.proofs.Zips.{AllZip-get_or, AllZip-length, AllZip-from_places}

-- what holds of each place by its number holds place by place
pub by-numbers : {A B : Type 0} (R : A → B → Type 0) (xs : List A) (ys : List B) (n : ℕ) (d : A) → n ≡ length xs →
    AllZip (λ number y. R (get_or xs number d) y) (range_with_len 0 n) ys → AllZip R xs ys
by-numbers {A} {B} R xs ys n d count all =
    let S : ℕ → B → Type 0 = λ number y. R (get_or xs number d) y in
    let many : length (range_with_len 0 n) ≡ length ys = AllZip-length S (range_with_len 0 n) ys all in
    AllZip-from_places R xs ys (omega (arith, count, many, length-range_with_len 0 n)) (λ i e y within.
    let here : i < n = omega (arith, within, count) in
    let at : get_or (range_with_len 0 n) i 0 ≡ i = get_or-range_with_len 0 n i 0 here ∙ omega arith in
    subst (λ x. R x (get_or ys i y)) (get_or_default xs i d e within)
    (subst (λ k. R (get_or xs k d) (get_or ys i y)) at
    (AllZip-get_or S (range_with_len 0 n) ys i 0 y all (omega (arith, here, length-range_with_len 0 n)))))
