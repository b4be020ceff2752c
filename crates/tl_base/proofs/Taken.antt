-- The first items of a list, and one more, which was looked up: as a loop over the list comes to its next item.
use Rattle.std.proofs.Common.{◌≡◌, ◌∙◌, ℕ, ◌+◌, ◌<◌, List, [], ◌∷◌, ◌++◌, length, get_or, take, sym, ap, subst}
use Rattle.std.specs.List.{AllZip, AllByRecursion, flat_map}
use Rattle.std.proofs.lemmas.List.{append-nil, take_more}
use Rattle.std.proofs.lemmas.List.Concat.{flat_map-append}
use Rattle.tl_base.proofs.Members.{AllByRecursion-append}
use Rattle.tl_base.proofs.Zips.{AllZip-push}

pub taken_more : {A : Type 0} (xs : List A) (i : ℕ) (d x : A) → i < length xs → x ≡ get_or xs i d →
    take (i + 1) xs ≡ take i xs ++ x ∷ []
taken_more xs i d x within is = take_more xs i d within ∙ ap (λ last. take i xs ++ last ∷ []) (sym is)

-- the lists of the first items joined, and that of one more
pub joined_more : {A B : Type 0} (f : A → List B) (xs : List A) (i : ℕ) (d x : A) → i < length xs → x ≡ get_or xs i d →
    flat_map f (take (i + 1) xs) ≡ flat_map f (take i xs) ++ f x
joined_more f xs i d x within is =
    ap (flat_map f) (taken_more xs i d x within is) ∙ flat_map-append f (take i xs) (x ∷ [])
    ∙ ap (λ last. flat_map f (take i xs) ++ last) (append-nil (f x))

-- what holds of each of the first items, and of one more
pub AllByRecursion-taken : {A : Type 0} (P : A → Type 0) (xs : List A) (i : ℕ) (d x : A) → i < length xs → x ≡ get_or xs i d →
    AllByRecursion P (take i xs) → P x → AllByRecursion P (take (i + 1) xs)
AllByRecursion-taken P xs i d x within is before here =
    subst (AllByRecursion P) (sym (taken_more xs i d x within is)) (AllByRecursion-append P (take i xs) (x ∷ []) before (here, tt))

-- what holds of the first items and others place by place, and of one pair more
pub AllZip-taken : {A B : Type 0} (R : A → B → Type 0) (xs : List A) (ys : List B) (i : ℕ) (d x : A) (y : B) → i < length xs →
    x ≡ get_or xs i d →
    AllZip R (take i xs) ys → R x y → AllZip R (take (i + 1) xs) (ys ++ y ∷ [])
AllZip-taken R xs ys i d x y within is before here =
    subst (λ first. AllZip R first (ys ++ y ∷ [])) (sym (taken_more xs i d x within is))
    (AllZip-push R (take i xs) ys x y before here)
