-- Numbers in a row, and groups of pieces one after the other.
use Rattle.std.proofs.Common.{◌≡◌, ◌∙◌, ℕ, ◌+◌, ◌-◌, List, [], ◌∷◌, ◌++◌, map, take, drop}
use Rattle.std.proofs.Common.{slice_range, sym, ap, subst, arith}
use Rattle.std.specs.List.{AllZip, range_with_len}
use Rattle.std.proofs.Math.Seq.{take-add}
use Rattle.std.proofs.lemmas.List.{map-id}
use Rattle.std.proofs.lemmas.List.FromFn.{map-range_with_len_more}
use Rattle.tl_base.proofs.Zips.{AllZip-append}

-- one more number
pub range_more : (n : ℕ) → range_with_len 0 (n + 1) ≡ range_with_len 0 n ++ n ∷ []
range_more n = sym (map-id (range_with_len 0 (n + 1))) ∙ map-range_with_len_more (λ m. m) 0 n n (omega arith)
    ∙ ap (λ numbers. numbers ++ n ∷ []) (map-id (range_with_len 0 n))

-- one more group
pub group_more : {X : Type 0} (R : ℕ → X → Type 0) (numbers : List ℕ) (from size : ℕ) (found more : List X) →
    AllZip R (take from numbers) found → AllZip R (slice_range numbers from (from + size)) more →
    AllZip R (take (from + size) numbers) (found ++ more)
group_more R numbers from size found more old new =
    subst (λ some. AllZip R some (found ++ more)) (sym (take-add from size numbers))
    (AllZip-append R (take from numbers) (take size (drop from numbers)) found more old
    (subst (λ n. AllZip R (take n (drop from numbers)) more) size_is new))
  where
    size_is : (from + size) - from ≡ size
    size_is = omega arith

-- results that are all Ok
pub all_ok : {A B C : Type 0} (R : A → C → Type 0) (f : B → C) (xs : List A) (ys : List B) (zs : List C) → zs ≡ map f ys →
    AllZip R xs zs → AllZip (λ x y. R x (f y)) xs ys
all_ok R f xs ys zs is all = AllZip-mapped R f xs ys (subst (AllZip R xs) is all)
  where
    AllZip-mapped : {A B C : Type 0} (R : A → C → Type 0) (f : B → C) (xs : List A) (ys : List B) → AllZip R xs (map f ys) →
        AllZip (λ x y. R x (f y)) xs ys
    AllZip-mapped R f [] [] all = tt
    AllZip-mapped R f [] (y ∷ ys) all = absurd all
    AllZip-mapped R f (x ∷ xs) [] all = absurd all
    AllZip-mapped R f (x ∷ xs) (y ∷ ys) all = (all.0, AllZip-mapped R f xs ys all.1)
