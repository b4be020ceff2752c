-- Numbers in a row, one more at the end.
use Rattle.std.proofs.Common.{◌≡◌, ℕ, ◌+◌, zero, suc, [], ◌∷◌, ◌++◌, map, ◌∙◌, ap, arith}
use Rattle.std.specs.List.{range_with_len}

pub map-range_more : {X : Type 0} (f : ℕ → X) (a k : ℕ) →
    map f (range_with_len a (k + 1)) ≡ map f (range_with_len a k) ++ f (a + k) ∷ []
map-range_more f a zero = let same : a ≡ a + 0 = omega arith in ap (λ x. f x ∷ []) same
map-range_more f a (suc k) =
    let more : suc k + 1 ≡ suc (k + 1) = omega arith in
    let last : a + 1 + k ≡ a + suc k = omega arith in
    rw more (ap (λ rest. f a ∷ rest) (map-range_more f (a + 1) k ∙ ap (λ x. map f (range_with_len (a + 1) k) ++ f x ∷ []) last))
