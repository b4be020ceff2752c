-- Arguments and the bytes that each spells, in their places.
use Rattle.std.proofs.Common.{◌≡◌, ℕ, ◌+◌, ◌<◌, List, [], ◌∷◌, length, get_or, map, take, sym, ap, subst, ◌∙◌, arith}
use Rattle.std.specs.List.{All}
use Rattle.std.proofs.lemmas.List.{get_or-map, length-map}
use Rattle.std.proofs.lemmas.List.Elements.{All-more}

-- what the argument in its place spells
pub word_at : {X : Type 0} (word : X → List ℕ) (xs : List X) (i : ℕ) (x : X) (spelled d : List ℕ) → i < length xs →
    x ≡ get_or xs i x → spelled ≡ word x → spelled ≡ get_or (map word xs) i d
word_at word xs i x spelled d within is same = same ∙ ap word is ∙ sym (get_or-map word xs i x d within)

-- what is so of all before it and of it is so of one more
pub all_more : {X : Type 0} (P : List ℕ → Type 0) (word : X → List ℕ) (xs : List X) (i : ℕ) (x : X) (spelled : List ℕ) →
    i < length xs → x ≡ get_or xs i x → spelled ≡ word x → All P (take i (map word xs)) → P spelled →
    All P (take (i + 1) (map word xs))
all_more P word xs i x spelled within is same before here =
    All-more P (map word xs) i [] (omega (arith, length-map xs word)) before
    (subst P (word_at word xs i x spelled [] within is same) here)

-- what arguments spell, the first and the others
pub words_cons : {X : Type 0} (word : X → List ℕ) (xs : List X) (x : X) (later : List X) (spelled : List ℕ) → xs ≡ x ∷ later →
    spelled ≡ word x → map word xs ≡ spelled ∷ map word later
words_cons word xs x later spelled is same = ap (map word) is ∙ ap (λ w. w ∷ map word later) (sym same)
