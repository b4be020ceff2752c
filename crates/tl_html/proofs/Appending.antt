-- A text that grows by what each item of a list stands for.
use Rattle.std.proofs.Common.{◌≡◌, ℕ, ◌+◌, ◌-◌, ◌<◌, suc, List, ◌++◌, length, take, get_or, sym, ap, ◌∙◌, arith, refl}
use Rattle.std.proofs.Common.{append_assoc}
use Rattle.std.specs.List.{flat_map, range_with_len}
use Rattle.tl_base.proofs.Taken.{joined_more}

-- one more item
pub grown_at : {X : Type 0} (f : X → List ℕ) (xs : List X) (i : ℕ) (d : X) (start old new : List ℕ) → i < length xs →
    old ≡ start ++ flat_map f (take i xs) → new ≡ old ++ f (get_or xs i d) → new ≡ start ++ flat_map f (take (i + 1) xs)
grown_at f xs i d start old new within before after =
    let item = get_or xs i d in
    after ∙ ap (λ text. text ++ f item) before ∙ append_assoc start (flat_map f (take i xs)) (f item)
    ∙ ap (λ text. start ++ text) (sym (joined_more f xs i d item within refl))

-- one more item, which was looked up
pub grown : {X : Type 0} (f : X → List ℕ) (xs : List X) (i : ℕ) (x : X) (start old new : List ℕ) → i < length xs →
    x ≡ get_or xs i x →
    old ≡ start ++ flat_map f (take i xs) → new ≡ old ++ f x → new ≡ start ++ flat_map f (take (i + 1) xs)
grown f xs i x start old new within item before after =
    grown_at f xs i x start old new within before (after ∙ ap (λ y. old ++ f y) item)

-- the first of the numbers that are left
pub next_number : (f : ℕ → List ℕ) (i n : ℕ) → i < n →
    flat_map f (range_with_len i (n - i)) ≡ f i ++ flat_map f (range_with_len (i + 1) (n - (i + 1)))
next_number f i n within =
    let left : n - i ≡ suc (n - (i + 1)) = omega arith in
    ap (λ count. flat_map f (range_with_len i count)) left

-- three parts
pub three_parts : (start a b c first second third : List ℕ) → first ≡ start ++ a → second ≡ first ++ b → third ≡ second ++ c →
    third ≡ start ++ (a ++ (b ++ c))
three_parts start a b c first second third one two three =
    three ∙ ap (λ text. text ++ c) (two ∙ ap (λ text. text ++ b) one) ∙ append_assoc (start ++ a) b c ∙ append_assoc start a
    (b ++ c)
