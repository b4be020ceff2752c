-- Lists of sides in an array that is longer.
use Rattle.std.proofs.Common.{◌≡◌, ◌∙◌, ◌<◌, ◌+◌, ◌-◌, ℕ, suc, List, ◌++◌, ◌∷◌, [], length, take, drop, replicate}
use Rattle.std.proofs.Common.{length-append, length-take-le, append_assoc, set, subst, sym, ap, arith}
use Rattle.std.proofs.Math.Seq.{drop-append-add}
use Rattle.std.proofs.lemmas.List.{drop-replicate, set_split, take_more_set}
use Rattle.tl_base.specs.declared.limits.TheConstants.{MAX_COLUMNS}
use Rattle.tl_sides.specs.declared.side.Side.{Side}
use Rattle.tl_sides.specs.declared.side.Side.TheVariants.{Left}
use Rattle.tl_sides.specs.inner.Padded.{padded}

-- past the first of the lefts there are lefts alone
drop-padded : (front : List Side) (count : ℕ) → length front ≡ count → drop (count + 1) (padded front)
    ≡ replicate (MAX_COLUMNS - (count + 1)) Left
drop-padded front count long =
    subst (λ n. drop (n + 1) (padded front) ≡ replicate (MAX_COLUMNS - (n + 1)) Left) long
    (drop-append-add front (replicate (MAX_COLUMNS - length front) Left) 1
    ∙ drop-replicate 1 (MAX_COLUMNS - length front) Left
    ∙ ap (λ n. replicate n Left) (omega arith))

-- a side in the place of the first left: one side more, and lefts after it
pub set-padded : (sides : List Side) (count : ℕ) (side : Side) → count < length sides → sides ≡ padded (take count sides)
    → set sides count side ≡ padded (take (count + 1) (set sides count side))
set-padded sides count side below kept =
    let front : List Side = take count sides in
    let long : length front ≡ count = length-take-le count sides (omega arith) in
    let rest : drop (count + 1) sides ≡ replicate (MAX_COLUMNS - length (front ++ side ∷ [])) Left =
    ap (λ s. drop (count + 1) s) kept ∙ drop-padded front count long
    ∙ ap (λ n. replicate n Left) (omega (arith, length-append front (side ∷ []), long)) in
    set_split sides count side below
    ∙ ap (λ s. front ++ side ∷ s) (subst (λ n. drop n sides ≡ replicate (MAX_COLUMNS - length (front ++ side ∷ [])) Left)
    (let e : count + 1 ≡ suc count = omega arith in e) rest)
    ∙ sym (append_assoc front (side ∷ []) (replicate (MAX_COLUMNS - length (front ++ side ∷ [])) Left))
    ∙ sym (ap padded (take_more_set sides count side below))
