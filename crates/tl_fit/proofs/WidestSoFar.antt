-- The widest of the units of the first items of a list, of cells or of blocks: of one more, and of all.
use Rattle.std.proofs.Common.{◌≡◌, ◌∙◌, ℕ, ◌+◌, ◌<◌, ◌≤◌, List, [], ◌∷◌, ◌++◌, length, max, take, get_or, sym, ap}
use Rattle.std.specs.List.{flat_map}
use Rattle.std.proofs.lemmas.Grind.{flat_map-append}
use Rattle.std.proofs.lemmas.List.{append-nil, take_all, take_more}
use Rattle.tl_text.specs.declared.paragraph.Atom.{Atom}
use Rattle.tl_text.specs.Widest.{widest_within}
use Rattle.tl_text.proofs.WidestLemmas.{widest_within-append}

module _ {X : Type 0} (most : ℕ) (units : X → List Atom) where
  -- with one more item the widest is the wider of that so far and that of the item's units
  pub widest_more : (xs : List X) (i : ℕ) (x : X) → i < length xs → x ≡ get_or xs i x →
      widest_within most (flat_map units (take (i + 1) xs))
      ≡ max (widest_within most (flat_map units (take i xs))) (widest_within most (units x))
  widest_more xs i x within is =
      ap (λ (ys : List X). widest_within most (flat_map units ys)) (take_more xs i x within)
      ∙ ap (λ (y : X). widest_within most (flat_map units (take i xs ++ y ∷ []))) (sym is)
      ∙ ap (widest_within most) (flat_map-append units (take i xs) (x ∷ []))
      ∙ ap (λ (last : List Atom). widest_within most (flat_map units (take i xs) ++ last)) (append-nil (units x))
      ∙ widest_within-append most (flat_map units (take i xs)) (units x)

  -- past the last item the widest so far is that of the units of all items
  pub widest_all : (xs : List X) (i : ℕ) → length xs ≤ i →
      widest_within most (flat_map units (take i xs)) ≡ widest_within most (flat_map units xs)
  widest_all xs i end = ap (λ (ys : List X). widest_within most (flat_map units ys)) (take_all i xs end)
