-- Open zones as a heap keeps them, each with its bound. No public clause cites this file.
use Rattle.std.specs.Prelude.{◌≡◌, ◌≤◌, ◌∷◌, ℕ, List, IsPermutation, Option, Some, None}
use Rattle.std.specs.List.{All}
use Rattle.std.specs.declared.cmp.Ordering.{Ordering}
use Rattle.std.specs.declared.cmp.Reverse.{Reverse}
use Rattle.std.specs.Ordering.{nat_cmp, ordering_then}

-- the type of an open zone with its bound: the lower of two bounds is the greater entry, so that a heap gives it first
abbrev pub HeapEntry : Type 0
HeapEntry = Reverse ℕ × ℕ

-- the zone with this number and this bound
abbrev pub entry : ℕ → ℕ → HeapEntry
entry bound zone = (record { 0 = bound }, zone)

-- the bound that an entry keeps
abbrev pub bound_in : HeapEntry → ℕ
bound_in e = e.0.0

-- the number of the zone that an entry keeps
abbrev pub zone_in : HeapEntry → ℕ
zone_in e = e.1

-- how two entries compare: the less is that of the greater bound, or of the lower number where the bounds are the same
abbrev pub compare_entries : HeapEntry → HeapEntry → Ordering
compare_entries a b = ordering_then (nat_cmp (bound_in b) (bound_in a)) (nat_cmp (zone_in a) (zone_in b))

-- the zone was taken out of the old entries, and no entry that is left has a lower bound
pub record IsTakenOut (old : List HeapEntry) (zone : ℕ) (left : List HeapEntry) : Type 0 where
  pub bound : ℕ
  pub taken : IsPermutation old (entry bound zone ∷ left)
  pub least : All (λ other. bound ≤ bound_in other) left

-- the zone joined the old entries where it has a bound, and nothing changed where it has none
abbrev pub IsAdded : ℕ → Option ℕ → List HeapEntry → List HeapEntry → Type 0
IsAdded zone None old new = new ≡ old
IsAdded zone (Some bound) old new = IsPermutation (entry bound zone ∷ old) new
