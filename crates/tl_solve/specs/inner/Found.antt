-- What the private functions of this crate find of a trace. No public clause cites this file.
use Rattle.std.specs.Prelude.{◌≡◌, ℕ, ◌+◌, ◌*◌, ◌<◌, ◌≤◌, min, List, length, get_or, Option, Some, None}

-- both parts of each cut have numbers up to `last`
abbrev pub ArePartsThere : ℕ → List (Option ℕ) → Type 0
ArePartsThere last cuts = (z : ℕ) (d : Option ℕ) (cut : ℕ) → z < length cuts → get_or cuts z d ≡ Some cut → 2 * cut + 2 ≤ last

-- a number, or the bound of a zone that nothing closes, where it has one that is less
abbrev pub least_with : ℕ → Option ℕ → Option ℕ → ℕ
least_with least (Some closer) bound = least
least_with least None None = least
least_with least None (Some bound) = min least bound
