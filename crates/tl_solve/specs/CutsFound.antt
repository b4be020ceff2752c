-- Which cut each zone of a trace has.
use Rattle.std.specs.Prelude.{◌≡◌, ◌≢◌, ℕ, ◌+◌, ◌*◌, ◌<◌, List, length, get_or, Option, MatchOption}
use Rattle.tl_cert.specs.declared.trace.CutAt.{CutAt}

-- the cut of a zone among the first cuts of a trace, none where these leave it
abbrev pub IsCutFound : List CutAt → ℕ → ℕ → Option ℕ → Type 0
IsCutFound trace upto z found = MatchOption found
    ((i : ℕ) (d : CutAt) → i < upto → (get_or trace i d).zone ≢ z)
    (λ i. (i < upto) × ((d : CutAt) → (get_or trace i d).zone ≡ z))

-- the cuts of the zones of a trace, among its first ones
pub record AreCutsOf (trace : List CutAt) (upto : ℕ) (cuts : List (Option ℕ)) : Type 0 where
  pub count : length cuts ≡ 2 * length trace + 1
  pub each : (z : ℕ) (d : Option ℕ) → z < length cuts → IsCutFound trace upto z (get_or cuts z d)
