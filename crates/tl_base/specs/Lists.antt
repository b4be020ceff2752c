-- Lists of numbers.
use Rattle.std.specs.Prelude.{ℕ, Bool, false, ◌||◌, List, [], ◌∷◌, ◌==◌}

-- whether `n` is one of the numbers; with a single one it is compared once
abbrev pub is_among : List ℕ → ℕ → Bool
is_among [] n = false
is_among (number ∷ []) n = n == number
is_among (number ∷ another ∷ others) n = n == number || is_among (another ∷ others) n
