-- Steps two lines lower, counted by hand: three words of two columns need three lines in 2 columns, two in 5 and one in 8. With
-- two lines inside their cell they need one line of its rows, and from 5 columns on none.
use Rattle.std.proofs.Common.{ℕ, ◌+◌, ◌<◌, zero, suc, List, [], ◌∷◌, get_or, refl, arith}
use Rattle.std.proofs.lemmas.List.Elements.{All-from_recursion}
use Rattle.tl_base.specs.declared.steps.Config.{Config}
use Rattle.tl_base.specs.Steps.{AreSteps}
use Rattle.tl_base.proofs.Decreasing.{Falls, no_step}
use Rattle.tl_base.proofs.Members.{AllPairs-none, AllPairs-cons}
use Rattle.tl_form.specs.inner.CellSteps.{AreLowered}
use Rattle.tl_form.proofs.LoweredSteps.{lowered-all}

abbrev step : ℕ → ℕ → Config
step width height = record { width = width; height = height }

abbrev words : List Config
words = step 2 3 ∷ step 5 2 ∷ step 8 1 ∷ []

are-words : AreSteps words
are-words = record {
  has_step = omega arith;
  decreasing = AllPairs-cons Falls (step 2 3) (step 5 2 ∷ step 8 1 ∷ [])
      (All-from_recursion (Falls (step 2 3)) (step 5 2 ∷ step 8 1 ∷ [])
      ((omega arith, omega arith), ((omega arith, omega arith), tt)))
      (AllPairs-cons Falls (step 5 2) (step 8 1 ∷ []) (All-from_recursion (Falls (step 5 2)) (step 8 1 ∷ [])
      ((omega arith, omega arith), tt))
      (AllPairs-cons Falls (step 8 1) [] (All-from_recursion (Falls (step 8 1)) [] tt) (AllPairs-none Falls)));
}

-- of the two steps that come to no line the first alone stays
two_lower : AreLowered 2 words (step 2 1 ∷ step 5 0 ∷ [])
two_lower = lowered-all words are-words 2 2 (step 2 1 ∷ step 5 0 ∷ []) refl (omega arith) (omega arith) high (λ short. omega arith)
  where
    high : (k : ℕ) → k + 1 < 2 → 2 < (get_or words k no_step).height
    high zero less = omega arith
    high (suc k) less = absurd (omega (arith, less))
