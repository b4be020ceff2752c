-- Facts on desks in memory.
use Rattle.std.proofs.Common.{◌≡◌, ℕ, List, ap, ◌∙◌, Some, None}
use Rattle.tl_base.specs.Desk.{Files}

-- a file that was found is not missing
pub found_is_there : (old new : Files) (name file : List ℕ) → new ≡ old → Some file ≡ new name → old name ≡ None → ⊥
found_is_there old new name file same found missing =
    let there : Some file ≡ old name = found ∙ ap (λ held. held name) same in cc
