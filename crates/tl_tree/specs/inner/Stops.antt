-- Why reading stops at a token. No public clause cites this file.
use Rattle.std.specs.Prelude.{◌≡◌, ◌⊎◌, alloc_error}
use Rattle.tl_tree.specs.declared.stop.Stop.{Stop}
use Rattle.tl_tree.specs.declared.stop.Stop.TheVariants.{Memory, Misfit}

-- memory ran out, or no document goes on with the token, which has that cause
abbrev pub IsMisfitOr : Type 0 → Stop → Type 0
IsMisfitOr Cause stop = (stop ≡ Memory alloc_error) ⊎ ((stop ≡ Misfit) × Cause)
