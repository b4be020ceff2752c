use Rattle.std.proofs.Common.{◌≡◌, ◌∷◌, ◌++◌, take}
use Rattle.std.specs.List.{flat_map}
use Rattle.tl_cert.specs.Pieces.{spell, character}
use Rattle.tl_cert.specs.Text.{space, bound_pieces}
use Rattle.tl_cert.proofs.writing.put_later_bounds.Given as goal

-- the items so far are appended
abbrev pub invariant-bounds : goal.invariant-bounds
invariant-bounds l = l.out ≡ l.fn.out ++ spell (flat_map (λ bound. character space ∷ bound_pieces bound)
    (take l.bound-index l.bounds))
