use Rattle.std.proofs.Common.{◌≡◌, ◌∷◌, ◌++◌, take}
use Rattle.std.specs.List.{flat_map}
use Rattle.tl_cert.specs.Pieces.{spell, character}
use Rattle.tl_cert.specs.Text.{space, entry_pieces}
use Rattle.tl_cert.proofs.writing.put_entries.Given as goal

-- the items so far are appended
abbrev pub invariant-entries : goal.invariant-entries
invariant-entries l =
    l.out ≡ l.fn.out ++ spell (flat_map (λ entry. character space ∷ entry_pieces entry) (take l.entry-index l.entries))
