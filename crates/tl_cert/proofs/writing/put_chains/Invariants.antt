use Rattle.std.proofs.Common.{◌≡◌, ◌++◌, take}
use Rattle.std.specs.List.{flat_map}
use Rattle.tl_cert.specs.Pieces.{spell}
use Rattle.tl_cert.specs.Text.{chain_pieces}
use Rattle.tl_cert.proofs.writing.put_chains.Given as goal

-- the items so far are appended
abbrev pub invariant-chains : goal.invariant-chains
invariant-chains l = l.out ≡ l.fn.out ++ spell (flat_map chain_pieces (take l.chain-index l.chains))
