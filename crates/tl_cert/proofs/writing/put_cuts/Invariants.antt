use Rattle.std.proofs.Common.{◌≡◌, ◌++◌, take}
use Rattle.std.specs.List.{flat_map}
use Rattle.tl_cert.specs.Pieces.{spell}
use Rattle.tl_cert.specs.Text.{cut_pieces}
use Rattle.tl_cert.proofs.writing.put_cuts.Given as goal

-- the items so far are appended
abbrev pub invariant-cuts : goal.invariant-cuts
invariant-cuts l = l.out ≡ l.fn.out ++ spell (flat_map cut_pieces (take l.cut-index l.cuts))
