use Rattle.std.proofs.Common.{◌≡◌, ◌++◌, take}
use Rattle.std.specs.List.{flat_map}
use Rattle.tl_cert.specs.Pieces.{spell}
use Rattle.tl_cert.specs.Text.{fire_pieces}
use Rattle.tl_cert.proofs.writing.put_fires.Given as goal

-- the items so far are appended
abbrev pub invariant-fires : goal.invariant-fires
invariant-fires l = l.out ≡ l.fn.out ++ spell (flat_map fire_pieces (take l.line-index l.fires))
