use Rattle.std.proofs.Common.{◌≡◌, ◌++◌, take}
use Rattle.std.specs.List.{flat_map}
use Rattle.tl_cert.specs.Pieces.{spell}
use Rattle.tl_cert.specs.Text.{line_pieces}
use Rattle.tl_cert.proofs.writing.put_lines.Given as goal

-- the items so far are appended
abbrev pub invariant-lines : goal.invariant-lines
invariant-lines l = l.out ≡ l.fn.out ++ spell (flat_map line_pieces (take l.line-index l.lines))
