use Rattle.std.proofs.Common.{◌≡◌, ◌++◌, take}
use Rattle.std.specs.List.{flat_map}
use Rattle.tl_cert.specs.Pieces.{spell}
use Rattle.tl_cert.specs.Text.{section_pieces}
use Rattle.tl_cert.proofs.writing.put_sections.Given as goal

-- the items so far are appended
abbrev pub invariant-sections : goal.invariant-sections
invariant-sections l = l.out ≡ l.fn.out ++ spell (flat_map section_pieces (take l.section-index l.sections))
