use Rattle.std.proofs.Common.{◌≡◌, ◌++◌, take}
use Rattle.std.specs.List.{flat_map}
use Rattle.tl_cert.specs.Pieces.{spell}
use Rattle.tl_cert.specs.Text.{spaced}
use Rattle.tl_base.specs.declared.limits.TheConstants.{MAX_PAGE_WIDTH}
use Rattle.tl_cert.proofs.writing.put_widths.Given as goal

-- the items so far are appended
abbrev pub invariant-widths : goal.invariant-widths
invariant-widths l = l.out ≡ l.fn.out ++ spell (flat_map (spaced MAX_PAGE_WIDTH) (take l.width-index l.widths))
