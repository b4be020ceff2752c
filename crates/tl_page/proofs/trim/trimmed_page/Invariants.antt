-- The bytes of the lines so far.
use Rattle.std.proofs.Common.{◌≡◌, take}
use Rattle.std.specs.List.{flat_map}
use Rattle.tl_page.proofs.TrimLaws.{trimmed_line}
use Rattle.tl_page.proofs.trim.trimmed_page.Given as goal

abbrev pub invariant-loop-line : goal.invariant-loop-line
invariant-loop-line l = l.bytes ≡ flat_map trimmed_line (take l.line-index l.line-items)
