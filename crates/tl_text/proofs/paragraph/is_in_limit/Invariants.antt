use Rattle.std.proofs.Common.{◌≡◌, ◌+◌, sum_by, take}
use Rattle.tl_base.specs.declared.limits.TheConstants.{MAX_FILE_BYTES}
use Rattle.tl_text.specs.Paragraph.{atom_size}
use Rattle.tl_text.proofs.paragraph.is_in_limit.Given as goal

-- what is left of the limit after the atoms so far
abbrev pub invariant-loop-atom : goal.invariant-loop-atom
invariant-loop-atom l = l.left + sum_by atom_size (take l.atom-index l.atoms) ≡ MAX_FILE_BYTES
