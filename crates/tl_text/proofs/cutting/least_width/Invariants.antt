use Rattle.std.proofs.Common.{◌≤◌, ◌*◌, ℕ, take, sum_by}
use Rattle.tl_text.specs.Paragraph.{atom_size}
use Rattle.tl_text.proofs.Paragraphs.{AllFit}
use Rattle.tl_text.proofs.cutting.least_width.Given as goal

-- the atoms so far fit in `widest` columns, and in no less; it is small beside their bytes
abbrev pub invariant-loop-atom : goal.invariant-loop-atom
invariant-loop-atom l =
    AllFit l.widest (take l.atom-index l.atoms) × ((w : ℕ) → AllFit w (take l.atom-index l.atoms) → l.widest ≤ w)
    × (l.widest ≤ 2 * sum_by atom_size (take l.atom-index l.atoms))
