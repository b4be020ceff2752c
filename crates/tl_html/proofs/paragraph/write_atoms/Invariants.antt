use Rattle.std.proofs.Common.{◌≡◌, ◌++◌, drop, false}
use Rattle.tl_html.specs.Html.{atoms_html}
use Rattle.tl_html.proofs.paragraph.write_atoms.Given as goal

abbrev pub invariant-loop-atom : goal.invariant-loop-atom
invariant-loop-atom l = l.out ++ atoms_html l.follows (drop l.atom-index l.atoms) ≡ l.initial.out ++ atoms_html false l.atoms
