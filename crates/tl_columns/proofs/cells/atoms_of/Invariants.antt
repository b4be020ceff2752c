use Rattle.std.proofs.Common.{◌≡◌, map}
use Rattle.tl_text.specs.declared.paragraph.Atom.TheVariants.{Word}
use Rattle.tl_columns.proofs.cells.atoms_of.Given as goal

abbrev pub invariant-loop-word : goal.invariant-loop-word
invariant-loop-word l = l.atoms ≡ map Word l.yielded
