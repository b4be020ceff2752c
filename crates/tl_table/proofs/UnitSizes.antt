-- A paragraph whose words are in pieces counts what it counted.
use Rattle.std.proofs.Common.{◌≡◌, List, sum_by, refl}
use Rattle.tl_base.specs.declared.breaking.Breaking.{Breaking}
use Rattle.tl_base.specs.declared.breaking.Breaking.TheVariants.{Words, Wider}
use Rattle.tl_text.specs.declared.paragraph.Atom.{Atom}
use Rattle.tl_text.specs.Paragraph.{atom_size}
use Rattle.tl_text.proofs.PartLemmas.{size-broken}
use Rattle.tl_table.specs.Formed.{broken}

pub broken_size : (breaking : Breaking) (atoms : List Atom) → sum_by atom_size (broken breaking atoms) ≡ sum_by atom_size atoms
broken_size Words atoms = refl
broken_size (Wider most) atoms = size-broken most atoms
