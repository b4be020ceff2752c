-- A paragraph's limit bounds each atom and their number.
use Rattle.std.proofs.Common.{ℕ, ◌≤◌, List, [], ◌∷◌, length, sum_by, arith}
use Rattle.std.specs.List.{All, AllByRecursion}
use Rattle.std.proofs.lemmas.List.Sums.{sum_by-cons}
use Rattle.std.proofs.lemmas.List.Elements.{All-from_recursion, recursion_from_All}
use Rattle.std.proofs.lemmas.Str.{length-le-encodes}
use Rattle.tl_base.specs.declared.limits.TheConstants.{MAX_FILE_BYTES}
use Rattle.tl_text.specs.declared.paragraph.Atom.{Atom}
use Rattle.tl_text.specs.declared.paragraph.Atom.TheVariants.{Word, Glue, Break}
use Rattle.tl_text.specs.Paragraph.{IsParagraph, IsSpeltAtom, atom_size}

within : (n : ℕ) (atoms : List Atom) → sum_by atom_size atoms ≤ n → AllByRecursion (λ atom. atom_size atom ≤ n) atoms
within n [] h = tt
within n (atom ∷ atoms) h =
    let sum = sum_by-cons atom_size atom atoms in
    (omega arith, within n atoms (omega arith))

-- no atom is larger than all of them
pub small_atoms : (atoms : List Atom) → IsParagraph atoms → All (λ atom. atom_size atom ≤ MAX_FILE_BYTES) atoms
small_atoms atoms is = All-from_recursion (λ atom. atom_size atom ≤ MAX_FILE_BYTES) atoms (within MAX_FILE_BYTES atoms is.size)

-- an atom that is spelt counts
pub counts : (atom : Atom) → IsSpeltAtom atom → 1 ≤ atom_size atom
counts (Word text) is = omega (arith, is.0, length-le-encodes text)
counts (Glue text) is = omega (arith, is.0, length-le-encodes text)
counts Break is = omega arith

pub length-le : (atoms : List Atom) → AllByRecursion IsSpeltAtom atoms → length atoms ≤ sum_by atom_size atoms
length-le [] is = omega arith
length-le (atom ∷ atoms) is = omega (arith, sum_by-cons atom_size atom atoms, counts atom is.0, length-le atoms is.1)

-- there are no more atoms than the limit
pub few_atoms : (atoms : List Atom) → IsParagraph atoms → length atoms ≤ MAX_FILE_BYTES
few_atoms atoms is = omega (arith, is.size, length-le atoms (recursion_from_All IsSpeltAtom atoms is.spelt))
