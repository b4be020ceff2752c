-- Whether a piece begins with a Glue, read from the left.
use Rattle.std.proofs.Common.{◌≡◌, Bool, true, false, ◌||◌, List, [], ◌∷◌, drop, refl}
use Rattle.std.specs.List.{list_any, onto_first}
use Rattle.tl_text.specs.declared.paragraph.Atom.{Atom}
use Rattle.tl_text.specs.declared.paragraph.Atom.TheVariants.{Word, Glue, Break}
use Rattle.tl_text.specs.Paragraph.{lined_pieces, begins_with_glue}

-- some piece of the rest begins with a Glue, where the flag says that a piece begins with the rest
abbrev pub leads : Bool → List Atom → Bool
leads begins [] = false
leads begins (Word text ∷ atoms) = leads false atoms
leads true (Glue text ∷ atoms) = true
leads false (Glue text ∷ atoms) = leads false atoms
leads begins (Break ∷ atoms) = leads true atoms

-- a unit before a piece decides whether that piece begins with a Glue
list_any-onto_first : (unit : Atom) (pieces : List (List Atom)) → list_any begins_with_glue (onto_first unit pieces)
    ≡ begins_with_glue (unit ∷ []) || list_any begins_with_glue (drop 1 pieces)
list_any-onto_first (Word text) [] = refl
list_any-onto_first (Glue text) [] = refl
list_any-onto_first Break [] = refl
list_any-onto_first (Word text) (piece ∷ pieces) = refl
list_any-onto_first (Glue text) (piece ∷ pieces) = refl
list_any-onto_first Break (piece ∷ pieces) = refl

drop-onto_first : (unit : Atom) (pieces : List (List Atom)) → drop 1 (onto_first unit pieces) ≡ drop 1 pieces
drop-onto_first unit [] = refl
drop-onto_first unit (piece ∷ pieces) = refl

-- the pieces that begin within the rest: all of them where one begins with it, and else all but the first
abbrev pub begun_pieces : Bool → List Atom → List (List Atom)
begun_pieces true atoms = lined_pieces atoms
begun_pieces false atoms = drop 1 (lined_pieces atoms)

-- read from the left, the flag is what the pieces say
pub leads_is : (begins : Bool) (atoms : List Atom) → leads begins atoms ≡ list_any begins_with_glue (begun_pieces begins atoms)
leads_is true [] = refl
leads_is false [] = refl
leads_is true (Word text ∷ atoms) = rw list_any-onto_first (leads_is false atoms)
leads_is false (Word text ∷ atoms) = rw drop-onto_first (leads_is false atoms)
leads_is true (Glue text ∷ atoms) = rw list_any-onto_first refl
leads_is false (Glue text ∷ atoms) = rw drop-onto_first (leads_is false atoms)
leads_is true (Break ∷ atoms) = leads_is true atoms
leads_is false (Break ∷ atoms) = leads_is true atoms
