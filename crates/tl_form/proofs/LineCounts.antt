-- A paragraph has no more lines than units and breaks, and so no more than it counts.
use Rattle.std.proofs.Common.{◌≡◌, ℕ, ◌+◌, ◌≤◌, max, List, [], ◌∷◌, length, sum_by, refl, ap, length-append, arith}
use Rattle.std.specs.List.{AllZip, AllByRecursion, onto_first}
use Rattle.std.proofs.lemmas.List.Sums.{sum_by-cons}
use Rattle.std.proofs.lemmas.List.Concat.{flat_map-cons}
use Rattle.std.proofs.lemmas.List.Elements.{recursion_from_All}
use Rattle.tl_text.specs.declared.paragraph.Atom.{Atom}
use Rattle.tl_text.specs.declared.paragraph.Atom.TheVariants.{Word, Glue, Break}
use Rattle.tl_text.specs.Cuttings.{IsPieceCut, LeastLines, joined}
use Rattle.tl_text.specs.Paragraph.{IsParagraph, IsSpeltAtom, atom_size, lined_pieces}
use Rattle.tl_text.proofs.Sizes.{length-le}

-- lines with units, joined, have no fewer units than they are lines
lines-few : (lines : List (List Atom)) → AllByRecursion (λ line. line ≡ [] → ⊥) lines → length lines ≤ length (joined lines)
lines-few [] some = omega arith
lines-few ([] ∷ lines) some = absurd (some.0 refl)
lines-few ((unit ∷ line) ∷ lines) some =
    omega (
      arith,
      lines-few lines some.1,
      ap length (flat_map-cons (λ (one : List Atom). one) (unit ∷ line) lines),
      length-append (unit ∷ line) (joined lines),
    )

-- a piece counts its units, and an empty one 1
abbrev piece_count : List Atom → ℕ
piece_count piece = max 1 (length piece)

piece-few : (piece : List Atom) (lines : List (List Atom)) → IsPieceCut piece lines → length lines ≤ piece_count piece
piece-few [] lines is = omega (arith, ap length is)
piece-few (unit ∷ units) lines is = omega (arith, lines-few lines is.0, ap length is.1)

pieces-few : (pieces : List (List Atom)) (cut : List (List (List Atom))) → AllZip IsPieceCut pieces cut →
    length (joined cut) ≤ sum_by piece_count pieces
pieces-few [] [] is = omega arith
pieces-few [] (lines ∷ cut) is = absurd is
pieces-few (piece ∷ pieces) [] is = absurd is
pieces-few (piece ∷ pieces) (lines ∷ cut) is =
    omega (
      arith,
      ap length (flat_map-cons (λ (one : List (List Atom)). one) lines cut),
      length-append lines (joined cut),
      sum_by-cons piece_count piece pieces,
      piece-few piece lines is.0,
      pieces-few pieces cut is.1,
    )

first-count : (unit : Atom) (pieces : List (List Atom)) → sum_by piece_count
    (onto_first unit pieces) ≤ 1 + sum_by piece_count pieces
first-count unit [] = omega (arith, sum_by-cons piece_count (unit ∷ []) [])
first-count unit (piece ∷ pieces) = omega (
  arith,
  sum_by-cons piece_count (unit ∷ piece) pieces,
  sum_by-cons piece_count piece pieces,
)

pieces-count : (atoms : List Atom) → sum_by piece_count (lined_pieces atoms) ≤ length atoms
pieces-count [] = omega arith
pieces-count (Break ∷ atoms) = omega (arith, sum_by-cons piece_count [] (lined_pieces atoms), pieces-count atoms)
pieces-count (Word text ∷ atoms) = omega (arith, first-count (Word text) (lined_pieces atoms), pieces-count atoms)
pieces-count (Glue text ∷ atoms) = omega (arith, first-count (Glue text) (lined_pieces atoms), pieces-count atoms)

-- the least number of lines is no more than what the paragraph counts
pub lines-le : (atoms : List Atom) (w n : ℕ) → IsParagraph atoms → LeastLines w atoms n → n ≤ sum_by atom_size atoms
lines-le atoms w n is least =
    let cut = least.attained in
    omega (
      arith,
      cut.3,
      pieces-few (lined_pieces atoms) cut.0 cut.1,
      pieces-count atoms,
      length-le atoms (recursion_from_All IsSpeltAtom atoms is.spelt),
    )
