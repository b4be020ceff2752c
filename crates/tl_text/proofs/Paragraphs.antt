-- From pieces to paragraphs: the greedy cutting is one, no other has fewer lines, and one holds
-- just where no unit is too wide.
use Rattle.std.proofs.Common.{◌≡◌, ℕ, ◌+◌, ◌≤◌, ◌<◌, suc, List, [], ◌∷◌, ◌++◌, length, take, get_or, map, refl, sym, ap}
use Rattle.std.proofs.Common.{subst, arith, length-append}
use Rattle.std.specs.List.{AllByRecursion, AllZip, onto_first}
use Rattle.std.proofs.lemmas.List.Concat.{flat_map-append}
use Rattle.tl_text.specs.declared.paragraph.Atom.{Atom}
use Rattle.tl_text.specs.declared.paragraph.Atom.TheVariants.{Word, Glue, Break}
use Rattle.tl_text.specs.Paragraph.{unit_width, gap_before, lined_pieces}
use Rattle.tl_text.specs.Cuttings.{line_width, joined, IsPieceCut, IsCutting, HoldsIn, HasCutting, FillsLines, IsGreedyCutting}
use Rattle.tl_text.specs.Cuttings.{LeastLines}
use Rattle.tl_text.specs.inner.Measure.{measure_of, unit_columns}
use Rattle.tl_base.proofs.Members.{AllByRecursion-append, AllByRecursion-prefix, AllByRecursion-suffix}
use Rattle.tl_base.proofs.Taken.{taken_more}
use Rattle.tl_text.proofs.Widths.{units_within, at_choice}
use Rattle.tl_text.proofs.Greedy.{piece_lines, more, more-least, fill-joined, fill-some, fill-holds, fill-filled, fill-length}
use Rattle.tl_text.proofs.Greedy.{line_width-single}

-- ---- what holds of each item of lists

module _ {X : Type 0} (P : X → Type 0) where
  -- of the items of a list's lists
  pub all-joined : (lists : List (List X)) → AllByRecursion (AllByRecursion P) lists → AllByRecursion P (joined lists)
  all-joined [] each = tt
  all-joined (list ∷ lists) each = AllByRecursion-append P list (joined lists) each.0 (all-joined lists each.1)

  pub all-onto : (x : X) (parts : List (List X)) → P x → AllByRecursion (AllByRecursion P) parts →
      AllByRecursion (AllByRecursion P) (onto_first x parts)
  all-onto x [] here each = ((here, tt), tt)
  all-onto x (part ∷ parts) here each = ((here, each.0), each.1)

  pub all-off : (x : X) (parts : List (List X)) → AllByRecursion (AllByRecursion P) (onto_first x parts) →
      P x × AllByRecursion (AllByRecursion P) parts
  all-off x [] each = (each.0.0, tt)
  all-off x (part ∷ parts) each = (each.0.0, (each.0.1, each.1))

pub joined-append : {X : Type 0} → (xs ys : List (List X)) → joined (xs ++ ys) ≡ joined xs ++ joined ys
joined-append xs ys = flat_map-append (λ list. list) xs ys

-- ---- units and pieces

-- no atom is wider than `w`
abbrev pub AllFit : ℕ → List Atom → Type 0
AllFit w atoms = AllByRecursion (λ atom. unit_width atom ≤ w) atoms

-- then no unit of a piece is
pub pieces-fit : (w : ℕ) (atoms : List Atom) → AllFit w atoms → AllByRecursion (AllFit w) (lined_pieces atoms)
pieces-fit w [] each = tt
pieces-fit w (Break ∷ atoms) each = (tt, pieces-fit w atoms each.1)
pieces-fit w (unit ∷ atoms) each = all-onto (λ atom. unit_width atom ≤ w) unit (lined_pieces atoms) each.0
    (pieces-fit w atoms each.1)

-- and the other way round, as a break takes no column
pub atoms-fit : (w : ℕ) (atoms : List Atom) → AllByRecursion (AllFit w) (lined_pieces atoms) → AllFit w atoms
atoms-fit w [] each = tt
atoms-fit w (Break ∷ atoms) each = (omega arith, atoms-fit w atoms each.1)
atoms-fit w (unit ∷ atoms) each =
    let parts = all-off (λ atom. unit_width atom ≤ w) unit (lined_pieces atoms) each in
    (parts.0, atoms-fit w atoms parts.1)

-- ---- the greedy cutting

abbrev pub greedy_cut : ℕ → List Atom → List (List (List Atom))
greedy_cut w atoms = map (piece_lines w) (lined_pieces atoms)

piece-cut : (w : ℕ) (piece : List Atom) → IsPieceCut piece (piece_lines w piece)
piece-cut w [] = refl
piece-cut w (unit ∷ units) = (fill-some w unit [] units, fill-joined w (unit ∷ []) units)

pieces-cut : (w : ℕ) (pieces : List (List Atom)) → AllZip IsPieceCut pieces (map (piece_lines w) pieces)
pieces-cut w [] = tt
pieces-cut w (piece ∷ pieces) = (piece-cut w piece, pieces-cut w pieces)

piece-holds : (w : ℕ) (piece : List Atom) → AllFit w piece → AllByRecursion (λ line. line_width line ≤ w) (piece_lines w piece)
piece-holds w [] each = (omega arith, tt)
piece-holds w (unit ∷ units) each = fill-holds w (unit ∷ []) units (omega (arith, line_width-single unit, each.0)) each.1

pieces-hold : (w : ℕ) (pieces : List (List Atom)) → AllByRecursion (AllFit w) pieces → HoldsIn w (map (piece_lines w) pieces)
pieces-hold w [] each = tt
pieces-hold w (piece ∷ pieces) each =
    AllByRecursion-append (λ line. line_width line ≤ w) (piece_lines w piece) (joined (map (piece_lines w) pieces))
    (piece-holds w piece each.0)
    (pieces-hold w pieces each.1)

pieces-filled : (w : ℕ) (pieces : List (List Atom)) → AllByRecursion (FillsLines w) (map (piece_lines w) pieces)
pieces-filled w [] = tt
pieces-filled w ([] ∷ pieces) = (tt, pieces-filled w pieces)
pieces-filled w ((unit ∷ units) ∷ pieces) = (fill-filled w unit [] units, pieces-filled w pieces)

pub greedy_cut-IsGreedyCutting : (w : ℕ) (atoms : List Atom) → AllFit w atoms → IsGreedyCutting w atoms (greedy_cut w atoms)
greedy_cut-IsGreedyCutting w atoms each = record {
  cutting = pieces-cut w (lined_pieces atoms);
  holds = pieces-hold w (lined_pieces atoms) (pieces-fit w atoms each);
  filled = pieces-filled w (lined_pieces atoms);
}

-- ---- no cutting has fewer lines

piece-least : (w : ℕ) (piece : List Atom) (lines : List (List Atom)) → IsPieceCut piece lines →
    AllByRecursion (λ line. line_width line ≤ w) lines
    → length (piece_lines w piece) ≤ length lines
piece-least w [] lines cut holds = omega (arith, ap length cut)
piece-least w (unit ∷ units) lines cut holds =
    -- a full line before it: the first unit begins another
    let rest : more w (suc w) (unit ∷ units) ≤ length lines =
    subst (λ all. more w (suc w) all ≤ length lines) cut.1 (more-least w lines cut.0 holds (suc w)) in
    let begun : 1 + more w (unit_width unit) units ≡ more w (suc w) (unit ∷ units) =
    at_choice (λ m. 1 + more w (unit_width unit) units ≡ m) (suc w + gap_before unit + unit_width unit) w _ _
    (λ fits. absurd (omega arith))
    (λ over. refl) in
    omega (arith, fill-length w unit [] units, ap (λ used. more w used units) (line_width-single unit))

pieces-least : (w : ℕ) (pieces : List (List Atom)) (cut : List (List (List Atom))) → AllZip IsPieceCut pieces cut → HoldsIn w cut
    → length (joined (map (piece_lines w) pieces)) ≤ length (joined cut)
pieces-least w [] cut is holds = omega arith
pieces-least w (piece ∷ pieces) [] is holds = absurd is
pieces-least w (piece ∷ pieces) (lines ∷ cut) is holds =
    let here = piece-least w piece lines is.0 (AllByRecursion-prefix (λ line. line_width line ≤ w) lines (joined cut) holds) in
    let there = pieces-least w pieces cut is.1 (AllByRecursion-suffix (λ line. line_width line ≤ w) lines (joined cut) holds) in
    omega (arith, length-append lines (joined cut), length-append (piece_lines w piece) (joined (map (piece_lines w) pieces)))

-- the greedy cutting has the least number of lines
pub greedy_cut-least : (w : ℕ) (atoms : List Atom) → AllFit w atoms → LeastLines w atoms (length (joined (greedy_cut w atoms)))
greedy_cut-least w atoms each =
    let greedy = greedy_cut-IsGreedyCutting w atoms each in
    record {
      attained = (greedy_cut w atoms, greedy.cutting, greedy.holds, refl);
      least = λ cut is holds. pieces-least w (lined_pieces atoms) cut is holds;
    }

-- ---- where a cutting holds, no unit is too wide

lines-fit : (w : ℕ) (lines : List (List Atom)) → AllByRecursion (λ line. line_width line ≤ w) lines → AllFit w (joined lines)
lines-fit w [] holds = tt
lines-fit w (line ∷ lines) holds =
    AllByRecursion-append (λ atom. unit_width atom ≤ w) line (joined lines) (units_within w line (omega (arith, holds.0)))
    (lines-fit w lines holds.1)

piece-fits : (w : ℕ) (piece : List Atom) (lines : List (List Atom)) → IsPieceCut piece lines →
    AllByRecursion (λ line. line_width line ≤ w) lines
    → AllFit w piece
piece-fits w [] lines cut holds = tt
piece-fits w (unit ∷ units) lines cut holds = subst (λ all. AllFit w all) cut.1 (lines-fit w lines holds)

pieces-of-cut-fit : (w : ℕ) (pieces : List (List Atom)) (cut : List (List (List Atom))) → AllZip IsPieceCut pieces cut →
    HoldsIn w cut
    → AllByRecursion (AllFit w) pieces
pieces-of-cut-fit w [] cut is holds = tt
pieces-of-cut-fit w (piece ∷ pieces) [] is holds = absurd is
pieces-of-cut-fit w (piece ∷ pieces) (lines ∷ cut) is holds = (
  piece-fits w piece lines is.0 (AllByRecursion-prefix (λ line. line_width line ≤ w) lines (joined cut) holds),
  pieces-of-cut-fit w pieces cut is.1 (AllByRecursion-suffix (λ line. line_width line ≤ w) lines (joined cut) holds),
)

pub atoms-of-cut-fit : (w : ℕ) (atoms : List Atom) (cut : List (List (List Atom))) → IsCutting atoms cut → HoldsIn w cut →
    AllFit w atoms
atoms-of-cut-fit w atoms cut is holds = atoms-fit w atoms (pieces-of-cut-fit w (lined_pieces atoms) cut is holds)

-- ---- line counts fall as the width grows

-- a cutting that holds in a width holds in each greater one
pub HoldsIn-wider : (v w : ℕ) (cut : List (List (List Atom))) → v ≤ w → HoldsIn v cut → HoldsIn w cut
HoldsIn-wider v w cut wider holds = wider_lines (joined cut) holds
  where
    wider_lines : (lines : List (List Atom)) → AllByRecursion (λ line. line_width line ≤ v) lines →
        AllByRecursion (λ line. line_width line ≤ w) lines
    wider_lines [] h = tt
    wider_lines (line ∷ lines) h = (omega (arith, h.0), wider_lines lines h.1)

pub LeastLines-falls : (v w : ℕ) (atoms : List Atom) (m n : ℕ) → v ≤ w → LeastLines v atoms m → LeastLines w atoms n → n ≤ m
LeastLines-falls v w atoms m n wider narrow wide =
    let cut = narrow.attained in
    omega (arith, wide.least cut.0 cut.1 (HoldsIn-wider v w cut.0 wider cut.2), cut.3)

-- ---- wider lines, and one more atom

-- what fits in a width fits in each greater one
pub AllFit-wider : (v w : ℕ) (atoms : List Atom) → v ≤ w → AllFit v atoms → AllFit w atoms
AllFit-wider v w [] wider each = tt
AllFit-wider v w (atom ∷ atoms) wider each = (omega (arith, each.0), AllFit-wider v w atoms wider each.1)

-- what breaking sees of an atom has its width
pub columns_of-measure_of : (atom : Atom) → unit_columns (measure_of atom) ≡ unit_width atom
columns_of-measure_of (Word text) = refl
columns_of-measure_of (Glue text) = refl
columns_of-measure_of Break = refl

module _ (w : ℕ) (atoms : List Atom) (n : ℕ) (atom : Atom) (within : n < length atoms) (is : atom ≡ get_or atoms n atom) where
  prefix : take (n + 1) atoms ≡ take n atoms ++ atom ∷ []
  prefix = taken_more atoms n atom atom within is

  -- the atoms up to it fit where it and those before it do
  pub AllFit-more : AllFit w (take n atoms) → unit_width atom ≤ w → AllFit w (take (n + 1) atoms)
  AllFit-more before here = subst (λ first. AllFit w first) (sym prefix)
      (AllByRecursion-append (λ a. unit_width a ≤ w) (take n atoms) (atom ∷ []) before (here, tt))

  pub AllFit-less : AllFit w (take (n + 1) atoms) → AllFit w (take n atoms) × (unit_width atom ≤ w)
  AllFit-less each =
      let both : AllFit w (take n atoms ++ atom ∷ []) = subst (λ first. AllFit w first) prefix each in (
        AllByRecursion-prefix (λ a. unit_width a ≤ w) (take n atoms) (atom ∷ []) both,
        (AllByRecursion-suffix (λ a. unit_width a ≤ w) (take n atoms) (atom ∷ []) both).0,
      )

-- ---- the least width

-- a cutting holds where no unit is too wide
pub HasCutting-from_fit : (w : ℕ) (atoms : List Atom) → AllFit w atoms → HasCutting w atoms
HasCutting-from_fit w atoms each =
    let greedy = greedy_cut-IsGreedyCutting w atoms each in
    (greedy_cut w atoms, greedy.cutting, greedy.holds)
