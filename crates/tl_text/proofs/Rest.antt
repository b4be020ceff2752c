-- What a loop over the atoms has left to do, against the greedy cutting of the pieces.
use Rattle.std.proofs.Common.{◌≡◌, ℕ, ◌+◌, Bool, true, false, if◌then◌else◌, nat_le, List, [], ◌∷◌, length, map, Option, Some}
use Rattle.std.proofs.Common.{None, refl, sym, ap}
use Rattle.std.proofs.Common.{◌∙◌, arith, length-append}
use Rattle.std.specs.List.{onto_first}
use Rattle.tl_text.specs.declared.paragraph.Atom.{Atom}
use Rattle.tl_text.specs.declared.paragraph.Atom.TheVariants.{Word, Glue, Break}
use Rattle.tl_text.specs.Paragraph.{unit_width, gap_before, lined_pieces}
use Rattle.tl_text.specs.Cuttings.{joined}
use Rattle.tl_text.specs.inner.Measure.{measure_of, lines_after}
use Rattle.tl_text.proofs.Greedy.{fill, piece_lines, more, fill-length, line_width-single}
use Rattle.tl_text.proofs.Paragraphs.{greedy_cut}

-- the lines that end in these pieces, where a line of so many columns is open
abbrev pub rest_lines : ℕ → Option ℕ → List (List Atom) → ℕ
rest_lines w None pieces = length (joined (map (piece_lines w) pieces))
rest_lines w (Some used) [] = 1
rest_lines w (Some used) (piece ∷ pieces) = 1 + more w used piece + length (joined (map (piece_lines w) pieces))

-- a unit begins the first line
rest_lines-first : (w : ℕ) (unit : Atom) (pieces : List (List Atom)) →
    rest_lines w None (onto_first unit pieces) ≡ rest_lines w (Some (unit_width unit)) pieces
rest_lines-first w unit [] = refl
rest_lines-first w unit (piece ∷ pieces) =
    omega (
      arith,
      length-append (fill w (unit ∷ []) piece) (joined (map (piece_lines w) pieces)),
      fill-length w unit [] piece,
      ap
          (λ used. more w used piece) (line_width-single unit),
    )

choice-sum : (b : Bool) (m n k : ℕ) → 1 + (if b then m else 1 + n) + k ≡ (if b then 1 + m + k else 1 + (1 + n + k))
choice-sum true m n k = refl
choice-sum false m n k = omega arith

choice-same : (b : Bool) (m n p q : ℕ) → m ≡ p → n ≡ q → (if b then m else 1 + n) ≡ (if b then p else 1 + q)
choice-same true m n p q first second = first
choice-same false m n p q first second = ap (λ k. 1 + k) second

-- a unit comes to the open line, or begins another
rest_lines-unit : (w used : ℕ) (unit : Atom) (pieces : List (List Atom)) → rest_lines w (Some used) (onto_first unit pieces)
    ≡ (if nat_le (used + gap_before unit + unit_width unit) w then rest_lines w
    (Some (used + gap_before unit + unit_width unit)) pieces else 1 + rest_lines w (Some (unit_width unit)) pieces)
rest_lines-unit w used unit [] = choice-sum (nat_le (used + gap_before unit + unit_width unit) w) 0 0 0
rest_lines-unit w used unit (piece ∷ pieces) =
    choice-sum (nat_le (used + gap_before unit + unit_width unit) w) (more w (used + gap_before unit + unit_width unit) piece)
    (more w (unit_width unit) piece) (length (joined (map (piece_lines w) pieces)))

-- what the loop counts is what the pieces have
pub lines_after-is : (w : ℕ) (line : Option ℕ) (atoms : List Atom) →
    lines_after w line (map measure_of atoms) ≡ rest_lines w line (lined_pieces atoms)
lines_after-is w None [] = refl
lines_after-is w (Some used) [] = refl
lines_after-is w None (Break ∷ atoms) = omega (arith, lines_after-is w None atoms)
lines_after-is w (Some used) (Break ∷ atoms) = omega (arith, lines_after-is w None atoms)
lines_after-is w None (Word text ∷ atoms) = lines_after-is w (Some (unit_width (Word text))) atoms ∙ sym
    (rest_lines-first w (Word text) (lined_pieces atoms))
lines_after-is w None (Glue text ∷ atoms) = lines_after-is w (Some (unit_width (Glue text))) atoms ∙ sym
    (rest_lines-first w (Glue text) (lined_pieces atoms))
lines_after-is w (Some used) (Word text ∷ atoms) =
    let unit = Word text in
    choice-same (nat_le (used + gap_before unit + unit_width unit) w) _ _ _ _
    (lines_after-is w (Some (used + gap_before unit + unit_width unit)) atoms) (lines_after-is w (Some (unit_width unit)) atoms)
    ∙ sym (rest_lines-unit w used unit (lined_pieces atoms))
lines_after-is w (Some used) (Glue text ∷ atoms) =
    let unit = Glue text in
    choice-same (nat_le (used + gap_before unit + unit_width unit) w) _ _ _ _
    (lines_after-is w (Some (used + gap_before unit + unit_width unit)) atoms) (lines_after-is w (Some (unit_width unit)) atoms)
    ∙ sym (rest_lines-unit w used unit (lined_pieces atoms))

-- from the beginning: the lines of the greedy cutting
pub lines_after-start : (w : ℕ) (atoms : List Atom) → lines_after w None (map measure_of atoms) ≡ length
    (joined (greedy_cut w atoms))
lines_after-start w atoms = lines_after-is w None atoms
