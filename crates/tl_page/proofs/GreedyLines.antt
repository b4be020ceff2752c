-- A greedy cutting has no more lines than any other that holds in the width.
use Rattle.std.proofs.Common.{◌≡◌, ◌≢◌, ℕ, ◌+◌, ◌≤◌, List, [], ◌∷◌, ◌++◌, length, map, sum_by, refl, ◌∙◌, ap, arith}
use Rattle.std.specs.List.{AllByRecursion, AllZip}
use Rattle.std.proofs.lemmas.List.{length-append}
use Rattle.std.proofs.lemmas.List.Sums.{sum_by-cons}
use Rattle.tl_base.proofs.Members.{AllByRecursion-suffix, AllByRecursion-prefix}
use Rattle.tl_text.specs.declared.paragraph.Atom.{Atom}
use Rattle.tl_text.specs.Paragraph.{unit_width, gap_before, lined_pieces}
use Rattle.tl_text.specs.Cuttings.{joined, line_width, IsPieceCut, IsCutting, HoldsIn, FillsLines, IsGreedyCutting}
use Rattle.tl_text.proofs.Greedy.{more, piece_lines, fill-length, line_width-single}
use Rattle.tl_text.proofs.Widths.{line_width-push, at_choice}
use Rattle.tl_text.proofs.Paragraphs.{greedy_cut-least, atoms-of-cut-fit}

abbrev Holds : ℕ → List Atom → Type 0
Holds w line = line_width line ≤ w

-- units that fit on the open line begin no further one
more-along : (w used : ℕ) (units rest : List Atom) → used + sum_by unit_width units + sum_by gap_before units ≤ w →
    more w used (units ++ rest) ≡ more w (used + sum_by unit_width units + sum_by gap_before units) rest
more-along w used [] rest within = let same : used ≡ used + 0 + 0 = omega arith in ap (λ (n : ℕ). more w n rest) same
more-along w used (unit ∷ units) rest within =
    let widths = sum_by-cons unit_width unit units in
    let gaps = sum_by-cons gap_before unit units in
    let same : used + gap_before unit + unit_width unit + sum_by unit_width units + sum_by gap_before units
    ≡ used + sum_by unit_width (unit ∷ units) + sum_by gap_before (unit ∷ units) = omega (arith, widths, gaps) in
    at_choice (λ n. n ≡ more w (used + sum_by unit_width (unit ∷ units) + sum_by gap_before (unit ∷ units)) rest)
    (used + gap_before unit + unit_width unit) w _ _
    (λ fits. more-along w (used + gap_before unit + unit_width unit) units rest (omega (arith, same, within)) ∙ ap
    (λ (n : ℕ). more w n rest) same)
    (λ over. absurd (omega (arith, over, widths, gaps, within)))

-- a filled line is followed by as many lines as the units after it need
lines-more : (w : ℕ) (first : Atom) (line : List Atom) (lines : List (List Atom)) → AllByRecursion (λ line. line ≢ []) lines →
    AllByRecursion (Holds w) lines → FillsLines w ((first ∷ line) ∷ lines) →
    length lines ≡ more w (line_width (first ∷ line)) (joined lines)
lines-more w first line [] some holds filled = refl
lines-more w first line ([] ∷ lines) some holds filled = absurd (some.0 refl)
lines-more w first line ((unit ∷ next) ∷ lines) some holds filled =
    let used = line_width (first ∷ line) in
    let sum = sum_by-cons unit_width unit next in
    let rest = lines-more w unit next lines some.1 holds.1 filled.1 in
    let along = more-along w (unit_width unit) next (joined lines) (omega (arith, holds.0, sum)) in
    let same : unit_width unit + sum_by unit_width next + sum_by gap_before next ≡ line_width (unit ∷ next) =
    omega (arith, sum) in
    at_choice (λ n. length ((unit ∷ next) ∷ lines) ≡ n) (used + gap_before unit + unit_width unit) w _ _
    (λ fits. absurd (omega (arith, fits, filled.0, line_width-push first line unit)))
    (λ over. omega (arith, rest, along, ap (λ (n : ℕ). more w n (joined lines)) same))

piece-same : (w : ℕ) (piece : List Atom) (lines : List (List Atom)) → IsPieceCut piece lines → AllByRecursion (Holds w) lines →
    FillsLines w lines →
    length lines ≡ length (piece_lines w piece)
piece-same w [] lines cut holds filled = ap length cut
piece-same w (unit ∷ units) [] cut holds filled = absurd (omega (arith, ap length cut.1))
piece-same w (unit ∷ units) ([] ∷ lines) cut holds filled = absurd (cut.0.0 refl)
piece-same w (unit ∷ units) ((first ∷ line) ∷ lines) cut holds filled =
    let sum = sum_by-cons unit_width first line in
    let beyond = lines-more w first line lines cut.0.1 holds.1 filled in
    let along = more-along w (unit_width first) line (joined lines) (omega (arith, holds.0, sum)) in
    let same : unit_width first + sum_by unit_width line + sum_by gap_before line ≡ line_width (first ∷ line) =
    omega (arith, sum) in
    let all = fill-length w first [] (line ++ joined lines) in
    omega (
      arith,
      beyond,
      along,
      ap (λ (n : ℕ). more w n (joined lines)) same,
      all,
      ap (λ (n : ℕ). more w n (line ++ joined lines)) (line_width-single first),
      ap (λ (piece : List Atom). length (piece_lines w piece)) cut.1,
    )

pieces-same : (w : ℕ) (pieces : List (List Atom)) (cut : List (List (List Atom))) → AllZip IsPieceCut pieces cut → HoldsIn w cut →
    AllByRecursion (FillsLines w) cut → length (joined cut) ≡ length (joined (map (piece_lines w) pieces))
pieces-same w [] [] is holds filled = refl
pieces-same w [] (lines ∷ cut) is holds filled = absurd is
pieces-same w (piece ∷ pieces) [] is holds filled = absurd is
pieces-same w (piece ∷ pieces) (lines ∷ cut) is holds filled =
    omega (
      arith,
      length-append lines (joined cut),
      length-append (piece_lines w piece) (joined (map (piece_lines w) pieces)),
      piece-same w piece lines is.0 (AllByRecursion-prefix (Holds w) lines (joined cut) holds) filled.0,
      pieces-same w pieces cut is.1 (AllByRecursion-suffix (Holds w) lines (joined cut) holds) filled.1,
    )

-- no cutting that holds in the width has fewer lines
pub greedy-least : (w : ℕ) (atoms : List Atom) (cut other : List (List (List Atom))) → IsGreedyCutting w atoms cut →
    IsCutting atoms other →
    HoldsIn w other → length (joined cut) ≤ length (joined other)
greedy-least w atoms cut other greedy is holds =
    omega (
      arith,
      pieces-same w (lined_pieces atoms) cut greedy.cutting greedy.holds greedy.filled,
      (greedy_cut-least w atoms (atoms-of-cut-fit w atoms cut greedy.cutting greedy.holds)).least other is holds,
    )
