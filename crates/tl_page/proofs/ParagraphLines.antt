-- The lines of a paragraph, as the ranges of its atoms show them.
use Rattle.std.proofs.Common.{◌≡◌, ℕ, zero, suc, ◌-◌, ◌<◌, ◌≤◌, List, [], ◌∷◌, length, drop, get_or, map, IsSomeAnd, slice_get}
use Rattle.std.proofs.Common.{refl, ◌∙◌, ap, ap₂}
use Rattle.std.proofs.Common.{arith, inl, inr}
use Rattle.std.specs.List.{All, AllZip, AllByRecursion}
use Rattle.std.proofs.lemmas.List.{length-take, length-drop}
use Rattle.std.proofs.lemmas.List.Elements.{All-from_recursion, All-take, All-drop}
use Rattle.tl_text.specs.declared.ranges.Line.{Line as Range}
use Rattle.tl_text.specs.declared.paragraph.Atom.{Atom}
use Rattle.tl_text.specs.Paragraph.{unit_width, atom_size}
use Rattle.tl_text.specs.Cuttings.{joined, HasCutting}
use Rattle.tl_text.specs.Ranges.{AreConsecutive, ShowsLine, ShowsGreedyCutting, IsFirstTooWide}
use Rattle.tl_text.proofs.Paragraphs.{AllFit, atoms-of-cut-fit}
use Rattle.tl_page.specs.declared.line.TextLine.{TextLine}
use Rattle.tl_page.specs.Pages.{AreParagraphLines, line_from}
use Rattle.tl_page.specs.inner.Lines.{ranged}
use Rattle.tl_page.proofs.LineTexts.{line_from-break}

-- the ranges show the lines
ranges_lines : (atoms : List Atom) (ranges : List Range) (lines : List (List Atom)) → AllZip (ShowsLine atoms) ranges lines →
    map (λ range. line_from (ranged atoms range)) ranges ≡ map line_from lines
ranges_lines atoms [] [] shown = refl
ranges_lines atoms [] (line ∷ lines) shown = absurd shown
ranges_lines atoms (range ∷ ranges) [] shown = absurd shown
ranges_lines atoms (range ∷ ranges) (line ∷ lines) shown =
    ap₂ (λ (here : TextLine) (rest : List TextLine). here ∷ rest)
    (elim shown.0 [ inl same ↦ ap line_from same | inr ended ↦ ap line_from ended ∙ line_from-break line ])
    (ranges_lines atoms ranges lines shown.1)

-- a range lies within the paragraph
abbrev pub IsWithin : ℕ → Range → Type 0
IsWithin past range = (range.first ≤ range.past) × (range.past ≤ past)

-- each of the ranges begins where it may end
order_ends : (from past : ℕ) (ranges : List Range) → AreConsecutive from ranges past → from ≤ past
order_ends from past [] order = omega (arith, order)
order_ends from past (range ∷ ranges) order = omega (arith, order.0, order.1, order_ends range.past past ranges order.2)

ranges_within : (from past : ℕ) (ranges : List Range) → AreConsecutive from ranges past → AllByRecursion (IsWithin past) ranges
ranges_within from past [] order = tt
ranges_within from past (range ∷ ranges) order =
    ((omega (arith, order.1), order_ends range.past past ranges order.2), ranges_within range.past past ranges order.2)

-- each range ends within the paragraph
pub range_within : (past : ℕ) (ranges : List Range) (place : ℕ) (none : Range) → AreConsecutive 0 ranges past →
    place < length ranges →
    IsWithin past (get_or ranges place none)
range_within past ranges place none order within =
    All-from_recursion (IsWithin past) ranges (ranges_within 0 past ranges order) place none within

-- the atoms of a range are small where all are
pub range_is_small : (n : ℕ) (atoms : List Atom) (range : Range) → All (λ atom. atom_size atom ≤ n) atoms →
    All (λ atom. atom_size atom ≤ n) (ranged atoms range)
range_is_small n atoms range small =
    All-take (λ atom. atom_size atom ≤ n) (range.past - range.first) (drop range.first atoms)
    (All-drop (λ atom. atom_size atom ≤ n) range.first atoms small)

-- the atoms of a range are no more than all
pub range_is_short : (atoms : List Atom) (range : Range) → length (ranged atoms range) ≤ length atoms
range_is_short atoms range =
    omega (arith, length-take (range.past - range.first) (drop range.first atoms), length-drop range.first atoms)

-- no unit of a paragraph with a cutting in the width is wider
pub none_too_wide : (w : ℕ) (atoms : List Atom) (place : ℕ) → HasCutting w atoms → IsFirstTooWide w atoms place → ⊥
none_too_wide w atoms place (cut, is, holds) first = wider atoms place (atoms-of-cut-fit w atoms cut is holds) first.wider where
  wider : (atoms : List Atom) (place : ℕ) → AllFit w atoms → IsSomeAnd (slice_get atoms place) (λ atom. w < unit_width atom) → ⊥
  wider [] place fit is_wider = is_wider
  wider (atom ∷ atoms) zero fit is_wider = omega (arith, fit.0, is_wider)
  wider (atom ∷ atoms) (suc place) fit is_wider = wider atoms place fit.1 is_wider

-- the lines of all ranges are those of the greedy cutting
pub are_lines : (w : ℕ) (paragraph : List Atom) (ranges : List Range) → ShowsGreedyCutting w paragraph ranges →
    AreParagraphLines w paragraph (map (λ range. line_from (ranged paragraph range)) ranges)
are_lines w paragraph ranges shows = (shows.cut, shows.greedy, ranges_lines paragraph ranges (joined shows.cut) shows.shown)
