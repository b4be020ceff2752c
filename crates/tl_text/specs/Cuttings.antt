-- Cuttings of a paragraph into lines, all of them: nothing here fills lines from the left.
use Rattle.std.specs.Prelude.{◌≡◌, ◌≢◌, ℕ, ◌+◌, ◌<◌, ◌≤◌, List, [], ◌∷◌, ◌++◌, length, take, drop, sum_by}
use Rattle.std.specs.List.{AllZip, AllByRecursion, flat_map}
use Rattle.tl_text.specs.declared.paragraph.Atom.{Atom}
use Rattle.tl_text.specs.Paragraph.{unit_width, gap_before, lined_pieces}

-- lists joined in order
abbrev pub joined : {X : Type 0} → List (List X) → List X
joined lists = flat_map (λ list. list) lists

-- how wide a line of units is: their widths, and the gap before each unit but the line's first
abbrev pub line_width : List Atom → ℕ
line_width line = sum_by unit_width line + sum_by gap_before (drop 1 line)

-- a piece with units is cut into lines with units which, joined, are its units in order; a piece
-- without units is one empty line
abbrev pub IsPieceCut : List Atom → List (List Atom) → Type 0
IsPieceCut [] lines = lines ≡ [] ∷ []
IsPieceCut (unit ∷ units) lines =
    AllByRecursion (λ line. line ≢ []) lines × (joined lines ≡ unit ∷ units)

-- a cutting of a paragraph: the lines of each piece that makes lines
abbrev pub IsCutting : List Atom → List (List (List Atom)) → Type 0
IsCutting atoms cut = AllZip IsPieceCut (lined_pieces atoms) cut

-- each line of a cutting is at most `w` columns wide
abbrev pub HoldsIn : ℕ → List (List (List Atom)) → Type 0
HoldsIn w cut = AllByRecursion (λ line. line_width line ≤ w) (joined cut)

-- some cutting of the paragraph holds in `w` columns
abbrev pub HasCutting : ℕ → List Atom → Type 0
HasCutting w atoms = (cut : List (List (List Atom))) × IsCutting atoms cut × HoldsIn w cut

-- of the lines of a piece, the first unit of none fits at the end of the line before it
abbrev pub FillsLines : ℕ → List (List Atom) → Type 0
FillsLines w [] = Unit {0}
FillsLines w (line ∷ []) = Unit {0}
FillsLines w (line ∷ next ∷ lines) =
    (w < line_width (line ++ take 1 next)) × FillsLines w (next ∷ lines)

-- a cutting that holds in `w` columns and is greedy there
pub record IsGreedyCutting (w : ℕ) (atoms : List Atom) (cut : List (List (List Atom))) : Type 0 where
  pub cutting : IsCutting atoms cut
  pub holds : HoldsIn w cut
  pub filled : AllByRecursion (FillsLines w) cut

-- `n` is the least number of lines of a cutting that holds in `w` columns
pub record LeastLines (w : ℕ) (atoms : List Atom) (n : ℕ) : Type 0 where
  pub attained : (cut : List (List (List Atom))) × IsCutting atoms cut × HoldsIn w cut
      × (length (joined cut) ≡ n)
  pub least : (cut : List (List (List Atom))) → IsCutting atoms cut → HoldsIn w cut
      → n ≤ length (joined cut)
