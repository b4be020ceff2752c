-- A cutting's lines as ranges of the paragraph's atoms.
use Rattle.std.specs.Prelude.{◌≡◌, ℕ, ◌<◌, ◌≤◌, List, [], ◌∷◌, ◌++◌, ◌⊎◌, length, take, IsSomeAnd, slice_get, slice_range}
use Rattle.std.specs.List.{All, AllZip}
use Rattle.tl_text.specs.declared.ranges.Line.{Line}
use Rattle.tl_text.specs.declared.ranges.TextError.{TextError}
use Rattle.tl_text.specs.declared.ranges.TextError.TheVariants.{Memory, TooWide}
use Rattle.tl_text.specs.declared.paragraph.Atom.{Atom}
use Rattle.tl_text.specs.declared.paragraph.Atom.TheVariants.{Break}
use Rattle.tl_text.specs.Paragraph.{unit_width}
use Rattle.tl_text.specs.Cuttings.{joined, IsGreedyCutting}

-- each range has an atom and begins where the one before it ends: the first at `from`, and the
-- last ends at `past`
abbrev pub AreConsecutive : ℕ → List Line → ℕ → Type 0
AreConsecutive from [] past = from ≡ past
AreConsecutive from (range ∷ ranges) past =
    (range.first ≡ from) × (range.first < range.past) × AreConsecutive range.past ranges past

-- the range has the line's units, and at most a break after them
abbrev pub ShowsLine : List Atom → Line → List Atom → Type 0
ShowsLine atoms range line =
    let shown = slice_range atoms range.first range.past in
    (shown ≡ line) ⊎ (shown ≡ line ++ Break ∷ [])

-- the ranges are the lines of the paragraph's greedy cutting in `w` columns
pub record ShowsGreedyCutting (w : ℕ) (atoms : List Atom) (ranges : List Line) : Type 0 where
  pub cut : List (List (List Atom))
  pub greedy : IsGreedyCutting w atoms cut
  pub in_order : AreConsecutive 0 ranges (length atoms)
  pub shown : AllZip (ShowsLine atoms) ranges (joined cut)

-- the atom at `place` is wider than `w`, and none before it is
pub record IsFirstTooWide (w : ℕ) (atoms : List Atom) (place : ℕ) : Type 0 where
  pub wider : IsSomeAnd (slice_get atoms place) (λ atom. w < unit_width atom)
  pub before : All (λ atom. unit_width atom ≤ w) (take place atoms)

-- an error of width names the first unit that is too wide
abbrev pub NamesTooWide : ℕ → List Atom → TextError → Type 0
NamesTooWide w atoms (Memory error) = Unit {0}
NamesTooWide w atoms (TooWide place) = IsFirstTooWide w atoms place
