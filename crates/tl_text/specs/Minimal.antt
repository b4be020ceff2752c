-- Which widths a paragraph is worth: those from which on it needs fewer lines.
use Rattle.std.specs.Prelude.{◌≡◌, ℕ, ◌+◌, ◌<◌, ◌≤◌, ◌↔◌, List, length, Contains}
use Rattle.tl_base.specs.declared.steps.Config.{Config}
use Rattle.tl_text.specs.declared.paragraph.Atom.{Atom}
use Rattle.tl_text.specs.Cuttings.{IsCutting, HoldsIn, LeastLines, joined}

-- a width with its least number of lines, where one column less takes more lines, or has no
-- cutting at all
pub record IsMinimal (atoms : List Atom) (config : Config) : Type 0 where
  pub lines : LeastLines config.width atoms config.height
  pub narrower : (w : ℕ) (cut : List (List (List Atom))) → w + 1 ≡ config.width
      → IsCutting atoms cut → HoldsIn w cut → config.height < length (joined cut)

-- exactly the minimal configurations of width at most `most`
abbrev pub AreMinimal : List Atom → ℕ → List Config → Type 0
AreMinimal atoms most steps =
    (config : Config) → Contains steps config ↔ (IsMinimal atoms config × (config.width ≤ most))
