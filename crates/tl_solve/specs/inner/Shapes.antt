-- The lines of a log that is made for a trace: that of zone `z` has the number `last - z`. No public clause cites this file.
use Rattle.std.specs.Prelude.{◌≡◌, ℕ, ◌+◌, ◌-◌, ◌*◌, ◌<◌, nat_le, if◌then◌else◌, List, [], ◌∷◌, length, get_or, Option, Some}
use Rattle.std.specs.Prelude.{None}
use Rattle.tl_cert.specs.declared.log.End.{End}
use Rattle.tl_cert.specs.declared.log.End.TheVariants.{Fired, Cycle, Chain, Area}
use Rattle.tl_cert.specs.declared.log.LogLine.{LogLine}
use Rattle.tl_cert.specs.declared.log.Nogood.TheVariants.{Zone}

-- how the line of a zone that stands ends: it has no widths, a bound of at least `lower`, or else the area bound
abbrev pub closing_end : Option ℕ → ℕ → End
closing_end None lower = Cycle
closing_end (Some bound) lower = if nat_le lower bound then Chain else Area

-- the line of a zone that stands
abbrev pub closing_line_of : ℕ → Option ℕ → ℕ → LogLine
closing_line_of zone bound lower = record { nogood = Zone zone; fires = []; end = closing_end bound lower }

-- the lines that a zone that is cut fires: that of its lower part, and then of the upper part where that has widths
abbrev pub parts_fired : ℕ → ℕ → Option ℕ → List ℕ
parts_fired last cut None = (last - (2 * cut + 1)) ∷ []
parts_fired last cut (Some bound) = (last - (2 * cut + 1)) ∷ (last - (2 * cut + 2)) ∷ []

-- the line of a zone that is cut
abbrev pub firing_line_of : ℕ → ℕ → ℕ → Option ℕ → LogLine
firing_line_of last zone cut upper = record { nogood = Zone zone; fires = parts_fired last cut upper; end = Fired }

-- the line of a zone, by its cut
abbrev pub line_by_cut : ℕ → List (Option ℕ) → ℕ → ℕ → Option ℕ → LogLine
line_by_cut last bounds lower zone None = closing_line_of zone (get_or bounds zone None) lower
line_by_cut last bounds lower zone (Some cut) = firing_line_of last zone cut (get_or bounds (2 * cut + 2) None)

-- the first lines of the log
pub record AreLinesOf (last : ℕ) (cuts bounds : List (Option ℕ)) (lower upto : ℕ) (log : List LogLine) : Type 0 where
  pub count : length log ≡ upto
  pub each : (k : ℕ) (d : LogLine) → k < upto → get_or log k d ≡ line_by_cut last bounds lower (last - k)
      (get_or cuts (last - k) None)
