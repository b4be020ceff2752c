use Rattle.std.proofs.Common.{◌≡◌, ◌+◌, ◌<◌, ◌≤◌, ℕ, None, drop}
use Rattle.std.specs.Option.{ForSome}
use Rattle.tl_text.specs.inner.Measure.{lines_after}
use Rattle.tl_text.proofs.minimal.filled.Given as goal

-- at each width up to the next one, the lines so far and those to come are those of all units
abbrev pub invariant-loop-unit : goal.invariant-loop-unit
invariant-loop-unit l = record {
  lines : (w : ℕ) → l.width ≤ w → w < l.filling.next → l.filling.ended + lines_after w l.filling.line
      (drop l.unit-index l.units) ≡ lines_after w None l.units;
  line : ForSome l.filling.line (λ used. used ≤ l.width);
  next : (l.width < l.filling.next) × (l.filling.next ≤ l.most + 1);
  ended : l.filling.ended ≤ l.unit-index;
}
