use Rattle.std.proofs.Common.{◌≡◌, map, take}
use Rattle.tl_align.specs.inner.Tallies.{side}
use Rattle.tl_align.proofs.columns.sides_by_numbers.Given as goal

abbrev pub invariant-loop-tally : goal.invariant-loop-tally
invariant-loop-tally l = l.sides ≡ map side (take l.tally-index l.tally-items)
