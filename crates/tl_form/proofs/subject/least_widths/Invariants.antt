-- The least widths of the tables so far.
use Rattle.std.proofs.Common.{◌≤◌, take}
use Rattle.std.specs.List.{All, AllZip}
use Rattle.tl_base.specs.declared.limits.TheConstants.{MAX_HEIGHT}
use Rattle.tl_table.specs.Least.{IsLeastWidth}
use Rattle.tl_form.proofs.subject.least_widths.Given as goal

abbrev pub invariant-loop-one : goal.invariant-loop-one
invariant-loop-one l =
    AllZip (λ one width. IsLeastWidth one.now l.style width) (take l.one-index l.tables) l.least.items
    × All (λ width. width ≤ MAX_HEIGHT) l.least.items
