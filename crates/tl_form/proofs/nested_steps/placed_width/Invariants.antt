use Rattle.std.proofs.Common.{◌≡◌, ◌+◌, sum, take}
use Rattle.tl_base.specs.Style.{edges_of}
use Rattle.tl_form.specs.inner.Collecting.{capped}
use Rattle.tl_form.proofs.nested_steps.placed_width.Given as goal

abbrev pub invariant-loop-each : goal.invariant-loop-each
invariant-loop-each l = l.width ≡ capped (l.gaps + edges_of l.fn.style + sum (take l.each-index l.widths))
