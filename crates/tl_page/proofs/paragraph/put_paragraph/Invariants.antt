-- The lines of the ranges so far are put.
use Rattle.std.proofs.Common.{◌≡◌, ◌++◌, take, map}
use Rattle.tl_page.specs.Pages.{aligned, line_from}
use Rattle.tl_page.specs.inner.Lines.{ranged}
use Rattle.tl_page.proofs.paragraph.put_paragraph.Given as goal

abbrev pub invariant-loop-range : goal.invariant-loop-range
invariant-loop-range l = l.lines ≡ l.fn.lines ++ map (aligned l.room.side l.room.columns)
    (map (λ range. line_from (ranged l.atoms range)) (take l.range-index l.range-items))
