-- The lines of the strips so far are put.
use Rattle.std.proofs.Common.{◌≡◌, take}
use Rattle.std.specs.List.{flat_map}
use Rattle.tl_page.specs.Pictures.{strip_lines}
use Rattle.tl_page.specs.inner.Drawing.{shown}
use Rattle.tl_page.proofs.picture.draw.Given as goal

abbrev pub invariant-loop-down : goal.invariant-loop-down
invariant-loop-down l = l.page ≡ flat_map (strip_lines (shown l.drawing)) (take l.down-index l.drawing.down)
