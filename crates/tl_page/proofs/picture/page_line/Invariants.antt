-- The pieces so far are written.
use Rattle.std.proofs.Common.{◌≡◌, take}
use Rattle.std.specs.List.{flat_map}
use Rattle.tl_page.specs.Pictures.{piece}
use Rattle.tl_page.specs.inner.Drawing.{shown}
use Rattle.tl_page.proofs.picture.page_line.Given as goal

abbrev pub invariant-loop-across : goal.invariant-loop-across
invariant-loop-across l = l.line ≡ flat_map (piece (shown l.drawing) l.down l.y) (take l.across-index l.drawing.across)
