-- The lines so far are put.
use Rattle.std.proofs.Common.{◌≡◌, ◌++◌, map}
use Rattle.std.specs.List.{range_with_len}
use Rattle.tl_page.specs.Pictures.{picture_line}
use Rattle.tl_page.specs.inner.Drawing.{shown}
use Rattle.tl_page.proofs.picture.put_lines.Given as goal

abbrev pub invariant-loop-k : goal.invariant-loop-k
invariant-loop-k l = l.page ≡ l.fn.page ++ map (picture_line (shown l.drawing) l.down) (range_with_len l.down.from l.k)
