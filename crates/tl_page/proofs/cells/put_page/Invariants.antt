-- The lines so far are put, each as wide as the layout.
use Rattle.std.proofs.Common.{◌≡◌, ◌++◌, map}
use Rattle.tl_page.proofs.PictureLemmas.{line_with}
use Rattle.tl_page.proofs.cells.put_page.Given as goal

abbrev pub invariant-loop-text : goal.invariant-loop-text
invariant-loop-text l = l.lines ≡ l.fn.lines ++ map (line_with l.width) l.yielded
