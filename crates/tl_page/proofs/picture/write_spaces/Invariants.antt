-- So many are written.
use Rattle.std.proofs.Common.{◌≡◌, ◌++◌}
use Rattle.tl_page.specs.Pictures.{spaces}
use Rattle.tl_page.proofs.picture.write_spaces.Given as goal

abbrev pub invariant-loop : goal.invariant-loop
invariant-loop l = l.line ≡ l.fn.line ++ spaces l.counter
