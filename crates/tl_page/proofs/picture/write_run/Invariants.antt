-- So many are written.
use Rattle.std.proofs.Common.{◌≡◌, ◌++◌}
use Rattle.tl_page.specs.Signs.{run}
use Rattle.tl_page.proofs.picture.write_run.Given as goal

abbrev pub invariant-loop : goal.invariant-loop
invariant-loop l = l.line ≡ l.fn.line ++ run l.counter l.fn.sign
