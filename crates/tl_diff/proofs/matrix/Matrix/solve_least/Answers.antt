use Rattle.std.proofs.Common.{sym}
use Rattle.tl_diff.proofs.matrix.Matrix.solve_least.Goals as goal

pub solve_least-requires-clause-bounded : goal.solve_least-requires-clause-bounded
solve_least-requires-clause-bounded c = rw (sym c.self.view_is) at c.requires.bounded
