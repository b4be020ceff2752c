use Rattle.std.proofs.Common.{sym}
use Rattle.tl_diff.proofs.matrix.Matrix.upper.Goals as goal

pub returns-clause-exact : goal.returns-clause-exact
returns-clause-exact c = rw (sym c.self.view_is) c.upper.ensures.exact
