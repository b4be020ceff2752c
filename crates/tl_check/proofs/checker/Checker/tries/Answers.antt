-- The line at the end of the log.
use Rattle.std.proofs.Common.{length, refl, ap, arith}
use Rattle.tl_check.proofs.Flags.{stays-by}
use Rattle.tl_check.proofs.checker.Checker.tries.Goals as goal

pub is_good_line-requires-clause-mark : goal.is_good_line-requires-clause-mark
is_good_line-requires-clause-mark c = omega (arith, ap length c.requires.reserved.none_held, c.requires.reserved.marks)

pub returns-clause-stays : goal.returns-clause-stays
returns-clause-stays c =
    stays-by c.args.problem.now c.args.self.now _ (λ page. c.is_good_line.ensures.page) c.is_good_line.ensures.matrix refl
    (omega arith)
