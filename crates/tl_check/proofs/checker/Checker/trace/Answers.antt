-- The flags alone change.
use Rattle.std.proofs.Common.{refl, arith}
use Rattle.tl_check.proofs.Flags.{written-room, stays-by}
use Rattle.tl_check.proofs.checker.Checker.trace.Goals as goal

pub returns-clause-stays : goal.returns-clause-stays
returns-clause-stays c =
    let old = c.args.self.now in
    let room = written-room old.is_cut.len c.is_trace.new.is_cut old.is_cut.items (omega arith) (omega arith) in
    stays-by c.args.problem.now old _ (λ page. page) refl refl room
