-- Step by step.
use Rattle.std.proofs.Common.{length, refl, ap, arith}
use Rattle.tl_check.proofs.Flags.{written-room, stays-by}
use Rattle.tl_check.proofs.checker.Checker.worked.Goals as goal

pub returns-then-not-is_trace-clause-worked : goal.returns-then-not-is_trace-clause-worked
returns-then-not-is_trace-clause-worked c =
    let trace = rw c.as_slice-trace.ensures at c.is_trace.ensures.trace in
    (λ never. absurd cc, λ worked. let yes = trace.1 worked.trace_of in absurd cc)

pub returns-clause-worked : goal.returns-clause-worked
returns-clause-worked c =
    let trace = rw c.as_slice-trace.ensures at c.is_trace.ensures.trace in (
      λ yes. record {
        trace_of = trace.0 c.if-not-is_trace.false;
        within = omega (arith, ap length c.as_slice-trace.ensures);
        ordered = omega arith;
        below = λ less. c.is_worked.ensures.worked.0 yes;
      },
      λ worked. c.is_worked.ensures.worked.1 (worked.below (omega arith)),
    )

pub returns-then-not-is_trace-clause-stays : goal.returns-then-not-is_trace-clause-stays
returns-then-not-is_trace-clause-stays c =
    let old = c.args.self.now in
    let room = written-room old.is_cut.len c.is_trace.new.is_cut old.is_cut.items (omega arith) (omega arith) in
    stays-by c.args.problem.now old _ (λ page. page) refl refl room

pub returns-then-trace-budget-clause-stays : goal.returns-then-trace-budget-clause-stays
returns-then-trace-budget-clause-stays c =
    let old = c.args.self.now in
    let room = written-room old.is_cut.len c.is_trace.new.is_cut old.is_cut.items (omega arith) (omega arith) in
    stays-by c.args.problem.now old _ (λ page. page) refl refl room

pub returns-then-section-clause-stays : goal.returns-then-section-clause-stays
returns-then-section-clause-stays c =
    let old = c.args.self.now in
    let room = written-room old.is_cut.len c.is_trace.new.is_cut old.is_cut.items (omega arith) (omega arith) in
    stays-by c.args.problem.now old _ (λ page. page) refl refl room

pub returns-then-section-2-clause-stays : goal.returns-then-section-2-clause-stays
returns-then-section-2-clause-stays c =
    let old = c.args.self.now in
    let room = written-room old.is_cut.len c.is_trace.new.is_cut old.is_cut.items (omega arith) (omega arith) in
    stays-by c.args.problem.now old _ (λ page. page) refl refl room

pub returns-clause-stays : goal.returns-clause-stays
returns-clause-stays c =
    let old = c.args.self.now in
    let room = written-room old.is_cut.len c.is_trace.new.is_cut old.is_cut.items (omega arith) (omega arith) in
    stays-by c.args.problem.now old _ (λ page. c.is_worked.ensures.page) c.is_worked.ensures.matrix refl room
