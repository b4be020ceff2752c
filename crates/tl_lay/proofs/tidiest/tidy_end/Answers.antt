-- By the two widths, and by whether the choice was made.
use Rattle.std.proofs.Common.{subst}
use Rattle.tl_lay.specs.Tidied.{left_open, may_be_narrower}
use Rattle.tl_lay.specs.inner.Tidying.{AreChosenAmong}
use Rattle.tl_lay.proofs.Tidying.{chosen_end, still_slim}
use Rattle.tl_lay.proofs.tidiest.tidy_end.Goals as goal

pub returns-then-width-least-clause-ends : goal.returns-then-width-least-clause-ends
returns-then-width-least-clause-ends c = may_be_narrower c.if-width-least.true

pub returns-in_ok-lay_kept-in-Some-clause-ends : goal.returns-in_ok-lay_kept-in-Some-clause-ends
returns-in_ok-lay_kept-in-Some-clause-ends c =
    chosen_end c.args.task.now c.args.given.now.table c.args.height c.args.slim c.in-Some.widths c.in_ok-lay_kept-in-Some.field-0
    (subst (AreChosenAmong c.args.task.now c.args.given.now.table c.args.height c.args.slim) c.in-Some.is c.in_ok-widths.ensures)
    c.in_ok-lay_kept-in-Some.ensures

pub returns-in_ok-lay_kept-in-Some-clause-slim : goal.returns-in_ok-lay_kept-in-Some-clause-slim
returns-in_ok-lay_kept-in-Some-clause-slim c =
    still_slim c.args.task.now c.args.given.now.table c.args.height c.args.slim c.in-Some.widths c.in_ok-lay_kept-in-Some.field-0
    (subst (AreChosenAmong c.args.task.now c.args.given.now.table c.args.height c.args.slim) c.in-Some.is c.in_ok-widths.ensures)
    c.in_ok-lay_kept-in-Some.ensures c.args.given.now.budget c.requires.usable c.requires.lowest c.requires.slim

pub returns-in-None-clause-ends : goal.returns-in-None-clause-ends
returns-in-None-clause-ends c =
    let are = subst (AreChosenAmong c.args.task.now c.args.given.now.table c.args.height c.args.slim) c.in-None.is
    c.in_ok-widths.ensures in
    left_open are.2 are.3
