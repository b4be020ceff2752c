-- One step more of the sum, or its last.
use Rattle.std.proofs.Common.{◌∙◌, ap, max}
use Rattle.tl_base.specs.Steps.{first_width, height_at, stacked_height}
use Rattle.tl_base.proofs.Stacking.{one_more, all_found, all_heights}
use Rattle.tl_base.proofs.steps.Steps.stack.Goals as goal

pub loop-list-preserved : goal.loop-list-preserved
loop-list-preserved c =
    one_more (max (first_width c.args.a.now) (first_width c.args.b.now)) (stacked_height c.args.a.now c.args.b.now)
    c.loop-list.list
    c.loop-list.width c.height_of_both-height.result c.loop-list.invariant c.height_of_both-height.ensures c.push.new.self
    c.in-Some.next
    c.in_ok-push.ensures.ok c.in-Some.ensures.next

pub from_list-requires : goal.from_list-requires
from_list-requires c =
    all_found (max (first_width c.args.a.now) (first_width c.args.b.now)) (stacked_height c.args.a.now c.args.b.now)
    c.loop-list.list
    c.loop-list.width c.height_of_both-height.result c.loop-list.invariant c.height_of_both-height.ensures c.push.new.self
    c.in_ok-push.ensures.ok

pub returns-in-None-clause-heights : goal.returns-in-None-clause-heights
returns-in-None-clause-heights c = λ w.
    ap (λ all. height_at all w) c.from_list.ensures
    ∙ all_heights (max (first_width c.args.a.now) (first_width c.args.b.now)) (stacked_height c.args.a.now c.args.b.now)
    c.loop-list.list
    c.loop-list.width c.height_of_both-height.result c.loop-list.invariant c.height_of_both-height.ensures c.push.new.self
    c.in_ok-push.ensures.ok c.in-None.ensures.none w
