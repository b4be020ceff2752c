-- Each trial keeps what is known, and leaves fewer.
use Rattle.tl_nested.specs.Searched.{AreSectionsOf}
use Rattle.tl_narrow.proofs.Beginning.{known_first}
use Rattle.tl_narrow.proofs.Stepping.{fewer, next_wide, taken}
use Rattle.tl_narrow.proofs.slim.slimmest.Goals as goal

pub loop-width-init : goal.loop-width-init
loop-width-init g c =
    let begin = c.in_ok-slim.ensures in
    known_first (λ width certificate. AreSectionsOf (λ problem outcome. g.M.Make.besides c.args.maker.now problem c.args.aim.budget
    outcome) c.args.table.now c.args.aim.style width c.args.aim.budget certificate.sections) c.args.table.now c.args.aim.style c.args.aim.height
    c.args.aim.most c.args.aim.budget c.args.kept c.in_ok-slim.slim (begin.known c.args.aim.height c.requires.kept) begin.kept begin.less
    begin.spent begin.width begin.least

pub tried-requires-clause-wide : goal.tried-requires-clause-wide
tried-requires-clause-wide g c = λ lifetimes outlives least is.
    next_wide c.args.table.now c.args.aim.style c.args.aim.height c.args.aim.most c.args.aim.budget c.loop-width.slim
    c.loop-width.invariant.so_far c.in-Some.width c.in-Some.ensures.next least is

pub loop-width-smaller : goal.loop-width-smaller
loop-width-smaller g c =
    fewer (λ width certificate. AreSectionsOf (λ problem outcome. g.M.Make.besides c.args.maker.now problem c.args.aim.budget outcome)
    c.args.table.now c.args.aim.style width c.args.aim.budget certificate.sections) c.args.table.now c.args.aim.style c.args.aim.height c.args.aim.most
    c.args.aim.budget c.args.kept c.loop-width.slim c.take.new.self c.loop-width.invariant c.in-Some.width c.in_ok-trial.trial
    c.in-Some.ensures.next c.in_ok-trial.ensures.trial c.in_ok-trial.ensures.searched c.take.ensures

pub loop-width-preserved : goal.loop-width-preserved
loop-width-preserved g c =
    taken (λ width certificate. AreSectionsOf (λ problem outcome. g.M.Make.besides c.args.maker.now problem c.args.aim.budget outcome)
    c.args.table.now c.args.aim.style width c.args.aim.budget certificate.sections) c.args.table.now c.args.aim.style c.args.aim.height c.args.aim.most
    c.args.aim.budget c.args.kept c.loop-width.slim c.take.new.self c.loop-width.invariant c.in-Some.width c.in_ok-trial.trial
    c.in-Some.ensures.next c.in_ok-trial.ensures.trial c.in_ok-trial.ensures.searched c.take.ensures
