use Rattle.tl_nested.specs.Searched.{AreSectionsOf}
use Rattle.tl_narrow.specs.inner.Trials.{IsKnown, trials_left}
use Rattle.tl_narrow.proofs.slim.slimmest.Given as goal

abbrev pub invariant-loop-width : goal.invariant-loop-width
invariant-loop-width g l = IsKnown (λ width certificate. AreSectionsOf (λ problem outcome. g.M.Make.besides l.maker problem l.aim.budget
    outcome) l.table l.aim.style width l.aim.budget certificate.sections) l.table l.aim.style l.aim.height l.aim.most l.aim.budget l.fn.kept l.slim

abbrev pub decreases-loop-width : goal.decreases-loop-width
decreases-loop-width g l = trials_left l.aim.most l.slim
