-- The search that is named made the trials.
use Rattle.std.proofs.Common.{refl}
use Rattle.tl_lay.proofs.SlimPages.{handed_found, slim_by}
use Rattle.tl_lay.proofs.makers.slimmest_with.Goals as goal

pub returns-clause-slim : goal.returns-clause-slim
returns-clause-slim g c =
    let found = c.slimmest.ensures in
    slim_by c.args.task.now c.args.given.now.table c.args.height c.args.given.now.budget c.args.kept _ c.slimmest.result
    refl c.requires.usable.of_task found.slim found.searched found.order

pub returns-clause-handed : goal.returns-clause-handed
returns-clause-handed g c = handed_found c.args.task.now c.args.given.now.table c.args.height c.args.given.now.budget c.args.kept _
    c.slimmest.result c.requires.usable.range.some c.requires.kept c.slimmest.ensures.order
