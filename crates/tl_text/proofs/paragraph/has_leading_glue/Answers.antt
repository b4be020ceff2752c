use Rattle.std.proofs.Common.{true}
use Rattle.tl_text.proofs.Leading.{leads_is}
use Rattle.tl_text.proofs.paragraph.has_leading_glue.Goals as goal

pub loop-atom-init : goal.loop-atom-init
loop-atom-init c = leads_is true c.args.atoms.now
