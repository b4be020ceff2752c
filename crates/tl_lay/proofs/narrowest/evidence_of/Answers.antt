-- What was found is short enough to be read back.
use Rattle.tl_lay.proofs.Readable.{kept_readable, less_readable, spent_readable}
use Rattle.tl_lay.proofs.narrowest.evidence_of.Goals as goal

pub text_of-requires : goal.text_of-requires
text_of-requires c = kept_readable c.args.task.now c.args.given.now.table c.args.given.now.budget c.requires.usable c.args.height c.args.slim.now
    c.requires.slim

pub text_of-requires-2 : goal.text_of-requires-2
text_of-requires-2 c = less_readable c.args.task.now c.args.given.now.table c.args.given.now.budget c.requires.usable c.args.height c.args.slim.now
    c.requires.slim

pub text_of-requires-3 : goal.text_of-requires-3
text_of-requires-3 c = spent_readable c.args.task.now c.args.given.now.table c.args.given.now.budget c.requires.usable c.args.height c.args.slim.now
    c.requires.slim
