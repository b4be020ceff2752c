use Rattle.tl_tree.proofs.Documents.{each_ok, each_err}
use Rattle.tl_tree.proofs.Soundness.{each_sound}
use Rattle.tl_tree.proofs.document.tree.Goals as goal

pub returns-clause-each_ok : goal.returns-clause-each_ok
returns-clause-each_ok c = each_ok c.args.tokens.now c.read.result c.read.ensures.ok c.read.ensures.err

pub returns-clause-each_err : goal.returns-clause-each_err
returns-clause-each_err c = each_err c.args.tokens.now c.read.result c.read.ensures.ok c.read.ensures.within c.read.ensures.err

pub returns-clause-sound : goal.returns-clause-sound
returns-clause-sound c = each_sound c.args.tokens.now c.read.result c.requires c.read.ensures.ok c.read.ensures.within
