use Rattle.tl_form.specs.Subjects.{meant}
use Rattle.tl_table.proofs.TableNumbers.{sound_among}
use Rattle.tl_nested.proofs.ByDepth.{sizes_more}
use Rattle.tl_nested.proofs.depths.sizes_of.Goals as goal

pub nested-requires : goal.nested-requires
nested-requires c =
    sound_among c.args.subject.now.table.now c.table_of.result.now c.requires.sound c.table_of.ensures.among

pub loop-k-preserved : goal.loop-k-preserved
loop-k-preserved c =
    sizes_more (meant c.args.subject.now) c.requires.sound c.loop-k.sizes.items c.push.new.self.items c.loop-k.k c.nested.result
    c.table_of.result.now c.loop-k.invariant c.in_ok-push.ensures.items c.table_of.ensures c.nested.ensures
