-- The last bound of a key is on a span that is there.
use Rattle.tl_store.proofs.GroupLaws.{head-span}
use Rattle.tl_store.proofs.groups.list_new.Goals as goal

pub returns-clause-spans : goal.returns-clause-spans
returns-clause-spans c = λ count old inside. c.list.ensures.spans count old
    (head-span count c.last_of.result c.args.key.now c.last_of.ensures inside)
