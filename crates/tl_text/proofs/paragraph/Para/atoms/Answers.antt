use Rattle.tl_text.proofs.Sizes.{few_atoms, small_atoms}
use Rattle.tl_text.proofs.paragraph.Para.atoms.Goals as goal

pub returns-clause-few : goal.returns-clause-few
returns-clause-few c = rw c.as_slice.ensures (few_atoms c.self.inside.atoms c.self.invariant)

pub returns-clause-small : goal.returns-clause-small
returns-clause-small c = rw c.as_slice.ensures (small_atoms c.self.inside.atoms c.self.invariant)
