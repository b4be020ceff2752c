use Rattle.tl_text.proofs.Refinement.{broken_above-refines}
use Rattle.tl_text.proofs.laws.lesser_numbers_refine.Goals as goal

pub returns : goal.returns
returns c = broken_above-refines
