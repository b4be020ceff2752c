use Rattle.tl_text.proofs.PartClusters.{broken_above-zero}
use Rattle.tl_text.proofs.laws.words_above_0_are_by_clusters.Goals as goal

pub returns : goal.returns
returns c = broken_above-zero
