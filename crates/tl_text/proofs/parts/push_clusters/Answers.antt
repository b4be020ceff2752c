use Rattle.std.proofs.Common.{◌++◌, map, ap, sym, ◌∙◌}
use Rattle.std.specs.Str.{chars}
use Rattle.std.proofs.lemmas.Iterator.Consumers.{YieldsList-end}
use Rattle.std.proofs.lemmas.Simd.{map-map}
use Rattle.unicode_segmentation.specs.Iter.{graphemes_left}
use Rattle.unicode_segmentation.proofs.SegmentsLemmas.{YieldsList-from_gives}
use Rattle.tl_text.specs.Clusters.{clusters_of}
use Rattle.tl_text.proofs.ClusterLemmas.{shown-graphemes}
use Rattle.tl_text.proofs.parts.push_clusters.Goals as goal

-- all clusters came, as texts
pub returns : goal.returns
returns c =
    let clusters = c.into_iter-cluster-iterator in
    let start = YieldsList-from_gives (λ piece. piece.now) graphemes_left clusters.result in
    let end = YieldsList-end start c.loop-cluster.yielded _ c.loop-cluster.yielded_by _ _ c.in-None.is c.next.ensures.steps in
    let pieces = end.0 ∙ ap graphemes_left clusters.ensures.into_iter_gives ∙ c.graphemes-cluster-items.ensures.left in
    let texts = sym (map-map chars (λ piece. piece.now) c.loop-cluster.yielded) ∙ ap (map chars) pieces
    ∙ shown-graphemes c.as_str.result.now c.as_str.utf8 ∙ ap clusters_of c.as_str.ensures in
    c.loop-cluster.invariant ∙ ap (λ given. c.args.pieces.now ++ given) texts
