use Rattle.std.proofs.Common.{ap, ◌∙◌, ◌++◌, refl}
use Rattle.tl_tree.specs.Outline.{outline, block_outline, blocks_outline}
use Rattle.tl_tree.proofs.Outlines.{flat_map-push, nested_block}
use Rattle.tl_tree.proofs.Readings.{leaves_flow}
use Rattle.tl_tree.proofs.reading.end_table.Goals as goal

pub returns-in_ok-push-in-Some : goal.returns-in_ok-push-in-Some
returns-in_ok-push-in-Some c =
    let o = c.in-Some.field-0 in
    let more = c.in_ok-push-in-Some.ensures.ok in
    let blocks = ap blocks_outline c.new-flow.ensures.blocks ∙ ap blocks_outline more ∙ flat_map-push block_outline o.blocks _
    ∙ ap (λ es. blocks_outline o.blocks ++ es) (nested_block c.in_ok-new-in-Some.field-0 ∙ ap outline
    c.in_ok-new-in-Some.ensures.ok) in
    leaves_flow c.args.outer.items c.pop.new.self.items o c.args.table c.in_ok-into_parts.field-0 c.end-node.result
    c.new-flow.result _
    c.in-Some.ensures.items c.in_ok-into_parts.ensures c.end-node.ensures blocks c.new-flow.ensures.atoms
    c.new-flow.ensures.word refl (λ k later. refl)
