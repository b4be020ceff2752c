use Rattle.std.proofs.Common.{◌∷◌, ◌++◌, sym, ap, ◌∙◌, append_assoc}
use Rattle.std.specs.List.{flat_map}
use Rattle.tl_tree.specs.Outline.{columns, group_outline}
use Rattle.tl_tree.proofs.Outlines.{group_made, flat_map-push}
use Rattle.tl_tree.specs.inner.Reading.{head_so_far}
use Rattle.tl_tree.proofs.open.OpenGroup.end.Goals as goal

pub returns : goal.returns
returns c =
    let t = c.args.self.table in
    ap (λ gs. head_so_far t.head ++ (columns t.head.columns ∷ flat_map group_outline gs)) c.in_ok-push.ensures.ok
    ∙ ap (λ es. head_so_far t.head ++ (columns t.head.columns ∷ es))
    (flat_map-push group_outline t.groups _ ∙ ap (λ es. flat_map group_outline t.groups ++ es) (group_made _))
    ∙ sym (append_assoc (head_so_far t.head) (columns t.head.columns ∷ flat_map group_outline t.groups) _)
