use Rattle.std.proofs.Common.{[], ◌∷◌, sym, ◌∙◌, append_assoc}
use Rattle.std.specs.List.{flat_map}
use Rattle.tl_tree.specs.Outline.{columns, group_outline, table_end}
use Rattle.tl_tree.specs.inner.Reading.{head_so_far}
use Rattle.tl_tree.proofs.Outlines.{table_made}
use Rattle.tl_tree.proofs.open.Parts.end.Goals as goal

pub returns : goal.returns
returns c =
    let h = c.args.self.head in
    table_made h.number h.caption h.columns c.args.self.groups
    ∙ sym (append_assoc (head_so_far h) (columns h.columns ∷ flat_map group_outline c.args.self.groups) (table_end ∷ []))
