-- The outline of each part of a tree, from those of its own parts.
use Rattle.std.proofs.Common.{◌≡◌, ℕ, Option, Some, None, List, [], ◌∷◌, ◌++◌, refl, sym, ap, ◌∙◌, append_assoc}
use Rattle.std.proofs.lemmas.List.{append-nil}
use mathlib.Core.List.{map as list_map}
use Rattle.std.specs.declared.boxed.Box.{Box}
use Rattle.std.specs.declared.alloc.Global.{Global}
use Rattle.tl_text.specs.declared.paragraph.Atom.{Atom}
use Rattle.std.specs.List.{flat_map}
use Rattle.tl_tree.specs.Outline.{Entries, table, caption, columns, group, row, cell, paragraph, table_end, joined_entries}
use Rattle.tl_tree.specs.Outline.{row_entries}
use Rattle.tl_tree.specs.Outline.{block_entries, cell_entries}
use Rattle.tl_tree.specs.Outline.{group_entries, table_entries, block_outline, cell_outline, group_outline, outline}
use Rattle.tl_tree.specs.declared.node.Block.{Block, Table, roll-Block, fold-roll-Block}
use Rattle.tl_tree.specs.Outline.{caption_outline}
use Rattle.tl_tree.specs.declared.node.Block.TheViews.{rolls-Table}
use Rattle.tl_tree.specs.declared.node.Block.TheOpen as parts
use Rattle.tl_tree.specs.declared.node.CellNode.{CellNode, roll-CellNode, fold-roll-CellNode}
use Rattle.tl_tree.specs.declared.node.GroupNode.{GroupNode, roll-GroupNode, fold-roll-GroupNode}
use Rattle.tl_tree.specs.declared.node.TableNode.{TableNode, roll-TableNode, fold-roll-TableNode}

joined-map : {A : Type 0} (f : A → Entries) (xs : List A) → joined_entries (list_map f xs) ≡ flat_map f xs
joined-map f [] = refl
joined-map f (x ∷ xs) = ap (λ es. f x ++ es) (joined-map f xs)

rows-map : (f : CellNode → Entries) (rows : List (List CellNode)) →
    flat_map row_entries (list_map (list_map f) rows) ≡ flat_map (λ cells. row ∷ flat_map f cells) rows
rows-map f [] = refl
rows-map f (cells ∷ rows) =
    ap (λ es. row ∷ (es ++ flat_map row_entries (list_map (list_map f) rows))) (joined-map f cells)
    ∙ ap (λ es. row ∷ (flat_map f cells ++ es)) (rows-map f rows)

pub paragraph_made : (p : List Atom) → block_outline (roll-Block (parts.Para p)) ≡ paragraph p ∷ []
paragraph_made p = fold-roll-Block Entries Entries Entries Entries block_entries cell_entries group_entries table_entries
    (parts.Para p)

pub nested_made : (box : Box TableNode Global) → block_outline (roll-Block (parts.Table box)) ≡ outline box.value
nested_made box = fold-roll-Block Entries Entries Entries Entries block_entries cell_entries group_entries table_entries
    (parts.Table box)

pub nested_block : (box : Box TableNode Global) → block_outline (Table box) ≡ outline box.value
nested_block box = ap block_outline (sym (rolls-Table box)) ∙ nested_made box

pub cell_made : (c : parts.CellNode-F Block CellNode GroupNode TableNode)
    → cell_outline (roll-CellNode c) ≡ cell c.head c.colspan c.rowspan c.least c.align ∷ flat_map block_outline c.flow
cell_made c = fold-roll-CellNode Entries Entries Entries Entries block_entries cell_entries group_entries table_entries c
    ∙ ap (λ es. cell c.head c.colspan c.rowspan c.least c.align ∷ es) (joined-map block_outline c.flow)

pub group_made : (g : parts.GroupNode-F Block CellNode GroupNode TableNode)
    → group_outline (roll-GroupNode g) ≡ group g.part ∷ flat_map (λ cells. row ∷ flat_map cell_outline cells) g.rows
group_made g = fold-roll-GroupNode Entries Entries Entries Entries block_entries cell_entries group_entries table_entries g
    ∙ ap (λ es. group g.part ∷ es) (rows-map cell_outline g.rows)

pub table_made : (number : ℕ) (flow : Option (List Block)) (n : ℕ) (groups : List GroupNode)
    → outline (roll-TableNode (record { number = number; caption = flow; columns = n; groups = groups }))
    ≡ table number ∷ (caption_outline flow ++ (columns n ∷ (flat_map group_outline groups ++ table_end ∷ [])))
table_made number None n groups =
    fold-roll-TableNode Entries Entries Entries Entries block_entries cell_entries group_entries table_entries _
    ∙ ap (λ es. table number ∷ (columns n ∷ (es ++ table_end ∷ []))) (joined-map group_outline groups)
table_made number (Some flow) n groups =
    fold-roll-TableNode Entries Entries Entries Entries block_entries cell_entries group_entries table_entries _
    ∙ ap (λ es. table number ∷
    (caption ∷ (es ++ (columns n ∷ (joined_entries (list_map group_outline groups) ++ table_end ∷ [])))))
    (joined-map block_outline flow)
    ∙ ap (λ es. table number ∷ (caption ∷ (flat_map block_outline flow ++ (columns n ∷ (es ++ table_end ∷ [])))))
    (joined-map group_outline groups)

-- one more at the end
pub flat_map-push : {A : Type 0} (f : A → Entries) (xs : List A) (x : A) → flat_map f (xs ++ x ∷ []) ≡ flat_map f xs ++ f x
flat_map-push f [] x = append-nil (f x)
flat_map-push f (y ∷ xs) x = ap (λ es. f y ++ es) (flat_map-push f xs x) ∙ sym (append_assoc (f y) (flat_map f xs) (f x))
