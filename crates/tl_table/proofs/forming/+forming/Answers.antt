use Rattle.std.proofs.Common.{◌∙◌, ◌++◌, [], ◌∷◌, Bool, List, length, map, refl, sym, ap, subst, rules, arith}
use Rattle.std.proofs.Common.{Global, Some, Vec, alloc_error}
use Rattle.std.specs.List.{flat_map}
use Rattle.std.specs.List.Sorted.{IsPermutation, IsNonDecreasingBy}
use Rattle.std.proofs.lemmas.List.{length-map}
use Rattle.tl_base.specs.Returned.{IsMemoryOr}
use Rattle.tl_base.proofs.Zips.{AllZip-push}
use Rattle.tl_tree.specs.Outline.{block_outline, cell_outline, group_outline, cells_outline}
use Rattle.tl_grid.specs.declared.shape.Place.{Place}
use Rattle.tl_grid.proofs.Laws.{all_within}
use Rattle.tl_tree.specs.Sound.{AreSound}
use Rattle.tl_tree.specs.declared.node.Block.{the_lemmas, out-Block}
use Rattle.tl_tree.specs.declared.node.CellNode.{CellNode}
use Rattle.tl_tree.specs.declared.node.GroupNode.{GroupNode, out-GroupNode}
use Rattle.tl_tree.specs.declared.node.TableNode.{out-TableNode}
use Rattle.tl_table.specs.declared.cell.Content.{out-Content}
use Rattle.tl_table.specs.declared.cell.Table.{out-roll-Table}
use Rattle.tl_table.specs.declared.cell.TableCell.{TableCell}
use Rattle.tl_table.specs.declared.error.FormError.TheVariants.{Memory}
use Rattle.tl_table.specs.Formed.{BecomeCaption, Becomes, BecomesContent, BecomeContents, Writes, cells_of_group}
use Rattle.tl_table.specs.Formed.{is_thead, marks_of_group, marks_of_groups, marks_written}
use Rattle.tl_table.specs.Formed.{cells_of_groups, cells_written, lowered, shape_of, slot_number}
use Rattle.tl_table.specs.Refused.{CellPart, GroupPart, AreRefused, HasNoGrid, tables_in_block, part_of_cell}
use Rattle.tl_table.specs.Refused.{part_of_group, tables_in_caption, tables_in_cells, tables_in_flow, tables_in_groups}
use Rattle.tl_table.proofs.SoundNodes.{sound_each, cell_flow, group_rows, sound_groups, table_caption, shape_spans}
use Rattle.tl_table.proofs.SoundParts.{at_item}
use Rattle.tl_table.proofs.TreeParts.{part_of_cell-out, part_of_group-out}
use Rattle.tl_table.proofs.Gridless.{Gridded, becomes_gridded, contents_gridded, cells_gridded, refused_item, refused_own}
use Rattle.tl_table.proofs.Gridless.{refused_caption, refused_cells, rows_tables, tables_written}
use Rattle.tl_table.proofs.Writing.{Writes-cell, Writes-last, Writes-length, Writes-room, comes_to, yielded_all}
use Rattle.tl_table.proofs.Formed.{as_many_cells, made_table}
use Rattle.tl_table.proofs.forming.+forming.Goals.{formed-in-None, formed-in-Some+in_ok-caption-in-Some}
use Rattle.tl_table.proofs.forming.+forming.Goals as goal

pub contents-content-requires : goal.contents-content-requires
contents-content-requires t c =
    let at = comes_to c.into_iter-block-iterator.result c.loop-block.block-iterator c.next.new.self
    c.into_vec-block-items.result c.args.flow c.loop-block.yielded c.in-Some.block
    c.into_vec-block-items.ensures c.into_iter-block-iterator.ensures.into_iter_gives.0
    c.into_iter-block-iterator.ensures.into_iter_gives.1 c.loop-block.yielded_by c.in-Some.is
    c.next.ensures.steps in (
      search (rules, the_lemmas),
      at_item (λ block. AreSound (block_outline block)) c.args.flow (length c.loop-block.yielded) c.in-Some.block
          (sound_each block_outline c.args.flow c.requires) at.within at.is,
    )

pub contents-loop-block-preserved : goal.contents-loop-block-preserved
contents-loop-block-preserved t c =
    subst (BecomeContents (Becomes c.args.breaking) c.args.breaking (c.loop-block.yielded ++ c.in-Some.block ∷ []))
    (sym c.in_ok-push.ensures.items)
    (AllZip-push (λ block content. BecomesContent (Becomes c.args.breaking) c.args.breaking (out-Block block) (out-Content content))
    c.loop-block.yielded c.loop-block.blocks.items c.in-Some.block c.in_ok-made.made c.loop-block.invariant c.in_ok-made.ensures.ok)

pub contents-returns-in_err-made-clause-err : goal.contents-returns-in_err-made-clause-err
contents-returns-in_err-made-clause-err t c =
    let at = comes_to c.into_iter-block-iterator.result c.loop-block.block-iterator c.next.new.self
    c.into_vec-block-items.result c.args.flow c.loop-block.yielded c.in-Some.block
    c.into_vec-block-items.ensures c.into_iter-block-iterator.ensures.into_iter_gives.0
    c.into_iter-block-iterator.ensures.into_iter_gives.1 c.loop-block.yielded_by c.in-Some.is
    c.next.ensures.steps in
    let refused : IsMemoryOr (Memory alloc_error) (AreRefused (tables_in_flow c.args.flow)) c.in_err-made.field-0.0 =
    refused_item tables_in_block c.args.flow (length c.loop-block.yielded) c.in-Some.block (Memory alloc_error)
    c.in_err-made.field-0.0 at.within at.is
    (subst (λ some. Gridded (tables_in_flow some)) at.so_far
    (contents_gridded (Becomes c.args.breaking) (becomes_gridded c.args.breaking) c.args.breaking c.loop-block.yielded
    c.loop-block.blocks.items c.loop-block.invariant)) c.in_err-made.ensures.err in
    search rules

pub cell-contents-requires : goal.cell-contents-requires
cell-contents-requires t c = (search (rules, the_lemmas), cell_flow c.args.node c.requires)

pub cell-returns-in_err-blocks-clause-err : goal.cell-returns-in_err-blocks-clause-err
cell-returns-in_err-blocks-clause-err t c =
    let refused : IsMemoryOr (Memory alloc_error) (AreRefused (part_of_cell c.args.node).inner) c.in_err-blocks.field-0.0 =
    subst (λ tables. IsMemoryOr (Memory alloc_error) (AreRefused tables) c.in_err-blocks.field-0.0)
    (sym (ap (λ (part : CellPart). part.inner) (part_of_cell-out c.args.node))) c.in_err-blocks.ensures.err in
    search rules

pub row_cells-bounds-places-len : goal.row_cells-bounds-places-len
row_cells-bounds-places-len t c =
    let at = comes_to c.into_iter-node-iterator.result c.loop-node.node-iterator c.next.new.self
    c.into_vec-node-items.result c.args.row c.loop-node.yielded c.in-Some.node
    c.into_vec-node-items.ensures c.into_iter-node-iterator.ensures.into_iter_gives.0
    c.into_iter-node-iterator.ensures.into_iter_gives.1 c.loop-node.yielded_by c.in-Some.is
    c.next.ensures.steps in
    omega (
      arith,
      Writes-length c.args.breaking c.loop-node.yielded c.args.places.now c.args.written.items c.loop-node.written.items
          c.loop-node.invariant,
      c.requires.room,
      at.within,
      c.len.ensures,
    )

pub row_cells-cell-requires : goal.row_cells-cell-requires
row_cells-cell-requires t c =
    let at = comes_to c.into_iter-node-iterator.result c.loop-node.node-iterator c.next.new.self
    c.into_vec-node-items.result c.args.row c.loop-node.yielded c.in-Some.node
    c.into_vec-node-items.ensures c.into_iter-node-iterator.ensures.into_iter_gives.0
    c.into_iter-node-iterator.ensures.into_iter_gives.1 c.loop-node.yielded_by c.in-Some.is
    c.next.ensures.steps in (
      search (rules, the_lemmas),
      at_item (λ node. AreSound (cell_outline node)) c.args.row (length c.loop-node.yielded) c.in-Some.node
          (sound_each cell_outline c.args.row c.requires.sound) at.within at.is,
    )

pub row_cells-returns-in_err-made-clause-err : goal.row_cells-returns-in_err-made-clause-err
row_cells-returns-in_err-made-clause-err t c =
    let at = comes_to c.into_iter-node-iterator.result c.loop-node.node-iterator c.next.new.self
    c.into_vec-node-items.result c.args.row c.loop-node.yielded c.in-Some.node
    c.into_vec-node-items.ensures c.into_iter-node-iterator.ensures.into_iter_gives.0
    c.into_iter-node-iterator.ensures.into_iter_gives.1 c.loop-node.yielded_by c.in-Some.is
    c.next.ensures.steps in
    let refused : IsMemoryOr (Memory alloc_error) (AreRefused (tables_in_cells c.args.row)) c.in_err-made.field-0.0 =
    refused_item (λ node. (part_of_cell node).inner) c.args.row (length c.loop-node.yielded) c.in-Some.node
    (Memory alloc_error) c.in_err-made.field-0.0 at.within at.is
    (subst (λ some. Gridded (tables_in_cells some)) at.so_far
    (cells_gridded (Becomes c.args.breaking) (becomes_gridded c.args.breaking) c.args.breaking c.loop-node.yielded
    c.loop-node.invariant.more c.loop-node.invariant.cells)) c.in_err-made.ensures.err in
    search rules

pub row_cells-loop-node-preserved : goal.row_cells-loop-node-preserved
row_cells-loop-node-preserved t c =
    let at = comes_to c.into_iter-node-iterator.result c.loop-node.node-iterator c.next.new.self
    c.into_vec-node-items.result c.args.row c.loop-node.yielded c.in-Some.node
    c.into_vec-node-items.ensures c.into_iter-node-iterator.ensures.into_iter_gives.0
    c.into_iter-node-iterator.ensures.into_iter_gives.1 c.loop-node.yielded_by c.in-Some.is
    c.next.ensures.steps in
    Writes-cell c.args.breaking c.loop-node.yielded c.in-Some.node (λ (node : CellNode). c.args.in_head) c.args.places.now
    c.args.written.items
    c.loop-node.written.items c.push.new.self.items c.in_ok-made.made c.len.result _ c.loop-node.invariant
    c.in_ok-made.ensures.ok c.in_ok-made.ensures.marked (search rules) c.in_ok-made.ensures.place (omega (
      arith,
      Writes-length c.args.breaking c.loop-node.yielded c.args.places.now c.args.written.items c.loop-node.written.items
          c.loop-node.invariant,
      c.requires.room,
      at.within,
      c.len.ensures,
    )) c.in_ok-push.ensures.items

-- for each cell of a row of the group, whether the group is a `thead`
abbrev marks_of_row : GroupNode → List CellNode → List Bool
marks_of_row group row = map (λ (cell : CellNode). is_thead (out-GroupNode group).part) row

pub group_cells-row_cells-requires : goal.group_cells-row_cells-requires
group_cells-row_cells-requires t c =
    let rows = (out-GroupNode c.args.group).rows in
    let at = comes_to c.into_iter-row-iterator.result c.loop-row.row-iterator c.next.new.self
    c.into_vec-row-items.result rows c.loop-row.yielded c.in-Some.row
    c.into_vec-row-items.ensures c.into_iter-row-iterator.ensures.into_iter_gives.0
    c.into_iter-row-iterator.ensures.into_iter_gives.1 c.loop-row.yielded_by c.in-Some.is
    c.next.ensures.steps in (
      search (rules, the_lemmas),
      (
        at_item (λ (cells : List CellNode). AreSound (cells_outline cells)) rows (length c.loop-row.yielded) c.in-Some.row
            (group_rows c.args.group c.requires.sound) at.within at.is,
        (
          c.loop-row.invariant.placed,
          Writes-room c.args.breaking (λ (row : List CellNode). row) rows (length c.loop-row.yielded) c.in-Some.row
              c.args.places.now c.args.written.items c.loop-row.written.items at.within at.is
              (subst (λ (some : List (List CellNode)). Writes c.args.breaking (flat_map (λ (row : List CellNode). row) some)
              (flat_map (marks_of_row c.args.group) c.loop-row.yielded) c.args.places.now c.args.written.items
              c.loop-row.written.items) at.so_far c.loop-row.invariant) c.requires.room,
        ),
      ),
    )

pub group_cells-returns-in_err-written-clause-err : goal.group_cells-returns-in_err-written-clause-err
group_cells-returns-in_err-written-clause-err t c =
    let rows = (out-GroupNode c.args.group).rows in
    let at = comes_to c.into_iter-row-iterator.result c.loop-row.row-iterator c.next.new.self
    c.into_vec-row-items.result rows c.loop-row.yielded c.in-Some.row
    c.into_vec-row-items.ensures c.into_iter-row-iterator.ensures.into_iter_gives.0
    c.into_iter-row-iterator.ensures.into_iter_gives.1 c.loop-row.yielded_by c.in-Some.is
    c.next.ensures.steps in
    let inside : IsMemoryOr (Memory alloc_error) (AreRefused (flat_map tables_in_cells rows)) c.in_err-written.field-0.0 =
    refused_item tables_in_cells rows (length c.loop-row.yielded) c.in-Some.row (Memory alloc_error)
    c.in_err-written.field-0.0 at.within at.is
    (subst (λ (some : List (List CellNode)). Gridded (flat_map tables_in_cells some)) at.so_far
    (subst Gridded (rows_tables c.loop-row.yielded)
    (cells_gridded (Becomes c.args.breaking) (becomes_gridded c.args.breaking) c.args.breaking
    (flat_map (λ (row : List CellNode). row) c.loop-row.yielded)
    c.loop-row.invariant.more c.loop-row.invariant.cells))) c.in_err-written.ensures.err in
    let refused : IsMemoryOr (Memory alloc_error) (AreRefused (part_of_group c.args.group).inner) c.in_err-written.field-0.0 =
    subst (λ tables. IsMemoryOr (Memory alloc_error) (AreRefused tables) c.in_err-written.field-0.0)
    (sym (rows_tables rows) ∙ sym (ap (λ (part : GroupPart). part.inner) (part_of_group-out c.args.group))) inside in
    search rules

pub group_cells-loop-row-preserved : goal.group_cells-loop-row-preserved
group_cells-loop-row-preserved t c =
    Writes-last c.args.breaking (λ (row : List CellNode). row) (marks_of_row c.args.group) c.loop-row.yielded c.in-Some.row
    c.args.places.now c.args.written.items c.loop-row.written.items c.in_ok-written.written.items c.loop-row.invariant
    (subst (λ (mark : Bool). Writes c.args.breaking c.in-Some.row (map (λ (cell : CellNode). mark) c.in-Some.row)
    c.args.places.now c.loop-row.written.items c.in_ok-written.written.items) c.is_thead-in_head.ensures c.in_ok-written.ensures.ok)

pub group_cells-returns-clause-ok : goal.group_cells-returns-clause-ok
group_cells-returns-clause-ok t c =
    let rows = (out-GroupNode c.args.group).rows in
    subst (λ (some : List (List CellNode)). Writes c.args.breaking (flat_map (λ (row : List CellNode). row) some)
    (flat_map (marks_of_row c.args.group) some) c.args.places.now c.args.written.items c.loop-row.written.items)
    (yielded_all c.into_iter-row-iterator.result c.loop-row.row-iterator c.next.new.self
    c.into_vec-row-items.result rows c.loop-row.yielded c.into_vec-row-items.ensures
    c.into_iter-row-iterator.ensures.into_iter_gives.0
    c.into_iter-row-iterator.ensures.into_iter_gives.1 c.loop-row.yielded_by c.in-None.is c.next.ensures.steps)
    c.loop-row.invariant

pub written_cells-group_cells-requires : goal.written_cells-group_cells-requires
written_cells-group_cells-requires t c =
    let at = comes_to c.into_iter-group-iterator.result c.loop-group.group-iterator c.next.new.self
    c.into_vec-group-items.result c.args.groups c.loop-group.yielded c.in-Some.group
    c.into_vec-group-items.ensures c.into_iter-group-iterator.ensures.into_iter_gives.0
    c.into_iter-group-iterator.ensures.into_iter_gives.1 c.loop-group.yielded_by c.in-Some.is
    c.next.ensures.steps in (
      search (rules, the_lemmas),
      (
        at_item (λ (group : GroupNode). AreSound (group_outline group)) c.args.groups (length c.loop-group.yielded)
            c.in-Some.group (sound_each group_outline c.args.groups c.requires.sound) at.within at.is,
        (
          c.loop-group.invariant.placed,
          Writes-room c.args.breaking (λ (group : GroupNode). cells_of_group (out-GroupNode group)) c.args.groups
              (length c.loop-group.yielded) c.in-Some.group c.args.places.now [] c.loop-group.written.items at.within at.is
              (subst (λ (some : List GroupNode). Writes c.args.breaking (cells_of_groups some)
              (marks_of_groups c.loop-group.yielded) c.args.places.now [] c.loop-group.written.items) at.so_far
              c.loop-group.invariant)
              (omega (arith, c.requires.room)),
        ),
      ),
    )

pub written_cells-returns-in_err-written-2-clause-err : goal.written_cells-returns-in_err-written-2-clause-err
written_cells-returns-in_err-written-2-clause-err t c =
    let at = comes_to c.into_iter-group-iterator.result c.loop-group.group-iterator c.next.new.self
    c.into_vec-group-items.result c.args.groups c.loop-group.yielded c.in-Some.group
    c.into_vec-group-items.ensures c.into_iter-group-iterator.ensures.into_iter_gives.0
    c.into_iter-group-iterator.ensures.into_iter_gives.1 c.loop-group.yielded_by c.in-Some.is
    c.next.ensures.steps in
    let refused : IsMemoryOr (Memory alloc_error) (AreRefused (tables_in_groups c.args.groups)) c.in_err-written-2.field-0.0 =
    refused_item (λ (group : GroupNode). (part_of_group group).inner) c.args.groups (length c.loop-group.yielded)
    c.in-Some.group (Memory alloc_error) c.in_err-written-2.field-0.0 at.within at.is
    (subst (λ (some : List GroupNode). Gridded (tables_in_groups some)) at.so_far
    (subst Gridded (sym (tables_written c.loop-group.yielded))
    (cells_gridded (Becomes c.args.breaking) (becomes_gridded c.args.breaking) c.args.breaking
    (cells_of_groups c.loop-group.yielded) c.loop-group.invariant.more c.loop-group.invariant.cells)))
    c.in_err-written-2.ensures.err in
    search rules

pub written_cells-loop-group-preserved : goal.written_cells-loop-group-preserved
written_cells-loop-group-preserved t c =
    Writes-last c.args.breaking (λ (group : GroupNode). cells_of_group (out-GroupNode group))
    (λ (group : GroupNode). marks_of_group (out-GroupNode group)) c.loop-group.yielded c.in-Some.group
    c.args.places.now [] c.loop-group.written.items c.in_ok-written-2.written.items c.loop-group.invariant
    c.in_ok-written-2.ensures.ok

pub formed-returns-in_err-grid-clause-err : goal.formed-returns-in_err-grid-clause-err
formed-returns-in_err-grid-clause-err t c =
    let refused : IsMemoryOr (Memory alloc_error) (HasNoGrid c.args.node) c.in_err-grid.field-0.0 =
    refused_own c.args.node (Memory alloc_error) c.in_err-grid.field-0.0 c.in_err-grid.ensures.err in
    search rules

pub formed-lowered-requires-clause-high : goal.formed-lowered-requires-clause-high
formed-lowered-requires-clause-high t c = λ k d within.
    let placed = all_within (shape_of (out-TableNode c.args.node)) c.in_ok-grid.grid
    (shape_spans c.args.node c.requires) c.in_ok-grid.ensures.ok
    k d within in
    omega (arith, placed.3, c.in_ok-grid.ensures.ok.rows, c.in_ok-grid.ensures.ok.few_rows)

pub formed-lowered-requires-clause-low : goal.formed-lowered-requires-clause-low
formed-lowered-requires-clause-low t c = λ k d within.
    (all_within (shape_of (out-TableNode c.args.node)) c.in_ok-grid.grid (shape_spans c.args.node c.requires)
    c.in_ok-grid.ensures.ok
    k d within).2

pub formed-written_cells-requires : goal.formed-written_cells-requires
formed-written_cells-requires t c = (
  search (rules, the_lemmas),
  (
    sound_groups c.args.node c.requires,
    as_many_cells (out-TableNode c.args.node) c.in_ok-grid.grid c.in_ok-grid.ensures.ok
        ∙ sym (ap length (c.as_slice.ensures ∙ c.in_ok-places.ensures)
        ∙ length-map c.in_ok-grid.grid.places (lowered c.caption_rows-down.result)),
  ),
)

pub formed-caption_cells-requires : goal.formed-caption_cells-requires
formed-caption_cells-requires t c = (
  search (rules, the_lemmas),
  table_caption c.args.node c.in-Some.flow c.in-Some.is c.requires,
)

pub formed-returns-in_err-caption-in-Some-clause-err : goal.formed-returns-in_err-caption-in-Some-clause-err
formed-returns-in_err-caption-in-Some-clause-err t c =
    let refused : IsMemoryOr (Memory alloc_error) (HasNoGrid c.args.node) c.in_err-caption-in-Some.field-0.0 =
    refused_caption c.args.node c.in_ok-grid.grid (Memory alloc_error) c.in_err-caption-in-Some.field-0.0 c.in_ok-grid.ensures.ok
    (subst (λ caption. IsMemoryOr (Memory alloc_error) (AreRefused (tables_in_caption caption))
    c.in_err-caption-in-Some.field-0.0) (sym c.in-Some.is) c.in_err-caption-in-Some.ensures.err) in
    search rules

pub formed-returns-in_err-written-clause-err : goal.formed-returns-in_err-written-clause-err
formed-returns-in_err-written-clause-err t c =
    let captioned : BecomeCaption (Becomes c.args.breaking) c.args.breaking c.max-cols.result (out-TableNode c.args.node).caption
    c.match-caption.caption.items =
    elim c.match-caption.branch [
      | formed-in-None w ↦ subst (λ caption. BecomeCaption (Becomes c.args.breaking) c.args.breaking c.max-cols.result caption
          c.match-caption.caption.items) (sym w.in-None.is)
          (ap (λ (cells : Vec TableCell Global). cells.items) w.caption-is ∙ w.new-caption.ensures.items)
      | formed-in-Some+in_ok-caption-in-Some w ↦ subst (λ caption. BecomeCaption (Becomes c.args.breaking) c.args.breaking
          c.max-cols.result caption c.match-caption.caption.items) (sym w.in-Some.is)
          (subst (λ (cells : Vec TableCell Global). BecomeCaption (Becomes c.args.breaking) c.args.breaking c.max-cols.result
          (Some w.in-Some.flow) cells.items) (sym w.caption-is) w.in_ok-caption-in-Some.ensures.ok)
    ] in
    let refused : IsMemoryOr (Memory alloc_error) (HasNoGrid c.args.node) c.in_err-written.field-0.0 =
    refused_cells c.args.node c.in_ok-grid.grid c.args.breaking c.max-cols.result c.match-caption.caption.items
    (Memory alloc_error)
    c.in_err-written.field-0.0 c.in_ok-grid.ensures.ok captioned c.in_err-written.ensures.err in
    search rules

pub formed-returns-clause-ok : goal.formed-returns-clause-ok
formed-returns-clause-ok t c =
    let captioned : BecomeCaption (Becomes c.args.breaking) c.args.breaking c.max-cols.result (out-TableNode c.args.node).caption
    c.match-caption.caption.items =
    elim c.match-caption.branch [
      | formed-in-None w ↦ subst (λ caption. BecomeCaption (Becomes c.args.breaking) c.args.breaking c.max-cols.result caption
          c.match-caption.caption.items) (sym w.in-None.is)
          (ap (λ (cells : Vec TableCell Global). cells.items) w.caption-is ∙ w.new-caption.ensures.items)
      | formed-in-Some+in_ok-caption-in-Some w ↦ subst (λ caption. BecomeCaption (Becomes c.args.breaking) c.args.breaking
          c.max-cols.result caption c.match-caption.caption.items) (sym w.in-Some.is)
          (subst (λ (cells : Vec TableCell Global). BecomeCaption (Becomes c.args.breaking) c.args.breaking c.max-cols.result
          (Some w.in-Some.flow) cells.items) (sym w.caption-is) w.in_ok-caption-in-Some.ensures.ok)
    ] in
    made_table c.args.breaking c.args.node _ c.in_ok-grid.grid c.in_ok-places.places c.match-caption.caption.items
    c.in_ok-written.written.items
    (c.match-caption.caption.items ++ c.in_ok-written.written.items)
    c.from_vec.result c.caption_rows-down.result c.max-cols.result c.requires
    c.in_ok-grid.ensures.ok c.caption_rows-down.ensures c.max-cols.ensures captioned c.in_ok-places.ensures
    (subst (λ (places : List Place). Writes c.args.breaking (cells_written (out-TableNode c.args.node))
    (marks_written (out-TableNode c.args.node)) places [] c.in_ok-written.written.items)
    c.as_slice.ensures c.in_ok-written.ensures.ok)
    refl
    (subst (IsPermutation (c.match-caption.caption.items ++ c.in_ok-written.written.items)) (sym c.from_vec.ensures)
    c.in_ok-cells.ensures.same)
    (subst (IsNonDecreasingBy slot_number) (sym c.from_vec.ensures) c.in_ok-cells.ensures.sorted)
    (out-roll-Table _)
