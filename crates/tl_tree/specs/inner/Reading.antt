-- No public clause cites this file. What has been read of a document: its place in the machine, and the
-- outline that comes once the marks that are still to come have come.
use Rattle.std.specs.Prelude.{◌≡◌, ℕ, ◌+◌, ◌≤◌, ◌<◌, ◌^◌, Bool, true, false, Some, [], ◌∷◌, ◌++◌}
use Rattle.std.specs.List.{flat_map}
use Rattle.tl_base.specs.declared.limits.TheConstants.{MAX_FILE_BYTES}
use Rattle.tl_tree.specs.Tags.{Kind}
use Rattle.tl_tree.specs.Grammar.{Marks, paragraph_ends}
use Rattle.tl_tree.specs.Paragraphs.{leading, paragraph_of, entries_after, entries_of}
use Rattle.tl_tree.specs.Outline.{Entries, table, caption, columns, group, cell, group_outline, blocks_outline, caption_outline}
use Rattle.tl_tree.specs.Outline.{row_outline}
use Rattle.tl_tree.specs.inner.Lines.{line_atoms, line_size}
use Rattle.tl_tree.specs.inner.Machine as machine
use Rattle.tl_tree.specs.inner.Machine.{Place, row_tags_at, group_of, column_tags_at, move, to, marks_of}
use Rattle.tl_tree.specs.declared.flow.Line.{Line}
use Rattle.tl_tree.specs.declared.flow.Flow.{Flow}
use Rattle.tl_tree.specs.declared.open.Head.{Head}
use Rattle.tl_tree.specs.declared.open.Parts.{Parts}
use Rattle.tl_tree.specs.declared.open.OpenGroup.{OpenGroup}
use Rattle.tl_tree.specs.declared.open.OpenRow.{OpenRow}
use Rattle.tl_tree.specs.declared.open.OpenCell.{OpenCell}
use Rattle.tl_tree.specs.declared.open.Holder.{Holder}
use Rattle.tl_tree.specs.declared.open.Holder.TheVariants as holders
use Rattle.tl_tree.specs.declared.open.OpenTable.{OpenTable}
use Rattle.tl_tree.specs.declared.open.OpenTable.TheVariants as tables

-- the entries of a table up to its caption
abbrev pub head_so_far : Head → Entries
head_so_far head = table head.number ∷ caption_outline head.caption

-- the entries of a table up to its groups that are whole
abbrev pub parts_so_far : Parts → Entries
parts_so_far parts = head_so_far parts.head ++ (columns parts.head.columns ∷ flat_map group_outline parts.groups)

-- the entries of a table up to the rows that are whole in the group that is open
abbrev pub group_so_far : OpenGroup → Entries
group_so_far g = parts_so_far g.table ++ (group g.part ∷ flat_map row_outline g.rows)

-- the entries of a table up to the cells that are whole in the row that is open
abbrev pub row_so_far : OpenRow → Entries
row_so_far r = group_so_far r.group ++ row_outline r.cells

-- the entries of a table up to the cell that is open, whose flow comes after them
abbrev pub cell_so_far : OpenCell → Entries
cell_so_far c = row_so_far c.row ++ (cell c.head c.spans.colspan c.spans.rowspan c.spans.least c.spans.align ∷ [])

-- the entries of a table up to the caption or the cell that is open
abbrev pub holder_so_far : Holder → Entries
holder_so_far (holders.Caption number) = table number ∷ caption ∷ []
holder_so_far (holders.Cell c) = cell_so_far c

-- the outline that comes, by the number of the next table and the marks that are still to come
abbrev pub OutlineOutcome : Type 0
OutlineOutcome = ℕ → Marks → Entries

-- the outline that comes after these entries, where no paragraph is open
abbrev pub after_entries : Entries → OutlineOutcome
after_entries entries k ms = entries ++ entries_of k ms

-- the outline that comes after these entries, where a paragraph is open
abbrev pub in_paragraph : Entries → Line → OutlineOutcome
in_paragraph entries line k ms = entries ++ (paragraph_of (line_atoms line (leading ms)) ++ entries_after k ms)

-- the outline that comes after these entries and the blocks of a flow, where a paragraph is open in it
abbrev pub in_flow : Entries → Flow → OutlineOutcome
in_flow entries flow = in_paragraph (entries ++ blocks_outline flow.blocks) flow.line

-- the outline that comes, where that table is open
abbrev pub outcome : OpenTable → OutlineOutcome
outcome (tables.Start number) = after_entries (table number ∷ [])
outcome (tables.Columns head) = after_entries (head_so_far head)
outcome (tables.Colgroup head pending) = after_entries (head_so_far head)
outcome (tables.Between parts) = after_entries (parts_so_far parts)
outcome (tables.Group g) = after_entries (group_so_far g)
outcome (tables.Row r) = after_entries (row_so_far r)
outcome (tables.Flow holder flow) = in_flow (holder_so_far holder) flow

-- the second comes of the first by those marks, among which no table begins
pub record Adds (old new : OutlineOutcome) (ms : Marks) : Type 0 where
  pub same : (k : ℕ) (later : Marks) → new k later ≡ old k (ms ++ later)

-- what the machine sees of the caption or the cell that a flow stands in
abbrev pub holder_of : Holder → machine.Holder
holder_of (holders.Caption number) = machine.of_caption
holder_of (holders.Cell c) = machine.of_cell c.row.group.part c.head

-- where a table that is open stands in the machine
abbrev pub machine_place : OpenTable → Place
machine_place (tables.Start number) = machine.opened
machine_place (tables.Columns head) = machine.in_columns head.columns
machine_place (tables.Colgroup head pending) = machine.in_colgroup head.columns pending
machine_place (tables.Between parts) = machine.between
machine_place (tables.Group g) = machine.in_group g.part
machine_place (tables.Row r) = machine.in_row r.group.part
machine_place (tables.Flow holder flow) = machine.in_flow (holder_of holder)

-- the marks of the end of the flow at a place, if there is one
abbrev pub ending : Place → Marks
ending (machine.in_flow holder) = paragraph_ends ∷ []
ending _ = []

-- the place is in the flow of a caption
abbrev pub is_caption_flow : Place → Bool
is_caption_flow (machine.in_flow machine.of_caption) = true
is_caption_flow _ = false

-- the place is in the flow of a header cell, if `head`, or of another cell
abbrev pub is_cell_flow : Bool → Place → Bool
is_cell_flow head (machine.in_flow (machine.of_cell part open_head)) = machine.same_head open_head head
is_cell_flow head _ = false

-- how many columns a place has, with those that the end of a `colgroup` adds
abbrev pub place_columns : Place → ℕ
place_columns (machine.in_columns n) = n
place_columns (machine.in_colgroup n pending) = n + pending
place_columns _ = 0

-- how much the paragraph that is open counts so far
abbrev pub open_size : OpenTable → ℕ
open_size (tables.Flow holder flow) = line_size flow.line
open_size _ = 0

-- what reading a table on may count on: that few columns and few characters have come
pub record IsModest (t : OpenTable) : Type 0 where
  pub few_columns : place_columns (machine_place t) < 2 ^ 31
  pub small : open_size t ≤ MAX_FILE_BYTES

-- a row goes on once what is open in it has ended, by the marks of that end
pub record RowGoesOn (old : OutlineOutcome) (p : Place) (r : OpenRow) : Type 0 where
  pub found : row_tags_at p ≡ Some (r.group.part, ending p)
  pub adds : Adds old (after_entries (row_so_far r)) (ending p)

-- a group goes on once what is open in it has ended, by the marks of that end
pub record GroupGoesOn (old : OutlineOutcome) (p : Place) (g : OpenGroup) : Type 0 where
  pub found : group_of p ≡ Some (g.part, ending p)
  pub adds : Adds old (after_entries (group_so_far g)) (ending p)

-- columns may come once what is open before them has ended, by the marks of that end
pub record ColumnsGoOn (old : OutlineOutcome) (p : Place) (head : Head) : Type 0 where
  pub found : column_tags_at p ≡ Some (head.columns, ending p)
  pub adds : Adds old (after_entries (head_so_far head)) (ending p)

-- the token moves the table on, and adds the marks of that move
pub record Moves (old : OpenTable) (k : Kind) (new : OpenTable) : Type 0 where
  pub goes : move (machine_place old) k ≡ to (machine_place new) (marks_of (move (machine_place old) k))
  pub adds : Adds (outcome old) (outcome new) (marks_of (move (machine_place old) k))
