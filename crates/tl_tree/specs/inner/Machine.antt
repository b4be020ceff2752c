-- The machine that reads a document a token at a time. No public clause cites this file.
use Rattle.std.specs.Prelude.{◌≡◌, ℕ, ◌+◌, Bool, true, false, Option, Some, None, List, [], ◌∷◌, ◌++◌, map, if◌then◌else◌}
use Rattle.tl_token.specs.declared.token.Spans.{Spans}
use Rattle.tl_tree.specs.declared.node.Part.{Part}
use Rattle.tl_tree.specs.declared.node.Part.TheVariants.{Loose, Head, Body, Foot}
use Rattle.tl_tree.specs.Tags.{Section, thead, tbody, tfoot, part_of, Kind, Kinds, text, table_start, table_end, caption_start}
use Rattle.tl_tree.specs.Tags.{caption_end, colgroup_start}
use Rattle.tl_tree.specs.Tags.{colgroup_end, col, group_start, group_end, row_start, row_end, cell_start, cell_end, br, p_or_div}
use Rattle.tl_tree.specs.Tags.{inline_tag, outer_tag}
use Rattle.tl_tree.specs.Tags.{lone_end, is_white}
use Rattle.tl_tree.specs.Grammar.{Marks, table_begins, caption_begins, columns, group_begins, row_begins, cell_begins, character}
use Rattle.tl_tree.specs.Grammar.{line_break, paragraph_ends}
use Rattle.tl_tree.specs.Grammar.{table_ends}

-- what a flow stands in: a caption, or a cell of a group of that part, a header cell or not
pub data Holder : Type 0 where
  of_caption : Holder
  of_cell : Part → Bool → Holder

-- where in a table the next token stands
pub data Place : Type 0 where
  -- after its start tag
  opened : Place
  -- where column tags may come, after so many columns
  in_columns : ℕ → Place
  -- in a `colgroup`, after so many columns, to which its end adds so many
  in_colgroup : ℕ → ℕ → Place
  -- where groups and rows may come, and no column
  between : Place
  in_group : Part → Place
  in_row : Part → Place
  in_flow : Holder → Place

-- what a token does in a table
pub data Move : Type 0 where
  to : Place → Marks → Move
  -- a table begins in the flow
  enter : Holder → Move
  -- the table ends
  leave : Marks → Move
  never : Move

-- the row that goes on after what stands in it has ended, and the marks of that end
abbrev pub row_tags_at : Place → Option (Part × Marks)
row_tags_at (in_flow (of_cell part head)) = Some (part, paragraph_ends ∷ [])
row_tags_at (in_row part) = Some (part, [])
row_tags_at _ = None

-- the group that goes on after what stands in it has ended, and the marks of that end
abbrev pub group_of : Place → Option (Part × Marks)
group_of (in_flow (of_cell part head)) = Some (part, paragraph_ends ∷ [])
group_of (in_row part) = Some (part, [])
group_of (in_group part) = Some (part, [])
group_of _ = None

-- where column tags may come once what is open has ended: how many columns there are, and the marks of that end
abbrev pub column_tags_at : Place → Option (ℕ × Marks)
column_tags_at opened = Some (0, [])
column_tags_at (in_flow of_caption) = Some (0, paragraph_ends ∷ [])
column_tags_at (in_columns n) = Some (n, [])
column_tags_at (in_colgroup n pending) = Some (n + pending, [])
column_tags_at _ = None

-- the marks that are due before a group begins or the table ends
abbrev pub due : Place → Marks
due opened = columns 0 ∷ []
due (in_columns n) = columns n ∷ []
due (in_colgroup n pending) = columns (n + pending) ∷ []
due between = []
due (in_group part) = []
due (in_row part) = []
due (in_flow of_caption) = paragraph_ends ∷ columns 0 ∷ []
due (in_flow (of_cell part head)) = paragraph_ends ∷ []

-- the end tag of that element ends a group of that part
abbrev pub closes : Section → Part → Bool
closes thead Head = true
closes tbody Body = true
closes tfoot Foot = true
closes _ _ = false

-- both are header cells, or neither is
abbrev pub same_head : Bool → Bool → Bool
same_head true b = b
same_head false true = false
same_head false false = true

-- a token that stands in flows alone, where it adds those marks
abbrev pub in_flow_only : Marks → Place → Move
in_flow_only ms (in_flow holder) = to (in_flow holder) ms
in_flow_only ms _ = never

-- a text adds its characters to a flow; elsewhere it has to be white space, and adds nothing
abbrev pub read_text : List ℕ → Place → Move
read_text cs (in_flow holder) = to (in_flow holder) (map character cs)
read_text cs p = if is_white (text cs) then to p [] else never

-- a start tag of a table stands in a flow
abbrev pub start_table : Place → Move
start_table (in_flow holder) = enter holder
start_table _ = never

-- a start tag of a caption stands right after that of the table
abbrev pub start_caption : Place → Move
start_caption opened = to (in_flow of_caption) (caption_begins ∷ [])
start_caption _ = never

-- an end tag of a caption ends the caption, after which columns may come
abbrev pub end_caption : Place → Move
end_caption (in_flow of_caption) = to (in_columns 0) (paragraph_ends ∷ [])
end_caption _ = never

-- a start tag of a `colgroup` stands where column tags may come
abbrev pub start_colgroup : ℕ → Option (ℕ × Marks) → Move
start_colgroup span None = never
start_colgroup span (Some c) = to (in_colgroup c.0 span) c.1

-- an end tag of a `colgroup` adds the columns that are due
abbrev pub end_colgroup : Place → Move
end_colgroup (in_colgroup n pending) = to (in_columns (n + pending)) []
end_colgroup _ = never

-- a `col` outside a `colgroup` stands where column tags may come, and adds its span
abbrev pub lone_col : ℕ → Option (ℕ × Marks) → Move
lone_col span None = never
lone_col span (Some c) = to (in_columns (c.0 + span)) c.1

-- a `col` in a `colgroup` adds its span in place of that of the `colgroup`
abbrev pub read_col : ℕ → Place → Move
read_col span (in_colgroup n pending) = to (in_colgroup (n + span) 0) []
read_col span p = lone_col span (column_tags_at p)

-- an end tag of a group ends the group, where it is of the same part
abbrev pub end_tag_of_group : Section → Option (Part × Marks) → Move
end_tag_of_group section None = never
end_tag_of_group section (Some g) = if closes section g.0 then to between g.1 else never

-- a row begins in the group that is open; where none is, loose rows begin with it
abbrev pub start_row : Marks → Option (Part × Marks) → Move
start_row marks None = to (in_row Loose) (marks ++ (group_begins Loose ∷ row_begins ∷ []))
start_row marks (Some g) = to (in_row g.0) (g.1 ++ row_begins ∷ [])

-- an end tag of a row ends the row that is open
abbrev pub end_row : Option (Part × Marks) → Move
end_row None = never
end_row (Some r) = to (in_group r.0) r.1

-- a cell begins in the row that is open
abbrev pub start_cell : Bool → Spans → Option (Part × Marks) → Move
start_cell head spans None = never
start_cell head spans (Some r) = to (in_flow (of_cell r.0 head)) (r.1 ++ cell_begins head spans ∷ [])

-- an end tag of a cell ends the cell, where both are `th` or both `td`
abbrev pub end_cell : Bool → Place → Move
end_cell head (in_flow (of_cell part open_head)) = if same_head open_head head then to (in_row part)
    (paragraph_ends ∷ []) else never
end_cell head _ = never

-- what each kind of token does at each place of a table
abbrev pub move : Place → Kind → Move
move p (text cs) = read_text cs p
move p table_start = start_table p
move p table_end = leave (due p ++ table_ends ∷ [])
move p caption_start = start_caption p
move p caption_end = end_caption p
move p (colgroup_start span) = start_colgroup span (column_tags_at p)
move p colgroup_end = end_colgroup p
move p (col span) = read_col span p
move p (group_start section) = to (in_group (part_of section)) (due p ++ group_begins (part_of section) ∷ [])
move p (group_end section) = end_tag_of_group section (group_of p)
move p row_start = start_row (due p) (group_of p)
move p row_end = end_row (row_tags_at p)
move p (cell_start head spans) = start_cell head spans (row_tags_at p)
move p (cell_end head) = end_cell head p
move p br = in_flow_only (line_break ∷ []) p
move p p_or_div = in_flow_only (paragraph_ends ∷ []) p
move p inline_tag = in_flow_only [] p
move p outer_tag = never
move p lone_end = never

-- a document so far: before its table, inside it with the flows that hold the table at hand, the
-- innermost first, after it, or begun by no tokens like these
pub data DocumentState : Type 0 where
  before : DocumentState
  inside : Place → List Holder → DocumentState
  after : DocumentState
  failed : DocumentState

-- the state once a table has ended: in the innermost flow that holds it, or after the document's table
abbrev pub table_left : List Holder → DocumentState
table_left [] = after
table_left (holder ∷ holders) = inside (in_flow holder) holders

-- the state after a move in the table that is open
abbrev pub moved : List Holder → Move → DocumentState
moved holders (to p ms) = inside p holders
moved holders (enter holder) = inside opened (holder ∷ holders)
moved holders (leave ms) = table_left holders
moved holders never = failed

-- the marks that a move adds
abbrev pub marks_of : Move → Marks
marks_of (to p ms) = ms
marks_of (enter holder) = table_begins ∷ []
marks_of (leave ms) = ms
marks_of never = []

-- the state after a token that comes before the document's table
abbrev pub next_before : Kind → DocumentState
next_before (text cs) = if is_white (text cs) then before else failed
next_before outer_tag = before
next_before table_start = inside opened []
next_before _ = failed

-- the marks that a token adds before the document's table
abbrev pub told_before : Kind → Marks
told_before table_start = table_begins ∷ []
told_before _ = []

-- the state after a token that comes after the document's table
abbrev pub next_after : Kind → DocumentState
next_after (text cs) = if is_white (text cs) then after else failed
next_after outer_tag = after
next_after _ = failed

-- the state after a token
abbrev pub next : DocumentState → Kind → DocumentState
next before k = next_before k
next (inside p holders) k = moved holders (move p k)
next after k = next_after k
next failed k = failed

-- the marks that a token adds
abbrev pub told : DocumentState → Kind → Marks
told before k = told_before k
told (inside p holders) k = marks_of (move p k)
told after k = []
told failed k = []

-- the state after tokens, one after another
abbrev pub reached : DocumentState → Kinds → DocumentState
reached s [] = s
reached s (k ∷ ks) = reached (next s k) ks

-- the marks that tokens add, one after another
abbrev pub all_told : DocumentState → Kinds → Marks
all_told s [] = []
all_told s (k ∷ ks) = told s k ++ all_told (next s k) ks

-- the tokens lead from that state to the end of a document, and add those marks
pub record Accepts (s : DocumentState) (ks : Kinds) (ms : Marks) : Type 0 where
  pub ends : reached s ks ≡ after
  pub tells : all_told s ks ≡ ms
