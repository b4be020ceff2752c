-- The grammar of documents: one table with what stands in it, after the content model of tables in the
-- HTML Standard, 4.9. Each relation leads from tokens and marks to those that follow a whole part: the
-- marks say what begins, and which characters and line breaks stand in a flow. An end tag in brackets
-- may be left out; `S` is any number of texts of white space alone.
--
--     document := outer* table outer*
--     outer    := S-text | Outer start or end tag
--     table    := <table> S caption? colpart* part* </table>
--     caption  := <caption> flow [</caption>] S
--     colpart  := <colgroup> (S-text | <col>)* [</colgroup>] S
--               | <col> S
--     part     := group | row
--     group    := (<thead> | <tbody> | <tfoot>) S row* [end tag] S
--     row      := <tr> S cell* [</tr>] S
--     cell     := (<td> | <th>) flow [</td> | </th>] S
--     flow     := (text | <br> | P or Div start or end tag | Inline start or end tag | table)*
--
-- Where there are two readings, these rules choose: white space before a place at which an end tag is
-- left out belongs to what that tag would end; rows that follow one another belong together; so do the
-- `col` tags after a `colgroup`.
use Rattle.std.specs.Prelude.{◌≡◌, ℕ, ◌+◌, Bool, false, IsTrue, List, [], ◌∷◌, ◌++◌, map, sum}
use Rattle.tl_token.specs.declared.token.Spans.{Spans}
use Rattle.tl_tree.specs.declared.node.Part.{Part}
use Rattle.tl_tree.specs.declared.node.Part.TheVariants.{Loose}
use Rattle.tl_tree.specs.Tags.{Section, part_of, Kind, Kinds, text, table_start, table_end, caption_start, caption_end}
use Rattle.tl_tree.specs.Tags.{colgroup_start, colgroup_end, col}
use Rattle.tl_tree.specs.Tags.{group_start, group_end, row_start, row_end, cell_start, cell_end, br, p_or_div, inline_tag}
use Rattle.tl_tree.specs.Tags.{outer_tag, is_white, is_row_start}
use Rattle.tl_tree.specs.Tags.{is_col, begins_with}

-- what a document tells at one place: that a thing begins, that a character or a line break stands in a flow, or
-- that a paragraph or a table ends
pub data Mark : Type 0 where
  table_begins : Mark
  caption_begins : Mark
  -- how many columns the column tags of the table stand for
  columns : ℕ → Mark
  group_begins : Part → Mark
  row_begins : Mark
  cell_begins : Bool → Spans → Mark
  character : ℕ → Mark
  line_break : Mark
  -- the text goes on in another paragraph, if it goes on
  paragraph_ends : Mark
  table_ends : Mark

-- marks in their order
abbrev pub Marks : Type 0
Marks = List Mark

-- `S`
pub data Spaces : Kinds → Kinds → Type 0 where
  no_space : {ks : Kinds} → Spaces ks ks
  space : {cs : List ℕ} {ks rest : Kinds} → IsTrue (is_white (text cs)) → Spaces ks rest → Spaces (text cs ∷ ks) rest

-- an end tag that may be left out, and the white space after it
pub data Ended (tag : Kind) : Kinds → Kinds → Type 0 where
  by_tag : {ks rest : Kinds} → Spaces ks rest → Ended tag (tag ∷ ks) rest
  left_out : {ks : Kinds} → begins_with is_white ks ≡ false → Ended tag ks ks

-- the spans of the `col` tags in a `colgroup`
pub data Cols : Kinds → List ℕ → Kinds → Type 0 where
  no_col : {ks : Kinds} → begins_with is_col ks ≡ false → Cols ks [] ks
  col_space : {cs spans : _} {ks rest : Kinds} → IsTrue (is_white (text cs)) → Cols ks spans rest → Cols (text cs ∷ ks) spans rest
  next_col : {span : ℕ} {spans : List ℕ} {ks rest : Kinds} → Cols ks spans rest → Cols (col span ∷ ks) (span ∷ spans) rest

-- the columns of a `colgroup` with that span: those of its `col` tags, or its own span where it has none
abbrev pub colgroup_columns : ℕ → List ℕ → ℕ
colgroup_columns span [] = span
colgroup_columns span (s ∷ spans) = sum (s ∷ spans)

-- `colpart*`, and how many columns it stands for
pub data Columns : Kinds → ℕ → Kinds → Type 0 where
  no_columns : {ks : Kinds} → Columns ks 0 ks
  colgroup : {span n : ℕ} {spans : List ℕ} {ks k1 k2 rest : Kinds}
      → Cols ks spans k1 → Ended colgroup_end k1 k2 → Columns k2 n rest
      → Columns (colgroup_start span ∷ ks) (colgroup_columns span spans + n) rest
  lone_col : {span n : ℕ} {ks k1 rest : Kinds}
      → Spaces ks k1 → Columns k1 n rest
      → Columns (col span ∷ ks) (span + n) rest

mutual
  -- `flow`: texts, line breaks, tags of `p`, `div` and inline elements, and whole tables
  pub data Flow : Kinds → Marks → Kinds → Marks → Type 0 where
    no_flow : {ks : Kinds} {ms : Marks} → Flow ks ms ks ms
    words : {cs : List ℕ} {ks rest : Kinds} {ms more : Marks} → Flow ks ms rest more →
        Flow (text cs ∷ ks) (map character cs ++ ms) rest more
    break : {ks rest : Kinds} {ms more : Marks} → Flow ks ms rest more → Flow (br ∷ ks) (line_break ∷ ms) rest more
    edge : {ks rest : Kinds} {ms more : Marks} → Flow ks ms rest more → Flow (p_or_div ∷ ks) (paragraph_ends ∷ ms) rest more
    inline : {ks rest : Kinds} {ms more : Marks} → Flow ks ms rest more → Flow (inline_tag ∷ ks) ms rest more
    nested : {ks k1 rest : Kinds} {ms m1 more : Marks} → Table ks ms k1 m1 → Flow k1 m1 rest more → Flow ks ms rest more

  -- `table`: from its start tag to its end tag
  pub data Table : Kinds → Marks → Kinds → Marks → Type 0 where
    table : {n : ℕ} {ks k1 k2 k3 rest : Kinds} {ms m1 more : Marks}
        → Spaces ks k1 → Caption k1 ms k2 (columns n ∷ m1) → Columns k2 n k3 → Parts k3 m1 (table_end ∷ rest) (table_ends ∷ more)
        → Table (table_start ∷ ks) (table_begins ∷ ms) rest more

  -- `caption?`: the caption of a table, or none
  pub data Caption : Kinds → Marks → Kinds → Marks → Type 0 where
    no_caption : {ks : Kinds} {ms : Marks} → Caption ks ms ks ms
    caption : {ks k1 rest : Kinds} {ms more : Marks}
        → Flow ks ms k1 (paragraph_ends ∷ more) → Ended caption_end k1 rest
        → Caption (caption_start ∷ ks) (caption_begins ∷ ms) rest more

  -- `cell*`: the cells of a row
  pub data Cells : Kinds → Marks → Kinds → Marks → Type 0 where
    no_cell : {ks : Kinds} {ms : Marks} → Cells ks ms ks ms
    cell : {head : Bool} {spans : Spans} {ks k1 k2 rest : Kinds} {ms m1 more : Marks}
        → Flow ks ms k1 (paragraph_ends ∷ m1) → Ended (cell_end head) k1 k2 → Cells k2 m1 rest more
        → Cells (cell_start head spans ∷ ks) (cell_begins head spans ∷ ms) rest more

  -- `row*`: rows that follow one another
  pub data Rows : Kinds → Marks → Kinds → Marks → Type 0 where
    no_row : {ks : Kinds} {ms : Marks} → begins_with is_row_start ks ≡ false → Rows ks ms ks ms
    row : {ks k1 k2 k3 rest : Kinds} {ms m1 more : Marks}
        → Spaces ks k1 → Cells k1 ms k2 m1 → Ended row_end k2 k3 → Rows k3 m1 rest more
        → Rows (row_start ∷ ks) (row_begins ∷ ms) rest more

  -- `part*`: the groups of a table, and the runs of rows outside groups
  pub data Parts : Kinds → Marks → Kinds → Marks → Type 0 where
    no_part : {ks : Kinds} {ms : Marks} → Parts ks ms ks ms
    group : {section : Section} {ks k1 k2 k3 rest : Kinds} {ms m1 more : Marks}
        → Spaces ks k1 → Rows k1 ms k2 m1 → Ended (group_end section) k2 k3 → Parts k3 m1 rest more
        → Parts (group_start section ∷ ks) (group_begins (part_of section) ∷ ms) rest more
    loose_rows : {ks k1 rest : Kinds} {ms m1 more : Marks}
        → Rows (row_start ∷ ks) ms k1 m1 → Parts k1 m1 rest more
        → Parts (row_start ∷ ks) (group_begins Loose ∷ ms) rest more

-- `outer*`
pub data Outer : Kinds → Kinds → Type 0 where
  no_outer : {ks : Kinds} → Outer ks ks
  outer_space : {cs : List ℕ} {ks rest : Kinds} → IsTrue (is_white (text cs)) → Outer ks rest → Outer (text cs ∷ ks) rest
  outer : {ks rest : Kinds} → Outer ks rest → Outer (outer_tag ∷ ks) rest

-- The tokens are a document, which those marks describe.
pub record DocumentTokens (ks : Kinds) (ms : Marks) : Type 0 where
  pub before : Kinds
  pub after : Kinds
  pub led : Outer ks before
  pub whole : Table before ms after []
  pub followed : Outer after []
