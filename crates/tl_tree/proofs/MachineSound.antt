-- What the machine accepts is a document, with those marks.
use Rattle.std.proofs.Common.{◌≡◌, ℕ, ◌+◌, Bool, true, false, List, [], ◌∷◌, ◌++◌, refl, sym, ap, ◌∙◌, subst, cond, append_assoc}
use Rattle.std.proofs.Common.{add_assoc, add-zero, zero-add}
use Rattle.std.proofs.lemmas.Bool.{false≢true}
use Rattle.std.proofs.lemmas.List.Sums.{sum_by-cons}
use Rattle.std.specs.Prelude.{map, sum}
use Rattle.tl_token.specs.declared.token.Spans.{Spans}
use Rattle.tl_tree.specs.declared.node.Part.{Part}
use Rattle.tl_tree.specs.declared.node.Part.TheVariants.{Loose, Head, Body, Foot}
use Rattle.tl_tree.specs.Tags.{Section, thead, tbody, tfoot, part_of, Kind, Kinds, text, table_start, table_end, caption_start}
use Rattle.tl_tree.specs.Tags.{caption_end, colgroup_start}
use Rattle.tl_tree.specs.Tags.{colgroup_end, col, group_start, group_end, row_start, row_end, cell_start, cell_end, br, p_or_div}
use Rattle.tl_tree.specs.Tags.{inline_tag, outer_tag}
use Rattle.tl_tree.specs.Tags.{lone_end, is_white, is_row_start, is_col, begins_with}
use Rattle.tl_tree.specs.Grammar.{Mark, Marks, table_begins, caption_begins, columns, group_begins, row_begins, cell_begins}
use Rattle.tl_tree.specs.Grammar.{character, line_break}
use Rattle.tl_tree.specs.Grammar.{paragraph_ends, table_ends, Spaces, no_space, space, Ended, by_tag, left_out, Cols, no_col}
use Rattle.tl_tree.specs.Grammar.{col_space, next_col}
use Rattle.tl_tree.specs.Grammar.{colgroup_columns, Columns, no_columns, colgroup, lone_col, Flow, no_flow, words, break, edge}
use Rattle.tl_tree.specs.Grammar.{inline, nested, Table, table}
use Rattle.tl_tree.specs.Grammar.{Caption, no_caption, caption, Cells, no_cell, cell, Rows, no_row, row, Parts, no_part, group}
use Rattle.tl_tree.specs.Grammar.{loose_rows, Outer, no_outer}
use Rattle.tl_tree.specs.Grammar.{outer_space, outer, DocumentTokens}
use Rattle.tl_tree.specs.inner.Machine.{Holder, of_caption, of_cell, Place, opened, in_columns, in_colgroup, between, in_group}
use Rattle.tl_tree.specs.inner.Machine.{in_row, in_flow, due, closes}
use Rattle.tl_tree.specs.inner.Machine.{Move, to, enter, leave, never, move, DocumentState, before, inside, after, failed}
use Rattle.tl_tree.specs.inner.Machine.{table_left, moved}
use Rattle.tl_tree.specs.inner.Machine.{marks_of, next, told, reached}
use Rattle.tl_tree.specs.inner.Machine.{all_told, Accepts}
use Rattle.tl_tree.proofs.Moves.{no_way, is_plain}

-- Each type has the rest of a table as it goes on from a place, up to what follows the table.
abbrev RestOfParts : Kinds → Marks → Kinds → Marks → Type 0
RestOfParts ks ms rest more = Parts ks ms (table_end ∷ rest) (table_ends ∷ more)

-- loose rows have no end tag
abbrev GroupEnded : Part → Kinds → Kinds → Type 0
GroupEnded Loose ks rest = ks ≡ rest
GroupEnded Head ks rest = Ended (group_end thead) ks rest
GroupEnded Body ks rest = Ended (group_end tbody) ks rest
GroupEnded Foot ks rest = Ended (group_end tfoot) ks rest

data RestOfRows (part : Part) (ks : Kinds) (ms : Marks) (rest : Kinds) (more : Marks) : Type 0 where
  rows_then : {k1 k2 : Kinds} {m1 : Marks} → Rows ks ms k1 m1 → GroupEnded part k1 k2 → RestOfParts k2 m1 rest more →
      RestOfRows part ks ms rest more

data RestOfCells (part : Part) (ks : Kinds) (ms : Marks) (rest : Kinds) (more : Marks) : Type 0 where
  cells_then : {k1 k2 : Kinds} {m1 : Marks} → Cells ks ms k1 m1 → Ended row_end k1 k2 → RestOfRows part k2 m1 rest more →
      RestOfCells part ks ms rest more

data RestOfColumns (n : ℕ) (ks : Kinds) (ms : Marks) (rest : Kinds) (more : Marks) : Type 0 where
  columns_then : {m : ℕ} {k1 : Kinds} {m1 : Marks} → Columns ks m k1 → ms ≡ columns (n + m) ∷ m1 → RestOfParts k1 m1 rest more →
      RestOfColumns n ks ms rest more

data Rest : Place → Kinds → Marks → Kinds → Marks → Type 0 where
  at_opened : {ks k1 k2 rest : Kinds} {ms m1 more : Marks} → Spaces ks k1 → Caption k1 ms k2 m1 →
      RestOfColumns 0 k2 m1 rest more → Rest opened ks ms rest more
  at_columns : {n : ℕ} {ks k1 rest : Kinds} {ms more : Marks} → Spaces ks k1 → RestOfColumns n k1 ms rest more →
      Rest (in_columns n) ks ms rest more
  at_colgroup : {n pending : ℕ} {spans : List ℕ} {ks k1 k2 rest : Kinds} {ms more : Marks}
      → Cols ks spans k1 → Ended colgroup_end k1 k2 → RestOfColumns (n + colgroup_columns pending spans) k2 ms rest more
      → Rest (in_colgroup n pending) ks ms rest more
  at_parts : {ks k1 rest : Kinds} {ms more : Marks} → Spaces ks k1 → RestOfParts k1 ms rest more → Rest between ks ms rest more
  at_rows : {part : Part} {ks k1 rest : Kinds} {ms more : Marks} → Spaces ks k1 → RestOfRows part k1 ms rest more →
      Rest (in_group part) ks ms rest more
  at_cells : {part : Part} {ks k1 rest : Kinds} {ms more : Marks} → Spaces ks k1 → RestOfCells part k1 ms rest more →
      Rest (in_row part) ks ms rest more
  at_caption : {ks k1 k2 rest : Kinds} {ms m1 more : Marks}
      → Flow ks ms k1 (paragraph_ends ∷ m1) → Ended caption_end k1 k2 → RestOfColumns 0 k2 m1 rest more
      → Rest (in_flow of_caption) ks ms rest more
  at_cell : {part : Part} {head : Bool} {ks k1 k2 rest : Kinds} {ms m1 more : Marks}
      → Flow ks ms k1 (paragraph_ends ∷ m1) → Ended (cell_end head) k1 k2 → RestOfCells part k2 m1 rest more
      → Rest (in_flow (of_cell part head)) ks ms rest more

-- A token that is no white space is the first of what follows: what was open may end before it.
cell_level : {part : Part} {head : Bool} (k : Kind) {ks rest : Kinds} {ms more : Marks} → is_white k ≡ false
    → Rest (in_row part) (k ∷ ks) ms rest more → Rest (in_flow (of_cell part head)) (k ∷ ks) (paragraph_ends ∷ ms) rest more
cell_level k solid (at_cells no_space cells) = at_cell no_flow (left_out solid) cells
cell_level k solid (at_cells (space white later) cells) = absurd (false≢true (sym solid ∙ white))

row_level : {part : Part} (k : Kind) {ks rest : Kinds} {ms more : Marks} → is_white k ≡ false
    → Rest (in_group part) (k ∷ ks) ms rest more → Rest (in_row part) (k ∷ ks) ms rest more
row_level k solid (at_rows no_space rows) = at_cells no_space (cells_then no_cell (left_out solid) rows)
row_level k solid (at_rows (space white later) rows) = absurd (false≢true (sym solid ∙ white))

group_ended : (part : Part) (ks : Kinds) → begins_with is_white ks ≡ false → GroupEnded part ks ks
group_ended Loose ks solid = refl
group_ended Head ks solid = left_out solid
group_ended Body ks solid = left_out solid
group_ended Foot ks solid = left_out solid

group_tag : (section : Section) {ks rest : Kinds} → Spaces ks rest → GroupEnded (part_of section) (group_end section ∷ ks) rest
group_tag thead spaces = by_tag spaces
group_tag tbody spaces = by_tag spaces
group_tag tfoot spaces = by_tag spaces

ended_group : (section : Section) {ks rest : Kinds} → GroupEnded (part_of section) ks rest → Ended (group_end section) ks rest
ended_group thead h = h
ended_group tbody h = h
ended_group tfoot h = h

group_level : {part : Part} (k : Kind) {ks rest : Kinds} {ms more : Marks} → is_white k ≡ false → is_row_start k ≡ false
    → Rest between (k ∷ ks) ms rest more → Rest (in_group part) (k ∷ ks) ms rest more
group_level {part} k solid kind (at_parts no_space parts) = at_rows no_space
    (rows_then (no_row kind) (group_ended part _ solid) parts)
group_level k solid kind (at_parts (space white later) parts) = absurd (false≢true (sym solid ∙ white))

columns_level : {n : ℕ} {ks rest : Kinds} {ms more : Marks} → Rest between ks ms rest more →
    Rest (in_columns n) ks (columns n ∷ ms) rest more
columns_level {n} {ms = ms} (at_parts spaces parts) = at_columns spaces
    (columns_then no_columns (ap (λ x. columns x ∷ ms) (sym (add-zero n))) parts)

colgroup_level : {n pending : ℕ} (k : Kind) {ks rest : Kinds} {ms more : Marks} → is_white k ≡ false → is_col k ≡ false
    → Rest (in_columns (n + pending)) (k ∷ ks) ms rest more → Rest (in_colgroup n pending) (k ∷ ks) ms rest more
colgroup_level k solid kind (at_columns no_space cols) = at_colgroup (no_col kind) (left_out solid) cols
colgroup_level k solid kind (at_columns (space white later) cols) = absurd (false≢true (sym solid ∙ white))

caption_level : (k : Kind) {ks rest : Kinds} {ms more : Marks} → is_white k ≡ false
    → Rest (in_columns 0) (k ∷ ks) ms rest more → Rest (in_flow of_caption) (k ∷ ks) (paragraph_ends ∷ ms) rest more
caption_level k solid (at_columns no_space cols) = at_caption no_flow (left_out solid) cols
caption_level k solid (at_columns (space white later) cols) = absurd (false≢true (sym solid ∙ white))

opened_level : {ks rest : Kinds} {ms more : Marks} → Rest (in_columns 0) ks ms rest more → Rest opened ks ms rest more
opened_level (at_columns spaces cols) = at_opened spaces no_caption cols

-- from any place, a token with which a group or the end of the table may begin
to_due : (p : Place) (k : Kind) {ks rest : Kinds} {ms more : Marks} → is_white k ≡ false → is_row_start k ≡ false →
    is_col k ≡ false
    → Rest between (k ∷ ks) ms rest more → Rest p (k ∷ ks) (due p ++ ms) rest more
to_due opened k w r c h = opened_level (columns_level h)
to_due (in_columns n) k w r c h = columns_level h
to_due (in_colgroup n pending) k w r c h = colgroup_level k w c (columns_level h)
to_due between k w r c h = h
to_due (in_group part) k w r c h = group_level k w r h
to_due (in_row part) k w r c h = row_level k w (group_level k w r h)
to_due (in_flow of_caption) k w r c h = caption_level k w (columns_level h)
to_due (in_flow (of_cell part head)) k w r c h = cell_level k w (row_level k w (group_level k w r h))

-- one token, from the place to which it moves
text_step : (p : Place) (cs : List ℕ) {ks rest : Kinds} {ms more : Marks} → is_plain p ≡ true → is_white (text cs) ≡ true
    → Rest p ks ms rest more → Rest p (text cs ∷ ks) ms rest more
text_step _ cs plain white (at_opened spaces before_columns cols) = at_opened (space white spaces) before_columns cols
text_step _ cs plain white (at_columns spaces cols) = at_columns (space white spaces) cols
text_step _ cs plain white (at_colgroup cols ended later) = at_colgroup (col_space white cols) ended later
text_step _ cs plain white (at_parts spaces parts) = at_parts (space white spaces) parts
text_step _ cs plain white (at_rows spaces rows) = at_rows (space white spaces) rows
text_step _ cs plain white (at_cells spaces cells) = at_cells (space white spaces) cells
text_step _ cs plain white (at_caption flow ended cols) = absurd (false≢true plain)
text_step _ cs plain white (at_cell flow ended cells) = absurd (false≢true plain)

words_step : (holder : Holder) (cs : List ℕ) {ks rest : Kinds} {ms more : Marks}
    → Rest (in_flow holder) ks ms rest more → Rest (in_flow holder) (text cs ∷ ks) (map character cs ++ ms) rest more
words_step _ cs (at_caption flow ended cols) = at_caption (words flow) ended cols
words_step _ cs (at_cell flow ended cells) = at_cell (words flow) ended cells

break_step : (holder : Holder) {ks rest : Kinds} {ms more : Marks}
    → Rest (in_flow holder) ks ms rest more → Rest (in_flow holder) (br ∷ ks) (line_break ∷ ms) rest more
break_step _ (at_caption flow ended cols) = at_caption (break flow) ended cols
break_step _ (at_cell flow ended cells) = at_cell (break flow) ended cells

edge_step : (holder : Holder) {ks rest : Kinds} {ms more : Marks}
    → Rest (in_flow holder) ks ms rest more → Rest (in_flow holder) (p_or_div ∷ ks) (paragraph_ends ∷ ms) rest more
edge_step _ (at_caption flow ended cols) = at_caption (edge flow) ended cols
edge_step _ (at_cell flow ended cells) = at_cell (edge flow) ended cells

inline_step : (holder : Holder) {ks rest : Kinds} {ms more : Marks}
    → Rest (in_flow holder) ks ms rest more → Rest (in_flow holder) (inline_tag ∷ ks) ms rest more
inline_step _ (at_caption flow ended cols) = at_caption (inline flow) ended cols
inline_step _ (at_cell flow ended cells) = at_cell (inline flow) ended cells

-- the table that stands there, from its start tag on
whole_table : {ks rest : Kinds} {ms more : Marks} → Rest opened ks ms rest more →
    Table (table_start ∷ ks) (table_begins ∷ ms) rest more
whole_table {ms = ms} (at_opened {k1 = k1} {k2 = k2} spaces before_columns (columns_then {m = m} {m1 = m1} cols same parts)) =
    let P : Marks → Type 0 = λ x. Caption k1 ms k2 x in
    table spaces (subst P (same ∙ ap (λ x. columns x ∷ m1) (zero-add m)) before_columns) cols parts

nested_step : (holder : Holder) {ks k1 rest : Kinds} {ms m1 more : Marks} → Table ks ms k1 m1
    → Rest (in_flow holder) k1 m1 rest more → Rest (in_flow holder) ks ms rest more
nested_step _ inner (at_caption flow ended cols) = at_caption (nested inner flow) ended cols
nested_step _ inner (at_cell flow ended cells) = at_cell (nested inner flow) ended cells

caption_start_step : {ks rest : Kinds} {ms more : Marks} → Rest (in_flow of_caption) ks ms rest more
    → Rest opened (caption_start ∷ ks) (caption_begins ∷ ms) rest more
caption_start_step (at_caption flow ended cols) = at_opened no_space (caption flow ended) cols

caption_end_step : {ks rest : Kinds} {ms more : Marks} → Rest (in_columns 0) ks ms rest more
    → Rest (in_flow of_caption) (caption_end ∷ ks) (paragraph_ends ∷ ms) rest more
caption_end_step (at_columns spaces cols) = at_caption no_flow (by_tag spaces) cols

-- columns that follow so many others
more_columns : {n m : ℕ} {ks rest : Kinds} {ms more : Marks} → n ≡ m → RestOfColumns n ks ms rest more →
    RestOfColumns m ks ms rest more
more_columns {ks = ks} {rest = rest} {ms = ms} {more = more} e h = let P : ℕ → Type 0 = λ x. RestOfColumns x ks ms rest more in
    subst P e h

colgroup_start_step : {n span : ℕ} {ks rest : Kinds} {ms more : Marks} → Rest (in_colgroup n span) ks ms rest more
    → Rest (in_columns n) (colgroup_start span ∷ ks) ms rest more
colgroup_start_step {n} {span} (at_colgroup {spans = spans} cols ended (columns_then {m = m} {m1 = m1} later same parts)) =
    at_columns no_space (columns_then (colgroup cols ended later)
    (same ∙ ap (λ x. columns x ∷ m1) (add_assoc n (colgroup_columns span spans) m)) parts)

colgroup_end_step : {n pending : ℕ} {ks rest : Kinds} {ms more : Marks} → Rest (in_columns (n + pending)) ks ms rest more
    → Rest (in_colgroup n pending) (colgroup_end ∷ ks) ms rest more
colgroup_end_step (at_columns spaces cols) = at_colgroup (no_col refl) (by_tag spaces) cols

col_step : {n pending span : ℕ} {ks rest : Kinds} {ms more : Marks} → Rest (in_colgroup (n + span) 0) ks ms rest more
    → Rest (in_colgroup n pending) (col span ∷ ks) ms rest more
col_step {n} {pending} {span} (at_colgroup {spans = spans} cols ended later) =
    at_colgroup (next_col cols) ended (more_columns same_number later)
  where
    sums : (rest : List ℕ) → colgroup_columns 0 rest ≡ sum rest
    sums [] = refl
    sums (t ∷ rest) = refl

    same_number : n + span + colgroup_columns 0 spans ≡ n + sum (span ∷ spans)
    same_number = add_assoc n span _ ∙ ap (λ x. n + x) (ap (λ x. span + x) (sums spans) ∙ sym (sum_by-cons (λ s. s) span spans))

lone_col_step : {n span : ℕ} {ks rest : Kinds} {ms more : Marks} → Rest (in_columns (n + span)) ks ms rest more
    → Rest (in_columns n) (col span ∷ ks) ms rest more
lone_col_step {n} {span} (at_columns spaces (columns_then {m = m} {m1 = m1} cols same parts)) =
    at_columns no_space (columns_then (lone_col spaces cols) (same ∙ ap (λ x. columns x ∷ m1) (add_assoc n span m)) parts)

group_start_step : (section : Section) {ks rest : Kinds} {ms more : Marks} → Rest (in_group (part_of section)) ks ms rest more
    → Rest between (group_start section ∷ ks) (group_begins (part_of section) ∷ ms) rest more
group_start_step section (at_rows spaces (rows_then rows ended parts)) =
    at_parts no_space (group {section = section} spaces rows (ended_group section ended) parts)

group_end_step : (section : Section) {ks rest : Kinds} {ms more : Marks} → Rest between ks ms rest more
    → Rest (in_group (part_of section)) (group_end section ∷ ks) ms rest more
group_end_step section (at_parts spaces parts) = at_rows no_space (rows_then (no_row refl) (group_tag section spaces) parts)

row_start_step : {part : Part} {ks rest : Kinds} {ms more : Marks} → Rest (in_row part) ks ms rest more
    → Rest (in_group part) (row_start ∷ ks) (row_begins ∷ ms) rest more
row_start_step (at_cells spaces (cells_then cells ended (rows_then rows closed parts))) =
    at_rows no_space (rows_then (row spaces cells ended rows) closed parts)

loose_row_step : {ks rest : Kinds} {ms more : Marks} → Rest (in_row Loose) ks ms rest more
    → Rest between (row_start ∷ ks) (group_begins Loose ∷ row_begins ∷ ms) rest more
loose_row_step {rest = rest} {more = more} (at_cells spaces (cells_then cells ended (rows_then {m1 = m1} rows closed parts))) =
    let P : Kinds → Type 0 = λ x. RestOfParts x m1 rest more in
    at_parts no_space (loose_rows (row spaces cells ended rows) (subst P (sym closed) parts))

row_end_step : {part : Part} {ks rest : Kinds} {ms more : Marks} → Rest (in_group part) ks ms rest more
    → Rest (in_row part) (row_end ∷ ks) ms rest more
row_end_step (at_rows spaces rows) = at_cells no_space (cells_then no_cell (by_tag spaces) rows)

cell_start_step : {part : Part} {head : Bool} (spans : Spans) {ks rest : Kinds} {ms more : Marks} →
    Rest (in_flow (of_cell part head)) ks ms rest more
    → Rest (in_row part) (cell_start head spans ∷ ks) (cell_begins head spans ∷ ms) rest more
cell_start_step spans (at_cell flow ended (cells_then cells row_ended rows)) =
    at_cells no_space (cells_then (cell flow ended cells) row_ended rows)

cell_end_step : {part : Part} {head : Bool} {ks rest : Kinds} {ms more : Marks} → Rest (in_row part) ks ms rest more
    → Rest (in_flow (of_cell part head)) (cell_end head ∷ ks) (paragraph_ends ∷ ms) rest more
cell_end_step (at_cells spaces cells) = at_cell no_flow (by_tag spaces) cells

-- what the place that a move leads to makes of the rest, the place that the token stands at makes of all
abbrev StepsTo : Place → Kind → Move → Type 0
StepsTo p k (to q ns) = (ks rest : Kinds) (ms more : Marks) → Rest q ks ms rest more → Rest p (k ∷ ks) (ns ++ ms) rest more
StepsTo p k (enter holder) = (k ≡ table_start) × (p ≡ in_flow holder)
StepsTo p k (leave ns) = (ks : Kinds) (ms : Marks) → Rest p (k ∷ ks) (ns ++ ms) ks ms
StepsTo p k never = Unit {0}

-- a mark after those that are due
after_due : (p : Place) (k : Kind) (n : Mark) {ks rest : Kinds} {ms more : Marks} → is_white k ≡ false →
    is_row_start k ≡ false → is_col k ≡ false
    → Rest between (k ∷ ks) (n ∷ ms) rest more → Rest p (k ∷ ks) ((due p ++ n ∷ []) ++ ms) rest more
after_due p k n {ks} {rest} {ms} {more} w r c h =
    let P : Marks → Type 0 = λ x. Rest p (k ∷ ks) x rest more in
    subst P (sym (append_assoc (due p) (n ∷ []) ms)) (to_due p k w r c h)

-- white space, and no other text, between the tags
plain_text_steps : (p : Place) (cs : List ℕ) → is_plain p ≡ true → StepsTo p (text cs) (cond (is_white (text cs)) (to p []) never)
plain_text_steps p cs plain = by_white (is_white (text cs)) refl
  where
    by_white : (b : Bool) → is_white (text cs) ≡ b → StepsTo p (text cs) (cond b (to p []) never)
    by_white true white = λ ks rest ms more h. text_step p cs plain white h
    by_white false white = tt

text_steps : (p : Place) (cs : List ℕ) → StepsTo p (text cs) (move p (text cs))
text_steps opened cs = plain_text_steps opened cs refl
text_steps (in_columns n) cs = plain_text_steps (in_columns n) cs refl
text_steps (in_colgroup n pending) cs = plain_text_steps (in_colgroup n pending) cs refl
text_steps between cs = plain_text_steps between cs refl
text_steps (in_group part) cs = plain_text_steps (in_group part) cs refl
text_steps (in_row part) cs = plain_text_steps (in_row part) cs refl
text_steps (in_flow holder) cs = λ ks rest ms more h. words_step holder cs h

table_start_steps : (p : Place) → StepsTo p table_start (move p table_start)
table_start_steps (in_flow holder) = (refl, refl)
table_start_steps _ = tt

caption_start_steps : (p : Place) → StepsTo p caption_start (move p caption_start)
caption_start_steps opened = λ ks rest ms more h. caption_start_step h
caption_start_steps _ = tt

caption_end_steps : (p : Place) → StepsTo p caption_end (move p caption_end)
caption_end_steps (in_flow of_caption) = λ ks rest ms more h. caption_end_step h
caption_end_steps _ = tt

colgroup_start_steps : (span : ℕ) (p : Place) → StepsTo p (colgroup_start span) (move p (colgroup_start span))
colgroup_start_steps span opened = λ ks rest ms more h. opened_level (colgroup_start_step h)
colgroup_start_steps span (in_columns n) = λ ks rest ms more h. colgroup_start_step h
colgroup_start_steps span (in_colgroup n pending) = λ ks rest ms more h. colgroup_level (colgroup_start span) refl refl
    (colgroup_start_step h)
colgroup_start_steps span (in_flow of_caption) = λ ks rest ms more h. caption_level (colgroup_start span) refl
    (colgroup_start_step h)
colgroup_start_steps span _ = tt

colgroup_end_steps : (p : Place) → StepsTo p colgroup_end (move p colgroup_end)
colgroup_end_steps (in_colgroup n pending) = λ ks rest ms more h. colgroup_end_step h
colgroup_end_steps _ = tt

col_steps : (span : ℕ) (p : Place) → StepsTo p (col span) (move p (col span))
col_steps span opened = λ ks rest ms more h. opened_level (lone_col_step h)
col_steps span (in_columns n) = λ ks rest ms more h. lone_col_step h
col_steps span (in_colgroup n pending) = λ ks rest ms more h. col_step h
col_steps span (in_flow of_caption) = λ ks rest ms more h. caption_level (col span) refl (lone_col_step h)
col_steps span _ = tt

group_ends : (section : Section) (part : Part) → StepsTo (in_group part) (group_end section)
    (cond (closes section part) (to between []) never)
group_ends thead Head = λ ks rest ms more h. group_end_step thead h
group_ends tbody Body = λ ks rest ms more h. group_end_step tbody h
group_ends tfoot Foot = λ ks rest ms more h. group_end_step tfoot h
group_ends _ _ = tt

row_group_ends : (section : Section) (part : Part) → StepsTo (in_row part) (group_end section)
    (cond (closes section part) (to between []) never)
row_group_ends thead Head = λ ks rest ms more h. row_level (group_end thead) refl (group_end_step thead h)
row_group_ends tbody Body = λ ks rest ms more h. row_level (group_end tbody) refl (group_end_step tbody h)
row_group_ends tfoot Foot = λ ks rest ms more h. row_level (group_end tfoot) refl (group_end_step tfoot h)
row_group_ends _ _ = tt

cell_group_ends : (section : Section) (part : Part) (head : Bool)
    → StepsTo (in_flow (of_cell part head)) (group_end section)
    (cond (closes section part) (to between (paragraph_ends ∷ [])) never)
cell_group_ends thead Head head = λ ks rest ms more h. cell_level (group_end thead) refl
    (row_level (group_end thead) refl (group_end_step thead h))
cell_group_ends tbody Body head = λ ks rest ms more h. cell_level (group_end tbody) refl
    (row_level (group_end tbody) refl (group_end_step tbody h))
cell_group_ends tfoot Foot head = λ ks rest ms more h. cell_level (group_end tfoot) refl
    (row_level (group_end tfoot) refl (group_end_step tfoot h))
cell_group_ends _ _ head = tt

group_end_steps : (section : Section) (p : Place) → StepsTo p (group_end section) (move p (group_end section))
group_end_steps section (in_group part) = group_ends section part
group_end_steps section (in_row part) = row_group_ends section part
group_end_steps section (in_flow (of_cell part head)) = cell_group_ends section part head
group_end_steps _ _ = tt

row_start_steps : (p : Place) → StepsTo p row_start (move p row_start)
row_start_steps opened = λ ks rest ms more h. opened_level (columns_level (loose_row_step h))
row_start_steps (in_columns n) = λ ks rest ms more h. columns_level (loose_row_step h)
row_start_steps (in_colgroup n pending) = λ ks rest ms more h. colgroup_level row_start refl refl
    (columns_level (loose_row_step h))
row_start_steps between = λ ks rest ms more h. loose_row_step h
row_start_steps (in_group part) = λ ks rest ms more h. row_start_step h
row_start_steps (in_row part) = λ ks rest ms more h. row_level row_start refl (row_start_step h)
row_start_steps (in_flow of_caption) = λ ks rest ms more h. caption_level row_start refl (columns_level (loose_row_step h))
row_start_steps (in_flow (of_cell part head)) = λ ks rest ms more h. cell_level row_start refl
    (row_level row_start refl (row_start_step h))

row_end_steps : (p : Place) → StepsTo p row_end (move p row_end)
row_end_steps (in_row part) = λ ks rest ms more h. row_end_step h
row_end_steps (in_flow (of_cell part head)) = λ ks rest ms more h. cell_level row_end refl (row_end_step h)
row_end_steps _ = tt

cell_start_steps : (head : Bool) (spans : Spans) (p : Place) → StepsTo p (cell_start head spans) (move p (cell_start head spans))
cell_start_steps head spans (in_row part) = λ ks rest ms more h. cell_start_step spans h
cell_start_steps head spans (in_flow (of_cell part other)) =
    λ ks rest ms more h. cell_level (cell_start head spans) refl (cell_start_step spans h)
cell_start_steps head spans _ = tt

cell_end_steps : (head : Bool) (p : Place) → StepsTo p (cell_end head) (move p (cell_end head))
cell_end_steps true (in_flow (of_cell part true)) = λ ks rest ms more h. cell_end_step h
cell_end_steps false (in_flow (of_cell part false)) = λ ks rest ms more h. cell_end_step h
cell_end_steps _ _ = tt

br_steps : (p : Place) → StepsTo p br (move p br)
br_steps (in_flow holder) = λ ks rest ms more h. break_step holder h
br_steps _ = tt

edge_steps : (p : Place) → StepsTo p p_or_div (move p p_or_div)
edge_steps (in_flow holder) = λ ks rest ms more h. edge_step holder h
edge_steps _ = tt

inline_steps : (p : Place) → StepsTo p inline_tag (move p inline_tag)
inline_steps (in_flow holder) = λ ks rest ms more h. inline_step holder h
inline_steps _ = tt

steps : (p : Place) (k : Kind) → StepsTo p k (move p k)
steps p (text cs) = text_steps p cs
steps p table_start = table_start_steps p
steps p table_end = λ ks ms. after_due p table_end table_ends refl refl refl (at_parts no_space no_part)
steps p caption_start = caption_start_steps p
steps p caption_end = caption_end_steps p
steps p (colgroup_start span) = colgroup_start_steps span p
steps p colgroup_end = colgroup_end_steps p
steps p (col span) = col_steps span p
steps p (group_start section) = λ ks rest ms more h. after_due p (group_start section) (group_begins (part_of section))
    refl refl refl
    (group_start_step section h)
steps p (group_end section) = group_end_steps section p
steps p row_start = row_start_steps p
steps p row_end = row_end_steps p
steps p (cell_start head spans) = cell_start_steps head spans p
steps p (cell_end head) = cell_end_steps head p
steps p br = br_steps p
steps p p_or_div = edge_steps p
steps p inline_tag = inline_steps p
steps p outer_tag = tt
steps p lone_end = tt

-- the rest of a document as it goes on from the flows that hold a table, and from any state
data Left : List Holder → Kinds → Marks → Type 0 where
  around : {ks : Kinds} → Outer ks [] → Left [] ks []
  holding : {holder : Holder} {hs : List Holder} {ks rest : Kinds} {ms more : Marks}
      → Rest (in_flow holder) ks ms rest more → Left hs rest more → Left (holder ∷ hs) ks ms

data Completes : DocumentState → Kinds → Marks → Type 0 where
  from_before : {ks : Kinds} {ms : Marks} → DocumentTokens ks ms → Completes before ks ms
  from_inside : {p : Place} {hs : List Holder} {ks rest : Kinds} {ms more : Marks} → Rest p ks ms rest more →
      Left hs rest more → Completes (inside p hs) ks ms
  from_after : {ks : Kinds} → Outer ks [] → Completes after ks []

from_left : (hs : List Holder) {ks : Kinds} {ms : Marks} → Completes (table_left hs) ks ms → Left hs ks ms
from_left [] (from_after h) = around h
from_left (holder ∷ hs) (from_inside rest h) = holding rest h

inside_step : (p : Place) (hs : List Holder) (k : Kind) (m : Move) {ks : Kinds} {ms : Marks} → StepsTo p k m
    → Completes (moved hs m) ks ms → Completes (inside p hs) (k ∷ ks) (marks_of m ++ ms)
inside_step p hs k (to q ns) step (from_inside rest h) = from_inside (step _ _ _ _ rest) h
inside_step p hs k (enter holder) {ks} {ms} (starts, flows) (from_inside rest (holding outside h)) =
    let P : Kind → Type 0 = λ x. Completes (inside p hs) (x ∷ ks) (table_begins ∷ ms) in
    let Q : Place → Type 0 = λ x. Completes (inside x hs) (table_start ∷ ks) (table_begins ∷ ms) in
    subst P (sym starts) (subst Q (sym flows) (from_inside (nested_step holder (whole_table rest) outside) h))
inside_step p hs k (leave ns) {ks} {ms} step h = from_inside (step ks ms) (from_left hs h)
inside_step p hs k never step h = elim h [ ]

before_step : (k : Kind) {ks : Kinds} {ms : Marks} → Completes (next before k) ks ms →
    Completes before (k ∷ ks) (told before k ++ ms)
before_step (text cs) {ks} {ms} h = by_white (is_white (text cs)) refl h
  where
    by_white : (b : Bool) → is_white (text cs) ≡ b → Completes (cond b before failed) ks ms → Completes before (text cs ∷ ks) ms
    by_white true white (from_before d) =
        from_before (record {
          before = d.before;
          after = d.after;
          led = outer_space white d.led;
          whole = d.whole;
          followed =
              d.followed;
        })
    by_white false white c = elim c [ ]
before_step table_start (from_inside rest (around outside)) =
    from_before (record { before = _; after = _; led = no_outer; whole = whole_table rest; followed = outside })
before_step outer_tag (from_before d) = from_before (record {
  before = d.before;
  after = d.after;
  led = outer d.led;
  whole =
      d.whole;
  followed = d.followed;
})
before_step _ h = elim h [ ]

after_step : (k : Kind) {ks : Kinds} {ms : Marks} → Completes (next after k) ks ms → Completes after (k ∷ ks) ms
after_step (text cs) {ks} {ms} h = by_white (is_white (text cs)) refl h
  where
    by_white : (b : Bool) {ns : Marks} → is_white (text cs) ≡ b → Completes (cond b after failed) ks ns →
        Completes after (text cs ∷ ks) ns
    by_white true white (from_after outside) = from_after (outer_space white outside)
    by_white false white c = elim c [ ]
after_step outer_tag (from_after outside) = from_after (outer outside)
after_step _ h = elim h [ ]

sound : (s : DocumentState) (ks : Kinds) → reached s ks ≡ after → Completes s ks (all_told s ks)
sound before [] h = absurd (cc)
sound (inside p hs) [] h = absurd (cc)
sound after [] h = from_after no_outer
sound failed [] h = absurd (cc)
sound before (k ∷ ks) h = before_step k (sound (next before k) ks h)
sound (inside p hs) (k ∷ ks) h = inside_step p hs k (move p k) (steps p k) (sound (moved hs (move p k)) ks h)
sound after (k ∷ ks) h = after_step k (sound (next after k) ks h)
sound failed (k ∷ ks) h = no_way ks h

of_before : {ks : Kinds} {ms : Marks} → Completes before ks ms → DocumentTokens ks ms
of_before (from_before d) = d

-- What is accepted is a document.
pub document_sound : {ks : Kinds} {ms : Marks} → Accepts before ks ms → DocumentTokens ks ms
document_sound {ks} a = let P : Marks → Type 0 = λ x. DocumentTokens ks x in subst P a.tells (of_before (sound before ks a.ends))
