-- How many tables are open is counted by the table tags alone.
use Rattle.std.proofs.Common.{◌≡◌, ℕ, ◌+◌, Bool, true, false, List, [], ◌∷◌, length, Option, Some, None, refl, sym, ap, subst}
use Rattle.std.proofs.Common.{cond, arith}
use Rattle.std.proofs.lemmas.Bool.{false≢true}
use Rattle.tl_token.specs.declared.token.Spans.{Spans}
use Rattle.tl_tree.specs.declared.node.Part.{Part}
use Rattle.tl_tree.specs.Tags.{Section, Kind, text, table_start, table_end, caption_start, caption_end, colgroup_start}
use Rattle.tl_tree.specs.Tags.{colgroup_end, col, group_start}
use Rattle.tl_tree.specs.Tags.{group_end, row_start, row_end, cell_start, cell_end, br, p_or_div, inline_tag, outer_tag, lone_end}
use Rattle.tl_tree.specs.Tags.{is_white, is_table_start}
use Rattle.tl_tree.specs.Grammar.{Marks}
use Rattle.tl_tree.specs.Spelling.{depth_with}
use Rattle.tl_tree.specs.inner.Machine.{Holder, of_caption, of_cell, Place, opened, in_columns, in_colgroup, between, in_group}
use Rattle.tl_tree.specs.inner.Machine.{in_row, in_flow, row_tags_at}
use Rattle.tl_tree.specs.inner.Machine.{group_of, column_tags_at, due, closes, same_head, in_flow_only, start_colgroup, lone_col}
use Rattle.tl_tree.specs.inner.Machine.{end_tag_of_group, start_row, end_row}
use Rattle.tl_tree.specs.inner.Machine.{start_cell, Move, to, enter, leave, never, move, DocumentState, before, inside}
use Rattle.tl_tree.specs.inner.Machine.{after, failed}
use Rattle.tl_tree.specs.inner.Machine.{moved, next}
use Rattle.tl_tree.specs.inner.Verdict.{is_failed, depth}

-- only table tags enter or leave a table
abbrev pub DepthFits : Kind → Move → Type 0
DepthFits k (to q ms) = (is_table_start k ≡ false) × ((n : ℕ) → depth_with n k ≡ n)
DepthFits k (enter holder) = k ≡ table_start
DepthFits k (leave ms) = k ≡ table_end
DepthFits k never = Unit {0}

if_fits : (b : Bool) (k : Kind) (p : Place) (ms : Marks) → DepthFits k (to p ms) → DepthFits k (cond b (to p ms) never)
if_fits true k p ms h = h
if_fits false k p ms h = tt

flow_fits : (k : Kind) (ms : Marks) (p : Place) → ((q : Place) → DepthFits k (to q ms)) → DepthFits k (in_flow_only ms p)
flow_fits k ms (in_flow holder) h = h (in_flow holder)
flow_fits k ms opened h = tt
flow_fits k ms (in_columns n) h = tt
flow_fits k ms (in_colgroup n pending) h = tt
flow_fits k ms between h = tt
flow_fits k ms (in_group part) h = tt
flow_fits k ms (in_row part) h = tt

text_fits : (cs : List ℕ) (p : Place) → DepthFits (text cs) (move p (text cs))
text_fits cs (in_flow holder) = (refl, λ n. refl)
text_fits cs opened = if_fits (is_white (text cs)) (text cs) opened [] (refl, λ n. refl)
text_fits cs (in_columns n) = if_fits (is_white (text cs)) (text cs) (in_columns n) [] (refl, λ n. refl)
text_fits cs (in_colgroup n pending) = if_fits (is_white (text cs)) (text cs) (in_colgroup n pending) [] (refl, λ n. refl)
text_fits cs between = if_fits (is_white (text cs)) (text cs) between [] (refl, λ n. refl)
text_fits cs (in_group part) = if_fits (is_white (text cs)) (text cs) (in_group part) [] (refl, λ n. refl)
text_fits cs (in_row part) = if_fits (is_white (text cs)) (text cs) (in_row part) [] (refl, λ n. refl)

table_fits : (p : Place) → DepthFits table_start (move p table_start)
table_fits (in_flow holder) = refl
table_fits _ = tt

caption_fits : (p : Place) → DepthFits caption_start (move p caption_start)
caption_fits opened = (refl, λ n. refl)
caption_fits _ = tt

caption_end_fits : (p : Place) → DepthFits caption_end (move p caption_end)
caption_end_fits (in_flow of_caption) = (refl, λ n. refl)
caption_end_fits _ = tt

colgroup_fits : (span : ℕ) (c : Option (ℕ × Marks)) → DepthFits (colgroup_start span) (start_colgroup span c)
colgroup_fits span None = tt
colgroup_fits span (Some c) = (refl, λ n. refl)

colgroup_end_fits : (p : Place) → DepthFits colgroup_end (move p colgroup_end)
colgroup_end_fits (in_colgroup n pending) = (refl, λ n. refl)
colgroup_end_fits _ = tt

lone_col_fits : (span : ℕ) (c : Option (ℕ × Marks)) → DepthFits (col span) (lone_col span c)
lone_col_fits span None = tt
lone_col_fits span (Some c) = (refl, λ n. refl)

col_fits : (span : ℕ) (p : Place) → DepthFits (col span) (move p (col span))
col_fits span (in_colgroup n pending) = (refl, λ n. refl)
col_fits span opened = lone_col_fits span (column_tags_at opened)
col_fits span (in_columns n) = lone_col_fits span (column_tags_at (in_columns n))
col_fits span between = tt
col_fits span (in_group part) = tt
col_fits span (in_row part) = tt
col_fits span (in_flow holder) = lone_col_fits span (column_tags_at (in_flow holder))

group_end_fits : (section : Section) (g : Option (Part × Marks)) → DepthFits (group_end section) (end_tag_of_group section g)
group_end_fits section None = tt
group_end_fits section (Some g) = if_fits (closes section g.0) (group_end section) between g.1 (refl, λ n. refl)

row_fits : (ms : Marks) (g : Option (Part × Marks)) → DepthFits row_start (start_row ms g)
row_fits ms None = (refl, λ n. refl)
row_fits ms (Some g) = (refl, λ n. refl)

row_end_fits : (r : Option (Part × Marks)) → DepthFits row_end (end_row r)
row_end_fits None = tt
row_end_fits (Some r) = (refl, λ n. refl)

cell_fits : (head : Bool) (spans : Spans) (r : Option (Part × Marks)) →
    DepthFits (cell_start head spans) (start_cell head spans r)
cell_fits head spans None = tt
cell_fits head spans (Some r) = (refl, λ n. refl)

cell_end_fits : (head : Bool) (p : Place) → DepthFits (cell_end head) (move p (cell_end head))
cell_end_fits head (in_flow (of_cell part other)) = if_fits (same_head other head) (cell_end head) _ _ (refl, λ n. refl)
cell_end_fits head (in_flow of_caption) = tt
cell_end_fits head opened = tt
cell_end_fits head (in_columns n) = tt
cell_end_fits head (in_colgroup n pending) = tt
cell_end_fits head between = tt
cell_end_fits head (in_group part) = tt
cell_end_fits head (in_row part) = tt

pub depth_fits : (p : Place) (k : Kind) → DepthFits k (move p k)
depth_fits p (text cs) = text_fits cs p
depth_fits p table_start = table_fits p
depth_fits p table_end = refl
depth_fits p caption_start = caption_fits p
depth_fits p caption_end = caption_end_fits p
depth_fits p (colgroup_start span) = colgroup_fits span (column_tags_at p)
depth_fits p colgroup_end = colgroup_end_fits p
depth_fits p (col span) = col_fits span p
depth_fits p (group_start section) = (refl, λ n. refl)
depth_fits p (group_end section) = group_end_fits section (group_of p)
depth_fits p row_start = row_fits (due p) (group_of p)
depth_fits p row_end = row_end_fits (row_tags_at p)
depth_fits p (cell_start head spans) = cell_fits head spans (row_tags_at p)
depth_fits p (cell_end head) = cell_end_fits head p
depth_fits p br = flow_fits br _ p (λ q. (refl, λ n. refl))
depth_fits p p_or_div = flow_fits p_or_div _ p (λ q. (refl, λ n. refl))
depth_fits p inline_tag = flow_fits inline_tag _ p (λ q. (refl, λ n. refl))
depth_fits p outer_tag = tt
depth_fits p lone_end = tt

-- the open tables are counted by the table tags
moved_depth : (hs : List Holder) (k : Kind) (m : Move) → DepthFits k m → is_failed (moved hs m) ≡ false
    → depth (moved hs m) ≡ depth_with (length hs + 1) k
moved_depth hs k (to q ms) (start, same) alive = sym (same (length hs + 1))
moved_depth hs k (enter holder) e alive = let P : Kind → Type 0 =
    λ x. length (holder ∷ hs) + 1 ≡ depth_with (length hs + 1) x in subst P (sym e) (omega arith)
moved_depth [] k (leave ms) e alive = let P : Kind → Type 0 = λ x. 0 ≡ depth_with (0 + 1) x in subst P (sym e) refl
moved_depth (holder ∷ hs) k (leave ms) e alive =
    let P : Kind → Type 0 = λ x. length hs + 1 ≡ depth_with (length (holder ∷ hs) + 1) x in subst P (sym e) (omega arith)
moved_depth hs k never h alive = absurd (false≢true (sym alive))

if_alive : (b : Bool) (s : DocumentState) → is_failed s ≡ false → is_failed (cond b s failed) ≡ false → cond b s failed ≡ s
if_alive true s fine alive = refl
if_alive false s fine alive = absurd (false≢true (sym alive))

pub depth-next : (s : DocumentState) (k : Kind) → is_failed (next s k) ≡ false → depth (next s k) ≡ depth_with (depth s) k
depth-next before (text cs) alive = ap depth (if_alive (is_white (text cs)) before refl alive)
depth-next before table_start alive = refl
depth-next before outer_tag alive = refl
depth-next before _ alive = absurd (false≢true (sym alive))
depth-next (inside p hs) k alive = moved_depth hs k (move p k) (depth_fits p k) alive
depth-next after (text cs) alive = ap depth (if_alive (is_white (text cs)) after refl alive)
depth-next after outer_tag alive = refl
depth-next after _ alive = absurd (false≢true (sym alive))
depth-next failed k alive = absurd (false≢true (sym alive))
