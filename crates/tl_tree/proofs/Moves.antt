-- Single moves of the machine: white space, and places that a token moves alike.
use Rattle.std.proofs.Common.{◌≡◌, ℕ, ◌+◌, Bool, true, false, List, [], ◌∷◌, ◌++◌, refl, sym, ◌∙◌, cond}
use Rattle.std.proofs.lemmas.Bool.{false≢true}
use Rattle.tl_tree.specs.declared.node.Part.{Part}
use Rattle.tl_tree.specs.Tags.{Section, thead, tbody, tfoot, part_of, Kind, Kinds, text, table_start, table_end, caption_start}
use Rattle.tl_tree.specs.Tags.{caption_end, colgroup_start}
use Rattle.tl_tree.specs.Tags.{colgroup_end, col, group_start, group_end, row_start, row_end, cell_start, cell_end, br, p_or_div}
use Rattle.tl_tree.specs.Tags.{inline_tag, outer_tag}
use Rattle.tl_tree.specs.Tags.{lone_end, is_white, is_row_start, is_col}
use Rattle.tl_tree.specs.Grammar.{Marks, columns, paragraph_ends}
use Rattle.tl_tree.specs.inner.Machine.{of_caption, of_cell, Place, opened, in_columns, in_colgroup, between, in_group, in_row}
use Rattle.tl_tree.specs.inner.Machine.{in_flow, Move, to, enter}
use Rattle.tl_tree.specs.inner.Machine.{leave, never, closes, same_head, move, after, failed, reached}

-- once failed, always failed
pub reached-failed : (ks : Kinds) → reached failed ks ≡ failed
reached-failed [] = refl
reached-failed (k ∷ ks) = reached-failed ks

pub no_way : {A : Type 0} (ks : Kinds) → reached failed ks ≡ after → A
no_way ks h = absurd (let e : failed ≡ after = sym (reached-failed ks) ∙ h in cc)

pub same_head-refl : (b : Bool) → same_head b b ≡ true
same_head-refl true = refl
same_head-refl false = refl

pub closes-own : (section : Section) → closes section (part_of section) ≡ true
closes-own thead = refl
closes-own tbody = refl
closes-own tfoot = refl

-- a place that white space leaves as it is
abbrev pub is_plain : Place → Bool
is_plain (in_flow holder) = false
is_plain _ = true

pub when : (b : Bool) (m n : Move) → b ≡ true → cond b m n ≡ m
when true m n h = refl
when false m n h = absurd (false≢true h)

unless : (b : Bool) (m n : Move) → b ≡ false → cond b m n ≡ n
unless true m n h = absurd (false≢true (sym h))
unless false m n h = refl

pub white_stays : (p : Place) (cs : List ℕ) → is_plain p ≡ true → is_white (text cs) ≡ true → move p (text cs) ≡ to p []
white_stays opened cs plain white = when (is_white (text cs)) _ _ white
white_stays (in_columns n) cs plain white = when (is_white (text cs)) _ _ white
white_stays (in_colgroup n pending) cs plain white = when (is_white (text cs)) _ _ white
white_stays between cs plain white = when (is_white (text cs)) _ _ white
white_stays (in_group part) cs plain white = when (is_white (text cs)) _ _ white
white_stays (in_row part) cs plain white = when (is_white (text cs)) _ _ white
white_stays (in_flow holder) cs plain white = absurd (false≢true plain)

pub stray_text : (p : Place) (cs : List ℕ) → is_plain p ≡ true → is_white (text cs) ≡ false → move p (text cs) ≡ never
stray_text opened cs plain solid = unless (is_white (text cs)) _ _ solid
stray_text (in_columns n) cs plain solid = unless (is_white (text cs)) _ _ solid
stray_text (in_colgroup n pending) cs plain solid = unless (is_white (text cs)) _ _ solid
stray_text between cs plain solid = unless (is_white (text cs)) _ _ solid
stray_text (in_group part) cs plain solid = unless (is_white (text cs)) _ _ solid
stray_text (in_row part) cs plain solid = unless (is_white (text cs)) _ _ solid
stray_text (in_flow holder) cs plain solid = absurd (false≢true plain)

-- the same move with those marks before its own
abbrev pub told_first : Marks → Move → Move
told_first ms (to p ns) = to p (ms ++ ns)
told_first ms (enter holder) = enter holder
told_first ms (leave ns) = leave (ms ++ ns)
told_first ms never = never

abbrev pub is_entry : Move → Bool
is_entry (enter holder) = true
is_entry _ = false

-- A token moves from `q` nowhere, or from `p` as from `q` and after those marks.
pub data Alike (p q : Place) (ms : Marks) (k : Kind) : Type 0 where
  nowhere : move q k ≡ never → Alike p q ms k
  alike : is_entry (move q k) ≡ false → move p k ≡ told_first ms (move q k) → Alike p q ms k

first_if : (b : Bool) (p : Place) (ms ns : Marks) → cond b (to p (ms ++ ns)) never ≡ told_first ms (cond b (to p ns) never)
first_if true p ms ns = refl
first_if false p ms ns = refl

no_entry_if : (b : Bool) (p : Place) (ns : Marks) → is_entry (cond b (to p ns) never) ≡ false
no_entry_if true p ns = refl
no_entry_if false p ns = refl

-- a cell without its end tag ends before a token that the row takes
pub cell_as_row : (part : Part) (head : Bool) (k : Kind) → is_white k ≡ false →
    Alike (in_flow (of_cell part head)) (in_row part) (paragraph_ends ∷ []) k
cell_as_row part head (text cs) h = nowhere (stray_text (in_row part) cs refl h)
cell_as_row part head table_start h = nowhere refl
cell_as_row part head table_end h = alike refl refl
cell_as_row part head caption_start h = nowhere refl
cell_as_row part head caption_end h = nowhere refl
cell_as_row part head (colgroup_start span) h = nowhere refl
cell_as_row part head colgroup_end h = nowhere refl
cell_as_row part head (col span) h = nowhere refl
cell_as_row part head (group_start other) h = alike refl refl
cell_as_row part head (group_end other) h = alike (no_entry_if (closes other part) between [])
    (first_if (closes other part) between (paragraph_ends ∷ []) [])
cell_as_row part head row_start h = alike refl refl
cell_as_row part head row_end h = alike refl refl
cell_as_row part head (cell_start other spans) h = alike refl refl
cell_as_row part head (cell_end other) h = nowhere refl
cell_as_row part head br h = nowhere refl
cell_as_row part head p_or_div h = nowhere refl
cell_as_row part head inline_tag h = nowhere refl
cell_as_row part head outer_tag h = nowhere refl
cell_as_row part head lone_end h = nowhere refl

pub row_as_group : (part : Part) (k : Kind) → is_white k ≡ false → Alike (in_row part) (in_group part) [] k
row_as_group part (text cs) h = nowhere (stray_text (in_group part) cs refl h)
row_as_group part table_start h = nowhere refl
row_as_group part table_end h = alike refl refl
row_as_group part caption_start h = nowhere refl
row_as_group part caption_end h = nowhere refl
row_as_group part (colgroup_start span) h = nowhere refl
row_as_group part colgroup_end h = nowhere refl
row_as_group part (col span) h = nowhere refl
row_as_group part (group_start other) h = alike refl refl
row_as_group part (group_end other) h = alike (no_entry_if (closes other part) between [])
    (first_if (closes other part) between [] [])
row_as_group part row_start h = alike refl refl
row_as_group part row_end h = nowhere refl
row_as_group part (cell_start other spans) h = nowhere refl
row_as_group part (cell_end other) h = nowhere refl
row_as_group part br h = nowhere refl
row_as_group part p_or_div h = nowhere refl
row_as_group part inline_tag h = nowhere refl
row_as_group part outer_tag h = nowhere refl
row_as_group part lone_end h = nowhere refl

pub group_as_between : (part : Part) (k : Kind) → is_white k ≡ false → is_row_start k ≡ false → Alike (in_group part) between [] k
group_as_between part (text cs) h g = nowhere (stray_text between cs refl h)
group_as_between part table_start h g = nowhere refl
group_as_between part table_end h g = alike refl refl
group_as_between part caption_start h g = nowhere refl
group_as_between part caption_end h g = nowhere refl
group_as_between part (colgroup_start span) h g = nowhere refl
group_as_between part colgroup_end h g = nowhere refl
group_as_between part (col span) h g = nowhere refl
group_as_between part (group_start other) h g = alike refl refl
group_as_between part (group_end other) h g = nowhere refl
group_as_between part row_start h g = absurd (false≢true (sym g))
group_as_between part row_end h g = nowhere refl
group_as_between part (cell_start other spans) h g = nowhere refl
group_as_between part (cell_end other) h g = nowhere refl
group_as_between part br h g = nowhere refl
group_as_between part p_or_div h g = nowhere refl
group_as_between part inline_tag h g = nowhere refl
group_as_between part outer_tag h g = nowhere refl
group_as_between part lone_end h g = nowhere refl

pub columns_as_between : (n : ℕ) (k : Kind) → is_white k ≡ false → Alike (in_columns n) between (columns n ∷ []) k
columns_as_between n (text cs) h = nowhere (stray_text between cs refl h)
columns_as_between n table_start h = nowhere refl
columns_as_between n table_end h = alike refl refl
columns_as_between n caption_start h = nowhere refl
columns_as_between n caption_end h = nowhere refl
columns_as_between n (colgroup_start span) h = nowhere refl
columns_as_between n colgroup_end h = nowhere refl
columns_as_between n (col span) h = nowhere refl
columns_as_between n (group_start other) h = alike refl refl
columns_as_between n (group_end other) h = nowhere refl
columns_as_between n row_start h = alike refl refl
columns_as_between n row_end h = nowhere refl
columns_as_between n (cell_start other spans) h = nowhere refl
columns_as_between n (cell_end other) h = nowhere refl
columns_as_between n br h = nowhere refl
columns_as_between n p_or_div h = nowhere refl
columns_as_between n inline_tag h = nowhere refl
columns_as_between n outer_tag h = nowhere refl
columns_as_between n lone_end h = nowhere refl

pub colgroup_as_columns : (n pending : ℕ) (k : Kind) → is_white k ≡ false → is_col k ≡ false →
    Alike (in_colgroup n pending) (in_columns (n + pending)) [] k
colgroup_as_columns n pending (text cs) h g = nowhere (stray_text (in_columns (n + pending)) cs refl h)
colgroup_as_columns n pending table_start h g = nowhere refl
colgroup_as_columns n pending table_end h g = alike refl refl
colgroup_as_columns n pending caption_start h g = nowhere refl
colgroup_as_columns n pending caption_end h g = nowhere refl
colgroup_as_columns n pending (colgroup_start span) h g = alike refl refl
colgroup_as_columns n pending colgroup_end h g = nowhere refl
colgroup_as_columns n pending (col span) h g = absurd (false≢true (sym g))
colgroup_as_columns n pending (group_start other) h g = alike refl refl
colgroup_as_columns n pending (group_end other) h g = nowhere refl
colgroup_as_columns n pending row_start h g = alike refl refl
colgroup_as_columns n pending row_end h g = nowhere refl
colgroup_as_columns n pending (cell_start other spans) h g = nowhere refl
colgroup_as_columns n pending (cell_end other) h g = nowhere refl
colgroup_as_columns n pending br h g = nowhere refl
colgroup_as_columns n pending p_or_div h g = nowhere refl
colgroup_as_columns n pending inline_tag h g = nowhere refl
colgroup_as_columns n pending outer_tag h g = nowhere refl
colgroup_as_columns n pending lone_end h g = nowhere refl

pub caption_as_columns : (k : Kind) → is_white k ≡ false → Alike (in_flow of_caption) (in_columns 0) (paragraph_ends ∷ []) k
caption_as_columns (text cs) h = nowhere (stray_text (in_columns 0) cs refl h)
caption_as_columns table_start h = nowhere refl
caption_as_columns table_end h = alike refl refl
caption_as_columns caption_start h = nowhere refl
caption_as_columns caption_end h = nowhere refl
caption_as_columns (colgroup_start span) h = alike refl refl
caption_as_columns colgroup_end h = nowhere refl
caption_as_columns (col span) h = alike refl refl
caption_as_columns (group_start other) h = alike refl refl
caption_as_columns (group_end other) h = nowhere refl
caption_as_columns row_start h = alike refl refl
caption_as_columns row_end h = nowhere refl
caption_as_columns (cell_start other spans) h = nowhere refl
caption_as_columns (cell_end other) h = nowhere refl
caption_as_columns br h = nowhere refl
caption_as_columns p_or_div h = nowhere refl
caption_as_columns inline_tag h = nowhere refl
caption_as_columns outer_tag h = nowhere refl
caption_as_columns lone_end h = nowhere refl

pub opened_as_columns : (k : Kind) → is_white k ≡ false → Alike opened (in_columns 0) [] k
opened_as_columns (text cs) h = nowhere (stray_text (in_columns 0) cs refl h)
opened_as_columns table_start h = nowhere refl
opened_as_columns table_end h = alike refl refl
opened_as_columns caption_start h = nowhere refl
opened_as_columns caption_end h = nowhere refl
opened_as_columns (colgroup_start span) h = alike refl refl
opened_as_columns colgroup_end h = nowhere refl
opened_as_columns (col span) h = alike refl refl
opened_as_columns (group_start other) h = alike refl refl
opened_as_columns (group_end other) h = nowhere refl
opened_as_columns row_start h = alike refl refl
opened_as_columns row_end h = nowhere refl
opened_as_columns (cell_start other spans) h = nowhere refl
opened_as_columns (cell_end other) h = nowhere refl
opened_as_columns br h = nowhere refl
opened_as_columns p_or_div h = nowhere refl
opened_as_columns inline_tag h = nowhere refl
opened_as_columns outer_tag h = nowhere refl
opened_as_columns lone_end h = nowhere refl
