-- What a token that is readable leads to: few more columns, marks that count no more than the token, and
-- numbers in their ranges.
use Rattle.std.proofs.Common.{◌≡◌, ◌≤◌, ℕ, ◌+◌, ◌*◌, Bool, true, false, ◌||◌, List, [], ◌∷◌, ◌++◌, length, map, sum_by, refl, sym}
use Rattle.std.proofs.Common.{ap, ◌∙◌}
use Rattle.std.proofs.Common.{subst, cond, arith}
use Rattle.std.proofs.lemmas.Bool.{false≢true}
use Rattle.std.proofs.lemmas.List.Sums.{sum_by-cons, sum_by-append}
use Rattle.std.specs.List.{AllByRecursion, list_any}
use Rattle.std.specs.Char.{encode_utf8}
use Rattle.tl_base.specs.declared.limits.TheConstants.{MAX_COLSPAN}
use Rattle.tl_base.specs.Text.{byte_count}
use Rattle.tl_base.proofs.Texts.{byte_count-cons}
use Rattle.tl_token.specs.Characters.{is_control}
use Rattle.tl_token.specs.declared.token.Spans.{Spans}
use Rattle.tl_tree.specs.Tags.{Section, part_of, Kind, Kinds, text, table_start, table_end, caption_start, caption_end}
use Rattle.tl_tree.specs.Tags.{colgroup_start, colgroup_end, col}
use Rattle.tl_tree.specs.Tags.{group_start, group_end, row_start, row_end, cell_start, cell_end, br, p_or_div, inline_tag}
use Rattle.tl_tree.specs.Tags.{outer_tag}
use Rattle.tl_tree.specs.Tags.{lone_end, is_white, is_table_start}
use Rattle.tl_tree.specs.Grammar.{Mark, Marks, table_begins, columns, group_begins, row_begins, cell_begins, character}
use Rattle.tl_tree.specs.Grammar.{line_break, paragraph_ends, table_ends}
use Rattle.tl_tree.specs.Sound.{IsCellInRange}
use Rattle.tl_tree.specs.Readable.{IsReadable, kind_size}
use Rattle.tl_tree.specs.Spelling.{depth_with}
use Rattle.tl_tree.specs.inner.Machine.{Holder, of_caption, of_cell, Place, opened, in_columns, in_colgroup, between, in_group}
use Rattle.tl_tree.specs.inner.Machine.{in_row, in_flow, due, closes}
use Rattle.tl_tree.specs.inner.Machine.{same_head, Move, to, enter, leave, never, move, DocumentState, before, inside, after}
use Rattle.tl_tree.specs.inner.Machine.{failed}
use Rattle.tl_tree.specs.inner.Machine.{table_left, moved, marks_of, next}
use Rattle.tl_tree.specs.inner.Machine.{told, reached, all_told}
use Rattle.tl_tree.specs.inner.Reading.{place_columns}
use Rattle.tl_tree.specs.inner.Verdict.{is_failed}
use Rattle.tl_tree.proofs.Depths.{DepthFits, depth_fits}

-- how much a mark counts
abbrev pub mark_size : Mark → ℕ
mark_size (character c) = length (encode_utf8 c)
mark_size line_break = 1
mark_size table_begins = 1
mark_size row_begins = 1
mark_size (cell_begins head spans) = 1
mark_size _ = 0

-- a mark inside a table, in the ranges, where no more columns have come
abbrev pub IsFineMark : ℕ → Mark → Type 0
IsFineMark n table_begins = ⊥
IsFineMark n table_ends = ⊥
IsFineMark n (columns m) = m ≤ n
IsFineMark n (cell_begins head spans) = IsCellInRange spans.colspan spans.rowspan spans.least
IsFineMark n (character c) = is_control c ≡ false
IsFineMark n _ = Unit {0}

abbrev FineMove : Place → Kind → Move → Type 0
FineMove p k (to q ms) = (place_columns q ≤ place_columns p + MAX_COLSPAN) × (sum_by mark_size ms ≤ kind_size k)
    × AllByRecursion (IsFineMark (place_columns p)) ms
FineMove p k (enter holder) = k ≡ table_start
FineMove p k (leave ms) = (k ≡ table_end) × (ms ≡ due p ++ table_ends ∷ [])
FineMove p k never = Unit {0}

text_size : (cs : List ℕ) → sum_by mark_size (map character cs) ≡ byte_count cs
text_size [] = refl
text_size (c ∷ cs) = sum_by-cons mark_size (character c) (map character cs) ∙ ap (λ n. length (encode_utf8 c) + n)
    (text_size cs) ∙ sym (byte_count-cons c cs)

text_fine : (n : ℕ) (cs : List ℕ) → list_any is_control cs ≡ false → AllByRecursion (IsFineMark n) (map character cs)
text_fine n [] h = tt
text_fine n (c ∷ cs) h = by_first (λ g. text_fine n cs g) (is_control c) refl h
  where
    by_first : (list_any is_control cs ≡ false → AllByRecursion (IsFineMark n) (map character cs)) → (b : Bool) → is_control c ≡ b
        → (b || list_any is_control cs) ≡ false → AllByRecursion (IsFineMark n) (map character (c ∷ cs))
    by_first go false e g = (e, go g)
    by_first go true e g = absurd (false≢true (sym g))

fine_if : (b : Bool) (p q : Place) (k : Kind) (ms : Marks) → FineMove p k (to q ms) → FineMove p k (cond b (to q ms) never)
fine_if true p q k ms h = h
fine_if false p q k ms h = tt

-- a move without a mark, or with marks that count nothing
plain : (p q : Place) (k : Kind) → place_columns q ≤ place_columns p + MAX_COLSPAN → FineMove p k (to q [])
plain p q k h = (h, omega arith, tt)

text_moves : (cs : List ℕ) → IsReadable (text cs) → (p : Place) → FineMove p (text cs) (move p (text cs))
text_moves cs h (in_flow holder) = (omega arith, let e = text_size cs in omega arith, text_fine 0 cs h.1)
text_moves cs h opened = fine_if (is_white (text cs)) opened opened (text cs) [] (plain opened opened (text cs) (omega arith))
text_moves cs h (in_columns n) = fine_if (is_white (text cs)) (in_columns n) (in_columns n) (text cs) []
    (plain (in_columns n) (in_columns n) (text cs) (omega arith))
text_moves cs h (in_colgroup n pending) = fine_if (is_white (text cs)) (in_colgroup n pending) (in_colgroup n pending) (text cs)
    []
    (plain (in_colgroup n pending) (in_colgroup n pending) (text cs) (omega arith))
text_moves cs h between = fine_if (is_white (text cs)) between between (text cs) []
    (plain between between (text cs) (omega arith))
text_moves cs h (in_group part) = fine_if (is_white (text cs)) (in_group part) (in_group part) (text cs) []
    (plain (in_group part) (in_group part) (text cs) (omega arith))
text_moves cs h (in_row part) = fine_if (is_white (text cs)) (in_row part) (in_row part) (text cs) []
    (plain (in_row part) (in_row part) (text cs) (omega arith))

table_moves : (p : Place) → FineMove p table_start (move p table_start)
table_moves (in_flow holder) = refl
table_moves _ = tt

due_fine : (p : Place) → (sum_by mark_size (due p) ≡ 0) × AllByRecursion (IsFineMark (place_columns p)) (due p)
due_fine opened = (refl, (omega arith, tt))
due_fine (in_columns n) = (refl, (omega arith, tt))
due_fine (in_colgroup n pending) = (refl, (omega arith, tt))
due_fine between = (refl, tt)
due_fine (in_group part) = (refl, tt)
due_fine (in_row part) = (refl, tt)
due_fine (in_flow of_caption) = (refl, (tt, (omega arith, tt)))
due_fine (in_flow (of_cell part head)) = (refl, (tt, tt))

all_more : (n : ℕ) (ms ns : Marks) → AllByRecursion (IsFineMark n) ms → AllByRecursion (IsFineMark n) ns →
    AllByRecursion (IsFineMark n) (ms ++ ns)
all_more n [] ns h k = k
all_more n (m ∷ ms) ns h k = (h.0, all_more n ms ns h.1 k)

after_due : (p : Place) (ns : Marks) (size : ℕ) → sum_by mark_size ns ≤ size → AllByRecursion (IsFineMark (place_columns p)) ns
    → (sum_by mark_size (due p ++ ns) ≤ size) × AllByRecursion (IsFineMark (place_columns p)) (due p ++ ns)
after_due p ns size h fine =
    let d = due_fine p in
    (let e = d.0 in omega (arith, sum_by-append mark_size (due p) ns), all_more (place_columns p) (due p) ns d.1 fine)

caption_moves : (p : Place) → FineMove p caption_start (move p caption_start)
caption_moves opened = (omega arith, omega arith, (tt, tt))
caption_moves _ = tt

caption_end_moves : (p : Place) → FineMove p caption_end (move p caption_end)
caption_end_moves (in_flow of_caption) = (omega arith, omega arith, (tt, tt))
caption_end_moves _ = tt

colgroup_moves : (span : ℕ) → span ≤ MAX_COLSPAN → (p : Place) → FineMove p (colgroup_start span) (move p (colgroup_start span))
colgroup_moves span h opened = (omega arith, omega arith, tt)
colgroup_moves span h (in_columns n) = (omega arith, omega arith, tt)
colgroup_moves span h (in_colgroup n pending) = (omega arith, omega arith, tt)
colgroup_moves span h (in_flow of_caption) = (omega arith, omega arith, (tt, tt))
colgroup_moves span h _ = tt

colgroup_end_moves : (p : Place) → FineMove p colgroup_end (move p colgroup_end)
colgroup_end_moves (in_colgroup n pending) = (omega arith, omega arith, tt)
colgroup_end_moves _ = tt

col_moves : (span : ℕ) → span ≤ MAX_COLSPAN → (p : Place) → FineMove p (col span) (move p (col span))
col_moves span h opened = (omega arith, omega arith, tt)
col_moves span h (in_columns n) = (omega arith, omega arith, tt)
col_moves span h (in_colgroup n pending) = (omega arith, omega arith, tt)
col_moves span h (in_flow of_caption) = (omega arith, omega arith, (tt, tt))
col_moves span h _ = tt

group_end_moves : (section : Section) (p : Place) → FineMove p (group_end section) (move p (group_end section))
group_end_moves section (in_group part) = fine_if (closes section part) (in_group part) between (group_end section) []
    (omega arith, omega arith, tt)
group_end_moves section (in_row part) = fine_if (closes section part) (in_row part) between (group_end section) []
    (omega arith, omega arith, tt)
group_end_moves section (in_flow (of_cell part head)) = fine_if (closes section part) (in_flow (of_cell part head)) between
    (group_end section)
    (paragraph_ends ∷ []) (omega arith, omega arith, (tt, tt))
group_end_moves section _ = tt

row_moves : (p : Place) → FineMove p row_start (move p row_start)
row_moves opened = (omega arith, omega arith, (omega arith, (tt, (tt, tt))))
row_moves (in_columns n) = (omega arith, omega arith, (omega arith, (tt, (tt, tt))))
row_moves (in_colgroup n pending) = (omega arith, omega arith, (omega arith, (tt, (tt, tt))))
row_moves between = (omega arith, omega arith, (tt, (tt, tt)))
row_moves (in_group part) = (omega arith, omega arith, (tt, tt))
row_moves (in_row part) = (omega arith, omega arith, (tt, tt))
row_moves (in_flow of_caption) = (omega arith, omega arith, (tt, (omega arith, (tt, (tt, tt)))))
row_moves (in_flow (of_cell part head)) = (omega arith, omega arith, (tt, (tt, tt)))

row_end_moves : (p : Place) → FineMove p row_end (move p row_end)
row_end_moves (in_row part) = (omega arith, omega arith, tt)
row_end_moves (in_flow (of_cell part head)) = (omega arith, omega arith, (tt, tt))
row_end_moves _ = tt

cell_moves : (head : Bool) (spans : Spans) → IsCellInRange spans.colspan spans.rowspan spans.least → (p : Place) →
    FineMove p (cell_start head spans) (move p (cell_start head spans))
cell_moves head spans h (in_row part) = (omega arith, omega arith, (h, tt))
cell_moves head spans h (in_flow (of_cell part other)) = (omega arith, omega arith, (tt, (h, tt)))
cell_moves head spans h _ = tt

cell_end_moves : (head : Bool) (p : Place) → FineMove p (cell_end head) (move p (cell_end head))
cell_end_moves head (in_flow (of_cell part other)) = fine_if (same_head other head) (in_flow (of_cell part other)) (in_row part)
    (cell_end head)
    (paragraph_ends ∷ []) (omega arith, omega arith, (tt, tt))
cell_end_moves head _ = tt

br_moves : (p : Place) → FineMove p br (move p br)
br_moves (in_flow holder) = (omega arith, omega arith, (tt, tt))
br_moves _ = tt

edge_moves : (p : Place) → FineMove p p_or_div (move p p_or_div)
edge_moves (in_flow holder) = (omega arith, omega arith, (tt, tt))
edge_moves _ = tt

inline_moves : (p : Place) → FineMove p inline_tag (move p inline_tag)
inline_moves (in_flow holder) = (omega arith, omega arith, tt)
inline_moves _ = tt

fine_moves : (p : Place) (k : Kind) → IsReadable k → FineMove p k (move p k)
fine_moves p (text cs) h = text_moves cs h p
fine_moves p table_start h = table_moves p
fine_moves p table_end h = (refl, refl)
fine_moves p caption_start h = caption_moves p
fine_moves p caption_end h = caption_end_moves p
fine_moves p (colgroup_start span) h = colgroup_moves span h p
fine_moves p colgroup_end h = colgroup_end_moves p
fine_moves p (col span) h = col_moves span h p
fine_moves p (group_start section) h =
    let d = after_due p (group_begins (part_of section) ∷ []) 1 (omega arith) (tt, tt) in
    (omega arith, d.0, d.1)
fine_moves p (group_end section) h = group_end_moves section p
fine_moves p row_start h = row_moves p
fine_moves p row_end h = row_end_moves p
fine_moves p (cell_start head spans) h = cell_moves head spans h p
fine_moves p (cell_end head) h = cell_end_moves head p
fine_moves p br h = br_moves p
fine_moves p p_or_div h = edge_moves p
fine_moves p inline_tag h = inline_moves p
fine_moves p outer_tag h = tt
fine_moves p lone_end h = tt

-- how many columns the place of a state has
abbrev pub state_columns : DocumentState → ℕ
state_columns (inside p hs) = place_columns p
state_columns _ = 0

-- the marks of a token: a table begins, or it ends after the marks that are due, or all stand inside it
abbrev pub AreMarksOf : ℕ → Kind → Marks → Type 0
AreMarksOf n table_start ms = ms ≡ table_begins ∷ []
AreMarksOf n table_end ms = (due : Marks) × (ms ≡ due ++ table_ends ∷ []) × AllByRecursion (IsFineMark n) due
AreMarksOf n _ ms = AllByRecursion (IsFineMark n) ms

marks_inside : (n : ℕ) (k : Kind) (ms : Marks) → is_table_start k ≡ false → ((d : ℕ) → depth_with d k ≡ d) →
    AllByRecursion (IsFineMark n) ms →
    AreMarksOf n k ms
marks_inside n table_start ms start same h = absurd (false≢true (sym start))
marks_inside n table_end ms start same h = absurd (let e : 0 ≡ 1 = same 1 in omega arith)
marks_inside n _ ms start same h = h

-- a whole step keeps columns few and its marks small, and its marks sound where it does not fail
pub record FineStep (s : DocumentState) (k : Kind) : Type 0 where
  pub few : state_columns (next s k) ≤ state_columns s + MAX_COLSPAN
  pub small : sum_by mark_size (told s k) ≤ kind_size k
  pub fine : is_failed (next s k) ≡ false → AreMarksOf (state_columns s) k (told s k)

left_columns : (hs : List Holder) → state_columns (table_left hs) ≡ 0
left_columns [] = refl
left_columns (holder ∷ hs) = refl

moved_step : (p : Place) (hs : List Holder) (k : Kind) (m : Move) → FineMove p k m → DepthFits k m
    → (state_columns (moved hs m) ≤ place_columns p + MAX_COLSPAN) × (sum_by mark_size (marks_of m) ≤ kind_size k)
    × (is_failed (moved hs m) ≡ false → AreMarksOf (place_columns p) k (marks_of m))
moved_step p hs k (to q ms) h d = (h.0, h.1, λ alive. marks_inside (place_columns p) k ms d.0 d.1 h.2)
moved_step p hs k (enter holder) h d =
    let P : Kind → Type 0 = λ x. (0 ≤ place_columns p + MAX_COLSPAN) × (1 ≤ kind_size x)
    × (false ≡ false → AreMarksOf (place_columns p) x (table_begins ∷ [])) in
    subst P (sym h) (omega arith, omega arith, λ alive. refl)
moved_step p hs k (leave ms) h d =
    let due_marks = due_fine p in
    let size : sum_by mark_size ms ≤ 1 = (let e : sum_by mark_size ms ≡ sum_by mark_size (due p ++ table_ends ∷ []) =
    ap (λ x. sum_by mark_size x) h.1 in
    let s = sum_by-append mark_size (due p) (table_ends ∷ []) in let z = due_marks.0 in omega arith) in
    let P : Kind → Type 0 = λ x. (state_columns (table_left hs) ≤ place_columns p + MAX_COLSPAN)
    × (sum_by mark_size ms ≤ kind_size x)
    × (is_failed (table_left hs) ≡ false → AreMarksOf (place_columns p) x ms) in
    subst P (sym h.0) (let e = left_columns hs in omega arith, size, λ alive. (due p, h.1, due_marks.1))
moved_step p hs k never h d = (omega arith, omega arith, λ alive. absurd (false≢true (sym alive)))

no_columns_if : (b : Bool) (s : DocumentState) → state_columns s ≡ 0 → state_columns (cond b s failed) ≤ MAX_COLSPAN
no_columns_if true s h = omega arith
no_columns_if false s h = omega arith

pub fine_step : (s : DocumentState) (k : Kind) → IsReadable k → FineStep s k
fine_step before (text cs) h = record {
  few = no_columns_if (is_white (text cs)) before refl;
  small = omega arith;
  fine =
      λ alive. tt;
}
fine_step before table_start h = record { few = omega arith; small = omega arith; fine = λ alive. refl }
fine_step before outer_tag h = record { few = omega arith; small = omega arith; fine = λ alive. tt }
fine_step before _ h = record { few = omega arith; small = omega arith; fine = λ alive. absurd (false≢true (sym alive)) }
fine_step (inside p hs) k h =
    let m = moved_step p hs k (move p k) (fine_moves p k h) (depth_fits p k) in
    record { few = m.0; small = m.1; fine = m.2 }
fine_step after (text cs) h = record {
  few = no_columns_if (is_white (text cs)) after refl;
  small = omega arith;
  fine =
      λ alive. tt;
}
fine_step after outer_tag h = record { few = omega arith; small = omega arith; fine = λ alive. tt }
fine_step after _ h = record { few = omega arith; small = omega arith; fine = λ alive. absurd (false≢true (sym alive)) }
fine_step failed k h = record { few = omega arith; small = omega arith; fine = λ alive. absurd (false≢true (sym alive)) }

-- and of steps one after another
pub few_columns : (s : DocumentState) (ks : Kinds) → AllByRecursion IsReadable ks →
    state_columns (reached s ks) ≤ state_columns s + MAX_COLSPAN * length ks
few_columns s [] h = omega arith
few_columns s (k ∷ ks) (here, later) = let a = (fine_step s k here).few in let b = few_columns (next s k) ks later in omega arith

pub small_marks : (s : DocumentState) (ks : Kinds) → AllByRecursion IsReadable ks →
    sum_by mark_size (all_told s ks) ≤ sum_by kind_size ks
small_marks s [] h = omega arith
small_marks s (k ∷ ks) (here, later) =
    let a = (fine_step s k here).small in
    let b = small_marks (next s k) ks later in
    omega (arith, sum_by-append mark_size (told s k) (all_told (next s k) ks), sum_by-cons kind_size k ks)
