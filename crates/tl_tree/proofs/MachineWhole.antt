-- The machine accepts every document, with its marks.
use Rattle.std.proofs.Common.{◌≡◌, ℕ, ◌+◌, Bool, true, false, List, [], ◌∷◌, ◌++◌, refl, sym, ap, ◌∙◌, subst, append_assoc}
use Rattle.std.proofs.Common.{add_assoc, add-zero, zero-add}
use Rattle.std.proofs.lemmas.Bool.{false≢true}
use Rattle.std.proofs.lemmas.List.Sums.{sum_by-cons}
use Rattle.std.specs.Prelude.{map, sum}
use Rattle.tl_tree.specs.declared.node.Part.{Part}
use Rattle.tl_tree.specs.declared.node.Part.TheVariants.{Loose}
use Rattle.tl_tree.specs.Tags.{part_of, Kind, Kinds, text, table_start, table_end, caption_end, colgroup_start, colgroup_end, col}
use Rattle.tl_tree.specs.Tags.{group_start, group_end}
use Rattle.tl_tree.specs.Tags.{row_start, row_end, cell_start, cell_end, caption_start, br, p_or_div, inline_tag, is_white}
use Rattle.tl_tree.specs.Tags.{is_row_start, is_col, begins_with}
use Rattle.tl_tree.specs.Grammar.{Marks, table_begins, caption_begins, cell_begins, line_break, columns, group_begins, row_begins}
use Rattle.tl_tree.specs.Grammar.{character, paragraph_ends}
use Rattle.tl_tree.specs.Grammar.{table_ends, Spaces, no_space, space, Ended, by_tag, left_out, Cols, no_col, col_space, next_col}
use Rattle.tl_tree.specs.Grammar.{colgroup_columns, Columns}
use Rattle.tl_tree.specs.Grammar.{no_columns, colgroup, lone_col, Flow, no_flow, words, break, edge, inline, nested, Table, table}
use Rattle.tl_tree.specs.Grammar.{Caption, no_caption}
use Rattle.tl_tree.specs.Grammar.{caption, Cells, no_cell, cell, Rows, no_row, row, Parts, no_part, group, loose_rows, Outer}
use Rattle.tl_tree.specs.Grammar.{no_outer, outer_space, outer}
use Rattle.tl_tree.specs.Grammar.{DocumentTokens}
use Rattle.tl_tree.specs.inner.Machine.{Holder, of_caption, of_cell, Place, opened, in_columns, in_colgroup, between, in_group}
use Rattle.tl_tree.specs.inner.Machine.{in_row, in_flow, Move, to}
use Rattle.tl_tree.specs.inner.Machine.{enter, leave, never, closes, same_head, move, DocumentState, before, inside, after}
use Rattle.tl_tree.specs.inner.Machine.{table_left, moved}
use Rattle.tl_tree.specs.inner.Machine.{marks_of, next, told}
use Rattle.tl_tree.specs.inner.Machine.{reached, all_told, Accepts}
use Rattle.tl_tree.proofs.Moves.{no_way, same_head-refl, closes-own, is_plain, white_stays, told_first, is_entry, Alike, nowhere}
use Rattle.tl_tree.proofs.Moves.{alike, cell_as_row}
use Rattle.tl_tree.proofs.Moves.{row_as_group, group_as_between, columns_as_between, colgroup_as_columns, caption_as_columns}
use Rattle.tl_tree.proofs.Moves.{opened_as_columns, when}

-- a token that moves to a place from which the rest is accepted
pub by_move : (p q : Place) (hs : List Holder) (k : Kind) (ns : Marks) {ks : Kinds} {ms : Marks} → move p k ≡ to q ns
    → Accepts (inside q hs) ks ms → Accepts (inside p hs) (k ∷ ks) (ns ++ ms)
by_move p q hs k ns {ks} {ms} e a = record {
  ends = rw e a.ends;
  tells = rw e (ap (λ x. ns ++ x) a.tells);
}

pub spaces_whole : (p : Place) (hs : List Holder) {ks rest : Kinds} {ms : Marks} → is_plain p ≡ true → Spaces ks rest
    → Accepts (inside p hs) rest ms → Accepts (inside p hs) ks ms
spaces_whole p hs plain no_space a = a
spaces_whole p hs plain (space {cs = cs} white later) a =
    by_move p p hs (text cs) [] (white_stays p cs plain white) (spaces_whole p hs plain later a)

-- what is accepted from a place is accepted from one that moves alike, after the marks between the two
pub as_alike : (p q : Place) (hs : List Holder) (ns : Marks) (k : Kind) {ks : Kinds} {ms : Marks} → Alike p q ns k
    → Accepts (inside q hs) (k ∷ ks) ms → Accepts (inside p hs) (k ∷ ks) (ns ++ ms)
as_alike p q hs ns k {ks} {ms} (nowhere e) a = no_way ks (rw e at a.ends)
as_alike p q hs ns k {ks} {ms} (alike no_entry e) a = record {
  ends = rw e (both (move q k) no_entry a.ends a.tells).0;
  tells = rw e (both (move q k) no_entry a.ends a.tells).1;
}
  where
    both : (m : Move) → is_entry m ≡ false → reached (moved hs m) ks ≡ after → marks_of m ++ all_told (moved hs m) ks ≡ ms
        → (reached (moved hs (told_first ns m)) ks ≡ after) ×
        (marks_of (told_first ns m) ++ all_told (moved hs (told_first ns m)) ks ≡ ns ++ ms)
    both (to r os) n h t = (h, append_assoc ns os _ ∙ ap (λ x. ns ++ x) t)
    both (enter holder) n h t = absurd (false≢true (sym n))
    both (leave os) n h t = (h, append_assoc ns os _ ∙ ap (λ x. ns ++ x) t)
    both never n h t = no_way ks h

-- the same where the tokens are not white space alone, and not of one other kind
pub as_alike_all : (p q : Place) (hs : List Holder) (ns : Marks) (other : Kind → Bool)
    → ((k : Kind) → is_white k ≡ false → other k ≡ false → Alike p q ns k)
    → (ks : Kinds) {ms : Marks} → begins_with is_white ks ≡ false → begins_with other ks ≡ false
    → Accepts (inside q hs) ks ms → Accepts (inside p hs) ks (ns ++ ms)
as_alike_all p q hs ns other level [] solid kind a = absurd (let e : inside q hs ≡ after = a.ends in cc)
as_alike_all p q hs ns other level (k ∷ ks) solid kind a = as_alike p q hs ns k (level k solid kind) a

abbrev none : Kind → Bool
none k = false

none_begins : (ks : Kinds) → begins_with none ks ≡ false
none_begins [] = refl
none_begins (k ∷ ks) = refl

-- an end tag, or the place at which it is left out
ended_whole : (tag : Kind) (p q : Place) (hs : List Holder) (ns : Marks) (other : Kind → Bool)
    → move p tag ≡ to q ns → is_plain q ≡ true
    → ((k : Kind) → is_white k ≡ false → other k ≡ false → Alike p q ns k)
    → {ks rest : Kinds} {ms : Marks} → begins_with other ks ≡ false → Ended tag ks rest
    → Accepts (inside q hs) rest ms → Accepts (inside p hs) ks (ns ++ ms)
ended_whole tag p q hs ns other e plain level kind (by_tag spaces) a =
    by_move p q hs tag ns e (spaces_whole q hs plain spaces a)
ended_whole tag p q hs ns other e plain level {ks} kind (left_out solid) a =
    as_alike_all p q hs ns other level ks solid kind a

-- what follows rows is no row
pub rows_end : {ks rest : Kinds} {ms more : Marks} → Rows ks ms rest more → begins_with is_row_start rest ≡ false
rows_end (no_row h) = h
rows_end (row spaces cells ended later) = rows_end later

-- parts and columns begin with a tag
parts_solid : {ks rest : Kinds} {ms more : Marks} → begins_with is_white rest ≡ false → Parts ks ms rest more →
    begins_with is_white ks ≡ false
parts_solid h no_part = h
parts_solid h (group spaces rows ended later) = refl
parts_solid h (loose_rows rows later) = refl

columns_solid : {n : ℕ} {ks rest : Kinds} → begins_with is_white rest ≡ false → Columns ks n rest →
    begins_with is_white ks ≡ false
columns_solid h no_columns = h
columns_solid h (colgroup cols ended later) = refl
columns_solid h (lone_col spaces later) = refl

cols_whole : (hs : List Holder) (n pending : ℕ) {spans : List ℕ} {ks k1 k2 : Kinds} {ms : Marks}
    → Cols ks spans k1 → Ended colgroup_end k1 k2
    → Accepts (inside (in_columns (n + colgroup_columns pending spans)) hs) k2 ms
    → Accepts (inside (in_colgroup n pending) hs) ks ms
cols_whole hs n pending (no_col none_left) ended a =
    ended_whole colgroup_end (in_colgroup n pending) (in_columns (n + pending)) hs [] is_col refl refl
    (colgroup_as_columns n pending) none_left ended a
cols_whole hs n pending (col_space {cs = cs} white later) ended a =
    by_move (in_colgroup n pending) (in_colgroup n pending) hs (text cs) [] (white_stays (in_colgroup n pending) cs refl white)
    (cols_whole hs n pending later ended a)
cols_whole hs n pending {ms = ms} (next_col {span = span} {spans = spans} later) ended a =
    by_move (in_colgroup n pending) (in_colgroup (n + span) 0) hs (col span) [] refl
    (cols_whole hs (n + span) 0 later ended (same_columns a))
  where
    sums : (s : ℕ) (rest : List ℕ) → colgroup_columns 0 rest ≡ sum rest
    sums s [] = refl
    sums s (t ∷ rest) = refl

    same_number : n + sum (span ∷ spans) ≡ n + span + colgroup_columns 0 spans
    same_number = ap (λ x. n + x) (sum_by-cons (λ s. s) span spans ∙ ap (λ x. span + x) (sym (sums span spans))) ∙ sym
        (add_assoc n span _)

    same_columns : {k2 : Kinds} → Accepts (inside (in_columns (n + sum (span ∷ spans))) hs) k2 ms →
        Accepts (inside (in_columns (n + span + colgroup_columns 0 spans)) hs) k2 ms
    same_columns {k2} b = let P : ℕ → Type 0 = λ x. Accepts (inside (in_columns x) hs) k2 ms in subst P same_number b

columns_whole : (hs : List Holder) (n : ℕ) {m : ℕ} {ks rest : Kinds} {ms : Marks} → begins_with is_white rest ≡ false
    → Columns ks m rest → Accepts (inside between hs) rest ms → Accepts (inside (in_columns n) hs) ks (columns (n + m) ∷ ms)
columns_whole hs n {rest = rest} {ms = ms} solid no_columns a =
    let P : ℕ → Type 0 = λ x. Accepts (inside (in_columns n) hs) rest (columns x ∷ ms) in
    subst P (sym (add-zero n)) (as_alike_all (in_columns n) between hs (columns n ∷ []) none (λ k w o. columns_as_between n k w)
    rest solid
    (none_begins rest) a)
columns_whole hs n {ms = ms} solid (colgroup {span = span} {n = m} {spans = spans} {ks = ks} cols ended later) a =
    let b = columns_whole hs (n + colgroup_columns span spans) solid later a in
    let c = by_move (in_columns n) (in_colgroup n span) hs (colgroup_start span) [] refl (cols_whole hs n span cols ended b) in
    let P : ℕ → Type 0 = λ x. Accepts (inside (in_columns n) hs) (colgroup_start span ∷ ks) (columns x ∷ ms) in
    subst P (add_assoc n (colgroup_columns span spans) m) c
columns_whole hs n {ms = ms} solid (lone_col {span = span} {n = m} {ks = ks} spaces later) a =
    let b = columns_whole hs (n + span) solid later a in
    let c = by_move (in_columns n) (in_columns (n + span)) hs (col span) [] refl
    (spaces_whole (in_columns (n + span)) hs refl spaces b) in
    let P : ℕ → Type 0 = λ x. Accepts (inside (in_columns n) hs) (col span ∷ ks) (columns x ∷ ms) in
    subst P (add_assoc n span m) c

mutual
  flow_whole : (holder : Holder) (hs : List Holder) {ks rest : Kinds} {ms more : Marks} → Flow ks ms rest more
      → Accepts (inside (in_flow holder) hs) rest more → Accepts (inside (in_flow holder) hs) ks ms
  flow_whole holder hs no_flow a = a
  flow_whole holder hs (words {cs = cs} later) a = by_move (in_flow holder) (in_flow holder) hs (text cs) (map character cs)
      refl (flow_whole holder hs later a)
  flow_whole holder hs (break later) a = by_move (in_flow holder) (in_flow holder) hs br (line_break ∷ []) refl
      (flow_whole holder hs later a)
  flow_whole holder hs (edge later) a = by_move (in_flow holder) (in_flow holder) hs p_or_div (paragraph_ends ∷ []) refl
      (flow_whole holder hs later a)
  flow_whole holder hs (inline later) a = by_move (in_flow holder) (in_flow holder) hs inline_tag [] refl
      (flow_whole holder hs later a)
  flow_whole holder hs (nested inner later) a =
      table_whole (inside (in_flow holder) hs) (holder ∷ hs) refl refl inner (flow_whole holder hs later a)

  table_whole : (s : DocumentState) (hs : List Holder) → next s table_start ≡ inside opened hs →
      told s table_start ≡ table_begins ∷ []
      → {ks rest : Kinds} {ms more : Marks} → Table ks ms rest more → Accepts (table_left hs) rest more → Accepts s ks ms
  table_whole s hs goes tells (table {n = n} {k2 = k2} {m1 = m1} spaces before_columns cols parts) a =
      let closed : Accepts (inside between hs) (table_end ∷ _) (table_ends ∷ _) =
      record { ends = a.ends; tells = ap (λ x. table_ends ∷ x) a.tells } in
      let solid = parts_solid refl parts in
      let b = columns_whole hs 0 solid cols (parts_whole hs refl parts closed) in
      let P : ℕ → Type 0 = λ x. Accepts (inside (in_columns 0) hs) k2 (columns x ∷ m1) in
      let from_none = subst P (zero-add n) b in
      let c = spaces_whole opened hs refl spaces (caption_whole hs (columns_solid solid cols) before_columns from_none) in
      record { ends = rw goes c.ends; tells = rw (goes, tells) (ap (λ x. table_begins ∷ x) c.tells) }

  caption_whole : (hs : List Holder) {ks rest : Kinds} {ms more : Marks} → begins_with is_white rest ≡ false →
      Caption ks ms rest more
      → Accepts (inside (in_columns 0) hs) rest more → Accepts (inside opened hs) ks ms
  caption_whole hs {ks} solid no_caption a = as_alike_all opened (in_columns 0) hs [] none (λ k w o. opened_as_columns k w)
      ks solid (none_begins ks) a
  caption_whole hs solid (caption {k1 = k1} flow ended) a =
      let b = ended_whole caption_end (in_flow of_caption) (in_columns 0) hs (paragraph_ends ∷ []) none refl refl
      (λ k w o. caption_as_columns k w)
      (none_begins k1) ended a in
      by_move opened (in_flow of_caption) hs caption_start (caption_begins ∷ []) refl (flow_whole of_caption hs flow b)

  cells_whole : (part : Part) (hs : List Holder) {ks rest : Kinds} {ms more : Marks} → Cells ks ms rest more
      → Accepts (inside (in_row part) hs) rest more → Accepts (inside (in_row part) hs) ks ms
  cells_whole part hs no_cell a = a
  cells_whole part hs (cell {head = head} {spans = spans} {k1 = k1} flow ended later) a =
      let b = ended_whole (cell_end head) (in_flow (of_cell part head)) (in_row part) hs (paragraph_ends ∷ []) none
      (when (same_head head head) _ _ (same_head-refl head)) refl
      (λ k w o. cell_as_row part head k w) (none_begins k1) ended (cells_whole part hs later a) in
      by_move (in_row part) (in_flow (of_cell part head)) hs (cell_start head spans) (cell_begins head spans ∷ []) refl
      (flow_whole (of_cell part head) hs flow b)

  rows_whole : (part : Part) (hs : List Holder) {ks rest : Kinds} {ms more : Marks} → Rows ks ms rest more
      → Accepts (inside (in_group part) hs) rest more → Accepts (inside (in_group part) hs) ks ms
  rows_whole part hs (no_row h) a = a
  rows_whole part hs (row {k2 = k2} spaces cells ended later) a =
      let b = ended_whole row_end (in_row part) (in_group part) hs [] none refl refl (λ k w o. row_as_group part k w)
      (none_begins k2) ended
      (rows_whole part hs later a) in
      by_move (in_group part) (in_row part) hs row_start (row_begins ∷ []) refl
      (spaces_whole (in_row part) hs refl spaces (cells_whole part hs cells b))

  parts_whole : (hs : List Holder) {ks rest : Kinds} {ms more : Marks} → begins_with is_white rest ≡ false → Parts ks ms rest more
      → Accepts (inside between hs) rest more → Accepts (inside between hs) ks ms
  parts_whole hs solid no_part a = a
  parts_whole hs solid (group {section = section} spaces rows ended later) a =
      let part = part_of section in
      let b = ended_whole (group_end section) (in_group part) between hs [] is_row_start
      (when (closes section part) _ _ (closes-own section)) refl
      (λ k w o. group_as_between part k w o) (rows_end rows) ended (parts_whole hs solid later a) in
      by_move between (in_group part) hs (group_start section) (group_begins part ∷ []) refl
      (spaces_whole (in_group part) hs refl spaces (rows_whole part hs rows b))
  parts_whole hs solid (loose_rows {k1 = k1} rows later) a =
      let b = as_alike_all (in_group Loose) between hs [] is_row_start (λ k w o. group_as_between Loose k w o) k1
      (parts_solid solid later)
      (rows_end rows) (parts_whole hs solid later a) in
      let c = rows_whole Loose hs rows b in
      record { ends = c.ends; tells = ap (λ x. group_begins Loose ∷ x) c.tells }

outer_before : {ks rest : Kinds} {ms : Marks} → Outer ks rest → Accepts before rest ms → Accepts before ks ms
outer_before no_outer a = a
outer_before (outer_space {cs = cs} white later) a = let b = outer_before later a in
    record { ends = rw white b.ends; tells = rw white b.tells }
outer_before (outer later) a = let b = outer_before later a in record { ends = b.ends; tells = b.tells }

outer_after : {ks : Kinds} → Outer ks [] → Accepts after ks []
outer_after no_outer = record { ends = refl; tells = refl }
outer_after (outer_space {cs = cs} white later) = let b = outer_after later in
    record { ends = rw white b.ends; tells = rw white b.tells }
outer_after (outer later) = let b = outer_after later in record { ends = b.ends; tells = b.tells }

-- Every document is accepted, with its marks.
pub document_whole : {ks : Kinds} {ms : Marks} → DocumentTokens ks ms → Accepts before ks ms
document_whole d = outer_before d.led (table_whole before [] refl refl d.whole (outer_after d.followed))
