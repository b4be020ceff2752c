-- Which tables have a grid where a tree becomes a table, and which is the first of many that has none.
use Rattle.std.proofs.Common.{◌≡◌, ◌∙◌, ℕ, zero, suc, ◌<◌, Option, Some, None, List, [], ◌∷◌, ◌++◌, ◌⊎◌, inl, inr, length, get_or}
use Rattle.std.proofs.Common.{take, drop, refl}
use Rattle.std.proofs.Common.{sym, ap, subst, append_assoc, Result, Ok, Err, IfOk, IfErr, alloc_error}
use Rattle.std.specs.List.{AllByRecursion, flat_map}
use Rattle.std.proofs.Math.Seq.{drop-cons}
use Rattle.std.proofs.lemmas.Grind.{flat_map-append}
use Rattle.std.proofs.lemmas.List.{append-nil, take-append-drop}
use Rattle.std.proofs.lemmas.List.Concat.{flat_map-cons}
use Rattle.tl_base.specs.Returned.{IsMemoryOr, ReturnsError}
use Rattle.tl_base.specs.declared.breaking.Breaking.{Breaking}
use Rattle.tl_base.proofs.Members.{AllByRecursion-append}
use Rattle.tl_grid.specs.declared.error.GridError.{GridError}
use Rattle.tl_grid.specs.declared.shape.Grid.{Grid}
use Rattle.tl_grid.specs.Form.{HasGrid, LacksGrid}
use Rattle.tl_grid.proofs.Results.{no_cause, one_cause}
use Rattle.tl_tree.specs.declared.node.Block.{Block, out-Block}
use Rattle.tl_tree.specs.declared.node.Block.TheOpen as open_block
use Rattle.tl_tree.specs.declared.node.CellNode.{CellNode, out-CellNode}
use Rattle.tl_tree.specs.declared.node.GroupNode.{GroupNode, out-GroupNode}
use Rattle.tl_tree.specs.declared.node.TableNode.{TableNode, out-TableNode}
use Rattle.tl_table.specs.declared.cell.Content.{Content, out-Content}
use Rattle.tl_table.specs.declared.cell.Content.TheOpen as open_content
use Rattle.tl_table.specs.declared.cell.Table.{Table, out-Table}
use Rattle.tl_table.specs.declared.cell.TableCell.{TableCell, out-TableCell}
use Rattle.tl_table.specs.declared.error.FormError.{FormError}
use Rattle.tl_table.specs.declared.error.FormError.TheVariants as errors
use Rattle.tl_table.specs.Tables.{OpenTable, OpenContent}
use Rattle.tl_table.specs.Formed.{OpenBlock, BecomesContent, BecomeContents, BecomeCells, BecomeCaption, BecomesBy, BecomesWithin}
use Rattle.tl_table.specs.Formed.{Becomes}
use Rattle.tl_table.specs.Formed.{cells_of_group, cells_written, shape_of}
use Rattle.tl_table.specs.Refused.{NumberedShape, HasSomeGrid, AreRefused, HasNoGrid, tables_in_block, part_of_cell}
use Rattle.tl_table.specs.Refused.{numbered_shapes}
use Rattle.tl_table.specs.inner.Forming.{IsOwnError}
use Rattle.tl_table.specs.Refused.{tables_in_flow, tables_in_caption, tables_in_cells, tables_in_groups}
use Rattle.tl_table.proofs.TreeParts.{itself, tables_in_open, tables_in_block-out, part_of_cell-out, part_of_group-out}
use Rattle.tl_table.proofs.TreeParts.{tables_of-out}

abbrev pub Gridded : List NumberedShape → Type 0
Gridded tables = AllByRecursion HasSomeGrid tables

-- the tables in the groups of a table are those in its cells
pub tables_written : (groups : List GroupNode) → tables_in_groups groups ≡
    tables_in_cells (flat_map (λ group. cells_of_group (out-GroupNode group)) groups)
tables_written [] = refl
tables_written (group ∷ groups) =
    ap (λ tables. tables ++ tables_in_groups groups) (ap (λ part. part.inner) (part_of_group-out group))
    ∙ ap (λ tables. tables_in_cells (cells_of_group (out-GroupNode group)) ++ tables) (tables_written groups)
    ∙ sym (flat_map-append (λ (cell : CellNode). (part_of_cell cell).inner) (cells_of_group (out-GroupNode group))
    (flat_map (λ each. cells_of_group (out-GroupNode each)) groups))

-- those in rows are those in the cells of the rows
pub rows_tables : (rows : List (List CellNode)) → tables_in_cells
    (flat_map (λ (row : List CellNode). row) rows) ≡ flat_map tables_in_cells rows
rows_tables [] = refl
rows_tables (row ∷ rows) =
    flat_map-append (λ (cell : CellNode). (part_of_cell cell).inner) row (flat_map (λ (each : List CellNode). each) rows)
    ∙ ap (λ tables. tables_in_cells row ++ tables) (rows_tables rows)

-- ---- where parts of a tree become parts of a table, all tables in them have a grid

module _ (forms : TableNode → Table → Type 0) (each : (node : TableNode) (table : Table) → forms node table →
    Gridded (numbered_shapes node))
    (breaking : Breaking) where
  content_gridded : (block : OpenBlock) (content : OpenContent) → BecomesContent forms breaking block content →
      Gridded (tables_in_open block)
  content_gridded (open_block.Para paragraph) content becomes = tt
  content_gridded (open_block.Table node) (open_content.Para units) becomes = absurd becomes
  content_gridded (open_block.Table node) (open_content.Table box) becomes = each node.value box.value becomes

  pub contents_gridded : (flow : List Block) (blocks : List Content) → BecomeContents forms breaking flow blocks →
      Gridded (tables_in_flow flow)
  contents_gridded [] blocks become = tt
  contents_gridded (block ∷ flow) [] become = absurd become
  contents_gridded (block ∷ flow) (content ∷ blocks) become =
      AllByRecursion-append HasSomeGrid (tables_in_block block) (tables_in_flow flow)
      (subst Gridded (sym (tables_in_block-out block)) (content_gridded (out-Block block) (out-Content content) become.0))
      (contents_gridded flow blocks become.1)

  pub cells_gridded : (nodes : List CellNode) (cells : List TableCell) → BecomeCells forms breaking nodes cells →
      Gridded (tables_in_cells nodes)
  cells_gridded [] cells become = tt
  cells_gridded (node ∷ nodes) [] become = absurd become
  cells_gridded (node ∷ nodes) (cell ∷ cells) become =
      AllByRecursion-append HasSomeGrid (part_of_cell node).inner (tables_in_cells nodes)
      (subst Gridded (sym (ap (λ part. part.inner) (part_of_cell-out node)))
      (contents_gridded (out-CellNode node).flow (out-TableCell cell).blocks become.0.blocks))
      (cells_gridded nodes cells become.1)

  pub caption_gridded : (cols : ℕ) (caption : Option (List Block)) (cells : List TableCell) →
      BecomeCaption forms breaking cols caption cells →
      Gridded (tables_in_caption caption)
  caption_gridded cols None cells become = tt
  caption_gridded cols (Some flow) [] become = absurd become
  caption_gridded cols (Some flow) (cell ∷ cells) become = contents_gridded flow (out-TableCell cell).blocks become.0.blocks

  table_gridded : (node : TableNode) (table : OpenTable) → BecomesBy forms breaking (out-TableNode node) table →
      Gridded (numbered_shapes node)
  table_gridded node table becomes =
      subst Gridded (sym (tables_of-out node)) (
        (becomes.grid, becomes.has_grid),
        AllByRecursion-append HasSomeGrid (tables_in_caption (out-TableNode node).caption)
            (tables_in_groups (out-TableNode node).groups)
            (caption_gridded table.cols (out-TableNode node).caption becomes.caption becomes.captioned)
            (subst Gridded (sym (tables_written (out-TableNode node).groups))
            (cells_gridded (cells_written (out-TableNode node)) becomes.written becomes.cells)),
      )

within_gridded : (depth : ℕ) (breaking : Breaking) (node : TableNode) (table : Table) →
    BecomesWithin depth breaking node table → Gridded (numbered_shapes node)
within_gridded zero breaking node table becomes = absurd becomes
within_gridded (suc depth) breaking node table becomes =
    table_gridded (BecomesWithin depth breaking) (within_gridded depth breaking) breaking node (out-Table table) becomes

pub becomes_gridded : (breaking : Breaking) (node : TableNode) (table : Table) → Becomes breaking node table →
    Gridded (numbered_shapes node)
becomes_gridded breaking node table becomes = within_gridded becomes.0 breaking node table becomes.1

-- ---- the first of many

-- what is refused among some tables is refused among more, where those before them have a grid
pub refused_among : (prefix tables rest : List NumberedShape) (error : FormError) → Gridded prefix → AreRefused tables error →
    AreRefused (prefix ++ (tables ++ rest)) error
refused_among prefix tables rest (errors.Memory memory) gridded refused = absurd refused
refused_among prefix tables rest (errors.Grid number cause) gridded refused = record {
  before = prefix ++ refused.before;
  table = refused.table;
  after = refused.after ++ rest;
  split =
      ap (λ (more : List NumberedShape). prefix ++ (more ++ rest)) refused.split
      ∙ ap (λ (more : List NumberedShape). prefix ++ more) (append_assoc refused.before (refused.table ∷ refused.after) rest)
      ∙ sym (append_assoc prefix refused.before (refused.table ∷ (refused.after ++ rest)));
  formed = AllByRecursion-append HasSomeGrid prefix refused.before gridded refused.formed;
  numbered = refused.numbered;
  refused = refused.refused;
}

-- an error with its cause, or of memory, where the cause is one of another as well
pub refused_or : (P Q : FormError → Type 0) (memory error : FormError) → ((e : FormError) → P e → Q e) →
    IsMemoryOr memory P error →
    IsMemoryOr memory Q error
refused_or P Q memory error more (inl is) = inl is
refused_or P Q memory error more (inr is) = inr (more error is)

-- the first that is refused among the tables of items in a row
pub refused_item : {X : Type 0} (f : X → List NumberedShape) (xs : List X) (i : ℕ) (x : X) (memory error : FormError) →
    i < length xs →
    x ≡ get_or xs i x → Gridded (flat_map f (take i xs)) → IsMemoryOr memory (AreRefused (f x)) error →
    IsMemoryOr memory (AreRefused (flat_map f xs)) error
refused_item {X = X} f xs i x memory error within is gridded refused =
    refused_or (AreRefused (f x)) (AreRefused (flat_map f xs)) memory error
    (λ e one. subst (λ tables. AreRefused tables e) (sym split)
    (refused_among (flat_map f (take i xs)) (f x) (flat_map f (drop (suc i) xs)) e gridded one))
    refused
  where
    whole : xs ≡ take i xs ++ x ∷ drop (suc i) xs
    whole = sym (take-append-drop i xs) ∙ ap (λ (rest : List X). take i xs ++ rest)
        (drop-cons xs i x within ∙ ap (λ (y : X). y ∷ drop (suc i) xs) (sym is))

    split : flat_map f xs ≡ flat_map f (take i xs) ++ (f x ++ flat_map f (drop (suc i) xs))
    split = ap (flat_map f) whole ∙ flat_map-append f (take i xs) (x ∷ drop (suc i) xs)
        ∙ ap (λ tables. flat_map f (take i xs) ++ tables) (flat_map-cons f x (drop (suc i) xs))

-- ---- a table's error

abbrev memory_error : FormError
memory_error = errors.Memory alloc_error

own_refused : (node : TableNode) (error : FormError) → IsOwnError (out-TableNode node) error → HasNoGrid node error
own_refused node (errors.Memory memory) own = absurd own
own_refused node (errors.Grid number cause) own = record {
  before = [];
  table = itself (out-TableNode node);
  after = tables_in_caption (out-TableNode node).caption ++ tables_in_groups (out-TableNode node).groups;
  split = tables_of-out node;
  formed = tt;
  numbered = sym own.0;
  refused = own.1;
}

pub refused_own : (node : TableNode) (memory error : FormError) → IsMemoryOr memory (IsOwnError (out-TableNode node)) error →
    IsMemoryOr memory (HasNoGrid node) error
refused_own node memory error refused = refused_or (IsOwnError (out-TableNode node)) (HasNoGrid node) memory error
    (own_refused node) refused

pub refused_caption : (node : TableNode) (grid : Grid) (memory error : FormError) → HasGrid (shape_of (out-TableNode node)) grid →
    IsMemoryOr memory (AreRefused (tables_in_caption (out-TableNode node).caption)) error →
    IsMemoryOr memory (HasNoGrid node) error
refused_caption node grid memory error has refused =
    refused_or (AreRefused (tables_in_caption (out-TableNode node).caption)) (HasNoGrid node) memory error
    (λ e one. subst (λ tables. AreRefused tables e) (sym (tables_of-out node))
    (refused_among (itself (out-TableNode node) ∷ []) (tables_in_caption (out-TableNode node).caption)
    (tables_in_groups (out-TableNode node).groups) e ((grid, has), tt) one))
    refused

pub refused_cells : (node : TableNode) (grid : Grid) (breaking : Breaking) (cols : ℕ) (caption : List TableCell)
    (memory error : FormError) →
    HasGrid (shape_of (out-TableNode node)) grid → BecomeCaption (Becomes breaking) breaking cols
    (out-TableNode node).caption caption →
    IsMemoryOr memory (AreRefused (tables_in_groups (out-TableNode node).groups)) error → IsMemoryOr memory (HasNoGrid node) error
refused_cells node grid breaking cols caption memory error has captioned refused =
    let own = itself (out-TableNode node) in
    let above = tables_in_caption (out-TableNode node).caption in
    let below = tables_in_groups (out-TableNode node).groups in
    let gridded = caption_gridded (Becomes breaking) (becomes_gridded breaking) breaking cols
    (out-TableNode node).caption caption captioned in
    refused_or (AreRefused below) (HasNoGrid node) memory error
    (λ e one. subst (λ tables. AreRefused tables e)
    (ap (λ tables. own ∷ (above ++ tables)) (append-nil below) ∙ sym (tables_of-out node))
    (refused_among (own ∷ above) below [] e ((grid, has), gridded) one))
    refused

-- ---- each error comes where its cause is so

-- the table without a grid is no one of those that have one
pub not_among : (tables : List NumberedShape) (error : FormError) → Gridded tables → AreRefused tables error → ⊥
not_among tables (errors.Memory memory) gridded refused = absurd refused
not_among tables (errors.Grid number cause) gridded refused =
    at_middle refused.before (subst Gridded refused.split gridded)
  where
    at_middle : (before : List NumberedShape) → Gridded (before ++ refused.table ∷ refused.after) → ⊥
    at_middle [] all = no_cause refused.table.shape all.0.0 cause all.0.1 refused.refused
    at_middle (first ∷ before) all = at_middle before all.1

-- two first tables without a grid are one
same_first : (a b : List NumberedShape) (x y : NumberedShape) (r s : List NumberedShape) (one other : GridError) →
    a ++ x ∷ r ≡ b ++ y ∷ s →
    Gridded a → Gridded b → LacksGrid x.shape one → LacksGrid y.shape other → x ≡ y
same_first [] [] x y r s one other e gridded grids is are = cc
same_first [] (c ∷ b) x y r s one other e gridded grids is are =
    let same : x ≡ c = cc in
    absurd (no_cause x.shape grids.0.0 one (subst (λ (t : NumberedShape). HasGrid t.shape grids.0.0) (sym same) grids.0.1) is)
same_first (c ∷ a) [] x y r s one other e gridded grids is are =
    let same : y ≡ c = cc in
    absurd (no_cause y.shape gridded.0.0 other (subst (λ (t : NumberedShape). HasGrid t.shape gridded.0.0) (sym same)
    gridded.0.1) are)
same_first (c ∷ a) (d ∷ b) x y r s one other e gridded grids is are =
    let rest : a ++ x ∷ r ≡ b ++ y ∷ s = cc in same_first a b x y r s one other rest gridded.1 grids.1 is are

one_error : (tables : List NumberedShape) (one other : FormError) → AreRefused tables one → AreRefused tables other → one ≡ other
one_error tables (errors.Memory memory) other is are = absurd is
one_error tables (errors.Grid number cause) (errors.Memory memory) is are = absurd are
one_error tables (errors.Grid number cause) (errors.Grid second effect) is are =
    let same : is.table ≡ are.table = same_first is.before are.before is.table are.table is.after are.after cause effect
    (sym is.split ∙ are.split)
    is.formed are.formed is.refused are.refused in
    let numbers : number ≡ second = sym is.numbered ∙ ap (λ (t : NumberedShape). t.number) same ∙ are.numbered in
    let effects : cause ≡ effect = one_cause are.table.shape cause effect
    (subst (λ (t : NumberedShape). LacksGrid t.shape cause) same is.refused) are.refused in
    cc

pub each_error : (breaking : Breaking) (node : TableNode) (result : Result Table FormError) →
    IfOk result (Becomes breaking node) →
    IfErr result (IsMemoryOr memory_error (HasNoGrid node)) → (error : FormError) → HasNoGrid node error →
    ReturnsError memory_error error result
each_error breaking node (Ok table) ok err error refused = not_among (numbered_shapes node) error
    (becomes_gridded breaking node table ok) refused
each_error breaking node (Err found) ok err error refused = by_case err
  where
    by_case : IsMemoryOr memory_error (HasNoGrid node) found → (found ≡ memory_error) ⊎ (found ≡ error)
    by_case (inl memory) = inl memory
    by_case (inr is) = inr (one_error (numbered_shapes node) found error is refused)
