-- What is added to the outline by each mark.
use Rattle.std.proofs.Common.{◌≡◌, ℕ, None, List, [], ◌∷◌, ◌++◌, refl, sym, ap, ◌∙◌, append_assoc, map}
use Rattle.std.proofs.lemmas.List.{append-nil}
use Rattle.std.specs.List.{flat_map}
use Rattle.tl_tree.specs.Outline.{Entry, Entries, group, row, cell, cell_outline, blocks_outline, row_outline}
use Rattle.tl_tree.specs.Grammar.{Mark, Marks, character, line_break, paragraph_ends, group_begins, row_begins}
use Rattle.tl_tree.specs.Paragraphs.{leading, paragraph_of, entries_of, entries_after}
use Rattle.tl_tree.proofs.Outlines.{flat_map-push}
use Rattle.tl_tree.specs.declared.node.Block.{Block}
use Rattle.tl_tree.specs.declared.node.CellNode.{CellNode}
use Rattle.tl_tree.specs.declared.flow.Flow.{Flow}
use Rattle.tl_tree.specs.declared.open.OpenCell.{OpenCell}
use Rattle.tl_tree.specs.inner.Lines.{line_atoms, open_word, ReadsMarks}
use Rattle.tl_tree.proofs.Lines.{atoms_from, read_none}
use Rattle.tl_tree.specs.Tags.{row_start}
use Rattle.tl_tree.specs.declared.node.Part.TheVariants.{Loose}
use Rattle.tl_tree.specs.declared.open.Parts.{Parts}
use Rattle.tl_tree.specs.declared.open.OpenGroup.{OpenGroup}
use Rattle.tl_tree.specs.declared.open.OpenTable.{OpenTable}
use Rattle.tl_tree.specs.declared.open.OpenTable.TheVariants.{Row}
use Rattle.tl_tree.specs.inner.Machine.{move, to, in_row, start_row, group_of, due}
use Rattle.tl_tree.specs.inner.Reading.{outcome, machine_place, parts_so_far, Moves, OutlineOutcome, after_entries, in_flow}
use Rattle.tl_tree.specs.inner.Reading.{cell_so_far}
use Rattle.tl_tree.specs.inner.Reading.{group_so_far, Adds}

regroup : (g f : Entries) (r x : Entry) (b p e : Entries) → (g ++ (r ∷ (f ++ (x ∷ (b ++ p))))) ++ e ≡
    (((g ++ (r ∷ f)) ++ x ∷ []) ++ b) ++ (p ++ e)
regroup g f r x b p e = simp append_assoc

-- a cell that ends
pub cell_ends : (c : OpenCell) (flow : Flow) (blocks : List Block) (cells : List CellNode) (node : CellNode)
    → blocks_outline blocks ≡ blocks_outline flow.blocks ++ paragraph_of (line_atoms flow.line [])
    → cells ≡ c.row.cells ++ node ∷ []
    → cell_outline node ≡ cell c.head c.spans.colspan c.spans.rowspan c.spans.least c.spans.align ∷ blocks_outline blocks
    → Adds (in_flow (cell_so_far c) flow) (after_entries (group_so_far c.row.group ++ row_outline cells)) (paragraph_ends ∷ [])
cell_ends c flow blocks cells node blocks_are cells_are node_is = record {
  same = λ k later.
      let g = group_so_far c.row.group in
      let e = entries_of k later in
      let x = cell c.head c.spans.colspan c.spans.rowspan c.spans.least c.spans.align in
      ap (λ cs. (g ++ row_outline cs) ++ e) cells_are
      ∙ ap (λ es. (g ++ (row ∷ es)) ++ e)
      (flat_map-push cell_outline c.row.cells node ∙ ap (λ es. flat_map cell_outline c.row.cells ++ es)
      (node_is ∙ ap (λ es. x ∷ es) blocks_are))
      ∙ regroup g (flat_map cell_outline c.row.cells) row x (blocks_outline flow.blocks)
      (paragraph_of (line_atoms flow.line [])) e;
}

-- one after another
pub adds_then : {a b c : OutlineOutcome} (ms ns : Marks) → Adds a b ms → Adds b c ns → Adds a c (ms ++ ns)
adds_then {a} ms ns first second = record {
  same = λ k later. second.same k later ∙ first.same k (ns ++ later) ∙ ap (λ x. a k x) (sym (append_assoc ms ns later));
}

-- nothing
pub adds_nothing : {a : OutlineOutcome} → Adds a a []
adds_nothing = record { same = λ k later. refl }

-- a mark of its own entry
pub adds_mark : (entries : Entries) (m : Mark) (x : Entry) →
    ((k : ℕ) (later : Marks) → entries_of k (m ∷ later) ≡ x ∷ entries_of k later)
    → Adds (after_entries entries) (after_entries (entries ++ x ∷ [])) (m ∷ [])
adds_mark entries m x is = record {
  same = λ k later. append_assoc entries (x ∷ []) (entries_of k later) ∙ ap (λ es. entries ++ es) (sym (is k later));
}

-- a flow of no block and no text
pub empty_flow : (flow : Flow) → flow.blocks ≡ [] → flow.line.atoms ≡ [] → open_word flow.line ≡ [] → (entries : Entries)
    → Adds (after_entries entries) (in_flow entries flow) []
empty_flow flow blocks atoms word entries = record {
  same = λ k later.
      let e = entries_after k later in
      ap (λ bs. (entries ++ blocks_outline bs) ++ (paragraph_of (line_atoms flow.line (leading later)) ++ e)) blocks
      ∙ ap (λ es. es ++ (paragraph_of (line_atoms flow.line (leading later)) ++ e)) (append-nil entries)
      ∙ ap (λ list. entries ++ (paragraph_of (atoms_from list (open_word flow.line) (leading later)) ++ e)) atoms
      ∙ ap (λ w. entries ++ (paragraph_of (atoms_from [] w (leading later)) ++ e)) word
      ∙ ap (λ list. entries ++ (paragraph_of list ++ e)) (read_none (leading later));
}

-- a flow whose paragraph ends and is one of its blocks
pub paragraph_ended : (old new : Flow) (entries : Entries) →
    blocks_outline new.blocks ≡ blocks_outline old.blocks ++ paragraph_of (line_atoms old.line [])
    → new.line.atoms ≡ [] → open_word new.line ≡ [] → Adds (in_flow entries old) (in_flow entries new) (paragraph_ends ∷ [])
paragraph_ended old new entries blocks atoms word = record {
  same = λ k later.
      let e = entries_after k later in
      ap (λ bs. (entries ++ bs) ++ (paragraph_of (line_atoms new.line (leading later)) ++ e)) blocks
      ∙ ap (λ list. (entries ++ (blocks_outline old.blocks ++ paragraph_of (line_atoms old.line []))) ++
      (paragraph_of (atoms_from list (open_word new.line) (leading later)) ++ e)) atoms
      ∙ ap (λ w. (entries ++ (blocks_outline old.blocks ++ paragraph_of (line_atoms old.line []))) ++
      (paragraph_of (atoms_from [] w (leading later)) ++ e)) word
      ∙ ap (λ list. (entries ++ (blocks_outline old.blocks ++ paragraph_of (line_atoms old.line []))) ++
      (paragraph_of list ++ e)) (read_none (leading later))
      ∙ regroup_line entries (blocks_outline old.blocks) (paragraph_of (line_atoms old.line [])) (entries_of k later);
}
  where
    regroup_line : (a b p e : Entries) → (a ++ (b ++ p)) ++ e ≡ (a ++ b) ++ (p ++ e)
    regroup_line a b p e = simp append_assoc

-- text and breaks in a flow
leading-text : (cs : List ℕ) (ms : Marks) → leading (map character cs ++ ms) ≡ map character cs ++ leading ms
leading-text [] ms = refl
leading-text (c ∷ cs) ms = ap (λ x. character c ∷ x) (leading-text cs ms)

pub after-text : (k : ℕ) (cs : List ℕ) (ms : Marks) → entries_after k (map character cs ++ ms) ≡ entries_after k ms
after-text k [] ms = refl
after-text k (c ∷ cs) ms = after-text k cs ms

pub text_read : (old new : Flow) (entries : Entries) (cs : List ℕ) → new.blocks ≡ old.blocks →
    ReadsMarks old.line new.line (map character cs)
    → Adds (in_flow entries old) (in_flow entries new) (map character cs)
text_read old new entries cs blocks line = record {
  same = λ k later.
      ap (λ bs. (entries ++ blocks_outline bs) ++ (paragraph_of (line_atoms new.line (leading later)) ++ entries_after k later))
      blocks
      ∙ ap (λ list. (entries ++ blocks_outline old.blocks) ++ (paragraph_of list ++ entries_after k later))
      (line.same (leading later) ∙ ap (λ x. line_atoms old.line x) (sym (leading-text cs later)))
      ∙ ap (λ es. (entries ++ blocks_outline old.blocks) ++ (paragraph_of
      (line_atoms old.line (leading (map character cs ++ later))) ++ es))
      (sym (after-text k cs later));
}

pub break_read : (old new : Flow) (entries : Entries) → new.blocks ≡ old.blocks → ReadsMarks old.line new.line (line_break ∷ [])
    → Adds (in_flow entries old) (in_flow entries new) (line_break ∷ [])
break_read old new entries blocks line = record {
  same = λ k later.
      ap (λ bs. (entries ++ blocks_outline bs) ++ (paragraph_of (line_atoms new.line (leading later)) ++ entries_after k later))
      blocks
      ∙ ap (λ list. (entries ++ blocks_outline old.blocks) ++ (paragraph_of list ++ entries_after k later))
      (line.same (leading later));
}

-- a row of loose rows, where no group is open
pub loose_row_moves : (t : OpenTable) (parts : Parts) (g : OpenGroup) (cells : List CellNode) → group_of (machine_place t) ≡ None
    → Adds (outcome t) (after_entries (parts_so_far parts)) (due (machine_place t)) →
    group_so_far g ≡ parts_so_far parts ++ group Loose ∷ []
    → g.part ≡ Loose → cells ≡ [] → Moves t row_start (Row (record { group = g; cells = cells }))
loose_row_moves t parts g cells none adds so_far part empty =
    let ms = group_begins Loose ∷ row_begins ∷ [] in
    let e : move (machine_place t) row_start ≡ to (in_row Loose) (due (machine_place t) ++ ms) =
    ap (λ o. start_row (due (machine_place t)) o) none in
    let two : Adds (after_entries (parts_so_far parts)) (after_entries (group_so_far g ++ row_outline cells)) ms = record {
      same = λ k later.
          ap (λ cs. (group_so_far g ++ row_outline cs) ++ entries_of k later) empty
          ∙ ap (λ es. (es ++ row ∷ []) ++ entries_of k later) so_far
          ∙ regroup_row (parts_so_far parts) (group Loose) row (entries_of k later);
    } in
    record {
      goes = rw e (ap (λ x. to (in_row x) (due (machine_place t) ++ ms)) (sym part));
      adds = rw e (adds_then (due (machine_place t)) ms adds two);
    }
  where
    regroup_row : (a : Entries) (x y : Entry) (e : Entries) → ((a ++ x ∷ []) ++ y ∷ []) ++ e ≡ a ++ (x ∷ (y ∷ e))
    regroup_row a x y e = simp append_assoc
