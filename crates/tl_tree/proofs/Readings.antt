-- What reading a token leaves, from what it does to the table that is open.
use Rattle.std.proofs.Common.{◌≡◌, ℕ, ◌+◌, false, Option, Some, None, Result, Ok, Err, IfErr, List, [], ◌∷◌, ◌++◌, length}
use Rattle.std.proofs.Common.{map, refl, sym, ap, ◌∙◌, arith}
use Rattle.std.proofs.Common.{append_assoc, lit<}
use Rattle.std.proofs.lemmas.List.{length-map, length-reverse, reverse-append}
use Rattle.std.specs.declared.vec.Vec.{Vec}
use Rattle.std.specs.declared.alloc.Global.{Global}
use Rattle.std.proofs.lemmas.Bool.{false≢true}
use Rattle.std.specs.Prelude.{is_some}
use Rattle.tl_token.specs.declared.token.Spans.{Spans}
use Rattle.tl_token.specs.declared.token.Element.{Element}
use Rattle.tl_token.specs.declared.token.Element.TheVariants as elements
use Rattle.tl_tree.specs.Tags.{Kind, table_start, is_table_start, kind_of_start, kind_of_end}
use Rattle.tl_tree.specs.Grammar.{Marks, table_ends}
use Rattle.tl_tree.specs.Paragraphs.{leading, paragraph_of, entries_of, entries_after}
use Rattle.tl_tree.specs.Outline.{Entry, Entries, table, table_end, outline, blocks_outline}
use Rattle.tl_tree.specs.Spelling.{FitsLimits, tables_with}
use Rattle.tl_tree.specs.inner.Machine as machine
use Rattle.tl_tree.specs.inner.Machine.{moved, due}
use Rattle.tl_tree.specs.inner.Verdict.{is_failed}
use Rattle.tl_tree.specs.inner.Lines.{line_atoms, open_word}
use Rattle.tl_tree.specs.inner.Reading.{after_entries, outcome, parts_so_far, Adds, in_flow, holder_so_far, holder_of}
use Rattle.tl_tree.specs.inner.Reading.{machine_place}
use Rattle.tl_tree.specs.inner.Reading.{Moves}
use Rattle.tl_tree.specs.inner.Documents.{around, holders, state_of, outcome_of, Reads, Nests, Leaves}
use Rattle.tl_tree.specs.declared.node.TableNode.{TableNode}
use Rattle.tl_tree.specs.declared.flow.Flow.{Flow}
use Rattle.tl_tree.specs.declared.open.Parts.{Parts}
use Rattle.tl_tree.specs.declared.open.Holder.{Holder}
use Rattle.tl_tree.specs.declared.open.OpenTable.{OpenTable}
use Rattle.tl_tree.specs.declared.open.OpenTable.TheVariants as stages
use Rattle.tl_tree.specs.declared.reading.Outer.{Outer}
use Rattle.tl_tree.specs.declared.reading.Reading.{Reading}
use Rattle.tl_tree.specs.declared.reading.Reading.TheVariants.{Before, Inside}
use Rattle.tl_tree.proofs.Outlines.{flat_map-push}
use Rattle.tl_tree.proofs.Lines.{atoms_from, read_none}

pub if_err : {T E : Type 0} (r : Result T E) {P Q : E → Type 0} → ((e : E) → P e → Q e) → IfErr r P → IfErr r Q
if_err (Ok x) f h = tt
if_err (Err e) f h = f e h

pub none_of : {A : Type 0} (o : Option A) → is_some o ≡ false → o ≡ None
none_of None h = refl
none_of (Some x) h = absurd (false≢true (sym h))

fits_tag : (d t : ℕ) (k : Kind) → is_table_start k ≡ false → FitsLimits d t k
fits_tag d t table_start h = absurd (false≢true (sym h))
fits_tag d t _ h = tt

pub tables_tag : (t : ℕ) (k : Kind) → is_table_start k ≡ false → tables_with t k ≡ t
tables_tag t table_start h = absurd (false≢true (sym h))
tables_tag t _ h = refl

pub end_no_table : (e : Element) → is_table_start (kind_of_end e) ≡ false
end_no_table elements.Table = refl
end_no_table elements.Caption = refl
end_no_table elements.Colgroup = refl
end_no_table elements.Col = refl
end_no_table elements.Thead = refl
end_no_table elements.Tbody = refl
end_no_table elements.Tfoot = refl
end_no_table elements.Tr = refl
end_no_table elements.Td = refl
end_no_table elements.Th = refl
end_no_table elements.Br = refl
end_no_table elements.P = refl
end_no_table elements.Div = refl
end_no_table elements.Inline = refl
end_no_table elements.Outer = refl

-- a token that moves the table that is open
pub reads_inside : (outer : Vec Outer Global) (t new : OpenTable) (tables : ℕ) (k : Kind) → is_table_start k ≡ false →
    Moves t k new
    → Reads (Inside outer t) tables k (Inside outer new)
reads_inside outer t new tables k tag m = record {
  goes = ap (λ x. moved (holders outer.items) x) m.goes;
  alive = refl;
  fits = fits_tag (length (holders outer.items) + 1) tables k tag;
  same = λ later. ap (λ x. around outer.items ++ outcome new x later) (tables_tag tables k tag)
      ∙ ap (λ es. around outer.items ++ es) (m.adds.same tables later);
}

length-holders : (outer : List Outer) → length (holders outer) ≡ length outer
length-holders outer = simp (length-map, length-reverse)

-- a table that begins in a flow
pub reads_nested : (outer : Vec Outer Global) (holder : Holder) (flow : Flow) (tables : ℕ) (new : Reading) →
    Nests outer.items holder flow tables new
    → Reads (Inside outer (stages.Flow holder flow)) tables table_start new
reads_nested outer holder flow tables new n = record {
  goes = sym n.goes;
  alive = ap is_failed n.goes;
  fits = (let e = length-holders outer.items in let h = n.shallow in omega arith, n.few);
  same = λ later. n.same (tables + 1) later
      ∙ ap (λ es. around outer.items ++ es)
      (regroup (holder_so_far holder ++ blocks_outline flow.blocks) (paragraph_of (line_atoms flow.line [])) (table tables)
      (entries_of (tables + 1) later));
}
  where
    regroup : (a p : Entries) (x : Entry) (e : Entries) → ((a ++ p) ++ x ∷ []) ++ e ≡ a ++ (p ++ (x ∷ e))
    regroup a p x e = simp append_assoc

-- the first table
pub reads_first : (outer : Vec Outer Global) (tables : ℕ) → outer.items ≡ [] → tables ≡ 0 →
    Reads Before tables table_start (Inside outer (stages.Start tables))
reads_first outer tables none zero_tables = record {
  goes = ap (λ x. machine.inside machine.opened (holders x)) (sym none);
  alive = refl;
  fits = (lit< tt, omega arith);
  same = λ later. ap (λ x. around x ++ (table tables ∷ entries_of (tables + 1) later)) none;
}

-- a table that ends in a flow
pub leaves_flow : (outer rest : List Outer) (o : Outer) (t : OpenTable) (parts : Parts) (node : TableNode) (flow : Flow)
    (new : Reading)
    → outer ≡ rest ++ o ∷ [] → Adds (outcome t) (after_entries (parts_so_far parts)) (due (machine_place t)) →
    outline node ≡ parts_so_far parts ++ table_end ∷ []
    → blocks_outline flow.blocks ≡ blocks_outline o.blocks ++ outline node → flow.line.atoms ≡ [] → open_word flow.line ≡ []
    → state_of new ≡ machine.inside (machine.in_flow (holder_of o.holder)) (holders rest)
    → ((k : ℕ) (later : Marks) → outcome_of new k later ≡ around rest ++ in_flow (holder_so_far o.holder) flow k later)
    → Leaves outer t new
leaves_flow outer rest o t parts node flow new split adds whole blocks atoms word state same = record {
  goes = state ∙ ap (λ x. machine.table_left x) (sym (ap holders split ∙ holders-push rest o));
  same = λ k later.
      let e = entries_of k later in
      let h = holder_so_far o.holder in
      let b = blocks_outline o.blocks in
      let due_marks = due (machine_place t) in
      same k later
      ∙ ap (λ list. around rest ++ ((h ++ blocks_outline flow.blocks) ++
      (paragraph_of (atoms_from list (open_word flow.line) (leading later)) ++ entries_after k later))) atoms
      ∙ ap (λ w. around rest ++ ((h ++ blocks_outline flow.blocks) ++
      (paragraph_of (atoms_from [] w (leading later)) ++ entries_after k later))) word
      ∙ ap (λ list. around rest ++ ((h ++ blocks_outline flow.blocks) ++ (paragraph_of list ++ entries_after k later)))
      (read_none (leading later))
      ∙ ap (λ es. around rest ++ ((h ++ es) ++ e)) (blocks ∙ ap (λ es. b ++ es) whole)
      ∙ regroup (around rest) h b (parts_so_far parts) table_end e
      ∙ ap (λ es. es ++ (parts_so_far parts ++ (table_end ∷ e)))
      (sym (ap around split ∙ flat_map-push (λ o'. holder_so_far o'.holder ++ blocks_outline o'.blocks) rest o))
      ∙ ap (λ es. around outer ++ es) (adds.same k (table_ends ∷ later) ∙ ap (λ ms. outcome t k ms)
      (sym (append_assoc due_marks (table_ends ∷ []) later)));
}
  where
    regroup : (a h b p : Entries) (x : Entry) (e : Entries) →
        a ++ ((h ++ (b ++ (p ++ x ∷ []))) ++ e) ≡ (a ++ (h ++ b)) ++ (p ++ (x ∷ e))
    regroup a h b p x e = simp append_assoc

    holders-push : (rest : List Outer) (o : Outer) → holders (rest ++ o ∷ []) ≡ holder_of o.holder ∷ holders rest
    holders-push rest o = ap (λ os. map (λ o'. holder_of o'.holder) os) (reverse-append rest (o ∷ []))

pub start_no_table : (e : Element) (spans : Spans) → (e ≡ elements.Table → ⊥) → is_table_start (kind_of_start e spans) ≡ false
start_no_table elements.Table spans h = absurd (h refl)
start_no_table elements.Caption spans h = refl
start_no_table elements.Colgroup spans h = refl
start_no_table elements.Col spans h = refl
start_no_table elements.Thead spans h = refl
start_no_table elements.Tbody spans h = refl
start_no_table elements.Tfoot spans h = refl
start_no_table elements.Tr spans h = refl
start_no_table elements.Td spans h = refl
start_no_table elements.Th spans h = refl
start_no_table elements.Br spans h = refl
start_no_table elements.P spans h = refl
start_no_table elements.Div spans h = refl
start_no_table elements.Inline spans h = refl
start_no_table elements.Outer spans h = refl
