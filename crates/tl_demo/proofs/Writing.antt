-- Text that is written piece by piece: what is written, with the text of what is left to draw, stays the whole.
use Rattle.std.proofs.Common.{◌≡◌, ℕ, zero, suc, ◌+◌, ◌-◌, ◌<◌, ◌≤◌, ◌==◌, ◌⊎◌, inl, inr, false, List, ◌∷◌, ◌++◌, refl, sym, ap}
use Rattle.std.proofs.Common.{subst, ◌∙◌}
use Rattle.std.proofs.Common.{append_assoc, append-nil, arith}
use Rattle.std.specs.List.{flat_map}
use Rattle.std.proofs.lemmas.Bool.Decides.{nat_tests}
use Rattle.tl_demo.specs.Demo.{Drawn, DemoCell, cell_from, cell_before, drawn_number, next_state, words_from}
use Rattle.tl_demo.specs.Demo.{cell_words_from, cells_from}
use Rattle.tl_demo.specs.Demo.{rows_from}
use Rattle.tl_demo.specs.Demo.{words_text, tag_text, cell_text, row_text}
use Rattle.tl_demo.specs.inner.Writing.{colspan_of, next_word_text, next_words_text}

-- what is written after the pieces so far, and the texts of the others, is the text of all
written_piece : {X : Type 0} (f : X → List ℕ) (x : X) (xs : List X) (out new : List ℕ) → new ≡ out ++ f x →
    new ++ flat_map f xs ≡ out ++ flat_map f (x ∷ xs)
written_piece f x xs out new is = ap (λ text. text ++ flat_map f xs) is ∙ append_assoc out (f x) (flat_map f xs)

-- the words that are left end the text and the state
pub record WordsLeft (count state : ℕ) (out text : List ℕ) (end : ℕ) : Type 0 where
  pub text_is : out ++ next_words_text (words_from count state).value ≡ text
  pub state_is : (words_from count state).state ≡ end

-- a word is written of those left
pub word_written : (count state : ℕ) (out new text : List ℕ) (end : ℕ) → new ≡ out ++ next_word_text (1 + drawn_number 8 state) →
    WordsLeft (suc count) state out text end → WordsLeft count (next_state state) new text end
word_written count state out new text end is left = record {
  text_is = written_piece next_word_text (1 + drawn_number 8 state)
      (words_from count (next_state state)).value out new is ∙ left.text_is;
  state_is = left.state_is;
}

-- the cells that are left end the text and the state
pub record CellsLeft (columns state : ℕ) (out text : List ℕ) (end : ℕ) : Type 0 where
  pub text_is : out ++ flat_map cell_text (cells_from columns state).value ≡ text
  pub state_is : (cells_from columns state).state ≡ end

-- the cells over the columns left, by whether the first is over two of them
narrow_cell_from : (columns state : ℕ) → ¬ (drawn_number 5 state ≡ 0) →
    cells_from (suc columns) state ≡ cell_before (cells_from columns) 1 (next_state state)
unfolding cells_from
narrow_cell_from zero state drawn_more = refl
narrow_cell_from (suc columns) state drawn_more =
    let test : (drawn_number 5 state == 0) ≡ false = grind (arith, nat_tests, drawn_more) in rw test

-- the last column takes one cell, whatever is drawn
last_cell_from : (state : ℕ) → cells_from 1 state ≡ cell_before (cells_from 0) 1 (next_state state)
unfolding cells_from
last_cell_from state = refl

-- a cell over two columns, and those after it
wide_cell_from : (columns state : ℕ) → drawn_number 5 state ≡ 0 →
    cells_from (suc (suc columns)) state ≡ cell_before (cells_from columns) 2 (next_state state)
unfolding cells_from
wide_cell_from columns state drawn_zero = rw drawn_zero

-- a cell is written of which the cells left are made
cell_written : (columns others colspan state : ℕ) (out new text : List ℕ) (end : ℕ) →
    cells_from columns state ≡ cell_before (cells_from others) colspan (next_state state) →
    new ≡ out ++ (tag_text colspan ++ words_text (cell_words_from (next_state state)).value) →
    CellsLeft columns state out text end → CellsLeft others (cell_words_from (next_state state)).state new text end
cell_written columns others colspan state out new text end made is left =
    let cell : DemoCell = (cell_from colspan (next_state state)).value in
    record {
      text_is = written_piece cell_text cell (cells_from others (cell_words_from (next_state state)).state).value out new is
          ∙ ap (λ (cells : Drawn (List DemoCell)). out ++ flat_map cell_text cells.value) (sym made) ∙ left.text_is;
      state_is = ap (λ (cells : Drawn (List DemoCell)). cells.state) (sym made) ∙ left.state_is;
    }

-- a cell over two columns is written
pub wide_cell_written : (columns state : ℕ) (out new text : List ℕ) (end : ℕ) → 2 ≤ columns → drawn_number 5 state ≡ 0 →
    new ≡ out ++ (tag_text 2 ++ words_text (cell_words_from (next_state state)).value) →
    CellsLeft columns state out text end → CellsLeft (columns - 2) (cell_words_from (next_state state)).state new text end
wide_cell_written zero state out new text end some drawn_zero is left = absurd (omega (arith, some))
wide_cell_written (suc zero) state out new text end some drawn_zero is left = absurd (omega (arith, some))
wide_cell_written (suc (suc columns)) state out new text end some drawn_zero is left =
    let e : suc (suc columns) - 2 ≡ columns = omega arith in
    subst (λ others. CellsLeft others (cell_words_from (next_state state)).state new text end) (sym e)
    (cell_written (suc (suc columns)) columns 2 state out new text end (wide_cell_from columns state drawn_zero) is left)

-- a cell over one column is written
pub narrow_cell_written : (columns state : ℕ) (out new text : List ℕ) (end : ℕ) → 0 < columns →
    (¬ (drawn_number 5 state ≡ 0)) ⊎ (columns < 2) →
    new ≡ out ++ (tag_text 1 ++ words_text (cell_words_from (next_state state)).value) →
    CellsLeft columns state out text end → CellsLeft (columns - 1) (cell_words_from (next_state state)).state new text end
narrow_cell_written zero state out new text end some why is left = absurd (omega (arith, some))
narrow_cell_written (suc columns) state out new text end some (inl drawn_more) is left =
    let e : suc columns - 1 ≡ columns = omega arith in
    subst (λ others. CellsLeft others (cell_words_from (next_state state)).state new text end) (sym e)
    (cell_written (suc columns) columns 1 state out new text end (narrow_cell_from columns state drawn_more) is left)
narrow_cell_written (suc zero) state out new text end some (inr last) is left =
    cell_written 1 0 1 state out new text end (last_cell_from state) is left
narrow_cell_written (suc (suc columns)) state out new text end some (inr last) is left = absurd (omega (arith, last))

-- a cell is over two columns, or over one
either_colspan : (draw columns : ℕ) → ((draw ≡ 0) × (2 ≤ columns)) ⊎ ((¬ (draw ≡ 0)) ⊎ (columns < 2))
either_colspan zero zero = inr (inr (omega arith))
either_colspan zero (suc zero) = inr (inr (omega arith))
either_colspan zero (suc (suc columns)) = inl (refl, omega arith)
either_colspan (suc draw) columns = inr (inl (λ same. omega (arith, same)))

colspan_wide : (draw columns : ℕ) → draw ≡ 0 → 2 ≤ columns → colspan_of draw columns ≡ 2
colspan_wide draw columns none some = grind (arith, nat_tests, none, some)

colspan_narrow : (draw columns : ℕ) → (¬ (draw ≡ 0)) ⊎ (columns < 2) → colspan_of draw columns ≡ 1
colspan_narrow draw columns (inl more) = grind (arith, nat_tests, more)
colspan_narrow draw columns (inr last) = grind (arith, nat_tests, last)

-- after a cell is written the columns that it is not over are left
pub next_cell_written : (columns state : ℕ) (out new text : List ℕ) (end : ℕ) → 0 < columns →
    new ≡ out ++ (tag_text (colspan_of (drawn_number 5 state) columns) ++ words_text (cell_words_from (next_state state)).value) →
    CellsLeft columns state out text end →
    CellsLeft (columns - colspan_of (drawn_number 5 state) columns) (cell_words_from (next_state state)).state new text end
next_cell_written columns state out new text end some is left =
    let W : ℕ → List ℕ = λ colspan. out ++ (tag_text colspan ++ words_text (cell_words_from (next_state state)).value) in
    let L : ℕ → Type 0 = λ colspan. CellsLeft (columns - colspan) (cell_words_from (next_state state)).state new text end in
    elim (either_colspan (drawn_number 5 state) columns) [
      | inl wide ↦
          let colspan = colspan_wide (drawn_number 5 state) columns wide.0 wide.1 in
          subst L (sym colspan) (wide_cell_written columns state out new text end wide.1 wide.0 (is ∙ ap W colspan) left)
      | inr narrow ↦
          let colspan = colspan_narrow (drawn_number 5 state) columns narrow in
          subst L (sym colspan) (narrow_cell_written columns state out new text end some narrow (is ∙ ap W colspan) left)
    ]

-- the same columns and the same state are left
pub same_cells_left : (columns columns' state state' : ℕ) (out text : List ℕ) (end : ℕ) → columns ≡ columns' → state ≡ state' →
    CellsLeft columns state out text end → CellsLeft columns' state' out text end
same_cells_left columns columns' state state' out text end same_columns same_state left =
    subst (λ s. CellsLeft columns' s out text end) same_state (subst (λ n. CellsLeft n state out text end) same_columns left)

-- no columns are left
pub cells_end : (columns state : ℕ) (out text : List ℕ) (end : ℕ) → columns ≡ 0 → CellsLeft columns state out text end →
    (out ≡ text) × (state ≡ end)
unfolding cells_from
cells_end columns state out text end none left =
    let last = subst (λ n. CellsLeft n state out text end) none left in
    (sym (append-nil out) ∙ last.text_is, last.state_is)

-- the rows that are left end the text
abbrev pub RowsLeft : ℕ → ℕ → List ℕ → List ℕ → Type 0
RowsLeft count state out text = out ++ flat_map row_text (rows_from count state).value ≡ text

-- a row is written of those left
pub row_written : (count state : ℕ) (out new text : List ℕ) → new ≡ out ++ row_text (cells_from 6 state).value →
    RowsLeft (suc count) state out text → RowsLeft count (cells_from 6 state).state new text
unfolding rows_from
row_written count state out new text is left =
    written_piece row_text (cells_from 6 state).value (rows_from count (cells_from 6 state).state).value out new is ∙ left

-- no row is left
pub rows_end : (count state : ℕ) (out text : List ℕ) → count ≡ 0 → RowsLeft count state out text → out ≡ text
unfolding rows_from
rows_end count state out text none left = sym (append-nil out) ∙ subst (λ n. RowsLeft n state out text) none left
