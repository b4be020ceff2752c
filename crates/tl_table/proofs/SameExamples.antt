-- When drawn tables are the same: what their boxes hold counts, and not the boxes. The inner table has two columns, and one
-- cell in the left column (`here`), in the right one (`there`), or with two words (`longer`).
--
--   here       there      longer        outer
--   |a| |      | |a|      |a a| |       |a     |
--                                       ||a| | |   (the inner table in a box)
use Rattle.std.proofs.Common.{◌≡◌, ℕ, zero, suc, List, [], ◌∷◌, codes, length, refl, sym, ap, subst, arith, false}
use Rattle.std.proofs.Common.{None}
use Rattle.std.specs.declared.alloc.Global.{Global}
use Rattle.std.specs.declared.boxed.Box.{Box}
use Rattle.tl_grid.specs.declared.shape.Place.{Place}
use Rattle.tl_text.specs.declared.paragraph.Atom.{Atom}
use Rattle.tl_text.specs.declared.paragraph.Atom.TheVariants.{Word}
use Rattle.tl_table.specs.declared.cell.Content.{Content, out-Content, roll-Content, out-roll-Content}
use Rattle.tl_table.specs.declared.cell.Content.TheOpen as open_content
use Rattle.tl_table.specs.declared.cell.Kind.TheVariants as kinds
use Rattle.tl_table.specs.declared.cell.Table.{Table, out-Table, roll-Table, out-roll-Table}
use Rattle.tl_table.specs.declared.cell.TableCell.{out-TableCell, roll-TableCell, out-roll-TableCell}
use Rattle.tl_table.specs.Same.{AreSameContent, AreSameCell, AreSameBy, AreSameWithin, AreSame}
use Rattle.tl_table.specs.Tables.{OpenTable, OpenCell, OpenContent}

-- ---- a table, a cell and a block by their fields

module _ (same : Table → Table → Type 0) where
  content_opened : (c d : OpenContent) → AreSameContent same (out-Content (roll-Content c)) (out-Content (roll-Content d)) →
      AreSameContent same c d
  content_opened c d is =
      subst (λ (x : OpenContent). AreSameContent same x d) (out-roll-Content c)
      (subst (λ (x : OpenContent). AreSameContent same (out-Content (roll-Content c)) x) (out-roll-Content d) is)

  content_rolled : (c d : OpenContent) → AreSameContent same c d →
      AreSameContent same (out-Content (roll-Content c)) (out-Content (roll-Content d))
  content_rolled c d is =
      subst (λ (x : OpenContent). AreSameContent same x (out-Content (roll-Content d))) (sym (out-roll-Content c))
      (subst (λ (x : OpenContent). AreSameContent same c x) (sym (out-roll-Content d)) is)

  cell_opened : (c d : OpenCell) → AreSameCell same (out-TableCell (roll-TableCell c)) (out-TableCell (roll-TableCell d)) →
      AreSameCell same c d
  cell_opened c d is =
      subst (λ (x : OpenCell). AreSameCell same x d) (out-roll-TableCell c)
      (subst (λ (x : OpenCell). AreSameCell same (out-TableCell (roll-TableCell c)) x) (out-roll-TableCell d) is)

  cell_rolled : (c d : OpenCell) → AreSameCell same c d → AreSameCell same (out-TableCell (roll-TableCell c))
      (out-TableCell (roll-TableCell d))
  cell_rolled c d is =
      subst (λ (x : OpenCell). AreSameCell same x (out-TableCell (roll-TableCell d))) (sym (out-roll-TableCell c))
      (subst (λ (x : OpenCell). AreSameCell same c x) (sym (out-roll-TableCell d)) is)

  table_opened : (s t : OpenTable) → AreSameBy same (out-Table (roll-Table s)) (out-Table (roll-Table t)) → AreSameBy same s t
  table_opened s t is =
      subst (λ (x : OpenTable). AreSameBy same x t) (out-roll-Table s)
      (subst (λ (x : OpenTable). AreSameBy same (out-Table (roll-Table s)) x) (out-roll-Table t) is)

  table_rolled : (s t : OpenTable) → AreSameBy same s t → AreSameBy same (out-Table (roll-Table s)) (out-Table (roll-Table t))
  table_rolled s t is =
      subst (λ (x : OpenTable). AreSameBy same x (out-Table (roll-Table t))) (sym (out-roll-Table s))
      (subst (λ (x : OpenTable). AreSameBy same s x) (sym (out-roll-Table t)) is)

-- ---- the tables

abbrev a : Atom
a = Word (codes "a")

abbrev left : Place
left = record { left = 0; right = 1; top = 0; bottom = 1 }

abbrev right : Place
right = record { left = 1; right = 2; top = 0; bottom = 1 }

abbrev cell : Place → List Content → OpenCell
cell place blocks = record { kind = kinds.Plain; in_head = false; place = place; least = 0; align = None; blocks = blocks }

abbrev words : List Atom → OpenContent
words paragraph = open_content.Para paragraph

-- an inner table with one cell
abbrev inner : Place → List Atom → OpenTable
inner place paragraph = record {
  number = 1;
  cols = 2;
  rows = 1;
  cells = roll-TableCell (cell place (roll-Content (words paragraph) ∷ [])) ∷ [];
}

abbrev here : OpenTable
here = inner left (a ∷ [])

abbrev there : OpenTable
there = inner right (a ∷ [])

abbrev longer : OpenTable
longer = inner left (a ∷ a ∷ [])

-- a table with one cell, in it a paragraph above this block
abbrev stacked : OpenContent → OpenCell
stacked block = cell left (roll-Content (words (a ∷ [])) ∷ roll-Content block ∷ [])

abbrev outer : OpenContent → OpenTable
outer block = record { number = 0; cols = 1; rows = 1; cells = roll-TableCell (stacked block) ∷ [] }

abbrev boxed : Box Table Global → OpenTable
boxed box = outer (open_content.Table box)

-- ---- two boxes that hold the same table make the same table

here_itself : AreSameWithin 1 (roll-Table here) (roll-Table here)
here_itself = table_rolled (AreSameWithin 0) here here (record {
  number = refl;
  cols = refl;
  rows = refl;
  cells = (
    cell_rolled (AreSameWithin 0) (cell left (roll-Content (words (a ∷ [])) ∷ []))
        (cell left (roll-Content (words (a ∷ [])) ∷ [])) (record {
          kind = refl;
          in_head = refl;
          place = refl;
          least = refl;
          align = refl;
          blocks = (content_rolled (AreSameWithin 0) (words (a ∷ [])) (words (a ∷ [])) refl, tt);
        }),
    tt,
  );
})

boxes_apart : (one other : Box Table Global) → one.value ≡ roll-Table here → other.value ≡ roll-Table here →
    AreSame (roll-Table (boxed one)) (roll-Table (boxed other))
boxes_apart one other is are = (
  2,
  table_rolled (AreSameWithin 1) (boxed one) (boxed other) (record {
    number = refl;
    cols = refl;
    rows = refl;
    cells = (
      cell_rolled (AreSameWithin 1) (stacked (open_content.Table one)) (stacked (open_content.Table other)) (record {
        kind = refl;
        in_head = refl;
        place = refl;
        least = refl;
        align = refl;
        blocks = (
          content_rolled (AreSameWithin 1) (words (a ∷ [])) (words (a ∷ [])) refl,
          (
            content_rolled (AreSameWithin 1) (open_content.Table one) (open_content.Table other)
                (subst (λ t. AreSameWithin 1 t other.value) (sym is)
                (subst (AreSameWithin 1 (roll-Table here)) (sym are) here_itself)),
            tt,
          ),
        );
      }),
      tt,
    );
  }),
)

-- ---- tables that are not the same

-- the one cell of two inner tables that are the same
module _ (depth : ℕ) (p q : Place) (us vs : List Atom) (same : AreSameWithin (suc depth) (roll-Table (inner p us))
    (roll-Table (inner q vs))) where
  one_cell : AreSameCell (AreSameWithin depth) (cell p (roll-Content (words us) ∷ [])) (cell q (roll-Content (words vs) ∷ []))
  one_cell =
      cell_opened (AreSameWithin depth) (cell p (roll-Content (words us) ∷ [])) (cell q (roll-Content (words vs) ∷ []))
      (table_opened (AreSameWithin depth) (inner p us) (inner q vs) same).cells.0

  one_paragraph : AreSameContent (AreSameWithin depth) (words us) (words vs)
  one_paragraph = content_opened (AreSameWithin depth) (words us) (words vs) one_cell.blocks.0

-- one whose cell lies elsewhere
not_elsewhere : (depth : ℕ) → AreSameWithin depth (roll-Table here) (roll-Table there) → ⊥
not_elsewhere zero same = same
not_elsewhere (suc depth) same =
    omega (arith, ap (λ (p : Place). p.left) (one_cell depth left right (a ∷ []) (a ∷ []) same).place)

-- one whose cell has another paragraph
not_longer : (depth : ℕ) → AreSameWithin depth (roll-Table here) (roll-Table longer) → ⊥
not_longer zero same = same
not_longer (suc depth) same = omega (arith, ap length (one_paragraph depth left left (a ∷ []) (a ∷ a ∷ []) same))

-- the second block of two outer tables that are the same
second_block : (depth : ℕ) (c d : OpenContent) → AreSameWithin (suc depth) (roll-Table (outer c)) (roll-Table (outer d)) →
    AreSameContent (AreSameWithin depth) c d
second_block depth c d same =
    content_opened (AreSameWithin depth) c d
    (cell_opened (AreSameWithin depth) (stacked c) (stacked d)
    (table_opened (AreSameWithin depth) (outer c) (outer d) same).cells.0).blocks.1.0

-- one with a table in a box where the other has a paragraph
not_boxed : (box : Box Table Global) (depth : ℕ) → AreSameWithin depth (roll-Table (outer (words (a ∷ []))))
    (roll-Table (boxed box)) → ⊥
not_boxed box zero same = same
not_boxed box (suc depth) same = second_block depth (words (a ∷ [])) (open_content.Table box) same

-- one whose box holds another table
module _ (one other : Box Table Global) (is : one.value ≡ roll-Table here) (are : other.value ≡ roll-Table longer) where
  not_in_boxes : (depth : ℕ) → AreSameWithin depth (roll-Table (boxed one)) (roll-Table (boxed other)) → ⊥
  not_in_boxes zero same = same
  not_in_boxes (suc depth) same =
      not_longer depth (subst (λ t. AreSameWithin depth t (roll-Table longer)) is
      (subst (AreSameWithin depth one.value) are (second_block depth (open_content.Table one) (open_content.Table other) same)))
