-- When a tree is sound: what `tree` gives, and what every call that takes a tree may count on.
-- The ranges of the spans are those of the HTML Standard, 4.9.11.
use Rattle.std.specs.Prelude.{◌≡◌, ◌<◌, ◌≤◌, ℕ, ◌+◌, ◌-◌, false, List, [], ◌∷◌, sum_by}
use Rattle.std.specs.List.{AllByRecursion, list_any}
use Rattle.tl_base.specs.declared.limits.TheConstants.{MAX_FILE_BYTES, MAX_COLSPAN, MAX_ROWSPAN, MAX_PAGE_WIDTH, MAX_DEPTH}
use Rattle.tl_base.specs.declared.limits.TheConstants.{MAX_TABLES}
use Rattle.tl_base.specs.declared.limits.TheConstants.{MAX_DECLARED_COLUMNS}
use Rattle.tl_token.specs.Characters.{is_control}
use Rattle.tl_text.specs.declared.paragraph.Atom.{Atom}
use Rattle.tl_text.specs.declared.paragraph.Atom.TheVariants as atoms
use Rattle.tl_text.specs.Paragraph.{IsParagraph, atom_size}
use Rattle.tl_tree.specs.Outline.{Entry, Entries, table, columns, row, cell, paragraph, table_end, outline}
use Rattle.tl_tree.specs.declared.node.TableNode.{TableNode}

-- the tables are numbered in the order in which they begin, from that number on
abbrev pub IsNumberedFrom : ℕ → Entries → Type 0
IsNumberedFrom k [] = Unit {0}
IsNumberedFrom k (table number ∷ entries) = (number ≡ k) × IsNumberedFrom (k + 1) entries
IsNumberedFrom k (_ ∷ entries) = IsNumberedFrom k entries

-- so many tables begin
abbrev pub table_count : Entries → ℕ
table_count [] = 0
table_count (table number ∷ entries) = table_count entries + 1
table_count (_ ∷ entries) = table_count entries

-- no table begins inside so many others, where that many are open already
abbrev pub IsNestedBelow : ℕ → ℕ → Entries → Type 0
IsNestedBelow most depth [] = Unit {0}
IsNestedBelow most depth (table number ∷ entries) = (depth < most) × IsNestedBelow most (depth + 1) entries
IsNestedBelow most depth (table_end ∷ entries) = IsNestedBelow most (depth - 1) entries
IsNestedBelow most depth (_ ∷ entries) = IsNestedBelow most depth entries

-- an atom of a tree: a whole word without a control character, or a break
abbrev pub IsPlainAtom : Atom → Type 0
IsPlainAtom (atoms.Word text) = list_any is_control text ≡ false
IsPlainAtom (atoms.Glue text) = ⊥
IsPlainAtom atoms.Break = Unit {0}

-- the numbers of a cell are in their ranges: at least one column, and no number above its limit
pub record IsCellInRange (colspan rowspan least : ℕ) : Type 0 where
  pub some_column : 0 < colspan
  pub few_columns : colspan ≤ MAX_COLSPAN
  pub few_rows : rowspan ≤ MAX_ROWSPAN
  pub narrow : least ≤ MAX_PAGE_WIDTH

-- a paragraph of whole words without control characters
pub record IsPlainParagraph (p : List Atom) : Type 0 where
  pub is_paragraph : IsParagraph p
  pub plain : AllByRecursion IsPlainAtom p

-- the numbers of an entry are in their ranges, and a paragraph has whole words without control characters
abbrev pub IsEntryInRange : Entry → Type 0
IsEntryInRange (cell head colspan rowspan least align) = IsCellInRange colspan rowspan least
IsEntryInRange (columns n) = n ≤ MAX_DECLARED_COLUMNS
IsEntryInRange (paragraph p) = IsPlainParagraph p
IsEntryInRange _ = Unit {0}

-- what an entry counts towards the size of a tree: a paragraph the bytes of its words and 1 for each
-- break, a cell, a row and a table 1
abbrev pub entry_size : Entry → ℕ
entry_size (table number) = 1
entry_size row = 1
entry_size (cell head colspan rowspan least align) = 1
entry_size (paragraph p) = sum_by atom_size p
entry_size _ = 0

-- Entries whose numbers are in their ranges and whose sizes sum to at most that of a file. It holds
-- of the outline of each part of a sound tree.
pub record AreSound (entries : Entries) : Type 0 where
  pub in_range : AllByRecursion IsEntryInRange entries
  pub size : sum_by entry_size entries ≤ MAX_FILE_BYTES

-- A sound tree: besides, its tables are numbered from 0 by their start tags, there are at most `MAX_TABLES` of
-- them, and none is inside `MAX_DEPTH` others.
pub record IsSound (node : TableNode) : Type 0 where
  pub numbered : IsNumberedFrom 0 (outline node)
  pub few_tables : table_count (outline node) ≤ MAX_TABLES
  pub shallow : IsNestedBelow MAX_DEPTH 0 (outline node)
  pub sound : AreSound (outline node)
