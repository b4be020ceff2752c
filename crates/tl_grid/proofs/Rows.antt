-- A row that is walked over the open blocks is the standard's row, up to the first overlap.
use Rattle.std.proofs.Common.{◌≡◌, ℕ, ◌+◌, ◌-◌, ◌<◌, ◌≤◌, max, Bool, true, false, ◌||◌, cond, ltb, eqb, List, [], ◌∷◌, ◌++◌, map}
use Rattle.std.proofs.Common.{length, Some, None}
use Rattle.std.proofs.Common.{refl, sym, ap, ◌∙◌, subst, inl, inr, arith, append_assoc, append-nil}
use Rattle.std.specs.List.{filter, AllByRecursion}
use Rattle.std.proofs.lemmas.Bool.{ltb-true, ltb-false, lt-ltb, eq-eqb, ne_eqb, cases_Bool, cases_eq, or_left, or_right}
use Rattle.std.proofs.lemmas.Bool.{cond-true, cond-false}
use Rattle.std.proofs.lemmas.List.{map-append, length-map}
use Rattle.std.proofs.lemmas.List.Elements.{filter-append}
use Rattle.tl_grid.specs.declared.shape.SpanOf.{SpanOf}
use Rattle.tl_grid.specs.declared.block.Block.{Block}
use Rattle.tl_grid.specs.Forming.{FormedCell, Forming, has_cell, first_free, initial_rowspan, anchored_cell, with_cell}
use Rattle.tl_grid.specs.Overlap.{numbers_over, IsBefore}
use Rattle.tl_grid.specs.inner.OpenBlocks.{reaches, Walk, hit}
use Rattle.tl_grid.specs.inner.Walk.{block_at, Row, row_with_cell, walk_of}
use Rattle.tl_grid.proofs.Chains.{spot, Chain, ChainTo, spot_in, spot_before, spot_from, filter_yes, filter_no, none_left}
use Rattle.tl_grid.proofs.Chains.{none_right, at_most_one}
use Rattle.tl_grid.proofs.Chains.{chain_append, chain_yes}
use Rattle.tl_grid.proofs.Passing.{some, BeginsAfter, Passes, passes, push_prefix}
use Rattle.tl_grid.proofs.Cells.{cell_of, AllQuiet, block_number, BeginsBy, numbers_here, has_cell_here, first_free_is}
use Rattle.tl_grid.proofs.Cells.{formed_cell}
use Rattle.tl_grid.proofs.Later.{with_cell_before}
use Rattle.tl_grid.specs.inner.States.{BlockEndsBy}

-- the blocks begin at column `right` or after it, and the first of them takes row y
abbrev pub BeginsFrom : ℕ → ℕ → List Block → Type 0
BeginsFrom y right [] = Unit {0}
BeginsFrom y right (b ∷ bs) = (reaches y b ≡ true) × (right ≤ b.left)

-- such a chain is one from that column on
chain_later : (y x right : ℕ) (bs : List Block) → BeginsFrom y right bs → Chain x (filter (reaches y) bs) →
    Chain right (filter (reaches y) bs)
chain_later y x right [] begins c = tt
chain_later y x right (b ∷ bs) begins c =
    let d : Chain x (b ∷ filter (reaches y) bs) = chain_yes x y b bs begins.0 c in
    let P : List Block → Type 0 = λ l. Chain right l in
    subst P (sym (filter_yes (reaches y) b bs begins.0)) (begins.1, d.1, d.2)

-- what begins after a column begins from the next one on
begins_next : (y x : ℕ) (bs : List Block) → BeginsAfter y x bs → BeginsFrom y (x + 1) bs
begins_next y x [] b = tt
begins_next y x (b ∷ bs) h = (h.0, omega (arith, h.1))

-- without a hit the blocks begin at the right edge or after it
no_hit : (y x right : ℕ) (bs : List Block) → BeginsAfter y x bs → hit bs right ≡ None → BeginsFrom y right bs
no_hit y x right [] h none = tt
no_hit y x right (b ∷ bs) h none =
    elim (cases_Bool (ltb b.left right)) [
      | inl e ↦ absurd (let some' : hit (b ∷ bs) right ≡ Some b = cond-true (ltb b.left right) (Some b) None e in cc)
      | inr e ↦ (h.0, ltb-false b.left right e)
    ]

-- a block has a slot, and lies within the table's width and height
abbrev pub IsSound : ℕ → ℕ → Block → Type 0
IsSound width height b = (b.left < b.right) × (b.right ≤ width) × (b.top < b.bottom) × (b.bottom ≤ height)

-- a sound block stays sound in a larger table
pub sound_on : (w w' h h' : ℕ) → w ≤ w' → h ≤ h' → (b : Block) → IsSound w h b → IsSound w' h' b
sound_on w w' h h' wide high b s = (s.0, omega (arith, s.1), s.2, omega (arith, s.3))

-- a row in the standard's steps and in the walk
pub record RowMatches (done : List FormedCell) (y : ℕ) (s : Forming) (r : Row) : Type 0 where
  pub cells : s.cells ≡ done ++ map (cell_of (y + 1)) r.blocks
  pub at_row : s.row ≡ y
  pub high : s.height ≡ r.height
  pub wide : r.column ≤ s.width
  pub within : AllByRecursion (BlockEndsBy s.width) (r.passed ++ r.ahead)
  pub tops : AllByRecursion (BeginsBy y) r.blocks
  pub sound : AllByRecursion (IsSound s.width r.height) r.blocks
  pub low : y < r.height
  pub same : (x' y' : ℕ) → y ≤ y' → filter (spot x' y') r.blocks ≡ filter (spot x' y') (r.passed ++ r.ahead)
  pub prefix : ChainTo 0 (filter (reaches y) r.passed) r.column
  pub rest : Chain r.column (filter (reaches y) r.ahead)
  pub past : (x' y' : ℕ) → y' < y → length (numbers_over x' y' s.cells) ≤ 1

-- what holds of all holds of the last
all_right : (P : Block → Type 0) (xs ys : List Block) → AllByRecursion P (xs ++ ys) → AllByRecursion P ys
all_right P [] ys a = a
all_right P (x ∷ xs) ys a = all_right P xs ys a.1

-- one more in the middle, or at the end
all_insert : (P : Block → Type 0) (xs : List Block) (b : Block) (ys : List Block) → P b → AllByRecursion P (xs ++ ys) →
    AllByRecursion P ((xs ++ b ∷ []) ++ ys)
all_insert P [] b ys h a = (h, a)
all_insert P (x ∷ xs) b ys h a = (a.0, all_insert P xs b ys h a.1)

-- one more at the end
all_push : (P : Block → Type 0) (xs : List Block) (b : Block) → P b → AllByRecursion P xs → AllByRecursion P (xs ++ b ∷ [])
all_push P [] b h a = (h, tt)
all_push P (x ∷ xs) b h a = (a.0, all_push P xs b h a.1)

-- a weaker fact holds of all too
pub all_weaken : (P Q : Block → Type 0) → ((b : Block) → P b → Q b) → (xs : List Block) → AllByRecursion P xs →
    AllByRecursion Q xs
all_weaken P Q f [] a = tt
all_weaken P Q f (x ∷ xs) a = (f x a.0, all_weaken P Q f xs a.1)

-- whether a slot of the row has a cell, by the open blocks
taken_here : (done : List FormedCell) (y : ℕ) (s : Forming) (r : Row) → AllQuiet y done → RowMatches done y s r →
    (x : ℕ) → has_cell x s.row s.cells ≡ some (filter (spot x y) (r.passed ++ r.ahead))
taken_here done y s r quiet m x =
    ap (λ cs. has_cell x s.row cs) m.cells ∙ ap (λ row. has_cell x row (done ++ map (cell_of (y + 1)) r.blocks)) m.at_row
    ∙ has_cell_here x y done r.blocks quiet m.tops ∙ ap some (m.same x y (omega arith))

-- no open block takes a column between the walk's and the next block
none_between : (y x : ℕ) (r : Row) (w : Walk) (right y' : ℕ) → Passes y r.column r.passed r.ahead w →
    BeginsFrom y right w.ahead → w.column ≤ x → x < right → y ≤ y' →
    filter (spot x y') (w.passed ++ w.ahead) ≡ []
none_between y x r w right y' p begins ge lt le =
    filter-append (spot x y') w.passed w.ahead
    ∙ ap (λ l. l ++ filter (spot x y') w.ahead) (none_right 0 w.column x y y' ge le w.passed p.prefix)
    ∙ none_left right x y y' lt le w.ahead (chain_later y w.column right w.ahead begins p.rest)

-- the walk comes to the column that the standard's steps come to
pub column_found : (done : List FormedCell) (y : ℕ) (s : Forming) (r : Row) → AllQuiet y done →
    RowMatches done y s r →
    first_free (λ column. has_cell column s.row s.cells) r.column (s.width - r.column) ≡ (walk_of y r).column
column_found done y s r quiet m =
    let w : Walk = walk_of y r in
    let p : Passes y r.column r.passed r.ahead w = passes y r.ahead r.column r.passed m.prefix m.rest in
    let wide : r.column ≤ s.width = m.wide in
    let on : r.column ≤ w.column = p.on in
    let within : w.column ≤ s.width = p.within s.width wide (all_right (BlockEndsBy s.width) r.passed r.ahead m.within) in
    first_free_is (λ column. has_cell column s.row s.cells) (s.width - r.column) r.column w.column on (omega arith)
    (λ x' le lt. taken_here done y s r quiet m x' ∙ p.taken x' le lt)
    (taken_here done y s r quiet m w.column ∙ ap some (sym (p.same w.column y (omega arith)))
    ∙ ap some (none_between y w.column r w (w.column + 1) y p (begins_next y w.column w.ahead p.begins) (omega arith)
    (omega arith) (omega arith)))

-- of two lists that make none the first is empty
nothing_left : (xs ys : List Block) → xs ++ ys ≡ [] → xs ≡ []
nothing_left [] ys e = refl
nothing_left (x ∷ xs) ys e = cc

-- and the second
nothing_right : (xs ys : List Block) → xs ++ ys ≡ [] → ys ≡ []
nothing_right [] ys e = e
nothing_right (x ∷ xs) ys e = cc

-- what a filter keeps after one more that passes
filter_push_yes : (p : Block → Bool) (bs : List Block) (b : Block) → p b ≡ true → filter p (bs ++ b ∷ []) ≡ filter p bs ++ b ∷ []
filter_push_yes p bs b e = filter-append p bs (b ∷ []) ∙ ap (λ l. filter p bs ++ l) (filter_yes p b [] e)

-- and after one more that does not
filter_push_no : (p : Block → Bool) (bs : List Block) (b : Block) → p b ≡ false → filter p (bs ++ b ∷ []) ≡ filter p bs
filter_push_no p bs b e = filter-append p bs (b ∷ []) ∙ ap (λ l. filter p bs ++ l) (filter_no p b [] e) ∙ append-nil (filter p bs)

-- one more block, where no other takes its slot
filter_insert : (p : Block → Bool) (xs : List Block) (b : Block) (ys bs : List Block) →
    filter p bs ≡ filter p (xs ++ ys) → (p b ≡ true → filter p (xs ++ ys) ≡ []) →
    filter p (bs ++ b ∷ []) ≡ filter p ((xs ++ b ∷ []) ++ ys)
filter_insert p xs b ys bs same none =
    elim (cases_Bool (p b)) [
      | inl e ↦
          let empty : filter p xs ++ filter p ys ≡ [] = sym (filter-append p xs ys) ∙ none e in
          filter_push_yes p bs b e ∙ ap (λ l. l ++ b ∷ []) (same ∙ none e)
          ∙ sym (filter-append p (xs ++ b ∷ []) ys
          ∙ ap (λ l. l ++ filter p ys) (filter_push_yes p xs b e ∙ ap (λ l. l ++ b ∷ [])
          (nothing_left (filter p xs) (filter p ys) empty))
          ∙ ap (λ l. (b ∷ []) ++ l) (nothing_right (filter p xs) (filter p ys) empty))
      | inr e ↦
          filter_push_no p bs b e ∙ same ∙ filter-append p xs ys
          ∙ sym (filter-append p (xs ++ b ∷ []) ys ∙ ap (λ l. l ++ filter p ys) (filter_push_no p xs b e))
    ]

-- the cell has a column
abbrev pub IsWide : SpanOf → Type 0
IsWide span = 0 < span.colspan

-- a cell takes the row in which it is formed
begins_here : (y n : ℕ) → (eqb n 0 || ltb y (y + cond (eqb n 0) 1 n)) ≡ true
begins_here y n =
    elim (cases_eq n 0) [
      | inl e ↦ or_left (eqb n 0) (ltb y (y + cond (eqb n 0) 1 n)) (eq-eqb n 0 e)
      | inr ne ↦
          or_right (eqb n 0) (ltb y (y + cond (eqb n 0) 1 n))
          (ap (λ t. ltb y (y + cond t 1 n)) (ne_eqb n 0 ne) ∙ lt-ltb y (y + n) (omega arith))
    ]

-- a cell has a row
pub rows_some : (y n : ℕ) → y < y + cond (eqb n 0) 1 n
rows_some y n =
    elim (cases_eq n 0) [
      | inl e ↦ (let t : eqb n 0 ≡ true = eq-eqb n 0 e in rw t (omega arith))
      | inr ne ↦ (let t : eqb n 0 ≡ false = ne_eqb n 0 ne in rw t (omega arith))
    ]

-- the cells after one more
placed_cells : (done : List FormedCell) (y number x : ℕ) (span : SpanOf) (s : Forming) (bs : List Block) →
    s.row ≡ y → s.cells ≡ done ++ map (cell_of (y + 1)) bs →
    (with_cell number x span s).cells ≡ done ++ map (cell_of (y + 1)) (bs ++ block_at number x y span ∷ [])
placed_cells done y number x span s bs at_row e =
    ap (λ cs. cs ++ anchored_cell number x s.row span ∷ []) e
    ∙ ap (λ row. (done ++ map (cell_of (y + 1)) bs) ++ anchored_cell number x row span ∷ []) at_row
    ∙ ap (λ c. (done ++ map (cell_of (y + 1)) bs) ++ c ∷ []) (formed_cell number x y span)
    ∙ append_assoc done (map (cell_of (y + 1)) bs) (cell_of (y + 1) (block_at number x y span) ∷ [])
    ∙ ap (λ l. done ++ l) (sym (map-append (cell_of (y + 1)) bs (block_at number x y span ∷ [])))

-- one more cell that runs into no block
pub row_step : (done : List FormedCell) (y number : ℕ) (span : SpanOf) (s : Forming) (r : Row) → AllQuiet y done →
    IsWide span → RowMatches done y s r →
    hit (walk_of y r).ahead ((walk_of y r).column + span.colspan) ≡ None →
    RowMatches done y (with_cell number (walk_of y r).column span s) (row_with_cell y number span r (walk_of y r))
row_step done y number span s r quiet wide m none =
    let w : Walk = walk_of y r in
    let p : Passes y r.column r.passed r.ahead w = passes y r.ahead r.column r.passed m.prefix m.rest in
    let b : Block = block_at number w.column y span in
    let right : ℕ = w.column + span.colspan in
    let begins : BeginsFrom y right w.ahead = no_hit y w.column right w.ahead p.begins none in
    let at_row : s.row ≡ y = m.at_row in
    let high : s.height ≡ r.height = m.high in
    let width : ℕ = max s.width right in
    let height : ℕ = max r.height (y + initial_rowspan span) in
    record {
      cells = placed_cells done y number w.column span s r.blocks m.at_row m.cells;
      at_row = at_row;
      high = ap (λ h. max h (s.row + initial_rowspan span)) high ∙ ap (λ row. max r.height (row + initial_rowspan span)) at_row;
      wide = omega arith;
      within = all_insert (BlockEndsBy width) w.passed b w.ahead (omega arith)
          (all_weaken (BlockEndsBy s.width) (BlockEndsBy width) (λ c h. omega arith) (w.passed ++ w.ahead)
          (p.kept s.width m.within));
      tops = all_push (BeginsBy y) r.blocks b (omega arith) m.tops;
      sound = all_push (IsSound width height) r.blocks b
          (omega arith, omega arith, rows_some y span.rowspan, omega arith)
          (all_weaken (IsSound s.width r.height) (IsSound width height)
          (sound_on s.width width r.height height (omega arith) (omega arith)) r.blocks m.sound);
      low = (let h : y < r.height = m.low in omega arith);
      same = λ x' y' le. filter_insert (spot x' y') w.passed b w.ahead r.blocks (m.same x' y' le ∙ sym (p.same x' y' le))
          (λ e. none_between y x' r w right y' p begins (spot_from x' y' b e) (spot_before x' y' b e) le);
      prefix = push_prefix y w.column w.passed b (begins_here y span.rowspan) p.prefix (omega arith) (omega arith);
      rest = chain_later y w.column right w.ahead begins p.rest;
      past = λ x' y' lt.
          let P : List ℕ → Type 0 = λ l. length l ≤ 1 in
          subst P (sym (with_cell_before number w.column span s x' y' (inl (omega arith)))) (m.past x' y' lt);
    }

-- where the walk runs into a block, that is the first ahead
pub hit_block : (y x right : ℕ) (bs : List Block) (b : Block) → BeginsAfter y x bs → hit bs right ≡ Some b →
    (rest : List Block) × ((bs ≡ b ∷ rest) × (reaches y b ≡ true) × (x < b.left) × (b.left < right))
hit_block y x right [] b begins e = cc
hit_block y x right (c ∷ cs) b begins e =
    elim (cases_Bool (ltb c.left right)) [
      | inl t ↦
          let found : hit (c ∷ cs) right ≡ Some c = cond-true (ltb c.left right) (Some c) None t in
          let same : c ≡ b = cc in
          let P : Block → Type 0 = λ d. (c ∷ cs ≡ d ∷ cs) × (reaches y d ≡ true) × (x < d.left) × (d.left < right) in
          (cs, subst P same (refl, begins.0, begins.1, ltb-true c.left right t))
      | inr f ↦ absurd (let none : hit (c ∷ cs) right ≡ None = cond-false (ltb c.left right) (Some c) None f in cc)
    ]

-- an overlap in row y stands in the cells as the first one
pub record IsFoundIn (cells : List FormedCell) (first second x y : ℕ) : Type 0 where
  pub two : numbers_over x y cells ≡ first ∷ second ∷ []
  pub before : (x' y' : ℕ) → IsBefore x' y' x y → length (numbers_over x' y' cells) ≤ 1

-- in the row that is formed no slot has two blocks
pub one_at_most_here : (done : List FormedCell) (y : ℕ) (s : Forming) (r : Row) (x : ℕ) → RowMatches done y s r →
    length (filter (spot x y) r.blocks) ≤ 1
one_at_most_here done y s r x m =
    let P : List Block → Type 0 = λ l. length l ≤ 1 in
    let Q : List Block → Type 0 = λ l. Chain 0 l in
    subst P (sym (m.same x y (omega arith)))
    (at_most_one 0 x y y (omega arith) (r.passed ++ r.ahead)
    (subst Q (sym (filter-append (reaches y) r.passed r.ahead))
    (chain_append 0 r.column (filter (reaches y) r.passed) (filter (reaches y) r.ahead) m.prefix m.rest)))

-- the blocks of the row's slots after one more cell
numbers_placed : (done : List FormedCell) (y number : ℕ) (span : SpanOf) (s : Forming) (r : Row) (x x' : ℕ) →
    AllQuiet y done → RowMatches done y s r →
    numbers_over x' y (with_cell number x span s).cells ≡ map block_number
    (filter (spot x' y) (r.blocks ++ block_at number x y span ∷ []))
numbers_placed done y number span s r x x' quiet m =
    ap (numbers_over x' y) (placed_cells done y number x span s r.blocks m.at_row m.cells)
    ∙ numbers_here x' y done (r.blocks ++ block_at number x y span ∷ []) quiet
    (all_push (BeginsBy y) r.blocks (block_at number x y span) (omega arith) m.tops)

-- up to the block that a cell runs into no slot has two cells
before_overlap : (done : List FormedCell) (y number : ℕ) (span : SpanOf) (s : Forming) (r : Row) (right : ℕ) →
    AllQuiet y done → RowMatches done y s r → BeginsFrom y right (walk_of y r).ahead → (x' y' : ℕ) →
    IsBefore x' y' right y →
    length (numbers_over x' y' (with_cell number (walk_of y r).column span s).cells) ≤ 1
before_overlap done y number span s r right quiet m begins x' y' (inl above) =
    let w : Walk = walk_of y r in
    let at_row : s.row ≡ y = m.at_row in
    let P : List ℕ → Type 0 = λ l. length l ≤ 1 in
    subst P (sym (with_cell_before number w.column span s x' y' (inl (omega arith)))) (m.past x' y' above)
before_overlap done y number span s r right quiet m begins x' y' (inr (same, left)) =
    let w : Walk = walk_of y r in
    let c : Block = block_at number w.column y span in
    let p : Passes y r.column r.passed r.ahead w = passes y r.ahead r.column r.passed m.prefix m.rest in
    let cells : List FormedCell = (with_cell number w.column span s).cells in
    let P : List ℕ → Type 0 = λ l. length l ≤ 1 in
    let Q : List Block → Type 0 = λ l. length (map block_number l) ≤ 1 in
    subst P (sym (ap (λ row. numbers_over x' row cells) same ∙ numbers_placed done y number span s r w.column x' quiet m))
    (elim (cases_Bool (spot x' y c)) [
      | inl e ↦
          let none : filter (spot x' y) r.blocks ≡ [] =
          m.same x' y (omega arith) ∙ sym (p.same x' y (omega arith))
          ∙ none_between y x' r w right y p begins (spot_from x' y c e) left (omega arith) in
          subst Q (sym (filter_push_yes (spot x' y) r.blocks c e ∙ ap (λ l. l ++ c ∷ []) none)) (omega arith)
      | inr e ↦
          let one : length (filter (spot x' y) r.blocks) ≤ 1 = one_at_most_here done y s r x' m in
          subst Q (sym (filter_push_no (spot x' y) r.blocks c e))
          (rw (length-map (filter (spot x' y) r.blocks) block_number) one)
    ])

-- a cell that runs into a block overlaps it where that begins
pub row_overlap : (done : List FormedCell) (y number : ℕ) (span : SpanOf) (s : Forming) (r : Row) (b : Block) →
    AllQuiet y done → IsWide span → RowMatches done y s r →
    hit (walk_of y r).ahead ((walk_of y r).column + span.colspan) ≡ Some b →
    IsFoundIn (with_cell number (walk_of y r).column span s).cells b.number number b.left y
row_overlap done y number span s r b quiet wide m found =
    let w : Walk = walk_of y r in
    let p : Passes y r.column r.passed r.ahead w = passes y r.ahead r.column r.passed m.prefix m.rest in
    let c : Block = block_at number w.column y span in
    let at_row : s.row ≡ y = m.at_row in
    let (rest, is) = hit_block y w.column (w.column + span.colspan) w.ahead b p.begins found in
    let past : w.column < b.left = is.2 in
    let within : b.left < w.column + span.colspan = is.3 in
    let P : List Block → Type 0 = λ l. Chain w.column (filter (reaches y) l) in
    let chain : Chain w.column (b ∷ filter (reaches y) rest) = chain_yes w.column y b rest is.1 (subst P is.0 p.rest) in
    let Q : List Block → Type 0 = λ l. BeginsFrom y b.left l in
    let begins : BeginsFrom y b.left w.ahead = subst Q (sym is.0) (is.1, omega arith) in
    let alone : filter (spot b.left y) r.blocks ≡ b ∷ [] =
    m.same b.left y (omega arith) ∙ sym (p.same b.left y (omega arith))
    ∙ filter-append (spot b.left y) w.passed w.ahead
    ∙ ap (λ l. l ++ filter (spot b.left y) w.ahead) (none_right 0 w.column b.left y y (omega arith) (omega arith)
    w.passed p.prefix)
    ∙ ap (filter (spot b.left y)) is.0
    ∙ filter_yes (spot b.left y) b rest (spot_in b.left y b (omega arith) chain.1 is.1)
    ∙ ap (λ l. b ∷ l) (none_left b.right b.left y y chain.1 (omega arith) rest chain.2) in
    record {
      two = numbers_placed done y number span s r w.column b.left quiet m
          ∙ ap (map block_number) (filter_push_yes (spot b.left y) r.blocks c
          (spot_in b.left y c (omega arith) within (begins_here y span.rowspan))
          ∙ ap (λ l. l ++ c ∷ []) alone);
      before = before_overlap done y number span s r b.left quiet m begins;
    }
