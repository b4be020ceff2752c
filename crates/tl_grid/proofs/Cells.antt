-- The definition's cells beside the blocks: which cells lie over a slot.
use Rattle.std.proofs.Common.{◌≡◌, ℕ, ◌+◌, ◌<◌, ◌≤◌, zero, suc, Bool, true, false, ◌&&◌, ◌||◌, cond, ltb, leb, eqb, List, [], ◌∷◌}
use Rattle.std.proofs.Common.{◌++◌, map, refl}
use Rattle.std.proofs.Common.{sym, ap, ◌∙◌, inl, inr, arith}
use Rattle.std.specs.List.{filter, AllByRecursion}
use Rattle.std.proofs.lemmas.Bool.{lt-ltb, le-ltb, le-leb, eq-eqb, ne_eqb, cases_Bool, cases_lt, cases_eq, cond-true, cond-false}
use Rattle.std.proofs.lemmas.Bool.{and_right}
use Rattle.std.proofs.lemmas.List.{map-append}
use Rattle.std.proofs.lemmas.List.Elements.{filter-append}
use Rattle.tl_grid.specs.declared.shape.SpanOf.{SpanOf}
use Rattle.tl_grid.specs.declared.block.Block.{Block}
use Rattle.tl_grid.specs.Forming.{FormedCell, covers, has_cell, first_free, anchored_cell, grown_into}
use Rattle.tl_grid.specs.Overlap.{cells_over, numbers_over}
use Rattle.tl_grid.specs.inner.OpenBlocks.{reaches}
use Rattle.tl_grid.specs.inner.Walk.{block_at}
use Rattle.tl_grid.proofs.Chains.{spot, filter_yes, filter_no}
use Rattle.tl_grid.proofs.Passing.{some, any_is_some}

-- the cell of a block, as it stands when the rows above row y are formed: a growing cell covers all
-- of them from its top on
abbrev pub cell_of : ℕ → Block → FormedCell
cell_of y b = record {
  number = b.number;
  left = b.left;
  right = b.right;
  top = b.top;
  rows = λ row. leb b.top row && ltb row (cond b.grows y b.bottom);
  grows = b.grows;
}

-- a cell of an earlier row group: it grows no more, and covers no row from y on
pub record IsQuiet (y : ℕ) (c : FormedCell) : Type 0 where
  pub still : c.grows ≡ false
  pub above : (row : ℕ) → y ≤ row → c.rows row ≡ false

-- all cells of earlier row groups
abbrev pub AllQuiet : ℕ → List FormedCell → Type 0
AllQuiet y = AllByRecursion (IsQuiet y)

-- the number of a cell
abbrev pub number_of : FormedCell → ℕ
number_of c = c.number

-- the number of a block
abbrev pub block_number : Block → ℕ
block_number b = b.number

-- nothing is added by a test that fails
pub or_false : (b : Bool) → (b || false) ≡ b
or_false true = refl
or_false false = refl

-- all is passed by a test that passes
pub or_true : (b : Bool) → (b || true) ≡ true
or_true true = refl
or_true false = refl

-- a cell that covers no slot of the row lies over none of them
pub quiet_none : (x y y' : ℕ) → y ≤ y' → (cs : List FormedCell) → AllQuiet y cs → numbers_over x y' cs ≡ []
quiet_none x y y' le [] q = refl
quiet_none x y y' le (c ∷ cs) q =
    ap (map number_of) (filter_no (covers x y') c cs (and_right (leb c.left x && ltb x c.right) (c.rows y') (q.0.above y' le)))
    ∙ quiet_none x y y' le cs q.1

-- one after the other
pub numbers-append : (x y : ℕ) (cs ds : List FormedCell) →
    numbers_over x y (cs ++ ds) ≡ numbers_over x y cs ++ numbers_over x y ds
numbers-append x y cs ds =
    ap (map number_of) (filter-append (covers x y) cs ds) ∙ map-append number_of (cells_over x y cs) (cells_over x y ds)

-- the cells lie over a slot as the blocks do, where each covers it just as its block
pub numbers_same : (x y : ℕ) (f : Block → FormedCell) (p : Block → Bool) (P : Block → Type 0) →
    ((b : Block) → (f b).number ≡ b.number) → ((b : Block) → P b → covers x y (f b) ≡ p b) →
    (bs : List Block) → AllByRecursion P bs → numbers_over x y (map f bs) ≡ map block_number (filter p bs)
numbers_same x y f p P names same [] all = refl
numbers_same x y f p P names same (b ∷ bs) all =
    let rest : numbers_over x y (map f bs) ≡ map block_number (filter p bs) = numbers_same x y f p P names same bs all.1 in
    elim (cases_Bool (p b)) [
      | inl e ↦
          ap (map number_of) (filter_yes (covers x y) (f b) (map f bs) (same b all.0 ∙ e))
          ∙ ap (λ n. n ∷ numbers_over x y (map f bs)) (names b) ∙ ap (λ l. b.number ∷ l) rest
          ∙ sym (ap (map block_number) (filter_yes p b bs e))
      | inr e ↦
          ap (map number_of) (filter_no (covers x y) (f b) (map f bs) (same b all.0 ∙ e))
          ∙ rest ∙ sym (ap (map block_number) (filter_no p b bs e))
    ]

-- the block begins in row y or above it
abbrev pub BeginsBy : ℕ → Block → Type 0
BeginsBy y b = b.top ≤ y

-- a growing block covers the row that is formed
reach_cases : (g : Bool) (y bottom : ℕ) → ltb y (cond g (y + 1) bottom) ≡ (g || ltb y bottom)
reach_cases true y bottom = lt-ltb y (y + 1) (omega arith)
reach_cases false y bottom = refl

-- the rows of a block, at the row that is formed
rows_reach : (y : ℕ) (b : Block) → b.top ≤ y → (leb b.top y && ltb y (cond b.grows (y + 1) b.bottom)) ≡ reaches y b
rows_reach y b le = ap (λ t. t && ltb y (cond b.grows (y + 1) b.bottom)) (le-leb b.top y le) ∙ reach_cases b.grows y b.bottom

-- in the row that is formed a block covers its columns where it reaches the row
pub covers_spot : (x y : ℕ) (b : Block) → BeginsBy y b → covers x y (cell_of (y + 1) b) ≡ spot x y b
covers_spot x y b le = ap (λ r. (leb b.left x && ltb x b.right) && r) (rows_reach y b le)

-- the cells over a slot of the row that is formed
pub numbers_here : (x y : ℕ) (done : List FormedCell) (bs : List Block) → AllQuiet y done →
    AllByRecursion (BeginsBy y) bs →
    numbers_over x y (done ++ map (cell_of (y + 1)) bs) ≡ map block_number (filter (spot x y) bs)
numbers_here x y done bs quiet tops =
    numbers-append x y done (map (cell_of (y + 1)) bs)
    ∙ ap (λ l. l ++ numbers_over x y (map (cell_of (y + 1)) bs)) (quiet_none x y y (omega arith) done quiet)
    ∙ numbers_same x y (cell_of (y + 1)) (spot x y) (BeginsBy y) (λ b. refl) (covers_spot x y) bs tops

-- a list has an element where its image has one
pub some_map : {X Y : Type 0} (f : X → Y) (xs : List X) → some (map f xs) ≡ some xs
some_map f [] = refl
some_map f (x ∷ xs) = refl

-- a slot of the row that is formed has a cell where it has a block
pub has_cell_here : (x y : ℕ) (done : List FormedCell) (bs : List Block) → AllQuiet y done →
    AllByRecursion (BeginsBy y) bs →
    has_cell x y (done ++ map (cell_of (y + 1)) bs) ≡ some (filter (spot x y) bs)
has_cell_here x y done bs quiet tops =
    any_is_some (covers x y) (done ++ map (cell_of (y + 1)) bs)
    ∙ sym (some_map number_of (cells_over x y (done ++ map (cell_of (y + 1)) bs)))
    ∙ ap some (numbers_here x y done bs quiet tops)
    ∙ some_map block_number (filter (spot x y) bs)

-- the first free column is the one up to which all are taken
pub first_free_is : (taken : ℕ → Bool) (k x z : ℕ) → x ≤ z → z ≤ x + k →
    ((x' : ℕ) → x ≤ x' → x' < z → taken x' ≡ true) → taken z ≡ false → first_free taken x k ≡ z
first_free_is taken zero x z le in' all free = omega arith
first_free_is taken (suc k) x z le in' all free =
    elim (cases_eq x z) [
      | inl e ↦ cond-false (taken x) (first_free taken (x + 1) k) x (ap taken e ∙ free) ∙ e
      | inr ne ↦
          cond-true (taken x) (first_free taken (x + 1) k) x (all x (omega arith) (omega arith))
          ∙ first_free_is taken k (x + 1) z (omega arith) (omega arith) (λ x' h l. all x' (omega arith) l) free
    ]

-- the walk to a free column only goes on
pub first_free_from : (taken : ℕ → Bool) (k x : ℕ) → x ≤ first_free taken x k
first_free_from taken zero x = omega arith
first_free_from taken (suc k) x =
    let ih : x + 1 ≤ first_free taken (x + 1) k = first_free_from taken k (x + 1) in
    elim (cases_Bool (taken x)) [
      | inl e ↦ (let eq : first_free taken x (suc k) ≡ first_free taken (x + 1) k =
          cond-true (taken x) (first_free taken (x + 1) k) x e in rw eq (omega arith))
      | inr e ↦ (let eq : first_free taken x (suc k) ≡ x = cond-false (taken x) (first_free taken (x + 1) k) x e in
          rw eq (omega arith))
    ]

-- a growing cell begins with one row
bottoms : (g : Bool) (y n : ℕ) → y + cond g 1 n ≡ cond g (y + 1) (y + cond g 1 n)
bottoms true y n = refl
bottoms false y n = refl

-- a cell that is formed is the cell of its block
pub formed_cell : (number x y : ℕ) (span : SpanOf) → anchored_cell number x y span ≡ cell_of (y + 1) (block_at number x y span)
formed_cell number x y span = λ i. record {
  number = number;
  left = x;
  right = x + span.colspan;
  top = y;
  rows = λ row. leb y row && ltb row (bottoms (eqb span.rowspan 0) y span.rowspan i);
  grows = eqb span.rowspan 0;
}

-- the block begins above row y
abbrev pub BeginsAbove : ℕ → Block → Type 0
BeginsAbove y b = b.top < y

-- one row more, below those that were covered
one_more : (y top row : ℕ) → top < y → ((leb top row && ltb row y) || eqb row y) ≡ (leb top row && ltb row (y + 1))
one_more y top row lt =
    elim (cases_eq row y) [
      | inl e ↦
          ap (λ t. (leb top row && ltb row y) || t) (eq-eqb row y e) ∙ or_true (leb top row && ltb row y)
          ∙ sym (ap (λ t. t && ltb row (y + 1)) (le-leb top row (omega arith)) ∙ lt-ltb row (y + 1) (omega arith))
      | inr ne ↦
          ap (λ t. (leb top row && ltb row y) || t) (ne_eqb row y ne) ∙ or_false (leb top row && ltb row y)
          ∙ ap (λ t. leb top row && t) (elim (cases_lt row y) [
            | inl l ↦ lt-ltb row y l ∙ sym (lt-ltb row (y + 1) (omega arith))
            | inr g ↦ le-ltb row y g ∙ sym (le-ltb row (y + 1) (let d : y < row = omega arith in omega arith))
          ])
    ]

-- grown into row y, a block covers its rows down to y
same : (g : Bool) (y top bottom : ℕ) → top < y → (row : ℕ) →
    ((leb top row && ltb row (cond g y bottom)) || (g && eqb row y)) ≡ (leb top row && ltb row (cond g (y + 1) bottom))
same true y top bottom lt row = one_more y top row lt
same false y top bottom lt row = or_false (leb top row && ltb row bottom)

-- a row grown into
pub grown_cell : (y : ℕ) (b : Block) → BeginsAbove y b → grown_into y (cell_of y b) ≡ cell_of (y + 1) b
grown_cell y b lt = λ i. record {
  number = b.number;
  left = b.left;
  right = b.right;
  top = b.top;
  rows = λ row. same b.grows y b.top b.bottom lt row i;
  grows = b.grows;
}

-- the same for all blocks of a group
pub grown_cells : (y : ℕ) (bs : List Block) → AllByRecursion (BeginsAbove y) bs →
    map (grown_into y) (map (cell_of y) bs) ≡ map (cell_of (y + 1)) bs
grown_cells y [] all = refl
grown_cells y (b ∷ bs) all =
    ap (λ c. c ∷ map (grown_into y) (map (cell_of y) bs)) (grown_cell y b all.0) ∙ ap (λ cs. cell_of (y + 1) b ∷ cs)
    (grown_cells y bs all.1)

-- the cells of earlier groups do not grow
still_cell : (y : ℕ) (c : FormedCell) → c.grows ≡ false → grown_into y c ≡ c
still_cell y c e = λ i. record {
  number = c.number;
  left = c.left;
  right = c.right;
  top = c.top;
  rows = λ row. (ap (λ t. c.rows row || (t && eqb row y)) e ∙ or_false (c.rows row)) i;
  grows = c.grows;
}

-- the same for all cells of earlier groups
pub still_cells : (y start : ℕ) (cs : List FormedCell) → AllQuiet start cs → map (grown_into y) cs ≡ cs
still_cells y start [] q = refl
still_cells y start (c ∷ cs) q =
    ap (λ d. d ∷ map (grown_into y) cs) (still_cell y c q.0.still) ∙ ap (λ ds. c ∷ ds) (still_cells y start cs q.1)

-- growing into a row changes nothing in another
pub grown_elsewhere : (x y y' : ℕ) → (y' ≡ y → ⊥) → (cs : List FormedCell) →
    numbers_over x y' (map (grown_into y) cs) ≡ numbers_over x y' cs
grown_elsewhere x y y' ne [] = refl
grown_elsewhere x y y' ne (c ∷ cs) =
    let rest : numbers_over x y' (map (grown_into y) cs) ≡ numbers_over x y' cs = grown_elsewhere x y y' ne cs in
    let same : covers x y' (grown_into y c) ≡ covers x y' c =
    ap (λ r. (leb c.left x && ltb x c.right) && r)
    (ap (λ t. c.rows y' || (c.grows && t)) (ne_eqb y' y ne) ∙ ap (λ t. c.rows y' || t) (and_right c.grows false refl) ∙ or_false
    (c.rows y')) in
    elim (cases_Bool (covers x y' c)) [
      | inl e ↦
          ap (map number_of) (filter_yes (covers x y') (grown_into y c) (map (grown_into y) cs) (same ∙ e))
          ∙ ap (λ l. c.number ∷ l) rest ∙ sym (ap (map number_of) (filter_yes (covers x y') c cs e))
      | inr e ↦
          ap (map number_of) (filter_no (covers x y') (grown_into y c) (map (grown_into y) cs) (same ∙ e))
          ∙ rest ∙ sym (ap (map number_of) (filter_no (covers x y') c cs e))
    ]
