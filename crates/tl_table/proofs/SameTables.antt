-- Tables that are the same, one level at a time: each table that is nested in one is the same as one that is nested in the
-- other.
use Rattle.std.proofs.Common.{◌≡◌, ◌∙◌, ℕ, zero, suc, ◌+◌, inl, inr, List, [], ◌∷◌, Option, None, Some, MatchOption, IsSomeAnd}
use Rattle.std.proofs.Common.{slice_get, sum_by}
use Rattle.std.proofs.Common.{refl, sym, ap, subst, arith}
use Rattle.std.specs.List.{AllZip, Contains, flat_map}
use Rattle.std.proofs.lemmas.List.Sums.{sum_by-cons}
use Rattle.std.proofs.lemmas.Slice.Zip.{AllZip-left}
use Rattle.tl_base.proofs.Members.{Contains-cases, Contains-first, Contains-later, Contains-none}
use Rattle.tl_base.proofs.Zips.{AllZip-append}
use Rattle.tl_table.specs.declared.cell.Content.{out-Content}
use Rattle.tl_table.specs.declared.cell.Content.TheOpen as open_content
use Rattle.tl_table.specs.declared.cell.Table.{Table, out-Table}
use Rattle.tl_table.specs.declared.cell.TableCell.{TableCell, out-TableCell}
use Rattle.tl_table.specs.Tables.{IsInsideWithin, IsAmong, OpenTable, OpenCell, OpenContent, tables_of, tables_in, inner_tables}
use Rattle.tl_table.specs.Same.{AreSameContent, AreSameCell, AreSameBy, AreSameWithin, AreSame}
use Rattle.tl_table.specs.Sound.{nested_in_table, nested_in_cell, nested_in_content}
use Rattle.tl_table.proofs.SizesOpen.{nested_in_table-out, nested_in_cell-out, nested_in_content-out, open_tables}

-- ---- lists whose items belong together

-- what follows of each pair follows of all
pub zip_weaker : {A B : Type 0} (R Q : A → B → Type 0) → ((a : A) (b : B) → R a b → Q a b) → (xs : List A) (ys : List B) →
    AllZip R xs ys → AllZip Q xs ys
zip_weaker R Q weaker [] [] all = tt
zip_weaker R Q weaker [] (y ∷ ys) all = absurd all
zip_weaker R Q weaker (x ∷ xs) [] all = absurd all
zip_weaker R Q weaker (x ∷ xs) (y ∷ ys) all = (weaker x y all.0, zip_weaker R Q weaker xs ys all.1)

-- the pairs turned round
zip_turned : {A B : Type 0} (R : A → B → Type 0) (Q : B → A → Type 0) → ((a : A) (b : B) → R a b → Q b a) →
    (xs : List A) (ys : List B) →
    AllZip R xs ys → AllZip Q ys xs
zip_turned R Q turned [] [] all = tt
zip_turned R Q turned [] (y ∷ ys) all = absurd all
zip_turned R Q turned (x ∷ xs) [] all = absurd all
zip_turned R Q turned (x ∷ xs) (y ∷ ys) all = (turned x y all.0, zip_turned R Q turned xs ys all.1)

-- what belongs to the items of one list belongs to their twins in the other
pub zip_over : {A B C : Type 0} (S : A → B → Type 0) (R : A → C → Type 0) (Q : B → C → Type 0) →
    ((a : A) (b : B) (c : C) → S a b → R a c → Q b c) → (xs : List A) (ys : List B) (zs : List C) →
    AllZip S xs ys → AllZip R xs zs → AllZip Q ys zs
zip_over S R Q over [] [] [] twins all = tt
zip_over S R Q over [] [] (z ∷ zs) twins all = absurd all
zip_over S R Q over [] (y ∷ ys) zs twins all = absurd twins
zip_over S R Q over (x ∷ xs) [] zs twins all = absurd twins
zip_over S R Q over (x ∷ xs) (y ∷ ys) [] twins all = absurd all
zip_over S R Q over (x ∷ xs) (y ∷ ys) (z ∷ zs) twins all =
    (over x y z twins.0 all.0, zip_over S R Q over xs ys zs twins.1 all.1)

-- an item of the one list has a twin in the other
pub zip_twin : {A B : Type 0} (R : A → B → Type 0) (xs : List A) (ys : List B) (x : A) → AllZip R xs ys → Contains xs x →
    (y : B) × Contains ys y × R x y
zip_twin R [] ys x all has = absurd (Contains-none x has)
zip_twin R (a ∷ xs) [] x all has = absurd all
zip_twin R (a ∷ xs) (b ∷ ys) x all has = elim (Contains-cases a xs x has) [
  | inl here ↦ (b, Contains-first b ys, subst (λ one. R one b) here all.0)
  | inr later ↦ let found = zip_twin R xs ys x all.1 later in (found.0, Contains-later b ys found.0 found.1, found.2)
]

-- so has the item at a place, and at the same place
pub zip_place : {A B : Type 0} (R : A → B → Type 0) (xs : List A) (ys : List B) (k : ℕ) (x : A) → AllZip R xs ys →
    slice_get xs k ≡ Some x →
    (y : B) × (slice_get ys k ≡ Some y) × R x y
zip_place {A = A} {B = B} R xs ys k x all at =
    by_option (slice_get ys k)
    (subst (λ (o : Option A). MatchOption o (Unit {0}) (λ one. IsSomeAnd (slice_get ys k) (R one))) at (AllZip-left R xs ys all
    k))
  where
    by_option : (o : Option B) → IsSomeAnd o (R x) → (y : B) × (o ≡ Some y) × R x y
    by_option None some = absurd some
    by_option (Some y) some = (y, refl, some)

-- the lists of the items, joined
zip_joined : {A B C D : Type 0} (R : A → B → Type 0) (Q : C → D → Type 0) (f : A → List C) (g : B → List D) →
    ((a : A) (b : B) → R a b → AllZip Q (f a) (g b)) → (xs : List A) (ys : List B) → AllZip R xs ys →
    AllZip Q (flat_map f xs) (flat_map g ys)
zip_joined R Q f g each [] [] all = tt
zip_joined R Q f g each [] (y ∷ ys) all = absurd all
zip_joined R Q f g each (x ∷ xs) [] all = absurd all
zip_joined R Q f g each (x ∷ xs) (y ∷ ys) all =
    AllZip-append Q (f x) (flat_map f xs) (g y) (flat_map g ys) (each x y all.0) (zip_joined R Q f g each xs ys all.1)

-- their sums
zip_sum : {A B : Type 0} (R : A → B → Type 0) (f : A → ℕ) (g : B → ℕ) → ((a : A) (b : B) → R a b → f a ≡ g b) →
    (xs : List A) (ys : List B) → AllZip R xs ys → sum_by f xs ≡ sum_by g ys
zip_sum R f g each [] [] all = refl
zip_sum R f g each [] (y ∷ ys) all = absurd all
zip_sum R f g each (x ∷ xs) [] all = absurd all
zip_sum R f g each (x ∷ xs) (y ∷ ys) all =
    omega (arith, sum_by-cons f x xs, sum_by-cons g y ys, each x y all.0, zip_sum R f g each xs ys all.1)

-- ---- what is the same in one sense is so in a weaker one, and the other way round

module _ (some more : Table → Table → Type 0) (weaker : (a b : Table) → some a b → more a b) where
  content_weaker : (a b : OpenContent) → AreSameContent some a b → AreSameContent more a b
  content_weaker (open_content.Para p) (open_content.Para q) is = is
  content_weaker (open_content.Para p) (open_content.Table box) is = absurd is
  content_weaker (open_content.Table box) (open_content.Para q) is = absurd is
  content_weaker (open_content.Table box) (open_content.Table crate) is = weaker box.value crate.value is

  cell_weaker : (a b : OpenCell) → AreSameCell some a b → AreSameCell more a b
  cell_weaker a b is = record {
    kind = is.kind;
    in_head = is.in_head;
    place = is.place;
    least = is.least;
    align = is.align;
    blocks = zip_weaker (λ c d. AreSameContent some (out-Content c) (out-Content d))
        (λ c d. AreSameContent more (out-Content c) (out-Content d))
        (λ c d one. content_weaker (out-Content c) (out-Content d) one) a.blocks b.blocks is.blocks;
  }

  table_weaker : (a b : OpenTable) → AreSameBy some a b → AreSameBy more a b
  table_weaker a b is = record {
    number = is.number;
    cols = is.cols;
    rows = is.rows;
    cells = zip_weaker (λ c d. AreSameCell some (out-TableCell c) (out-TableCell d))
        (λ c d. AreSameCell more (out-TableCell c) (out-TableCell d))
        (λ c d one. cell_weaker (out-TableCell c) (out-TableCell d) one) a.cells b.cells is.cells;
  }

module _ (some more : Table → Table → Type 0) (turned : (a b : Table) → some a b → more b a) where
  content_turned : (a b : OpenContent) → AreSameContent some a b → AreSameContent more b a
  content_turned (open_content.Para p) (open_content.Para q) is = sym is
  content_turned (open_content.Para p) (open_content.Table box) is = absurd is
  content_turned (open_content.Table box) (open_content.Para q) is = absurd is
  content_turned (open_content.Table box) (open_content.Table crate) is = turned box.value crate.value is

  pub cell_turned : (a b : OpenCell) → AreSameCell some a b → AreSameCell more b a
  cell_turned a b is = record {
    kind = sym is.kind;
    in_head = sym is.in_head;
    place = sym is.place;
    least = sym is.least;
    align = sym is.align;
    blocks = zip_turned (λ c d. AreSameContent some (out-Content c) (out-Content d))
        (λ c d. AreSameContent more (out-Content c) (out-Content d))
        (λ c d one. content_turned (out-Content c) (out-Content d) one) a.blocks b.blocks is.blocks;
  }

  table_turned : (a b : OpenTable) → AreSameBy some a b → AreSameBy more b a
  table_turned a b is = record {
    number = sym is.number;
    cols = sym is.cols;
    rows = sym is.rows;
    cells = zip_turned (λ c d. AreSameCell some (out-TableCell c) (out-TableCell d))
        (λ c d. AreSameCell more (out-TableCell c) (out-TableCell d))
        (λ c d one. cell_turned (out-TableCell c) (out-TableCell d) one) a.cells b.cells is.cells;
  }

-- tables that are the same have fields that are, and nested tables that are the same
pub same_opened : (one other : Table) → AreSame one other → AreSameBy AreSame (out-Table one) (out-Table other)
same_opened one other same = by_depth same.0 same.1
  where
    by_depth : (depth : ℕ) → AreSameWithin depth one other → AreSameBy AreSame (out-Table one) (out-Table other)
    by_depth zero is = absurd is
    by_depth (suc depth) is = table_weaker (AreSameWithin depth) AreSame (λ a b each. (depth, each)) (out-Table one)
        (out-Table other) is

-- they have the same number
pub same_number : (one other : Table) → AreSame one other → (out-Table one).number ≡ (out-Table other).number
same_number one other same = (same_opened one other same).number

turned_within : (depth : ℕ) (one other : Table) → AreSameWithin depth one other → AreSameWithin depth other one
turned_within zero one other is = absurd is
turned_within (suc depth) one other is =
    table_turned (AreSameWithin depth) (AreSameWithin depth) (turned_within depth) (out-Table one) (out-Table other) is

-- the first is the same as the second exactly where the second is the same as the first
pub same_turned : (one other : Table) → AreSame one other → AreSame other one
same_turned one other same = (same.0, turned_within same.0 one other same.1)

-- ---- the tables inside

module _ (same : Table → Table → Type 0) where
  tables_of_same : (a b : OpenContent) → AreSameContent same a b → AllZip same (tables_of a) (tables_of b)
  tables_of_same (open_content.Para p) (open_content.Para q) is = tt
  tables_of_same (open_content.Para p) (open_content.Table box) is = absurd is
  tables_of_same (open_content.Table box) (open_content.Para q) is = absurd is
  tables_of_same (open_content.Table box) (open_content.Table crate) is = (is, tt)

  -- the tables nested directly in two cells that are the same
  pub tables_in_same : (a b : OpenCell) → AreSameCell same a b → AllZip same (tables_in a) (tables_in b)
  tables_in_same a b is =
      zip_joined (λ c d. AreSameContent same (out-Content c) (out-Content d)) same (λ c. tables_of (out-Content c))
      (λ d. tables_of (out-Content d))
      (λ c d one. tables_of_same (out-Content c) (out-Content d) one) a.blocks b.blocks is.blocks

  -- and in two tables that are
  pub inner_same : (a b : OpenTable) → AreSameBy same a b → AllZip same (inner_tables a) (inner_tables b)
  inner_same a b is =
      zip_joined (λ c d. AreSameCell same (out-TableCell c) (out-TableCell d)) same (λ c. tables_in (out-TableCell c))
      (λ d. tables_in (out-TableCell d))
      (λ c d one. tables_in_same (out-TableCell c) (out-TableCell d) one) a.cells b.cells is.cells

inside_twin : (depth : ℕ) (one other inside : Table) → AreSame one other → IsInsideWithin depth one inside →
    (twin : Table) × IsInsideWithin depth other twin × AreSame inside twin
inside_twin zero one other inside same is = absurd is
inside_twin (suc depth) one other inside same is =
    let nested = is.0 in
    let found = zip_twin AreSame (inner_tables (out-Table one)) (inner_tables (out-Table other)) nested
    (inner_same AreSame (out-Table one) (out-Table other) (same_opened one other same)) is.1 in
    elim is.2 [
      | inl here ↦ (found.0, (found.0, found.1, inl refl), subst (λ t. AreSame t found.0) here found.2)
      | inr deeper ↦
          let more = inside_twin depth nested found.0 inside found.2 deeper in
          (more.0, (found.0, found.1, inr more.1), more.2)
    ]

-- a table among those of one is the same as a table among those of the other
pub among_twin : (one other inside : Table) → AreSame one other → IsAmong one inside →
    (twin : Table) × IsAmong other twin × AreSame inside twin
among_twin one other inside same (inl here) = (other, inl refl, subst (λ t. AreSame t other) here same)
among_twin one other inside same (inr deeper) =
    let found = inside_twin deeper.0 one other inside same deeper.1 in
    (found.0, inr (deeper.0, found.1), found.2)

-- ---- how many they are

module _ (same : Table → Table → Type 0) (each : (a b : Table) → same a b → nested_in_table a ≡ nested_in_table b) where
  content_nests : (a b : OpenContent) → AreSameContent same a b → open_tables a ≡ open_tables b
  content_nests (open_content.Para p) (open_content.Para q) is = refl
  content_nests (open_content.Para p) (open_content.Table box) is = absurd is
  content_nests (open_content.Table box) (open_content.Para q) is = absurd is
  content_nests (open_content.Table box) (open_content.Table crate) is = ap (λ n. 1 + n) (each box.value crate.value is)

  cell_nests : (a b : TableCell) → AreSameCell same (out-TableCell a) (out-TableCell b) → nested_in_cell a ≡ nested_in_cell b
  cell_nests a b is =
      nested_in_cell-out a
      ∙ zip_sum (λ c d. AreSameContent same (out-Content c) (out-Content d)) nested_in_content nested_in_content
      (λ c d one. nested_in_content-out c ∙ content_nests (out-Content c) (out-Content d) one ∙ sym (nested_in_content-out d))
      (out-TableCell a).blocks (out-TableCell b).blocks is.blocks
      ∙ sym (nested_in_cell-out b)

  table_nests : (a b : Table) → AreSameBy same (out-Table a) (out-Table b) → nested_in_table a ≡ nested_in_table b
  table_nests a b is =
      nested_in_table-out a
      ∙ zip_sum (λ c d. AreSameCell same (out-TableCell c) (out-TableCell d)) nested_in_cell nested_in_cell cell_nests
      (out-Table a).cells (out-Table b).cells is.cells
      ∙ sym (nested_in_table-out b)

nests_within : (depth : ℕ) (one other : Table) → AreSameWithin depth one other → nested_in_table one ≡ nested_in_table other
nests_within zero one other is = absurd is
nests_within (suc depth) one other is = table_nests (AreSameWithin depth) (nests_within depth) one other is

-- two tables that are the same have as many tables inside
pub same_nests : (one other : Table) → AreSame one other → nested_in_table one ≡ nested_in_table other
same_nests one other same = nests_within same.0 one other same.1
