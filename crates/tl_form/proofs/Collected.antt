-- Steps of nested tables that are collected one table and one cell after another.
use Rattle.std.proofs.Common.{◌≡◌, ◌∙◌, ℕ, ◌+◌, ◌<◌, List, [], ◌∷◌, ◌++◌, ◌⊎◌, inl, inr, length, get_or, take, refl, sym, ap}
use Rattle.std.proofs.Common.{subst, append_assoc}
use Rattle.std.proofs.Common.{append-nil, arith, IsSome}
use Rattle.std.specs.List.{AllZip, Contains, flat_map}
use Rattle.std.proofs.lemmas.List.Concat.{flat_map-cons}
use Rattle.tl_base.specs.declared.style.Style.{Style}
use Rattle.std.proofs.lemmas.List.Elements.{recursion_from_All}
use Rattle.tl_base.proofs.Members.{All-from_Contains, Contains-cases, Contains-none, Contains-flat_map}
use Rattle.tl_base.proofs.Zips.{AllZip-append, AllZip-Contains}
use Rattle.tl_base.proofs.Taken.{joined_more}
use Rattle.tl_cert.specs.declared.section.Section.{Section}
use Rattle.tl_table.specs.declared.cell.Content.{Content, out-Content}
use Rattle.tl_table.specs.declared.cell.Table.{Table, out-Table}
use Rattle.tl_form.specs.declared.heights.InnerSteps.{InnerSteps}
use Rattle.tl_form.specs.Nested.{AreStepsBy}
use Rattle.tl_table.specs.Tables.{OpenCell, tables_of, tables_in}
use Rattle.tl_form.specs.Problems.{steps_for}
use Rattle.tl_form.specs.inner.CellSteps.{HaveSteps}
use Rattle.tl_form.specs.inner.Collecting.{Collects, LackSteps}
use Rattle.tl_form.proofs.Truth.{steps_found}

-- what belongs to the first of two lists joined, and to the second
zip_split : {A B : Type 0} (R : A → B → Type 0) (xs zs : List A) (ys : List B) → AllZip R (xs ++ zs) ys →
    ((part : List B) × AllZip R xs part) × ((part : List B) × AllZip R zs part)
zip_split R [] zs ys all = (([], tt), (ys, all))
zip_split R (x ∷ xs) zs [] all = absurd all
zip_split R (x ∷ xs) zs (y ∷ ys) all =
    let rest = zip_split R xs zs ys all.1 in ((y ∷ rest.0.0, (all.0, rest.0.1)), rest.1)

-- what belongs to one of some lists joined
zip_part : {X A B : Type 0} (R : A → B → Type 0) (f : X → List A) (xs : List X) (ys : List B) (x : X) →
    AllZip R (flat_map f xs) ys → Contains xs x →
    (part : List B) × AllZip R (f x) part
zip_part R f [] ys x all has = absurd (Contains-none x has)
zip_part {B = B} R f (z ∷ xs) ys x all has =
    let both = zip_split R (f z) (flat_map f xs) ys (subst (λ zs. AllZip R zs ys) (flat_map-cons f z xs) all) in
    by_case both.0 (Contains-cases z xs x has) (zip_part R f xs both.1.0 x both.1.1)
  where
    by_case : (part : List B) × AllZip R (f z) part → (z ≡ x) ⊎ Contains xs x →
        (Contains xs x → (part : List B) × AllZip R (f x) part) →
        (part : List B) × AllZip R (f x) part
    by_case first (inl same) again = (first.0, subst (λ one. AllZip R (f one) first.0) same first.1)
    by_case first (inr later) again = again later

module _ (style : Style) (page : ℕ) (sections : List Section) where
  -- one more item's tables
  pub collects_more : {X : Type 0} (f : X → List Table) (xs : List X) (i : ℕ) (x : X)
      (before mid after more : List InnerSteps) → i < length xs →
      x ≡ get_or xs i x → Collects style page sections (flat_map f (take i xs)) before mid →
      AllZip (AreStepsBy style page sections) (f x) more →
      after ≡ mid ++ more → Collects style page sections (flat_map f (take (i + 1) xs)) before after
  collects_more {X = X} f xs i x before mid after more within is so_far each joined = record {
    more = so_far.more ++ more;
    joined = joined ∙ ap (λ (all : List InnerSteps). all ++ more) so_far.joined ∙ append_assoc before so_far.more more;
    each = subst (λ tables. AllZip (AreStepsBy style page sections) tables (so_far.more ++ more)) (sym (joined_more f xs i x x within is))
        (AllZip-append (AreStepsBy style page sections) (flat_map f (take i xs)) (f x) so_far.more more so_far.each each);
  }

  -- a paragraph has no table
  pub collects_none : (xs : List Content) (i : ℕ) (x : Content) (before mid after : List InnerSteps) → i < length xs →
      x ≡ get_or xs i x →
      tables_of (out-Content x) ≡ [] → Collects style page sections
      (flat_map (λ block. tables_of (out-Content block)) (take i xs)) before mid →
      after ≡ mid → Collects style page sections (flat_map (λ block. tables_of (out-Content block)) (take (i + 1) xs))
      before after
  collects_none xs i x before mid after within is none so_far same =
      collects_more (λ block. tables_of (out-Content block)) xs i x before mid after [] within is so_far
      (subst (λ tables. AllZip (AreStepsBy style page sections) tables []) (sym none) tt) (same ∙ sym (append-nil mid))

  -- a block that is a table has one
  pub collects_one : (xs : List Content) (i : ℕ) (x : Content) (nested : Table) (steps : InnerSteps)
      (before mid after : List InnerSteps) →
      i < length xs → x ≡ get_or xs i x → tables_of (out-Content x) ≡ nested ∷ [] →
      Collects style page sections (flat_map (λ block. tables_of (out-Content block)) (take i xs)) before mid →
      AreStepsBy style page sections nested steps → after ≡ mid ++ steps ∷ [] →
      Collects style page sections (flat_map (λ block. tables_of (out-Content block)) (take (i + 1) xs)) before after
  collects_one xs i x nested steps before mid after within is one so_far own joined =
      collects_more (λ block. tables_of (out-Content block)) xs i x before mid after (steps ∷ []) within is so_far
      (subst (λ tables. AllZip (AreStepsBy style page sections) tables (steps ∷ [])) (sym one) (own, tt)) joined

  -- where a table of a cell has no steps the cell lacks them
  pub cell_lacks : (cell : OpenCell) (blocks : List Content) (i : ℕ) (x : Content) (nested : Table) → blocks ≡ cell.blocks →
      i < length blocks →
      x ≡ get_or blocks i x → tables_of (out-Content x) ≡ nested ∷ [] →
      ((steps : InnerSteps) → AreStepsBy style page sections nested steps → ⊥) →
      LackSteps style page sections (tables_in cell)
  cell_lacks cell blocks i x nested same within is one none inner all =
      let has : Contains (tables_of (out-Content x)) nested =
      subst (λ tables. Contains tables nested) (sym one) (0, omega arith, refl) in
      let among : Contains cell.blocks x = subst (λ xs. Contains xs x) same (i, within, sym is) in
      let steps = AllZip-Contains (AreStepsBy style page sections) (tables_in cell) inner nested all
      (Contains-flat_map (λ block. tables_of (out-Content block)) cell.blocks x nested among has) in
      none steps.0 steps.1

  -- where a cell lacks steps its table does
  pub table_lacks : {X : Type 0} (f : X → List Table) (xs items : List X) (i : ℕ) (x : X) → items ≡ xs → i < length items →
      x ≡ get_or items i x →
      LackSteps style page sections (f x) → LackSteps style page sections (flat_map f xs)
  table_lacks f xs items i x same within is lacks inner all =
      let part = zip_part (AreStepsBy style page sections) f xs inner x all
      (subst (λ ys. Contains ys x) same (i, within, sym is)) in
      lacks part.0 part.1

-- ---- all tables have their steps among those collected

pub have_steps : (style : Style) (page : ℕ) (sections : List Section) (tables : List Table) (inner : List InnerSteps) →
    AllZip (AreStepsBy style page sections) tables inner → HaveSteps inner tables
have_steps style page sections tables inner all =
    recursion_from_All (λ nested. IsSome (steps_for inner (out-Table nested).number)) tables
    (All-from_Contains (λ nested. IsSome (steps_for inner (out-Table nested).number)) tables
    (λ nested has. let found = steps_found style page sections tables inner nested all has in
    subst IsSome (sym found.found) refl))
