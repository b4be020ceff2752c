-- Where the head of a table ends: within the table, where no cell crosses, and not above the caption's end.
use Rattle.std.proofs.Common.{◌≡◌, ◌∙◌, ℕ, zero, suc, ◌-◌, ◌<◌, ◌≤◌, Bool, true, false, ◌&&◌, ◌||◌, nat_le, nat_lt, cond}
use Rattle.std.proofs.Common.{List, [], ◌∷◌, ◌++◌, ◌⊎◌, inl, inr, length, map, get_or, drop, refl, sym, ap, subst, arith}
use Rattle.std.specs.List.{AllByRecursion, AllPairs, list_any}
use Rattle.std.proofs.lemmas.Bool.{and_from, and_parts, or_cases, or_from, or_left, or_right, both_ways, cases_lt}
use Rattle.std.proofs.lemmas.Bool.{cond_both, leb-true, le-leb}
use Rattle.std.proofs.lemmas.List.{drop_all, get_or-map, length-map}
use Rattle.std.proofs.lemmas.List.Elements.{recursion_from_All}
use Rattle.std.proofs.Math.Seq.{drop-cons}
use Rattle.tl_base.proofs.Members.{AllPairs-head, AllPairs-tail}
use Rattle.tl_grid.specs.declared.shape.Place.{Place}
use Rattle.tl_grid.specs.Dropping.{IsPlaced}
use Rattle.tl_grid.specs.Slots.{AreApart, HasSlot}
use Rattle.tl_table.specs.declared.cell.Table.{Table, out-Table}
use Rattle.tl_table.specs.declared.cell.TableCell.{TableCell, out-TableCell}
use Rattle.tl_table.specs.Heads.{is_caption, is_header, stands_with, is_run, run_end, caption_rows_of, head_end_of}
use Rattle.tl_table.specs.Heads.{caption_height, head_end}
use Rattle.tl_table.specs.Formed.{header_kind}
use Rattle.tl_table.specs.Sound.{IsSound, IsSoundWithin}
use Rattle.tl_table.specs.Spellable.{AreCaption, IsCaption, IsRowCell, IsSpellableWithin}
use Rattle.tl_table.specs.Tables.{ComesBefore, OpenCell, place_of, places_of}

-- ---- runs of rows

module _ (passes : OpenCell → Bool) where
  -- a cell of a run begins at its end or below, or it ends there or above and may stand in the run
  pub stands_parts : (end : ℕ) (cell : OpenCell) → stands_with passes end cell ≡ true →
      (end ≤ cell.place.top) ⊎ ((cell.place.bottom ≤ end) × ((is_caption cell.kind || passes cell) ≡ true))
  stands_parts end cell is =
      elim (or_cases (nat_le end cell.place.top) (nat_le cell.place.bottom end && (is_caption cell.kind || passes cell)) is) [
        | inl below ↦ inl (leb-true end cell.place.top below)
        | inr above ↦
            let both = and_parts (nat_le cell.place.bottom end) (is_caption cell.kind || passes cell) above in
            inr (leb-true cell.place.bottom end both.0, both.1)
      ]

  -- a cell that begins at the end or below stands with the run
  pub stands_below : (end : ℕ) (cell : OpenCell) → end ≤ cell.place.top → stands_with passes end cell ≡ true
  stands_below end cell below =
      or_left (nat_le end cell.place.top) (nat_le cell.place.bottom end && (is_caption cell.kind || passes cell))
      (le-leb end cell.place.top below)

  -- and so does one that ends there or above and may stand in the run
  pub stands_above : (end : ℕ) (cell : OpenCell) → cell.place.bottom ≤ end → (is_caption cell.kind || passes cell) ≡ true →
      stands_with passes end cell ≡ true
  stands_above end cell above may =
      or_right (nat_le end cell.place.top) (nat_le cell.place.bottom end && (is_caption cell.kind || passes cell))
      (and_from (nat_le cell.place.bottom end) (is_caption cell.kind || passes cell) (le-leb cell.place.bottom end above) may)

  -- rows that begin at or above all cells are a run
  all_below : (end : ℕ) (cells : List OpenCell) → AllByRecursion (λ cell. end ≤ cell.place.top) cells →
      is_run passes cells end ≡ true
  all_below end [] below = refl
  all_below end (cell ∷ cells) below =
      and_from (stands_with passes end cell) (is_run passes cells end) (stands_below end cell below.0)
      (all_below end cells below.1)

  no_rows : (cells : List OpenCell) → is_run passes cells 0 ≡ true
  no_rows [] = refl
  no_rows (cell ∷ cells) =
      and_from (stands_with passes 0 cell) (is_run passes cells 0) (stands_below 0 cell (omega arith)) (no_rows cells)

  -- the rows above the end of the longest run are a run
  pub run_end-is : (cells : List OpenCell) (rows : ℕ) → is_run passes cells (run_end passes cells rows) ≡ true
  run_end-is cells zero = no_rows cells
  run_end-is cells (suc rows) =
      cond_both (is_run passes cells (suc rows)) (suc rows) (run_end passes cells rows) (λ end. is_run passes cells end ≡ true)
      (λ yes. yes) (λ no. run_end-is cells rows)

  pub run_end-le : (cells : List OpenCell) (rows : ℕ) → run_end passes cells rows ≤ rows
  run_end-le cells zero = omega arith
  run_end-le cells (suc rows) =
      cond_both (is_run passes cells (suc rows)) (suc rows) (run_end passes cells rows) (λ end. end ≤ suc rows)
      (λ yes. omega arith) (λ no. omega (arith, run_end-le cells rows))

  -- no run of so many rows is longer
  pub run_end-longest : (cells : List OpenCell) (rows end : ℕ) → end ≤ rows → is_run passes cells end ≡ true →
      end ≤ run_end passes cells rows
  run_end-longest cells zero end within is = within
  run_end-longest cells (suc rows) end within is =
      cond_both (is_run passes cells (suc rows)) (suc rows) (run_end passes cells rows) (λ longest. end ≤ longest)
      (λ yes. within) (λ no. elim (cases_lt end (suc rows)) [
        | inl less ↦ run_end-longest cells rows end (omega (arith, less)) is
        | inr more ↦
            let whole : end ≡ suc rows = omega (arith, within, more) in
            absurd (both_ways (is_run passes cells (suc rows)) no (subst (λ n. is_run passes cells n ≡ true) whole is))
      ])

  -- no cell crosses the end of a run
  pub run-uncrossed : (cells : List OpenCell) (end : ℕ) → is_run passes cells end ≡ true →
      AllByRecursion (λ cell. cell.place.top < end → cell.place.bottom ≤ end) cells
  run-uncrossed [] end is = tt
  run-uncrossed (cell ∷ cells) end is =
      let both = and_parts (stands_with passes end cell) (is_run passes cells end) is in (
        λ begins. elim (stands_parts end cell both.0) [
          | inl below ↦ absurd (omega (arith, begins, below))
          | inr above ↦ above.0
        ],
        run-uncrossed cells end both.1,
      )

-- ---- the cells from one on, whose run ends here

-- the first rows up to this end are the longest run of so many rows as far as the cells from the n-th on go, and no longer
-- one is a run of all cells
pub record IsRunFrom (passes : OpenCell → Bool) (cells : List OpenCell) (rows n end : ℕ) : Type 0 where
  pub within : end ≤ rows
  pub stands : is_run passes (drop n cells) end ≡ true
  pub longest : run_end passes cells rows ≤ end

-- each of the cells begins no higher than those before it
abbrev pub Descend : List OpenCell → Type 0
Descend [] = Unit {0}
Descend (cell ∷ cells) = AllByRecursion (λ other. cell.place.top ≤ other.place.top) cells × Descend cells

-- cells by top, then left, do
pub descend : (cells : List TableCell) → AllPairs ComesBefore (map place_of cells) → Descend (map out-TableCell cells)
descend [] order = tt
descend (cell ∷ cells) order = (
  below (place_of cell) cells
      (recursion_from_All (ComesBefore (place_of cell)) (map place_of cells)
      (AllPairs-head ComesBefore (place_of cell) (map place_of cells) order)),
  descend cells (AllPairs-tail ComesBefore (place_of cell) (map place_of cells) order),
) where
  no_higher : (one other : Place) → ComesBefore one other → one.top ≤ other.top
  no_higher one other (inl less) = omega (arith, less)
  no_higher one other (inr same) = omega (arith, same.0)

  below : (place : Place) (cells : List TableCell) → AllByRecursion (ComesBefore place) (map place_of cells) →
      AllByRecursion (λ other. place.top ≤ other.place.top) (map out-TableCell cells)
  below place [] all = tt
  below place (cell ∷ cells) all = (no_higher place (place_of cell) all.0, below place cells all.1)

-- the cells of a sound table do
pub sound_descend : (table : Table) → IsSound table → Descend (map out-TableCell (out-Table table).cells)
sound_descend table sound = descend (out-Table table).cells (in_order sound.depth sound.sound)
  where
    in_order : (depth : ℕ) → IsSoundWithin depth table → AllPairs ComesBefore (places_of (out-Table table))
    in_order zero well = absurd well
    in_order (suc depth) well = well.in_order

-- those after the n-th begin no higher than it
descend_from : (cells : List OpenCell) (n : ℕ) (d : OpenCell) → n < length cells → Descend cells →
    AllByRecursion (λ other. (get_or cells n d).place.top ≤ other.place.top) (drop (suc n) cells)
descend_from [] n d within order = absurd (omega arith)
descend_from (cell ∷ cells) zero d within order = order.0
descend_from (cell ∷ cells) (suc n) d within order = descend_from cells n d (omega arith) order.1

module _ (passes : OpenCell → Bool) (cells : List OpenCell) (rows : ℕ) where
  pub run_from-none : (n : ℕ) → length cells ≤ n → IsRunFrom passes cells rows n rows
  run_from-none n none = record {
    within = omega arith;
    stands = ap (λ (rest : List OpenCell). is_run passes rest rows) (drop_all n cells none);
    longest = run_end-le passes cells rows;
  }

  -- the n-th cell stands with the rows above the end
  pub run_from-stands : (n end : ℕ) (d : OpenCell) → n < length cells → stands_with passes end (get_or cells n d) ≡ true →
      IsRunFrom passes cells rows (suc n) end → IsRunFrom passes cells rows n end
  run_from-stands n end d within is from = record {
    within = from.within;
    stands =
        ap (λ (rest : List OpenCell). is_run passes rest end) (drop-cons cells n d within)
        ∙ and_from (stands_with passes end (get_or cells n d)) (is_run passes (drop (suc n) cells) end) is from.stands;
    longest = from.longest;
  }

  -- or it does not, and no run ends below the row in which it begins
  pub run_from-ends : (n end : ℕ) (d : OpenCell) → n < length cells → Descend cells →
      stands_with passes end (get_or cells n d) ≡ false → IsRunFrom passes cells rows (suc n) end →
      IsRunFrom passes cells rows n (get_or cells n d).place.top
  run_from-ends n end d within order not from = record {
    within = elim (cases_lt (get_or cells n d).place.top end) [
      | inl above ↦ omega (arith, above, from.within)
      | inr below ↦ absurd (both_ways (stands_with passes end (get_or cells n d)) not
          (stands_below passes end (get_or cells n d) below))
    ];
    stands =
        ap (λ (rest : List OpenCell). is_run passes rest (get_or cells n d).place.top) (drop-cons cells n d within)
        ∙ and_from (stands_with passes (get_or cells n d).place.top (get_or cells n d))
        (is_run passes (drop (suc n) cells) (get_or cells n d).place.top)
        (stands_below passes (get_or cells n d).place.top (get_or cells n d) (omega arith))
        (all_below passes (get_or cells n d).place.top (drop (suc n) cells) (descend_from cells n d within order));
    longest =
        elim (stands_parts passes (run_end passes cells rows) (get_or cells n d)
        (stands_at (run_end passes cells rows) cells n d within (run_end-is passes cells rows))) [
          | inl below ↦ below
          | inr above ↦ absurd (both_ways (stands_with passes end (get_or cells n d)) not
              (stands_above passes end (get_or cells n d) (omega (arith, above.0, from.longest)) above.1))
        ];
  } where
    stands_at : (end : ℕ) (cells : List OpenCell) (n : ℕ) (d : OpenCell) → n < length cells → is_run passes cells end ≡ true →
        stands_with passes end (get_or cells n d) ≡ true
    stands_at end [] n d within is = absurd (omega arith)
    stands_at end (cell ∷ cells) zero d within is =
        (and_parts (stands_with passes end cell) (is_run passes cells end) is).0
    stands_at end (cell ∷ cells) (suc n) d within is =
        stands_at end cells n d (omega arith) (and_parts (stands_with passes end cell) (is_run passes cells end) is).1

  -- a step of a loop over the cells, from the last up
  module _ (every seen : List TableCell) (opened : map out-TableCell every ≡ cells) (same : seen ≡ every) (n : ℕ)
      (cell : TableCell) (some : 0 < n) (within : n ≤ length seen) (is : cell ≡ get_or seen (n - 1) cell) (end : ℕ)
      (from : IsRunFrom passes cells rows n end) where
    there : n - 1 < length cells
    there = omega (arith, within, ap length same, ap length opened, length-map every out-TableCell)

    at : get_or cells (n - 1) (out-TableCell cell) ≡ out-TableCell cell
    at =
        ap (λ (those : List OpenCell). get_or those (n - 1) (out-TableCell cell)) (sym opened)
        ∙ get_or-map out-TableCell every (n - 1) cell (out-TableCell cell) (omega (arith, within, ap length same))
        ∙ ap (λ (those : List TableCell). out-TableCell (get_or those (n - 1) cell)) (sym same)
        ∙ ap out-TableCell (sym is)

    before : IsRunFrom passes cells rows (suc (n - 1)) end
    before = subst (λ k. IsRunFrom passes cells rows k end) (omega arith) from

    pub step-stands : stands_with passes end (out-TableCell cell) ≡ true → IsRunFrom passes cells rows (n - 1) end
    step-stands stands = run_from-stands (n - 1) end (out-TableCell cell) there (ap (stands_with passes end) at ∙ stands) before

    pub step-ends : Descend cells → stands_with passes end (out-TableCell cell) ≡ false →
        IsRunFrom passes cells rows (n - 1) (place_of cell).top
    step-ends order not =
        subst (λ (one : OpenCell). IsRunFrom passes cells rows (n - 1) one.place.top) at
        (run_from-ends (n - 1) end (out-TableCell cell) there order (ap (stands_with passes end) at ∙ not) before)

  -- once all cells are seen the end is that of the longest run
  pub run_from-all : (end : ℕ) → IsRunFrom passes cells rows 0 end → end ≡ run_end passes cells rows
  run_from-all end from =
      omega (arith, from.longest, run_end-longest passes cells rows end from.within from.stands)

-- ---- the head

-- what holds where either run ends holds where the head ends
head_cases : (P : ℕ → Type 0) (cells : List OpenCell) (rows : ℕ) →
    P (run_end (λ cell. cell.in_head) cells rows) → P (run_end (λ cell. is_header cell.kind) cells rows) →
    P (head_end_of cells rows)
head_cases P cells rows grouped headers =
    cond_both (nat_lt (caption_rows_of cells) (run_end (λ cell. cell.in_head) cells rows))
    (run_end (λ cell. cell.in_head) cells rows) (run_end (λ cell. is_header cell.kind) cells rows) P
    (λ yes. grouped) (λ no. headers)

-- the head ends within the table
pub head-end-le : (table : Table) → head_end table ≤ (out-Table table).rows
head-end-le table =
    let cells = map out-TableCell (out-Table table).cells in
    let rows = (out-Table table).rows in
    head_cases (λ end. end ≤ rows) cells rows (run_end-le (λ cell. cell.in_head) cells rows)
    (run_end-le (λ cell. is_header cell.kind) cells rows)

uncrossed_places : (cells : List TableCell) (end : ℕ) →
    AllByRecursion (λ cell. cell.place.top < end → cell.place.bottom ≤ end) (map out-TableCell cells) →
    AllByRecursion (λ place. place.top < end → place.bottom ≤ end) (map place_of cells)
uncrossed_places [] end all = tt
uncrossed_places (cell ∷ cells) end all = (all.0, uncrossed_places cells end all.1)

-- no cell crosses the head's end, the caption included
pub head-uncrossed : (table : Table) →
    AllByRecursion (λ place. place.top < head_end table → place.bottom ≤ head_end table) (places_of (out-Table table))
head-uncrossed table =
    let cells = map out-TableCell (out-Table table).cells in
    let rows = (out-Table table).rows in
    uncrossed_places (out-Table table).cells (head_end table)
    (head_cases (λ end. AllByRecursion (λ cell. cell.place.top < end → cell.place.bottom ≤ end) cells) cells rows
    (run-uncrossed (λ cell. cell.in_head) cells (run_end (λ cell. cell.in_head) cells rows)
    (run_end-is (λ cell. cell.in_head) cells rows))
    (run-uncrossed (λ cell. is_header cell.kind) cells (run_end (λ cell. is_header cell.kind) cells rows)
    (run_end-is (λ cell. is_header cell.kind) cells rows)))

-- ---- the caption's row

-- the kind of a cell of a row is no caption
pub row-kind : (head : Bool) → is_caption (header_kind head) ≡ false
row-kind true = refl
row-kind false = refl

no_captions : (cells : List TableCell) → AllByRecursion IsRowCell cells →
    list_any (λ cell. is_caption cell.kind) (map out-TableCell cells) ≡ false
no_captions [] all = refl
no_captions (cell ∷ cells) all =
    or_from (is_caption (out-TableCell cell).kind) (list_any (λ cell. is_caption cell.kind) (map out-TableCell cells))
    (ap is_caption all.0.1 ∙ row-kind all.0.0) (no_captions cells all.1)

-- a caption's row alone is a run: the caption ends there, and all others begin below it
caption_runs : (passes : OpenCell → Bool) (cols rows : ℕ) (caption : TableCell) (body : List TableCell) →
    IsCaption cols (out-TableCell caption) → AllByRecursion (IsPlaced cols rows) (map place_of body) →
    AllByRecursion (AreApart (place_of caption)) (map place_of body) →
    is_run passes (map out-TableCell (caption ∷ body)) 1 ≡ true
caption_runs passes cols rows caption body is placed apart =
    and_from (stands_with passes 1 (out-TableCell caption)) (is_run passes (map out-TableCell body) 1)
    (stands_above passes 1 (out-TableCell caption) (omega (arith, ap (λ (place : Place). place.bottom) is.place))
    (or_left (is_caption (out-TableCell caption).kind) (passes (out-TableCell caption)) (ap is_caption is.kind)))
    (all_below passes 1 (map out-TableCell body) (below body placed apart))
  where
    one_below : (place : Place) → IsPlaced cols rows place → AreApart (place_of caption) place → 1 ≤ place.top
    one_below place placed apart = elim (cases_lt 0 place.top) [
      | inl some ↦ some
      | inr none ↦ absurd (apart place.left 0
          (subst (λ over. HasSlot place.left 0 over) (sym is.place)
          (omega arith, omega (arith, placed.0, placed.1), omega arith, omega arith))
          (omega arith, placed.0, none, omega (arith, placed.2, none)))
    ]

    below : (cells : List TableCell) → AllByRecursion (IsPlaced cols rows) (map place_of cells) →
        AllByRecursion (AreApart (place_of caption)) (map place_of cells) →
        AllByRecursion (λ other. 1 ≤ other.place.top) (map out-TableCell cells)
    below [] placed apart = tt
    below (cell ∷ cells) placed apart = (one_below (place_of cell) placed.0 apart.0, below cells placed.1 apart.1)

-- the head ends no higher than the caption's row does
pub caption-above : (table : Table) → IsSound table → caption_height table ≤ head_end table
caption-above table sound = by_parts sound.depth sound.sound sound.spellable.0 sound.spellable.1
  where
    by_caption : (cells caption body : List TableCell) (cols rows : ℕ) → cells ≡ caption ++ body → AreCaption cols caption →
        AllByRecursion IsRowCell body → AllByRecursion (IsPlaced cols rows) (map place_of cells) →
        AllPairs AreApart (map place_of cells) →
        caption_rows_of (map out-TableCell cells) ≤ head_end_of (map out-TableCell cells) rows
    by_caption cells [] body cols rows split captioned in_rows placed apart =
        let none = ap (λ (those : List TableCell). list_any (λ cell. is_caption cell.kind) (map out-TableCell those)) split
        ∙ no_captions body in_rows in
        let no_rows : caption_rows_of (map out-TableCell cells) ≡ 0 = ap (λ any. cond any 1 0) none in
        omega (arith, no_rows)
    by_caption cells (caption ∷ more) body cols rows split captioned in_rows placed apart =
        let whole : cells ≡ caption ∷ body = split ∙ ap (λ (rest : List TableCell). caption ∷ (rest ++ body)) captioned.1 in
        let places = subst (λ (those : List TableCell). AllByRecursion (IsPlaced cols rows) (map place_of those)) whole placed in
        let pairs = subst (λ (those : List TableCell). AllPairs AreApart (map place_of those)) whole apart in
        let alone = recursion_from_All (AreApart (place_of caption)) (map place_of body)
        (AllPairs-head AreApart (place_of caption) (map place_of body) pairs) in
        let few : caption_rows_of (map out-TableCell (caption ∷ body)) ≤ 1 =
        cond_both (list_any (λ cell. is_caption cell.kind) (map out-TableCell (caption ∷ body))) 1 0 (λ n. n ≤ 1)
        (λ yes. omega arith) (λ no. omega arith) in
        let some : 1 ≤ rows = omega (arith, places.0.3, ap (λ (place : Place). place.bottom) captioned.0.place) in
        let run : (passes : OpenCell → Bool) → 1 ≤ run_end passes (map out-TableCell (caption ∷ body)) rows =
        λ passes. run_end-longest passes (map out-TableCell (caption ∷ body)) rows 1 some
        (caption_runs passes cols rows caption body captioned.0 places.1 alone) in
        let past = head_cases (λ end. 1 ≤ end) (map out-TableCell (caption ∷ body)) rows (run (λ cell. cell.in_head))
        (run (λ cell. is_header cell.kind)) in
        subst (λ (those : List TableCell). caption_rows_of (map out-TableCell those) ≤ head_end_of (map out-TableCell those) rows)
        (sym whole) (omega (arith, few, past))

    by_parts : (depth : ℕ) → IsSoundWithin depth table → (deep : ℕ) → IsSpellableWithin deep sound.breaking table →
        caption_height table ≤ head_end table
    by_parts zero well deep spelt = absurd well
    by_parts (suc depth) well zero spelt = absurd spelt
    by_parts (suc depth) well (suc deep) spelt =
        by_caption (out-Table table).cells spelt.caption spelt.body (out-Table table).cols (out-Table table).rows spelt.split
        spelt.captioned spelt.in_rows
        (recursion_from_All (IsPlaced (out-Table table).cols (out-Table table).rows) (places_of (out-Table table)) well.placed)
        well.apart
