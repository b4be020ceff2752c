-- The rows of a table: its cells below the caption, row by row, and the grid that they are.
use Rattle.std.proofs.Common.{◌≡◌, ◌∙◌, ◌⊎◌, ℕ, zero, suc, ◌+◌, ◌-◌, ◌<◌, ◌≤◌, max, List, [], ◌∷◌, ◌++◌, map, length-append}
use Rattle.std.proofs.Common.{length, get_or}
use Rattle.std.proofs.Common.{Contains, All, refl, sym, ap, subst, inl, inr, arith}
use Rattle.std.specs.List.{AllByRecursion, AllPairs, Any}
use Rattle.std.proofs.lemmas.Bool.{cases_lt}
use Rattle.std.proofs.lemmas.List.{length-map, get_or-map, map-append, get_or-append-add}
use Rattle.std.proofs.lemmas.List.Elements.{recursion_from_All, All-contains, Contains-append_cases, Contains-append_left}
use Rattle.std.proofs.lemmas.List.Elements.{Contains-append_right}
use Rattle.tl_base.specs.declared.breaking.Breaking.{Breaking}
use Rattle.tl_base.specs.declared.limits.TheConstants.{MAX_COLUMNS, MAX_ROWS}
use Rattle.tl_base.proofs.Members.{All-from_Contains, map-Contains, Contains-map, Contains-first, Contains-cases, Contains-none}
use Rattle.tl_base.proofs.Members.{AllByRecursion-suffix, AllPairs-head}
use Rattle.tl_grid.specs.declared.shape.Place.{Place}
use Rattle.tl_grid.specs.Dropping.{IsPlaced}
use Rattle.tl_grid.specs.Slots.{HasSlot, AreApart, IsFilledToLeft, HasAnchorInColumn, HasAnchorInRow}
use Rattle.tl_table.specs.declared.cell.Table.{Table}
use Rattle.tl_table.specs.declared.cell.TableCell.{TableCell}
use Rattle.tl_table.specs.Tables.{OpenTable}
use Rattle.tl_table.specs.Formed.{lowered}
use Rattle.tl_table.specs.Sound.{ComesBefore, IsSoundBy, place_of, places_of}
use Rattle.tl_table.specs.Spellable.{AreCaption, IsSpellableBy}
use Rattle.tl_html.proofs.GridAgain.{IsGrid}
use Rattle.tl_html.proofs.Cells.{joined}

-- ---- places so many rows up

abbrev pub raised : ℕ → Place → Place
raised down place = record { left = place.left; right = place.right; top = place.top - down; bottom = place.bottom - down }

pub lowered_raised : (down : ℕ) (place : Place) → down ≤ place.top → down ≤ place.bottom →
    lowered down (raised down place) ≡ place
lowered_raised down place low high =
    let top : place.top - down + down ≡ place.top = omega arith in
    let bottom : place.bottom - down + down ≡ place.bottom = omega arith in
    λ i. record { left = place.left; right = place.right; top = top i; bottom = bottom i }

raised_lowered : (down : ℕ) (place : Place) → raised down (lowered down place) ≡ place
raised_lowered down place =
    let top : place.top + down - down ≡ place.top = omega arith in
    let bottom : place.bottom + down - down ≡ place.bottom = omega arith in
    λ i. record { left = place.left; right = place.right; top = top i; bottom = bottom i }

-- ---- lists

pairs_suffix : {X : Type 0} (R : X → X → Type 0) (xs ys : List X) → AllPairs R (xs ++ ys) → AllPairs R ys
pairs_suffix R xs ys pairs i j d before within =
    subst (λ x. R x (get_or ys j d)) (get_or-append-add xs ys i d)
    (subst (R (get_or (xs ++ ys) (length xs + i) d)) (get_or-append-add xs ys j d)
    (pairs (length xs + i) (length xs + j) d (omega arith) (omega (arith, length-append xs ys))))

module _ (down : ℕ) where
  abbrev pub ups : List Place → List Place
  ups places = map (raised down) places

  order_up : (places : List Place) → All (λ (p : Place). down ≤ p.top) places → AllPairs ComesBefore places →
      AllPairs ComesBefore (ups places)
  order_up places low pairs i j d before within =
      let long : length (ups places) ≡ length places = length-map places (raised down) in
      let e = lowered down d in
      let back : raised down e ≡ d = raised_lowered down d in
      let at_i : get_or (ups places) i d ≡ raised down (get_or places i e) = ap (get_or (ups places) i) (sym back)
      ∙ get_or-map (raised down) places i e (raised down e) (omega arith) in
      let at_j : get_or (ups places) j d ≡ raised down (get_or places j e) = ap (get_or (ups places) j) (sym back)
      ∙ get_or-map (raised down) places j e (raised down e) (omega arith) in
      let low_i = low i e (omega arith) in
      let low_j = low j e (omega arith) in
      subst (λ p. ComesBefore p (get_or (ups places) j d)) (sym at_i)
      (subst (ComesBefore (raised down (get_or places i e))) (sym at_j)
      (elim (pairs i j e before (omega arith)) [
        | inl lower ↦ inl (omega (arith, lower, low_i, low_j))
        | inr beside ↦ inr (ap (λ n. n - down) beside.0, beside.1)
      ]))

  apart_up : (places : List Place) → All (λ (p : Place). down ≤ p.top) places → AllPairs AreApart places →
      AllPairs AreApart (ups places)
  apart_up places low pairs i j d before within x y one other =
      let long : length (ups places) ≡ length places = length-map places (raised down) in
      let e = lowered down d in
      let back : raised down e ≡ d = raised_lowered down d in
      let at_i : get_or (ups places) i d ≡ raised down (get_or places i e) = ap (get_or (ups places) i) (sym back)
      ∙ get_or-map (raised down) places i e (raised down e) (omega arith) in
      let at_j : get_or (ups places) j d ≡ raised down (get_or places j e) = ap (get_or (ups places) j) (sym back)
      ∙ get_or-map (raised down) places j e (raised down e) (omega arith) in
      let low_i = low i e (omega arith) in
      let low_j = low j e (omega arith) in
      let first : HasSlot x y (raised down (get_or places i e)) = subst (HasSlot x y) at_i one in
      let second : HasSlot x y (raised down (get_or places j e)) = subst (HasSlot x y) at_j other in
      pairs i j e before (omega arith) x (y + down)
      (first.0, first.1, omega (arith, first.2, low_i), omega (arith, first.3))
      (second.0, second.1, omega (arith, second.2, low_j), omega (arith, second.3))

-- ---- cells by rows

-- the cells rise from a row on
abbrev Rise : ℕ → List TableCell → Type 0
Rise y [] = Unit {0}
Rise y (c ∷ cells) = (y ≤ (place_of c).top) × Rise (place_of c).top cells

abbrev pub InRow : ℕ → List TableCell → Type 0
InRow y cells = AllByRecursion (λ c. (place_of c).top ≡ y) cells

abbrev pub InRows : ℕ → List (List TableCell) → Type 0
InRows y [] = Unit {0}
InRows y (cells ∷ rows) = InRow y cells × InRows (y + 1) rows

rise_less : (y z : ℕ) (cells : List TableCell) → z ≤ y → Rise y cells → Rise z cells
rise_less y z [] le rise = tt
rise_less y z (c ∷ cells) le rise = (omega (arith, rise.0), rise.1)

-- the first row, and the cells after it
first_row : (y : ℕ) (cells : List TableCell) → Rise y cells →
    (row : List TableCell) × (rest : List TableCell) × (row ++ rest ≡ cells) × InRow y row × Rise (y + 1) rest
first_row y [] rise = ([], [], refl, tt, tt)
first_row y (c ∷ cells) rise =
    elim (cases_lt y (place_of c).top) [
      | inl later ↦ ([], c ∷ cells, refl, tt, (omega arith, rise.1))
      | inr here ↦
          let level : (place_of c).top ≡ y = omega (arith, rise.0) in
          let more = first_row y cells (rise_less (place_of c).top y cells (omega arith) rise.1) in
          (c ∷ more.0, more.1, ap (λ (cs : List TableCell). c ∷ cs) more.2, (level, more.3), more.4)
    ]

pub by_rows : (n y : ℕ) (cells : List TableCell) → Rise y cells → AllByRecursion (λ c. (place_of c).top < y + n) cells →
    (rows : List (List TableCell)) × (joined rows ≡ cells) × (length rows ≡ n) × InRows y rows
by_rows zero y [] rise within = ([], refl, refl, tt)
by_rows zero y (c ∷ cells) rise within = absurd (omega (arith, rise.0, within.0))
by_rows (suc n) y cells rise within =
    let one = first_row y cells rise in
    let later : AllByRecursion (λ c. (place_of c).top < y + suc n) one.1 =
    AllByRecursion-suffix (λ c. (place_of c).top < y + suc n) one.0 one.1
    (subst (AllByRecursion (λ c. (place_of c).top < y + suc n)) (sym one.2) within) in
    let same : y + suc n ≡ y + 1 + n = omega arith in
    let rest = by_rows n (y + 1) one.1 one.4 (subst (λ m. AllByRecursion (λ c. (place_of c).top < m) one.1) same later) in (
      one.0 ∷ rest.0,
      ap (λ (cs : List TableCell). one.0 ++ cs) rest.1 ∙ one.2,
      ap suc rest.2,
      (one.3, rest.3),
    )

rise_from : (y : ℕ) (cells : List TableCell) → AllPairs ComesBefore (map place_of cells) →
    ((i : ℕ) (d : Place) → i < length cells → y ≤ (get_or (map place_of cells) i d).top) → Rise y cells
rise_from y [] pairs low = tt
rise_from y (c ∷ cells) pairs low = (
  low 0 (place_of c) (omega arith),
  rise_from (place_of c).top cells (λ i j d before within. pairs (suc i) (suc j) d (omega arith) (omega arith))
      (λ i d within. from (get_or (map place_of cells) i d) (pairs 0 (suc i) d (omega arith) (let long =
      length-map cells place_of in omega arith))),
)
  where
    from : (p : Place) → ComesBefore (place_of c) p → (place_of c).top ≤ p.top
    from p (inl lower) = omega arith
    from p (inr beside) = omega (arith, beside.0)

-- ---- a sound table that a file can spell: its rows, and the grid that they are

module _ (breaking : Breaking) (inside spellable : Table → Type 0) (table : OpenTable) (sound : IsSoundBy inside table)
    (spelt : IsSpellableBy spellable breaking table) where
  abbrev pub down : ℕ
  down = length spelt.caption

  abbrev pub below : List TableCell
  below = spelt.body

  abbrev pub places : List Place
  places = ups down (map place_of below)

  -- the columns of the cells below the caption: none where there is no cell
  abbrev columns_of : List TableCell → ℕ
  columns_of [] = 0
  columns_of (c ∷ cells) = table.cols

  abbrev pub cols : ℕ
  cols = columns_of below

  abbrev pub rows : ℕ
  rows = table.rows - down

  pub few_captions : down ≤ 1
  few_captions = by_cells spelt.caption spelt.captioned
    where
      by_cells : (caption : List TableCell) → AreCaption table.cols caption → length caption ≤ 1
      by_cells [] is = omega arith
      by_cells (c ∷ cells) is = let none : length cells ≡ 0 = ap length is.1 in omega arith

  pub places_split : places_of table ≡ map place_of spelt.caption ++ map place_of below
  places_split = ap (map place_of) spelt.split ∙ map-append place_of spelt.caption below

  -- a caption is over all columns of the first row
  on_top : (p : Place) → Contains (map place_of spelt.caption) p →
      (down ≡ 1) × (p ≡ record { left = 0; right = table.cols; top = 0; bottom = 1 })
  on_top p has =
      let at = map-Contains place_of spelt.caption p has in
      by_cells spelt.caption spelt.captioned at.0 at.1 at.2
    where
      by_cells : (caption : List TableCell) → AreCaption table.cols caption → (c : TableCell) → Contains caption c →
          place_of c ≡ p →
          (length caption ≡ 1) × (p ≡ record { left = 0; right = table.cols; top = 0; bottom = 1 })
      by_cells [] is c there same = absurd (Contains-none c there)
      by_cells (cap ∷ cells) is c there same = elim (Contains-cases cap cells c there) [
        | inl here ↦ (
          (let none : length cells ≡ 0 = ap length is.1 in omega arith),
          sym same ∙ sym (ap place_of here) ∙ is.0.place,
        )
        | inr later ↦ absurd (Contains-none c (subst (λ (cs : List TableCell). Contains cs c) is.1 later))
      ]

  -- a place of the table is that of its caption or of a cell below
  whose : (p : Place) → Contains (places_of table) p →
      Contains (map place_of spelt.caption) p ⊎ Contains (map place_of below) p
  whose p has = Contains-append_cases (map place_of spelt.caption) (map place_of below) p
      (subst (λ (ps : List Place). Contains ps p) places_split has)

  from_caption : (p : Place) → Contains (map place_of spelt.caption) p → Contains (places_of table) p
  from_caption p has = subst (λ (ps : List Place). Contains ps p) (sym places_split)
      (Contains-append_left (map place_of spelt.caption) (map place_of below) p has)

  from_below : (p : Place) → Contains (map place_of below) p → Contains (places_of table) p
  from_below p has = subst (λ (ps : List Place). Contains ps p) (sym places_split)
      (Contains-append_right (map place_of spelt.caption) (map place_of below) p has)

  lies : (p : Place) → Contains (places_of table) p → IsPlaced table.cols table.rows p
  lies p has = All-contains (IsPlaced table.cols table.rows) (places_of table) p sound.placed has

  -- each cell below the caption lies below its row
  low : (p : Place) → Contains (map place_of below) p → down ≤ p.top
  low p has = by_places (map place_of spelt.caption) refl
    where
      by_places : (above : List Place) → map place_of spelt.caption ≡ above → down ≤ p.top
      by_places [] is =
          let none : length (map place_of spelt.caption) ≡ 0 = ap length is in
          let long : length (map place_of spelt.caption) ≡ down = length-map spelt.caption place_of in
          omega arith
      by_places (q ∷ above) is =
          let cap = on_top q (subst (λ (ps : List Place). Contains ps q) (sym is) (Contains-first q above)) in
          let apart = All-contains (AreApart q) (above ++ map place_of below) p
          (AllPairs-head AreApart q (above ++ map place_of below)
          (subst (AllPairs AreApart) (places_split ∙ ap (λ (ps : List Place). ps ++ map place_of below) is) sound.apart))
          (Contains-append_right above (map place_of below) p has) in
          let placed = lies p (from_below p has) in
          let left : q.left ≡ 0 = ap (λ (r : Place). r.left) cap.1 in
          let right : q.right ≡ table.cols = ap (λ (r : Place). r.right) cap.1 in
          let top : q.top ≡ 0 = ap (λ (r : Place). r.top) cap.1 in
          let bottom : q.bottom ≡ 1 = ap (λ (r : Place). r.bottom) cap.1 in
          elim (cases_lt 0 p.top) [
            | inl under ↦ omega (arith, cap.0, under)
            | inr beside ↦ absurd (apart p.left 0
                (omega (arith, left), omega (arith, right, placed.0, placed.1), omega (arith, top), omega (arith, bottom))
                (omega arith, placed.0, omega (arith, beside), omega (arith, placed.2)))
          ]

  wide_below : (p : Place) → Contains (map place_of below) p → cols ≡ table.cols
  wide_below p has = by_cells below has
    where
      by_cells : (cells : List TableCell) → Contains (map place_of cells) p → columns_of cells ≡ table.cols
      by_cells [] there = absurd (Contains-none p there)
      by_cells (c ∷ cells) there = refl

  under : (p : Place) → Contains (map place_of below) p → (down ≤ p.top) × IsPlaced cols rows (raised down p)
  under p has =
      let placed = lies p (from_below p has) in
      let below_it = low p has in (
        below_it,
        (
          placed.0,
          omega (arith, placed.1, wide_below p has),
          omega (arith, placed.2, below_it),
          omega (arith, placed.3),
        ),
      )

  pub under_caption : (c : TableCell) → Contains below c → (down ≤ (place_of c).top) ×
      IsPlaced cols rows (raised down (place_of c))
  under_caption c has = under (place_of c) (Contains-map place_of below c has)

  tops_low : All (λ (p : Place). down ≤ p.top) (map place_of below)
  tops_low = All-from_Contains (λ (p : Place). down ≤ p.top) (map place_of below) low

  below_in_order : AllPairs ComesBefore (map place_of below)
  below_in_order = pairs_suffix ComesBefore (map place_of spelt.caption) (map place_of below)
      (subst (AllPairs ComesBefore) places_split sound.in_order)

  below_apart : AllPairs AreApart (map place_of below)
  below_apart = pairs_suffix AreApart (map place_of spelt.caption) (map place_of below)
      (subst (AllPairs AreApart) places_split sound.apart)

  -- some place of the grid is so where some place of the table is that is none of a caption
  any_below : (P Q : Place → Type 0) → ((p : Place) → Contains (map place_of spelt.caption) p → P p → ⊥) →
      ((p : Place) → Contains (map place_of below) p → P p → Q (raised down p)) → Any P (places_of table) → Any Q places
  any_below P Q none so any = elim (whose any.1 (any.0, any.2, any.3)) [
    | inl above ↦ absurd (none any.1 above any.4)
    | inr there ↦
        let has = Contains-map (raised down) (map place_of below) any.1 there in
        (has.0, raised down any.1, has.1, has.2, so any.1 there any.4)
  ]

  filled_left : (q : Place) → Contains places q → IsFilledToLeft places q
  filled_left q has x lt =
      let up = map-Contains (raised down) (map place_of below) q has in
      let p = up.0 in
      let under_it = low p up.1 in
      let left : p.left ≡ q.left = ap (λ (r : Place). r.left) up.2 in
      let top : p.top - down ≡ q.top = ap (λ (r : Place). r.top) up.2 in
      any_below (HasSlot x p.top) (HasSlot x q.top)
      (λ r above slot.
      let cap = on_top r above in
      let bottom : r.bottom ≡ 1 = ap (λ (s : Place). s.bottom) cap.1 in
      omega (arith, slot.3, under_it, cap.0))
      (λ r there slot.
      let under_that = low r there in
      (slot.0, slot.1, omega (arith, slot.2, top), omega (arith, slot.3, top, under_it)))
      (All-contains (IsFilledToLeft (places_of table)) (places_of table) p spelt.filled (from_below p up.1) x
      (omega (arith, lt, left)))

  -- the places are a grid
  pub places_grid : IsGrid cols rows places
  places_grid = record {
    placed = All-from_Contains (IsPlaced cols rows) places (λ q has.
        let up = map-Contains (raised down) (map place_of below) q has in
        subst (IsPlaced cols rows) up.2 (under up.0 up.1).1);
    apart = apart_up down (map place_of below) tops_low below_apart;
    in_order = order_up down (map place_of below) tops_low below_in_order;
    filled = All-from_Contains (IsFilledToLeft places) places filled_left;
  }

  -- a place of the first row below the caption is in the first column
  first_column : (p : Place) → Contains (map place_of below) p → (q : Place) × Contains (map place_of below) q × (q.left ≡ 0)
  first_column p has =
      let placed = lies p (from_below p has) in
      let any = sound.rows down (omega (arith, placed.2, placed.3, low p has)) in
      first any.1 (any.0, any.2, any.3) any.4
    where
      not_above : (r : Place) → Contains (map place_of spelt.caption) r → down < r.bottom → ⊥
      not_above r above lt =
          let cap = on_top r above in
          let bottom : r.bottom ≡ 1 = ap (λ (s : Place). s.bottom) cap.1 in
          omega (arith, cap.0)

      first : (q : Place) → Contains (places_of table) q → q.top ≡ down →
          (r : Place) × Contains (map place_of below) r × (r.left ≡ 0)
      first q there top = elim (whose q there) [
        | inl above ↦ absurd (not_above q above (let placed = lies q there in omega (arith, placed.2, top)))
        | inr under_it ↦ elim (cases_lt 0 q.left) [
          | inr edge ↦ (q, under_it, omega (arith, edge))
          | inl past ↦
              let any = All-contains (IsFilledToLeft (places_of table)) (places_of table) q spelt.filled there 0 past in
              let r = any.1 in
              elim (whose r (any.0, any.2, any.3)) [
                | inl above ↦ absurd (not_above r above (omega (arith, any.4.3, top)))
                | inr beside ↦ (r, beside, omega (arith, any.4.0))
              ]
        ]
      ]

  pub places_columns : (x : ℕ) → x < cols → HasAnchorInColumn places x
  places_columns x lt = by_cells below refl lt
    where
      in_grid : (p : Place) → Contains (map place_of below) p → p.left ≡ x → HasAnchorInColumn places x
      in_grid p has left =
          let there = Contains-map (raised down) (map place_of below) p has in
          (there.0, raised down p, there.1, there.2, left)

      by_cells : (cells : List TableCell) → below ≡ cells → x < columns_of cells → HasAnchorInColumn places x
      by_cells [] is less = absurd (omega (arith, less))
      by_cells (c ∷ cells) is less =
          let some : Contains (map place_of below) (place_of c) = subst
          (λ (cs : List TableCell). Contains (map place_of cs) (place_of c)) (sym is)
          (Contains-first (place_of c) (map place_of cells)) in
          let any = sound.columns x less in
          elim (whose any.1 (any.0, any.2, any.3)) [
            | inr there ↦ in_grid any.1 there any.4
            | inl above ↦
                let cap = on_top any.1 above in
                let left : any.1.left ≡ 0 = ap (λ (s : Place). s.left) cap.1 in
                let found = first_column (place_of c) some in
                in_grid found.0 found.1 (found.2 ∙ sym left ∙ any.4)
          ]

  pub places_rows : (y : ℕ) → y < rows → HasAnchorInRow places y
  places_rows y lt = any_below (λ (p : Place). p.top ≡ y + down) (λ (p : Place). p.top ≡ y)
      (λ p above top.
      let cap = on_top p above in
      let first : p.top ≡ 0 = ap (λ (s : Place). s.top) cap.1 in
      omega (arith, cap.0, top))
      (λ p there top. omega (arith, top)) (sound.rows (y + down) (omega (arith, lt)))

  -- the cells by rows
  pub rows_of : (lines : List (List TableCell)) × (joined lines ≡ below) × (length lines ≡ rows) × InRows down lines
  rows_of = by_rows rows down below
      (rise_from down below below_in_order (λ i d within. tops_low i d (let long = length-map below place_of in omega arith)))
      (recursion_from_All (λ c. (place_of c).top < down + rows) below
      (All-from_Contains (λ c. (place_of c).top < down + rows) below (λ c has.
      let is = under_caption c has in omega (arith, is.0, is.1.2, is.1.3))))

  -- how large the grid is
  pub high_is : table.rows ≡ rows + down
  high_is = by_places (map place_of spelt.caption) refl
    where
      by_places : (above : List Place) → map place_of spelt.caption ≡ above → table.rows ≡ rows + down
      by_places [] is =
          let none : length (map place_of spelt.caption) ≡ 0 = ap length is in
          let long : length (map place_of spelt.caption) ≡ down = length-map spelt.caption place_of in
          omega arith
      by_places (q ∷ above) is =
          let here = subst (λ (ps : List Place). Contains ps q) (sym is) (Contains-first q above) in
          let placed = lies q (from_caption q here) in
          omega (arith, placed.2, placed.3, (on_top q here).0)

  pub wide_is : table.cols ≡ max cols down
  wide_is = by_cells below refl
    where
      no_column : (n : ℕ) → table.cols ≡ n → ((x : ℕ) → x < table.cols → HasAnchorInColumn (places_of table) x) →
          places_of table ≡ [] → table.cols ≡ 0
      no_column zero is any none = is
      no_column (suc n) is any none =
          let found = any 0 (omega (arith, is)) in
          absurd (Contains-none found.1 (subst (λ (ps : List Place). Contains ps found.1) none
          (found.0, found.2, found.3)))

      one_column : (q : Place) → places_of table ≡ q ∷ [] → q.left ≡ 0 → table.cols ≤ 1
      one_column q alone left = elim (cases_lt 1 table.cols) [
        | inr few ↦ few
        | inl more ↦
            let found = sound.columns 1 more in
            elim (Contains-cases q [] found.1 (subst (λ (ps : List Place). Contains ps found.1) alone
            (found.0, found.2, found.3))) [
              | inl same ↦ absurd (let is : q.left ≡ found.1.left = ap (λ (p : Place). p.left) same in
                  omega (arith, left, found.4))
              | inr none ↦ absurd (Contains-none found.1 none)
            ]
      ]

      alone : (above : List Place) → map place_of spelt.caption ≡ above → map place_of below ≡ [] → cols ≡ 0 →
          table.cols ≡ max cols down
      alone [] is none no_cols =
          let empty : places_of table ≡ [] = places_split ∙ ap (λ (ps : List Place). ps ++ map place_of below) is ∙ none in
          let zero_cols = no_column table.cols refl sound.columns empty in
          let no_caption : length (map place_of spelt.caption) ≡ 0 = ap length is in
          let long : length (map place_of spelt.caption) ≡ down = length-map spelt.caption place_of in
          omega arith
      alone (q ∷ above) is none no_cols =
          let here = subst (λ (ps : List Place). Contains ps q) (sym is) (Contains-first q above) in
          let cap = on_top q here in
          let many : length (map place_of spelt.caption) ≡ down = length-map spelt.caption place_of in
          let long : length (map place_of spelt.caption) ≡ suc (length above) = ap length is in
          let rest : above ≡ [] = no_more above (omega (arith, cap.0)) in
          let whole : places_of table ≡ q ∷ [] = places_split ∙ ap (λ (ps : List Place). ps ++ map place_of below) is
          ∙ ap (λ (ps : List Place). q ∷ (ps ++ map place_of below)) rest ∙ ap (λ (ps : List Place). q ∷ ps) none in
          let left : q.left ≡ 0 = ap (λ (p : Place). p.left) cap.1 in
          let few = one_column q whole left in
          let placed = lies q (from_caption q here) in
          omega (arith, few, placed.0, placed.1, cap.0)
        where
          no_more : (ps : List Place) → length ps ≡ 0 → ps ≡ []
          no_more [] is = refl
          no_more (p ∷ ps) is = absurd (omega (arith, is))

      by_cells : (cells : List TableCell) → below ≡ cells → table.cols ≡ max cols down
      by_cells [] is = alone (map place_of spelt.caption) refl (ap (map place_of) is) (ap columns_of is)
      by_cells (c ∷ cells) is =
          let some : Contains (map place_of below) (place_of c) = subst
          (λ (cs : List TableCell). Contains (map place_of cs) (place_of c)) (sym is)
          (Contains-first (place_of c) (map place_of cells)) in
          let placed = lies (place_of c) (from_below (place_of c) some) in
          omega (arith, wide_below (place_of c) some, placed.0, placed.1, few_captions)

  pub few_columns : cols ≤ MAX_COLUMNS
  few_columns = omega (arith, wide_is, sound.few_columns)

  pub few_rows : rows ≤ MAX_ROWS
  few_rows = omega (arith, spelt.few_rows)
