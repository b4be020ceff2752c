-- The test for a sound problem: `low` is nowhere above `high` if it is not where the steps of `high` begin, and the least
-- places of the columns tell whether some widths are within the page.
use Rattle.std.proofs.Common.{◌≡◌, ◌≢◌, ℕ, ◌+◌, ◌-◌, ◌*◌, ◌/◌, ◌%◌, ◌<◌, ◌≤◌, zero, suc, List, [], ◌∷◌, ◌⊎◌, inl, inr, max, length}
use Rattle.std.proofs.Common.{Option, Some, None, unwrap_or, replicate, get_or, set, refl, sym, ap, ◌∙◌, arith}
use Rattle.std.specs.List.{All}
use Rattle.std.specs.Option.{IsSomeAnd}
use Rattle.std.proofs.lemmas.Bool.{cases_eq, cases_lt}
use Rattle.std.proofs.lemmas.List.{get_or-set_same, get_or-set_other, length-set, get_or-replicate, get_or_past, length-replicate}
use Rattle.std.proofs.lemmas.Nat.{div-mul-add, mod-mul-add}
use Rattle.tl_base.specs.declared.spacing.Spacing.{Spacing}
use Rattle.tl_base.specs.declared.steps.Config.{Config}
use Rattle.tl_base.specs.Steps.{AreSteps, first_width, height_at, IsLowAt}
use Rattle.tl_problem.specs.declared.cell.Cell.{Cell}
use Rattle.tl_base.specs.Sizes.{position}
use Rattle.tl_problem.specs.Problem.{ProblemModel, cell_width}
use Rattle.tl_problem.specs.Layouts.{WithinPage}
use Rattle.tl_problem.specs.inner.Demands.{cell_at, rises, no_cell}
use Rattle.tl_problem.specs.inner.Least.{step_at}
use Rattle.tl_problem.specs.inner.Soundness.{IsNowhereAbove, FitsPageWidth, AreWidest, IsNextPlace, IsOnPlaces, AreLeastPlaces}
use Rattle.tl_problem.specs.inner.Spanning.{IsInGrid, slot_of}
use Rattle.tl_problem.proofs.AreaSteps.{height-at-step, height-between}
use Rattle.tl_problem.proofs.DemandLemmas.{rises-length, rises-sum}
use Rattle.tl_problem.proofs.Heights.{IsLowAt-from, IsLowAt-higher, IsLowAt-wider, height-from_low}
use Rattle.tl_problem.proofs.NeedLemmas.{All-from_numbers, low-first}
use Rattle.tl_base.proofs.SizeLaws.{total-position, room-position, position-mono, position-gap}

-- ---- `low` nowhere above `high`

pub first_width-at : (steps : List Config) → 0 < length steps → first_width steps ≡ (step_at steps 0).width
first_width-at [] some = absurd (omega arith)
first_width-at (step ∷ steps) some = refl

module _ (low high : List Config) (low_steps : AreSteps low) (high_steps : AreSteps high) where
  pub nowhere_above-at : IsNowhereAbove low high → (k : ℕ) → k < length high →
      IsLowAt low (step_at high k).height (step_at high k).width
  nowhere_above-at above k within =
      let step = step_at high k in
      above step.height step.width (IsLowAt-from high step.height step.width (height-at-step high high_steps k within))

  pub nowhere_above-from : ((k : ℕ) → k < length high → IsLowAt low (step_at high k).height (step_at high k).width) →
      IsNowhereAbove low high
  nowhere_above-from each = λ h w is.
      let found = height-from_low high h w is in
      let from = low-first high high_steps h w is in
      elim (height-between high high_steps (first_width high) w found.0 from found.1) [
        | inl start ↦
            let first = first_width-at high high_steps.has_step in
            let at = height-at-step high high_steps 0 high_steps.has_step in
            let same = ap (height_at high) first ∙ at in
            let height : (step_at high 0).height ≡ found.0 = let both = sym same ∙ start in cc in
            IsLowAt-higher low (step_at high 0).height h w (omega (arith, height, found.2))
            (IsLowAt-wider low low_steps (step_at high 0).height (step_at high 0).width w (omega (arith, first, from))
            (each 0 high_steps.has_step))
        | inr later ↦
            let step = step_at high later.0 in
            IsLowAt-higher low step.height h w (omega (arith, later.1.1.1.1, found.2))
            (IsLowAt-wider low low_steps step.height step.width w later.1.1.1.0 (each later.0 later.1.0))
      ]

-- ---- the least places of columns

-- widths that give each cell its least width
abbrev GiveLeast : ℕ → List Cell → List ℕ → Type 0
GiveLeast gap cells widths = (k : ℕ) → k < length cells →
    position gap widths (cell_at cells k).left + first_width (cell_at cells k).low + gap ≤ position gap widths
    (cell_at cells k).right

module _ (cols : ℕ) (gap : ℕ) (cells : List Cell) (inside : All (IsInGrid cols) cells) where
  pub least_places-none : (places : List ℕ) → get_or places 0 0 ≡ 0 → AreLeastPlaces gap cells 0 places
  least_places-none places zeros = record {
    first = zeros;
    gaps = λ k below. absurd (omega arith);
    rooms = λ k within up. absurd (omega (arith, up, (inside k no_cell within).0));
    least = λ widths give place up. omega (arith, zeros, ap (λ p. get_or places p 0) (let e : place ≡ 0 = omega arith in e));
  }

  module _ (column place : ℕ) (places : List ℕ) (are : AreLeastPlaces gap cells column places)
      (next : IsNextPlace gap cells (column + 1) places column place) where
    -- no widths that give the cells their least widths begin the next column before this place
    pub next-least : (widths : List ℕ) → GiveLeast gap cells widths → place ≤ position gap widths (column + 1)
    next-least widths give =
        elim next.attained [
          | inl after ↦ omega (arith, after, are.least widths give column (omega arith), position-gap gap widths column)
          | inr ends ↦
              let cell = cell_at cells ends.0 in
              let ahead = (inside ends.0 no_cell ends.1.0).0 in
              let begins = are.least widths give cell.left (omega (arith, ahead, ends.1.1.0)) in
              let wide = give ends.0 ends.1.0 in
              let at = ap (position gap widths) ends.1.1.0 in
              omega (arith, begins, wide, at, ends.1.1.1)
        ]

    pub least_places-more : column + 1 < length places → AreLeastPlaces gap cells (column + 1) (set places (column + 1) place)
    least_places-more within = record {
      first = get_or-set_other places (column + 1) 0 place 0 (omega arith) ∙ are.first;
      gaps = λ k below. elim (cases_lt k column) [
        | inl before ↦ omega (arith, old k (omega arith), old (k + 1) (omega arith), are.gaps k before)
        | inr last ↦ let e : k ≡ column = omega arith in rw e (omega (arith, old column (omega arith), new, next.gaps))
      ];
      rooms = λ k cell up.
          let ahead = (inside k no_cell cell).0 in
          elim (cases_lt (cell_at cells k).right (column + 1)) [
            | inl before ↦ omega (
              arith,
              old (cell_at cells k).left (omega (arith, ahead)),
              old (cell_at cells k).right
                  (omega (arith, before)),
              are.rooms k cell (omega (arith, before)),
            )
            | inr ends ↦
                let e : (cell_at cells k).right ≡ column + 1 = omega arith in
                let at = ap (λ p. get_or (set places (column + 1) place) p 0) e in
                omega (arith, old (cell_at cells k).left (omega (arith, ahead, e)), at, new, next.rooms k cell (omega (arith, ahead, e)) e)
          ];
      least = λ widths give p up. elim (cases_lt p (column + 1)) [
        | inl before ↦ omega (arith, old p before, are.least widths give p (omega (arith, before)))
        | inr last ↦ let e : p ≡ column + 1 = omega arith in rw e (omega (arith, new, next-least widths give))
      ];
    } where
      old : (p : ℕ) → p < column + 1 → get_or (set places (column + 1) place) p 0 ≡ get_or places p 0
      old p before = get_or-set_other places (column + 1) p place 0 (omega arith)

      new : get_or (set places (column + 1) place) (column + 1) 0 ≡ place
      new = get_or-set_same places (column + 1) place 0 within

-- ---- the greatest least widths between two places of columns, one cell after another

abbrev pub nones : ℕ → List (Option ℕ)
nones n = replicate n None

pub none-everywhere : (n k : ℕ) → get_or (nones n) k None ≡ None
none-everywhere n k = elim (cases_lt k n) [
  | inl within ↦ get_or-replicate n k None None within
  | inr past ↦ get_or_past (nones n) k None (omega (arith, length-replicate {A = Option ℕ} n None, past))
]

pub grid-places : (side : ℕ) (cells : List Cell) (cols : ℕ) → cols < side → All (IsInGrid cols) cells → All (IsOnPlaces side) cells
grid-places side cells cols few grid k d within = let in_grid = grid k d within in (in_grid.0, omega (arith, in_grid.1, few))

slot-parts : (side left right : ℕ) (cell : Cell) → right < side → cell.right < side →
    slot_of side cell ≡ left * side + right → (cell.left ≡ left) × (cell.right ≡ right)
slot-parts side left right cell within inside same = (
  sym (div-mul-add cell.left side cell.right inside) ∙ ap (λ n. n / side) same ∙ div-mul-add left side right within,
  sym (mod-mul-add cell.left side cell.right inside) ∙ ap (λ n. n % side) same ∙ mod-mul-add left side right within,
)

module _ (side : ℕ) (cells : List Cell) where
  pub widest-none : (widest : List (Option ℕ)) → length widest ≡ side * side → ((pair : ℕ) → get_or widest pair None ≡ None) →
      AreWidest side cells 0 widest
  widest-none widest size clear = record {
    size = size;
    all = λ k below. absurd (omega arith);
    some = λ pair w is. let both : None ≡ Some w = sym (clear pair) ∙ is in absurd (cc);
  }

  module _ (k : ℕ) (widest : List (Option ℕ)) (h : AreWidest side cells k widest) where
    abbrev here : ℕ
    here = slot_of side (cell_at cells k)

    abbrev wide : ℕ
    wide = first_width (cell_at cells k).low

    abbrev before : Option ℕ
    before = get_or widest here None

    abbrev after : List (Option ℕ)
    after = set widest here (Some (max (unwrap_or before 0) wide))

    pub widest-more : here < side * side → AreWidest side cells (k + 1) after
    widest-more inside = record {
      size = length-set widest here (Some (max (unwrap_or before 0) wide)) ∙ h.size;
      all = λ j below. all j below (cases_eq (slot_of side (cell_at cells j)) here) (cases_eq j k);
      some = λ pair w is. some pair w is (cases_eq pair here);
    } where
      new : get_or after here None ≡ Some (max (unwrap_or before 0) wide)
      new = get_or-set_same widest here (Some (max (unwrap_or before 0) wide)) None (omega (arith, h.size, inside))

      old : (pair : ℕ) → pair ≢ here → get_or after pair None ≡ get_or widest pair None
      old pair apart = get_or-set_other widest here pair (Some (max (unwrap_or before 0) wide)) None apart

      at_most : (o : Option ℕ) (w : ℕ) → IsSomeAnd o (λ v. w ≤ v) → w ≤ unwrap_or o 0
      at_most None w none = absurd none
      at_most (Some v) w is = is

      all : (j : ℕ) → j < k + 1 → (slot_of side (cell_at cells j) ≡ here) ⊎ (slot_of side (cell_at cells j) ≢ here) →
          (j ≡ k) ⊎ (j ≢ k) →
          IsSomeAnd (get_or after (slot_of side (cell_at cells j)) None) (λ w. first_width (cell_at cells j).low ≤ w)
      all j below (inl same) (inl last) = rw (same, new) (omega (arith, ap (λ i. first_width (cell_at cells i).low) last))
      all j below (inl same) (inr earlier) = rw (same, new) (omega (
        arith,
        at_most before (first_width (cell_at cells j).low) (rw same at (h.all j (omega arith))),
      ))
      all j below (inr apart) (inl last) = absurd (apart (ap (λ i. slot_of side (cell_at cells i)) last))
      all j below (inr apart) (inr earlier) = rw (old (slot_of side (cell_at cells j)) apart) (h.all j (omega arith))

      given : (o : Option ℕ) → 0 < unwrap_or o 0 → o ≡ Some (unwrap_or o 0)
      given None some = absurd (omega arith)
      given (Some v) some = refl

      some : (pair w : ℕ) → get_or after pair None ≡ Some w → (pair ≡ here) ⊎ (pair ≢ here) →
          (j : ℕ) × ((j < k + 1) × ((slot_of side (cell_at cells j) ≡ pair) × (first_width (cell_at cells j).low ≡ w)))
      some pair w is (inr apart) =
          let found = h.some pair w (sym (old pair apart) ∙ is) in
          (found.0, (omega (arith, found.1.0), found.1.1))
      some pair w is (inl same) =
          let value : max (unwrap_or before 0) wide ≡ w =
          let both : Some (max (unwrap_or before 0) wide) ≡ Some w = sym new ∙ sym (ap (λ i. get_or after i None) same) ∙ is in
          ap (λ o. unwrap_or o 0) both in
          elim (cases_lt wide (unwrap_or before 0)) [
            | inl less ↦
                let found = h.some here (unwrap_or before 0) (given before (omega (arith, less))) in
                (found.0, (omega (arith, found.1.0), (found.1.1.0 ∙ sym same, omega (arith, found.1.1.1, less, value))))
            | inr more ↦ (k, (omega arith, (sym same, omega (arith, more, value))))
          ]

-- ---- the place of the next column, one column after another

module _ (side gap : ℕ) (cells : List Cell) (inside : All (IsOnPlaces side) cells) (widest : List (Option ℕ))
    (are : AreWidest side cells (length cells) widest)
    (left : ℕ) (places : List ℕ) (column place : ℕ) (within : column + 1 < side)
    (next : IsNextPlace gap cells left places column place) where
  abbrev pair : ℕ
  pair = left * side + (column + 1)

  pub next-skip : get_or widest pair None ≡ None → IsNextPlace gap cells (left + 1) places column place
  next-skip clear = record {
    gaps = next.gaps;
    rooms = λ k below up ends. elim (cases_eq (cell_at cells k).left left) [
      | inl same ↦
          let at : slot_of side (cell_at cells k) ≡ pair =
          ap (λ l. l * side + (cell_at cells k).right) same ∙ ap (λ r. left * side + r) ends in
          absurd (rw (at, clear) at (are.all k below))
      | inr apart ↦ next.rooms k below (omega arith) ends
    ];
    attained = next.attained;
  }

  pub next-more : (least : ℕ) → get_or widest pair None ≡ Some least →
      IsNextPlace gap cells (left + 1) places column (max place (get_or places left 0 + least + gap))
  next-more least is = record {
    gaps = omega (arith, next.gaps);
    rooms = λ k below up ends. elim (cases_eq (cell_at cells k).left left) [
      | inl same ↦
          let at : slot_of side (cell_at cells k) ≡ pair =
          ap (λ l. l * side + (cell_at cells k).right) same ∙ ap (λ r. left * side + r) ends in
          let wide : first_width (cell_at cells k).low ≤ least = rw (at, is) at (are.all k below) in
          omega (arith, wide, ap (λ l. get_or places l 0) same)
      | inr apart ↦ omega (arith, next.rooms k below (omega arith) ends)
    ];
    attained = elim (cases_lt place (get_or places left 0 + least + gap)) [
      | inr before ↦ elim next.attained [
        | inl after ↦ inl (omega (arith, after, before))
        | inr cell ↦ inr (cell.0, (cell.1.0, (cell.1.1.0, omega (arith, cell.1.1.1, before))))
      ]
      | inl later ↦
          let one = are.some pair least is in
          let in_grid = inside one.0 no_cell one.1.0 in
          let parts = slot-parts side left (column + 1) (cell_at cells one.0) within in_grid.1 one.1.1.0 in
          inr (one.0, (one.1.0, (parts.1, omega (arith, later, one.1.1.1, ap (λ l. get_or places l 0) parts.0))))
    ];
  }

-- ---- widths within the page, by the least places

module _ (cols : ℕ) (spacing : Spacing) (width : ℕ) (cells : List Cell) (inside : All (IsInGrid cols) cells) where
  abbrev page : ProblemModel
  page = record { cols = cols; rows = 0; spacing = spacing; width = width; cells = cells }

  abbrev gap : ℕ
  gap = spacing.gap

  page-gives : (widths : List ℕ) → WithinPage page widths → GiveLeast gap cells widths
  page-gives widths within k cell =
      let ahead = (inside k no_cell cell).0 in
      omega (arith, within.cells k no_cell cell, room-position gap widths (cell_at cells k).left (cell_at cells k).right ahead)

  -- columns that end no later than the page allows
  page-ends : (widths : List ℕ) → WithinPage page widths → 0 < cols → position gap widths cols + spacing.edges ≤ width + gap
  page-ends widths within some =
      let ends = total-position gap spacing.edges widths (omega (arith, within.columns)) in
      let at = ap (position gap widths) within.columns in
      omega (arith, ends, at, within.page)

  pub not-past : (column place : ℕ) (places : List ℕ) → column < cols → AreLeastPlaces gap cells column places →
      IsNextPlace gap cells (column + 1) places column place → width + gap < place → FitsPageWidth cols spacing width cells → ⊥
  not-past column place places below are next past fits =
      let least = next-least cols gap cells inside column place places are next fits.0 (page-gives fits.0 fits.1) in
      let later = position-mono gap fits.0 (column + 1) cols (omega arith) in
      omega (arith, least, later, page-ends fits.0 fits.1 (omega arith), past)

  pub fits-none : cols ≡ 0 → FitsPageWidth cols spacing width cells
  fits-none empty = (
    [],
    record {
      columns = sym empty;
      page = omega arith;
      cells = All-from_numbers (λ cell. first_width cell.low ≤ cell_width page [] cell) cells
          (λ k within. let at = inside k no_cell within in absurd (omega (arith, at.0, at.1, empty)));
    },
  )

  module _ (places : List ℕ) (are : AreLeastPlaces gap cells cols places) (some : 0 < cols) where
    pub fits-ends : FitsPageWidth cols spacing width cells → get_or places cols 0 + spacing.edges ≤ width + gap
    fits-ends fits = omega (arith, are.least fits.0 (page-gives fits.0 fits.1) cols (omega arith), page-ends fits.0 fits.1 some)

    -- the places without the gaps before them
    abbrev bare : ℕ → ℕ
    bare k = get_or places k 0 - gap * k

    enough : (k : ℕ) → k ≤ cols → gap * k ≤ get_or places k 0
    enough zero up = omega arith
    enough (suc k) up =
        let before = enough k (omega arith) in
        let step = are.gaps k (omega arith) in
        let product : gap * suc k ≡ gap * k + gap = grind arith in
        let next : get_or places (k + 1) 0 ≡ get_or places (suc k) 0 =
        ap (λ p. get_or places p 0) (let e : k + 1 ≡ suc k = omega arith in e) in
        omega (arith, before, step, product, next)

    rising : (k : ℕ) → k < cols → bare k ≤ bare (k + 1)
    rising k below =
        let product : gap * (k + 1) ≡ gap * k + gap = grind arith in
        omega (arith, are.gaps k below, product)

    abbrev widths : List ℕ
    widths = rises bare cols

    at-place : (k : ℕ) → k ≤ cols → position gap widths k ≡ get_or places k 0
    at-place k up =
        omega (arith, rises-sum bare cols rising k up, enough k up, are.first)

    pub ends-fit : get_or places cols 0 + spacing.edges ≤ width + gap → FitsPageWidth cols spacing width cells
    ends-fit ends = (
      widths,
      record {
        columns = rises-length bare cols;
        page =
            let all = total-position gap spacing.edges widths (omega (arith, rises-length bare cols)) in
            let at = ap (position gap widths) (rises-length bare cols) in
            omega (arith, all, at, at-place cols (omega arith), ends);
        cells = All-from_numbers (λ cell. first_width cell.low ≤ cell_width page widths cell) cells (λ k within.
            let cell = cell_at cells k in
            let in_grid = inside k no_cell within in
            let wide = are.rooms k within in_grid.1 in
            omega (
              arith,
              room-position gap widths cell.left cell.right in_grid.0,
              at-place cell.left (omega (arith, in_grid.0, in_grid.1)),
              at-place
                  cell.right in_grid.1,
              wide,
            ));
      },
    )
