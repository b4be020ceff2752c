-- What the cells need, by number, says what layouts, bounds and tight placements ask for: sizes give the one where they
-- give the other.
use Rattle.std.proofs.Common.{◌≡◌, ℕ, ◌+◌, ◌*◌, ◌<◌, ◌≤◌, zero, suc, Bool, true, false, cond, nat_le, IsSome, IsNone, ◌↔◌, List}
use Rattle.std.proofs.Common.{[], ◌∷◌, ◌++◌}
use Rattle.std.proofs.Common.{length, get_or, set, filter, sum, Option, Some, None, refl, sym, ap, ◌∙◌, subst, inl, inr, arith}
use Rattle.std.specs.List.{All, AllPairs, last_or, sum_by}
use Rattle.std.specs.Option.{option_map, IfSome}
use Rattle.std.proofs.lemmas.Bool.{cases_eq, cases_lt}
use Rattle.std.proofs.lemmas.List.{get_or_default, get_or_push, get_or_append_left, get_or-set_same, get_or-set_other}
use Rattle.std.proofs.lemmas.List.Sums.{sum_by-cons, sum_by-le}
use Rattle.tl_base.specs.declared.limits.TheConstants.{MAX_COLUMNS, MAX_HEIGHT, MAX_PAGE_WIDTH, MAX_ROWS}
use Rattle.tl_base.specs.declared.steps.Config.{Config}
use Rattle.tl_base.specs.Steps.{AreSteps, first_width, height_at, IsLowAt, first_height}
use Rattle.tl_problem.specs.declared.axis.Axis.TheVariants.{Columns, Rows}
use Rattle.tl_problem.specs.declared.cell.Cell.{Cell}
use Rattle.tl_problem.specs.Problem.{ProblemModel, cell_width, cell_height}
use Rattle.tl_problem.specs.Layouts.{WithinPage, GiveHigh}
use Rattle.tl_problem.specs.Sound.{IsSound, IsSoundCell}
use Rattle.tl_problem.specs.Bounds.{IsGreatestRoom, GiveLow}
use Rattle.tl_base.specs.Sizes.{IsLeastTotal}
use Rattle.tl_problem.specs.declared.placed.Placed.{Placed}
use Rattle.tl_problem.specs.Placements.{AreLeast, IsPlacement}
use Rattle.tl_problem.specs.Tight.{KeepHigh, IsTight}
use Rattle.tl_problem.specs.inner.Demands.{cell_at, GiveDemands, no_cell}
use Rattle.tl_problem.specs.inner.Needs.{NeedHigh, NeedLow, NeedWidths, NeedLeast}
use Rattle.tl_problem.proofs.Heights.{IsLowAt-from, IsLowAt-higher, IsLowAt-wider, height-from_low, height-from_first}
use Rattle.tl_problem.proofs.Heights.{test_le_false}
use Rattle.tl_problem.proofs.SpanLaws.{room-in_page}
use Rattle.tl_problem.proofs.DemandLemmas.{few-cells}
use Rattle.tl_problem.proofs.TightLaws.{least-total, KeepHigh-itself}
use Rattle.tl_base.proofs.SizeLaws.{sum-total}

-- what is so of each cell by number is so of all
pub All-from_numbers : (P : Cell → Type 0) (cells : List Cell) → ((k : ℕ) → k < length cells → P (cell_at cells k)) → All P cells
All-from_numbers P cells each k d within = subst P (get_or_default cells k no_cell d within) (each k within)

-- a height is what it is
same-height : (steps : List Config) (w h k : ℕ) → height_at steps w ≡ Some h → height_at steps w ≡ Some k → h ≡ k
same-height steps w h k one other = let both : Some h ≡ Some k = sym one ∙ other in cc

-- what is low is at most its height
pub low-le : (steps : List Config) (w h k : ℕ) → height_at steps w ≡ Some h → IsLowAt steps k w → h ≤ k
low-le steps w h k is low =
    let found = height-from_low steps k w low in
    omega (arith, same-height steps w h found.0 is found.1, found.2)

-- ---- below the first width there is no height

pub filter-none : (p : Config → Bool) (steps : List Config) → All (λ s. p s ≡ false) steps → filter p steps ≡ []
filter-none p [] all = refl
filter-none p (step ∷ steps) all = rw (all 0 step (omega arith)) (filter-none p steps (λ k d within. all (suc k) d (omega arith)))

pub low-first : (steps : List Config) → AreSteps steps → (h w : ℕ) → IsLowAt steps h w → first_width steps ≤ w
low-first [] are h w low = absurd low
low-first (step ∷ steps) are h w low =
    elim (cases_lt w step.width) [
      | inr enough ↦ enough
      | inl narrow ↦ absurd (rw (filter-none (λ s. nat_le s.width w) (step ∷ steps) (all narrow)) at low)
    ] where
      all : w < step.width → All (λ s. nat_le s.width w ≡ false) (step ∷ steps)
      all narrow zero d within = test_le_false step.width w narrow
      all narrow (suc k) d within = let wider = are.decreasing 0 (suc k) d (omega arith) within in
          test_le_false (get_or steps k d).width w
          (omega (arith, wider.0, narrow))

-- ---- least sizes of kinds that hold each other

pub AreLeast-same : (gap : ℕ) (A B : List ℕ → Type 0) (sizes : List ℕ) → ((xs : List ℕ) → A xs → B xs) →
    ((xs : List ℕ) → B xs → A xs) →
    AreLeast gap A sizes → AreLeast gap B sizes
AreLeast-same gap A B sizes to from least = record {
  kind = to sizes least.kind;
  earliest = λ other kind place within. least.earliest other (from other kind) place within;
}

pub IsLeastTotal-same : (gap edge : ℕ) (A B : List ℕ → Type 0) (least : ℕ) → ((xs : List ℕ) → A xs → B xs) →
    ((xs : List ℕ) → B xs → A xs) →
    IsLeastTotal gap edge A least → IsLeastTotal gap edge B least
IsLeastTotal-same gap edge A B least to from is = record {
  attained = (is.attained.0, to is.attained.0 is.attained.1, is.attained.2);
  never_less = λ sizes kind. is.never_less sizes (from sizes kind);
}

module _ (problem : ProblemModel) (sound : IsSound problem) where
  sound-at : (k : ℕ) → k < length problem.cells → IsSoundCell problem (cell_at problem.cells k)
  sound-at k within = sound.cells k no_cell within

  -- ---- heights

  pub high-give : (widths demands heights : List ℕ) → NeedHigh problem widths demands → GiveDemands problem Rows demands heights →
      GiveHigh problem widths heights
  high-give widths demands heights need give = record {
    rows = give.count;
    cells = All-from_numbers (λ cell. IsLowAt cell.high (cell_height problem heights cell) (cell_width problem widths cell))
        problem.cells (λ k within.
        let cell = cell_at problem.cells k in
        IsLowAt-higher cell.high (get_or demands k 0) (cell_height problem heights cell) (cell_width problem widths cell)
        (give.cells k within)
        (IsLowAt-from cell.high (get_or demands k 0) (cell_width problem widths cell) (need.each k within)));
  }

  pub give-high : (widths demands heights : List ℕ) → NeedHigh problem widths demands → GiveHigh problem widths heights →
      GiveDemands problem Rows demands heights
  give-high widths demands heights need give = record {
    count = give.rows;
    cells = λ k within.
        let cell = cell_at problem.cells k in
        low-le cell.high (cell_width problem widths cell) (get_or demands k 0) (cell_height problem heights cell)
        (need.each k within)
        (give.cells k no_cell within);
  }

  module _ (Among : List ℕ → Type 0) (demands : List ℕ) (need : NeedLow problem Among demands) where
    pub low-give : (heights : List ℕ) → GiveDemands problem Rows demands heights → GiveLow problem Among heights
    low-give heights give = record {
      rows = give.count;
      cells = All-from_numbers (λ cell. (w : ℕ) → IsGreatestRoom problem Among cell.left cell.right w →
          IsLowAt cell.low (cell_height problem heights cell) w) problem.cells (λ k within w greatest.
          let cell = cell_at problem.cells k in
          let found = need.each k within in
          let same : found.0 ≡ w = omega (
            arith,
            greatest.attained.2,
            greatest.never_more found.1.0.attained.0 found.1.0.attained.1,
            found.1.0.attained.2,
            found.1.0.never_more greatest.attained.0 greatest.attained.1,
          ) in
          subst (IsLowAt cell.low (cell_height problem heights cell)) same
          (IsLowAt-higher cell.low (get_or demands k 0) (cell_height problem heights cell) found.0 (give.cells k within)
          (IsLowAt-from cell.low (get_or demands k 0) found.0 found.1.1)));
    }

    pub give-low : (heights : List ℕ) → GiveLow problem Among heights → GiveDemands problem Rows demands heights
    give-low heights give = record {
      count = give.rows;
      cells = λ k within.
          let cell = cell_at problem.cells k in
          let found = need.each k within in
          low-le cell.low found.0 (get_or demands k 0) (cell_height problem heights cell) found.1.1
          (give.cells k no_cell within found.0 found.1.0);
    }

  -- ---- widths

  pub keep-give : (widths demands other : List ℕ) → NeedWidths problem widths demands →
      GiveDemands problem Columns demands other →
      KeepHigh problem widths other
  keep-give widths demands other need give = record {
    columns = give.count;
    cells = All-from_numbers (λ cell. (h : ℕ) → height_at cell.high (cell_width problem widths cell) ≡ Some h →
        IsLowAt cell.high h (cell_width problem other cell)) problem.cells (λ k within h is.
        let cell = cell_at problem.cells k in
        let found = need.each k within in
        let same = same-height cell.high (cell_width problem widths cell) found.0 h found.1.0 is in
        subst (λ n. IsLowAt cell.high n (cell_width problem other cell)) same
        (IsLowAt-wider cell.high (sound-at k within).steps.1 found.0 (get_or demands k 0) (cell_width problem other cell)
        (give.cells k within) found.1.1.low));
  }

  pub give-keep : (widths demands other : List ℕ) → NeedWidths problem widths demands → KeepHigh problem widths other →
      GiveDemands problem Columns demands other
  give-keep widths demands other need keep = record {
    count = keep.columns;
    cells = λ k within.
        let cell = cell_at problem.cells k in
        let found = need.each k within in
        found.1.1.least (cell_width problem other cell) (keep.cells k no_cell within found.0 found.1.0);
  }

  pub give-page : (demands widths : List ℕ) → NeedLeast problem demands → WithinPage problem widths →
      GiveDemands problem Columns demands widths
  give-page demands widths need page = record {
    count = page.columns;
    cells = λ k within. omega (arith, need.each k within, page.cells k no_cell within);
  }

  -- the least widths that give each cell its least width are within the page
  pub page-give : (demands widths : List ℕ) → NeedLeast problem demands →
      AreLeast problem.spacing.gap (GiveDemands problem Columns demands) widths → WithinPage problem widths
  page-give demands widths need least =
      let fits = sound.fits in
      let less = least-total problem.spacing.gap problem.spacing.edges (GiveDemands problem Columns demands)
      widths fits.0 least
      (give-page demands fits.0 need fits.1) (least.kind.count ∙ sym fits.1.columns) in
      record {
        columns = least.kind.count;
        page = omega (arith, less, fits.1.page);
        cells = All-from_numbers (λ cell. first_width cell.low ≤ cell_width problem widths cell) problem.cells
            (λ k within. omega (arith, need.each k within, least.kind.cells k within));
      }

  pub page-least : (demands widths : List ℕ) → NeedLeast problem demands →
      AreLeast problem.spacing.gap (GiveDemands problem Columns demands) widths →
      AreLeast problem.spacing.gap (WithinPage problem) widths
  page-least demands widths need least = record {
    kind = page-give demands widths need least;
    earliest = λ other page place within. least.earliest other (give-page demands other need page) place within;
  }

  -- widths at which no cell is higher give each cell at least its least width
  keep-least : (demands widths heights other : List ℕ) → NeedLeast problem demands → GiveHigh problem widths heights →
      KeepHigh problem widths other → GiveDemands problem Columns demands other
  keep-least demands widths heights other need give keep = record {
    count = keep.columns;
    cells = λ k within.
        let cell = cell_at problem.cells k in
        let is = sound-at k within in
        let found = height-from_low cell.high (cell_height problem heights cell) (cell_width problem widths cell)
        (give.cells k no_cell within) in
        let from = low-first cell.high is.steps.1 found.0 (cell_width problem other cell) (keep.cells k no_cell within found.0 found.1)
        in
        omega (arith, need.each k within, from, is.same_least);
  }

  pub opening-tight : (demands : List ℕ) (opening : Placed) → NeedLeast problem demands →
      AreLeast problem.spacing.gap (GiveDemands problem Columns demands) opening.widths → IsPlacement problem opening →
      IsTight problem opening
  opening-tight demands opening need least placement = record {
    columns = record {
      kind = KeepHigh-itself problem opening.widths placement.page.columns;
      earliest = λ other keep place within.
          least.earliest other (keep-least demands opening.widths opening.heights other need placement.rows.kind keep) place within;
    };
    placement = placement;
  }

  -- and so are those of a tight placement
  pub page-keep : (widths tight : List ℕ) → WithinPage problem widths →
      AreLeast problem.spacing.gap (KeepHigh problem widths) tight →
      WithinPage problem tight
  page-keep widths tight page least =
      let less = least-total problem.spacing.gap problem.spacing.edges (KeepHigh problem widths) tight widths least
      (KeepHigh-itself problem widths page.columns) (least.kind.columns ∙ sym page.columns) in
      record {
        columns = least.kind.columns;
        page = omega (arith, less, page.page);
        cells = All-from_numbers (λ cell. first_width cell.low ≤ cell_width problem tight cell) problem.cells (λ k within.
            let cell = cell_at problem.cells k in
            let is = sound-at k within in
            let wide : first_width cell.high ≤ cell_width problem widths cell =
            omega (arith, is.same_least, page.cells k no_cell within) in
            let here = height-from_first cell.high is.steps.1.has_step (cell_width problem widths cell) wide in
            let low = least.kind.cells k no_cell within here.0 here.1 in
            omega (arith, is.same_least, low-first cell.high is.steps.1 here.0 (cell_width problem tight cell) low));
      }

-- ---- demands are not large

-- numbers that are each at most what their cell gives sum to at most what all give
pub sum-le : (f : Cell → ℕ) (cells : List Cell) (ns : List ℕ) → length ns ≡ length cells →
    ((k : ℕ) → k < length cells → get_or ns k 0 ≤ f (cell_at cells k)) → sum ns ≤ sum_by f cells
sum-le f [] [] same each = omega arith
sum-le f [] (n ∷ ns) same each = absurd (omega arith)
sum-le f (c ∷ cells) [] same each = absurd (omega arith)
sum-le f (c ∷ cells) (n ∷ ns) same each =
    let first = each 0 (omega arith) in
    let rest = sum-le f cells ns (omega arith) (λ k within. each (suc k) (omega arith)) in
    omega (arith, first, rest, sum_by-cons f c cells, sum_by-cons (λ x. x) n ns)

-- no step is higher than the first
last-le : (most : ℕ) (p : Config → Bool) (o : Option Config) (steps : List Config) → IfSome o (λ s. s.height ≤ most) →
    All (λ s. s.height ≤ most) steps → IfSome (last_or o (filter p steps)) (λ s. s.height ≤ most)
last-le most p o [] start all = start
last-le most p o (step ∷ steps) start all =
    elim (p step) as (λ b. IfSome (last_or o (cond b (step ∷ filter p steps) (filter p steps))) (λ s. s.height ≤ most)) [
      | true ↦ last-le most p (Some step) steps (all 0 step (omega arith)) (λ k d within. all (suc k) d (omega arith))
      | false ↦ last-le most p o steps start (λ k d within. all (suc k) d (omega arith))
    ]

heights-le : (steps : List Config) → AreSteps steps → All (λ s. s.height ≤ first_height steps) steps
heights-le [] are k d within = absurd (omega arith)
heights-le (step ∷ steps) are zero d within = omega arith
heights-le (step ∷ steps) are (suc k) d within = let fall = are.decreasing 0 (suc k) d (omega arith) within in
    omega (arith, fall.1)

pub height-le : (steps : List Config) → AreSteps steps → (w h : ℕ) → height_at steps w ≡ Some h → h ≤ first_height steps
height-le steps are w h is = le (last_or None (filter (λ s. nat_le s.width w) steps))
    (last-le (first_height steps) (λ s. nat_le s.width w) None steps tt (heights-le steps are)) is where
      le : (o : Option Config) → IfSome o (λ s. s.height ≤ first_height steps) → option_map (λ s. s.height) o ≡ Some h →
          h ≤ first_height steps
      le None small is = cc
      le (Some s) small is = let e : s.height ≡ h = cc in omega (arith, small, e)

module _ (problem : ProblemModel) (sound : IsSound problem) where
  pub high-sum : (widths demands : List ℕ) → NeedHigh problem widths demands → sum demands ≤ MAX_HEIGHT
  high-sum widths demands need =
      let less = sum-le (λ cell. first_height cell.high) problem.cells demands need.count (λ k within.
      let cell = cell_at problem.cells k in
      height-le cell.high (sound.cells k no_cell within).steps.1 (cell_width problem widths cell) (get_or demands k 0)
      (need.each k within)) in
      omega (arith, less, sound.low_enough)

  pub low-sum : (Among : List ℕ → Type 0) (demands : List ℕ) → ((widths : List ℕ) → Among widths → WithinPage problem widths) →
      NeedLow problem Among demands → sum demands ≤ MAX_HEIGHT
  low-sum Among demands page need =
      let less = sum-le (λ cell. first_height cell.high) problem.cells demands need.count (λ k within.
      let cell = cell_at problem.cells k in
      let is = sound.cells k no_cell within in
      let found = need.each k within in
      let at = found.1.0.attained in
      let wide : first_width cell.high ≤ found.0 = omega (arith, is.same_least, (page at.0 at.1).cells k no_cell within, at.2) in
      let high = height-from_first cell.high is.steps.1.has_step found.0 wide in
      let most = height-le cell.high is.steps.1 found.0 high.0 high.1 in
      let low = is.low_below high.0 found.0 (IsLowAt-from cell.high high.0 found.0 high.1) in
      omega (arith, most, low-le cell.low found.0 (get_or demands k 0) high.0 found.1.1 low)) in
      omega (arith, less, sound.low_enough)

-- the sum of the sizes within a page
pub sum-page : (problem : ProblemModel) → IsSound problem → (widths : List ℕ) → WithinPage problem widths →
    sum widths ≤ MAX_PAGE_WIDTH
sum-page problem sound widths page = omega (
  arith,
  sum-total problem.spacing.gap problem.spacing.edges widths,
  page.page,
  sound.narrow,
)

-- ---- the last step is the lowest

last-under : (p : Config → Bool) (o : Option Config) (steps : List Config) →
    AllPairs (λ a b. (a.width < b.width) × (b.height < a.height)) steps →
    All (λ s. IfSome o (λ x. s.height ≤ x.height)) steps →
    (s : Config) → last_or o (filter p steps) ≡ Some s → IfSome (last_or o steps) (λ l. l.height ≤ s.height)
last-under p o [] decreasing under s is = rw is (omega arith)
last-under p o (step ∷ []) decreasing under s is = one (p step) is where
  one : (b : Bool) → last_or o (cond b (step ∷ []) []) ≡ Some s → step.height ≤ s.height
  one true is = let e : step ≡ s = cc in omega (arith, ap (λ x. x.height) e)
  one false is = let first = under 0 step (omega arith) in rw is at first
last-under p o (step ∷ next ∷ steps) decreasing under s is =
    let rest : AllPairs (λ a b. (a.width < b.width) × (b.height < a.height)) (next ∷ steps) =
    λ i j d before within. decreasing (suc i) (suc j) d
    (omega arith) (omega arith) in
    let below : All (λ x. IfSome (Some step) (λ y. x.height ≤ y.height)) (next ∷ steps) = λ k d within. let fall =
    decreasing 0 (suc k) d (omega arith)
    (omega arith) in omega (arith, fall.1) in
    let later : All (λ x. IfSome o (λ y. x.height ≤ y.height)) (next ∷ steps) = λ k d within. under (suc k) d (omega arith) in
    (elim (p step) as (λ b. last_or o (cond b (step ∷ filter p (next ∷ steps)) (filter p (next ∷ steps))) ≡ Some s →
    IfSome (last_or (Some next) steps) (λ l. l.height ≤ s.height)) [
      | true ↦ λ is. last-under p (Some step) (next ∷ steps) rest below s is
      | false ↦ λ is. last-under p o (next ∷ steps) rest later s is
    ]) is

-- a height is at least that of the last step
pub last-lowest : (steps : List Config) → AreSteps steps → (w h : ℕ) → height_at steps w ≡ Some h →
    IfSome (last_or None steps) (λ last. last.height ≤ h)
last-lowest steps are w h is = at (last_or None (filter (λ s. nat_le s.width w) steps)) refl is where
  at : (o : Option Config) → last_or None (filter (λ s. nat_le s.width w) steps) ≡ o → option_map (λ s. s.height) o ≡ Some h →
      IfSome (last_or None steps) (λ last. last.height ≤ h)
  at None same is = cc
  at (Some s) same is =
      let e : s.height ≡ h = cc in
      let under = last-under (λ x. nat_le x.width w) None steps are.decreasing (λ k d within. tt) s same in
      subst (λ n. IfSome (last_or None steps) (λ last. last.height ≤ n)) e under

last-there : (x : Config) (steps : List Config) → (l : Config) × (last_or (Some x) steps ≡ Some l)
last-there x [] = (x, refl)
last-there x (y ∷ steps) = last-there y steps

-- so a width is found for it
pub width-found : (steps : List Config) → AreSteps steps → (w h : ℕ) → height_at steps w ≡ Some h → (found : Option ℕ) →
    IfSome (last_or None steps) (λ last. IsNone found ↔ (h < last.height)) → IsSome found
width-found [] are w h is found never = cc
width-found (x ∷ steps) are w h is None never =
    let last = last-there x steps in
    let low : last.0.height ≤ h = rw last.1 at (last-lowest (x ∷ steps) are w h is) in
    let high = (rw last.1 at never).0 refl in
    absurd (omega (arith, low, high))
width-found (x ∷ steps) are w h is (Some v) never = refl

-- ---- lists that grow

pub upto-push : (P : ℕ → ℕ → Type 0) (xs : List ℕ) (x n : ℕ) → length xs ≡ n → ((k : ℕ) → k < n → P k (get_or xs k 0)) → P n x →
    (k : ℕ) → k < n + 1 →
    P k (get_or (xs ++ x ∷ []) k 0)
upto-push P xs x n count each one k below =
    elim (cases_eq k n) [
      | inl same ↦ rw (same, get_or_push xs x 0 n count) one
      | inr apart ↦
          let before : k < length xs = omega arith in
          rw (get_or_append_left xs (x ∷ []) 0 k before) (each k (omega arith))
    ]

pub upto-set : (P : ℕ → ℕ → Type 0) (xs : List ℕ) (x n : ℕ) → n < length xs → ((k : ℕ) → k < n → P k (get_or xs k 0)) → P n x →
    (k : ℕ) → k < n + 1 →
    P k (get_or (set xs n x) k 0)
upto-set P xs x n inside each one k below =
    elim (cases_eq k n) [
      | inl same ↦ rw same (subst (P n) (sym (get_or-set_same xs n x 0 inside)) one)
      | inr apart ↦ subst (P k) (sym (get_or-set_other xs n k x 0 apart)) (each k (omega arith))
    ]

-- ---- demands on columns are small

pub all-most : (f : ℕ → ℕ) (most : ℕ) (ns : List ℕ) → ((k : ℕ) → k < length ns → get_or ns k 0 ≤ most) → sum ns ≤ length ns * most
all-most f most ns each = sum_by-le (λ x. x) most ns (λ k d within. omega (arith, get_or_default ns k d 0 within, each k within))

module _ (problem : ProblemModel) (sound : IsSound problem) where
  room-most : (widths : List ℕ) → WithinPage problem widths → (k : ℕ) → k < length problem.cells →
      cell_width problem widths (cell_at problem.cells k) ≤ MAX_PAGE_WIDTH
  room-most widths page k within =
      let cell = cell_at problem.cells k in
      let is = sound.cells k no_cell within in
      omega (arith, room-in_page problem widths page cell.left cell.right is.columns.0 is.columns.1, sound.narrow)

  pub least-sum : (demands : List ℕ) → NeedLeast problem demands → sum demands ≤ MAX_COLUMNS * (MAX_ROWS + 1) * MAX_PAGE_WIDTH
  least-sum demands need =
      let page = sound.fits in
      let all = all-most (λ x. x) MAX_PAGE_WIDTH demands
      (λ k within. omega (
        arith,
        need.each k (omega (arith, need.count)),
        page.1.cells k no_cell (omega (arith, need.count)),
        room-most page.0 page.1
            k (omega (arith, need.count)),
      )) in
      omega (arith, all, need.count, few-cells problem sound)

  pub width-sum : (widths demands : List ℕ) → WithinPage problem widths → NeedWidths problem widths demands →
      sum demands ≤ MAX_COLUMNS * (MAX_ROWS + 1) * MAX_PAGE_WIDTH
  width-sum widths demands page need =
      let all = all-most (λ x. x) MAX_PAGE_WIDTH demands (λ k within.
      let inside : k < length problem.cells = omega (arith, need.count) in
      let found = need.each k inside in
      let cell = cell_at problem.cells k in
      let less = found.1.1.least (cell_width problem widths cell)
      (IsLowAt-from cell.high found.0 (cell_width problem widths cell) found.1.0) in
      omega (arith, less, room-most widths page k inside)) in
      omega (arith, all, need.count, few-cells problem sound)
