-- No layout by `low` is lower than the area bound of a set that has its widths.
use Rattle.std.proofs.Common.{◌≡◌, refl, ℕ, ◌+◌, ◌*◌, ◌<◌, ◌≤◌, suc, List, [], ◌∷◌, inl, inr, length, get_or, sum, ap, arith}
use Rattle.std.specs.List.{All, AllZip, sum_by}
use Rattle.std.proofs.lemmas.Bool.{cases_lt}
use Rattle.std.proofs.lemmas.List.Sums.{sum_by-cons}
use Rattle.tl_problem.specs.declared.cell.Cell.{Cell}
use Rattle.tl_base.specs.Sizes.{position}
use Rattle.tl_problem.specs.Problem.{ProblemModel, total_height, cell_width, cell_height}
use Rattle.tl_problem.specs.Layouts.{IsLayoutByLow}
use Rattle.tl_problem.specs.Sound.{IsSound}
use Rattle.tl_problem.specs.Areas.{IsBetweenRooms, IsLeastArea, HoldAreas, IsAreaBound}
use Rattle.tl_problem.proofs.Heights.{height-from_low}
use Rattle.tl_base.proofs.SizeLaws.{total-position, room-position, position-mono}
use Rattle.tl_problem.proofs.Rectangles.{amount, late, areas-within}

-- numbers that are each at most what their partner gives sum to at most the sum of that
zip-sum : {X : Type 0} (R : X → ℕ → Type 0) (f : X → ℕ) (xs : List X) (ns : List ℕ) → AllZip R xs ns →
    All (λ x. (n : ℕ) → R x n → n ≤ f x) xs →
    sum ns ≤ sum_by f xs
zip-sum R f [] [] zip each = omega arith
zip-sum R f [] (n ∷ ns) zip each = absurd zip
zip-sum R f (x ∷ xs) [] zip each = absurd zip
zip-sum R f (x ∷ xs) (n ∷ ns) zip each =
    let head = sum_by-cons f x xs in
    let first = sum_by-cons (λ m. m) n ns in
    let one = each 0 x (omega arith) n zip.0 in
    let rest = zip-sum R f xs ns zip.1 (λ k d within. each (suc k) d (omega arith)) in
    omega (arith, head, first, one, rest)

pub times_le : (a b c : ℕ) → a ≤ b → a * c ≤ b * c
times_le a b c le = grind arith

turned : (b c : ℕ) → b * c ≡ c * b
turned b c = grind arith

turned_more : (a b c : ℕ) → a ≤ b → a * c ≤ c * b
turned_more a b c le = omega (arith, times_le a b c le, turned b c)

module _ (problem : ProblemModel) (sound : IsSound problem) (Among : List ℕ →
    Type 0) (widths heights : List ℕ) (among : Among widths) (layout : IsLayoutByLow problem widths heights) where
  -- where columns and rows begin under the layout
  x_at : ℕ → ℕ
  x_at n = position problem.spacing.gap widths n

  y_at : ℕ → ℕ
  y_at n = position problem.spacing.row_gap heights n

  x_rising : (n : ℕ) → x_at n ≤ x_at (n + 1)
  unfolding x_at
  x_rising n = position-mono problem.spacing.gap widths n (n + 1) (omega arith)

  y_rising : (n : ℕ) → y_at n ≤ y_at (n + 1)
  unfolding y_at
  y_rising n = position-mono problem.spacing.row_gap heights n (n + 1) (omega arith)

  -- what a cell takes of the grid, with a gap at its right and one below
  taken : Cell → ℕ
  taken cell = amount x_at x_rising cell.left cell.right problem.cols * amount y_at y_rising cell.top cell.bottom problem.rows

  least-taken : (k : ℕ) (d : Cell) → k < length problem.cells → (n : ℕ) → IsLeastArea problem Among (get_or problem.cells k d) n →
      n ≤ taken (get_or problem.cells k d)
  unfolding x_at y_at taken
  least-taken k d within n least =
      let cell = get_or problem.cells k d in
      let whole = sound.cells k d within in
      let found = height-from_low cell.low (cell_height problem heights cell) (cell_width problem widths cell)
      (layout.enough.cells k d within) in
      let here : IsBetweenRooms problem Among cell (cell_width problem widths cell) =
      record { no_more = (widths, among, omega arith); no_less = (widths, among, omega arith) } in
      let never = least.never_less (cell_width problem widths cell) found.0 here found.1 in
      let across = late x_at x_rising cell.left cell.right problem.cols (omega (arith, whole.columns.0)) whole.columns.1 in
      let down = late y_at y_rising cell.top cell.bottom problem.rows (omega (arith, whole.rows.0)) whole.rows.1 in
      let wide = room-position problem.spacing.gap widths cell.left cell.right whole.columns.0 in
      let high = room-position problem.spacing.row_gap heights cell.top cell.bottom whole.rows.0 in
      let columns : amount x_at x_rising cell.left cell.right problem.cols ≡ cell_width problem widths cell + problem.spacing.gap =
      omega (arith, across, wide) in
      let rows : found.0 + problem.spacing.row_gap ≤ amount y_at y_rising cell.top cell.bottom problem.rows =
      omega (arith, down, high, found.2) in
      let more = times_more (cell_width problem widths cell + problem.spacing.gap) (found.0 + problem.spacing.row_gap)
      (amount y_at y_rising cell.top cell.bottom problem.rows) rows in
      let turned = ap (λ a. a * amount y_at y_rising cell.top cell.bottom problem.rows) columns in
      omega (arith, never, more, turned) where
        times_more : (a b c : ℕ) → b ≤ c → a * b ≤ a * c
        times_more a b c le = grind arith

  pub area-below_layout : (bound : ℕ) → IsAreaBound problem Among bound → bound ≤ total_height problem heights
  unfolding x_at y_at taken
  area-below_layout bound is =
      elim (cases_lt 0 problem.cols) [
        | inr none ↦ omega (arith, is.no_column (omega arith))
        | inl some ↦
            let held = is.columns some in
            let hold = held.1 in
            let anchored = sound.columns 0 some in
            let cell = sound.cells anchored.0 anchored.1 anchored.2 in
            let rows : 0 < length heights = omega (arith, layout.enough.rows, cell.rows.0, cell.rows.1) in
            let each = zip-sum (IsLeastArea problem Among) taken problem.cells hold.areas hold.least
            (λ k d within n least. least-taken k d within n least) in
            let within = areas-within (λ c. c.left) (λ c. c.right) (λ c. c.top) (λ c. c.bottom) x_at y_at x_rising y_rising
            (omega arith)
            (omega arith) problem.cells problem.cols problem.rows sound.apart in
            let end = hold.greatest.never_more widths among in
            let more = turned_more (x_at problem.cols) hold.end (y_at problem.rows) end in
            let lines = hold.rounded.least (y_at problem.rows) (omega (arith, each, within, more)) in
            let whole = total-position problem.spacing.row_gap problem.spacing.lines heights rows in
            let all = ap (position problem.spacing.row_gap heights) layout.enough.rows in
            omega (arith, held.2, lines, whole, all)
      ]

-- ---- a set of widths has no two area bounds

least_area-unique : (problem : ProblemModel) (Among : List ℕ → Type 0) (cell : Cell) (a b : ℕ) →
    IsLeastArea problem Among cell a →
    IsLeastArea problem Among cell b → a ≡ b
least_area-unique problem Among cell a b first second =
    let one = first.attained in
    let other = second.attained in
    omega (arith, first.never_less other.0 other.1 other.2 other.3, second.never_less one.0 one.1 one.2 one.3, one.4, other.4)

areas-unique : (problem : ProblemModel) (Among : List ℕ → Type 0) (cells : List Cell) (ms ns : List ℕ) →
    AllZip (IsLeastArea problem Among) cells ms → AllZip (IsLeastArea problem Among) cells ns → ms ≡ ns
areas-unique problem Among [] [] [] first second = refl
areas-unique problem Among [] [] (n ∷ ns) first second = absurd second
areas-unique problem Among [] (m ∷ ms) ns first second = absurd first
areas-unique problem Among (cell ∷ cells) [] ns first second = absurd first
areas-unique problem Among (cell ∷ cells) (m ∷ ms) [] first second = absurd second
areas-unique problem Among (cell ∷ cells) (m ∷ ms) (n ∷ ns) first second =
    let here = least_area-unique problem Among cell m n first.0 second.0 in
    let rest = areas-unique problem Among cells ms ns first.1 second.1 in
    cc

lines-unique : (problem : ProblemModel) (Among : List ℕ → Type 0) (a b : ℕ) → HoldAreas problem Among a →
    HoldAreas problem Among b → a ≡ b
lines-unique problem Among a b first second =
    let areas = ap sum (areas-unique problem Among problem.cells first.areas second.areas first.least second.least) in
    let one = first.greatest.attained in
    let other = second.greatest.attained in
    let ends : first.end ≡ second.end = omega (
      arith,
      first.greatest.never_more other.0 other.1,
      second.greatest.never_more one.0 one.1,
      one.2,
      other.2,
    ) in
    let below = first.rounded.least b (omega (arith, second.rounded.enough, areas, ap (λ e. b * e) ends)) in
    let above = second.rounded.least a (omega (arith, first.rounded.enough, areas, ap (λ e. a * e) ends)) in
    omega (arith, below, above)

pub area-unique : (problem : ProblemModel) (Among : List ℕ → Type 0) (a b : ℕ) → IsAreaBound problem Among a →
    IsAreaBound problem Among b → a ≡ b
area-unique problem Among a b first second =
    elim (cases_lt 0 problem.cols) [
      | inr none ↦ omega (arith, first.no_column (omega arith), second.no_column (omega arith))
      | inl some ↦
          let one = first.columns some in
          let other = second.columns some in
          omega (arith, lines-unique problem Among one.0 other.0 one.1 other.1, one.2, other.2)
    ]
