-- On a wider page a table has at least as many ways: the same spans, and for each at least as many classes.
use Rattle.tl_base.specs.declared.spacing.Spacing.{Spacing}
use Rattle.std.proofs.Common.{◌≡◌, ℕ, zero, suc, ◌+◌, ◌-◌, ◌^◌, ◌≤◌, inl, inr, min, Bool, true, false, cond, ◌==◌, ◌&&◌, ◌||◌}
use Rattle.std.proofs.Common.{List, [], ◌∷◌, ◌++◌, length, map, filter, Contains, refl, sym, ap, subst, ◌∙◌, arith}
use Rattle.std.specs.List.{AllZip, list_any, range_with_len}
use Rattle.std.proofs.Math.Nat.{mul-le-mul_left, mul-le-mul_right}
use Rattle.std.proofs.lemmas.Bool.{cases_Bool}
use Rattle.std.proofs.lemmas.List.Elements.{All-contains, Contains-append_left, Contains-append_right, Contains-append_cases}
use Rattle.std.proofs.lemmas.List.Folds.{Any-from_list_any, list_any_at}
use Rattle.tl_base.specs.declared.steps.Config.{Config}
use Rattle.tl_base.specs.declared.style.Style.{Style}
use Rattle.tl_base.specs.Steps.{first_height, first_width, height_at}
use Rattle.tl_base.proofs.Stacking.{first_width-within}
use Rattle.tl_problem.specs.declared.cell.Cell.{Cell}
use Rattle.tl_problem.specs.declared.cell.Span.{Span}
use Rattle.tl_problem.specs.Problem.{ProblemModel}
use Rattle.tl_problem.specs.Spans.{has_span, all_spans, spans_of, greatest, cells_of, least_width, page_room, begins_step}
use Rattle.tl_problem.specs.Spans.{classes_of, product, count_of}
use Rattle.tl_table.specs.declared.cell.Table.{Table, out-Table}
use Rattle.tl_table.specs.declared.cell.TableCell.{TableCell, out-TableCell}
use Rattle.tl_form.specs.Problems.{AreStepsOf, CellNeeds, IsCellBy, IsProblemBy, inside_of}
use Rattle.tl_form.proofs.NeedSteps.{first-least, height-first, same-option, step-there}

-- ---- the same steps, up to a lesser width

module _ (needs : ℕ → ℕ → Type 0) (narrow wide : ℕ) (within : narrow ≤ wide) (short long : List Config)
    (of_short : AreStepsOf needs narrow short)
    (of_long : AreStepsOf needs wide long) where
  same-heights : (w : ℕ) → w ≤ narrow → height_at short w ≡ height_at long w
  same-heights w inside =
      same-option (height_at short w) (height_at long w)
      (λ n is. (of_long.each w n (omega (arith, inside, within))).1 ((of_short.each w n inside).0 is))
      (λ n is. (of_short.each w n inside).1 ((of_long.each w n (omega (arith, inside, within))).0 is))

  pub step-stays : (step : Config) → Contains short step → Contains long step
  step-stays step has =
      step-there narrow short long of_short.decreasing of_long.decreasing same-heights step has
      (All-contains (λ (one : Config). one.width ≤ narrow) short step of_short.within has)

  pub first-stays : first_width short ≡ first_width long
  first-stays =
      let inside = first_width-within narrow short of_short.decreasing of_short.within in
      let here = sym (same-heights (first_width short) inside) ∙ height-first short of_short.decreasing in
      let more = first-least long of_long.decreasing (first_width short) (first_height short) here in
      let there = same-heights (first_width long) (omega (arith, more, inside)) ∙ height-first long of_long.decreasing in
      let less = first-least short of_short.decreasing (first_width long) (first_height long) there in
      omega (arith, more, less)

-- ---- cells that stand so to one another

pub record Stays (short long : Cell) : Type 0 where
  pub left : short.left ≡ long.left
  pub right : short.right ≡ long.right
  pub first : first_width short.low ≡ first_width long.low
  pub steps : (step : Config) → Contains (short.low ++ short.high) step → Contains (long.low ++ long.high) step

cells-stay : (lows highs : Table → ℕ → ℕ → Type 0) (narrow wide : ℕ) → narrow ≤ wide → (inside : TableCell → ℕ)
    (cells : List TableCell) (short long : List Cell) →
    AllZip (λ cell made. IsCellBy lows highs narrow (inside cell) (out-TableCell cell) made) cells short →
    AllZip (λ cell made. IsCellBy lows highs wide (inside cell) (out-TableCell cell) made) cells long → AllZip Stays short long
cells-stay lows highs narrow wide within inside [] [] [] first second = tt
cells-stay lows highs narrow wide within inside [] [] (b ∷ long) first second = absurd second
cells-stay lows highs narrow wide within inside [] (a ∷ short) long first second = absurd first
cells-stay lows highs narrow wide within inside (cell ∷ cells) [] long first second = absurd first
cells-stay lows highs narrow wide within inside (cell ∷ cells) (a ∷ short) [] first second = absurd second
cells-stay lows highs narrow wide within inside (cell ∷ cells) (a ∷ short) (b ∷ long) first second = (
  record {
    left = first.0.left ∙ sym second.0.left;
    right = first.0.right ∙ sym second.0.right;
    first = first-stays (CellNeeds lows (inside cell) (out-TableCell cell)) narrow wide within a.low b.low first.0.low second.0.low;
    steps = λ step has. elim (Contains-append_cases a.low a.high step has) [
      | inl low ↦ Contains-append_left b.low b.high step
          (step-stays (CellNeeds lows (inside cell) (out-TableCell cell)) narrow wide within a.low b.low first.0.low second.0.low step low)
      | inr high ↦ Contains-append_right b.low b.high step
          (step-stays (CellNeeds highs (inside cell) (out-TableCell cell))
          narrow wide within a.high b.high first.0.high second.0.high step high)
    ];
  },
  cells-stay lows highs narrow wide within inside cells short long first.1 second.1,
)

-- ---- lists that stand so to one another

module _ {A B : Type 0} (R : A → B → Type 0) where
  zip-filter : (f : A → Bool) (g : B → Bool) → ((x : A) (y : B) → R x y → f x ≡ g y) → (xs : List A) (ys : List B) →
      AllZip R xs ys →
      AllZip R (filter f xs) (filter g ys)
  zip-filter f g same [] [] all = tt
  zip-filter f g same [] (y ∷ ys) all = absurd all
  zip-filter f g same (x ∷ xs) [] all = absurd all
  zip-filter f g same (x ∷ xs) (y ∷ ys) all =
      let rest = zip-filter f g same xs ys all.1 in
      let alike = same x y all.0 in
      elim (cases_Bool (f x)) [
        | inl kept ↦ let other : g y ≡ true = sym alike ∙ kept in rw kept (rw other (all.0, rest))
        | inr left ↦ let other : g y ≡ false = sym alike ∙ left in rw left (rw other rest)
      ]

  zip-any : (f : A → Bool) (g : B → Bool) → ((x : A) (y : B) → R x y → f x ≡ g y) → (xs : List A) (ys : List B) → AllZip R xs ys →
      list_any f xs ≡ list_any g ys
  zip-any f g same [] [] all = refl
  zip-any f g same [] (y ∷ ys) all = absurd all
  zip-any f g same (x ∷ xs) [] all = absurd all
  zip-any f g same (x ∷ xs) (y ∷ ys) all =
      ap (λ b. b || list_any f xs) (same x y all.0) ∙ ap (λ b. g y || b) (zip-any f g same xs ys all.1)

  zip-implies : (f : A → Bool) (g : B → Bool) → ((x : A) (y : B) → R x y → f x ≡ true → g y ≡ true) →
      (xs : List A) (ys : List B) → AllZip R xs ys →
      list_any f xs ≡ true → list_any g ys ≡ true
  zip-implies f g so [] [] all is = is
  zip-implies f g so [] (y ∷ ys) all is = absurd all
  zip-implies f g so (x ∷ xs) [] all is = absurd all
  zip-implies f g so (x ∷ xs) (y ∷ ys) all is =
      elim (cases_Bool (f x)) [
        | inl here ↦ rw (so x y all.0 here) refl
        | inr not ↦
            let rest = zip-implies f g so xs ys all.1 (rw not at is) in
            elim (cases_Bool (g y)) [ inl passes ↦ rw passes refl | inr fails ↦ rw fails rest ]
      ]

  zip-map : (u : A → ℕ) (v : B → ℕ) → ((x : A) (y : B) → R x y → u x ≡ v y) → (xs : List A) (ys : List B) → AllZip R xs ys →
      map u xs ≡ map v ys
  zip-map u v same [] [] all = refl
  zip-map u v same [] (y ∷ ys) all = absurd all
  zip-map u v same (x ∷ xs) [] all = absurd all
  zip-map u v same (x ∷ xs) (y ∷ ys) all =
      let head = same x y all.0 in
      let rest = zip-map u v same xs ys all.1 in
      λ i. head i ∷ rest i

-- more pass a weaker test among more numbers
more-pass : (f g : ℕ → Bool) → ((x : ℕ) → f x ≡ true → g x ≡ true) → (a n m : ℕ) → n ≤ m →
    length (filter f (range_with_len a n)) ≤ length (filter g (range_with_len a m))
more-pass f g so a zero m less = omega arith
more-pass f g so a (suc n) zero less = absurd (omega (arith, less))
more-pass f g so a (suc n) (suc m) less =
    let rest = more-pass f g so (a + 1) n m (omega (arith, less)) in
    elim (cases_Bool (f a)) [
      | inl passes ↦ let other = so a passes in rw passes (rw other (omega (arith, rest)))
      | inr fails ↦ elim (cases_Bool (g a)) [
        | inl other ↦ rw fails (rw other (omega (arith, rest)))
        | inr neither ↦ rw fails
            (rw neither rest)
      ]
    ]

-- a product of more is more
product-le : {X : Type 0} (f g : X → ℕ) → ((x : X) → f x ≤ g x) → (xs : List X) → product (map f xs) ≤ product (map g xs)
product-le f g less [] = omega arith
product-le f g less (x ∷ xs) =
    let rest = product-le f g less xs in
    let one = mul-le-mul_right (product (map f xs)) (less x) in
    let other = mul-le-mul_left (g x) rest in
    omega (arith, one, other)

-- ---- classes and counts

module _ (short long : ProblemModel) (cols : short.cols ≡ long.cols) (spacing : short.spacing ≡ long.spacing)
    (wider : short.width ≤ long.width)
    (stay : AllZip Stays short.cells long.cells) where
  has-same : (columns : Span) (a b : Cell) → Stays a b → has_span columns a ≡ has_span columns b
  has-same columns a b is =
      ap (λ left. (left == columns.left) && (a.right == columns.right)) is.left ∙ ap
      (λ right. (b.left == columns.left) && (right == columns.right)) is.right

  spans-same : spans_of short ≡ spans_of long
  unfolding spans_of
  spans-same = ap (λ n. filter (λ columns. list_any (has_span columns) short.cells) (all_spans n)) cols
      ∙ filter-same (λ columns. list_any (has_span columns) short.cells) (λ columns. list_any (has_span columns) long.cells)
      (all_spans long.cols)
      (λ columns. zip-any Stays (has_span columns) (has_span columns) (has-same columns) short.cells long.cells stay)
    where
      filter-same : {X : Type 0} (f g : X → Bool) (xs : List X) → ((x : X) → f x ≡ g x) → filter f xs ≡ filter g xs
      filter-same f g [] same = refl
      filter-same f g (x ∷ xs) same =
          ap (λ b. cond b (x ∷ filter f xs) (filter f xs)) (same x) ∙ ap (λ rest. cond (g x) (x ∷ rest) rest)
          (filter-same f g xs same)

  classes-more : (columns : Span) → length (classes_of short columns) ≤ length (classes_of long columns)
  unfolding classes_of
  classes-more columns =
      let cells = zip-filter Stays (has_span columns) (has_span columns) (has-same columns) short.cells long.cells stay in
      let least : least_width short columns ≡ least_width long columns =
      ap greatest (zip-map Stays (λ cell. first_width cell.low) (λ cell. first_width cell.low) (λ a b is. is.first)
      (cells_of short columns)
      (cells_of long columns) cells) in
      let begins = λ (w : ℕ). zip-implies Stays (λ cell. list_any (λ step. step.width == w) (cell.low ++ cell.high))
      (λ cell. list_any (λ step. step.width == w) (cell.low ++ cell.high)) (begins-stays w) (cells_of short columns)
      (cells_of long columns) cells in
      let room : page_room short ≤ page_room long = omega (arith, wider, ap (λ (s : Spacing). s.edges) spacing) in
      let pass = more-pass (begins_step short columns) (begins_step long columns) begins (least_width short columns + 1)
      (page_room short - least_width short columns) (page_room long - least_width short columns) (omega (arith, room)) in
      let same = ap (λ n. length (filter (begins_step long columns) (range_with_len (n + 1) (page_room long - n)))) least in
      omega (arith, pass, same)
    where
      begins-stays : (w : ℕ) (a b : Cell) → Stays a b → list_any (λ (step : Config). step.width == w) (a.low ++ a.high) ≡ true →
          list_any (λ (step : Config). step.width == w) (b.low ++ b.high) ≡ true
      begins-stays w a b is any =
          let found = Any-from_list_any (λ (step : Config). step.width == w) (a.low ++ a.high) any in
          let there = is.steps found.1 (found.0, found.2, found.3) in
          list_any_at (λ (step : Config). step.width == w) (b.low ++ b.high) there.0 found.1 there.1
          (subst (λ (step : Config). (step.width == w) ≡ true) (sym there.2) found.4)

  pub count-more : count_of short ≤ count_of long
  count-more =
      let spans = ap (λ all. product (map (λ columns. length (classes_of short columns)) all)) spans-same in
      let products = product-le (λ columns. length (classes_of short columns)) (λ columns. length (classes_of long columns))
      classes-more (spans_of long) in
      min-le (product (map (λ columns. length (classes_of short columns)) (spans_of short)))
      (product (map (λ columns. length (classes_of long columns)) (spans_of long))) (2 ^ 64 - 1) (omega (arith, spans, products))
    where
      min-le : (m n most : ℕ) → m ≤ n → min m most ≤ min n most
      min-le m n most less = omega (arith, less)

pub counts-rise : (lows highs : Table → ℕ → ℕ → Type 0) (style : Style) (narrow wide : ℕ) (table : Table)
    (short long : ProblemModel) → narrow ≤ wide →
    IsProblemBy lows highs style narrow (out-Table table) short → IsProblemBy lows highs style wide (out-Table table) long →
    count_of short ≤ count_of long
counts-rise lows highs style narrow wide table short long within first second =
    count-more short long (first.columns ∙ sym second.columns) (first.spaced ∙ sym second.spaced)
    (omega (arith, first.wide, second.wide, within))
    (cells-stay lows highs narrow wide within (inside_of style (out-Table table)) (out-Table table).cells short.cells long.cells first.made second.made)
