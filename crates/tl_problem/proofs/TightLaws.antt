-- Making a placement tight raises neither its width nor its height, and doing so again changes nothing.
use Rattle.std.proofs.Common.{◌≡◌, ℕ, ◌≤◌, List, length, get_or, sym, ap, ◌∙◌, subst, arith}
use Rattle.tl_problem.specs.declared.placed.Placed.{Placed}
use Rattle.tl_base.specs.Sizes.{total}
use Rattle.tl_problem.specs.Problem.{ProblemModel, total_width, total_height, cell_width, cell_height}
use Rattle.tl_problem.specs.Layouts.{GiveHigh}
use Rattle.tl_problem.specs.Placements.{AreLeast, IsPlacement}
use Rattle.tl_problem.specs.Tight.{KeepHigh, IsTightFrom, IsTight}
use Rattle.tl_base.proofs.SizeLaws.{total-le, same-positions}
use Rattle.tl_problem.proofs.Heights.{IsLowAt-from, IsLowAt-higher, height-from_low}

abbrev placed_of : List ℕ → List ℕ → ℕ → ℕ → Placed
placed_of widths heights width height = record { widths = widths; heights = heights; width = width; height = height }

-- least sizes of a kind take no more in all than others of it
pub least-total : (gap edge : ℕ) (OfKind : List ℕ → Type 0) (sizes other : List ℕ) → AreLeast gap OfKind sizes → OfKind other →
    length sizes ≡ length other → total gap edge sizes ≤ total gap edge other
least-total gap edge OfKind sizes other least kind same = total-le gap edge sizes other same
    (least.earliest other kind (length sizes) (omega arith))

-- a kind has no two lists of least sizes of one length
pub least-unique : (gap : ℕ) (OfKind : List ℕ → Type 0) (xs ys : List ℕ) → length xs ≡ length ys → AreLeast gap OfKind xs →
    AreLeast gap OfKind ys → xs ≡ ys
least-unique gap OfKind xs ys same first second =
    same-positions gap xs ys same (λ place within. omega (
      arith,
      first.earliest ys second.kind place within,
      second.earliest xs first.kind place (omega arith),
    ))

module _ (problem : ProblemModel) where
  pub KeepHigh-itself : (widths : List ℕ) → length widths ≡ problem.cols → KeepHigh problem widths widths
  KeepHigh-itself widths columns = record {
    columns = columns;
    cells =
        λ k d within h is. IsLowAt-from (get_or problem.cells k d).high h (cell_width problem widths (get_or problem.cells k d))
        is;
  }

  pub KeepHigh-next : (widths other third : List ℕ) → KeepHigh problem widths other → KeepHigh problem other third →
      KeepHigh problem widths third
  KeepHigh-next widths other third first second = record {
    columns = second.columns;
    cells = λ k d within h is.
        let cell = get_or problem.cells k d in
        let found = height-from_low cell.high h (cell_width problem other cell) (first.cells k d within h is) in
        IsLowAt-higher cell.high found.0 h (cell_width problem third cell) found.2 (second.cells k d within found.0 found.1);
  }

  -- heights that are enough stay so where each cell keeps its height
  pub GiveHigh-kept : (widths other heights : List ℕ) → KeepHigh problem widths other → GiveHigh problem widths heights →
      GiveHigh problem other heights
  GiveHigh-kept widths other heights keep give = record {
    rows = give.rows;
    cells = λ k d within.
        let cell = get_or problem.cells k d in
        let found = height-from_low cell.high (cell_height problem heights cell) (cell_width problem widths cell)
        (give.cells k d within) in
        IsLowAt-higher cell.high found.0 (cell_height problem heights cell) (cell_width problem other cell) found.2
        (keep.cells k d within found.0 found.1);
  }

  module _ (placed tight : Placed) (is : IsPlacement problem placed) (made : IsTightFrom problem placed.widths tight) where
    pub tight-no_wider : tight.width ≤ placed.width
    tight-no_wider =
        let less = least-total problem.spacing.gap problem.spacing.edges (KeepHigh problem placed.widths)
        tight.widths placed.widths
        made.columns (KeepHigh-itself placed.widths is.page.columns)
        (made.placement.page.columns ∙ sym is.page.columns) in
        omega (arith, less, is.width, made.placement.width)

    pub tight-no_higher : tight.height ≤ placed.height
    tight-no_higher =
        let enough = GiveHigh-kept placed.widths tight.widths placed.heights made.columns.kind is.rows.kind in
        let less = least-total problem.spacing.row_gap problem.spacing.lines (GiveHigh problem tight.widths)
        tight.heights placed.heights
        made.placement.rows enough
        (made.placement.rows.kind.rows ∙ sym is.rows.kind.rows) in
        omega (arith, less, is.height, made.placement.height)

  -- what tightening makes is tight
  pub tight-is_tight : (widths : List ℕ) (tight : Placed) → IsTightFrom problem widths tight → IsTight problem tight
  tight-is_tight widths tight made = record {
    columns = record {
      kind = KeepHigh-itself tight.widths made.placement.page.columns;
      earliest = λ other keep place within. made.columns.earliest other
          (KeepHigh-next widths tight.widths other made.columns.kind keep) place within;
    };
    placement = made.placement;
  }

  -- a function of four parts takes equal parts to equal values
  same-made : {A B D : Type 0} (make : A → A → B → B → D) (a a' b b' : A) (c c' d d' : B) → a ≡ a' → b ≡ b' → c ≡ c' → d ≡ d' →
      make a b c d ≡ make a' b' c' d'
  same-made make a a' b b' c c' d d' one two three four = cc

  -- there is one placement at given widths, and one that tightening makes
  pub placement-unique : (first second : Placed) → first.widths ≡ second.widths → IsPlacement problem first →
      IsPlacement problem second → first ≡ second
  placement-unique first second same one other =
      let rows : first.heights ≡ second.heights = least-unique problem.spacing.row_gap (GiveHigh problem second.widths)
      first.heights second.heights
      (one.rows.kind.rows ∙ sym other.rows.kind.rows) (subst
      (λ widths. AreLeast problem.spacing.row_gap (GiveHigh problem widths) first.heights)
      same one.rows) other.rows in
      let wide : first.width ≡ second.width = one.width ∙ ap (total_width problem) same ∙ sym other.width in
      let high : first.height ≡ second.height = one.height ∙ ap (total_height problem) rows ∙ sym other.height in
      same-made (λ widths heights width height. placed_of widths heights width height)
      first.widths second.widths first.heights second.heights
      first.width second.width first.height second.height same rows wide high

  pub tight-unique : (widths : List ℕ) (first second : Placed) → IsTightFrom problem widths first →
      IsTightFrom problem widths second → first ≡ second
  tight-unique widths first second one other =
      placement-unique first second
      (least-unique problem.spacing.gap (KeepHigh problem widths) first.widths second.widths
      (one.placement.page.columns ∙ sym other.placement.page.columns) one.columns other.columns)
      one.placement other.placement
