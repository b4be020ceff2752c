-- Bounds of sets of widths that have the same widths, and of a set within another.
use Rattle.std.proofs.Common.{ℕ, ◌≤◌, List, [], ◌∷◌, inl, inr, get_or, Option, Some, None, MatchOption, arith}
use Rattle.std.specs.List.{AllZip}
use Rattle.tl_problem.specs.declared.cell.Cell.{Cell}
use Rattle.tl_problem.specs.declared.placed.Placed.{Placed}
use Rattle.tl_problem.specs.Problem.{ProblemModel, cell_height}
use Rattle.tl_problem.specs.Layouts.{WithinPage}
use Rattle.tl_problem.specs.Sound.{IsSound}
use Rattle.tl_problem.specs.Spans.{page_room}
use Rattle.tl_problem.specs.Zones.{whole_zone, InZone}
use Rattle.tl_problem.specs.Bounds.{HasNoWidths, IsGreatestRoom, GiveLow, IsBound}
use Rattle.tl_problem.specs.Areas.{IsBetweenRooms, IsLeastArea, IsAreaBound}
use Rattle.tl_problem.specs.Placements.{AreLeast, IsPlacementIn, IsOpening}
use Rattle.tl_problem.proofs.Heights.{IsLowAt-wider}
use Rattle.tl_problem.proofs.OneClass.{IsLowAt-decides, greatest-not_none}
use Rattle.tl_problem.proofs.SpanLaws.{room-in_page}
use Rattle.tl_problem.proofs.ZoneLaws.{whole-all}

-- ---- two sets with the same widths

module _ (problem : ProblemModel) (A B : List ℕ → Type 0) (there : (widths : List ℕ) → A widths →
    B widths) (back : (widths : List ℕ) → B widths →
    A widths) where
  greatest_room-same : (left right w : ℕ) → IsGreatestRoom problem A left right w → IsGreatestRoom problem B left right w
  greatest_room-same left right w is = record {
    attained = (is.attained.0, there is.attained.0 is.attained.1, is.attained.2);
    never_more = λ widths among. is.never_more widths (back widths among);
  }

  least-same : (gap : ℕ) (sizes : List ℕ) → AreLeast gap A sizes → AreLeast gap B sizes
  least-same gap sizes is = record {
    kind = there sizes is.kind;
    earliest =
        λ other among place within. is.earliest other (back other among) place within;
  }

  pub placement-same : (placed : Placed) → IsPlacementIn problem A placed → IsPlacementIn problem B placed
  placement-same placed is = record {
    columns = least-same problem.spacing.gap placed.widths is.columns;
    placement =
        is.placement;
  }

module _ (problem : ProblemModel) (A B : List ℕ → Type 0) (there : (widths : List ℕ) → A widths →
    B widths) (back : (widths : List ℕ) → B widths →
    A widths) where
  give_low-same : (heights : List ℕ) → GiveLow problem A heights → GiveLow problem B heights
  give_low-same heights give = record {
    rows = give.rows;
    cells = λ k d within w greatest. give.cells k d within w
        (greatest_room-same problem B A back there (get_or problem.cells k d).left
        (get_or problem.cells k d).right w greatest);
  }

  between-same : (cell : Cell) (w : ℕ) → IsBetweenRooms problem A cell w → IsBetweenRooms problem B cell w
  between-same cell w is = record {
    no_more = (is.no_more.0, there is.no_more.0 is.no_more.1, is.no_more.2);
    no_less = (is.no_less.0, there is.no_less.0 is.no_less.1, is.no_less.2);
  }

module _ (problem : ProblemModel) (A B : List ℕ → Type 0) (there : (widths : List ℕ) → A widths →
    B widths) (back : (widths : List ℕ) → B widths →
    A widths) where
  pub bound-same : (bound : ℕ) → IsBound problem A bound → IsBound problem B bound
  bound-same bound is = record {
    some = (is.some.0, there is.some.0 is.some.1);
    least = record {
      attained = (
        is.least.attained.0,
        give_low-same problem A B there back is.least.attained.0 is.least.attained.1,
        is.least.attained.2,
      );
      never_less = λ heights give. is.least.never_less heights (give_low-same problem B A back there heights give);
    };
  }

  least_area-same : (cell : Cell) (n : ℕ) → IsLeastArea problem A cell n → IsLeastArea problem B cell n
  least_area-same cell n is = record {
    attained = (
      is.attained.0,
      is.attained.1,
      between-same problem A B there back cell is.attained.0 is.attained.2,
      is.attained.3,
      is.attained.4,
    );
    never_less = λ w h between at. is.never_less w h (between-same problem B A back there cell w between) at;
  }

  areas-same : (cells : List Cell) (ns : List ℕ) → AllZip (IsLeastArea problem A) cells ns →
      AllZip (IsLeastArea problem B) cells ns
  areas-same [] [] zip = zip
  areas-same [] (n ∷ ns) zip = zip
  areas-same (cell ∷ cells) [] zip = zip
  areas-same (cell ∷ cells) (n ∷ ns) zip = (least_area-same cell n zip.0, areas-same cells ns zip.1)

  pub area_bound-same : (bound : ℕ) → IsAreaBound problem A bound → IsAreaBound problem B bound
  area_bound-same bound is = record {
    some = (is.some.0, there is.some.0 is.some.1);
    no_column = is.no_column;
    columns = λ some. let held = is.columns some in (
      held.0,
      record {
        areas = held.1.areas;
        end = held.1.end;
        least = areas-same problem.cells held.1.areas held.1.least;
        greatest = record {
          attained = (
            held.1.greatest.attained.0,
            there held.1.greatest.attained.0 held.1.greatest.attained.1,
            held.1.greatest.attained.2,
          );
          never_more = λ widths among. held.1.greatest.never_more widths (back widths among);
        };
        rounded = held.1.rounded;
      },
      held.2,
    );
  }

module _ (problem : ProblemModel) (A B : List ℕ → Type 0) (there : (widths : List ℕ) → A widths →
    B widths) (back : (widths : List ℕ) → B widths →
    A widths) where
  -- a bound that was found, or none as there are no widths
  pub found_bound-same : (found : Option ℕ) → MatchOption found (HasNoWidths A) (IsBound problem A) →
      MatchOption found (HasNoWidths B) (IsBound problem B)
  found_bound-same None none = λ widths among. none widths (back widths among)
  found_bound-same (Some bound) is = bound-same problem A B there back bound is

  pub found_area-same : (found : Option ℕ) → MatchOption found (HasNoWidths A) (IsAreaBound problem A) →
      MatchOption found (HasNoWidths B) (IsAreaBound problem B)
  found_area-same None none = λ widths among. none widths (back widths among)
  found_area-same (Some bound) is = area_bound-same problem A B there back bound is

-- the opening is the placement in the whole zone
pub opening-in_whole : (problem : ProblemModel) → IsSound problem → (placed : Placed) → IsOpening problem placed →
    IsPlacementIn problem (InZone problem (whole_zone problem)) placed
opening-in_whole problem sound placed is = placement-same problem (WithinPage problem) (InZone problem (whole_zone problem))
    (whole-all problem sound) (λ widths inside. inside.page) placed is

pub whole-opening : (problem : ProblemModel) → IsSound problem → (placed : Placed) →
    IsPlacementIn problem (InZone problem (whole_zone problem)) placed → IsOpening problem placed
whole-opening problem sound placed is = placement-same problem (InZone problem (whole_zone problem)) (WithinPage problem)
    (λ widths inside. inside.page) (whole-all problem sound) placed is

-- ---- a set within another has no lower bound

module _ (problem : ProblemModel) (sound : IsSound problem) (A B : List ℕ → Type 0) (within : (widths : List ℕ) → A widths →
    B widths) (page : (widths : List ℕ) → A widths → WithinPage problem widths) where
  give_low-wider : (widths heights : List ℕ) → A widths → GiveLow problem A heights → GiveLow problem B heights
  give_low-wider widths heights among give = record {
    rows = give.rows;
    cells = λ k d inside w greatest.
        let cell = get_or problem.cells k d in
        let h = cell_height problem heights cell in
        elim (IsLowAt-decides cell.low h w) [
          | inl low ↦ low
          | inr high ↦ absurd (greatest-not_none problem A cell.left cell.right (page_room problem)
              (λ ws also. room-in_page problem ws (page ws also) cell.left cell.right (sound.cells k d inside).columns.0
              (sound.cells k d inside).columns.1)
              (λ v narrower. high (
              let some = narrower.attained in
              let wider = greatest.never_more some.0 (within some.0 some.1) in
              IsLowAt-wider cell.low (sound.cells k d inside).steps.0 h v w (omega (arith, wider, some.2))
              (give.cells k d inside v narrower)))
              widths among)
        ];
  }

  pub bound-within : (a b : ℕ) → IsBound problem A a → IsBound problem B b → b ≤ a
  bound-within a b first second =
      let rows = first.least.attained in
      let below = second.least.never_less rows.0 (give_low-wider first.some.0 rows.0 first.some.1 rows.1) in
      omega (arith, below, rows.2)
