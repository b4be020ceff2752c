-- Where the cells of a table lie: its caption on top, and below it the cells at the places of its grid.
use Rattle.std.proofs.Common.{◌≡◌, ◌∙◌, ℕ, zero, suc, ◌+◌, ◌-◌, ◌<◌, ◌≤◌, max, Option, Some, None, List, [], ◌∷◌, ◌++◌, ◌⊎◌, inl}
use Rattle.std.proofs.Common.{inr, map, Contains}
use Rattle.std.proofs.Common.{refl, sym, ap, subst, arith}
use Rattle.std.specs.List.{All, AllPairs, Any}
use Rattle.std.proofs.lemmas.List.Elements.{All-cons, All-contains}
use Rattle.tl_base.specs.declared.limits.TheConstants.{MAX_COLUMNS, MAX_ROWS}
use Rattle.tl_base.specs.declared.breaking.Breaking.{Breaking}
use Rattle.tl_base.proofs.Members.{AllPairs-cons, AllPairs-map, All-from_Contains, map-Contains, Contains-map, Contains-first}
use Rattle.tl_base.proofs.Members.{Contains-later}
use Rattle.tl_grid.specs.declared.shape.Grid.{Grid}
use Rattle.tl_grid.specs.declared.shape.Place.{Place}
use Rattle.tl_grid.specs.Dropping.{IsPlaced}
use Rattle.tl_grid.specs.Form.{HasGrid}
use Rattle.tl_grid.specs.Slots.{AreApart}
use Rattle.tl_grid.proofs.Laws.{all_within, all_apart, all_columns, all_rows}
use Rattle.tl_tree.specs.Outline.{outline}
use Rattle.tl_tree.specs.Sound.{AreSound}
use Rattle.tl_tree.specs.declared.node.Block.{Block}
use Rattle.tl_tree.specs.declared.node.TableNode.{TableNode, out-TableNode}
use Rattle.tl_table.specs.declared.cell.Table.{Table}
use Rattle.tl_table.specs.declared.cell.TableCell.{TableCell}
use Rattle.tl_table.specs.Formed.{BecomeCaption, lowered, caption_rows, shape_of}
use Rattle.tl_table.specs.Sound.{place_of}
use Rattle.tl_table.proofs.SoundNodes.{shape_spans}

-- places that cells may have in a table of so many columns and rows
pub record AreLaid (cols rows : ℕ) (places : List Place) : Type 0 where
  pub few_columns : cols ≤ MAX_COLUMNS
  pub few_rows : rows ≤ MAX_ROWS + 1
  pub placed : All (IsPlaced cols rows) places
  pub apart : AllPairs AreApart places
  pub in_columns : (x : ℕ) → x < cols → (place : Place) × Contains places place × (place.left ≡ x)
  pub in_rows : (y : ℕ) → y < rows → (place : Place) × Contains places place × (place.top ≡ y)

-- some element of which this is so
any_found : (P : Place → Type 0) (places : List Place) → Any P places → (place : Place) × Contains places place × P place
any_found P places any = (any.1, (any.0, any.2, any.3), any.4)

grid_laid : (node : TableNode) (grid : Grid) → AreSound (outline node) → HasGrid (shape_of (out-TableNode node)) grid →
    AreLaid grid.cols grid.rows grid.places
grid_laid node grid sound has = record {
  few_columns = omega (arith, has.columns, has.few_columns);
  few_rows = omega (arith, has.rows, has.few_rows);
  placed = all_within (shape_of (out-TableNode node)) grid (shape_spans node sound) has;
  apart = all_apart (shape_of (out-TableNode node)) grid (shape_spans node sound) has;
  in_columns = λ x lt. any_found (λ place. place.left ≡ x) grid.places
      (all_columns (shape_of (out-TableNode node)) grid has x lt);
  in_rows = λ y lt. any_found (λ place. place.top ≡ y) grid.places (all_rows (shape_of (out-TableNode node)) grid has y lt);
}

-- the place of a caption over so many columns
abbrev on_top : ℕ → Place
on_top cols = record { left = 0; right = cols; top = 0; bottom = 1 }

-- places are laid below a caption, over at least one column
captioned_laid : (cols rows : ℕ) (places : List Place) → rows ≤ MAX_ROWS → AreLaid cols rows places →
    AreLaid (max cols 1) (rows + 1) (on_top (max cols 1) ∷ map (lowered 1) places)
captioned_laid cols rows places few laid = record {
  few_columns = omega (arith, laid.few_columns);
  few_rows = omega arith;
  placed = All-cons (IsPlaced (max cols 1) (rows + 1)) (on_top (max cols 1)) (map (lowered 1) places)
      (omega arith, omega arith, omega arith, omega arith)
      (All-from_Contains (IsPlaced (max cols 1) (rows + 1)) (map (lowered 1) places) (λ place has.
      let found = map-Contains (lowered 1) places place has in
      let is = All-contains (IsPlaced cols rows) places found.0 laid.placed found.1 in
      subst (IsPlaced (max cols 1) (rows + 1)) found.2 (is.0, omega (arith, is.1), omega (arith, is.2), omega (arith, is.3))));
  apart = AllPairs-cons AreApart (on_top (max cols 1)) (map (lowered 1) places)
      (All-from_Contains (AreApart (on_top (max cols 1))) (map (lowered 1) places) (λ place has x y top below.
      let found = map-Contains (lowered 1) places place has in
      omega (arith, top.3, below.2, ap (λ (p : Place). p.top) found.2)))
      (AllPairs-map AreApart (lowered 1) places (λ i j d before within x y one other.
      laid.apart i j d before within x (y - 1) (one.0, one.1, omega (arith, one.2), omega (arith, one.2, one.3))
      (other.0, other.1, omega (arith, other.2), omega (arith, other.2, other.3))));
  in_columns = λ x lt. column x lt (cases x);
  in_rows = λ y lt. row y lt;
} where
  cases : (x : ℕ) → (x ≡ 0) ⊎ (0 < x)
  cases zero = inl refl
  cases (suc x) = inr (omega arith)

  column : (x : ℕ) → x < max cols 1 → (x ≡ 0) ⊎ (0 < x) → (place : Place) ×
      Contains (on_top (max cols 1) ∷ map (lowered 1) places) place × (place.left ≡ x)
  column x lt (inl first) = (on_top (max cols 1), Contains-first (on_top (max cols 1)) (map (lowered 1) places), sym first)
  column x lt (inr later) =
      let found = laid.in_columns x (omega arith) in (
        lowered 1 found.0,
        Contains-later (on_top (max cols 1)) (map (lowered 1) places) (lowered 1 found.0)
            (Contains-map (lowered 1) places found.0 found.1),
        found.2,
      )

  row : (y : ℕ) → y < rows + 1 → (place : Place) × Contains (on_top (max cols 1) ∷ map (lowered 1) places) place × (place.top ≡ y)
  row zero lt = (on_top (max cols 1), Contains-first (on_top (max cols 1)) (map (lowered 1) places), refl)
  row (suc y) lt =
      let found = laid.in_rows y (omega arith) in (
        lowered 1 found.0,
        Contains-later (on_top (max cols 1)) (map (lowered 1) places) (lowered 1 found.0)
            (Contains-map (lowered 1) places found.0 found.1),
        omega (arith, found.2),
      )

lowered_none : (places : List Place) → map (lowered 0) places ≡ places
lowered_none [] = refl
lowered_none (place ∷ places) = ap (λ (p : Place). p ∷ map (lowered 0) places) same ∙ ap (λ (rest : List Place). place ∷ rest)
    (lowered_none places)
  where
    same : lowered 0 place ≡ place
    same =
        ap (λ top. let p : Place = record { left = place.left; right = place.right; top = top; bottom = place.bottom + 0 } in
        p) (omega arith)
        ∙ ap (λ bottom. let p : Place = record { left = place.left; right = place.right; top = place.top; bottom = bottom } in
        p) (omega arith)

-- where the cells of a table lie: the caption's and those written
pub cells_laid : (forms : TableNode → Table → Type 0) (breaking : Breaking) (node : TableNode) (grid : Grid)
    (caption : Option (List Block))
    (above written : List TableCell) → AreSound (outline node) → HasGrid (shape_of (out-TableNode node)) grid →
    BecomeCaption forms breaking (max grid.cols (caption_rows caption)) caption above →
    map place_of written ≡ map (lowered (caption_rows caption)) grid.places →
    AreLaid (max grid.cols (caption_rows caption)) (grid.rows + caption_rows caption) (map place_of (above ++ written))
cells_laid forms breaking node grid None above written sound has captioned below =
    let cols : max grid.cols 0 ≡ grid.cols = omega arith in
    let rows : grid.rows + 0 ≡ grid.rows = omega arith in
    subst (λ n. AreLaid n (grid.rows + 0) (map place_of (above ++ written))) (sym cols)
    (subst (λ n. AreLaid grid.cols n (map place_of (above ++ written))) (sym rows)
    (subst (AreLaid grid.cols grid.rows) (sym (ap (λ (cells : List TableCell). map place_of (cells ++ written))
    captioned ∙ below ∙ lowered_none grid.places))
    (grid_laid node grid sound has)))
cells_laid forms breaking node grid (Some flow) [] written sound has captioned below = absurd captioned
cells_laid forms breaking node grid (Some flow) (cell ∷ above) written sound has captioned below =
    subst (AreLaid (max grid.cols 1) (grid.rows + 1))
    (sym (ap (λ (cells : List TableCell). place_of cell ∷ map place_of (cells ++ written)) captioned.1
    ∙ ap (λ (places : List Place). place_of cell ∷ places) below
    ∙ ap (λ (p : Place). p ∷ map (lowered 1) grid.places) captioned.0.place))
    (captioned_laid grid.cols grid.rows grid.places (omega (arith, has.rows, has.few_rows)) (grid_laid node grid sound has))
