-- The demands along a path stand in a row, and weigh what the path does, the gaps and the edges.
use Rattle.std.proofs.Common.{◌≡◌, ℕ, suc, ◌+◌, ◌-◌, ◌*◌, ◌<◌, ◌≤◌, ◌∙◌, List, [], ◌∷◌, length, sum_by, map, Some, Contains}
use Rattle.std.proofs.Common.{slice_get, refl, sym}
use Rattle.std.proofs.Common.{ap, subst, ⊎_elim, arith}
use Rattle.std.specs.List.{All, AllZip}
use Rattle.std.proofs.lemmas.List.{length-map}
use Rattle.std.proofs.lemmas.List.Sums.{sum_by-cons}
use Rattle.std.proofs.lemmas.Option.{slice_get_within, get_or_from_slice_get}
use Rattle.tl_base.specs.declared.style.Style.{Style}
use Rattle.tl_base.specs.declared.style.Style.TheVariants.{Plain, Compact, Frame, Grid, Box, Rule, Apart}
use Rattle.tl_base.specs.Style.{gap_of, edges_of}
use Rattle.tl_diff.specs.Paths.{arc_at, IsPath, IsHeaviest, path_weight}
use Rattle.tl_table.specs.declared.widest.Demand.{Demand}
use Rattle.tl_table.specs.declared.widest.NumberedArc.{NumberedArc}
use Rattle.tl_table.specs.inner.Demands.{HaveArcs, IsPlacedDemand, AreInRow, columns_demanded, IsRowOf, arc_of, demand_number}
use Rattle.tl_table.proofs.Duality.{plain, IsArcAt, arc_of_demand, arc_among, All-named}

-- what holds of the demands along a path from a column to another
pub record FollowsPath (style : Style) (demands : List Demand) (arcs : List NumberedArc) (from : ℕ) (is : List ℕ)
    (past : ℕ) : Type 0 where
  pub picked : List Demand
  pub named : AllZip (λ number demand. slice_get demands number ≡ Some demand) (map (demand_number arcs) is) picked
  pub in_row : AreInRow from picked
  pub many : length picked ≡ length is
  pub weighs : sum_by (λ demand. demand.width) picked + gap_of style * length picked ≡ path_weight (plain arcs)
      is + gap_of style * columns_demanded picked
  pub few : length picked ≤ columns_demanded picked
  pub within : columns_demanded picked + from ≤ past

weigh_more : (style : Style) (widths many weight columns width arc span : ℕ) →
    widths + gap_of style * many ≡ weight + gap_of style * columns →
    width ≡ arc + gap_of style * (span - 1) → 1 ≤ span → (width + widths) + gap_of style * suc many ≡
    (arc + weight) + gap_of style * (span + columns)
weigh_more Plain widths many weight columns width arc span before is some = omega arith
weigh_more Compact widths many weight columns width arc span before is some = omega arith
weigh_more Frame widths many weight columns width arc span before is some = omega arith
weigh_more Grid widths many weight columns width arc span before is some = omega arith
weigh_more Box widths many weight columns width arc span before is some = omega arith
weigh_more Rule widths many weight columns width arc span before is some = omega arith
weigh_more Apart widths many weight columns width arc span before is some = omega arith

-- an arc before what follows a path from its end
follows_more : (style : Style) (cols : ℕ) (demands : List Demand) (arcs : List NumberedArc) (from i : ℕ) (is : List ℕ)
    (past : ℕ) →
    IsArcAt (gap_of style) cols demands arcs i →
    from ≤ (arc_at (plain arcs) i).from → FollowsPath style demands arcs (arc_at (plain arcs) i).to is past →
    FollowsPath style demands arcs from (i ∷ is) past
follows_more style cols demands arcs from i is past at order rest = record {
  picked = at.demand ∷ rest.picked;
  named = (
    ap (slice_get demands)
        (ap (λ one. one.number)
        (get_or_from_slice_get arcs i (record { number = at.number; arc = arc_of (gap_of style) at.demand })
        empty at.numbered)) ∙ at.named,
    rest.named,
  );
  in_row = (omega (arith, order, from_is), subst (λ column. AreInRow column rest.picked) to_is rest.in_row);
  many = omega (arith, rest.many);
  weighs = ap (λ w. w + gap_of style * suc (length rest.picked))
      (sum_by-cons (λ (demand : Demand). demand.width) at.demand rest.picked)
      ∙ weigh_more style (sum_by (λ demand. demand.width) rest.picked) (length rest.picked) (path_weight (plain arcs) is)
      (columns_demanded rest.picked)
      at.demand.width (arc_of (gap_of style) at.demand).weight (at.demand.right - at.demand.left) rest.weighs
      (omega (arith, at.heavy))
      (omega (arith, at.placed.0))
      ∙ ap (λ w. w + path_weight (plain arcs) is + gap_of style *
      ((at.demand.right - at.demand.left) + columns_demanded rest.picked))
      (sym (ap (λ arc. arc.weight) at.is))
      ∙ sym (ap (λ w. w + gap_of style * columns_demanded (at.demand ∷ rest.picked))
      (sum_by-cons (λ (j : ℕ). (arc_at (plain arcs) j).weight) i is)
      ∙ ap (λ c. (arc_at (plain arcs) i).weight + path_weight (plain arcs) is + gap_of style * c) covers);
  few = omega (arith, rest.few, covers, at.placed.0);
  within = omega (arith, rest.within, covers, order, from_is, to_is, at.placed.0);
} where
  empty : NumberedArc
  empty = record { number = 0; arc = record { from = 0; to = 0; weight = 0 } }

  from_is : (arc_at (plain arcs) i).from ≡ at.demand.left
  from_is = ap (λ arc. arc.from) at.is

  to_is : (arc_at (plain arcs) i).to ≡ at.demand.right
  to_is = ap (λ arc. arc.to) at.is

  covers : columns_demanded (at.demand ∷ rest.picked) ≡ (at.demand.right - at.demand.left) + columns_demanded rest.picked
  covers = sum_by-cons (λ (demand : Demand). demand.right - demand.left) at.demand rest.picked

pub follows_path : (style : Style) (cols : ℕ) (demands : List Demand) (arcs : List NumberedArc) (from : ℕ) (is : List ℕ)
    (past : ℕ) →
    All (IsPlacedDemand cols) demands →
    HaveArcs (gap_of style) demands (length demands) arcs → IsPath (plain arcs) from is past →
    FollowsPath style demands arcs from is past
follows_path style cols demands arcs from [] past placed have path = record {
  picked = [];
  named = tt;
  in_row = tt;
  many = refl;
  weighs = omega arith;
  few = omega arith;
  within = omega (arith, path);
}
follows_path style cols demands arcs from (i ∷ is) past placed have path =
    follows_more style cols demands arcs from i is past
    (arc_of_demand (gap_of style) cols demands (length demands) arcs placed have i
    (omega (arith, path.0, length-map arcs (λ (each : NumberedArc). each.arc)))) path.1
    (follows_path style cols demands arcs (arc_at (plain arcs) i).to is past placed have path.2)

weighs_in_all : (style : Style) (widths many weight columns cols : ℕ) →
    widths + gap_of style * many ≡ weight + gap_of style * columns → 1 ≤ many →
    many ≤ columns → columns ≤ cols →
    weight + gap_of style * (cols - 1) + edges_of style ≡ widths + gap_of style *
    (many + (cols - columns) - 1) + edges_of style
weighs_in_all Plain widths many weight columns cols is some few within = omega arith
weighs_in_all Compact widths many weight columns cols is some few within = omega arith
weighs_in_all Frame widths many weight columns cols is some few within = omega arith
weighs_in_all Grid widths many weight columns cols is some few within = omega arith
weighs_in_all Box widths many weight columns cols is some few within = omega arith
weighs_in_all Rule widths many weight columns cols is some few within = omega arith
weighs_in_all Apart widths many weight columns cols is some few within = omega arith

-- a path with an arc names demands in a row, which weigh what it does
pub row_of_path : (style : Style) (cols : ℕ) (demands : List Demand) (arcs : List NumberedArc) (is : List ℕ) →
    All (IsPlacedDemand cols) demands →
    HaveArcs (gap_of style) demands (length demands) arcs → IsPath (plain arcs) 0 is cols → 0 < length is →
    IsRowOf style cols demands (map (demand_number arcs) is) (path_weight (plain arcs) is + gap_of style *
    (cols - 1) + edges_of style)
row_of_path style cols demands arcs is placed have path some =
    let row = follows_path style cols demands arcs 0 is cols placed have path in record {
      some = omega (arith, length-map is (demand_number arcs));
      picked = row.picked;
      named = row.named;
      in_row = row.in_row;
      weighed = weighs_in_all style (sum_by (λ demand. demand.width) row.picked) (length row.picked) (path_weight (plain arcs) is)
          (columns_demanded row.picked) cols row.weighs (omega (arith, row.many)) row.few (omega (arith, row.within));
    }

weighs_alone : (style : Style) (cols width : ℕ) → 0 < cols → width ≡ 0 →
    0 + gap_of style * (cols - 1) + edges_of style ≡ width + gap_of style * (1 + (cols - 1) - 1) + edges_of style
weighs_alone Plain cols width some none = omega arith
weighs_alone Compact cols width some none = omega arith
weighs_alone Frame cols width some none = omega arith
weighs_alone Grid cols width some none = omega arith
weighs_alone Box cols width some none = omega arith
weighs_alone Rule cols width some none = omega arith
weighs_alone Apart cols width some none = omega arith

-- where no arc is on a heaviest path the demand of the last column alone is a row that weighs as much
pub row_of_last : (style : Style) (cols : ℕ) (demands : List Demand) (arcs : List NumberedArc) (k : ℕ) (demand : Demand) →
    0 < cols →
    All (IsPlacedDemand cols) demands →
    HaveArcs (gap_of style) demands (length demands) arcs → IsHeaviest (plain arcs) cols 0 → slice_get demands k ≡ Some demand →
    demand.left + 1 ≡ cols →
    IsRowOf style cols demands (k ∷ []) (0 + gap_of style * (cols - 1) + edges_of style)
row_of_last style cols demands arcs k demand some placed have heaviest named last = record {
  some = omega arith;
  picked = demand ∷ [];
  named = (named, tt);
  in_row = (omega arith, tt);
  weighed = weighs_alone style cols (sum_by (λ one. one.width) (demand ∷ [])) some (omega (arith, width, empty)) ∙
      ap (λ c. sum_by (λ one. one.width) (demand ∷ []) + gap_of style * (1 + (cols - c) - 1) + edges_of style) (sym covers);
} where
  here : IsPlacedDemand cols demand
  here = All-named (IsPlacedDemand cols) demands k demand named placed

  width : sum_by (λ one. one.width) (demand ∷ []) ≡ demand.width
  width = omega (arith, sum_by-cons (λ (one : Demand). one.width) demand [])

  covers : columns_demanded (demand ∷ []) ≡ 1
  covers = omega (arith, here.0, here.1, sum_by-cons (λ (one : Demand). one.right - one.left) demand [])

  gaps : gap_of style * (demand.right - demand.left - 1) ≡ 0
  gaps = let one : demand.right - demand.left - 1 ≡ 0 = omega (arith, here.0, here.1) in
      ap (λ k. gap_of style * k) one ∙ omega arith

  empty : demand.width ≡ 0
  empty = ⊎_elim
      (λ (light : (arc_of (gap_of style) demand).weight ≡ 0). omega (arith, light, gaps))
      (λ (among : Contains arcs (record { number = k; arc = arc_of (gap_of style) demand })).
      let is : arc_at (plain arcs) among.0 ≡ arc_of (gap_of style) demand =
      arc_among arcs k (arc_of (gap_of style) demand) among in
      let to : (arc_at (plain arcs) among.0).to ≡ demand.right = ap (λ arc. arc.to) is in
      let weight : (arc_at (plain arcs) among.0).weight ≡ (arc_of (gap_of style) demand).weight = ap (λ arc. arc.weight) is in
      omega (
        arith,
        gaps,
        weight,
        sum_by-cons (λ (j : ℕ). (arc_at (plain arcs) j).weight) among.0 [],
        heaviest.greatest (among.0 ∷ [])
            (omega (arith, among.1, length-map arcs (λ (each : NumberedArc). each.arc)), omega arith, omega (arith, to, here.1)),
      ))
      (have.every k demand (slice_get_within demands k demand named) named)
