-- The heaviest chain of demands weighs as much as the narrowest columns that give each demand its room take in all.
use Rattle.std.proofs.Common.{◌≡◌, ℕ, zero, suc, ◌+◌, ◌-◌, ◌*◌, ◌<◌, ◌≤◌, ◌∙◌, List, [], ◌∷◌, ◌++◌, length, take, get_or, sum_by}
use Rattle.std.proofs.Common.{map, Option, Some}
use Rattle.std.proofs.Common.{None, Contains, IsSomeAnd, slice_get, refl, sym, ap, subst, ⊎_elim, option_map, length-append}
use Rattle.std.proofs.Common.{arith}
use Rattle.std.specs.List.{All}
use Rattle.std.proofs.lemmas.List.{take_all, take-append-le, length-map}
use Rattle.std.proofs.lemmas.List.Elements.{All-get_or}
use Rattle.std.proofs.lemmas.List.Sums.{sum_by-append, sum_by-cons}
use Rattle.std.proofs.lemmas.Option.{slice_get_within, get_or_from_slice_get, slice_get-get_or, slice_get-map}
use Rattle.std.proofs.lemmas.Bool.{cases_lt}
use Rattle.tl_base.specs.declared.style.Style.{Style}
use Rattle.tl_base.specs.Style.{gap_of, edges_of}
use Rattle.tl_diff.specs.declared.paths.Arc.{Arc}
use Rattle.tl_diff.specs.Paths.{arc_at, IsPath, IsHeaviest, path_weight}
use Rattle.tl_diff.proofs.PathLaws.{IsHeaviest-further, IsHeaviest-along}
use Rattle.tl_base.specs.Sizes.{room, total}
use Rattle.tl_table.specs.declared.widest.Demand.{Demand}
use Rattle.tl_table.specs.declared.widest.NumberedArc.{NumberedArc}
use Rattle.tl_table.specs.inner.Demands.{HaveArcs, IsArcOf, IsPlacedDemand, GiveRooms, IsLeastFor, arc_of}
use Rattle.tl_table.proofs.Rooms.{ahead, room-ends, total-ahead}

-- the arcs without their numbers
abbrev pub plain : List NumberedArc → List Arc
plain arcs = map (λ one. one.arc) arcs

-- between the ends of each arc lies at least its weight
abbrev MeetsArcs : List ℕ → List Arc → Type 0
MeetsArcs widths arcs = (i : ℕ) → i < length arcs → (arc_at arcs i).weight + ahead widths (arc_at arcs i).from ≤ ahead widths
    (arc_at arcs i).to

ahead-further : (widths : List ℕ) (p k : ℕ) → p ≤ k → ahead widths p ≤ ahead widths k
ahead-further widths p k order = omega (arith, room-ends 0 widths p k order)

-- so a path weighs no more than lies between its ends
path-ahead : (widths : List ℕ) (arcs : List Arc) (p : ℕ) (is : List ℕ) (k : ℕ) → MeetsArcs widths arcs → IsPath arcs p is k →
    path_weight arcs is + ahead widths p ≤ ahead widths k
path-ahead widths arcs p [] k meets path = omega (arith, ahead-further widths p k path)
path-ahead widths arcs p (i ∷ is) k meets path =
    omega (
      arith,
      sum_by-cons (λ (j : ℕ). (arc_at arcs j).weight) i is,
      path-ahead widths arcs (arc_at arcs i).to is k meets path.2,
      meets i path.0,
      ahead-further widths p (arc_at arcs i).from path.1,
    )

-- what holds of all holds of the one of a number
pub All-named : {X : Type 0} (P : X → Type 0) (xs : List X) (k : ℕ) (x : X) → slice_get xs k ≡ Some x → All P xs → P x
All-named P xs k x named all = subst P (get_or_from_slice_get xs k x x named)
    (All-get_or P xs k x (slice_get_within xs k x named) all)

-- ---- an arc and its demand

pub record IsArcAt (gap cols : ℕ) (demands : List Demand) (arcs : List NumberedArc) (i : ℕ) : Type 0 where
  pub demand : Demand
  pub number : ℕ
  pub named : slice_get demands number ≡ Some demand
  pub numbered : slice_get arcs i ≡ Some (record { number = number; arc = arc_of gap demand })
  pub is : arc_at (plain arcs) i ≡ arc_of gap demand
  pub heavy : 0 < (arc_of gap demand).weight
  pub placed : IsPlacedDemand cols demand

-- the arc of each number is that of a demand
pub arc_of_demand : (gap cols : ℕ) (demands : List Demand) (n : ℕ) (arcs : List NumberedArc) → All (IsPlacedDemand cols) demands →
    HaveArcs gap demands n arcs →
    (i : ℕ) → i < length arcs → IsArcAt gap cols demands arcs i
arc_of_demand gap cols demands n arcs placed have i within =
    choose one (slice_get-get_or arcs i empty within) (slice_get demands one.number) refl
    (All-get_or (IsArcOf gap demands) arcs i empty within have.each)
  where
    empty : NumberedArc
    empty = record { number = 0; arc = record { from = 0; to = 0; weight = 0 } }

    one : NumberedArc
    one = get_or arcs i empty

    choose : (one : NumberedArc) → slice_get arcs i ≡ Some one → (found : Option Demand) → slice_get demands one.number ≡ found →
        IsSomeAnd found (λ demand. (one.arc ≡ arc_of gap demand) × (0 < one.arc.weight)) → IsArcAt gap cols demands arcs i
    choose one there None named is = absurd is
    choose one there (Some demand) named is = record {
      demand = demand;
      number = one.number;
      named = named;
      numbered = there ∙ ap (λ arc. Some (record { number = one.number; arc = arc })) is.0;
      is = get_or_from_slice_get (plain arcs) i one.arc (record { from = 0; to = 0; weight = 0 })
          (slice_get-map (λ (each : NumberedArc). each.arc) arcs i ∙ ap (option_map (λ (each : NumberedArc). each.arc))
          there) ∙ is.0;
      heavy = omega (arith, is.1, ap (λ arc. arc.weight) is.0);
      placed = All-named (IsPlacedDemand cols) demands one.number demand named placed;
    }

-- an arc that stands among others has their number
pub arc_among : (arcs : List NumberedArc) (k : ℕ) (arc : Arc) (among : Contains arcs (record { number = k; arc = arc })) →
    arc_at (plain arcs) among.0 ≡ arc
arc_among arcs k arc among = get_or_from_slice_get (plain arcs) among.0 arc (record { from = 0; to = 0; weight = 0 })
    (slice_get-map (λ (each : NumberedArc). each.arc) arcs among.0 ∙ ap (option_map (λ (each : NumberedArc). each.arc))
    (slice_get-get_or arcs among.0 (record { number = k; arc = arc }) among.1 ∙ ap (λ one. Some one) among.2))

-- ---- no columns are narrower than a path is heavy

meets_arcs : (gap cols : ℕ) (demands : List Demand) (arcs : List NumberedArc) (widths : List ℕ) →
    All (IsPlacedDemand cols) demands →
    HaveArcs gap demands (length demands) arcs → GiveRooms gap cols demands widths → MeetsArcs widths (plain arcs)
meets_arcs gap cols demands arcs widths placed have give i within =
    let at = arc_of_demand gap cols demands (length demands) arcs placed have i
    (omega (arith, length-map arcs (λ (each : NumberedArc). each.arc))) in
    subst (λ arc. arc.weight + ahead widths arc.from ≤ ahead widths arc.to) (sym at.is)
    (omega (
      arith,
      at.heavy,
      room-ends gap widths at.demand.left at.demand.right (omega (arith, at.placed.0)),
      All-named
          (λ demand. demand.width ≤ room gap widths demand.left demand.right) demands at.number at.demand at.named give.each,
    ))

-- ---- the heaviest paths to each place are where columns may begin

-- the columns between places that do not fall
abbrev pub sizes_between : (ℕ → ℕ) → ℕ → List ℕ
sizes_between f zero = []
sizes_between f (suc n) = sizes_between f n ++ (f (suc n) - f n) ∷ []

length-sizes_between : (f : ℕ → ℕ) (n : ℕ) → length (sizes_between f n) ≡ n
length-sizes_between f zero = refl
length-sizes_between f (suc n) = omega (
  arith,
  length-append (sizes_between f n) ((f (suc n) - f n) ∷ []),
  length-sizes_between f n,
)

ahead-sizes_between : (f : ℕ → ℕ) (n k : ℕ) → ((j : ℕ) → j < n → f j ≤ f (suc j)) → k ≤ n →
    ahead (sizes_between f n) k + f 0 ≡ f k
ahead-sizes_between f zero k rises within = let at : k ≡ 0 =
    omega arith in subst (λ j. ahead (sizes_between f 0) j + f 0 ≡ f j) (sym at) (omega arith)
ahead-sizes_between f (suc n) k rises within = ⊎_elim
    (λ (inner : k < suc n). ap (λ prefix. sum_by (λ size. size) prefix + f 0)
    (take-append-le k (sizes_between f n) ((f (suc n) - f n) ∷ []) (omega (arith, length-sizes_between f n)))
    ∙ ahead-sizes_between f n k (λ j below. rises j (omega arith)) (omega arith))
    (λ (last : suc n ≤ k).
    let at : k ≡ suc n = omega arith in
    let all : take k (sizes_between f (suc n)) ≡ sizes_between f (suc n) =
    take_all k (sizes_between f (suc n)) (omega (arith, length-sizes_between f (suc n))) in
    let prefix : take n (sizes_between f n) ≡ sizes_between f n =
    take_all n (sizes_between f n) (omega (arith, length-sizes_between f n)) in
    omega (
      arith,
      ap (sum_by (λ (size : ℕ). size)) all,
      ap (sum_by (λ (size : ℕ). size)) prefix,
      sum_by-append (λ (size : ℕ). size)
          (sizes_between f n) ((f (suc n) - f n) ∷ []),
      sum_by-cons (λ (size : ℕ). size) (f (suc n) - f n) [],
      ahead-sizes_between f n n (λ j below. rises j (omega arith)) (omega arith),
      rises n (omega arith),
      ap f at,
    ))
    (cases_lt k (suc n))

-- a demand is given its room by columns between the places where the heaviest paths end
gives_room : (gap cols : ℕ) (demands : List Demand) (arcs : List NumberedArc) (f : ℕ → ℕ) → All (IsPlacedDemand cols) demands →
    HaveArcs gap demands (length demands) arcs → ((k : ℕ) → k ≤ cols → IsHeaviest (plain arcs) k (f k)) →
    (widths : List ℕ) → ((k : ℕ) → k ≤ cols → ahead widths k + f 0 ≡ f k) →
    (k : ℕ) (demand : Demand) → slice_get demands k ≡ Some demand → demand.width ≤ room gap widths demand.left demand.right
gives_room gap cols demands arcs f placed have heaviest widths at k demand named =
    let here : IsPlacedDemand cols demand = All-named (IsPlacedDemand cols) demands k demand named placed in
    let left = at demand.left (omega (arith, here.0, here.1)) in
    let right = at demand.right here.1 in
    let ends = room-ends gap widths demand.left demand.right (omega (arith, here.0)) in
    ⊎_elim
    (λ (light : (arc_of gap demand).weight ≡ 0). omega (
      arith,
      light,
      ends,
      ahead-further widths demand.left demand.right (omega (arith, here.0)),
    ))
    (λ (among : Contains arcs (record { number = k; arc = arc_of gap demand })).
    let is : arc_at (plain arcs) among.0 ≡ arc_of gap demand = arc_among arcs k (arc_of gap demand) among in
    let from : (arc_at (plain arcs) among.0).from ≡ demand.left = ap (λ arc. arc.from) is in
    let to : (arc_at (plain arcs) among.0).to ≡ demand.right = ap (λ arc. arc.to) is in
    let along = IsHeaviest-along (plain arcs) among.0 (f demand.left) (f demand.right)
    (omega (arith, among.1, length-map arcs (λ (each : NumberedArc). each.arc)))
    (subst (λ place. IsHeaviest (plain arcs) place (f demand.left)) (sym from)
    (heaviest demand.left (omega (arith, here.0, here.1))))
    (subst (λ place. IsHeaviest (plain arcs) place (f demand.right)) (sym to) (heaviest demand.right here.1)) in
    omega (arith, along, ap (λ arc. arc.weight) is, ends, left, right))
    (have.every k demand (slice_get_within demands k demand named) named)

-- the heaviest path to the last column's end, the gaps and the edges are the least total
pub least_for : (style : Style) (cols : ℕ) (demands : List Demand) (arcs : List NumberedArc) (f : ℕ → ℕ) → 0 < cols →
    All (IsPlacedDemand cols) demands →
    HaveArcs (gap_of style) demands (length demands) arcs → ((k : ℕ) → k ≤ cols → IsHeaviest (plain arcs) k (f k)) →
    IsLeastFor style cols demands (f cols + gap_of style * (cols - 1) + edges_of style)
least_for style cols demands arcs f some placed have heaviest = record {
  attained = (widths, gives, total_is);
  never_less = λ other give. omega (
    arith,
    weight_within other give,
    total-ahead gap edges other (omega (arith, give.columns)),
    columns other give.columns,
    all_ahead other
        (omega (arith, give.columns)),
  );
} where
  gap : ℕ
  gap = gap_of style

  edges : ℕ
  edges = edges_of style

  widths : List ℕ
  widths = sizes_between f cols

  ends : (k : ℕ) → k ≤ cols → ahead widths k + f 0 ≡ f k
  ends k within = ahead-sizes_between f cols k
      (λ j below. IsHeaviest-further (plain arcs) j (suc j) (f j) (f (suc j)) (heaviest j (omega arith))
      (heaviest (suc j) (omega arith))
      (omega arith)) within

  gives : GiveRooms gap cols demands widths
  gives = record {
    columns = length-sizes_between f cols;
    each = λ k d within. gives_room gap cols demands arcs f placed have heaviest widths ends k (get_or demands k d)
        (slice_get-get_or demands k d within);
  }

  all_ahead : (other : List ℕ) → length other ≤ cols → ahead other cols ≡ sum_by (λ size. size) other
  all_ahead other short = ap (sum_by (λ size. size)) (take_all cols other (omega arith))

  columns : (other : List ℕ) → length other ≡ cols → gap * (length other - 1) ≡ gap * (cols - 1)
  columns other same = ap (λ n. gap * (n - 1)) same

  weight_within : (other : List ℕ) → GiveRooms gap cols demands other → f cols ≤ ahead other cols
  weight_within other give =
      let reached = (heaviest cols (omega arith)).reached in
      omega (
        arith,
        reached.1.1,
        path-ahead other (plain arcs) 0 reached.0 cols
            (meets_arcs gap cols demands arcs other placed have give) reached.1.0,
      )

  total_is : total gap edges widths ≡ f cols + gap * (cols - 1) + edges
  total_is = omega (
    arith,
    total-ahead gap edges widths (omega (arith, gives.columns)),
    columns widths gives.columns,
    all_ahead widths
        (omega (arith, gives.columns)),
    ends cols (omega arith),
    weight_within widths gives,
  )
