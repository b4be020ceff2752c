-- What the heaviest paths along the arcs say of demands, as it is found.
use Rattle.std.proofs.Common.{◌≡◌, ℕ, ◌+◌, ◌-◌, ◌*◌, ◌<◌, ◌≤◌, ◌∙◌, List, [], ◌∷◌, ◌++◌, length, map, Option, Some, None}
use Rattle.std.proofs.Common.{IsSomeAnd, slice_get}
use Rattle.std.proofs.Common.{slice_index, refl, sym, ap, subst, arith}
use Rattle.std.specs.List.{All}
use Rattle.std.proofs.lemmas.List.{length-map}
use Rattle.tl_base.specs.declared.limits.TheConstants.{MAX_COLUMNS}
use Rattle.tl_base.specs.declared.style.Style.{Style}
use Rattle.tl_base.specs.declared.style.Style.TheVariants.{Plain, Compact, Frame, Grid, Box, Rule, Apart}
use Rattle.tl_base.specs.Style.{gap_of, edges_of}
use Rattle.tl_diff.specs.declared.paths.Arc.{Arc}
use Rattle.tl_diff.specs.Paths.{IsPath, IsHeaviest, path_weight}
use Rattle.tl_table.specs.declared.widest.Demand.{Demand}
use Rattle.tl_table.specs.declared.widest.NumberedArc.{NumberedArc}
use Rattle.tl_table.specs.inner.Demands.{HaveArcs, IsPlacedDemand, AreDemands, IsLeastFor, IsRowOf, most_gaps, demand_number}
use Rattle.tl_table.proofs.Duality.{plain, least_for}
use Rattle.tl_table.proofs.Rows.{row_of_path, row_of_last}

-- the demands, their arcs, and the heaviest weights of paths to each column
pub record IsFound (style : Style) (cols : ℕ) (demands : List Demand) (arcs : List NumberedArc) (out : List ℕ)
    (w : ℕ) : Type 0 where
  pub some : 0 < cols
  pub demanded : AreDemands cols demands
  pub have : HaveArcs (gap_of style) demands (length demands) arcs
  pub each : (k : ℕ) → k ≤ cols → IsHeaviest (plain arcs) k (slice_index out k)
  pub last : w ≡ slice_index out cols

pub IsFound-made : (style : Style) (cols : ℕ) (demands : List Demand) (arcs : List NumberedArc) (alone : List Arc)
    (out : List ℕ) (w : ℕ) →
    0 < cols → AreDemands cols demands →
    HaveArcs (gap_of style) demands (length demands) arcs → alone ≡ plain arcs →
    ((k : ℕ) → k ≤ cols → IsHeaviest alone k (slice_index out k)) →
    w ≡ slice_index out cols → IsFound style cols demands arcs out w
IsFound-made style cols demands arcs alone out w some demanded have same each last = record {
  some = some;
  demanded = demanded;
  have = have;
  each = λ k within. subst (λ those. IsHeaviest those k (slice_index out k)) same (each k within);
  last = last;
}

-- the weight, by the gap and the edges of the style
in_all : (style : Style) (cols w gap edges : ℕ) → gap ≡ gap_of style → edges ≡ edges_of style →
    w + gap_of style * (cols - 1) + edges_of style ≡ w + gap * (cols - 1) + edges
in_all style cols w gap edges is also = ap (λ g. w + g * (cols - 1) + edges_of style) (sym is) ∙ ap
    (λ e. w + gap * (cols - 1) + e) (sym also)

pub least_found : (style : Style) (cols : ℕ) (demands : List Demand) (arcs : List NumberedArc) (out : List ℕ) (w gap edges : ℕ) →
    IsFound style cols demands arcs out w →
    gap ≡ gap_of style → edges ≡ edges_of style → IsLeastFor style cols demands (w + gap * (cols - 1) + edges)
least_found style cols demands arcs out w gap edges found is also =
    subst (IsLeastFor style cols demands)
    (ap (λ v. v + gap_of style * (cols - 1) + edges_of style) (sym found.last) ∙ in_all style cols w gap edges is also)
    (least_for style cols demands arcs (slice_index out) found.some found.demanded.placed found.have found.each)

pub row_found : (style : Style) (cols : ℕ) (demands : List Demand) (arcs : List NumberedArc) (alone : List Arc)
    (out path numbers : List ℕ)
    (w gap edges : ℕ) → IsFound style cols demands arcs out w →
    alone ≡ plain arcs → IsPath alone 0 path cols → path_weight alone path ≡ w → numbers ≡ map (demand_number arcs) path →
    0 < length numbers →
    gap ≡ gap_of style → edges ≡ edges_of style → IsRowOf style cols demands numbers (w + gap * (cols - 1) + edges)
row_found style cols demands arcs alone out path numbers w gap edges found same along weighs named some is also =
    let goes : IsPath (plain arcs) 0 path cols = subst (λ those. IsPath those 0 path cols) same along in
    let heavy : path_weight (plain arcs) path ≡ w = ap (λ those. path_weight those path) (sym same) ∙ weighs in
    let long : 0 < length path = omega (arith, ap length named, length-map path (demand_number arcs)) in
    subst (λ those. IsRowOf style cols demands those (w + gap * (cols - 1) + edges)) (sym named)
    (subst (IsRowOf style cols demands (map (demand_number arcs) path))
    (ap (λ v. v + gap_of style * (cols - 1) + edges_of style) heavy ∙ in_all style cols w gap edges is also)
    (row_of_path style cols demands arcs path found.demanded.placed found.have goes long))

no_weight : (arcs : List Arc) (path : List ℕ) → length path ≤ 0 → path_weight arcs path ≡ 0
no_weight arcs [] none = refl
no_weight arcs (i ∷ is) none = absurd (omega arith)

last_alone : (style : Style) (cols : ℕ) (demands : List Demand) (arcs : List NumberedArc) (number : ℕ) (found : Option Demand) →
    slice_get demands number ≡ found → IsSomeAnd found (λ demand. demand.left + 1 ≡ cols) → 0 < cols →
    All (IsPlacedDemand cols) demands → HaveArcs (gap_of style) demands (length demands) arcs → IsHeaviest (plain arcs) cols 0 →
    IsRowOf style cols demands (number ∷ []) (0 + gap_of style * (cols - 1) + edges_of style)
last_alone style cols demands arcs number None named last some placed have heaviest = absurd last
last_alone style cols demands arcs number (Some demand) named last some placed have heaviest =
    row_of_last style cols demands arcs number demand some placed have heaviest named last

nil_of_short : {X : Type 0} (xs : List X) → length xs ≤ 0 → xs ≡ []
nil_of_short [] short = refl
nil_of_short (x ∷ xs) short = absurd (omega arith)

pub last_found : (style : Style) (cols : ℕ) (demands : List Demand) (arcs : List NumberedArc) (alone : List Arc)
    (out path before numbers : List ℕ)
    (w gap edges number : ℕ) → IsFound style cols demands arcs out w →
    alone ≡ plain arcs → path_weight alone path ≡ w → before ≡ map (demand_number arcs) path → length before ≤ 0 →
    numbers ≡ before ++ number ∷ [] →
    IsSomeAnd (slice_get demands number) (λ demand. demand.left + 1 ≡ cols) →
    gap ≡ gap_of style → edges ≡ edges_of style → IsRowOf style cols demands numbers (w + gap * (cols - 1) + edges)
last_found style cols demands arcs alone out path before numbers w gap edges number found same weighs named none pushed last is
    also =
    let empty : w ≡ 0 = sym weighs
    ∙ no_weight alone path (omega (arith, ap length named, length-map path (demand_number arcs))) in
    let lone : numbers ≡ number ∷ [] = pushed ∙ ap (λ prefix. prefix ++ number ∷ []) (nil_of_short before none) in
    subst (λ those. IsRowOf style cols demands those (w + gap * (cols - 1) + edges)) (sym lone)
    (subst (IsRowOf style cols demands (number ∷ []))
    (ap (λ v. v + gap_of style * (cols - 1) + edges_of style) (sym empty) ∙ in_all style cols w gap edges is also)
    (last_alone style cols demands arcs number (slice_get demands number) refl last found.some found.demanded.placed found.have
    (subst (IsHeaviest (plain arcs) cols) (sym found.last ∙ empty) (found.each cols (omega arith)))))

pub empty_of_nil : {X : Type 0} (xs : List X) → xs ≡ [] → length xs ≤ 0
empty_of_nil xs nil = omega (arith, ap length nil)

pub some_of_not_nil : {X : Type 0} (xs : List X) → (xs ≡ [] → ⊥) → 0 < length xs
some_of_not_nil [] not_nil = absurd (not_nil refl)
some_of_not_nil (x ∷ xs) not_nil = omega arith

-- a chain is little wider than all demands together
pub small_found : (style : Style) (cols w sum gap edges : ℕ) → cols ≤ MAX_COLUMNS → w ≤ sum → gap ≡ gap_of style →
    edges ≡ edges_of style →
    w + gap * (cols - 1) + edges ≤ sum + most_gaps
small_found Plain cols w sum gap edges few light is also = let g : gap * (cols - 1) ≡ 2 * (cols - 1) =
    ap (λ k. k * (cols - 1)) is in omega arith
small_found Compact cols w sum gap edges few light is also = let g : gap * (cols - 1) ≡ 1 * (cols - 1) =
    ap (λ k. k * (cols - 1)) is in omega arith
small_found Frame cols w sum gap edges few light is also = let g : gap * (cols - 1) ≡ 1 * (cols - 1) =
    ap (λ k. k * (cols - 1)) is in omega arith
small_found Grid cols w sum gap edges few light is also = let g : gap * (cols - 1) ≡ 1 * (cols - 1) =
    ap (λ k. k * (cols - 1)) is in omega arith
small_found Box cols w sum gap edges few light is also = let g : gap * (cols - 1) ≡ 1 * (cols - 1) =
    ap (λ k. k * (cols - 1)) is in omega arith
small_found Rule cols w sum gap edges few light is also = let g : gap * (cols - 1) ≡ 1 * (cols - 1) =
    ap (λ k. k * (cols - 1)) is in omega arith
small_found Apart cols w sum gap edges few light is also = let g : gap * (cols - 1) ≡ 1 * (cols - 1) =
    ap (λ k. k * (cols - 1)) is in omega arith
