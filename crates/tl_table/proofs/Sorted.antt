-- Arcs in the order of the columns where they begin.
use Rattle.std.proofs.Common.{◌≡◌, ℕ, zero, suc, ◌<◌, ◌≤◌, List, [], ◌∷◌, length, get_or, sum_by, Contains, refl, sym, ap, subst}
use Rattle.std.proofs.Common.{⊎_elim, inl, inr, arith}
use Rattle.std.specs.List.{All}
use Rattle.std.specs.List.Sorted.{IsPermutation, IsNonDecreasingBy}
use Rattle.std.proofs.lemmas.List.{length-map}
use Rattle.std.proofs.lemmas.List.Elements.{All-nil, All-cons}
use Rattle.std.proofs.lemmas.List.Sorted.{All-permutation, Contains-permutation}
use Rattle.std.proofs.lemmas.List.Sums.{sum_by-cons}
use Rattle.tl_diff.specs.declared.paths.Arc.{Arc}
use Rattle.tl_diff.specs.Paths.{arc_at, LeadForward, InOrder, IsPath, total_weight}
use Rattle.tl_table.specs.declared.widest.Demand.{Demand}
use Rattle.tl_table.specs.declared.widest.NumberedArc.{NumberedArc}
use Rattle.tl_table.specs.inner.Demands.{HaveArcs, IsArcOf, IsPlacedDemand, arc_of}
use Rattle.tl_table.proofs.Duality.{plain, arc_of_demand}

-- in another order they are still the arcs of the demands
pub HaveArcs-permuted : (gap : ℕ) (demands : List Demand) (n : ℕ) (arcs others : List NumberedArc) → IsPermutation arcs others →
    HaveArcs gap demands n arcs → HaveArcs gap demands n others
HaveArcs-permuted gap demands n arcs others moved have = record {
  each = All-permutation (IsArcOf gap demands) arcs others moved have.each;
  every = λ k demand below named. ⊎_elim
      (λ (light : (arc_of gap demand).weight ≡ 0). inl light)
      (λ (among : Contains arcs (record { number = k; arc = arc_of gap demand })). inr
      (Contains-permutation arcs others (record { number = k; arc = arc_of gap demand }) moved among))
      (have.every k demand below named);
}

-- each leads forward, within the columns
pub LeadForward-plain : (gap cols : ℕ) (demands : List Demand) (arcs : List NumberedArc) → All (IsPlacedDemand cols) demands →
    HaveArcs gap demands (length demands) arcs → LeadForward cols (plain arcs)
LeadForward-plain gap cols demands arcs placed have i within =
    let at = arc_of_demand gap cols demands (length demands) arcs placed have i
    (omega (arith, length-map arcs (λ (each : NumberedArc). each.arc))) in
    subst (λ arc. (arc.from < arc.to) × (arc.to ≤ cols)) (sym at.is) at.placed

-- the arc of a number, with and without it
arc_at-plain : (arcs : List NumberedArc) (i : ℕ) (d : NumberedArc) → i < length arcs →
    arc_at (plain arcs) i ≡ (get_or arcs i d).arc
arc_at-plain [] i d within = absurd (omega arith)
arc_at-plain (one ∷ arcs) zero d within = refl
arc_at-plain (one ∷ arcs) (suc i) d within = arc_at-plain arcs i d (omega arith)

-- they stand in order without their numbers
pub InOrder-plain : (arcs : List NumberedArc) → IsNonDecreasingBy (λ one. one.arc.from) arcs → InOrder (plain arcs)
InOrder-plain arcs rises i j before within =
    let inside : j < length arcs = omega (arith, length-map arcs (λ (each : NumberedArc). each.arc)) in
    let empty : NumberedArc = record { number = 0; arc = record { from = 0; to = 0; weight = 0 } } in
    omega (
      arith,
      rises i j empty (omega arith) inside,
      ap (λ arc. arc.from) (arc_at-plain arcs i empty (omega arith)),
      ap (λ arc. arc.from)
          (arc_at-plain arcs j empty inside),
    )

-- they weigh the same without their numbers
pub total_weight-plain : (arcs : List NumberedArc) → total_weight (plain arcs) ≡ sum_by (λ one. one.arc.weight) arcs
total_weight-plain [] = refl
total_weight-plain (one ∷ arcs) = omega (
  arith,
  sum_by-cons (λ (arc : Arc). arc.weight) one.arc (plain arcs),
  sum_by-cons (λ (each : NumberedArc). each.arc.weight) one arcs,
  total_weight-plain arcs,
)

-- a path's numbers are those of arcs
pub path-within : (arcs : List Arc) (p : ℕ) (is : List ℕ) (k n : ℕ) → length arcs ≡ n → IsPath arcs p is k → All (λ i. i < n) is
path-within arcs p [] k n many path = All-nil (λ i. i < n)
path-within arcs p (i ∷ is) k n many path = All-cons (λ i. i < n) i is (omega (arith, path.0))
    (path-within arcs (arc_at arcs i).to is k n many path.2)
