-- The arcs of demands, one after the other.
use Rattle.std.proofs.Common.{◌≡◌, ℕ, ◌+◌, ◌<◌, ◌≤◌, ◌∙◌, List, [], ◌∷◌, ◌++◌, length, take, get_or, sum_by, Some, Contains}
use Rattle.std.proofs.Common.{IsSomeAnd, slice_get}
use Rattle.std.proofs.Common.{refl, sym, ap, subst, inl, inr, ⊎_elim, add-one, length-append, arith}
use Rattle.std.proofs.Math.Seq.{take-suc}
use Rattle.std.proofs.lemmas.List.Elements.{All-nil, All-push, Contains-push, Contains-append_left}
use Rattle.std.proofs.lemmas.List.Sums.{sum_by-append, sum_by-cons}
use Rattle.std.proofs.lemmas.Bool.{cases_lt}
use Rattle.std.proofs.lemmas.Option.{slice_get_within, get_or_from_slice_get, slice_get-get_or}
use Rattle.tl_diff.specs.declared.paths.Arc.{Arc}
use Rattle.tl_table.specs.declared.widest.Demand.{Demand}
use Rattle.tl_table.specs.declared.widest.NumberedArc.{NumberedArc}
use Rattle.tl_table.specs.inner.Demands.{HaveArcs, IsArcOf, arc_of}

-- the first `n` demands have their arcs, which weigh no more than the demands are wide, and are no more
pub record HaveArcsSoFar (gap : ℕ) (demands : List Demand) (n : ℕ) (arcs : List NumberedArc) : Type 0 where
  pub have : HaveArcs gap demands n arcs
  pub total : sum_by (λ one. one.arc.weight) arcs ≤ sum_by (λ demand. demand.width) (take n demands)
  pub few : length arcs ≤ n

pub HaveArcsSoFar-none : (gap : ℕ) (demands : List Demand) → HaveArcsSoFar gap demands 0 []
HaveArcsSoFar-none gap demands = record {
  have = record { each = All-nil (IsArcOf gap demands); every = λ k demand below. absurd (omega arith) };
  total = omega arith;
  few = omega arith;
}

-- the demands up to the next one are so wide in all
width_more : (demands : List Demand) (n : ℕ) (demand : Demand) → slice_get demands n ≡ Some demand →
    sum_by (λ one. one.width) (take (n + 1) demands) ≡ sum_by (λ one. one.width) (take n demands) + demand.width
width_more demands n demand here =
    let one : take (n + 1) demands ≡ take n demands ++ demand ∷ [] =
    ap (λ k. take k demands) (add-one n) ∙ take-suc demands n demand (slice_get_within demands n demand here)
    ∙ ap (λ last. take n demands ++ last ∷ []) (get_or_from_slice_get demands n demand demand here) in
    ap (sum_by (λ one. one.width)) one ∙ sum_by-append (λ one. one.width) (take n demands) (demand ∷ [])
    ∙ ap (λ w. sum_by (λ one. one.width) (take n demands) + w) (sum_by-cons (λ one. one.width) demand [] ∙ omega arith)

-- the demand of the number n is this one alone
same_demand : (demands : List Demand) (k n : ℕ) (demand other : Demand) → slice_get demands n ≡ Some demand →
    slice_get demands k ≡ Some other →
    k ≡ n → other ≡ demand
same_demand demands k n demand other here there same = let e : slice_get demands k ≡ slice_get demands n =
    ap (slice_get demands) same in cc

-- a demand whose gaps are enough has no arc
pub HaveArcsSoFar-skip : (gap : ℕ) (demands : List Demand) (n : ℕ) (arcs : List NumberedArc) (demand : Demand) →
    slice_get demands n ≡ Some demand →
    (arc_of gap demand).weight ≡ 0 → HaveArcsSoFar gap demands n arcs → HaveArcsSoFar gap demands (n + 1) arcs
HaveArcsSoFar-skip gap demands n arcs demand here light before = record {
  have = record {
    each = before.have.each;
    every = λ k other below there. ⊎_elim
        (λ (past : k < n). before.have.every k other past there)
        (λ (last : n ≤ k). inl (ap (λ d. (arc_of gap d).weight)
        (same_demand demands k n demand other here there (omega arith)) ∙ light))
        (cases_lt k n);
  };
  total = omega (arith, before.total, width_more demands n demand here);
  few = omega (arith, before.few);
}

-- the arc of another demand comes at the end
pub HaveArcsSoFar-push : (gap : ℕ) (demands : List Demand) (n : ℕ) (arcs : List NumberedArc) (demand : Demand) →
    slice_get demands n ≡ Some demand →
    0 < (arc_of gap demand).weight → HaveArcsSoFar gap demands n arcs →
    HaveArcsSoFar gap demands (n + 1) (arcs ++ record { number = n; arc = arc_of gap demand } ∷ [])
HaveArcsSoFar-push gap demands n arcs demand here heavy before = record {
  have = record {
    each = All-push (IsArcOf gap demands) arcs one before.have.each
        (subst (λ found. IsSomeAnd found (λ d. (one.arc ≡ arc_of gap d) × (0 < one.arc.weight))) (sym here) (refl, heavy));
    every = λ k other below there. ⊎_elim
        (λ (past : k < n). ⊎_elim
        (λ (light : (arc_of gap other).weight ≡ 0). inl light)
        (λ (among : Contains arcs (record { number = k; arc = arc_of gap other })). inr
        (Contains-append_left arcs (one ∷ []) (record { number = k; arc = arc_of gap other }) among))
        (before.have.every k other past there))
        (λ (last : n ≤ k). let at : k ≡ n = omega arith in
        let same : other ≡ demand = same_demand demands k n demand other here there at in
        let now : one ≡ record { number = k; arc = arc_of gap other } = cc in
        inr (subst (Contains (arcs ++ one ∷ [])) now (Contains-push arcs one)))
        (cases_lt k n);
  };
  total = omega (
    arith,
    before.total,
    width_more demands n demand here,
    sum_by-append (λ (each : NumberedArc). each.arc.weight) arcs (one ∷ []),
    sum_by-cons (λ (each : NumberedArc). each.arc.weight) one [],
  );
  few = omega (arith, before.few, length-append arcs (one ∷ []));
} where
  one : NumberedArc
  one = record { number = n; arc = arc_of gap demand }

-- the arcs so far stay as they are where a loop meets a demand of no weight
pub HaveArcsSoFar-skipped : (gap : ℕ) (demands : List Demand) (n : ℕ) (arcs : List NumberedArc) (d : Demand) (arc : Arc) →
    arc ≡ arc_of gap (get_or demands n d) →
    n < length demands → arc.weight ≤ 0 → HaveArcsSoFar gap demands n arcs → HaveArcsSoFar gap demands (n + 1) arcs
HaveArcsSoFar-skipped gap demands n arcs d arc is within light before =
    HaveArcsSoFar-skip gap demands n arcs (get_or demands n d) (slice_get-get_or demands n d within)
    (let e : arc.weight ≡ (arc_of gap (get_or demands n d)).weight = ap (λ a. a.weight) is in omega (arith, e)) before

pub HaveArcsSoFar-pushed : (gap : ℕ) (demands : List Demand) (n : ℕ) (arcs : List NumberedArc) (d : Demand) (arc : Arc) →
    arc ≡ arc_of gap (get_or demands n d) →
    n < length demands → 0 < arc.weight → HaveArcsSoFar gap demands n arcs →
    HaveArcsSoFar gap demands (n + 1) (arcs ++ record { number = n; arc = arc } ∷ [])
HaveArcsSoFar-pushed gap demands n arcs d arc is within heavy before =
    let e : arc.weight ≡ (arc_of gap (get_or demands n d)).weight = ap (λ a. a.weight) is in
    subst (λ a. HaveArcsSoFar gap demands (n + 1) (arcs ++ record { number = n; arc = a } ∷ [])) (sym is)
    (HaveArcsSoFar-push gap demands n arcs (get_or demands n d) (slice_get-get_or demands n d within) (omega (arith, e)) before)
