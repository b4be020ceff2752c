-- The least of the bounds that stand, and what the end of a search has.
use Rattle.std.proofs.Common.{◌≡◌, ℕ, ◌+◌, ◌<◌, ◌≤◌, min, List, inl, inr, length, get_or, Option, Some, None, refl, sym, ap, ◌∙◌}
use Rattle.std.proofs.Common.{subst, arith}
use Rattle.std.proofs.lemmas.Bool.{cases_lt}
use Rattle.tl_problem.specs.Problem.{ProblemModel}
use Rattle.tl_problem.specs.Zones.{InZone}
use Rattle.tl_problem.proofs.BoundLaws.{bound-unique}
use Rattle.tl_cert.specs.declared.trace.CutAt.{CutAt}
use Rattle.tl_cert.specs.Traces.{Stands, zone_of}
use Rattle.tl_cert.specs.Worked.{IsBoundOf, IsWorked}
use Rattle.tl_solve.specs.declared.arena.Arena.{Arena}
use Rattle.tl_solve.specs.Arenas.{IsBoundFound, AreBoundsOf, IsArenaOf}
use Rattle.tl_solve.specs.Ends.{HasBoundUpTo, IsLeastStanding, IsLeastUpto, MayEnd}
use Rattle.tl_solve.specs.Logs.{Proves}
use Rattle.tl_solve.specs.CutsFound.{IsCutFound, AreCutsOf}
use Rattle.tl_solve.specs.inner.Found.{least_with}

-- ---- one zone more

module _ (cuts bounds : List (Option ℕ)) (height upto least : ℕ) (is : IsLeastUpto cuts bounds height upto least) where
  -- a zone that is cut, or has no widths, changes nothing
  least-skip : ((bound : ℕ) → get_or cuts upto None ≡ None → get_or bounds upto None ≡ Some bound → ⊥) →
      IsLeastUpto cuts bounds height (upto + 1) least
  least-skip none = record {
    at_most = is.at_most;
    never_more = λ z bound within uncut found. elim (cases_lt z upto) [
      | inl old ↦ is.never_more z bound old uncut found
      | inr new ↦
          let last : z ≡ upto = omega (arith, within, new) in
          absurd (none bound (subst (λ n. get_or cuts n None ≡ None) last uncut)
          (subst (λ n. get_or bounds n None ≡ Some bound) last found))
    ];
    attained = elim is.attained [
      | inl same ↦ inl same
      | inr some ↦ inr (some.0, some.1, omega (arith, some.2), some.3, some.4, some.5)
    ];
  }

  -- a zone that stands may have a bound that is less
  least-bound : (bound : ℕ) → get_or cuts upto None ≡ None → get_or bounds upto None ≡ Some bound →
      IsLeastUpto cuts bounds height (upto + 1) (min least bound)
  least-bound bound uncut found = record {
    at_most = omega (arith, is.at_most);
    never_more = λ z other within stands has. elim (cases_lt z upto) [
      | inl old ↦ let before = is.never_more z other old stands has in omega (arith, before)
      | inr new ↦
          let last : z ≡ upto = omega (arith, within, new) in
          let same : Some bound ≡ Some other = sym found ∙ subst (λ n. get_or bounds n None ≡ Some other) last has in
          let equal : bound ≡ other = cc in
          omega (arith, equal)
    ];
    attained = elim (cases_lt bound least) [
      | inl less ↦ inr (upto, bound, omega arith, uncut, found, omega (arith, less))
      | inr more ↦ elim is.attained [
        | inl same ↦ inl (omega (arith, same, more))
        | inr some ↦ inr (some.0, some.1, omega (arith, some.2), some.3, some.4, omega (arith, some.5, more))
      ]
    ];
  }

  least-of : (cut bound : Option ℕ) → get_or cuts upto None ≡ cut → get_or bounds upto None ≡ bound →
      IsLeastUpto cuts bounds height (upto + 1) (least_with least cut bound)
  least-of (Some i) bound is_cut found = least-skip (λ b uncut has. let differ : Some i ≡ None = sym is_cut ∙ uncut in cc)
  least-of None None uncut none = least-skip (λ b _ has. let differ : None ≡ Some b = sym none ∙ has in cc)
  least-of None (Some bound) uncut found = least-bound bound uncut found

  pub least-next : IsLeastUpto cuts bounds height (upto + 1) (least_with least (get_or cuts upto None) (get_or bounds upto None))
  least-next = least-of (get_or cuts upto None) (get_or bounds upto None) refl refl

-- ---- all of them

module _ (problem : ProblemModel) (trace : List CutAt) (cuts bounds : List (Option ℕ)) (are : AreCutsOf trace (length trace) cuts)
    (found : AreBoundsOf problem trace bounds) where
  -- a zone that no cut has stands
  pub stands-none : (z : ℕ) → z < length bounds → get_or cuts z None ≡ None → Stands trace z
  stands-none z within none =
      let not = subst (IsCutFound trace (length trace) z) none
      (are.each z None (omega (arith, within, found.count, are.count))) in
      record { there = omega (arith, within, found.count); not_cut = λ i d inside. not i d inside }

  pub none-stands : (z : ℕ) → Stands trace z → (o : Option ℕ) → get_or cuts z None ≡ o → get_or cuts z None ≡ None
  none-stands z stands None is = is
  none-stands z stands (Some i) is =
      let cut = subst (IsCutFound trace (length trace) z) is (are.each z None (omega (arith, stands.there, are.count))) in
      absurd (stands.not_cut i (record { zone = 0; span = 0; class = 0 }) cut.0
      (cut.1 (record { zone = 0; span = 0; class = 0 })))

  pub bound-some : (z bound : ℕ) → z < length bounds → IsBoundOf problem trace z bound → (o : Option ℕ) → get_or bounds z None ≡ o →
      get_or bounds z None ≡ Some bound
  bound-some z bound within is None none =
      let empty = subst (IsBoundFound problem (zone_of problem trace z)) none (found.each z None within) in
      absurd (empty is.some.0 is.some.1)
  bound-some z bound within is (Some other) some =
      let has = subst (IsBoundFound problem (zone_of problem trace z)) some (found.each z None within) in
      some ∙ ap Some (bound-unique problem (InZone problem (zone_of problem trace z)) other bound has is)

  pub least-standing : (height lower : ℕ) → IsLeastUpto cuts bounds height (length bounds) lower →
      IsLeastStanding problem trace height lower
  least-standing height lower is = record {
    at_most = is.at_most;
    never_more = λ z bound stands has.
        let within : z < length bounds = omega (arith, stands.there, found.count) in
        is.never_more z bound within (none-stands z stands (get_or cuts z None) refl)
        (bound-some z bound within has (get_or bounds z None) refl);
    attained = elim is.attained [
      | inl same ↦ inl same
      | inr some ↦ inr (
        some.0,
        some.1,
        stands-none some.0 some.2 some.3,
        subst (IsBoundFound problem (zone_of problem trace some.0)) some.4 (found.each some.0 None some.2),
        omega (arith, some.5),
      )
    ];
  }

-- each zone that stands proves the least of the bounds that stand
pub least-proves : (problem : ProblemModel) (trace : List CutAt) (bounds : List (Option ℕ)) (height lower : ℕ) →
    AreBoundsOf problem trace bounds →
    IsLeastStanding problem trace height lower → (z : ℕ) → Stands trace z → Proves problem (zone_of problem trace z) lower
least-proves problem trace bounds height lower found least z stands =
    proves (get_or bounds z None) (found.each z None (omega (arith, stands.there, found.count))) where
      proves : (o : Option ℕ) → IsBoundFound problem (zone_of problem trace z) o → Proves problem (zone_of problem trace z) lower
      proves None none = inl none
      proves (Some bound) is = inr (inl (bound, is, least.never_more z bound stands is))

-- the trace of the arena is worked
pub arena-worked : (problem : ProblemModel) (arena : Arena) → IsArenaOf problem arena → (lower budget : ℕ) →
    length arena.trace ≤ budget →
    lower ≤ arena.best.height → (lower < arena.best.height → HasBoundUpTo problem arena.trace lower) →
    (lower < arena.best.height → MayEnd problem arena.trace arena.best.height budget) →
    IsWorked problem arena.trace arena.best.height lower budget
arena-worked problem arena is lower budget within ordered enough ended = record {
  trace_of = is.trace_of;
  within = within;
  ordered = ordered;
  below = λ less. record {
    opening = is.opening.0;
    is_opening = is.opening.1;
    cut_zones = λ i d inside.
        let has = is.cut_zones i d inside in
        (has.0, has.1, omega (arith, has.2, is.opening.2));
    enough = enough less;
    ended = ended less;
  };
}
