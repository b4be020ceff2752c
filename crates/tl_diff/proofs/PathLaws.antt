-- What the layers above need of arcs and heaviest paths.
use Rattle.std.proofs.Common.{◌≡◌, ℕ, ◌+◌, ◌<◌, ◌≤◌, List, [], ◌∷◌, ◌++◌, length, arith, sym, ⊎_elim}
use Rattle.std.proofs.lemmas.Bool.{cases_eq}
use Rattle.std.proofs.lemmas.List.{length_push, get_or_push, get_or_append_left}
use Rattle.std.proofs.lemmas.List.Sums.{sum_by_push}
use Rattle.tl_diff.specs.declared.paths.Arc.{Arc}
use Rattle.tl_diff.specs.Paths.{arc_at, IsHeaviest, LeadForward, InOrder, total_weight}
use Rattle.tl_diff.proofs.PathLemmas.{IsPath-further, IsPath-push, path_weight-push}

-- there is one greatest weight
pub IsHeaviest-unique : (arcs : List Arc) (k v w : ℕ) → IsHeaviest arcs k v → IsHeaviest arcs k w → v ≡ w
IsHeaviest-unique arcs k v w g h =
    omega (arith, g.greatest h.reached.0 h.reached.1.0, h.greatest g.reached.0 g.reached.1.0, g.reached.1.1, h.reached.1.1)

-- a later place has at least as much
pub IsHeaviest-further : (arcs : List Arc) (k m v w : ℕ) → IsHeaviest arcs k v → IsHeaviest arcs m w → k ≤ m → v ≤ w
IsHeaviest-further arcs k m v w g h far =
    omega (arith, g.reached.1.1, h.greatest g.reached.0 (IsPath-further arcs 0 g.reached.0 k m g.reached.1.0 far))

-- and so has the end of an arc, with the arc's weight
pub IsHeaviest-along : (arcs : List Arc) (i v w : ℕ) → i < length arcs → IsHeaviest arcs (arc_at arcs i).from v →
    IsHeaviest arcs (arc_at arcs i).to w
    → v + (arc_at arcs i).weight ≤ w
IsHeaviest-along arcs i v w there g h =
    omega (
      arith,
      g.reached.1.1,
      path_weight-push arcs g.reached.0 i,
      h.greatest (g.reached.0 ++ i ∷ [])
          (IsPath-push arcs 0 g.reached.0 (arc_at arcs i).from i (arc_at arcs i).to g.reached.1.0 there (omega arith)
          (omega arith)),
    )

-- ---- arcs put one after another

pub LeadForward-none : (n : ℕ) → LeadForward n []
LeadForward-none n i there = absurd (omega arith)

pub InOrder-none : InOrder []
InOrder-none i j less there = absurd (omega arith)

module _ (arcs : List Arc) (e : Arc) where
  pub arc_at-before : (i : ℕ) → i < length arcs → arc_at (arcs ++ e ∷ []) i ≡ arc_at arcs i
  arc_at-before i there = get_or_append_left arcs (e ∷ []) _ i there

  pub arc_at-last : (i : ℕ) → i ≡ length arcs → arc_at (arcs ++ e ∷ []) i ≡ e
  arc_at-last i last = get_or_push arcs e _ i (sym last)

  pub LeadForward-push : (n : ℕ) → LeadForward n arcs → e.from < e.to → e.to ≤ n → LeadForward n (arcs ++ e ∷ [])
  LeadForward-push n forward ahead within i there =
      ⊎_elim
      (λ last. rw (arc_at-last i last) (ahead, within))
      (λ other. let before : i < length arcs = omega (arith, length_push arcs e) in
      rw (arc_at-before i before) (forward i before))
      (cases_eq i (length arcs))

  pub InOrder-push : InOrder arcs → ((i : ℕ) → i < length arcs → (arc_at arcs i).from ≤ e.from) → InOrder (arcs ++ e ∷ [])
  InOrder-push in_order later i j less there =
      let before : i < length arcs = omega (arith, length_push arcs e) in
      ⊎_elim
      (λ last. rw (arc_at-before i before, arc_at-last j last) (later i before))
      (λ other. let earlier : j < length arcs = omega (arith, length_push arcs e) in
      rw (arc_at-before i before, arc_at-before j earlier) (in_order i j less earlier))
      (cases_eq j (length arcs))

  pub total_weight-push : total_weight (arcs ++ e ∷ []) ≡ total_weight arcs + e.weight
  total_weight-push = sum_by_push (λ a. a.weight) arcs e
