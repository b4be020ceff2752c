-- A heaviest path is found from its end: an arc is on one where it makes up the whole difference.
use Rattle.std.proofs.Common.{◌≡◌, ◌≢◌, ℕ, ◌+◌, ◌<◌, ◌≤◌, List, [], ◌∷◌, length, get_or, sym, arith, inl, inr, ◌⊎◌}
use Rattle.std.proofs.lemmas.List.Sums.{sum_by-cons}
use Rattle.std.proofs.lemmas.Bool.{cases_eq}
use Rattle.tl_diff.specs.declared.paths.Arc.{Arc}
use Rattle.tl_diff.specs.Paths.{arc_at, IsPath, path_weight, IsHeaviest, LeadForward, InOrder}
use Rattle.tl_diff.proofs.PathLaws.{IsHeaviest-along, IsHeaviest-further}

-- a path may begin sooner
pub IsPath-sooner : (arcs : List Arc) (p q : ℕ) (is : List ℕ) (k : ℕ) → IsPath arcs q is k → p ≤ q → IsPath arcs p is k
IsPath-sooner arcs p q [] k path sooner = omega arith
IsPath-sooner arcs p q (i ∷ is) k path sooner = (path.0, omega arith, path.2)

-- the last arc of a path that has one, and the way to it
record EndsWith (arcs : List Arc) (p : ℕ) (is : List ℕ) (k : ℕ) : Type 0 where
  way : List ℕ
  last : ℕ
  there : last < length arcs
  leads : IsPath arcs p way (arc_at arcs last).from
  ends : (arc_at arcs last).to ≤ k
  weighs : path_weight arcs is ≡ path_weight arcs way + (arc_at arcs last).weight

IsPath-last : (arcs : List Arc) (p i : ℕ) (is : List ℕ) (k : ℕ) → IsPath arcs p (i ∷ is) k → EndsWith arcs p (i ∷ is) k
IsPath-last arcs p i [] k path = record {
  way = [];
  last = i;
  there = path.0;
  leads = path.1;
  ends = path.2;
  weighs = omega arith;
}
IsPath-last arcs p i (j ∷ is) k path =
    let rest = IsPath-last arcs (arc_at arcs i).to j is k path.2 in
    record {
      way = i ∷ rest.way;
      last = rest.last;
      there = rest.there;
      leads = (path.0, path.1, rest.leads);
      ends = rest.ends;
      weighs = omega (
        arith,
        rest.weighs,
        sum_by-cons (λ j. (arc_at arcs j).weight) i (j ∷ is),
        sum_by-cons (λ j. (arc_at arcs j).weight) i rest.way,
      );
    }

-- The arcs `taken` lead from `place` to n and make up the whole difference, and no arc from number i on is the last of
-- a heaviest path to `place`.
pub record IsTaken (n : ℕ) (arcs : List Arc) (out : List ℕ) (place i : ℕ) (taken : List ℕ) : Type 0 where
  pub up : place ≤ n
  pub leads : IsPath arcs place taken n
  pub weighs : path_weight arcs taken + get_or out place 0 ≡ get_or out n 0
  pub done : (j : ℕ) → i ≤ j → j < length arcs → (arc_at arcs j).to ≤ place →
      get_or out (arc_at arcs j).from 0 + (arc_at arcs j).weight < get_or out place 0

module _ (n : ℕ) (arcs : List Arc) (out : List ℕ) (forward : LeadForward n arcs) (in_order : InOrder arcs)
    (heaviest : (k : ℕ) → k ≤ n → IsHeaviest arcs k (get_or out k 0)) where
  -- what an arc adds is never more than what is between its ends, nor than what is up to a later place
  pub arc-le : (i k : ℕ) → i < length arcs → (arc_at arcs i).to ≤ k → k ≤ n →
      get_or out (arc_at arcs i).from 0 + (arc_at arcs i).weight ≤ get_or out k 0
  arc-le i k there ends up =
      let before = heaviest (arc_at arcs i).from (omega (arith, forward i there)) in
      let end = heaviest (arc_at arcs i).to (omega arith) in
      omega (
        arith,
        IsHeaviest-along arcs i _ _ there before end,
        IsHeaviest-further arcs (arc_at arcs i).to k _ _ end (heaviest k up) ends,
      )

  pub IsTaken-none : (i : ℕ) → length arcs ≤ i → IsTaken n arcs out n i []
  IsTaken-none i past = record {
    up = omega arith;
    leads = omega arith;
    weighs = omega arith;
    done = λ j from there. absurd (omega arith);
  }

  -- an arc that makes up the difference is taken
  pub IsTaken-takes : (place i : ℕ) (taken : List ℕ) → IsTaken n arcs out place (i + 1) taken → i < length arcs →
      (arc_at arcs i).to ≤ place
      → get_or out (arc_at arcs i).from 0 + (arc_at arcs i).weight ≡ get_or out place 0 →
      IsTaken n arcs out (arc_at arcs i).from i (i ∷ taken)
  IsTaken-takes place i taken h there ends same = record {
    up = omega (arith, h.up, forward i there);
    leads = (there, omega arith, IsPath-sooner arcs (arc_at arcs i).to place taken n h.leads ends);
    weighs = omega (arith, h.weighs, sum_by-cons (λ j. (arc_at arcs j).weight) i taken);
    done = λ j from within before. absurd (omega (arith, forward j within, no_sooner j from within (cases_eq i j)));
  } where
    no_sooner : (j : ℕ) → i ≤ j → j < length arcs → (i ≡ j) ⊎ (i ≢ j) → (arc_at arcs i).from ≤ (arc_at arcs j).from
    no_sooner j from within (inl e) = rw e (omega arith)
    no_sooner j from within (inr apart) = in_order i j (omega arith) within

  -- any other is left out
  pub IsTaken-skips : (place i : ℕ) (taken : List ℕ) → IsTaken n arcs out place (i + 1) taken → i < length arcs
      → ((arc_at arcs i).to ≤ place → get_or out (arc_at arcs i).from 0 + (arc_at arcs i).weight ≢ get_or out place 0) →
      IsTaken n arcs out place i taken
  IsTaken-skips place i taken h there apart = record {
    up = h.up;
    leads = h.leads;
    weighs = h.weighs;
    done = λ j from within ends. done j from within ends (cases_eq i j);
  } where
    done : (j : ℕ) → i ≤ j → j < length arcs → (arc_at arcs j).to ≤ place → (i ≡ j) ⊎ (i ≢ j) →
        get_or out (arc_at arcs j).from 0 + (arc_at arcs j).weight < get_or out place 0
    done j from within ends (inl e) =
        let here : (arc_at arcs i).to ≤ place = rw e ends in
        let less : get_or out (arc_at arcs i).from 0 + (arc_at arcs i).weight < get_or out place 0 =
        omega (arith, arc-le i place there here h.up, apart here) in
        rw e at less
    done j from within ends (inr other) = h.done j (omega arith) within ends

  -- once every arc is seen, the taken ones lead from place 0
  pub IsTaken-path : (place : ℕ) (taken : List ℕ) → IsTaken n arcs out place 0 taken → IsPath arcs 0 taken n
  IsTaken-path place taken h = IsPath-sooner arcs 0 place taken n h.leads (omega arith)

  pub IsTaken-weight : (place : ℕ) (taken : List ℕ) → IsTaken n arcs out place 0 taken → path_weight arcs taken ≡ get_or out n 0
  IsTaken-weight place taken h =
      let r = (heaviest place h.up).reached in
      omega (arith, h.weighs, nothing r.0 r.1.0 r.1.1)
    where
      nothing : (is : List ℕ) → IsPath arcs 0 is place → path_weight arcs is ≡ get_or out place 0 → get_or out place 0 ≡ 0
      nothing [] path weighs = sym weighs
      nothing (i ∷ is) path weighs =
          let e = IsPath-last arcs 0 i is place path in
          absurd (omega (
            arith,
            h.done e.last (omega arith) e.there e.ends,
            e.weighs,
            (heaviest (arc_at arcs e.last).from (omega (arith, forward e.last e.there, h.up, e.ends))).greatest e.way e.leads,
          ))
