-- The first nogood that is implied, group by group and number by number.
use Rattle.std.proofs.Common.{◌≡◌, ℕ, ◌<◌, ◌≤◌, List, [], ◌∷◌, ◌++◌, inl, inr, Option, Some, None, length, get_or, sym, subst, arith}
use Rattle.std.specs.List.{All, Contains}
use Rattle.std.proofs.lemmas.Bool.{cases_lt}
use Rattle.std.proofs.lemmas.List.Elements.{All-contains, Contains-push_cases}
use Rattle.tl_base.proofs.Members.{Contains-none}
use Rattle.tl_problem.specs.Problem.{ProblemModel}
use Rattle.tl_cert.specs.declared.log.Bound.{Bound}
use Rattle.tl_cert.specs.Implied.{Implied}
use Rattle.tl_store.specs.declared.groups.Group.{Group}
use Rattle.tl_store.specs.Stores.{IsHeadOf, IsListed, AreListed, IsFirstClosing, NoneCloses}
use Rattle.tl_store.specs.inner.Closings.{IsFirstIn, IsImpliedWhole, MayHold}

-- ---- number by number

module _ (Closes : ℕ → Type 0) (below : ℕ) where
  -- of no numbers none is below
  pub first-none : IsFirstIn Closes (Contains []) below below
  first-none = record {
    most = omega arith;
    closes = λ less. absurd (omega (arith, less));
    none = λ k has less closes. Contains-none k has;
  }

  module _ (numbers : List ℕ) (first number : ℕ) (is : IsFirstIn Closes (Contains numbers) below first) where
    -- a lower number that closes is the first then
    pub first-lower : number < first → Closes number → IsFirstIn Closes (Contains (numbers ++ number ∷ [])) below number
    first-lower lower closes = record {
      most = omega (arith, lower, is.most);
      closes = λ _. closes;
      none = λ k has less closed. elim (Contains-push_cases numbers number k has) [
        | inl old ↦ is.none k old (omega (arith, less, lower)) closed
        | inr same ↦ absurd (omega (arith, same, less))
      ];
    }

    -- another number changes nothing
    pub first-same : (number < first → Closes number → ⊥) → IsFirstIn Closes (Contains (numbers ++ number ∷ [])) below first
    first-same not = record {
      most = is.most;
      closes = is.closes;
      none = λ k has less closed. elim (Contains-push_cases numbers number k has) [
        | inl old ↦ is.none k old less closed
        | inr same ↦ not (omega (arith, same, less)) (subst Closes (sym same) closed)
      ];
    }

-- ---- group by group

module _ (problem : ProblemModel) (Among : List ℕ → Type 0) (nogoods : List (List Bound)) where
  Whole : ℕ → Type 0
  Whole = IsImpliedWhole problem Among nogoods

  Listed : List Group → ℕ → Type 0
  Listed groups k = IsListed groups (get_or nogoods k []) k

  pub groups-none : IsFirstIn (IsImpliedWhole problem Among nogoods) (λ k. IsListed [] (get_or nogoods k []) k)
      (length nogoods) (length nogoods)
  groups-none = record {
    most = omega arith;
    closes = λ less. absurd (omega (arith, less));
    none = λ k is less closes. Contains-none is.group is.there;
  }

  -- a nogood that is implied whole implies the bound of its group
  may-hold : (head : Option Bound) (bounds : List Bound) → IsHeadOf head bounds → All (Implied problem Among) bounds →
      MayHold problem Among head
  may-hold None bounds none all = tt
  may-hold (Some bound) bounds has all = All-contains (Implied problem Among) bounds bound all has

  module _ (groups : List Group) (group : Group) (first : ℕ) (is : IsFirstIn (IsImpliedWhole problem Among nogoods)
      (λ k. IsListed groups (get_or nogoods k []) k) (length nogoods) first) where
    -- the least of the new group's numbers is the first then
    pub groups-looked : (new : ℕ) → IsFirstIn (IsImpliedWhole problem Among nogoods) (Contains group.numbers.items) first new →
        IsFirstIn (IsImpliedWhole problem Among nogoods) (λ k. IsListed (groups ++ group ∷ []) (get_or nogoods k []) k)
        (length nogoods) new
    groups-looked new looked = record {
      most = omega (arith, looked.most, is.most);
      closes = λ less. elim (cases_lt new first) [
        | inl lower ↦ looked.closes lower
        | inr past ↦
            let same : first ≡ new = omega (arith, past, looked.most) in
            subst (IsImpliedWhole problem Among nogoods) same (is.closes (omega (arith, same, less)))
      ];
      none = λ k listed less closed. elim (Contains-push_cases groups group listed.group listed.there) [
        | inl old ↦ is.none k (record { group = listed.group; there = old; listed = listed.listed })
            (omega (arith, less, looked.most)) closed
        | inr same ↦ looked.none k (subst (λ (g : Group). Contains g.numbers.items k) (sym same) listed.listed.has) less closed
      ];
    }

    -- a group whose bound is not implied changes nothing
    pub groups-skipped : (MayHold problem Among group.head → ⊥) →
        IsFirstIn (IsImpliedWhole problem Among nogoods) (λ k. IsListed (groups ++ group ∷ []) (get_or nogoods k []) k)
        (length nogoods) first
    groups-skipped not = record {
      most = is.most;
      closes = is.closes;
      none = λ k listed less closed. elim (Contains-push_cases groups group listed.group listed.there) [
        | inl old ↦ is.none k (record { group = listed.group; there = old; listed = listed.listed }) less closed
        | inr same ↦ not (subst (λ (g : Group). MayHold problem Among g.head) (sym same)
            (may-hold listed.group.head (get_or nogoods k []) listed.listed.head closed))
      ];
    }

  module _ (groups : List Group) (all : AreListed groups nogoods) (first : ℕ) (is : IsFirstIn (IsImpliedWhole problem Among nogoods)
      (λ k. IsListed groups (get_or nogoods k []) k) (length nogoods) first) where
    -- where all groups were looked at, the first nogood was found
    pub groups-found : first < length nogoods → IsFirstClosing problem Among nogoods first
    groups-found less = record {
      there = less;
      implied = is.closes less;
      before = λ j lower closed. is.none j (all j (omega (arith, lower, less))) lower closed;
    }

    -- or there is none
    pub groups-open : length nogoods ≤ first → NoneCloses problem Among nogoods
    groups-open past k within closed = is.none k (all k within) (omega (arith, within, past)) closed
