-- What a closed difference bound matrix says of all assignments, and that it stays so: made, refused and tightened.
use Rattle.std.proofs.Common.{◌≡◌, ◌≢◌, ℕ, ◌+◌, ◌*◌, ◌<◌, ◌≤◌, ℤ, pos, negsuc, ◌+ℤ◌, ◌-ℤ◌, ◌≤ℤ◌, neg_ℤ, List, length, set, Option}
use Rattle.std.proofs.Common.{Some, None, Bool}
use Rattle.std.proofs.Common.{true, false, refl, ap, arith, inl, inr, ◌⊎◌, sym, subst, ◌∙◌, ◌↔◌, IsTrue, MatchOption, IfSome}
use Rattle.std.proofs.lemmas.Int.{ints, by_lt_z}
use Rattle.std.proofs.lemmas.Bool.{cases_eq}
use Rattle.std.proofs.lemmas.List.{length-set}
use Rattle.tl_diff.specs.declared.matrix.TheConstants.{MAX_BOUND, MAX_VARIABLES}
use Rattle.tl_diff.specs.Bounds.{bounds_of, Bounds, bound_at, Satisfies, MeetsConstraint, IsSatisfiable, AddsBound, IsGreatest}
use Rattle.tl_diff.specs.Bounds.{HasNoGreatest, IsSmall}
use Rattle.tl_diff.specs.inner.Closed.{AtMost, IsClosed, AreSmallBounds, IsExact, IsSoundMatrix, IsImproved, IsRowSmall, IsFree}
use Rattle.tl_diff.proofs.AtMostLemmas.{AtMost-from, AtMost-more, Satisfies-at, Satisfies-from}
use Rattle.tl_diff.proofs.EnvelopeLemmas.{under, Satisfies-under, IsGreatest-closed, HasNoGreatest-closed}
use Rattle.tl_diff.proofs.GapLemmas.{IsLoose-adds, IsLoose-free, AreSmall-closed}
use Rattle.tl_diff.proofs.ImproveLemmas.{AddsBound-improved, IsClosed-improved}
use Rattle.tl_diff.proofs.RowLemmas.{bound_at-set_same, bound_at-set_row, bound_at-set_column}

-- ---- what a matrix says

-- the matrix knows whether some assignment satisfies it
pub IsSatisfiable-sound : (bounds : Bounds) (holds : Bool) → IsSoundMatrix bounds holds → IsTrue holds ↔ IsSatisfiable bounds
IsSatisfiable-sound bounds true h =
    (λ _. ((λ p. under bounds (λ _. pos 0) p bounds.n), Satisfies-under bounds (λ _. pos 0) (h.exact refl).closed), λ _. refl)
IsSatisfiable-sound bounds false h = (λ e. cc, λ some. absurd (h.none refl some.0 some.1))

-- one look-up gives the tightest bound
pub upper_sound : (bounds : Bounds) (holds : Bool) (a b : ℕ) (o : Option ℤ) → IsSoundMatrix bounds holds → IsSatisfiable bounds →
    a < bounds.n →
    b < bounds.n → o ≡ bound_at bounds a b
    → MatchOption o (HasNoGreatest bounds a b) (IsGreatest bounds a b)
upper_sound bounds holds a b None h some first second is =
    HasNoGreatest-closed bounds (h.exact ((IsSatisfiable-sound bounds holds h).1 some)).closed a b first second (sym is)
upper_sound bounds holds a b (Some c) h some first second is =
    IsGreatest-closed bounds (h.exact ((IsSatisfiable-sound bounds holds h).1 some)).closed a b first second c (sym is)

pub IsExact-sound : (bounds : Bounds) (holds : Bool) → IsSoundMatrix bounds holds → IsSatisfiable bounds → IsExact bounds
IsExact-sound bounds holds h some = h.exact ((IsSatisfiable-sound bounds holds h).1 some)

-- no bound is above MAX_BOUND times MAX_VARIABLES, or as much below 0
pub IsRowSmall-sound : (bounds : Bounds) (p : ℕ) → bounds.n ≤ MAX_VARIABLES → AreSmallBounds bounds → p < bounds.n →
    IsRowSmall bounds p
IsRowSmall-sound bounds p few small there q c within is =
    let h = small p q c there within is in
    (omega (arith, ints, h.0), omega (arith, ints, h.1))

-- the bound that one look-up finds is small
pub small_sound : (bounds : Bounds) (holds : Bool) (a b : ℕ) (o : Option ℤ) → IsSoundMatrix bounds holds → IsSatisfiable bounds →
    a < bounds.n →
    b < bounds.n → o ≡ bound_at bounds a b → IfSome o IsSmall
small_sound bounds holds a b None h some first second is = tt
small_sound bounds holds a b (Some c) h some first second is =
    IsRowSmall-sound bounds a h.few (IsExact-sound bounds holds h some).small first b c second (sym is)

-- ---- no constraints

module _ (n : ℕ) (rows : List (Option ℤ)) where
  pub IsFree-own : (variable : ℕ) → IsFree (bounds_of n rows) variable → variable < n →
      IsFree (bounds_of n (set rows (variable * n + variable) (Some (pos 0)))) (variable + 1)
  IsFree-own variable h there = record {
    pairs = length-set rows (variable * n + variable) (Some (pos 0)) ∙ h.pairs;
    own = λ p from below. own p from below (cases_eq p variable);
    other = λ p q from to apart. other p q from to apart (cases_eq p variable);
  } where
    own : (p : ℕ) → p < n → p < variable + 1 → (p ≡ variable) ⊎ (p ≢ variable) →
        bound_at (bounds_of n (set rows (variable * n + variable) (Some (pos 0)))) p p ≡ Some (pos 0)
    own p from below (inl e) =
        subst (λ j. bound_at (bounds_of n (set rows (variable * n + variable) (Some (pos 0)))) j j ≡ Some (pos 0)) (sym e)
        (bound_at-set_same n rows variable variable (Some (pos 0)) h.pairs there there)
    own p from below (inr apart) = bound_at-set_row n rows variable variable (Some (pos 0)) p p there from apart ∙ h.own p from
        (omega arith)

    other : (p q : ℕ) → p < n → q < n → p ≢ q → (p ≡ variable) ⊎ (p ≢ variable) →
        bound_at (bounds_of n (set rows (variable * n + variable) (Some (pos 0)))) p q ≡ None
    other p q from to apart (inl e) =
        bound_at-set_column n rows variable variable (Some (pos 0)) p q there to
        (λ k. apart (e ∙ sym k)) ∙ h.other p q from to apart
    other p q from to apart (inr off) = bound_at-set_row n rows variable variable (Some (pos 0))
        p q there to off ∙ h.other p q from to apart

module _ (bounds : Bounds) (h : IsFree bounds bounds.n) where
  -- its bounds are those of each variable to itself
  free_cases : (p q : ℕ) (t : ℤ) → p < bounds.n → q < bounds.n → AtMost (bound_at bounds p q) t → (p ≡ q) × (pos 0 ≤ℤ t)
  free_cases p q t from to k = cases (cases_eq p q)
    where
      cases : (p ≡ q) ⊎ (p ≢ q) → (p ≡ q) × (pos 0 ≤ℤ t)
      cases (inl e) =
          let here : bound_at bounds p q ≡ Some (pos 0) = subst (λ j. bound_at bounds p j ≡ Some (pos 0)) e (h.own p from from) in
          (e, rw here at k)
      cases (inr apart) = absurd (rw (h.other p q from to apart) at k)

  pub Satisfies-free : (x : ℕ → ℤ) → Satisfies bounds x
  Satisfies-free x = Satisfies-from bounds x (λ p q t from to k.
      let c = free_cases p q t from to k in
      omega (arith, ints, c.1, ap x c.0))

  free_own : (p r : ℕ) (t : ℤ) → p < bounds.n → p ≡ r → pos 0 ≤ℤ t → AtMost (bound_at bounds p r) t
  free_own p r t there e le = subst (λ j. AtMost (bound_at bounds p j) t) e
      (AtMost-from (bound_at bounds p p) (pos 0) t (h.own p there there) le)

  IsClosed-free : IsClosed bounds
  IsClosed-free = record {
    own = λ p there. free_own p p (pos 0) there refl (omega (arith, ints));
    own_least = λ p t there k. (free_cases p p t there there k).1;
    through = λ p q r s t from mid to k l.
        let c = free_cases p q s from mid k in
        let d = free_cases q r t mid to l in
        free_own p r (s +ℤ t) from (c.0 ∙ d.0) (omega (arith, ints, c.1, d.1));
  }

  pub IsSound-free : 1 ≤ bounds.n → bounds.n ≤ MAX_VARIABLES → IsSoundMatrix bounds true
  IsSound-free some few =
      let loose = IsLoose-free bounds Satisfies-free in
      record {
        some = some;
        few = few;
        pairs = h.pairs;
        exact = λ _. record { closed = IsClosed-free; loose = loose; small = AreSmall-closed bounds IsClosed-free loose };
        none = λ e. cc;
      }

-- ---- a constraint is added

module _ (n : ℕ) (rows : List (Option ℤ)) (a b : ℕ) (most : ℤ) (first : a < n) (second : b < n) where
  -- one that is implied changes nothing
  pub AddsBound-implied : AtMost (bound_at (bounds_of n rows) a b) most → AddsBound (bounds_of n rows) (bounds_of n rows) a b most
  AddsBound-implied implied = record {
    variables = refl;
    keeps = λ x meets. meets;
    adds = λ x meets. Satisfies-at (bounds_of n rows) x a b most meets first second implied;
    all = λ x meets within. meets;
  }

  -- one that no assignment can satisfy is written down as it is
  module _ (pairs : length rows ≡ n * n) (exact : IsExact (bounds_of n rows))
      (back : AtMost (bound_at (bounds_of n rows) b a) (negsuc 0 -ℤ most)) where
    abbrev refused : Bounds
    refused = bounds_of n (set rows (a * n + b) (Some most))

    none_meet_old : (x : ℕ → ℤ) → Satisfies (bounds_of n rows) x → MeetsConstraint x a b most → ⊥
    none_meet_old x meets within = omega (
      arith,
      ints,
      within,
      Satisfies-at (bounds_of n rows) x b a (negsuc 0 -ℤ most) meets second first back,
    )

    pub none_meet : (x : ℕ → ℤ) → Satisfies refused x → ⊥
    none_meet x meets = cases (cases_eq a b)
      where
        there : MeetsConstraint x a b most
        there = meets a b first second most (bound_at-set_same n rows a b (Some most) pairs first second)

        cases : (a ≡ b) ⊎ (a ≢ b) → ⊥
        cases (inl e) =
            let low = exact.closed.own_least a (negsuc 0 -ℤ most) first
            (subst (λ j. AtMost (bound_at (bounds_of n rows) j a) (negsuc 0 -ℤ most)) (sym e) back) in
            omega (arith, ints, low, there, ap x e)
        cases (inr apart) =
            let still = bound_at-set_row n rows a b (Some most) b a second first (λ e. apart (sym e)) in
            omega (arith, ints, there, Satisfies-at refused x b a (negsuc 0 -ℤ most) meets second first (rw still back))

    pub AddsBound-refused : AddsBound (bounds_of n rows) refused a b most
    AddsBound-refused = record {
      variables = refl;
      keeps = λ x meets. absurd (none_meet x meets);
      adds = λ x meets. absurd (none_meet x meets);
      all = λ x meets within. absurd (none_meet_old x meets within);
    }

    pub IsSound-refused : 1 ≤ n → n ≤ MAX_VARIABLES → IsSoundMatrix refused false
    IsSound-refused some few = record {
      some = some;
      few = few;
      pairs = length-set rows (a * n + b) (Some most) ∙ pairs;
      exact = λ e. cc;
      none = λ _. none_meet;
    }

  -- any other tightens every pair
  pub no_cycle : (¬ AtMost (bound_at (bounds_of n rows) b a) (negsuc 0 -ℤ most)) → (t : ℤ) →
      AtMost (bound_at (bounds_of n rows) b a) t → pos 0 ≤ℤ (t +ℤ most)
  no_cycle free t k =
      by_lt_z (t +ℤ most) (pos 0)
      (λ low. absurd (free (AtMost-more (bound_at (bounds_of n rows) b a) t (negsuc 0 -ℤ most) k (omega (arith, ints)))))
      (λ le. le)

  module _ (new : List (Option ℤ)) (improved : IsImproved (bounds_of n rows) (bounds_of n new) a b most n)
      (exact : IsExact (bounds_of n rows)) where
    pub AddsBound-sound : AddsBound (bounds_of n rows) (bounds_of n new) a b most
    AddsBound-sound = AddsBound-improved (bounds_of n rows) (bounds_of n new) a b most first second improved exact.closed

    pub IsSound-improved : 1 ≤ n → n ≤ MAX_VARIABLES → neg_ℤ (pos MAX_BOUND) ≤ℤ most → most ≤ℤ pos MAX_BOUND
        → ((t : ℤ) → AtMost (bound_at (bounds_of n rows) b a) t → pos 0 ≤ℤ (t +ℤ most)) → IsSoundMatrix (bounds_of n new) true
    IsSound-improved some few low high round =
        let closed = IsClosed-improved (bounds_of n rows) (bounds_of n new) a b most first second improved exact.closed round in
        let loose = IsLoose-adds (bounds_of n rows) (bounds_of n new)
        a b most first second AddsBound-sound low high exact.loose in
        record {
          some = some;
          few = few;
          pairs = improved.pairs;
          exact = λ _. record { closed = closed; loose = loose; small = AreSmall-closed (bounds_of n new) closed loose };
          none = λ e. cc;
        }
