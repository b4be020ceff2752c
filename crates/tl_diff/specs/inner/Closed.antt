-- What a closed difference bound matrix keeps true; no public clause cites this file. Each bound is the tightest, and none
-- is large.
use Rattle.std.specs.Prelude.{◌≡◌, ℕ, ◌*◌, ◌<◌, ◌≤◌, ℤ, pos, negsuc, ◌+ℤ◌, neg_ℤ, ◌≤ℤ◌, ◌<ℤ◌, int_le, Option, Some, None, length}
use Rattle.std.specs.Prelude.{Bool, IsTrue}
use Rattle.std.specs.Prelude.{IsFalse, ◌≢◌, if◌then◌else◌, ◌⊎◌}
use Rattle.std.specs.Int.{int_min}
use Rattle.tl_diff.specs.declared.matrix.TheConstants.{MAX_BOUND, MAX_VARIABLES}
use Rattle.tl_diff.specs.Bounds.{Bounds, bound_at, IsSmall, Satisfies}

-- a bound is there, and it is t or less
abbrev pub AtMost : Option ℤ → ℤ → Type 0
AtMost None t = ⊥
AtMost (Some c) t = c ≤ℤ t

-- the lesser of two bounds, where none is as if it were above every number
abbrev pub lesser : Option ℤ → Option ℤ → Option ℤ
lesser None o = o
lesser (Some c) None = Some c
lesser (Some c) (Some t) = Some (int_min c t)

-- a bound made weaker by `way`
abbrev pub beyond : ℤ → Option ℤ → Option ℤ
beyond way None = None
beyond way (Some t) = Some (way +ℤ t)

-- the bound that is implied by a bound, then one of w, then another
abbrev pub via : Option ℤ → ℤ → Option ℤ → Option ℤ
via None w o = None
via (Some s) w o = beyond (s +ℤ w) o

-- No bound that two others imply is missing, so that each is the tightest.
pub record IsClosed (bounds : Bounds) : Type 0 where
  pub own : (p : ℕ) → p < bounds.n → AtMost (bound_at bounds p p) (pos 0)
  pub own_least : (p : ℕ) (t : ℤ) → p < bounds.n → AtMost (bound_at bounds p p) t → pos 0 ≤ℤ t
  pub through : (p q r : ℕ) (s t : ℤ) → p < bounds.n → q < bounds.n → r < bounds.n
      → AtMost (bound_at bounds p q) s → AtMost (bound_at bounds q r) t → AtMost (bound_at bounds p r) (s +ℤ t)

-- the assignment in which the variables above t are greater by s
abbrev pub moved_past : (ℕ → ℤ) → ℤ → ℤ → ℕ → ℤ
moved_past x t s p = if int_le (x p) t then x p else x p +ℤ s

-- no variable lies within MAX_BOUND above t: each is up to t, or above them
abbrev pub IsGap : ℕ → (ℕ → ℤ) → ℤ → Type 0
IsGap n x t = (p : ℕ) → p < n → (x p ≤ℤ t) ⊎ ((t +ℤ pos MAX_BOUND) <ℤ x p)

-- Above a gap that no single constraint spans, all variables can grow together, or shrink by one. It holds since no
-- constraint that was given is above MAX_BOUND or as much below 0, and it is why no tightest bound is large.
abbrev pub IsLoose : Bounds → Type 0
IsLoose bounds = (x : ℕ → ℤ) (t s : ℤ) → Satisfies bounds x → IsGap bounds.n x t → negsuc 0 ≤ℤ s →
    Satisfies bounds (moved_past x t s)

-- no bound is above MAX_BOUND times the number of variables, or below as much under 0
abbrev pub AreSmallBounds : Bounds → Type 0
AreSmallBounds bounds = (p q : ℕ) (c : ℤ) → p < bounds.n → q < bounds.n → bound_at bounds p q ≡ Some c
    → (neg_ℤ (pos (MAX_BOUND * bounds.n)) ≤ℤ c) × (c ≤ℤ pos (MAX_BOUND * bounds.n))

-- the bounds in the row of variable p are small
abbrev pub IsRowSmall : Bounds → ℕ → Type 0
IsRowSmall bounds p = (q : ℕ) (c : ℤ) → q < bounds.n → bound_at bounds p q ≡ Some c → IsSmall c

-- the closed difference bound matrix of constraints that some assignment satisfies
pub record IsExact (bounds : Bounds) : Type 0 where
  pub closed : IsClosed bounds
  pub loose : IsLoose bounds
  pub small : AreSmallBounds bounds

-- What is true of every matrix between two calls: as many bounds as there are pairs; each the tightest while some assignment
-- satisfies them, and none does once one was refused.
pub record IsSoundMatrix (bounds : Bounds) (holds : Bool) : Type 0 where
  pub some : 1 ≤ bounds.n
  pub few : bounds.n ≤ MAX_VARIABLES
  pub pairs : length bounds.rows ≡ bounds.n * bounds.n
  pub exact : IsTrue holds → IsExact bounds
  pub none : IsFalse holds → (x : ℕ → ℤ) → Satisfies bounds x → ⊥

-- Row `variable` with the bounds that `way` to variable `to` implies, up to variable `upto`; all else is as it was.
pub record IsRowImproved (old new : Bounds) (variable to : ℕ) (way : ℤ) (upto : ℕ) : Type 0 where
  pub variables : new.n ≡ old.n
  pub pairs : length new.rows ≡ old.n * old.n
  pub others : (p q : ℕ) → p < old.n → q < old.n → p ≢ variable → bound_at new p q ≡ bound_at old p q
  pub done : (q : ℕ) → q < old.n → q < upto → bound_at new variable q ≡ lesser (bound_at old variable q)
      (beyond way (bound_at old to q))
  pub rest : (q : ℕ) → q < old.n → upto ≤ q → bound_at new variable q ≡ bound_at old variable q

-- Each bound of the rows up to `upto` is the old one, or the one implied by way of `x_v <= x_u + w` where that is tighter.
pub record IsImproved (old new : Bounds) (u v : ℕ) (w : ℤ) (upto : ℕ) : Type 0 where
  pub variables : new.n ≡ old.n
  pub pairs : length new.rows ≡ old.n * old.n
  pub done : (p q : ℕ) → p < old.n → q < old.n → p < upto → bound_at new p q ≡ lesser (bound_at old p q)
      (via (bound_at old p u) w (bound_at old v q))
  pub rest : (p q : ℕ) → p < old.n → q < old.n → upto ≤ p → bound_at new p q ≡ bound_at old p q

-- The constraints `x_p <= x_p + 0` for the variables up to `upto`, and no other.
pub record IsFree (bounds : Bounds) (upto : ℕ) : Type 0 where
  pub pairs : length bounds.rows ≡ bounds.n * bounds.n
  pub own : (p : ℕ) → p < bounds.n → p < upto → bound_at bounds p p ≡ Some (pos 0)
  pub other : (p q : ℕ) → p < bounds.n → q < bounds.n → p ≢ q → bound_at bounds p q ≡ None
