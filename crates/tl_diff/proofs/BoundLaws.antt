-- What the layers above need of difference constraints, tightest bounds and marks.
use Rattle.std.proofs.Common.{◌≡◌, ℕ, ◌<◌, ◌≤◌, ℤ, pos, ◌≤ℤ◌, neg_ℤ, Option, Some, None, IsSome, MatchOption, List, ◌∷◌, ◌↔◌}
use Rattle.std.proofs.Common.{refl, arith}
use Rattle.std.proofs.lemmas.Int.{ints}
use Rattle.tl_diff.specs.Marks.{MarkedBounds}
use Rattle.tl_diff.specs.Bounds.{Bounds, Satisfies, IsSatisfiable, Implies, AddsBound, IsGreatest, HasGreatest, HasNoGreatest}
use Rattle.tl_diff.specs.Bounds.{IsLeast}

-- there is one tightest bound on two variables
pub IsGreatest-unique : (bounds : Bounds) (a b : ℕ) (s t : ℤ) → IsGreatest bounds a b s → IsGreatest bounds a b t → s ≡ t
IsGreatest-unique bounds a b s t h k =
    omega (arith, ints, h.reached.1.1, k.reached.1.1, h.implied k.reached.0 k.reached.1.0, k.implied h.reached.0 h.reached.1.0)

-- and where there is one, not every number is passed
pub IsGreatest-bounded : (bounds : Bounds) (a b : ℕ) (most : ℤ) → IsGreatest bounds a b most → HasNoGreatest bounds a b → ⊥
IsGreatest-bounded bounds a b most h none =
    let more = none most in
    omega (arith, ints, more.1.1, h.implied more.0 more.1.0)

-- a returned bound is a number where there is a tightest bound
pub IsSome-greatest : (bounds : Bounds) (a b : ℕ) (o : Option ℤ) →
    MatchOption o (HasNoGreatest bounds a b) (IsGreatest bounds a b) →
    (HasNoGreatest bounds a b → ⊥) → IsSome o
IsSome-greatest bounds a b None none has = absurd (has none)
IsSome-greatest bounds a b (Some c) h has = refl

-- a returned bound that is a number is the tightest, so that not every number is passed
pub HasGreatest-some : (bounds : Bounds) (a b : ℕ) (o : Option ℤ) →
    MatchOption o (HasNoGreatest bounds a b) (IsGreatest bounds a b) → IsSome o →
    HasGreatest bounds a b
HasGreatest-some bounds a b None h some = cc
HasGreatest-some bounds a b (Some c) h some = (c, h)

-- a variable is at no distance from itself
pub IsGreatest-own : (bounds : Bounds) (a : ℕ) (most : ℤ) → IsGreatest bounds a a most → most ≡ pos 0
IsGreatest-own bounds a most h = omega (arith, ints, h.reached.1.1)

-- The least assignment has the greatest `x_0 - x_k` of each variable, negated.
pub IsLeast-greatest : (bounds : Bounds) (x : ℕ → ℤ) → 1 ≤ bounds.n →
    ((k : ℕ) → k < bounds.n → IsGreatest bounds k 0 (neg_ℤ (x k))) → IsLeast bounds x
IsLeast-greatest bounds x some h = record {
  starts = omega (arith, ints, (h 0 some).reached.1.1);
  satisfies = λ p q from to c is.
      let y = (h p from).reached in
      omega (arith, ints, y.1.1, (h q to).implied y.0 y.1.0, y.1.0 p q from to c is);
  least = λ y meets starts k there. omega (arith, ints, (h k there).implied y meets, starts);
}

-- what satisfies one constraint more satisfies the others
pub AddsBound-shrinks : (old new : Bounds) (a b : ℕ) (most : ℤ) → AddsBound old new a b most → IsSatisfiable new →
    IsSatisfiable old
AddsBound-shrinks old new a b most h some = (some.0, h.keeps some.0 some.1)

-- a tightest bound does not rise by one constraint more
pub IsGreatest-falls : (old new : Bounds) (a b : ℕ) (most : ℤ) → AddsBound old new a b most → (p q : ℕ) (s t : ℤ) →
    IsGreatest old p q s →
    IsGreatest new p q t → t ≤ℤ s
IsGreatest-falls old new a b most h p q s t before after =
    omega (arith, ints, after.reached.1.1, before.implied after.reached.0 (h.keeps after.reached.0 after.reached.1.0))

-- A constraint is implied exactly where the tightest bound is no more than its own.
pub Implied-from : (bounds : Bounds) (a b : ℕ) (s most : ℤ) → IsGreatest bounds a b s → s ≤ℤ most → Implies bounds a b most
Implied-from bounds a b s most h le x meets = omega (arith, ints, h.implied x meets)

pub Implied-le : (bounds : Bounds) (a b : ℕ) (s most : ℤ) → IsGreatest bounds a b s → Implies bounds a b most → s ≤ℤ most
Implied-le bounds a b s most h implied = omega (arith, ints, h.reached.1.1, implied h.reached.0 h.reached.1.0)

-- where there is no tightest bound, nothing is implied
pub Implied-none : (bounds : Bounds) (a b : ℕ) (most : ℤ) → HasNoGreatest bounds a b → Implies bounds a b most → ⊥
Implied-none bounds a b most none implied =
    let more = none most in
    omega (arith, ints, more.1.1, implied more.0 more.1.0)

-- `undo` gives back the constraints of the last mark, and so what satisfies them.
pub undo_last : (old new : MarkedBounds) (last : Bounds) (rest : List Bounds) → old.held ≡ new.bounds ∷ new.held →
    old.held ≡ last ∷ rest →
    (new.bounds ≡ last) × (new.held ≡ rest)
undo_last old new last rest undone held = (cc, cc)

pub undo_gives_back : (old new : MarkedBounds) (last : Bounds) (rest : List Bounds) → old.held ≡ new.bounds ∷ new.held →
    old.held ≡ last ∷ rest →
    (x : ℕ → ℤ) → Satisfies new.bounds x ↔ Satisfies last x
undo_gives_back old new last rest undone held x =
    let same = (undo_last old new last rest undone held).0 in
    (λ meets. rw same at meets, λ meets. rw same meets)
