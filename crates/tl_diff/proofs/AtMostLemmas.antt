-- Bounds that are at most a number, the lesser of two, and one bound after another.
use Rattle.std.proofs.Common.{◌≡◌, ℕ, ◌<◌, ℤ, ◌+ℤ◌, ◌≤ℤ◌, Option, Some, None, refl, arith, inl, inr, ◌⊎◌}
use Rattle.std.proofs.lemmas.Int.{ints, clamps}
use Rattle.tl_diff.specs.Bounds.{Bounds, bound_at, Satisfies, MeetsConstraint}
use Rattle.tl_diff.specs.inner.Closed.{AtMost, lesser, via}

pub AtMost-from : (o : Option ℤ) (c t : ℤ) → o ≡ Some c → c ≤ℤ t → AtMost o t
AtMost-from o c t is h = rw is h

pub AtMost-some : (o : Option ℤ) (t : ℤ) → AtMost o t → (c : ℤ) × ((o ≡ Some c) × (c ≤ℤ t))
AtMost-some None t h = absurd h
AtMost-some (Some c) t h = (c, (refl, h))

pub AtMost-more : (o : Option ℤ) (s t : ℤ) → AtMost o s → s ≤ℤ t → AtMost o t
AtMost-more None s t h le = absurd h
AtMost-more (Some c) s t h le = omega (arith, ints)

pub AtMost-lesser_left : (o m : Option ℤ) (t : ℤ) → AtMost o t → AtMost (lesser o m) t
AtMost-lesser_left None m t h = absurd h
AtMost-lesser_left (Some c) None t h = h
AtMost-lesser_left (Some c) (Some r) t h = omega (arith, ints, clamps)

pub AtMost-lesser_right : (o m : Option ℤ) (t : ℤ) → AtMost m t → AtMost (lesser o m) t
AtMost-lesser_right None m t h = h
AtMost-lesser_right (Some c) None t h = absurd h
AtMost-lesser_right (Some c) (Some r) t h = omega (arith, ints, clamps)

pub lesser-AtMost : (o m : Option ℤ) (t : ℤ) → AtMost (lesser o m) t → AtMost o t ⊎ AtMost m t
lesser-AtMost None m t h = inr h
lesser-AtMost (Some c) None t h = inl h
lesser-AtMost (Some c) (Some r) t h = grind (arith, ints, clamps)

pub AtMost-via : (o m : Option ℤ) (s w r : ℤ) → AtMost o s → AtMost m r → AtMost (via o w m) ((s +ℤ w) +ℤ r)
AtMost-via None m s w r h k = absurd h
AtMost-via (Some c) None s w r h k = absurd k
AtMost-via (Some c) (Some e) s w r h k = omega (arith, ints)

pub via-AtMost : (o m : Option ℤ) (w t : ℤ) → AtMost (via o w m) t →
    (s : ℤ) × ((r : ℤ) × (AtMost o s × (AtMost m r × (((s +ℤ w) +ℤ r) ≤ℤ t))))
via-AtMost None m w t h = absurd h
via-AtMost (Some c) None w t h = absurd h
via-AtMost (Some c) (Some e) w t h = (c, (e, (omega (arith, ints), (omega (arith, ints), h))))

-- what a bound of t says of positions
pub Satisfies-at : (bounds : Bounds) (x : ℕ → ℤ) (p q : ℕ) (t : ℤ) → Satisfies bounds x → p < bounds.n → q < bounds.n →
    AtMost (bound_at bounds p q) t
    → MeetsConstraint x p q t
Satisfies-at bounds x p q t meets first second h =
    let c = AtMost-some (bound_at bounds p q) t h in
    omega (arith, ints, meets p q first second c.0 c.1.0, c.1.1)

pub Satisfies-from : (bounds : Bounds) (x : ℕ → ℤ) →
    ((p q : ℕ) (t : ℤ) → p < bounds.n → q < bounds.n → AtMost (bound_at bounds p q) t → MeetsConstraint x p q t) →
    Satisfies bounds x
Satisfies-from bounds x h p q first second c is = h p q c first second (rw is (omega (arith, ints)))
