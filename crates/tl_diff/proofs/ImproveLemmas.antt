-- A closed difference bound matrix to which one constraint is added.
use Rattle.std.proofs.Common.{ℕ, ◌<◌, ℤ, pos, ◌+ℤ◌, ◌≤ℤ◌, arith, inl, inr, ◌⊎◌, ⊎_elim}
use Rattle.std.proofs.lemmas.Int.{ints}
use Rattle.tl_diff.specs.Bounds.{Bounds, bound_at, Satisfies, MeetsConstraint, AddsBound}
use Rattle.tl_diff.specs.inner.Closed.{AtMost, IsClosed, IsImproved, lesser, via}
use Rattle.tl_diff.proofs.AtMostLemmas.{AtMost-more, AtMost-lesser_left, AtMost-lesser_right, lesser-AtMost, AtMost-via}
use Rattle.tl_diff.proofs.AtMostLemmas.{via-AtMost, Satisfies-at}
use Rattle.tl_diff.proofs.AtMostLemmas.{Satisfies-from}

module _ (old new : Bounds) (u v : ℕ) (w : ℤ) (first : u < old.n) (second : v < old.n) (h : IsImproved old new u v w old.n) where
  -- a new bound of t is an old one of t, or one that the added constraint implies
  improved-cases : (p q : ℕ) (t : ℤ) → p < new.n → q < new.n → AtMost (bound_at new p q) t
      → AtMost (bound_at old p q) t ⊎
      ((s : ℤ) × ((r : ℤ) × (AtMost (bound_at old p u) s × (AtMost (bound_at old v q) r × (((s +ℤ w) +ℤ r) ≤ℤ t)))))
  improved-cases p q t from to k =
      ⊎_elim (λ e. inl e) (λ e. inr (via-AtMost (bound_at old p u) (bound_at old v q) w t e))
      (lesser-AtMost (bound_at old p q) (via (bound_at old p u) w (bound_at old v q)) t
      (rw (h.done p q (omega (arith, h.variables)) (omega (arith, h.variables)) (omega (arith, h.variables))) at k))

  improved_keeps : (p q : ℕ) (t : ℤ) → p < new.n → q < new.n → AtMost (bound_at old p q) t → AtMost (bound_at new p q) t
  improved_keeps p q t from to k =
      rw (h.done p q (omega (arith, h.variables)) (omega (arith, h.variables)) (omega (arith, h.variables)))
      (AtMost-lesser_left (bound_at old p q) _ t k)

  improved_over : (p q : ℕ) (s r t : ℤ) → p < new.n → q < new.n → AtMost (bound_at old p u) s → AtMost (bound_at old v q) r →
      ((s +ℤ w) +ℤ r) ≤ℤ t →
      AtMost (bound_at new p q) t
  improved_over p q s r t from to k l le =
      rw (h.done p q (omega (arith, h.variables)) (omega (arith, h.variables)) (omega (arith, h.variables)))
      (AtMost-more (lesser (bound_at old p q) (via (bound_at old p u) w (bound_at old v q))) _ t
      (AtMost-lesser_right (bound_at old p q) _ _ (AtMost-via (bound_at old p u) (bound_at old v q) s w r k l)) le)

  module _ (closed : IsClosed old) where
    pub AddsBound-improved : AddsBound old new u v w
    AddsBound-improved = record {
      variables = h.variables;
      keeps = λ x meets. Satisfies-from old x
          (λ p q t from to k. Satisfies-at new x p q t meets (omega (arith, h.variables)) (omega (arith, h.variables))
          (improved_keeps p q t (omega (arith, h.variables)) (omega (arith, h.variables)) k));
      adds = λ x meets. Satisfies-at new x u v w meets (omega (arith, h.variables)) (omega (arith, h.variables))
          (improved_over u v (pos 0) (pos 0) w (omega (arith, h.variables)) (omega (arith, h.variables)) (closed.own u first)
          (closed.own v second)
          (omega (arith, ints)));
      all = λ x meets within. Satisfies-from new x (λ p q t from to k. both x meets within p q t from to
          (improved-cases p q t from to k));
    } where
      both : (x : ℕ → ℤ) → Satisfies old x → MeetsConstraint x u v w → (p q : ℕ) (t : ℤ) → p < new.n → q < new.n
          → AtMost (bound_at old p q) t ⊎
          ((s : ℤ) × ((r : ℤ) × (AtMost (bound_at old p u) s × (AtMost (bound_at old v q) r × (((s +ℤ w) +ℤ r) ≤ℤ t))))) →
          MeetsConstraint x p q t
      both x meets within p q t from to (inl k) = Satisfies-at old x p q t meets (omega (arith, h.variables))
          (omega (arith, h.variables)) k
      both x meets within p q t from to (inr e) =
          omega (
            arith,
            ints,
            Satisfies-at old x p u e.0 meets (omega (arith, h.variables)) first e.1.1.0,
            Satisfies-at old x v q e.1.0 meets second
                (omega (arith, h.variables)) e.1.1.1.0,
            within,
            e.1.1.1.1,
          )

    -- no cycle over the added constraint is below 0
    module _ (no_cycle : (t : ℤ) → AtMost (bound_at old v u) t → pos 0 ≤ℤ (t +ℤ w)) where
      round : (p : ℕ) (s t : ℤ) → p < old.n → AtMost (bound_at old v p) s → AtMost (bound_at old p u) t → pos 0 ≤ℤ ((s +ℤ t) +ℤ w)
      round p s t there k l = no_cycle (s +ℤ t) (closed.through v p u s t second there first k l)

      pub IsClosed-improved : IsClosed new
      IsClosed-improved = record {
        own = λ p there. improved_keeps p p (pos 0) there there (closed.own p (omega (arith, h.variables)));
        own_least = λ p t there k. own_least p t there (improved-cases p p t there there k);
        through = λ p q r s t from mid to k l. through p q r s t from mid to (improved-cases p q s from mid k)
            (improved-cases q r t mid to l);
      } where
        own_least : (p : ℕ) (t : ℤ) → p < new.n → AtMost (bound_at old p p) t
            ⊎ ((s : ℤ) × ((r : ℤ) × (AtMost (bound_at old p u) s × (AtMost (bound_at old v p) r × (((s +ℤ w) +ℤ r) ≤ℤ t))))) →
            pos 0 ≤ℤ t
        own_least p t there (inl k) = closed.own_least p t (omega (arith, h.variables)) k
        own_least p t there (inr e) = omega (
          arith,
          ints,
          round p e.1.0 e.0 (omega (arith, h.variables)) e.1.1.1.0 e.1.1.0,
          e.1.1.1.1,
        )

        through : (p q r : ℕ) (s t : ℤ) → p < new.n → q < new.n → r < new.n
            → AtMost (bound_at old p q) s ⊎ ((a : ℤ) × ((b : ℤ) ×
            (AtMost (bound_at old p u) a × (AtMost (bound_at old v q) b × (((a +ℤ w) +ℤ b) ≤ℤ s)))))
            → AtMost (bound_at old q r) t ⊎ ((a : ℤ) × ((b : ℤ) ×
            (AtMost (bound_at old q u) a × (AtMost (bound_at old v r) b × (((a +ℤ w) +ℤ b) ≤ℤ t)))))
            → AtMost (bound_at new p r) (s +ℤ t)
        through p q r s t from mid to (inl k) (inl l) =
            improved_keeps p r (s +ℤ t) from to
            (closed.through p q r s t (omega (arith, h.variables)) (omega (arith, h.variables)) (omega (arith, h.variables)) k l)
        through p q r s t from mid to (inl k) (inr e) =
            improved_over p r (s +ℤ e.0) e.1.0 (s +ℤ t) from to
            (closed.through p q u s e.0 (omega (arith, h.variables)) (omega (arith, h.variables)) first k e.1.1.0) e.1.1.1.0
            (omega (arith, ints, e.1.1.1.1))
        through p q r s t from mid to (inr e) (inl l) =
            improved_over p r e.0 (e.1.0 +ℤ t) (s +ℤ t) from to e.1.1.0
            (closed.through v q r e.1.0 t second (omega (arith, h.variables)) (omega (arith, h.variables)) e.1.1.1.0 l)
            (omega (arith, ints, e.1.1.1.1))
        through p q r s t from mid to (inr e) (inr f) =
            improved_over p r e.0 f.1.0 (s +ℤ t) from to e.1.1.0 f.1.1.1.0
            (omega (arith, ints, e.1.1.1.1, f.1.1.1.1, round q e.1.0 f.0 (omega (arith, h.variables)) e.1.1.1.0 f.1.1.0))
