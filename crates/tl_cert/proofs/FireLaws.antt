-- Firing is a function: what joins is determined, part by part, and a nogood with two bounds that do not follow ends it.
use Rattle.std.proofs.Common.{◌≡◌, ◌≢◌, ℕ, List, [], ◌∷◌, ◌++◌, ◌⊎◌, inl, inr, refl, sym, ap, ◌∙◌, subst}
use Rattle.std.specs.List.{Contains}
use Rattle.std.proofs.lemmas.List.Elements.{All-contains}
use Rattle.tl_problem.specs.Problem.{ProblemModel}
use Rattle.tl_problem.proofs.ZoneLaws.{cases_eq}
use Rattle.tl_cert.specs.declared.log.Bound.{Bound}
use Rattle.tl_cert.specs.declared.log.Side.{Side}
use Rattle.tl_cert.specs.declared.log.Side.TheVariants.{Most, Least}
use Rattle.tl_cert.specs.Implied.{IsLeft, Implied, OneLeft}
use Rattle.tl_cert.specs.Lines.{Fires}

-- a bound is its span, its side and its width
pub same-bound : (a b : Bound) → a.span ≡ b.span → a.side ≡ b.side → a.width ≡ b.width → a ≡ b
same-bound a b span side width = ap (λ s. bound_of s a.side a.width) span ∙ ap (λ s. bound_of b.span s a.width) side ∙ ap
    (bound_of b.span b.side) width
  where
    bound_of : ℕ → Side → ℕ → Bound
    bound_of span side width = record { span = span; side = side; width = width }

-- two bounds are the same or not
pub bound-decides : (a b : Bound) → (a ≡ b) ⊎ (a ≢ b)
bound-decides a b =
    elim (cases_eq a.span b.span) [
      | inr apart ↦ inr (λ same. apart (ap (λ c. c.span) same))
      | inl span ↦ elim (cases_eq a.width b.width) [
        | inr apart ↦ inr (λ same. apart (ap (λ c. c.width) same))
        | inl width ↦ elim (sides a.side b.side) [
          | inr apart ↦ inr (λ same. apart (ap (λ c. c.side) same))
          | inl side ↦ inl (same-bound a b span side width)
        ]
      ]
    ] where
      sides : (s t : Side) → (s ≡ t) ⊎ (s ≢ t)
      sides Most Most = inl refl
      sides Most Least = inr (λ same. cc)
      sides Least Most = inr (λ same. cc)
      sides Least Least = inl refl

module _ (problem : ProblemModel) (given : List Bound) where
  -- of a nogood no two bounds are the one that is left
  one_left-unique : (joined nogood : List Bound) (a b : Bound) → OneLeft problem (IsLeft problem given joined) nogood a →
      OneLeft problem (IsLeft problem given joined) nogood b → a ≡ b
  one_left-unique joined nogood a b first second =
      elim (bound-decides a b) [
        | inl same ↦ same
        | inr apart ↦ absurd (first.not_implied (second.others a first.among apart))
      ]

  -- firing the same nogoods joins the same bounds
  pub fires-unique : (joined : List Bound) (nogoods : List (List Bound)) (a b : List Bound) →
      Fires problem given joined nogoods a →
      Fires problem given joined nogoods b → a ≡ b
  fires-unique joined [] a b first second = first ∙ sym second
  fires-unique joined (nogood ∷ nogoods) a b (inl (all, rest)) (inl (also, other)) = fires-unique joined nogoods a b rest other
  fires-unique joined (nogood ∷ nogoods) a b (inl (all, rest)) (inr (bound, one, other)) =
      absurd (one.not_implied (All-contains (Implied problem (IsLeft problem given joined)) nogood bound all one.among))
  fires-unique joined (nogood ∷ nogoods) a b (inr (bound, one, rest)) (inl (all, other)) =
      absurd (one.not_implied (All-contains (Implied problem (IsLeft problem given joined)) nogood bound all one.among))
  fires-unique joined (nogood ∷ nogoods) a b (inr (bound, one, rest)) (inr (also, second, other)) =
      let same = one_left-unique joined nogood also bound second one in
      fires-unique (joined ++ bound ∷ []) nogoods a b rest (subst (λ c. Fires problem given (joined ++ c ∷ []) nogoods b)
      same other)

  -- nogoods are fired part by part
  pub fires-append : (joined : List Bound) (nogoods more : List (List Bound)) (between last : List Bound) →
      Fires problem given joined nogoods between → Fires problem given between more last →
      Fires problem given joined (nogoods ++ more) last
  fires-append joined [] more between last first second = subst (λ js. Fires problem given js more last) first second
  fires-append joined (nogood ∷ nogoods) more between last (inl (all, rest)) second =
      inl (all, fires-append joined nogoods more between last rest second)
  fires-append joined (nogood ∷ nogoods) more between last (inr (bound, one, rest)) second =
      inr (bound, one, fires-append (joined ++ bound ∷ []) nogoods more between last rest second)

  pub fires-split : (joined : List Bound) (nogoods more : List (List Bound)) (last : List Bound) →
      Fires problem given joined (nogoods ++ more) last →
      (between : List Bound) × Fires problem given joined nogoods between × Fires problem given between more last
  fires-split joined [] more last fires = (joined, refl, fires)
  fires-split joined (nogood ∷ nogoods) more last (inl (all, rest)) =
      let found = fires-split joined nogoods more last rest in
      (found.0, inl (all, found.1), found.2)
  fires-split joined (nogood ∷ nogoods) more last (inr (bound, one, rest)) =
      let found = fires-split (joined ++ bound ∷ []) nogoods more last rest in
      (found.0, inr (bound, one, found.1), found.2)

  -- after the first nogoods, one with two different bounds that do not follow cannot be fired
  pub fires-stuck : (joined : List Bound) (nogoods more : List (List Bound)) (nogood between last : List Bound) (a b : Bound) →
      Fires problem given joined nogoods between →
      Contains nogood a → Contains nogood b → a ≢ b → (Implied problem (IsLeft problem given between) a → ⊥) →
      (Implied problem (IsLeft problem given between) b → ⊥) →
      Fires problem given joined (nogoods ++ nogood ∷ more) last → ⊥
  fires-stuck joined nogoods more nogood between last a b first has_a has_b apart not_a not_b fires =
      let found = fires-split joined nogoods (nogood ∷ more) last fires in
      let same = fires-unique joined nogoods found.0 between found.1 first in
      stuck (subst (λ js. Fires problem given js (nogood ∷ more) last) same found.2) where
        stuck : Fires problem given between (nogood ∷ more) last → ⊥
        stuck (inl (all, rest)) = not_a (All-contains (Implied problem (IsLeft problem given between)) nogood a all has_a)
        stuck (inr (bound, one, rest)) =
            elim (bound-decides a bound) [
              | inr other ↦ not_a (one.others a has_a other)
              | inl here ↦ not_b (one.others b has_b (λ also. apart (here ∙ sym also)))
            ]
