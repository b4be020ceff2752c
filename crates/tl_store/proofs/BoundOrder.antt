-- The order of bounds: of two that differ one comes first, and none before itself.
use Rattle.std.proofs.Common.{◌≡◌, ◌≢◌, ◌⊎◌, ◌+◌, ◌*◌, List, inl, inr, refl, ap, ◌∙◌, sym, subst, arith}
use Rattle.std.specs.List.{AllPairs}
use Rattle.std.proofs.lemmas.Bool.{cases_lt}
use Rattle.tl_base.proofs.Members.{same-ordered}
use Rattle.tl_cert.specs.declared.log.Bound.{Bound}
use Rattle.tl_cert.specs.declared.log.Side.{Side}
use Rattle.tl_cert.specs.declared.log.Side.TheVariants.{Most, Least}
use Rattle.tl_cert.proofs.FireLaws.{same-bound}
use Rattle.tl_store.specs.Stores.{side_place, bound_place, BoundComesFirst, HaveSame}

pub first-next : (a b c : Bound) → BoundComesFirst a b → BoundComesFirst b c → BoundComesFirst a c
first-next a b c (inl less) (inl more) = inl (omega (arith, less, more))
first-next a b c (inl less) (inr more) = inl (omega (arith, less, more.0))
first-next a b c (inr less) (inl more) = inl (omega (arith, less.0, more))
first-next a b c (inr less) (inr more) = inr (omega (arith, less.0, more.0), omega (arith, less.1, more.1))

pub not-itself : (a : Bound) → BoundComesFirst a a → ⊥
not-itself a (inl less) = omega (arith, less)
not-itself a (inr less) = omega (arith, less.1)

pub first-apart : (a b : Bound) → BoundComesFirst a b → a ≢ b
first-apart a b first same = not-itself b (subst (λ c. BoundComesFirst c b) same first)

pub not-back : (a b : Bound) → BoundComesFirst a b → BoundComesFirst b a → ⊥
not-back a b first back = not-itself a (first-next a b a first back)

-- a bound that comes neither before nor after another is that one
pub first-cases : (a b : Bound) → BoundComesFirst a b ⊎ ((a ≡ b) ⊎ BoundComesFirst b a)
first-cases a b =
    elim (cases_lt (bound_place a) (bound_place b)) [
      | inl less ↦ inl (inl less)
      | inr most ↦ elim (cases_lt (bound_place b) (bound_place a)) [
        | inl more ↦ inr (inr (inl more))
        | inr least ↦
            let place : bound_place a ≡ bound_place b = omega (arith, most, least) in
            elim (cases_lt a.width b.width) [
              | inl less ↦ inl (inr (place, less))
              | inr wide ↦ elim (cases_lt b.width a.width) [
                | inl more ↦ inr (inr (inr (sym place, more)))
                | inr narrow ↦ inr (inl (made a.side b.side place refl refl (omega (arith, wide, narrow))))
              ]
            ]
      ]
    ] where
      made : (s t : Side) → 2 * a.span + side_place a.side ≡ 2 * b.span + side_place b.side → s ≡ a.side → t ≡ b.side →
          a.width ≡ b.width → a ≡ b
      made Most Most place one other width =
          let one_place = ap side_place one in let other_place = ap side_place other in
          same-bound a b (omega (arith, place, one_place, other_place)) (sym one ∙ other) width
      made Least Least place one other width =
          let one_place = ap side_place one in let other_place = ap side_place other in
          same-bound a b (omega (arith, place, one_place, other_place)) (sym one ∙ other) width
      made Most Least place one other width =
          let one_place = ap side_place one in let other_place = ap side_place other in
          absurd (omega (arith, place, one_place, other_place))
      made Least Most place one other width =
          let one_place = ap side_place one in let other_place = ap side_place other in
          absurd (omega (arith, place, one_place, other_place))

pub first-from_not : (a b : Bound) → (BoundComesFirst a b → ⊥) → a ≢ b → BoundComesFirst b a
first-from_not a b not apart = elim (first-cases a b) [
  | inl first ↦ absurd (not first)
  | inr rest ↦ elim rest [ inl same ↦ absurd (apart same) | inr back ↦ back ]
]

-- bounds in order are given by the set of them
pub same-bounds : (xs ys : List Bound) → AllPairs BoundComesFirst xs → AllPairs BoundComesFirst ys → HaveSame xs ys → xs ≡ ys
same-bounds xs ys first second same =
    same-ordered BoundComesFirst not-back xs ys first second (λ x has. (same x).0 has) (λ x has. (same x).1 has)
