-- The definitions on drawn cases.
use Rattle.std.proofs.Common.{◌≡◌, ℕ, List, [], ◌∷◌, Option, None, Some, inl, inr, length, get_or, refl, sym, ap, subst, arith}
use Rattle.std.specs.List.{Contains}
use Rattle.tl_base.proofs.Members.{Contains-first, Contains-later, Contains-cases, Contains-none}
use Rattle.tl_cert.specs.declared.log.Bound.{Bound}
use Rattle.tl_cert.specs.declared.log.Nogood.TheVariants.{Zone, Bounds}
use Rattle.tl_cert.specs.Nogoods.{at_most, at_least}
use Rattle.tl_store.specs.declared.groups.Group.{Group}
use Rattle.tl_store.specs.Stores.{BoundComesFirst, HaveSame, IsHeadOf, IsListed, AreListed, IsAddedNogood}
use Rattle.tl_store.specs.Shrunk.{IsShort}

abbrev narrow : Bound
narrow = at_most 2 8

abbrev wide : Bound
wide = at_least 2 9

-- "at most" comes before "at least" on a span, whatever the widths, and each span before the next
most_first : BoundComesFirst narrow wide
most_first = inl (omega arith)

least_not_first : BoundComesFirst wide narrow → ⊥
least_not_first (inl less) = omega (arith, less)
least_not_first (inr less) = omega (arith, less.0)

next_span : BoundComesFirst (at_least 1 400) narrow
next_span = inl (omega arith)

lower_width : BoundComesFirst narrow (at_most 2 20)
lower_width = inr (refl, omega arith)

-- a bound that is written twice counts as one
twice : HaveSame (narrow ∷ wide ∷ narrow ∷ []) (narrow ∷ wide ∷ [])
twice bound = (
  λ has. elim (Contains-cases narrow (wide ∷ narrow ∷ []) bound has) [
    | inl same ↦ subst (Contains (narrow ∷ wide ∷ [])) same (Contains-first narrow (wide ∷ []))
    | inr later ↦ elim (Contains-cases wide (narrow ∷ []) bound later) [
      | inl same ↦ subst (Contains (narrow ∷ wide ∷ [])) same (Contains-later narrow (wide ∷ []) wide (Contains-first wide []))
      | inr last ↦ elim (Contains-cases narrow [] bound last) [
        | inl same ↦ subst (Contains (narrow ∷ wide ∷ [])) same (Contains-first narrow (wide ∷ []))
        | inr none ↦ absurd (Contains-none bound none)
      ]
    ]
  ],
  λ has. elim (Contains-cases narrow (wide ∷ []) bound has) [
    | inl same ↦ subst (Contains (narrow ∷ wide ∷ narrow ∷ [])) same (Contains-first narrow (wide ∷ narrow ∷ []))
    | inr later ↦ elim (Contains-cases wide [] bound later) [
      | inl same ↦ subst (Contains (narrow ∷ wide ∷ narrow ∷ [])) same
          (Contains-later narrow (wide ∷ narrow ∷ []) wide (Contains-first wide (narrow ∷ [])))
      | inr none ↦ absurd (Contains-none bound none)
    ]
  ],
)

-- but with one bound less it is another nogood
apart : HaveSame (narrow ∷ wide ∷ []) (narrow ∷ []) → ⊥
apart same = elim (Contains-cases narrow [] wide ((same wide).0
    (Contains-later narrow (wide ∷ []) wide (Contains-first wide [])))) [
      | inl one ↦ let widths : 8 ≡ 9 = ap (λ (b : Bound). b.width) one in omega (arith, widths)
      | inr none ↦ Contains-none wide none
    ]

itself : (bounds : List Bound) → HaveSame bounds bounds
itself bounds bound = (λ has. has, λ has. has)

-- into a store that has it a nogood is not put again; into one that lacks it, it comes last
again : IsAddedNogood ((narrow ∷ []) ∷ (wide ∷ []) ∷ []) ((narrow ∷ []) ∷ (wide ∷ []) ∷ []) (wide ∷ []) 1
again = record {
  there = omega arith;
  same = itself (wide ∷ []);
  before = λ less. refl;
  last = λ past. absurd (omega (arith, past));
  first = λ k within same. omega arith;
}

anew : IsAddedNogood ((narrow ∷ []) ∷ []) ((narrow ∷ []) ∷ (wide ∷ []) ∷ []) (wide ∷ []) 1
anew = record {
  there = omega arith;
  same = itself (wide ∷ []);
  before = λ less. absurd (omega (arith, less));
  last = λ past. (refl, refl);
  first = λ k within same.
      let here : k ≡ 0 = omega (arith, within) in
      absurd (differ (subst (λ (j : ℕ). HaveSame (wide ∷ []) (get_or ((narrow ∷ []) ∷ []) j [])) here same));
} where
  differ : HaveSame (wide ∷ []) (narrow ∷ []) → ⊥
  differ same = elim (Contains-cases narrow [] wide ((same wide).0 (Contains-first wide []))) [
    | inl one ↦ let widths : 8 ≡ 9 = ap (λ (b : Bound). b.width) one in omega (arith, widths)
    | inr none ↦ Contains-none wide none
  ]

-- the next number for a nogood that is there would be wrong
not_next : IsAddedNogood ((narrow ∷ []) ∷ []) ((narrow ∷ []) ∷ (narrow ∷ []) ∷ []) (narrow ∷ []) 1 → ⊥
not_next is = let less = is.first 0 (omega arith) (itself (narrow ∷ [])) in omega (arith, less)

-- a group has nogoods with its bound alone, and without a bound that of no bounds
with_head : IsHeadOf (Some wide) (narrow ∷ wide ∷ [])
with_head = Contains-later narrow (wide ∷ []) wide (Contains-first wide [])

without_head : IsHeadOf (Some wide) (narrow ∷ []) → ⊥
without_head has = elim (Contains-cases narrow [] wide has) [
  | inl one ↦ let widths : 8 ≡ 9 = ap (λ (b : Bound). b.width) one in omega (arith, widths)
  | inr none ↦ Contains-none wide none
]

not_empty : IsHeadOf None (narrow ∷ []) → ⊥
not_empty none = let lengths : 1 ≡ 0 = ap length none in omega (arith, lengths)

-- one group is enough for one nogood, and none is not
one_group : (group : Group) → group.head ≡ Some narrow → Contains group.numbers.items 0 →
    AreListed (group ∷ []) ((narrow ∷ []) ∷ [])
one_group group head has k within =
    let here : k ≡ 0 = omega (arith, within) in
    subst (λ (j : ℕ). IsListed (group ∷ []) (get_or ((narrow ∷ []) ∷ []) j []) j) (sym here) (record {
      group = group;
      there = Contains-first group [];
      listed = record {
        head = subst (λ (h : Option Bound). IsHeadOf h (narrow ∷ [])) (sym head) (Contains-first narrow []);
        has = has;
      };
    })

no_group : AreListed [] ((narrow ∷ []) ∷ []) → ⊥
no_group listed = let is = listed 0 (omega arith) in Contains-none is.group is.there

-- a line is short with zone 0 or with a bound, and not with another zone or with none written out
short_whole : IsShort (Zone 0)
short_whole = refl

not_short : IsShort (Bounds []) → ⊥
not_short is = let some = is.some in omega (arith, some)
