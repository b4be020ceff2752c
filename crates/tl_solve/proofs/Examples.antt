-- The order of cuts on a drawn trace. Three cuts of the whole and of both its parts:
--
--          0               cut 0: zone 0 into 1 and 2
--        /   \             cut 1: zone 1 into 3 and 4
--       1     2            cut 2: zone 2 into 5 and 6
--      / \   / \
--     3   4 5   6
use Rattle.std.proofs.Common.{◌≡◌, ℕ, ◌+◌, ◌*◌, ◌<◌, List, [], ◌∷◌, ◌⊎◌, inl, inr, length, get_or, refl, sym, subst, arith}
use Rattle.tl_problem.specs.declared.zone.Range.{Range}
use Rattle.tl_problem.specs.Zones.{range}
use Rattle.tl_cert.specs.declared.trace.CutAt.{CutAt}
use Rattle.tl_cert.specs.ZoneOrders.{ComesFrom, itself, lower, upper, ZoneComesBefore}
use Rattle.tl_solve.specs.Orders.{IsFirstCut, Follows}

abbrev lower_first : List CutAt
lower_first = record { zone = 0; span = 0; class = 0 } ∷ record { zone = 1; span = 0; class = 0 } ∷ record {
  zone = 2;
  span =
      0;
  class = 0;
} ∷ []

-- zone 6 comes from zone 2 and from the whole, zone 3 comes before it
six_from_two : ComesFrom lower_first 2 6
six_from_two = upper 2 (record { zone = 0; span = 0; class = 0 }) (omega arith) itself

six_from_whole : ComesFrom lower_first 0 6
six_from_whole = upper 2 (record { zone = 0; span = 0; class = 0 }) (omega arith)
    (upper 0 (record { zone = 0; span = 0; class = 0 }) (omega arith) itself)

three_before_six : ZoneComesBefore lower_first 3 6
three_before_six = (0, omega arith, lower 1 (record { zone = 0; span = 0; class = 0 }) (omega arith) itself, six_from_two)

-- so the cut of zone 2 follows that of zone 1
two_follows_one : Follows lower_first 1 2
two_follows_one = inr (0, omega arith, itself, itself)

-- where a zone comes from: itself, or one of which it is a part
from-cases : (trace : List CutAt) (from z : ℕ) → ComesFrom trace from z →
    (z ≡ from) ⊎ ((i : ℕ) × (d : CutAt) × (i < length trace) × ((z ≡ 2 * i + 1) ⊎ (z ≡ 2 * i + 2)) ×
    ComesFrom trace from (get_or trace i d).zone)
from-cases trace from z itself = inl refl
from-cases trace from z (lower i d within rest) = inr (i, d, within, inl refl, rest)
from-cases trace from z (upper i d within rest) = inr (i, d, within, inr refl, rest)

-- nothing but the whole has the whole as a part
whole-from : (trace : List CutAt) (from : ℕ) → ComesFrom trace from 0 → from ≡ 0
whole-from trace from comes = elim (from-cases trace from 0 comes) [
  | inl same ↦ sym same
  | inr part ↦ elim part.3 [ inl odd ↦ absurd (omega (arith, odd)) | inr even ↦ absurd (omega (arith, even)) ]
]

-- zone 1 does not follow zone 2: cutting zone 2 first is not the order of classes
one_not_from_two : ComesFrom lower_first 2 1 → ⊥
one_not_from_two comes = elim (from-cases lower_first 2 1 comes) [
  | inl same ↦ omega (arith, same)
  | inr part ↦
      let first : part.0 ≡ 0 = elim part.3 [ inl odd ↦ omega (arith, odd) | inr even ↦ absurd (omega (arith, even)) ] in
      let whole : ComesFrom lower_first 2 0 = subst (λ i. ComesFrom lower_first 2 (get_or lower_first i part.1).zone)
      first part.4 in
      let none = whole-from lower_first 2 whole in
      omega (arith, none)
]

two_not_before_one : ZoneComesBefore lower_first 2 1 → ⊥
two_not_before_one before = elim (from-cases lower_first (2 * before.0 + 1) 2 before.2) [
  | inl same ↦ omega (arith, same)
  | inr part ↦
      let first : part.0 ≡ 0 = elim part.3 [ inl odd ↦ absurd (omega (arith, odd)) | inr even ↦ omega (arith, even) ] in
      let whole : ComesFrom lower_first (2 * before.0 + 1) 0 =
      subst (λ i. ComesFrom lower_first (2 * before.0 + 1) (get_or lower_first i part.1).zone) first part.4 in
      let none = whole-from lower_first (2 * before.0 + 1) whole in
      omega (arith, none)
]

-- in a zone whose first span has one class and the others two and three, the first cut is of the second span
abbrev three_spans : List Range
three_spans = range 1 1 ∷ range 0 1 ∷ range 2 4 ∷ []

second_span : IsFirstCut three_spans (record { zone = 0; span = 1; class = 0 })
second_span = record {
  span = record {
    there = omega arith;
    more = λ same. omega (arith, same);
    before = λ t less. let first : t ≡ 0 = omega (arith, less) in before t first;
  };
  class = refl;
} where
  before : (t : ℕ) → t ≡ 0 → (get_or three_spans t (range 0 0)).first ≡ (get_or three_spans t (range 0 0)).last
  before t first = subst (λ n. (get_or three_spans n (range 0 0)).first ≡ (get_or three_spans n (range 0 0)).last) (sym first)
      refl
