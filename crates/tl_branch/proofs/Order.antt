-- In which order zones come is an order: none comes before one that comes before it. So what a search in the order of
-- classes has passed stays as it is.
use Rattle.std.proofs.Common.{◌≡◌, ℕ, ◌+◌, ◌*◌, ◌<◌, ◌≤◌, ◌⊎◌, List, inl, inr, length, get_or, take, refl, sym, subst, arith}
use Rattle.std.proofs.Common.{length-take}
use Rattle.std.proofs.lemmas.Bool.{cases_lt}
use Rattle.std.proofs.lemmas.List.{get_or-take, get_or_default}
use Rattle.tl_problem.specs.Problem.{ProblemModel}
use Rattle.tl_problem.specs.Zones.{whole_zone}
use Rattle.tl_cert.specs.declared.trace.CutAt.{CutAt}
use Rattle.tl_cert.specs.Learnt.{StandsBefore}
use Rattle.tl_cert.specs.Traces.{Stands, IsTraceOf}
use Rattle.tl_cert.specs.ZoneOrders.{AtEachCut, ComesFrom, itself, lower, upper, ZoneComesBefore}
use Rattle.tl_cert.proofs.CutParts.{has-parts}
use Rattle.tl_solve.specs.Orders.{IsInClassOrder}

-- what comes from a zone among the first cuts comes from it among all
pub from-take : (trace : List CutAt) (n : ℕ) {a b : ℕ} → ComesFrom (take n trace) a b → ComesFrom trace a b
from-take trace n itself = itself
from-take trace n {a} (lower i d within rest) =
    let short = length-take n trace in
    lower i d (omega (arith, within, short)) (subst (λ (c : CutAt). ComesFrom trace a c.zone)
    (get_or-take n trace i d (omega (arith, within, short))) (from-take trace n rest))
from-take trace n {a} (upper i d within rest) =
    let short = length-take n trace in
    upper i d (omega (arith, within, short)) (subst (λ (c : CutAt). ComesFrom trace a c.zone)
    (get_or-take n trace i d (omega (arith, within, short))) (from-take trace n rest))

pub before-take : (trace : List CutAt) (n : ℕ) (a b : ℕ) → ZoneComesBefore (take n trace) a b → ZoneComesBefore trace a b
before-take trace n a b before = (
  before.0,
  omega (arith, before.1, length-take n trace),
  from-take trace n before.2,
  from-take trace n before.3,
)

module _ (problem : ProblemModel) (trace : List CutAt) (is : IsTraceOf problem trace) where
  cut-before : (i : ℕ) (d : CutAt) → i < length trace → (get_or trace i d).zone < 2 * i + 1
  cut-before i d within = (has-parts (whole_zone problem) trace is i d within).before

  pub from-less : {a b : ℕ} → ComesFrom trace a b → a ≤ b
  from-less itself = omega arith
  from-less (lower i d within rest) =
      let less = from-less rest in
      let before = cut-before i d within in
      omega (arith, less, before)
  from-less (upper i d within rest) =
      let less = from-less rest in
      let before = cut-before i d within in
      omega (arith, less, before)

  -- it comes from itself, or as a part of a cut
  abbrev IsPart : ℕ → ℕ → Type 0
  IsPart a c = (i : ℕ) × (i < length trace) × ((c ≡ 2 * i + 1) ⊎ (c ≡ 2 * i + 2)) ×
      ((d : CutAt) → ComesFrom trace a (get_or trace i d).zone)

  from-cases : {a c : ℕ} → ComesFrom trace a c → (a ≡ c) ⊎ IsPart a c
  from-cases itself = inl refl
  from-cases {a} (lower i d within rest) = inr (
    i,
    within,
    inl refl,
    λ e. subst (λ (c : CutAt). ComesFrom trace a c.zone) (get_or_default trace i d e within) rest,
  )
  from-cases {a} (upper i d within rest) = inr (
    i,
    within,
    inr refl,
    λ e. subst (λ (c : CutAt). ComesFrom trace a c.zone) (get_or_default trace i d e within) rest,
  )

  -- what comes to be as a part of a cut comes from the zone that was cut
  part-up : (a j part : ℕ) (d : CutAt) → j < length trace → (part ≡ 2 * j + 1) ⊎ (part ≡ 2 * j + 2) → a < part →
      ComesFrom trace a part → ComesFrom trace a (get_or trace j d).zone
  part-up a j part d within is_part less from = elim (from-cases from) [
    | inl same ↦ absurd (omega (arith, same, less))
    | inr p ↦
        let here : p.0 ≡ j = elim is_part [
          | inl low ↦ elim p.2 [ inl e ↦ omega (arith, low, e) | inr e ↦ absurd (omega (arith, low, e)) ]
          | inr high ↦ elim p.2 [ inl e ↦ absurd (omega (arith, high, e)) | inr e ↦ omega (arith, high, e) ]
        ] in
        subst (λ (n : ℕ). ComesFrom trace a (get_or trace n d).zone) here (p.3 d)
  ]

  -- of two zones from which a third comes, the later comes from the earlier
  pub from-chain : (a b : ℕ) {c : ℕ} → ComesFrom trace a c → ComesFrom trace b c → a ≤ b → ComesFrom trace a b
  from-chain a b first itself less = first
  from-chain a b first (lower i d within rest) less =
      let below = from-less rest in
      let before = cut-before i d within in
      from-chain a b (part-up a i (2 * i + 1) d within (inl refl) (omega (arith, below, before, less)) first) rest less
  from-chain a b first (upper i d within rest) less =
      let below = from-less rest in
      let before = cut-before i d within in
      from-chain a b (part-up a i (2 * i + 2) d within (inr refl) (omega (arith, below, before, less)) first) rest less

  -- nothing comes from both parts of a cut
  pub parts-apart : (i : ℕ) (d : CutAt) → i < length trace → {z : ℕ} → ComesFrom trace (2 * i + 1) z →
      ComesFrom trace (2 * i + 2) z → ⊥
  parts-apart i d within low high =
      let chain = from-chain (2 * i + 1) (2 * i + 2) low high (omega arith) in
      let up = from-less (part-up (2 * i + 1) i (2 * i + 2) d within (inr refl) (omega arith) chain) in
      let before = cut-before i d within in
      omega (arith, up, before)

  -- two cuts do not separate two zones in different orders
  apart-later : (i j : ℕ) (d : CutAt) → i < length trace → j < length trace → i < j → {a b : ℕ} →
      ComesFrom trace (2 * i + 1) a → ComesFrom trace (2 * i + 2) b → ComesFrom trace (2 * j + 1) b →
      ComesFrom trace (2 * j + 2) a → ⊥
  apart-later i j d within_i within_j less from_a from_b low high =
      let one = part-up (2 * i + 1) j (2 * j + 2) d within_j (inr refl) (omega (arith, less))
      (from-chain (2 * i + 1) (2 * j + 2) from_a high (omega (arith, less))) in
      let other = part-up (2 * i + 2) j (2 * j + 1) d within_j (inl refl) (omega (arith, less))
      (from-chain (2 * i + 2) (2 * j + 1) from_b low (omega (arith, less))) in
      parts-apart i d within_i one other

  apart-earlier : (i j : ℕ) (d : CutAt) → i < length trace → j < length trace → j < i → {a b : ℕ} →
      ComesFrom trace (2 * i + 1) a → ComesFrom trace (2 * i + 2) b → ComesFrom trace (2 * j + 1) b →
      ComesFrom trace (2 * j + 2) a → ⊥
  apart-earlier i j d within_i within_j less from_a from_b low high =
      let one = part-up (2 * j + 2) i (2 * i + 1) d within_i (inl refl) (omega (arith, less))
      (from-chain (2 * j + 2) (2 * i + 1) high from_a (omega (arith, less))) in
      let other = part-up (2 * j + 1) i (2 * i + 2) d within_i (inr refl) (omega (arith, less))
      (from-chain (2 * j + 1) (2 * i + 2) low from_b (omega (arith, less))) in
      parts-apart j d within_j other one

  pub before-asym : (a b : ℕ) → ZoneComesBefore trace a b → ZoneComesBefore trace b a → ⊥
  before-asym a b first second =
      let d : CutAt = record { zone = 0; span = 0; class = 0 } in
      let i = first.0 in
      let j = second.0 in
      elim (cases_lt i j) [
        | inl less ↦ apart-later i j d first.1 second.1 less first.2 first.3 second.2 second.3
        | inr more ↦ elim (cases_lt j i) [
          | inl less ↦ apart-earlier i j d first.1 second.1 less first.2 first.3 second.2 second.3
          | inr most ↦
              let same : j ≡ i = omega (arith, more, most) in
              parts-apart i d first.1 first.2 (subst (λ (n : ℕ). ComesFrom trace (2 * n + 2) a) same second.3)
        ]
      ]

  -- no zone comes before one from which it comes
  pub before-above : (a b : ℕ) → ZoneComesBefore trace a b → ComesFrom trace b a → ⊥
  before-above a b before from =
      let d : CutAt = record { zone = 0; span = 0; class = 0 } in
      parts-apart before.0 d before.1 before.2 (next before.3 from) where
        next : {x y z : ℕ} → ComesFrom trace x y → ComesFrom trace y z → ComesFrom trace x z
        next one itself = one
        next one (lower i d within rest) = lower i d within (next one rest)
        next one (upper i d within rest) = upper i d within (next one rest)

  -- in the order of classes, a zone that comes before the one that is cut stays
  pub passed-stay : IsInClassOrder trace → AtEachCut (λ cuts cut. (z : ℕ) → StandsBefore cuts cut z → Stands trace z) trace
  passed-stay order i d within z passed =
      let short = length-take i trace in
      let cut = get_or trace i d in
      let before : ZoneComesBefore trace z cut.zone = before-take trace i z cut.zone passed.before in
      record {
        there = omega (arith, passed.stands.there, short);
        not_cut = λ j e inside same. elim (cases_lt j i) [
          | inl old ↦ passed.stands.not_cut j e (omega (arith, old, short, inside))
              (subst (λ (c : CutAt). c.zone ≡ z) (sym (get_or-take i trace j e old)) same)
          | inr new ↦
              let later : get_or trace j d ≡ get_or trace j e = get_or_default trace j d e inside in
              let is_z : (get_or trace j d).zone ≡ z = subst (λ (c : CutAt). c.zone ≡ z) (sym later) same in
              elim (cases_lt i j) [
                | inl less ↦ elim (order i j d less inside) [
                  | inl from ↦ before-above z cut.zone before (subst (ComesFrom trace cut.zone) is_z from)
                  | inr back ↦ before-asym z cut.zone before (subst (ZoneComesBefore trace cut.zone) is_z back)
                ]
                | inr most ↦
                    let here : j ≡ i = omega (arith, new, most) in
                    let same_zone : cut.zone ≡ z = subst (λ (n : ℕ). (get_or trace n d).zone ≡ z) here is_z in
                    before-asym z cut.zone before (subst (λ (n : ℕ). ZoneComesBefore trace n z) (sym same_zone)
                    (subst (λ (n : ℕ). ZoneComesBefore trace z n) same_zone before))
              ]
        ];
      }
