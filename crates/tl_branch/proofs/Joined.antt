-- Each zone that is cut has a line once both of its parts have one. So each zone that the search has passed has a line, those
-- that were cut too.
use Rattle.std.proofs.Common.{◌≡◌, ◌≢◌, ℕ, ◌+◌, ◌*◌, ◌<◌, ◌≤◌, ◌⊎◌, zero, suc, List, [], ◌∷◌, inl, inr, length, get_or}
use Rattle.std.proofs.Common.{Option, Some, None, sym, ap, ◌∙◌, subst, arith}
use Rattle.std.specs.List.{All}
use Rattle.std.specs.declared.vec.Vec.{Vec}
use Rattle.std.specs.declared.alloc.Global.{Global}
use Rattle.std.proofs.lemmas.Bool.{cases_lt}
use Rattle.std.proofs.lemmas.List.{get_or_past, get_or_append_left}
use Rattle.std.proofs.lemmas.List.Elements.{All-nil, All-cons}
use Rattle.tl_problem.specs.Problem.{ProblemModel}
use Rattle.tl_problem.specs.Zones.{whole_zone}
use Rattle.tl_problem.proofs.ZoneLaws.{cases_eq}
use Rattle.tl_cert.specs.declared.trace.CutAt.{CutAt}
use Rattle.tl_cert.specs.Traces.{IsTraceOf, IsZoneOf, Stands}
use Rattle.tl_cert.specs.ZoneOrders.{ComesFrom, lower, upper, ZoneComesBefore}
use Rattle.tl_cert.proofs.CutParts.{has-parts, no_cut}
use Rattle.tl_solve.specs.declared.arena.Arena.{Arena}
use Rattle.tl_branch.specs.declared.learning.Learning.{Learning}
use Rattle.tl_branch.specs.inner.Learnings.{HasLine, HasLineOfCut, AreJoinedBut, NoOtherLine, IsGrown, IsCutOff}

-- ---- as lines come

pub cut_line-grown : (l new : Learning) → IsGrown l new → (i : ℕ) → HasLineOfCut l i → HasLineOfCut new i
cut_line-grown l new grown i has d = subst (λ (arena : Arena). HasLine new.lines.items (get_or arena.trace i d).zone)
    (sym grown.arena) (grown.lines (get_or l.arena.trace i d).zone (has d))

-- a zone got a line: the zone of which it is a part may have one next, once that of which the last one was a part has it
pub joined-next : (l new : Learning) → IsGrown l new → (part zone : ℕ) → NoOtherLine zone l new → AreJoinedBut part l →
    ((i : ℕ) → i < length l.arena.trace → (part ≡ 2 * i + 1) ⊎ (part ≡ 2 * i + 2) → HasLineOfCut new i) →
    AreJoinedBut zone new
joined-next l new grown part zone alone joined done i within not_low not_high low high =
    let there : i < length l.arena.trace = subst (λ (arena : Arena). i < length arena.trace) grown.arena within in
    elim (cases_eq part (2 * i + 1)) [
      | inl same ↦ done i there (inl same)
      | inr apart_low ↦ elim (cases_eq part (2 * i + 2)) [
        | inl same ↦ done i there (inr same)
        | inr apart_high ↦ cut_line-grown l new grown i (joined i there apart_low apart_high
            (alone (2 * i + 1) (λ same. not_low (sym same)) low) (alone (2 * i + 2) (λ same. not_high (sym same)) high))
      ]
    ]

-- the first line after which all are joined
pub joined-first : (l new : Learning) → IsGrown l new → (zone : ℕ) → NoOtherLine zone l new → AreJoinedBut 0 l →
    AreJoinedBut zone new
joined-first l new grown zone alone joined = joined-next l new grown 0 zone alone joined (λ i within part. elim part [
  | inl low ↦ absurd (omega (arith, low))
  | inr high ↦ absurd (omega (arith, high))
])

-- all are joined where the last one is
pub joined-all : (l : Learning) (part number : ℕ) → (part ≡ 2 * number + 1) ⊎ (part ≡ 2 * number + 2) → AreJoinedBut part l →
    (HasLine l.lines.items (2 * number + 1) → HasLine l.lines.items (2 * number + 2) → HasLineOfCut l number) →
    AreJoinedBut 0 l
joined-all l part number is_part joined last i within not_low not_high low high = elim (cases_eq i number) [
  | inl same ↦ subst (HasLineOfCut l) (sym same) (last (subst (λ (n : ℕ). HasLine l.lines.items (2 * n + 1)) same low)
      (subst (λ (n : ℕ). HasLine l.lines.items (2 * n + 2)) same high))
  | inr apart ↦ joined i within
      (λ same. apart (elim is_part [ inl e ↦ omega (arith, e, same) | inr e ↦ absurd (omega (arith, e, same)) ]))
      (λ same. apart (elim is_part [ inl e ↦ absurd (omega (arith, e, same)) | inr e ↦ omega (arith, e, same) ])) low high
]

-- the same lines of the same cuts
pub joined-same : (l new : Learning) (part : ℕ) → new.arena ≡ l.arena → new.lines ≡ l.lines → AreJoinedBut part l →
    AreJoinedBut part new
joined-same l new part arena lines joined i within not_low not_high low high d =
    let has = λ (z : ℕ) (h : HasLine new.lines.items z). subst (λ (ls : Vec (Option ℕ) Global). HasLine ls.items z) lines h in
    let was = joined i (subst (λ (a : Arena). i < length a.trace) arena within) not_low not_high (has (2 * i + 1) low)
    (has (2 * i + 2) high) d in
    subst (λ (ls : Vec (Option ℕ) Global). HasLine ls.items (get_or new.arena.trace i d).zone) (sym lines)
    (subst (λ (a : Arena). HasLine l.lines.items (get_or a.trace i d).zone) (sym arena) was)

-- ---- as cuts come

pub line-within : (lines : List (Option ℕ)) (z : ℕ) → HasLine lines z → z < length lines
line-within lines z has = elim (cases_lt z (length lines)) [
  | inl within ↦ within
  | inr past ↦ let never : None ≡ Some (has.0) = sym (get_or_past lines z None past) ∙ has.1 in absurd cc
]

-- the parts of a further cut have no lines yet
pub joined-cut : (l new : Learning) (cut : CutAt) → length l.lines.items ≡ 2 * length l.arena.trace + 1 → IsCutOff l new cut →
    AreJoinedBut 0 l → AreJoinedBut 0 new
joined-cut l new cut count off joined i within not_low not_high low high d =
    let old_low = off.no_more (2 * i + 1) low in
    let old_high = off.no_more (2 * i + 2) high in
    let there : i < length l.arena.trace = omega (arith, line-within l.lines.items (2 * i + 1) old_low, count) in
    let has = joined i there not_low not_high old_low old_high d in
    let same : get_or new.arena.trace i d ≡ get_or l.arena.trace i d = ap (λ (t : List CutAt). get_or t i d) off.trace
    ∙ get_or_append_left l.arena.trace (cut ∷ []) d i there in
    subst (λ (c : CutAt). HasLine new.lines.items c.zone) (sym same) (off.lines (get_or l.arena.trace i d).zone has)

-- ---- what the search has passed

cut-of : (cuts : List CutAt) (z : ℕ) →
    All (λ cut. cut.zone ≢ z) cuts ⊎ ((i : ℕ) × (i < length cuts) × ((get_or cuts i no_cut).zone ≡ z))
cut-of [] z = inl (All-nil (λ (cut : CutAt). cut.zone ≢ z))
cut-of (cut ∷ cuts) z = elim (cases_eq cut.zone z) [
  | inl same ↦ inr (0, omega arith, same)
  | inr apart ↦ elim (cut-of cuts z) [
    | inl none ↦ inl (All-cons (λ (c : CutAt). c.zone ≢ z) cut cuts apart none)
    | inr some ↦ inr (suc some.0, omega (arith, some.1), some.2)
  ]
]

module _ (problem : ProblemModel) (l : Learning) (is : IsTraceOf problem l.arena.trace) (joined : AreJoinedBut 0 l) (top : ℕ)
    (standing : (z : ℕ) → Stands l.arena.trace z → ZoneComesBefore l.arena.trace z top → HasLine l.lines.items z) where
  abbrev trace : List CutAt
  trace = l.arena.trace

  by-parts : (fuel z : ℕ) → 2 * length trace + 1 ≤ z + fuel → IsZoneOf trace z → ZoneComesBefore trace z top →
      HasLine l.lines.items z
  by-parts zero z much there before = absurd (omega (arith, much, there))
  by-parts (suc fuel) z much there before = elim (cut-of trace z) [
    | inl none ↦ standing z (record { there = there; not_cut = none }) before
    | inr some ↦
        let i = some.0 in
        let past = (has-parts (whole_zone problem) trace is i no_cut some.1).before in
        let from : ComesFrom trace (2 * before.0 + 1) (get_or trace i no_cut).zone =
        subst (ComesFrom trace (2 * before.0 + 1)) (sym some.2) before.2 in
        let low = by-parts fuel (2 * i + 1) (omega (arith, much, past, some.2)) (omega (arith, some.1))
        (before.0, before.1, lower i no_cut some.1 from, before.3) in
        let high = by-parts fuel (2 * i + 2) (omega (arith, much, past, some.2)) (omega (arith, some.1))
        (before.0, before.1, upper i no_cut some.1 from, before.3) in
        subst (HasLine l.lines.items) some.2
        (joined i some.1 (λ same. omega (arith, same)) (λ same. omega (arith, same)) low high no_cut)
  ]

  -- each zone that comes before the top has a line
  pub passed-lined : (z : ℕ) → IsZoneOf l.arena.trace z → ZoneComesBefore l.arena.trace z top → HasLine l.lines.items z
  passed-lined z there before = by-parts (2 * length trace + 1) z (omega arith) there before
