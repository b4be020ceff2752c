-- Each zone of a sound problem has one need, and the need of the whole is below the number of its class vectors. And a
-- problem has one chosen placement.
use Rattle.std.proofs.Common.{◌≡◌, ℕ, ◌+◌, ◌-◌, ◌^◌, ◌<◌, ◌≤◌, zero, suc, List, [], ◌∷◌, ◌⊎◌, inl, inr, length, get_or}
use Rattle.std.proofs.Common.{refl, sym, ◌∙◌, subst, arith}
use Rattle.std.proofs.lemmas.Bool.{cases_lt, cases_eq}
use Rattle.tl_problem.specs.declared.placed.Placed.{Placed}
use Rattle.tl_problem.specs.declared.zone.Range.{Range}
use Rattle.tl_problem.specs.Problem.{ProblemModel}
use Rattle.tl_problem.specs.Sound.{IsSound}
use Rattle.tl_problem.specs.Spans.{count_of}
use Rattle.tl_problem.specs.Zones.{range, range_at, IsZone, whole_zone, InZone, IsFirstOpen}
use Rattle.tl_problem.specs.Agreement.{HasOneClass}
use Rattle.tl_problem.specs.Tight.{IsTightFrom}
use Rattle.tl_problem.specs.Placements.{AreLeast}
use Rattle.tl_problem.proofs.BoundLaws.{bound-unique}
use Rattle.tl_problem.proofs.TightLaws.{least-unique, tight-unique}
use Rattle.tl_problem.proofs.ZoneLaws.{whole-is_zone}
use Rattle.tl_problem.proofs.ZoneSizes.{size, size-cut, size-whole, zone-some}
use Rattle.tl_tidy.specs.Classes.{zone_of_vector, IsChosen}
use Rattle.tl_tidy.specs.Needs.{first_part, rest_part, HasLowBound, IsTooHigh, ZoneHoldsLow, IsNeed, too_high, one_class, lower, both}
use Rattle.tl_tidy.proofs.BoundsExist.{low-or_high, decide-holds}
use Rattle.tl_tidy.proofs.Parts.{some-classes, first-zone, rest-zone}
use Rattle.tl_tidy.proofs.Vectors.{before-once}

-- ---- how many vectors the parts of a zone have

module _ (problem : ProblemModel) (sound : IsSound problem) (zone : List Range) (is : IsZone problem zone) (s : ℕ)
    (opens : IsFirstOpen zone s) where
  sizes-of_parts : size (first_part zone s) + size (rest_part zone s) ≡ size zone
  sizes-of_parts = let more = some-classes problem sound 0 zone is s opens in
      size-cut zone s (range_at zone s).first opens.there (omega arith) (omega (arith, more))

-- ---- a zone has one need

-- there is one first span of more than one class
open-once : (zone : List Range) (s t : ℕ) → IsFirstOpen zone s → IsFirstOpen zone t → s ≡ t
open-once zone s t one other =
    elim (cases_lt s t) [
      | inl less ↦ absurd (one.more (other.before s less))
      | inr more ↦ elim (cases_lt t s) [
        | inl above ↦ absurd (other.more (one.before t above))
        | inr last ↦ omega (arith, more, last)
      ]
    ]

-- one class for each span, or a first span of more
one-or_open : (zone : List Range) → HasOneClass zone ⊎ ((s : ℕ) × IsFirstOpen zone s)
one-or_open [] = inl (λ k d within. absurd (omega (arith, within)))
one-or_open (r ∷ zone) =
    elim (cases_eq r.first r.last) [
      | inr more ↦ inr (0, record { there = omega arith; more = more; before = λ t less. absurd (omega (arith, less)) })
      | inl same ↦ elim (one-or_open zone) [
        | inl one ↦ inl (all_one same one)
        | inr opens ↦ inr (
          suc opens.0,
          record {
            there = omega (arith, opens.1.there);
            more = opens.1.more;
            before = all_before same opens.0 opens.1;
          },
        )
      ]
    ] where
      all_one : r.first ≡ r.last → HasOneClass zone → (k : ℕ) (d : Range) → k < length (r ∷ zone) →
          (get_or (r ∷ zone) k d).first ≡ (get_or (r ∷ zone) k d).last
      all_one same one zero d within = same
      all_one same one (suc k) d within = one k d (omega arith)

      all_before : r.first ≡ r.last → (s : ℕ) → IsFirstOpen zone s → (t : ℕ) → t < suc s →
          (range_at (r ∷ zone) t).first ≡ (range_at (r ∷ zone) t).last
      all_before same s opens zero less = same
      all_before same s opens (suc t) less = opens.before t (omega arith)

module _ (problem : ProblemModel) (height : ℕ) where
  low-and_high : (zone : List Range) → HasLowBound problem height zone → IsTooHigh problem height zone → ⊥
  low-and_high zone low (inl none) = none low.1.some.0 low.1.some.1
  low-and_high zone low (inr high) =
      let same = bound-unique problem (InZone problem zone) low.0 high.0 low.1 high.1 in
      omega (arith, same, low.2, high.2)

  one-and_open : (zone : List Range) (s : ℕ) → HasOneClass zone → IsFirstOpen zone s → ⊥
  one-and_open zone s one opens = opens.more (one s (range 0 0) opens.there)

  -- why a zone that is cut has its need
  record WhyCut (zone : List Range) (s need : ℕ) : Type 0 where
    own : ℕ
    is : IsNeed problem height (first_part zone s) own
    rest : (ZoneHoldsLow problem height (first_part zone s) × (need ≡ 1 + own))
        ⊎ ((ZoneHoldsLow problem height (first_part zone s) → ⊥) ×
        ((later : ℕ) × IsNeed problem height (rest_part zone s) later × (need ≡ 1 + own + later)))

  cut-why : {zone : List Range} {need : ℕ} → IsNeed problem height zone need → HasLowBound problem height zone → (s : ℕ) →
      IsFirstOpen zone s → WhyCut zone s need
  cut-why {zone = zone} (too_high high) low s opens = absurd (low-and_high zone low high)
  cut-why {zone = zone} (one_class one) low s opens = absurd (one-and_open zone s one opens)
  cut-why {zone = zone} (lower {n = n} t bound first holds is) low s opens =
      subst (λ u. WhyCut zone u (1 + n)) (open-once zone t s first opens)
      (record { own = n; is = is; rest = inl (holds, refl) })
  cut-why {zone = zone} (both {n = n} {m = m} t bound first none is later) low s opens =
      subst (λ u. WhyCut zone u (1 + n + m)) (open-once zone t s first opens)
      (record { own = n; is = is; rest = inr (none, (m, later, refl)) })

  -- a zone that is cut needs a cut
  pub cut-needs : {zone : List Range} {need : ℕ} → IsNeed problem height zone need → HasLowBound problem height zone → (s : ℕ) →
      IsFirstOpen zone s → 0 < need
  cut-needs is low s opens = let why = cut-why is low s opens in
      elim (why.rest) [ inl found ↦ omega (arith, found.1) | inr none ↦ omega (arith, none.1.2) ]

  -- a zone that is too high, or has one class for each span, needs none
  high-needs : {zone : List Range} {need : ℕ} → IsNeed problem height zone need → IsTooHigh problem height zone → 0 ≡ need
  high-needs (too_high other) high = refl
  high-needs (one_class one) high = refl
  high-needs {zone = zone} (lower t bound first holds is) high = absurd (low-and_high zone bound high)
  high-needs {zone = zone} (both t bound first none is later) high = absurd (low-and_high zone bound high)

  one-needs : {zone : List Range} {need : ℕ} → IsNeed problem height zone need → HasOneClass zone → 0 ≡ need
  one-needs (too_high other) one = refl
  one-needs (one_class other) one = refl
  one-needs {zone = zone} (lower t bound first holds is) one = absurd (one-and_open zone t one first)
  one-needs {zone = zone} (both t bound first none is later) one = absurd (one-and_open zone t one first)

  pub need-unique : {zone : List Range} {need : ℕ} → IsNeed problem height zone need → (other : ℕ) →
      IsNeed problem height zone other → need ≡ other
  need-unique (too_high high) other also = high-needs also high
  need-unique (one_class one) other also = one-needs also one
  need-unique (lower s low first holds is) other also =
      let why = cut-why also low s first in
      let same = need-unique is why.own why.is in
      elim (why.rest) [ inl found ↦ omega (arith, same, found.1) | inr none ↦ absurd (none.0 holds) ]
  need-unique (both s low first none is later) other also =
      let why = cut-why also low s first in
      let same = need-unique is why.own why.is in
      elim (why.rest) [
        | inl found ↦ absurd (none found.0)
        | inr rest ↦ let last = need-unique later rest.1.0 rest.1.1 in omega (arith, same, last, rest.1.2)
      ]

-- ---- each zone has a need

module _ (problem : ProblemModel) (sound : IsSound problem) (height : ℕ) where
  need-upto : (most : ℕ) (zone : List Range) → IsZone problem zone → size zone ≤ most →
      (need : ℕ) × IsNeed problem height zone need
  need-upto zero zone is few = absurd (omega (arith, few, zone-some problem zone is))
  need-upto (suc most) zone is few =
      elim (low-or_high problem sound height zone) [
        | inr high ↦ (0, too_high high)
        | inl low ↦ elim (one-or_open zone) [
          | inl one ↦ (0, one_class one)
          | inr opens ↦
              let s = opens.0 in
              let sizes = sizes-of_parts problem sound zone is s opens.1 in
              let first = first-zone problem sound height zone is s opens.1 in
              let rest = rest-zone problem sound height zone is s opens.1 in
              let own = need-upto most (first_part zone s) first
              (omega (arith, few, sizes, zone-some problem (rest_part zone s) rest)) in
              elim (decide-holds problem height (first_part zone s)) [
                | inl holds ↦ (1 + own.0, lower s low opens.1 holds own.1)
                | inr none ↦
                    let later = need-upto most (rest_part zone s) rest
                    (omega (arith, few, sizes, zone-some problem (first_part zone s) first)) in
                    (1 + own.0 + later.0, both s low opens.1 none own.1 later.1)
              ]
        ]
      ]

  pub need-exists : (zone : List Range) → IsZone problem zone → (need : ℕ) × IsNeed problem height zone need
  need-exists zone is = need-upto (size zone) zone is (omega arith)

  -- ---- fewer cuts than vectors

  need-below : {zone : List Range} {need : ℕ} → IsNeed problem height zone need → IsZone problem zone → need < size zone
  need-below {zone = zone} (too_high high) is = omega (arith, zone-some problem zone is)
  need-below {zone = zone} (one_class one) is = omega (arith, zone-some problem zone is)
  need-below {zone = zone} (lower s low first holds own) is =
      let fewer = need-below own (first-zone problem sound height zone is s first) in
      let rest = zone-some problem (rest_part zone s) (rest-zone problem sound height zone is s first) in
      omega (arith, fewer, rest, sizes-of_parts problem sound zone is s first)
  need-below {zone = zone} (both s low first none own later) is =
      let fewer = need-below own (first-zone problem sound height zone is s first) in
      let rest = need-below later (rest-zone problem sound height zone is s first) in
      omega (arith, fewer, rest, sizes-of_parts problem sound zone is s first)

  pub whole-below : (need : ℕ) → IsNeed problem height (whole_zone problem) need → need < 2 ^ 64 - 1 → need < count_of problem
  whole-below need is small =
      let fewer = need-below is (whole-is_zone problem) in
      omega (arith, fewer, size-whole problem, small)

  pub quota-below : (quota need : ℕ) → IsNeed problem height (whole_zone problem) need → quota < need → quota < 2 ^ 64 - 1 →
      quota < count_of problem
  quota-below quota need is above small =
      let fewer = need-below is (whole-is_zone problem) in
      omega (arith, fewer, size-whole problem, above, small)

-- ---- one chosen placement

pub chosen-unique : (problem : ProblemModel) (height : ℕ) (placed other : Placed) → IsChosen problem height placed →
    IsChosen problem height other → placed ≡ other
chosen-unique problem height placed other one two =
    let vectors : one.vector ≡ two.vector = elim (one.chosen.first two.vector two.chosen.low) [
      | inl same ↦ same
      | inr before ↦ elim (two.chosen.first one.vector one.chosen.low) [
        | inl same ↦ sym same
        | inr after ↦ absurd (before-once one.vector two.vector before after)
      ]
    ] in
    let least = subst (λ vector. AreLeast problem.spacing.gap (InZone problem (zone_of_vector vector)) one.widths)
    vectors one.least in
    let widths : one.widths ≡ two.widths = least-unique problem.spacing.gap (InZone problem (zone_of_vector two.vector))
    one.widths two.widths
    (least.kind.page.columns ∙ sym two.least.kind.page.columns) least two.least in
    tight-unique problem two.widths placed other (subst (λ w. IsTightFrom problem w placed) widths one.tight) two.tight
