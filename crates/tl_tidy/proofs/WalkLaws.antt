-- What is so of the zones that are left is so of the whole, from the start of the walk to its end.
use Rattle.std.proofs.Common.{◌≡◌, ℕ, ◌+◌, ◌≤◌, List, [], ◌∷◌, ◌++◌, inl, inr, length, reverse, refl, sym, ap, ◌∙◌, subst, arith}
use Rattle.std.proofs.lemmas.List.{reverse-append}
use Rattle.tl_problem.specs.declared.placed.Placed.{Placed}
use Rattle.tl_problem.specs.declared.zone.Range.{Range}
use Rattle.tl_problem.specs.Problem.{ProblemModel}
use Rattle.tl_problem.specs.Sound.{IsSound}
use Rattle.tl_problem.specs.Zones.{range_at, IsZone, whole_zone, InZone, IsFirstOpen}
use Rattle.tl_problem.specs.Agreement.{HasOneClass, AgreeIn, LowIsHigh}
use Rattle.tl_problem.specs.Layouts.{WithinPage}
use Rattle.tl_problem.specs.Placements.{AreLeast, IsPlacement, IsPlacementIn}
use Rattle.tl_problem.proofs.BoundLaws.{bound-below_layout, low-from_high, placement-layout}
use Rattle.tl_problem.proofs.OneClass.{high-from_greatest, one_class-height}
use Rattle.tl_problem.proofs.SpanLaws.{class-in_page}
use Rattle.tl_problem.proofs.ZoneLaws.{whole-is_zone, whole-all, whole-vector}
use Rattle.tl_tidy.specs.Classes.{HoldsLow, IsChosen}
use Rattle.tl_tidy.specs.Needs.{first_part, rest_part, HasLowBound, IsTooHigh, ZoneHoldsLow, IsNeed, too_high, one_class, lower, both}
use Rattle.tl_tidy.specs.Needs.{IsNeedWithin, IsNeedAbove}
use Rattle.tl_tidy.specs.inner.Looks.{IsTightIn}
use Rattle.tl_tidy.specs.inner.Walk.{HoldsNone, IsFirstIn, IsFirstOf, AreNeeds, AreZones, IsLeft}
use Rattle.tl_tidy.proofs.BoundsExist.{decide-holds}
use Rattle.tl_tidy.proofs.NeedLaws.{cut-needs, need-exists}
use Rattle.tl_tidy.proofs.Parts.{first-zone, rest-zone, first-holds, rest-holds, parts-none, first-first, rest-first}
use Rattle.tl_tidy.proofs.Vectors.{holds-within, firsts, firsts-zone, one-first}

-- ---- zones that hold none, and zones of one class for each span

module _ (problem : ProblemModel) (sound : IsSound problem) (height : ℕ) where
  -- a zone that is too high holds no layout that is low enough
  pub high-none : (zone : List Range) → IsTooHigh problem height zone → HoldsNone problem height zone
  high-none zone (inl none) holds = none holds.widths holds.among
  high-none zone (inr high) holds =
      let below = bound-below_layout problem sound (InZone problem zone) high.0 holds.widths holds.heights high.1 holds.among
      holds.layout in
      omega (arith, below, high.2, holds.low)

  -- a placement that is no higher is a layout that is low enough
  pub placement-holds : (placed : Placed) → IsPlacement problem placed → placed.height ≤ height →
      HoldsLow problem height (WithinPage problem)
  placement-holds placed is low = record {
    widths = placed.widths;
    heights = placed.heights;
    among = is.page;
    layout = placement-layout problem sound placed is;
    low = omega (arith, is.height, low);
  }

  pub whole-holds : HoldsLow problem height (WithinPage problem) → ZoneHoldsLow problem height (whole_zone problem)
  whole-holds = holds-within problem height (WithinPage problem) (InZone problem (whole_zone problem))
      (whole-all problem sound)

module _ (problem : ProblemModel) (sound : IsSound problem) (same : LowIsHigh problem) where
  -- where `low` is `high`, they agree in each zone
  agree-in : (zone : List Range) → IsZone problem zone → AgreeIn problem zone
  agree-in zone is s w cell there width has spans = same cell has w (omega (
    arith,
    width.1,
    class-in_page problem sound s (range_at zone s).last (is.ranges s there).1,
  ))

  module _ (height : ℕ) (zone : List Range) (is : IsZone problem zone) (one : HasOneClass zone) where
    pub one-holds : HasLowBound problem height zone → ZoneHoldsLow problem height zone
    one-holds low =
        let some = low.1.some in
        let rows = low.1.least.attained in
        let high = high-from_greatest problem sound zone is one (agree-in zone is) some.0 rows.0 some.1 rows.1 in
        record {
          widths = some.0;
          heights = rows.0;
          among = some.1;
          layout = record { page = some.1.page; enough = low-from_high problem sound some.0 rows.0 high };
          low = omega (arith, rows.2, low.2);
        }

    -- a placement in it is as high as its bound
    pub one-height : HasLowBound problem height zone → (placed : Placed) → IsPlacementIn problem (InZone problem zone) placed →
        placed.height ≤ height
    one-height low placed in_zone =
        let exact = one_class-height problem sound zone is one (agree-in zone is) placed.widths placed.heights low.0
        in_zone.columns.kind in_zone.placement.rows low.1 in
        omega (arith, exact, in_zone.placement.height, low.2)

-- ---- the walk

module _ (problem : ProblemModel) (sound : IsSound problem) (height : ℕ) where
  pub left-start : IsLeft problem height 0 (whole_zone problem ∷ [])
  left-start = record { are = (whole-is_zone problem, tt); choice = choice; needs = needs; none = λ each. each.0 } where
    choice : (vector : List ℕ) → IsFirstOf problem height (whole_zone problem ∷ []) vector →
        IsFirstIn problem height (whole_zone problem) vector
    choice vector (inl first) = first
    choice vector (inr later) = absurd (later.1)

    needs : (need : ℕ) → AreNeeds problem height (whole_zone problem ∷ []) need →
        IsNeed problem height (whole_zone problem) (0 + need)
    needs need are =
        elim (are.2) [
          | inl found ↦ subst (IsNeed problem height (whole_zone problem)) (omega (arith, found.1)) are.1
          | inr none ↦ subst (IsNeed problem height (whole_zone problem)) (omega (arith, none.1.1, none.1.2)) are.1
        ]

  module _ (cuts : ℕ) (zone : List Range) (zones : List (List Range)) (left : IsLeft problem height cuts (zone ∷ zones)) where
    -- a zone that is too high is left
    pub left-high : IsTooHigh problem height zone → IsLeft problem height cuts zones
    left-high high = let none = high-none problem sound height zone high in record {
      are = left.are.1;
      choice = λ vector first. left.choice vector (inr (none, first));
      needs = λ need are. left.needs need (0, too_high high, inr (none, (need, are, omega arith)));
      none = λ each. left.none (none, each);
    }

    module _ (s : ℕ) (opens : IsFirstOpen zone s) (low : HasLowBound problem height zone) where
      choice-cut : (vector : List ℕ) → IsFirstOf problem height (first_part zone s ∷ rest_part zone s ∷ zones) vector →
          IsFirstIn problem height (whole_zone problem) vector
      choice-cut vector (inl first) =
          left.choice vector (inl (first-first problem sound height zone left.are.0 s opens vector first))
      choice-cut vector (inr (none, inl rest)) =
          left.choice vector (inl (rest-first problem sound height zone left.are.0 s opens vector none rest))
      choice-cut vector (inr (none, inr (neither, later))) =
          left.choice vector (inr (parts-none problem sound height zone left.are.0 s opens none neither, later))

      needs-cut : (need : ℕ) → AreNeeds problem height (first_part zone s ∷ rest_part zone s ∷ zones) need →
          IsNeed problem height (whole_zone problem) (cuts + 1 + need)
      needs-cut need (own, is, inl (holds, same)) =
          subst (IsNeed problem height (whole_zone problem)) (omega (arith, same)) (left.needs (1 + own)
          (1 + own, lower s low opens holds is, inl (first-holds problem sound height zone left.are.0 s opens holds, refl)))
      needs-cut need (own, is, inr (none, (later, (other, also, inl (holds, same)), sum))) =
          subst (IsNeed problem height (whole_zone problem)) (omega (arith, same, sum)) (left.needs (1 + own + other) (
            1 + own + other,
            both s low opens none is also,
            inl (rest-holds problem sound height zone left.are.0 s opens holds, refl),
          ))
      needs-cut need (own, is, inr (none, (later, (other, also, inr (neither, (more, are, rest))), sum))) =
          subst (IsNeed problem height (whole_zone problem)) (omega (arith, rest, sum)) (left.needs (1 + own + other + more) (
            1 + own + other,
            both s low opens none is also,
            inr (parts-none problem sound height zone left.are.0 s opens none neither, (more, are, refl)),
          ))

      -- a zone that is cut has its parts for it
      pub left-cut : IsLeft problem height (cuts + 1) (first_part zone s ∷ rest_part zone s ∷ zones)
      left-cut = record {
        are = (
          first-zone problem sound height zone left.are.0 s opens,
          (rest-zone problem sound height zone left.are.0 s opens, left.are.1),
        );
        choice = choice-cut;
        needs = needs-cut;
        none = λ each. left.none (
          parts-none problem sound height zone left.are.0 s opens each.0 each.1.0,
          each.1.1,
        );
      }

      -- at a zone that is to be cut the need is above the cuts that were made
      pub left-above : IsNeedAbove problem height cuts
      left-above =
          let all = all-needs (zone ∷ zones) left.are in
          let some = cut-needs problem height {need = all.1.0} all.1.1 low s opens in (
            cuts + all.0,
            left.needs all.0 all.1,
            elim (all.1.2) [
              | inl found ↦ omega (arith, some, found.1)
              | inr none ↦ omega (arith, some, none.1.2)
            ],
          ) where
            all-needs : (each : List (List Range)) → AreZones problem each → (need : ℕ) × AreNeeds problem height each need
            all-needs [] are = (0, refl)
            all-needs (first ∷ rest) are =
                let own = need-exists problem sound height first are.0 in
                elim (decide-holds problem height first) [
                  | inl holds ↦ (own.0, (own.0, own.1, inl (holds, refl)))
                  | inr none ↦
                      let later = all-needs rest are.1 in
                      (own.0 + later.0, (own.0, own.1, inr (none, (later.0, later.1, refl))))
                ]

    -- ---- the end at a zone of one class for each span

    module _ (one : HasOneClass zone) (holds : ZoneHoldsLow problem height zone) where
      pub left-within : (quota : ℕ) → cuts ≤ quota → IsNeedWithin problem height quota
      left-within quota few = (cuts + 0, left.needs 0 (0, one_class one, inl (holds, refl)), omega (arith, few))

      pub left-chosen : (placed : Placed) → IsTightIn problem zone placed → IsChosen problem height placed
      left-chosen placed is =
          let first = left.choice (firsts zone) (inl (one-first problem zone left.are.0 height one holds)) in
          record {
            vector = firsts zone;
            chosen = record {
              low = first.low;
              first = λ other low. first.first other (whole-vector problem other low.vectors) low;
            };
            widths = is.widths;
            least = subst (λ z. AreLeast problem.spacing.gap (InZone problem z) is.widths) (sym (firsts-zone zone one)) is.least;
            tight = is.tight;
          }

-- some zone is left at the end, if some layout is low enough
pub left-end : (problem : ProblemModel) → IsSound problem → (height cuts : ℕ) (items : List (List Range)) → length items ≡ 0 →
    IsLeft problem height cuts (reverse items) → HoldsLow problem height (WithinPage problem) → ⊥
left-end problem sound height cuts [] none left holds = left.none tt (whole-holds problem sound height holds)
left-end problem sound height cuts (zone ∷ zones) none left holds = absurd (omega (arith, none))

-- ---- the stack, whose last zone is the next

pub next-first : (items rest : List (List Range)) (zone : List Range) → items ≡ rest ++ zone ∷ [] →
    reverse items ≡ zone ∷ reverse rest
next-first items rest zone same = ap reverse same ∙ reverse-append rest (zone ∷ [])

pub both-first : (items rest : List (List Range)) (second first : List Range) →
    items ≡ (rest ++ second ∷ []) ++ first ∷ [] → reverse items ≡ first ∷ second ∷ reverse rest
both-first items rest second first same =
    next-first items (rest ++ second ∷ []) first same ∙ ap (λ zones. first ∷ zones)
    (next-first (rest ++ second ∷ []) rest second refl)
