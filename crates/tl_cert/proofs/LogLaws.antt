-- The soundness of a good log: each of its nogoods is true, and no layout by `low` is lower than what it is good for.
use Rattle.std.proofs.Common.{ℕ, ◌-◌, ◌<◌, ◌≤◌, zero, suc, List, [], ◌∷◌, ◌++◌, ◌⊎◌, inl, inr, length, get_or, map, Option, Some}
use Rattle.std.proofs.Common.{None, sym, subst, arith}
use Rattle.std.specs.List.{All, last_or}
use Rattle.std.specs.Option.{IsSomeAnd}
use Rattle.std.proofs.lemmas.Bool.{cases_lt}
use Rattle.std.proofs.lemmas.List.Elements.{All-nil, All-map, All-push, Contains-get_or}
use Rattle.tl_problem.specs.Problem.{ProblemModel, total_height}
use Rattle.tl_problem.specs.Layouts.{IsLayoutByLow}
use Rattle.tl_problem.specs.Sound.{IsSound}
use Rattle.tl_problem.specs.Zones.{span_width}
use Rattle.tl_problem.proofs.BoundLaws.{bound-below_layout}
use Rattle.tl_problem.proofs.AreaLaws.{area-below_layout}
use Rattle.tl_cert.specs.declared.log.Bound.{Bound}
use Rattle.tl_cert.specs.declared.log.Side.{Side}
use Rattle.tl_cert.specs.declared.log.Side.TheVariants.{Most, Least}
use Rattle.tl_cert.specs.declared.log.End.{End}
use Rattle.tl_cert.specs.declared.log.End.TheVariants.{Fired, Cycle, Chain, Area}
use Rattle.tl_cert.specs.declared.log.LogLine.{LogLine}
use Rattle.tl_cert.specs.declared.log.Nogood.TheVariants.{Zone}
use Rattle.tl_cert.specs.declared.trace.CutAt.{CutAt}
use Rattle.tl_cert.specs.Nogoods.{IsOnSide, IsPast, Meets, Breaks, nogood_bounds, IsTrueFor}
use Rattle.tl_cert.specs.Implied.{IsLeft, Implied, OneLeft}
use Rattle.tl_cert.specs.Lines.{nogood_at, Fires, LineEndsBy, IsGoodLine, IsGoodLog}

-- widths meet a bound or break it, and not both
pub meets-or_breaks : (problem : ProblemModel) (widths : List ℕ) (bound : Bound) →
    Meets problem widths bound ⊎ Breaks problem widths bound
meets-or_breaks problem widths bound = on_side bound.side bound.width (span_width problem widths bound.span) where
  on_side : (side : Side) (w room : ℕ) → IsOnSide side w room ⊎ IsPast side w room
  on_side Most w room = elim (cases_lt w room) [ inl more ↦ inr (omega arith) | inr less ↦ inl less ]
  on_side Least w room = elim (cases_lt room w) [ inl less ↦ inr (omega arith) | inr more ↦ inl more ]

pub breaks-not_meets : (problem : ProblemModel) (widths : List ℕ) (bound : Bound) → Breaks problem widths bound →
    Meets problem widths bound → ⊥
breaks-not_meets problem widths bound = never bound.side bound.width (span_width problem widths bound.span) where
  never : (side : Side) (w room : ℕ) → IsPast side w room → IsOnSide side w room → ⊥
  never Most w room past on = omega arith
  never Least w room past on = omega arith

-- what is so of the last element, with what is so of all
last-and_all : {X : Type 0} (P Q : X → Type 0) (o : Option X) (xs : List X) → All P xs → (IsSomeAnd o Q → (x : X) × P x × Q x) →
    IsSomeAnd (last_or o xs) Q → (x : X) × P x × Q x
last-and_all P Q o [] all give last = give last
last-and_all P Q o (y ∷ ys) all give last = last-and_all P Q (Some y) ys (λ k d within. all (suc k) d (omega arith))
    (λ q. (y, all 0 y (omega arith), q)) last

module _ (problem : ProblemModel) (sound : IsSound problem) (lower : ℕ) (widths heights : List ℕ)
    (layout : IsLayoutByLow problem widths heights)
    (low : total_height problem heights < lower) where
  -- a nogood that is true and all but one of whose bounds are implied has that one broken
  left-breaks : (given joined nogood : List Bound) (bound : Bound) → IsTrueFor problem lower nogood →
      OneLeft problem (IsLeft problem given joined) nogood bound → IsLeft problem given joined widths →
      Breaks problem widths bound
  left-breaks given joined nogood bound true_for one left =
      elim (meets-or_breaks problem widths bound) [
        | inr breaks ↦ breaks
        | inl meets ↦ absurd (true_for widths heights layout low (λ k d within.
            let other = get_or nogood k d in
            elim (meets-or_breaks problem widths other) [
              | inl also ↦ also
              | inr breaks ↦ one.others other (Contains-get_or nogood k d within)
                  (λ same. breaks-not_meets problem widths other breaks (subst (Meets problem widths) (sym same) meets))
                  widths left
            ]))
      ]

  -- firing true nogoods, a layout that is too low stays among what is left
  fires-left : (given joined : List Bound) (nogoods : List (List Bound)) (last : List Bound) →
      All (IsTrueFor problem lower) nogoods →
      Fires problem given joined nogoods last →
      IsLeft problem given joined widths → IsLeft problem given last widths
  fires-left given joined [] last true_for fires left = subst (λ js. IsLeft problem given js widths) (sym fires) left
  fires-left given joined (nogood ∷ nogoods) last true_for fires left =
      elim fires [
        | inl (implied, rest) ↦ absurd (true_for 0 nogood (omega arith) widths heights layout low
            (λ k d within. implied k d within widths left))
        | inr (bound, one, rest) ↦
            let breaks = left-breaks given joined nogood bound (true_for 0 nogood (omega arith)) one left in
            fires-left given (joined ++ bound ∷ []) nogoods last (λ k d within. true_for (suc k) d (omega arith)) rest
            (record {
              page = left.page;
              meets = left.meets;
              breaks =
                  All-push (Breaks problem widths) joined bound left.breaks breaks;
            })
      ]

  -- but no end leaves it there
  end-none : (given joined : List Bound) (nogoods : List (List Bound)) (end : End) → All (IsTrueFor problem lower) nogoods →
      IsLeft problem given joined widths →
      LineEndsBy problem (IsLeft problem given joined) nogoods lower end → ⊥
  end-none given joined nogoods Cycle true_for left ends = ends widths left
  end-none given joined nogoods Chain true_for left ends =
      let below = bound-below_layout problem sound (IsLeft problem given joined) ends.0 widths heights ends.1 left layout in
      omega (arith, below, ends.2)
  end-none given joined nogoods Area true_for left ends =
      let below = area-below_layout problem sound (IsLeft problem given joined) widths heights left layout ends.0 ends.1 in
      omega (arith, below, ends.2)
  end-none given joined nogoods Fired true_for left ends =
      let found = last-and_all (IsTrueFor problem lower) (All (Implied problem (IsLeft problem given joined)))
      None nogoods true_for
      (λ none. absurd none) ends in
      found.1 widths heights layout low (λ k d within. found.2 k d within widths left)

-- a good line's nogood is true if those of the lines before it are
pub good_line-true : (problem : ProblemModel) → IsSound problem →
    (trace : List CutAt) (log : List LogLine) (lower k : ℕ) (line : LogLine) →
    IsGoodLine problem trace log lower k line →
    ((f : ℕ) → f < k → IsTrueFor problem lower (nogood_bounds problem trace (nogood_at log f))) →
    IsTrueFor problem lower (nogood_bounds problem trace line.nogood)
good_line-true problem sound trace log lower k line good before widths heights layout low meets =
    let given = nogood_bounds problem trace line.nogood in
    let nogoods = map (λ f. nogood_bounds problem trace (nogood_at log f)) line.fires in
    let true_for : All (IsTrueFor problem lower) nogoods = All-map (IsTrueFor problem lower)
    (λ f. nogood_bounds problem trace (nogood_at log f))
    line.fires (λ i d within. before (get_or line.fires i d) (good.earlier i d within).0) in
    let start : IsLeft problem given [] widths = record {
      page = layout.page;
      meets = meets;
      breaks =
          All-nil (Breaks problem widths);
    } in
    let left = fires-left problem sound lower widths heights layout low given [] nogoods good.joined true_for good.fires start in
    end-none problem sound lower widths heights layout low given good.joined nogoods line.end true_for left good.ends

-- each nogood of a good log is true
pub nogoods-true : (problem : ProblemModel) → IsSound problem → (trace : List CutAt) (log : List LogLine) (lower : ℕ) →
    IsGoodLog problem trace log lower →
    (k : ℕ) → k < length log → IsTrueFor problem lower (nogood_bounds problem trace (nogood_at log k))
nogoods-true problem sound trace log lower good k within = upto (suc k) (omega arith) k (omega arith) where
  upto : (n : ℕ) → n ≤ length log → (f : ℕ) → f < n → IsTrueFor problem lower (nogood_bounds problem trace (nogood_at log f))
  upto zero inside f before = absurd (omega arith)
  upto (suc n) inside f before =
      let earlier = upto n (omega arith) in
      good_line-true problem sound trace log lower f (get_or log f (record { nogood = Zone 0; fires = []; end = Cycle }))
      (good.lines f (record { nogood = Zone 0; fires = []; end = Cycle }) (omega arith)) (λ g less. earlier g (omega arith))

-- and no layout by `low` is lower than what the log is good for
pub log-sound : (problem : ProblemModel) → IsSound problem → (trace : List CutAt) (log : List LogLine) (lower : ℕ) →
    IsGoodLog problem trace log lower →
    (widths heights : List ℕ) → IsLayoutByLow problem widths heights → lower ≤ total_height problem heights
log-sound problem sound trace log lower good widths heights layout =
    elim (cases_lt (total_height problem heights) lower) [
      | inr enough ↦ enough
      | inl low ↦
          let last = nogoods-true problem sound trace log lower good (length log - 1) (omega (arith, good.some)) in
          absurd (last widths heights layout low (subst (All (Meets problem widths)) (sym good.last)
          (All-nil (Meets problem widths))))
    ]
