-- Assignments to the places of columns and widths of columns are the same thing, moved as a whole: so the tightest bounds
-- of a matrix are the greatest and least rooms of the widths that it leaves.
use Rattle.std.proofs.Common.{◌≡◌, ℕ, ◌+◌, ◌*◌, ◌<◌, ◌≤◌, zero, suc, ℤ, pos, negsuc, ◌+ℤ◌, ◌-ℤ◌, ◌≤ℤ◌, neg_ℤ, List, [], ◌∷◌, ◌++◌}
use Rattle.std.proofs.Common.{inl, inr, length}
use Rattle.std.proofs.Common.{take, sum, refl, ap, ◌∙◌, arith}
use Rattle.std.proofs.lemmas.Int.{ints}
use Rattle.std.proofs.lemmas.Bool.{cases_lt}
use Rattle.std.proofs.lemmas.List.{length-append, take_all, take-append-le}
use Rattle.std.proofs.lemmas.List.Sums.{sum_by-append}
use Rattle.tl_diff.specs.Bounds.{Bounds, Satisfies, IsSatisfiable, IsGreatest}
use Rattle.tl_base.specs.Sizes.{position, room}
use Rattle.tl_problem.specs.Problem.{ProblemModel}
use Rattle.tl_problem.specs.Bounds.{IsGreatestRoom}
use Rattle.tl_problem.specs.Works.{places, AreAllowed, KeepsPage, part_above, widths_of}
use Rattle.tl_problem.specs.inner.Needs.{IsLeastRoom}
use Rattle.tl_base.proofs.SizeLaws.{room-position}

pub part_above-is : (z : ℤ) → pos 0 ≤ℤ z → pos (part_above z) ≡ z
part_above-is (pos n) up = refl
part_above-is (negsuc n) up = absurd (omega (arith, ints))

-- one width more
pub widths_of-next : (x : ℕ → ℤ) (gap n : ℕ) → widths_of x gap (n + 1) ≡ widths_of x gap n ++ part_above
    (x (n + 1) -ℤ (x n +ℤ pos gap)) ∷ []
widths_of-next x gap n = let next : n + 1 ≡ suc n = omega arith in ap (widths_of x gap) next

module _ (x : ℕ → ℤ) (gap : ℕ) where
  pub widths_of-length : (n : ℕ) → length (widths_of x gap n) ≡ n
  widths_of-length zero = refl
  widths_of-length (suc n) = omega (
    arith,
    length-append (widths_of x gap n) (part_above (x (n + 1) -ℤ (x n +ℤ pos gap)) ∷ []),
    widths_of-length n,
  )

  -- they begin where the assignment says, counted from its first place
  pub widths_of-position : (n : ℕ) → ((k : ℕ) → k < n → (x k +ℤ pos gap) ≤ℤ x (k + 1)) → (k : ℕ) → k ≤ n →
      pos (position gap (widths_of x gap n) k) ≡ x k -ℤ x 0
  widths_of-position zero gaps k up =
      let none : k ≡ 0 = omega arith in
      rw none (start gap) where
        start : (gap : ℕ) → pos (sum (take 0 []) + gap * 0) ≡ x 0 -ℤ x 0
        start gap = omega (arith, ints)
  widths_of-position (suc n) gaps k up =
      elim (cases_lt n k) [
        | inr low ↦
            let inside : k ≤ length (widths_of x gap n) = omega (arith, widths_of-length n) in
            let before = widths_of-position n (λ j below. gaps j (omega arith)) k low in
            let same = ap (λ xs. pos (sum xs + gap * k)) (take-append-le k (widths_of x gap n)
            (part_above (x (n + 1) -ℤ (x n +ℤ pos gap)) ∷ []) inside) in
            same ∙ before
        | inl last ↦
            let all : k ≡ suc n = omega arith in
            let whole = ap sum (take_all (suc n) (widths_of x gap (suc n)) (omega (arith, widths_of-length (suc n)))) in
            let split = sum_by-append (λ w. w) (widths_of x gap n) (part_above (x (n + 1) -ℤ (x n +ℤ pos gap)) ∷ []) in
            let one : sum (part_above (x (n + 1) -ℤ (x n +ℤ pos gap)) ∷ []) ≡ part_above (x (n + 1) -ℤ (x n +ℤ pos gap)) =
            omega arith in
            let before = widths_of-position n (λ j below. gaps j (omega arith)) n (omega arith) in
            let full = ap sum (take_all n (widths_of x gap n) (omega (arith, widths_of-length n))) in
            let above = part_above-is (x (n + 1) -ℤ (x n +ℤ pos gap)) (omega (arith, ints, gaps n (omega arith))) in
            let product : gap * suc n ≡ gap * n + gap = grind arith in
            let next : x (n + 1) ≡ x (suc n) = ap x (omega arith) in
            rw all (omega (arith, ints, whole, split, one, before, full, above, product, next))
      ]

module _ (problem : ProblemModel) (bounds : Bounds) (keeps : KeepsPage problem bounds) where
  -- an assignment leaves widths
  pub left-from : (x : ℕ → ℤ) → Satisfies bounds x → AreAllowed problem bounds (widths_of x problem.spacing.gap problem.cols)
  left-from x meets = record {
    columns = widths_of-length x problem.spacing.gap problem.cols;
    satisfies = λ a b first second c is.
        let one = widths_of-position x problem.spacing.gap problem.cols (keeps.gaps x meets) a
        (omega (arith, keeps.variables)) in
        let other = widths_of-position x problem.spacing.gap problem.cols (keeps.gaps x meets) b
        (omega (arith, keeps.variables)) in
        omega (arith, ints, one, other, meets a b first second c is);
  }

  pub left-position : (x : ℕ → ℤ) → Satisfies bounds x → (k : ℕ) → k ≤ problem.cols →
      pos (position problem.spacing.gap (widths_of x problem.spacing.gap problem.cols) k) ≡ x k -ℤ x 0
  left-position x meets k up = widths_of-position x problem.spacing.gap problem.cols (keeps.gaps x meets) k up

  -- some assignment satisfies the constraints where some widths are left
  pub left-some : IsSatisfiable bounds → (widths : List ℕ) × AreAllowed problem bounds widths
  left-some some = (widths_of some.0 problem.spacing.gap problem.cols, left-from some.0 some.1)

  module _ (left right : ℕ) (ahead : left < right) (within : right ≤ problem.cols) where
    -- the room of a span by the assignment
    pub left-room : (x : ℕ → ℤ) → Satisfies bounds x →
        pos (room problem.spacing.gap (widths_of x problem.spacing.gap problem.cols)
        left right + problem.spacing.gap) ≡ x right -ℤ x left
    left-room x meets =
        let places = room-position problem.spacing.gap (widths_of x problem.spacing.gap problem.cols) left right ahead in
        let one = left-position x meets left (omega arith) in
        let other = left-position x meets right within in
        omega (arith, ints, places, one, other)

    -- the tightest bound on two places is the greatest room of the span between, and a gap
    pub greatest-room : (most : ℤ) → IsGreatest bounds left right most →
        (w : ℕ) × ((most ≡ pos (w + problem.spacing.gap)) × IsGreatestRoom problem (AreAllowed problem bounds) left right w)
    greatest-room most is =
        let x = is.reached.0 in
        let widths = widths_of x problem.spacing.gap problem.cols in
        let at = left-room x is.reached.1.0 in
        let same : most ≡ pos (room problem.spacing.gap widths left right + problem.spacing.gap) =
        omega (arith, ints, at, is.reached.1.1) in (
          room problem.spacing.gap widths left right,
          (
            same,
            record {
              attained = (widths, left-from x is.reached.1.0, refl);
              never_more = λ other kept.
                  let apart = is.implied (places problem other) kept.satisfies in
                  let room_is = room-position problem.spacing.gap other left right ahead in
                  omega (arith, ints, apart, room_is, same);
            },
          ),
        )

    -- the tightest bound the other way round is that of the least room
    pub least-room : (most : ℤ) → IsGreatest bounds right left most →
        (w : ℕ) × ((most ≡ neg_ℤ (pos (w + problem.spacing.gap))) × IsLeastRoom problem (AreAllowed problem bounds) left right w)
    least-room most is =
        let x = is.reached.0 in
        let widths = widths_of x problem.spacing.gap problem.cols in
        let at = left-room x is.reached.1.0 in
        let same : most ≡ neg_ℤ (pos (room problem.spacing.gap widths left right + problem.spacing.gap)) =
        omega (arith, ints, at, is.reached.1.1) in (
          room problem.spacing.gap widths left right,
          (
            same,
            record {
              attained = (widths, left-from x is.reached.1.0, refl);
              never_less = λ other kept.
                  let apart = is.implied (places problem other) kept.satisfies in
                  let room_is = room-position problem.spacing.gap other left right ahead in
                  omega (arith, ints, apart, room_is, same);
            },
          ),
        )
