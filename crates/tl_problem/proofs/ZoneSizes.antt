-- How many class vectors a zone has: those of its two parts where it is cut, and of the whole the product of the numbers
-- of classes.
use Rattle.std.proofs.Common.{◌≡◌, ℕ, ◌+◌, ◌-◌, ◌*◌, ◌<◌, ◌≤◌, zero, suc, List, [], ◌∷◌, length, map, set, refl, ap, ◌∙◌, arith}
use Rattle.tl_problem.specs.declared.cell.Span.{Span}
use Rattle.tl_problem.specs.declared.zone.Range.{Range}
use Rattle.tl_problem.specs.Problem.{ProblemModel}
use Rattle.tl_problem.specs.Spans.{spans_of, classes_of, product}
use Rattle.tl_problem.specs.Zones.{range, range_at, IsZone, whole_zone, lower_part, upper_part}
use Rattle.tl_problem.proofs.SpanLaws.{classes-some}

-- how many classes a range has, and how many vectors a zone has
wide : Range → ℕ
wide r = r.last + 1 - r.first

pub size : List Range → ℕ
size zone = product (map wide zone)

-- a range cut in two separates the vectors
size-parts : (zone : List Range) (s : ℕ) (a b : Range) → s < length zone → wide a + wide b ≡ wide (range_at zone s) →
    size (set zone s a) + size (set zone s b) ≡ size zone
unfolding size
size-parts [] s a b there parts = absurd (omega arith)
size-parts (r ∷ zone) zero a b there parts = times_sum (wide a) (wide b) (wide r) (product (map wide zone)) parts where
  times_sum : (x y z n : ℕ) → x + y ≡ z → x * n + y * n ≡ z * n
  times_sum x y z n sum = rw (← sum) (grind arith)
size-parts (r ∷ zone) (suc s) a b there parts =
    let rest = size-parts zone s a b (omega arith) parts in
    spread (wide r) (product (map wide (set zone s a))) (product (map wide (set zone s b))) (product (map wide zone)) rest where
      spread : (n x y z : ℕ) → x + y ≡ z → n * x + n * y ≡ n * z
      spread n x y z sum = rw (← sum) (grind arith)

-- and so a zone that is cut
pub size-cut : (zone : List Range) (s class : ℕ) → s < length zone → (range_at zone s).first ≤ class →
    class < (range_at zone s).last →
    size (lower_part zone s class) + size (upper_part zone s class) ≡ size zone
unfolding wide
size-cut zone s class there from before =
    size-parts zone s (range (range_at zone s).first class) (range (class + 1) (range_at zone s).last) there
    (omega (arith, from, before))

-- a zone in which each range has a class has a vector
pub size-some : (zone : List Range) → ((s : ℕ) → s < length zone → (range_at zone s).first ≤ (range_at zone s).last) → 1 ≤ size zone
unfolding size wide
size-some [] each = omega arith
size-some (r ∷ zone) each = times_some (r.last + 1 - r.first) (product (map wide zone)) (let first = each 0 (omega arith) in
    omega (arith, first)) (size-some zone (λ s within. each (suc s) (omega arith))) where
      times_some : (m n : ℕ) → 1 ≤ m → 1 ≤ n → 1 ≤ m * n
      times_some m n one other = grind arith

-- the whole has as many as there are class vectors
pub size-whole : (problem : ProblemModel) → size (whole_zone problem) ≡ product
    (map (λ columns. length (classes_of problem columns)) (spans_of problem))
unfolding size wide
size-whole problem = each (spans_of problem) where
  each : (spans : List Span) →
      product (map wide (map (λ columns. range 0 (length (classes_of problem columns) - 1)) spans)) ≡ product
      (map (λ columns. length (classes_of problem columns)) spans)
  each [] = refl
  each (columns ∷ spans) =
      let here : length (classes_of problem columns) - 1 + 1 - 0 ≡ length (classes_of problem columns) =
      omega (arith, classes-some problem columns) in
      ap (λ n. n * product (map wide (map (λ c. range 0 (length (classes_of problem c) - 1)) spans))) here ∙ ap
      (λ n. length (classes_of problem columns) * n) (each spans)

pub zone-some : (problem : ProblemModel) (zone : List Range) → IsZone problem zone → 1 ≤ size zone
zone-some problem zone is = size-some zone (λ s within. (is.ranges s within).0)
