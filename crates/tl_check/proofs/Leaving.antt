-- What constraints leave, as one more joins them.
use Rattle.std.proofs.Common.{◌≡◌, ℕ, ◌+◌, ◌<◌, ℤ, pos, neg_ℤ, ◌≤ℤ◌, List, [], ◌∷◌, ◌++◌, length, refl, ap, arith}
use Rattle.std.proofs.lemmas.Int.{ints}
use Rattle.std.proofs.lemmas.List.Elements.{All-push}
use Rattle.tl_base.proofs.Members.{All-prefix, All-last}
use Rattle.tl_diff.specs.Bounds.{Bounds, IsSatisfiable, AddsBound}
use Rattle.tl_diff.specs.Marks.{MarkedBounds}
use Rattle.tl_problem.specs.Problem.{ProblemModel}
use Rattle.tl_problem.specs.Spans.{spans_of}
use Rattle.tl_problem.specs.Zones.{span_at, span_width}
use Rattle.tl_problem.specs.Works as works
use Rattle.tl_problem.specs.Works.{places}
use Rattle.tl_base.proofs.SizeLaws.{room-position}
use Rattle.tl_problem.proofs.ZoneLaws.{span-within}
use Rattle.tl_problem.proofs.ConstraintLemmas.{KeepsPage-adds}
use Rattle.tl_cert.specs.declared.log.Bound.{Bound}
use Rattle.tl_cert.specs.Nogoods.{Meets, Breaks}
use Rattle.tl_cert.specs.Implied.{IsLeft}
use Rattle.tl_check.specs.Matrices.{IsMatrixOf, Describes}
use Rattle.tl_check.specs.inner.Matrices.{Restricts}

-- the fact in other words
pub Restricts-same : (problem : ProblemModel) (old new : MarkedBounds) (F G : List ℕ → Type 0) →
    ((widths : List ℕ) → works.AreAllowed problem old.bounds widths → F widths → G widths) →
    ((widths : List ℕ) → works.AreAllowed problem old.bounds widths → G widths → F widths) →
    Restricts problem old new F → Restricts problem old new G
Restricts-same problem old new F G to from h = record {
  keeps = h.keeps;
  marks = h.marks;
  held = h.held;
  before = h.before;
  fact = λ widths left. to widths (h.before widths left) (h.fact widths left);
  all = λ widths left fact. h.all widths left (from widths left fact);
}

-- where nothing is left nothing changes
pub Restricts-none : (problem : ProblemModel) (matrix : MarkedBounds) (F : List ℕ → Type 0) → IsMatrixOf problem matrix.bounds →
    (IsSatisfiable matrix.bounds → ⊥) → Restricts problem matrix matrix F
Restricts-none problem matrix F keeps none = record {
  keeps = keeps;
  marks = refl;
  held = refl;
  before = λ widths left. left;
  fact = λ widths left. absurd (none (places problem widths, left.satisfies));
  all = λ widths left fact. left;
}

module _ (problem : ProblemModel) (old new : MarkedBounds) (keeps : IsMatrixOf problem old.bounds)
    (rest : new ≡ record old { bounds = new.bounds })
    (s : ℕ) (inside : s < length (spans_of problem)) where
  -- an upper bound on the distance of a span's edges
  pub Restricts-most : (m : ℤ) → AddsBound old.bounds new.bounds (span_at problem s).left (span_at problem s).right m →
      Restricts problem old new (λ widths. pos (span_width problem widths s + problem.spacing.gap) ≤ℤ m)
  Restricts-most m adds = record {
    keeps = record {
      sound = keeps.sound;
      page = KeepsPage-adds problem old.bounds new.bounds adds.variables adds.keeps
          keeps.page;
    };
    marks = ap (λ matrix. matrix.marks) rest;
    held = ap (λ matrix. matrix.held) rest;
    before = λ widths left. record { columns = left.columns; satisfies = adds.keeps (places problem widths) left.satisfies };
    fact = λ widths left.
        let step = room-position problem.spacing.gap widths (span_at problem s).left (span_at problem s).right
        (span-within problem keeps.sound s inside).0 in
        let apart = adds.adds (places problem widths) left.satisfies in
        omega (arith, ints, step, apart);
    all = λ widths left small.
        let step = room-position problem.spacing.gap widths (span_at problem s).left (span_at problem s).right
        (span-within problem keeps.sound s inside).0 in
        record {
          columns = left.columns;
          satisfies = adds.all (places problem widths) left.satisfies
              (omega (arith, ints, step, small));
        };
  }

  -- a lower bound
  pub Restricts-least : (m n : ℤ) → n ≡ neg_ℤ m → AddsBound old.bounds new.bounds (span_at problem s).right
      (span_at problem s).left n →
      Restricts problem old new (λ widths. m ≤ℤ pos (span_width problem widths s + problem.spacing.gap))
  Restricts-least m n is adds = record {
    keeps = record {
      sound = keeps.sound;
      page = KeepsPage-adds problem old.bounds new.bounds adds.variables adds.keeps
          keeps.page;
    };
    marks = ap (λ matrix. matrix.marks) rest;
    held = ap (λ matrix. matrix.held) rest;
    before = λ widths left. record { columns = left.columns; satisfies = adds.keeps (places problem widths) left.satisfies };
    fact = λ widths left.
        let step = room-position problem.spacing.gap widths (span_at problem s).left (span_at problem s).right
        (span-within problem keeps.sound s inside).0 in
        let apart = adds.adds (places problem widths) left.satisfies in
        omega (arith, ints, step, apart, is);
    all = λ widths left small.
        let step = room-position problem.spacing.gap widths (span_at problem s).left (span_at problem s).right
        (span-within problem keeps.sound s inside).0 in
        record {
          columns = left.columns;
          satisfies = adds.all (places problem widths) left.satisfies
              (omega (arith, ints, step, small, is));
        };
  }

-- ---- what the constraints describe

-- those of a page leave what no bound restricts
pub Describes-page : (problem : ProblemModel) (bounds : Bounds) → IsMatrixOf problem bounds →
    ((widths : List ℕ) → works.AreAllowed problem bounds widths → IsLeft problem [] [] widths) →
    ((widths : List ℕ) → IsLeft problem [] [] widths → works.AreAllowed problem bounds widths) → Describes problem [] [] bounds
Describes-page problem bounds keeps to from = record { keeps = keeps; to = to; from = from }

module _ (problem : ProblemModel) (given joined : List Bound) (old new : MarkedBounds) (bound : Bound)
    (h : Describes problem given joined old.bounds) where
  -- a bound that is met is one more given
  pub Describes-met : Restricts problem old new (λ widths. Meets problem widths bound) →
      Describes problem (given ++ bound ∷ []) joined new.bounds
  Describes-met r = record {
    keeps = r.keeps;
    to = λ widths left.
        let before = h.to widths (r.before widths left) in
        record {
          page = before.page;
          meets = All-push (Meets problem widths) given bound before.meets
              (r.fact widths left);
          breaks = before.breaks;
        };
    from = λ widths left. r.all widths
        (h.from widths (record {
          page = left.page;
          meets = All-prefix (Meets problem widths) given bound left.meets;
          breaks =
              left.breaks;
        }))
        (All-last (Meets problem widths) given bound left.meets);
  }

  -- a bound that is broken joins
  pub Describes-broken : Restricts problem old new (λ widths. Breaks problem widths bound) →
      Describes problem given (joined ++ bound ∷ []) new.bounds
  Describes-broken r = record {
    keeps = r.keeps;
    to = λ widths left.
        let before = h.to widths (r.before widths left) in
        record {
          page = before.page;
          meets = before.meets;
          breaks =
              All-push (Breaks problem widths) joined bound before.breaks (r.fact widths left);
        };
    from = λ widths left. r.all widths
        (h.from widths (record {
          page = left.page;
          meets = left.meets;
          breaks =
              All-prefix (Breaks problem widths) joined bound left.breaks;
        }))
        (All-last (Breaks problem widths) joined bound left.breaks);
  }
