-- A book that has taken in a piece of a zone that was left covers its problem as before.
use Rattle.std.proofs.Common.{◌≡◌, ◌≢◌, ℕ, ◌+◌, ◌<◌, ◌≤◌, ◌==◌, ◌⊎◌, inl, inr, not, true, false, nat_lt, if◌then◌else◌}
use Rattle.std.proofs.Common.{Bool, List, length, map, get_or, Option, Some, None, IfSome, sym, ap, ◌∙◌, subst, arith}
use Rattle.std.proofs.Common.{length-append}
use Rattle.std.proofs.lemmas.List.{length-map}
use Rattle.std.specs.List.{All, AllPairs, Contains}
use Rattle.std.proofs.lemmas.Bool.{cases_lt, eq-eqb, ne_eqb}
use Rattle.std.proofs.lemmas.List.Elements.{All-append, All-contains, All-map, Contains-append_left, Contains-append_right}
use Rattle.tl_base.specs.declared.limits.TheConstants.{MAX_BUDGET}
use Rattle.tl_base.proofs.Members.{All-from_Contains, AllPairs-append, AllPairs-filter, AllPairs-map, Contains-filter, Contains-map}
use Rattle.tl_base.proofs.Members.{filter-Contains, map-Contains}
use Rattle.tl_problem.specs.declared.placed.Placed.{Placed}
use Rattle.tl_problem.specs.declared.zone.Range.{Range}
use Rattle.tl_problem.specs.Problem.{ProblemModel}
use Rattle.tl_problem.specs.Placements.{IsPlacementIn}
use Rattle.tl_problem.specs.Sound.{IsSound}
use Rattle.tl_problem.specs.Tight.{IsTight}
use Rattle.tl_problem.specs.Zones.{whole_zone, InZone}
use Rattle.tl_problem.proofs.SetLaws.{opening-in_whole}
use Rattle.tl_cert.specs.declared.limits.TheConstants.{MAX_ZONE}
use Rattle.tl_cert.specs.declared.trace.CutAt.{CutAt}
use Rattle.tl_cert.specs.Appended.{appended, cut_named, zone_named, IsAppended}
use Rattle.tl_cert.specs.Traces.{IsKeen, Stands, zone_at, zone_of}
use Rattle.tl_cert.specs.Worked.{IsClosedZone}
use Rattle.tl_cert.proofs.AppendedLaws.{appended-law, named-apart, named-first}
use Rattle.tl_cert.proofs.CutParts.{first-whole}
use Rattle.tl_cert.proofs.TraceLaws.{cuts-there}
use Rattle.tl_cert.proofs.ZoneBounds.{lt_test, not_lt_test}
use Rattle.tl_solve.specs.Arenas.{HasBoundBelow}
use Rattle.tl_solve.specs.declared.piece.Piece.{Piece}
use Rattle.tl_solve.specs.Piece.{IsPieceOf, final_height}
use Rattle.tl_solve.specs.TraceEnds.{CutsBelowOpening}
use Rattle.tl_solve.proofs.WalkLaws.{closed-lower}
use Rattle.tl_rounds.specs.declared.book.Book.{Book}
use Rattle.tl_rounds.specs.Book.{IsBook, IsCovering, IsPieceFor, IsTaken, IsUpToOpening, lefts_after, lower_of, problem_of}
use Rattle.tl_rounds.specs.Book.{without}

-- ---- the zones left but for one

-- a zone that is not the one which is taken away
other : (z a : ℕ) → a ≢ z → not (a == z) ≡ true
other z a apart = ap not (ne_eqb a z apart)

not-other : (z a : ℕ) → not (a == z) ≡ true → a ≢ z
not-other z a is same = let taken = ap not (eq-eqb a z same) in let differ : false ≡ true = sym taken ∙ is in cc

pub without-keeps : (z : ℕ) (lefts : List ℕ) (a : ℕ) → Contains lefts a → a ≢ z → Contains (without z lefts) a
without-keeps z lefts a has apart = Contains-filter (λ left. not (left == z)) lefts a (other z a apart) has

pub without-has : (z : ℕ) (lefts : List ℕ) (a : ℕ) → Contains (without z lefts) a → Contains lefts a × (a ≢ z)
without-has z lefts a has = let found = filter-Contains (λ left. not (left == z)) lefts a has in
    (found.0, not-other z a found.1)

-- ---- the best placement

-- the height is that of the lower one
pub lower-height : (best : Placed) (given : ℕ) (found : Option Placed) → best.height ≤ given →
    ((lower_of best found).height ≤ best.height) × ((lower_of best found).height ≤ final_height given found)
lower-height best given None from = (omega arith, from)
lower-height best given (Some placed) from = elim (cases_lt placed.height best.height) [
  | inl less ↦ rw (lt_test placed.height best.height less) (omega (arith, less), omega arith)
  | inr more ↦ rw (not_lt_test placed.height best.height more) (omega arith, omega (arith, more))
]

pub lower-tight : (problem : ProblemModel) (best : Placed) (given : ℕ) (found : Option Placed) → IsTight problem best →
    IfSome found (λ placed. IsTight problem placed × (placed.height < given)) → IsTight problem (lower_of best found)
lower-tight problem best given None tight is = tight
lower-tight problem best given (Some placed) tight is = choose (nat_lt placed.height best.height) where
  choose : (lower : Bool) → IsTight problem (if lower then placed else best)
  choose true = is.0
  choose false = tight

-- ---- the book

module _ (problem : ProblemModel) (trace : List CutAt) (lefts : List ℕ) (best : Placed)
    (cov : IsCovering problem trace lefts best) (z : ℕ) (has : Contains lefts z) (given quota : ℕ) (found : Option Placed)
    (cuts : List CutAt) (more : List ℕ) (piece : IsPieceOf problem (zone_of problem trace z) given quota found cuts more)
    (from : best.height ≤ given) (upto : IsUpToOpening problem given) where
  abbrev whole : List Range
  whole = whole_zone problem

  abbrev after : List CutAt
  after = appended trace z cuts

  abbrev named : ℕ → ℕ
  named = zone_named z (length trace)

  abbrev height : ℕ
  height = (lower_of best found).height

  pub here : Stands trace z
  here = All-contains (Stands trace) lefts z cov.left.standing has

  pub app : IsAppended whole trace z cuts after
  app = appended-law whole trace cov.trace_of z here cuts piece.trace_of

  -- ---- what is left

  standing-after : All (Stands after) (lefts_after z (length trace) lefts more)
  standing-after = All-append (Stands after) (without z lefts) (map named more)
      (All-from_Contains (Stands after) (without z lefts) (λ a has_a.
      let is = without-has z lefts a has_a in
      app.stood a (All-contains (Stands trace) lefts a cov.left.standing is.0) is.1))
      (All-map (Stands after) named more (λ i d within. app.stands (get_or more i d) (piece.left.standing i d within)))

  different-after : AllPairs (λ one other. one ≢ other) (lefts_after z (length trace) lefts more)
  different-after = AllPairs-append (λ one other. one ≢ other) (without z lefts) (map named more)
      (AllPairs-filter (λ one other. one ≢ other) (λ left. not (left == z)) lefts cov.left.different)
      (AllPairs-map (λ one other. one ≢ other) named more (λ i j d less within same.
      piece.left.different i j d less within
      (named-apart z (length trace) here.there (get_or more i d) (get_or more j d) same)))
      (λ a b old new same.
      let is = without-has z lefts a old in
      let stands = All-contains (Stands trace) lefts a cov.left.standing is.0 in
      let named_b = map-Contains named more b new in
      is.1 (named-first z (length trace) a named_b.0 stands.there (same ∙ sym named_b.2)))

  -- ---- no zone has a lower placement

  heights : (height ≤ best.height) × (height ≤ final_height given found)
  heights = lower-height best given found from

  keen-after : IsKeen problem whole after height
  keen-after a placed there placement = elim (app.zones a there) [
    | inl old ↦
        let same = app.old a old in
        let before = cov.keen a placed old (subst (λ zone. IsPlacementIn problem (InZone problem zone) placed) same placement) in
        omega (arith, before, heights)
    | inr (j, inside, number) ↦
        let same = ap (zone_at whole after) number ∙ app.new j inside in
        let before = piece.keen j placed inside
        (subst (λ zone. IsPlacementIn problem (InZone problem zone) placed) same placement) in
        omega (arith, before, heights)
  ]

  -- ---- each cut zone had a bound below the opening's height

  cuts-after : CutsBelowOpening problem after
  cuts-after = (
    cov.cut_zones.0,
    cov.cut_zones.1,
    All-append (λ (cut : CutAt). HasBoundBelow problem after cut.zone cov.cut_zones.0.height) trace
        (map (cut_named z (length trace)) cuts)
        (λ i d within.
        let bound = cov.cut_zones.2 i d within in
        let same = app.old (get_or trace i d).zone (cuts-there whole trace cov.trace_of i d within) in
        rw same bound)
        (All-map (λ (cut : CutAt). HasBoundBelow problem after cut.zone cov.cut_zones.0.height)
        (cut_named z (length trace)) cuts
        (λ i d within.
        let bound = piece.cut_zones i d within in
        let same = app.new (get_or cuts i d).zone (cuts-there (zone_of problem trace z) cuts piece.trace_of i d within) in
        let least = upto cov.cut_zones.0 cov.cut_zones.1 in
        rw same (bound.0, bound.1, omega (arith, bound.2, least)))),
  )

  -- ---- what stands and is not left is closed

  closed-after : (a : ℕ) → Stands after a →
      Contains (lefts_after z (length trace) lefts more) a ⊎ IsClosedZone problem (zone_of problem after a) height
  closed-after a stands = elim (app.cases a stands) [
    | inl (stood, apart) ↦ elim (cov.closed a stood) [
      | inl left ↦ inl (Contains-append_left (without z lefts) (map named more) a (without-keeps z lefts a left apart))
      | inr closed ↦ inr (subst (λ zone. IsClosedZone problem zone height) (sym (app.old a stood.there))
          (closed-lower problem (zone_of problem trace a) best.height height heights.0 closed))
    ]
    | inr (j, inside, number) ↦ elim (piece.closed j inside) [
      | inl left ↦ inl (Contains-append_right (without z lefts) (map named more) a
          (subst (Contains (map named more)) (sym number) (Contains-map named more j left)))
      | inr closed ↦ inr (subst (λ n. IsClosedZone problem (zone_of problem after n) height) (sym number)
          (subst (λ zone. IsClosedZone problem zone height) (sym (app.new j inside.there))
          (closed-lower problem (zone_at (zone_of problem trace z) cuts j) (final_height given found) height heights.1 closed)))
    ]
  ]

  pub covers : IsCovering problem after (lefts_after z (length trace) lefts more) (lower_of best found)
  covers = record {
    trace_of = app.trace_of;
    left = record { standing = standing-after; different = different-after };
    tight = lower-tight problem best given found cov.tight piece.found;
    keen = keen-after;
    cut_zones = cuts-after;
    closed = closed-after;
  }

-- ---- the placement in the whole is the opening

pub up-to-opening : (problem : ProblemModel) → IsSound problem → (trace : List CutAt) (lefts : List ℕ) (best : Placed) →
    IsCovering problem trace lefts best → IsUpToOpening problem best.height
up-to-opening problem sound trace lefts best cov opening is =
    cov.keen 0 opening (omega arith)
    (subst (λ zone. IsPlacementIn problem (InZone problem zone) opening)
    (sym (first-whole (whole_zone problem) trace cov.trace_of))
    (opening-in_whole problem sound opening is))

-- ---- the whole book

pub book-taken : (old new : Book) (z : ℕ) (piece : Piece) → IsBook old → Contains old.lefts z → IsPieceFor old z piece →
    length old.trace + length piece.trace ≤ MAX_BUDGET → IsTaken old z piece new → IsBook new
book-taken old new z piece is has of few taken =
    let p = problem_of old in
    let now = covers p old.trace old.lefts old.best is.covering z has of.given of.quota piece.best piece.trace piece.lefts
    of.piece_of of.from of.upto in
    let count = length-append old.trace (map (cut_named z (length old.trace)) piece.trace) in
    record {
      sound = subst IsSound (sym taken.problem) is.sound;
      few = omega (arith, few, ap length taken.trace, count, length-map piece.trace (cut_named z (length old.trace)));
      covering = subst (λ q. IsCovering q new.trace new.lefts new.best) (sym taken.problem)
          (subst (λ cuts. IsCovering p cuts new.lefts new.best) (sym taken.trace)
          (subst (λ lefts. IsCovering p (appended old.trace z piece.trace) lefts new.best) (sym taken.lefts)
          (subst (IsCovering p (appended old.trace z piece.trace) (lefts_after z (length old.trace) old.lefts piece.lefts))
          (sym taken.best) now)));
    }

-- all numbers of a piece are in their range
pub piece-small : (book : Book) (z : ℕ) (piece : Piece) → IsPieceFor book z piece → length piece.trace ≤ MAX_BUDGET →
    All (λ j. j ≤ MAX_ZONE) piece.lefts × All (λ (cut : CutAt). cut.zone ≤ MAX_ZONE) piece.trace
piece-small book z piece of few = (
  (λ i d within. let stands = of.piece_of.left.standing i d within in omega (arith, stands.there, few)),
  (λ i d within.
      let there = cuts-there (zone_of (problem_of book) book.trace z) piece.trace of.piece_of.trace_of i d within in
      omega (arith, there, few)),
)
