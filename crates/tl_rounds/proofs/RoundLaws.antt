-- A book that takes in the pieces of a round, one after the other.
use Rattle.std.proofs.Common.{◌≡◌, ◌≢◌, ℕ, ◌+◌, ◌-◌, ◌*◌, ◌<◌, ◌≤◌, ◌⊎◌, inl, inr, suc, true, false, nat_lt, Bool, if◌then◌else◌}
use Rattle.std.proofs.Common.{List, [], ◌∷◌, ◌++◌, length, map, get_or, take, drop, Option, Some, None, refl, sym, ap, ◌∙◌, subst}
use Rattle.std.proofs.Common.{arith, length-append, length-take}
use Rattle.std.specs.List.{Contains}
use Rattle.std.proofs.Math.Nat.{mul-le-mul_right, suc-mul}
use Rattle.std.proofs.Math.ListN.{get_or-map}
use Rattle.std.proofs.Math.Seq.{drop-cons}
use Rattle.std.proofs.lemmas.Bool.{cases_lt}
use Rattle.std.proofs.lemmas.Bool.Decides.{nat_tests}
use Rattle.std.proofs.lemmas.List.{append-nil, get_or_default, get_or-take, length-map, length-drop, take_more}
use Rattle.tl_base.specs.declared.limits.TheConstants.{MAX_BUDGET}
use Rattle.tl_base.proofs.Members.{Contains-first}
use Rattle.tl_base.proofs.Zips.{AllZip-get_or, AllZip-length}
use Rattle.tl_problem.specs.declared.zone.Range.{Range}
use Rattle.tl_problem.specs.declared.placed.Placed.{Placed}
use Rattle.tl_problem.specs.Problem.{ProblemModel}
use Rattle.tl_cert.specs.declared.trace.CutAt.{CutAt}
use Rattle.tl_cert.specs.Appended.{cut_named, zone_named}
use Rattle.tl_cert.specs.Traces.{IsZoneOf, zone_of}
use Rattle.tl_solve.specs.declared.piece.Piece.{Piece}
use Rattle.tl_solve.specs.Arenas.{IsLowered}
use Rattle.tl_solve.specs.Piece.{IsPieceOf, final_height}
use Rattle.tl_solve.proofs.ArenaLaws.{lowered-le, lowered-next}
use Rattle.tl_rounds.specs.declared.book.Book.{Book}
use Rattle.tl_rounds.specs.Book.{IsBook, IsCovering, IsPieceFor, IsTaken, IsUpToOpening, lower_of, problem_of}
use Rattle.tl_rounds.specs.Fans.{ArePiecesOf}
use Rattle.tl_rounds.specs.MadeOfRounds.{AreBlocks, block, no_block, AreRounds, round, blocks_at, quota_at}
use Rattle.tl_rounds.specs.inner.Takings.{IsRoundTaken, IsTakenSoFar}
use Rattle.tl_rounds.proofs.Covered.{app, lower-height, up-to-opening}
use Rattle.tl_rounds.proofs.Blocks.{block-lower, blocks-lower, rounds-lower, piece-block, lefts-next, lefts-first}
use Rattle.tl_rounds.proofs.Shares.{shares-fit}

-- a placement is kept, or replaced by a lower one
lower-lowered : (best : Placed) (found : Option Placed) → IsLowered best (lower_of best found)
lower-lowered best None = inl refl
lower-lowered best (Some placed) = choose (nat_lt placed.height best.height) refl where
  choose : (b : Bool) → nat_lt placed.height best.height ≡ b → IsLowered best (if b then placed else best)
  choose true is = inr (grind (arith, nat_tests))
  choose false is = inl refl

-- before the first piece
pub taken-none : (old : Book) (quota : ℕ) → IsBook old → IsTakenSoFar old quota 0 old
taken-none old quota is = record {
  book = is;
  problem = refl;
  lowered = inl refl;
  few = omega arith;
  old_zones = λ a there. refl;
  left = [];
  lefts = sym (append-nil old.lefts);
  blocks = no_block;
  progress = inr (refl, omega arith);
}

module _ (old book : Book) (quota count : ℕ) (is : IsBook old) (so_far : IsTakenSoFar old quota count book)
    (within : count < length old.lefts) where
  abbrev problem : ProblemModel
  problem = problem_of old

  -- the zone whose piece is taken in next is left first
  abbrev z : ℕ
  z = get_or old.lefts count 0

  pub next-first : get_or book.lefts 0 0 ≡ z
  next-first = lefts-first old.lefts so_far.left count 0 book.lefts within so_far.lefts

  pub next-left : Contains book.lefts z
  next-left =
      let begun : book.lefts ≡ z ∷ (drop (suc count) old.lefts ++ so_far.left) = so_far.lefts ∙
      ap (λ some. some ++ so_far.left) (drop-cons old.lefts count 0 within) in
      subst (λ some. Contains some z) (sym begun) (Contains-first z (drop (suc count) old.lefts ++ so_far.left))

  z-there : IsZoneOf old.trace z
  z-there = (is.covering.left.standing count 0 within).there

  longer : length old.trace ≤ length book.trace
  longer = elim so_far.progress [ inl more ↦ omega (arith, more) | inr same ↦ omega (arith, same.0) ]

  same-zone : zone_of problem book.trace z ≡ zone_of problem old.trace z
  same-zone = so_far.old_zones z z-there

  covering : IsCovering problem book.trace book.lefts book.best
  covering = subst (λ p. IsCovering p book.trace book.lefts book.best) so_far.problem so_far.book.covering

  low : book.best.height ≤ old.best.height
  low = lowered-le old.best book.best so_far.lowered

  upto : IsUpToOpening problem old.best.height
  upto = up-to-opening problem is.sound old.trace old.lefts old.best is.covering

  module _ (piece : Piece) (of : IsPieceOf problem (zone_of problem old.trace z) old.best.height quota piece.best piece.trace
      piece.lefts) where
    of-book : IsPieceOf problem (zone_of problem book.trace z) old.best.height quota piece.best piece.trace piece.lefts
    of-book = subst (λ zone. IsPieceOf problem zone old.best.height quota piece.best piece.trace piece.lefts) (sym same-zone) of

    -- it can be taken in
    pub next-piece : IsPieceFor book z piece
    next-piece = record {
      given = old.best.height;
      quota = quota;
      from = low;
      upto = subst (λ p. IsUpToOpening p old.best.height) (sym so_far.problem) upto;
      piece_of = subst (λ p. IsPieceOf p (zone_of p book.trace z) old.best.height quota piece.best piece.trace piece.lefts)
          (sym so_far.problem) of-book;
    }

    module _ (new : Book) (new_is : IsBook new) (taken : IsTaken book z piece new) (some : 1 ≤ quota) where
      abbrev named : ℕ → ℕ
      named = zone_named z (length book.trace)

      abbrev own : List CutAt
      own = map (cut_named z (length book.trace)) piece.trace

      heights : (new.best.height ≤ book.best.height) × (new.best.height ≤ final_height old.best.height piece.best)
      heights = rw taken.best (lower-height book.best old.best.height piece.best low)

      count-new : length new.trace ≡ length book.trace + length piece.trace
      count-new = ap length taken.trace ∙ length-append book.trace own ∙ ap (λ n. length book.trace + n)
          (length-map piece.trace (cut_named z (length book.trace)))

      few-more : length new.trace ≤ length old.trace + (count + 1) * quota
      few-more =
          let one : (count + 1) * quota ≡ count * quota + quota = ap (λ n. n * quota) (omega arith) ∙ suc-mul count quota in
          omega (arith, count-new, so_far.few, of.few, one)

      zones-more : (a : ℕ) → IsZoneOf old.trace a → zone_of problem new.trace a ≡ zone_of problem old.trace a
      zones-more a there =
          let now = app problem book.trace book.lefts book.best covering z next-left old.best.height quota piece.best piece.trace
          piece.lefts of-book low upto in
          ap (λ cuts. zone_of problem cuts a) taken.trace ∙ now.old a (omega (arith, there, longer)) ∙ so_far.old_zones a there

      lefts-more : new.lefts ≡ drop (count + 1) old.lefts ++ (so_far.left ++ map named piece.lefts)
      lefts-more = taken.lefts ∙ lefts-next old.lefts so_far.left count z (length book.trace) book.lefts piece.lefts within
          so_far.lefts covering.left.different (get_or_default old.lefts count z 0 within)

      blocks-more : AreBlocks problem new.best.height quota old.trace (take (count + 1) old.lefts) new.trace
          (so_far.left ++ map named piece.lefts)
      blocks-more = subst
          (λ zones. AreBlocks problem new.best.height quota old.trace zones new.trace (so_far.left ++ map named piece.lefts))
          (sym (take_more old.lefts count 0 within))
          (subst (λ cuts. AreBlocks problem new.best.height quota old.trace (take count old.lefts ++ z ∷ []) cuts
          (so_far.left ++ map named piece.lefts)) (sym taken.trace)
          (block (take count old.lefts) book.trace so_far.left
          (blocks-lower problem book.best.height new.best.height quota old.trace heights.0 so_far.blocks) z own
          (map named piece.lefts)
          (block-lower problem (final_height old.best.height piece.best) new.best.height quota book.trace z own
          (map named piece.lefts) heights.1
          (piece-block problem book.trace book.lefts book.best covering z next-left old.best.height quota piece.best piece.trace
          piece.lefts of-book low upto))))

      -- a piece without cuts leaves nothing
      none-left : (lefts : List ℕ) → (lefts ≢ [] → length piece.trace ≡ quota) → length piece.trace ≡ 0 → length lefts ≡ 0
      none-left [] spent none = refl
      none-left (a ∷ lefts) spent none = absurd (omega (arith, some, none, spent (λ same. cc)))

      fewer : length new.lefts + 1 ≡ length book.lefts + length piece.lefts
      fewer =
          let after = ap length lefts-more ∙ length-append (drop (count + 1) old.lefts) (so_far.left ++ map named piece.lefts) in
          let both = length-append so_far.left (map named piece.lefts) in
          let before = ap length so_far.lefts ∙ length-append (drop count old.lefts) so_far.left in
          omega (
            arith,
            after,
            both,
            before,
            within,
            length-map piece.lefts named,
            length-drop count old.lefts,
            length-drop (count + 1) old.lefts,
          )

      progress-more : (length old.trace < length new.trace)
          ⊎ ((length new.trace ≡ length old.trace) × (length new.lefts + (count + 1) ≡ length old.lefts))
      progress-more = elim so_far.progress [
        | inl more ↦ inl (omega (arith, more, count-new))
        | inr same ↦ elim (cases_lt 0 (length piece.trace)) [
          | inl cut ↦ inl (omega (arith, cut, count-new, same.0))
          | inr none ↦
              let nothing = none-left piece.lefts of.spent (omega (arith, none)) in
              inr (omega (arith, none, count-new, same.0), omega (arith, nothing, fewer, same.1))
        ]
      ]

      pub taken-more : IsTakenSoFar old quota (count + 1) new
      taken-more = record {
        book = new_is;
        problem = taken.problem ∙ so_far.problem;
        lowered = lowered-next old.best book.best new.best so_far.lowered
            (subst (IsLowered book.best) (sym taken.best) (lower-lowered book.best piece.best));
        few = few-more;
        old_zones = zones-more;
        left = so_far.left ++ map named piece.lefts;
        lefts = lefts-more;
        blocks = blocks-more;
        progress = progress-more;
      }

-- ---- the whole round

pub round-taken : (workers budget : ℕ) (old new : Book) →
    AreRounds (problem_of old) workers budget old.best.height old.trace old.lefts →
    1 ≤ blocks_at workers budget old.trace old.lefts → length old.trace < budget →
    IsTakenSoFar old (quota_at workers budget old.trace old.lefts) (blocks_at workers budget old.trace old.lefts) new →
    IsRoundTaken workers budget old new
round-taken workers budget old new rounds some cuts is =
    let blocks = blocks_at workers budget old.trace old.lefts in
    let fit = shares-fit (budget - length old.trace) blocks (omega arith) in
    record {
      book = is.book;
      problem = is.problem;
      lowered = is.lowered;
      within = omega (arith, is.few, fit, cuts);
      rounds = subst (AreRounds (problem_of old) workers budget new.best.height new.trace) (sym is.lefts)
          (round old.trace old.lefts
          (rounds-lower (problem_of old) workers budget old.best.height new.best.height (lowered-le old.best new.best is.lowered)
          rounds)
          some new.trace is.left is.blocks);
      progress = elim is.progress [
        | inl more ↦ inl more
        | inr same ↦ inr (same.0, omega (arith, same.1, some))
      ];
    }

-- ---- the piece of each zone

-- the piece with this number is of the zone that has it among those left
pub piece-at : (old : Book) (quota : ℕ) (pieces : List Piece) → length pieces ≤ length old.lefts →
    ArePiecesOf (problem_of old) (map (zone_of (problem_of old) old.trace) (take (length pieces) old.lefts)) old.best.height quota
    pieces → (count : ℕ) (piece : Piece) → count < length pieces → piece ≡ get_or pieces count piece →
    IsPieceOf (problem_of old) (zone_of (problem_of old) old.trace (get_or old.lefts count 0)) old.best.height quota piece.best
    piece.trace piece.lefts
piece-at old quota pieces enough all count piece within at =
    let f = zone_of (problem_of old) old.trace in
    let zones = map f (take (length pieces) old.lefts) in
    let R = λ (zone : List Range) (one : Piece). IsPieceOf (problem_of old) zone old.best.height quota one.best one.trace
    one.lefts in
    let many : length zones ≡ length pieces = AllZip-length R zones pieces all in
    let is = AllZip-get_or R zones pieces count (f 0) piece all (omega (arith, within, many)) in
    let zone : get_or zones count (f 0) ≡ f (get_or old.lefts count 0) =
    get_or-map f (take (length pieces) old.lefts) count 0 ∙ ap f (get_or-take (length pieces) old.lefts count 0 within) in
    subst (λ one. R (f (get_or old.lefts count 0)) one) (sym at)
    (subst (λ z. R z (get_or pieces count piece)) zone is)

-- so many pieces as blocks of the round
pub pieces-count : (old : Book) (quota blocks : ℕ) (pieces : List Piece) → blocks ≤ length old.lefts →
    ArePiecesOf (problem_of old) (map (zone_of (problem_of old) old.trace) (take blocks old.lefts)) old.best.height quota pieces →
    length pieces ≡ blocks
pieces-count old quota blocks pieces enough all =
    let f = zone_of (problem_of old) old.trace in
    let R = λ (zone : List Range) (one : Piece). IsPieceOf (problem_of old) zone old.best.height quota one.best one.trace
    one.lefts in
    sym (AllZip-length R (map f (take blocks old.lefts)) pieces all) ∙ length-map (take blocks old.lefts) f ∙
    length-take-le blocks old.lefts enough where
      length-take-le : (n : ℕ) (xs : List ℕ) → n ≤ length xs → length (take n xs) ≡ n
      length-take-le n xs within = omega (arith, length-take n xs, within)

-- one more piece has room for its cuts
pub next-few : (old now count pieces quota cuts : ℕ) → now ≤ old + count * quota → cuts ≤ quota → count < pieces →
    old + pieces * quota ≤ MAX_BUDGET → now + cuts ≤ MAX_BUDGET
next-few old now count pieces quota cuts so_far few within all =
    let one : suc count * quota ≡ count * quota + quota = suc-mul count quota in
    let more : suc count * quota ≤ pieces * quota = mul-le-mul_right quota within in
    omega (arith, so_far, few, one, more, all)

-- ---- how a round is dealt out

some-length : (lefts : List ℕ) → lefts ≢ [] → 1 ≤ length lefts
some-length [] some = absurd (some refl)
some-length (z ∷ lefts) some = omega arith

pub blocks-some : (workers budget : ℕ) (trace : List CutAt) (lefts : List ℕ) → 1 ≤ workers → lefts ≢ [] →
    length trace < budget → 1 ≤ blocks_at workers budget trace lefts
blocks-some workers budget trace lefts some left cuts = let one = some-length lefts left in omega (arith, some, one, cuts)

pub blocks-most : (workers budget : ℕ) (trace : List CutAt) (lefts : List ℕ) →
    (blocks_at workers budget trace lefts ≤ workers) × (blocks_at workers budget trace lefts ≤ length lefts)
    × (blocks_at workers budget trace lefts ≤ budget - length trace)
blocks-most workers budget trace lefts = (omega arith, omega arith, omega arith)

-- so many zones
pub zones-count : {X : Type 0} (f : ℕ → X) (lefts : List ℕ) (blocks : ℕ) (zones : List X) → blocks ≤ length lefts →
    zones ≡ map f (take blocks lefts) → length zones ≡ blocks
zones-count f lefts blocks zones within are =
    let count = ap length are ∙ length-map (take blocks lefts) f in
    omega (arith, count, within, length-take blocks lefts)

-- the cuts of all pieces together are within the budget
pub round-few : (workers budget : ℕ) (trace : List CutAt) (lefts : List ℕ) (pieces : ℕ) →
    length trace < budget → budget ≤ MAX_BUDGET →
    pieces ≡ blocks_at workers budget trace lefts → length trace + pieces * quota_at workers budget trace lefts ≤ MAX_BUDGET
round-few workers budget trace lefts pieces cuts few same =
    let most = blocks-most workers budget trace lefts in
    let fit = shares-fit (budget - length trace) (blocks_at workers budget trace lefts) most.2 in
    rw same (omega (arith, cuts, few, fit))

-- as many pieces as zones
pub zones-many : (problem : ProblemModel) (f : ℕ → List Range) (lefts : List ℕ) (blocks best quota : ℕ) (pieces : List Piece) →
    blocks ≤ length lefts → ArePiecesOf problem (map f (take blocks lefts)) best quota pieces → length pieces ≡ blocks
zones-many problem f lefts blocks best quota pieces within all =
    let many = AllZip-length (λ (zone : List Range) (one : Piece). IsPieceOf problem zone best quota one.best one.trace one.lefts)
    (map f (take blocks lefts)) pieces all in
    omega (arith, many, zones-count f lefts blocks (map f (take blocks lefts)) within refl)
