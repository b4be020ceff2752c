use Rattle.std.proofs.Common.{◌≡◌, ◌∙◌, ◌+◌, ◌-◌, ◌*◌, ◌^◌, ◌<◌, ◌≤◌, List, length, map, take, sym, ap, subst, arith}
use Rattle.std.specs.List.{All}
use Rattle.std.proofs.lemmas.Result.{on_ok_weaker}
use Rattle.tl_base.specs.declared.limits.TheConstants.{MAX_BUDGET}
use Rattle.tl_problem.specs.declared.placed.Placed.{Placed}
use Rattle.tl_problem.specs.declared.zone.Range.{Range}
use Rattle.tl_problem.specs.Sound.{IsSound}
use Rattle.tl_problem.specs.Zones.{IsZone}
use Rattle.tl_cert.specs.Traces.{zone_of}
use Rattle.tl_rounds.specs.Book.{problem_of}
use Rattle.tl_rounds.specs.Fans.{ArePiecesOf}
use Rattle.tl_rounds.specs.MadeOfRounds.{blocks_at, quota_at, quota_of}
use Rattle.tl_rounds.specs.inner.Takings.{IsTakenSoFar}
use Rattle.tl_rounds.proofs.RoundLaws.{blocks-most, blocks-some, pieces-count, round-few, round-taken, zones-count, zones-many}
use Rattle.tl_rounds.proofs.Shares.{quota-most, share-some}
use Rattle.tl_rounds.proofs.rounds.take_round.Goals as goal

pub pieces_of-requires-clause-sound : goal.pieces_of-requires-clause-sound
pieces_of-requires-clause-sound g c = subst IsSound (sym c.problem.ensures) c.requires.book.sound

pub pieces_of-requires-clause-few : goal.pieces_of-requires-clause-few
pieces_of-requires-clause-few g c =
    let book = c.args.book.now in
    let most = blocks-most c.args.workers c.args.budget book.trace book.lefts in
    let items = c.in_ok-zones.zones.items in
    let count = zones-count (zone_of (problem_of book) book.trace) book.lefts c.blocks_at-blocks.result items
    (omega (arith, c.blocks_at-blocks.ensures, most.1)) c.in_ok-zones.ensures.zones in
    let small : length items < 2 ^ 32 = omega (arith, count, c.blocks_at-blocks.ensures, most.0, c.ranges.workers.fits) in
    subst (λ (zones : List (List Range)). length zones < 2 ^ 32) (sym c.deref.ensures.value) small

pub pieces_of-requires-clause-zones : goal.pieces_of-requires-clause-zones
pieces_of-requires-clause-zones g c =
    subst (λ q. All (IsZone q) c.deref.result.now) (sym c.problem.ensures)
    (subst (All (IsZone (problem_of c.args.book.now))) (sym c.deref.ensures.value) c.in_ok-zones.ensures.of)

pub pieces_of-requires-clause-some : goal.pieces_of-requires-clause-some
pieces_of-requires-clause-some g c =
    omega (arith, c.quota_of-quota.ensures, share-some (c.args.budget - c.cuts.result) c.blocks_at-blocks.result)

pub pieces_of-requires-clause-quota : goal.pieces_of-requires-clause-quota
pieces_of-requires-clause-quota g c =
    let book = c.args.book.now in
    let b = c.blocks_at-blocks.result in
    let some = blocks-some c.args.workers c.args.budget book.trace book.lefts c.requires.workers c.requires.left
    c.requires.cuts in
    omega (
      arith,
      c.quota_of-quota.ensures,
      quota-most (c.args.budget - c.cuts.result) b MAX_BUDGET
          (omega (arith, c.cuts.ensures, c.requires.cuts)) (omega (arith, c.blocks_at-blocks.ensures, some))
          (omega (arith, c.requires.budget)),
    )

-- the pieces are of the first zones that are left
pub take_pieces-requires-clause-pieces : goal.take_pieces-requires-clause-pieces
take_pieces-requires-clause-pieces g c =
    let book = c.args.book.now in
    let p = problem_of book in
    let f = zone_of p book.trace in
    let b = c.blocks_at-blocks.result in
    let q = c.quota_of-quota.result in
    let h = c.best.result.now.height in
    let pieces = c.in_ok-pieces.pieces in
    let most = blocks-most c.args.workers c.args.budget book.trace book.lefts in
    let gave = c.in_ok-pieces.ensures in
    let of_book = subst (λ problem. ArePiecesOf problem c.deref.result.now h q pieces.items) c.problem.ensures gave in
    let zones = subst (λ some. ArePiecesOf p some h q pieces.items) (c.deref.ensures.value ∙ c.in_ok-zones.ensures.zones)
    of_book in
    let height = subst (λ n. ArePiecesOf p (map f (take b book.lefts)) n q pieces.items)
    (ap (λ (placed : Placed). placed.height) c.best.ensures) zones in
    let count = pieces-count book q b pieces.items (omega (arith, c.blocks_at-blocks.ensures, most.1)) height in
    subst (λ n. ArePiecesOf p (map f (take n book.lefts)) book.best.height q pieces.items) (sym count) height

pub take_pieces-requires-clause-enough : goal.take_pieces-requires-clause-enough
take_pieces-requires-clause-enough g c =
    let book = c.args.book.now in
    let p = problem_of book in
    let f = zone_of p book.trace in
    let b = c.blocks_at-blocks.result in
    let q = c.quota_of-quota.result in
    let h = c.best.result.now.height in
    let pieces = c.in_ok-pieces.pieces in
    let most = blocks-most c.args.workers c.args.budget book.trace book.lefts in
    let gave = c.in_ok-pieces.ensures in
    let zones = subst (λ some. ArePiecesOf c.problem.result.now some h q pieces.items)
    (c.deref.ensures.value ∙ c.in_ok-zones.ensures.zones) gave in
    let count = zones-many c.problem.result.now f book.lefts b h q pieces.items
    (omega (arith, c.blocks_at-blocks.ensures, most.1)) zones in
    omega (arith, count, c.blocks_at-blocks.ensures, most.1)

pub take_pieces-requires-clause-few : goal.take_pieces-requires-clause-few
take_pieces-requires-clause-few g c =
    let book = c.args.book.now in
    let p = problem_of book in
    let f = zone_of p book.trace in
    let b = c.blocks_at-blocks.result in
    let q = c.quota_of-quota.result in
    let h = c.best.result.now.height in
    let pieces = c.in_ok-pieces.pieces in
    let most = blocks-most c.args.workers c.args.budget book.trace book.lefts in
    let gave = c.in_ok-pieces.ensures in
    let zones = subst (λ some. ArePiecesOf c.problem.result.now some h q pieces.items)
    (c.deref.ensures.value ∙ c.in_ok-zones.ensures.zones) gave in
    let count = zones-many c.problem.result.now f book.lefts b h q pieces.items
    (omega (arith, c.blocks_at-blocks.ensures, most.1)) zones in
    let quota : q ≡ quota_at c.args.workers c.args.budget book.trace book.lefts =
    c.quota_of-quota.ensures ∙ ap (λ n. quota_of (c.args.budget - n) b) c.cuts.ensures ∙ ap
    (quota_of (c.args.budget - length book.trace)) c.blocks_at-blocks.ensures in
    subst (λ n. length book.trace + length pieces.items * n ≤ MAX_BUDGET) (sym quota)
    (round-few c.args.workers c.args.budget book.trace book.lefts (length pieces.items) c.requires.cuts c.requires.budget
    (count ∙ c.blocks_at-blocks.ensures))

pub returns : goal.returns
returns g c =
    let book = c.args.book.now in
    let p = problem_of book in
    let f = zone_of p book.trace in
    let b = c.blocks_at-blocks.result in
    let q = c.quota_of-quota.result in
    let h = c.best.result.now.height in
    let pieces = c.in_ok-pieces.pieces in
    let new = c.take_pieces.new.book in
    let most = blocks-most c.args.workers c.args.budget book.trace book.lefts in
    let gave = c.in_ok-pieces.ensures in
    let zones = subst (λ some. ArePiecesOf c.problem.result.now some h q pieces.items)
    (c.deref.ensures.value ∙ c.in_ok-zones.ensures.zones) gave in
    let count = zones-many c.problem.result.now f book.lefts b h q pieces.items
    (omega (arith, c.blocks_at-blocks.ensures, most.1)) zones in
    let quota : q ≡ quota_at c.args.workers c.args.budget book.trace book.lefts =
    c.quota_of-quota.ensures ∙ ap (λ n. quota_of (c.args.budget - n) b) c.cuts.ensures ∙ ap
    (quota_of (c.args.budget - length book.trace)) c.blocks_at-blocks.ensures in
    on_ok_weaker c.take_pieces.result (λ taken. round-taken c.args.workers c.args.budget book new c.requires.rounds
    (blocks-some c.args.workers c.args.budget book.trace book.lefts c.requires.workers c.requires.left c.requires.cuts)
    c.requires.cuts
    (subst (λ n. IsTakenSoFar book n (blocks_at c.args.workers c.args.budget book.trace book.lefts) new) quota
    (subst (λ n. IsTakenSoFar book q n new) (count ∙ c.blocks_at-blocks.ensures) taken))) c.take_pieces.ensures
