use Rattle.std.proofs.Common.{◌≡◌, ◌∙◌, ◌+◌, ◌<◌, ℕ, refl, [], List, length, get_or, ap, subst, arith}
use Rattle.std.specs.List.{AllZip, range_with_len}
use Rattle.std.proofs.lemmas.Result.{IfOk-weaker}
use Rattle.std.proofs.lemmas.List.FromFn.{length-range_with_len, get_or-range_with_len}
use Rattle.tl_base.proofs.Zips.{AllZip-weaker}
use Rattle.tl_problem.specs.declared.zone.Range.{Range}
use Rattle.tl_solve.specs.declared.piece.Piece.{Piece}
use Rattle.tl_solve.specs.Piece.{IsPieceOf}
use Rattle.tl_rounds.specs.Fans.{ArePiecesOf}
use Rattle.tl_rounds.proofs.Places.{by-numbers}
use Rattle.tl_rounds.proofs.fan.pieces_at_once.Goals as goal

pub gather-requires-after_bounds : goal.gather-requires-after_bounds
gather-requires-after_bounds g c κs within = λ k d less.
    let all : c.as_slice.result.now ≡ range_with_len 0 (length c.args.zones.now) = c.as_slice.ensures.value ∙ c.in_ok-numbers.ensures in
    let here : k < length c.args.zones.now = omega (arith, less, ap length all, length-range_with_len 0 (length c.args.zones.now)) in
    let at : get_or c.as_slice.result.now k d ≡ 0 + k =
    ap (λ numbers. get_or numbers k d) all ∙ get_or-range_with_len 0 (length c.args.zones.now) k d here in (
      omega (arith, at, here),
      c.requires.zones,
      c.requires.some,
      c.requires.quota,
    )

pub returns : goal.returns
returns g c =
    let p = c.args.problem.now in
    let zones = c.args.zones.now in
    let R = λ (zone : List Range) (piece : Piece). IsPieceOf p zone c.args.best c.args.quota piece.best piece.trace piece.lefts in
    let S = λ (number : ℕ) (piece : Piece). R (get_or zones number []) piece in
    IfOk-weaker c.gather.result _ (λ pieces. ArePiecesOf p zones c.args.best c.args.quota pieces.items)
    (λ pieces all. by-numbers R zones pieces.items (length zones) [] refl
    (subst (λ numbers. AllZip S numbers pieces.items) (c.as_slice.ensures.value ∙ c.in_ok-numbers.ensures)
    (AllZip-weaker _ S c.as_slice.result.now pieces.items (λ n one is. is) all)))
    c.gather.ensures
