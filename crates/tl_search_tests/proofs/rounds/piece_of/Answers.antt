-- The height of the best placement is at most that of the opening, so the piece is one for the book.
use Rattle.std.proofs.Common.{sym, subst, ap, arith}
use Rattle.std.proofs.lemmas.Result.{IfOk-weaker}
use Rattle.tl_problem.specs.declared.placed.Placed.{Placed}
use Rattle.tl_cert.specs.Traces.{zone_of}
use Rattle.tl_solve.specs.declared.piece.Piece.{Piece}
use Rattle.tl_solve.specs.Piece.{IsPieceOf}
use Rattle.tl_rounds.specs.Book.{IsPieceFor, problem_of}
use Rattle.tl_rounds.proofs.Covered.{up-to-opening}
use Rattle.tl_search_tests.proofs.rounds.piece_of.Goals as goal

pub returns : goal.returns
returns c =
    let book = c.args.book.now in
    let p = problem_of book in
    let zone = zone_of p book.trace c.args.z in
    let height = ap (λ (placed : Placed). placed.height) c.best.ensures in
    IfOk-weaker c.piece.result
    (λ piece. IsPieceOf c.args.problem.now c.in_ok-zone.zone c.best.result.now.height c.args.quota piece.best piece.trace
    piece.lefts) (IsPieceFor book c.args.z) (λ (piece : Piece) of. record {
      given = book.best.height;
      quota = c.args.quota;
      from = omega arith;
      upto = up-to-opening p c.requires.book.sound book.trace book.lefts book.best c.requires.book.covering;
      piece_of = subst (λ n. IsPieceOf p zone n c.args.quota piece.best piece.trace piece.lefts) height
          (subst (λ some. IsPieceOf p some c.best.result.now.height c.args.quota piece.best piece.trace piece.lefts)
          c.in_ok-zone.ensures.zone
          (subst (λ q. IsPieceOf q c.in_ok-zone.zone c.best.result.now.height c.args.quota piece.best piece.trace piece.lefts)
          (sym c.requires.problem) of));
    }) c.piece.ensures
