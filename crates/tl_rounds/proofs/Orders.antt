-- A piece of another zone stays one of it when a piece is taken in.
use Rattle.std.proofs.Common.{◌≡◌, ◌≢◌, ℕ, ◌≤◌, length, map, sym, ap, ◌∙◌, subst, arith}
use Rattle.std.specs.List.{Contains}
use Rattle.std.proofs.lemmas.List.Elements.{All-contains, Contains-append_left}
use Rattle.tl_problem.specs.Problem.{ProblemModel}
use Rattle.tl_cert.specs.Appended.{zone_named}
use Rattle.tl_cert.specs.Traces.{Stands, zone_of}
use Rattle.tl_solve.specs.declared.piece.Piece.{Piece}
use Rattle.tl_solve.specs.Piece.{IsPieceOf}
use Rattle.tl_rounds.specs.declared.book.Book.{Book}
use Rattle.tl_rounds.specs.Book.{IsBook, IsPieceFor, IsTaken, IsUpToOpening, problem_of, without}
use Rattle.tl_rounds.proofs.Covered.{app, lower-height, without-keeps}

module _ (old new : Book) (z y : ℕ) (piece other : Piece) (is : IsBook old) (has : Contains old.lefts z)
    (of : IsPieceFor old z piece) (taken : IsTaken old z piece new) (other_has : Contains old.lefts y) (apart : y ≢ z)
    (other_of : IsPieceFor old y other) where
  abbrev problem : ProblemModel
  problem = problem_of old

  same-zone : zone_of problem new.trace y ≡ zone_of problem old.trace y
  same-zone =
      let now = app problem old.trace old.lefts old.best is.covering z has of.given of.quota piece.best piece.trace piece.lefts
      of.piece_of of.from of.upto in
      let there = (All-contains (Stands old.trace) old.lefts y is.covering.left.standing other_has).there in
      ap (λ cuts. zone_of problem cuts y) taken.trace ∙ now.old y there

  lower : new.best.height ≤ old.best.height
  lower = rw taken.best (lower-height old.best of.given piece.best of.from).0

  pub piece-stays : Contains new.lefts y × IsPieceFor new y other
  piece-stays = (
    subst (λ lefts. Contains lefts y) (sym taken.lefts)
        (Contains-append_left (without z old.lefts) (map (zone_named z (length old.trace)) piece.lefts) y
        (without-keeps z old.lefts y other_has apart)),
    record {
      given = other_of.given;
      quota = other_of.quota;
      from = omega (arith, lower, other_of.from);
      upto = subst (λ p. IsUpToOpening p other_of.given) (sym taken.problem) other_of.upto;
      piece_of = subst (λ p. IsPieceOf p (zone_of p new.trace y) other_of.given other_of.quota other.best other.trace other.lefts)
          (sym taken.problem)
          (subst (λ zone. IsPieceOf problem zone other_of.given other_of.quota other.best other.trace other.lefts)
          (sym same-zone) other_of.piece_of);
    },
  )
