-- A law of books. It is the contract of a function of `laws`.
use Rattle.std.specs.Prelude.{◌≢◌, ℕ}
use Rattle.std.specs.List.{Contains}
use Rattle.tl_solve.specs.declared.piece.Piece.{Piece}
use Rattle.tl_rounds.specs.declared.book.Book.{Book}
use Rattle.tl_rounds.specs.Book.{IsBook, IsPieceFor, IsTaken}

-- a piece that could be taken in before another one can be taken in after it: so pieces of several zones that are left may be
-- taken in in any order
abbrev pub PiecesStay : Type 0
PiecesStay = (old new : Book) (z y : ℕ) (piece other : Piece) → IsBook old → Contains old.lefts z → IsPieceFor old z piece →
    IsTaken old z piece new →
    Contains old.lefts y → y ≢ z → IsPieceFor old y other → Contains new.lefts y × IsPieceFor new y other
