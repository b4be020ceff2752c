use Rattle.tl_rounds.proofs.Orders.{piece-stays}
use Rattle.tl_rounds.proofs.laws.pieces_stay.Goals as goal

pub returns : goal.returns
returns c = λ old new z y piece other is has of taken other_has apart other_of.
    piece-stays old new z y piece other is has of taken other_has apart other_of
