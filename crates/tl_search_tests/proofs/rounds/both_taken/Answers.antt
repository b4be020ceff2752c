-- The other piece can still be taken in after the first.
use Rattle.tl_search_tests.proofs.rounds.both_taken.Goals as goal

pub take-requires-2-clause-left : goal.take-requires-2-clause-left
take-requires-2-clause-left c =
    (c.pieces_stay.ensures c.args.book c.take.new.self c.args.z c.args.y c.args.piece c.args.other c.requires.book
    c.requires.left c.requires.piece c.in_ok-take.ensures.taken c.requires.other_left c.requires.apart c.requires.other).0

pub take-requires-2-clause-piece : goal.take-requires-2-clause-piece
take-requires-2-clause-piece c =
    (c.pieces_stay.ensures c.args.book c.take.new.self c.args.z c.args.y c.args.piece c.args.other c.requires.book
    c.requires.left c.requires.piece c.in_ok-take.ensures.taken c.requires.other_left c.requires.apart c.requires.other).1
