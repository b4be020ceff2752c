use Rattle.std.proofs.Common.{◌∙◌, ◌<◌, [], ◌∷◌, length, get_or, sym, ap, subst, arith, length-append}
use Rattle.std.specs.List.{Contains}
use Rattle.std.proofs.lemmas.List.{map-id}
use Rattle.std.proofs.lemmas.Iterator.Adapters.{YieldsList-from_vec}
use Rattle.std.proofs.lemmas.Iterator.Consumers.{YieldsList-end, YieldsList-turn}
use Rattle.tl_rounds.specs.Book.{IsPieceFor, IsTaken}
use Rattle.tl_rounds.specs.inner.Takings.{IsTakenSoFar}
use Rattle.tl_rounds.proofs.RoundLaws.{next-few, next-first, next-left, next-piece, piece-at, taken-more, taken-none}
use Rattle.tl_rounds.proofs.rounds.take_pieces.Goals as goal

pub loop-piece-init : goal.loop-piece-init
loop-piece-init c = taken-none c.args.book.now c.args.quota c.requires.book

pub take-requires-clause-left : goal.take-requires-clause-left
take-requires-clause-left c =
    let pieces = c.args.pieces in
    let given = c.into_iter-piece-iterator.ensures.into_iter_gives in
    let road = YieldsList-from_vec {s = c.into_iter-piece-iterator.result} pieces.items given.0 (given.1 ∙ pieces.ok.0) in
    let turn = YieldsList-turn road c.loop-piece.yielded c.loop-piece.piece-iterator c.loop-piece.yielded_by
    c.next.result c.next.new.self c.in-Some.piece c.in-Some.is c.next.ensures.steps in
    let old = c.args.book.now in
    let book = c.loop-piece.book in
    let count = length c.loop-piece.yielded in
    let within : count < length old.lefts = omega (arith, turn.0, c.requires.enough) in
    let first = ap (λ lefts. get_or lefts 0 0) c.lefts.ensures ∙ next-first old book c.args.quota count c.requires.book
    c.loop-piece.invariant within in
    subst (Contains book.lefts) (sym first)
    (next-left old book c.args.quota count c.requires.book c.loop-piece.invariant within)

pub take-requires-clause-piece : goal.take-requires-clause-piece
take-requires-clause-piece c =
    let pieces = c.args.pieces in
    let given = c.into_iter-piece-iterator.ensures.into_iter_gives in
    let road = YieldsList-from_vec {s = c.into_iter-piece-iterator.result} pieces.items given.0 (given.1 ∙ pieces.ok.0) in
    let turn = YieldsList-turn road c.loop-piece.yielded c.loop-piece.piece-iterator c.loop-piece.yielded_by
    c.next.result c.next.new.self c.in-Some.piece c.in-Some.is c.next.ensures.steps in
    let old = c.args.book.now in
    let book = c.loop-piece.book in
    let count = length c.loop-piece.yielded in
    let within : count < length old.lefts = omega (arith, turn.0, c.requires.enough) in
    let first = ap (λ lefts. get_or lefts 0 0) c.lefts.ensures ∙ next-first old book c.args.quota count c.requires.book
    c.loop-piece.invariant within in
    let of = piece-at old c.args.quota pieces.items c.requires.enough c.requires.pieces count c.in-Some.piece turn.0 turn.1 in
    subst (λ z. IsPieceFor book z c.in-Some.piece) (sym first)
    (next-piece old book c.args.quota count c.requires.book c.loop-piece.invariant within c.in-Some.piece of)

pub take-requires-clause-few : goal.take-requires-clause-few
take-requires-clause-few c =
    let pieces = c.args.pieces in
    let given = c.into_iter-piece-iterator.ensures.into_iter_gives in
    let road = YieldsList-from_vec {s = c.into_iter-piece-iterator.result} pieces.items given.0 (given.1 ∙ pieces.ok.0) in
    let turn = YieldsList-turn road c.loop-piece.yielded c.loop-piece.piece-iterator c.loop-piece.yielded_by
    c.next.result c.next.new.self c.in-Some.piece c.in-Some.is c.next.ensures.steps in
    let old = c.args.book.now in
    let of = piece-at old c.args.quota pieces.items c.requires.enough c.requires.pieces (length c.loop-piece.yielded)
    c.in-Some.piece turn.0 turn.1 in
    next-few (length old.trace) (length c.loop-piece.book.trace) (length c.loop-piece.yielded) (length pieces.items) c.args.quota
    (length c.in-Some.piece.trace) c.loop-piece.invariant.few of.few turn.0 c.requires.few

pub loop-piece-preserved : goal.loop-piece-preserved
loop-piece-preserved c =
    let pieces = c.args.pieces in
    let given = c.into_iter-piece-iterator.ensures.into_iter_gives in
    let road = YieldsList-from_vec {s = c.into_iter-piece-iterator.result} pieces.items given.0 (given.1 ∙ pieces.ok.0) in
    let turn = YieldsList-turn road c.loop-piece.yielded c.loop-piece.piece-iterator c.loop-piece.yielded_by
    c.next.result c.next.new.self c.in-Some.piece c.in-Some.is c.next.ensures.steps in
    let old = c.args.book.now in
    let book = c.loop-piece.book in
    let new = c.take.new.self in
    let count = length c.loop-piece.yielded in
    let within : count < length old.lefts = omega (arith, turn.0, c.requires.enough) in
    let first = ap (λ lefts. get_or lefts 0 0) c.lefts.ensures ∙ next-first old book c.args.quota count c.requires.book
    c.loop-piece.invariant within in
    let of = piece-at old c.args.quota pieces.items c.requires.enough c.requires.pieces count c.in-Some.piece turn.0 turn.1 in
    subst (λ n. IsTakenSoFar old c.args.quota n new) (sym (length-append c.loop-piece.yielded (c.in-Some.piece ∷ [])))
    (taken-more old book c.args.quota count c.requires.book c.loop-piece.invariant within c.in-Some.piece of new
    c.in_ok-take.ensures.book (subst (λ z. IsTaken book z c.in-Some.piece new) first c.in_ok-take.ensures.taken)
    c.requires.some)

pub returns : goal.returns
returns c =
    let pieces = c.args.pieces in
    let given = c.into_iter-piece-iterator.ensures.into_iter_gives in
    let road = YieldsList-from_vec {s = c.into_iter-piece-iterator.result} pieces.items given.0 (given.1 ∙ pieces.ok.0) in
    let end = YieldsList-end road c.loop-piece.yielded c.loop-piece.piece-iterator c.loop-piece.yielded_by
    c.next.result c.next.new.self c.in-None.is c.next.ensures.steps in
    subst (λ n. IsTakenSoFar c.args.book.now c.args.quota n c.loop-piece.book)
    (ap length (sym (map-id c.loop-piece.yielded) ∙ end.0)) c.loop-piece.invariant
