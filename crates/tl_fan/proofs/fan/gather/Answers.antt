use Rattle.std.proofs.Common.{◌∙◌, Ok, sym}
use Rattle.std.proofs.lemmas.List.{map-id}
use Rattle.std.proofs.lemmas.Iterator.Adapters.{YieldsList-from_vec}
use Rattle.std.proofs.lemmas.Iterator.Consumers.{YieldsList-end}
use Rattle.tl_fan.proofs.Pieces.{all_ok}
use Rattle.tl_fan.proofs.fan.gather.Goals as goal

pub returns : goal.returns
returns g c =
    let results = c.in_ok-results.results in
    let given = c.into_iter-result-iterator.ensures.into_iter_gives in
    let road = YieldsList-from_vec {s = c.into_iter-result-iterator.result} results.items given.0 (given.1 ∙ results.ok.0) in
    let end = YieldsList-end road c.loop-result.yielded c.loop-result.result-iterator c.loop-result.yielded_by
    c.next.result c.next.new.self c.in-None.is c.next.ensures.steps in
    all_ok (λ number one. g.F.Fn.post c.args.piece.now (number, tt) one) Ok c.args.numbers.now c.loop-result.found.items
    results.items (sym end.0 ∙ map-id c.loop-result.yielded ∙ c.loop-result.invariant) c.in_ok-results.ensures
