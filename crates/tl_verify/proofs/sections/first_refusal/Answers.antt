use Rattle.std.proofs.Common.{◌∙◌, sym}
use Rattle.std.proofs.lemmas.List.{map-id}
use Rattle.std.proofs.lemmas.Iterator.Adapters.{YieldsList-from_vec}
use Rattle.std.proofs.lemmas.Iterator.Consumers.{YieldsList-end, YieldsList-so_far, YieldsList-turn}
use Rattle.tl_verify.proofs.AllJudged.{first_error, no_error}
use Rattle.tl_verify.proofs.sections.first_refusal.Goals as goal

pub returns-in-Err : goal.returns-in-Err
returns-in-Err c =
    let judged = c.args.judged in
    let given = c.into_iter-one-iterator.ensures.into_iter_gives in
    let road = YieldsList-from_vec {s = c.into_iter-one-iterator.result} judged.items given.0 (given.1 ∙ judged.ok.0) in
    let turn = YieldsList-turn road c.loop-one.yielded c.loop-one.one-iterator c.loop-one.yielded_by
    c.next.result c.next.new.self c.in-Some.one c.in-Some.is c.next.ensures.steps in
    let so_far = YieldsList-so_far road c.loop-one.yielded c.loop-one.one-iterator c.loop-one.yielded_by in
    first_error judged.items c.loop-one.yielded c.in-Some.one c.in-Err.error c.loop-one.invariant
    (sym (map-id c.loop-one.yielded) ∙ so_far) turn.0 turn.1 c.in-Err.is

pub returns : goal.returns
returns c =
    let judged = c.args.judged in
    let given = c.into_iter-one-iterator.ensures.into_iter_gives in
    let road = YieldsList-from_vec {s = c.into_iter-one-iterator.result} judged.items given.0 (given.1 ∙ judged.ok.0) in
    let end = YieldsList-end road c.loop-one.yielded c.loop-one.one-iterator c.loop-one.yielded_by
    c.next.result c.next.new.self c.in-None.is c.next.ensures.steps in
    no_error judged.items c.loop-one.yielded (sym (map-id c.loop-one.yielded) ∙ end.0) c.loop-one.invariant
