-- The turns so far, and how the run ends.
use Rattle.std.proofs.Common.{◌∙◌, arith, refl}
use Rattle.tl_batch.proofs.Turning.{finished, finished_by, limit_ends, none_yet, turn_taken}
use Rattle.tl_batch.proofs.turns.batch.Goals as goal

pub loop-init : goal.loop-init
loop-init g c = record { answered = none_yet g.E.Exchange c.args.exchange.now; reads = refl; writes = refl }

pub loop-preserved : goal.loop-preserved
loop-preserved g c = record {
  answered = turn_taken g.E.Exchange c.args.exchange.now c.loop.exchange c.take_turn.new.exchange c.loop.counter
      c.loop.invariant.answered c.in_default.ensures.answers;
  reads = c.in_default.ensures.reads ∙ c.loop.invariant.reads;
  writes = c.in_default.ensures.writes ∙ c.loop.invariant.writes;
}

pub returns-in-Err-clause-answers : goal.returns-in-Err-clause-answers
returns-in-Err-clause-answers g c = finished g.E.Exchange c.args.exchange.now c.loop.exchange c.take_turn.new.exchange
    c.last_answer.new.exchange c.loop.counter c.last_answer.result c.in-Err.ending c.loop.invariant.answered
    c.in-Err.ensures.ends c.last_answer.ensures.usage c.last_answer.ensures.others c.last_answer.ensures.same

pub returns-in-Err-clause-cause : goal.returns-in-Err-clause-cause
returns-in-Err-clause-cause g c = finished_by g.E.Exchange c.args.exchange.now c.loop.exchange c.take_turn.new.exchange
    c.last_answer.new.exchange c.loop.counter c.last_answer.result c.in-Err.ending c.loop.invariant.reads
    c.loop.invariant.writes c.in-Err.ensures.ends c.last_answer.ensures.usage c.last_answer.ensures.others
    c.last_answer.ensures.same

pub returns-clause-answers : goal.returns-clause-answers
returns-clause-answers g c = limit_ends g.E.Exchange c.args.exchange.now c.loop.exchange c.loop.counter
    c.loop.invariant.answered (omega (arith, c.loop-test.false))

pub returns-clause-cause : goal.returns-clause-cause
returns-clause-cause g c = tt
