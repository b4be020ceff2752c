-- What one part takes comes after what was read over before.
use Rattle.std.proofs.Common.{◌∙◌, ◌+◌, ◌++◌, ap₂, arith}
use Rattle.std.proofs.lemmas.List.{length-append}
use Rattle.tl_exchange.proofs.KnownBytes.{consumes_both}
use Rattle.tl_exchange.proofs.blocks.skip.Goals as goal

pub loop-left-preserved : goal.loop-left-preserved
loop-left-preserved g c =
    let came = g.E.Exchange.came in
    let before = c.loop-left.invariant in
    let now = c.in_ok-skip_few.ensures.taken in
    record {
      past = before.past + c.min-count.result;
      counted = omega (arith, c.min-count.ensures, before.counted, c.loop-left-test.true);
      taken = record {
        bytes = before.taken.bytes ++ now.bytes;
        sized = length-append before.taken.bytes now.bytes ∙ ap₂ (λ n m. n + m) before.taken.sized now.sized;
        taken = consumes_both (came c.args.exchange.now) (came c.loop-left.exchange) (came c.skip_few.new.exchange)
            before.taken.bytes now.bytes before.taken.taken now.taken;
      };
      unsent = record {
        went = c.skip_few.ensures.unsent.went ∙ before.unsent.went;
        writes = c.skip_few.ensures.unsent.writes ∙ before.unsent.writes;
        reads = omega (arith, c.skip_few.ensures.unsent.reads, before.unsent.reads);
      };
      no_fault = c.in_ok-skip_few.ensures.ok_count ∙ before.no_fault;
    }
