-- What fills the buffer, and what is read over, is the file.
use Rattle.std.proofs.Common.{◌∙◌, ◌≡◌, ◌+◌, ◌-◌, ◌++◌, ap, arith, drop, length, min, take, List, ℕ}
use Rattle.std.proofs.lemmas.List.{length-append}
use Rattle.std.proofs.Math.Seq.{take-append_seam}
use Rattle.tl_exchange.proofs.KnownBytes.{consumes_both}
use Rattle.tl_exchange.proofs.Seen.{kept_is_seen}
use Rattle.tl_exchange.proofs.blocks.receive_file.Goals as goal

-- the first bytes are all of the first part
all_of : (count : ℕ) (first second : List ℕ) → count ≡ length first → take count (first ++ second) ≡ first
all_of count first second is = ap (λ n. take n (first ++ second)) is ∙ take-append_seam first second

pub returns-in_ok-skip-in-Ok-clause-taken : goal.returns-in_ok-skip-in-Ok-clause-taken
returns-in_ok-skip-in-Ok-clause-taken g c =
    let came = g.E.Exchange.came in
    let kept = c.fill.new.buffer in
    let skipped = c.in_ok-skip-in-Ok.ensures.taken in
    let size = c.args.size in
    let count = c.min-kept.result in
    let many : length kept ≡ count = omega (arith, c.fill.auto.buffer, c.as_mut_slice.ensures.len, c.in-Ok.ensures.len) in
    let is_count : count ≡ min size (c.args.most + 1) = c.min-kept.ensures in
    let rest : length skipped.bytes ≡ size - min size (c.args.most + 1) = omega (arith, skipped.sized, is_count) in
    record {
      file = kept ++ skipped.bytes;
      sized = omega (arith, length-append kept skipped.bytes, many, is_count, rest);
      taken = consumes_both (came c.args.exchange.now) (came c.fill.new.exchange) (came c.skip.new.exchange) kept skipped.bytes
          c.in_ok-fill-in-Ok.ensures.taken skipped.taken;
      kept = all_of c.in-Ok.bytes.len kept (drop (length kept) c.in-Ok.bytes.items) (omega (arith, many, c.in-Ok.ensures.len))
          ∙ kept_is_seen c.args.most size kept skipped.bytes (many ∙ is_count) rest;
    }
