-- What one read gives comes after what was filled before.
use Rattle.std.proofs.Common.{◌≡◌, ◌-◌, List, ℕ, Option, length, take, arith}
use Rattle.std.specs.Io.KnownBytes.{Consumes}
use Rattle.std.proofs.lemmas.Slice.{take-put_mid_below}
use Rattle.tl_exchange.proofs.KnownBytes.{consumes_both, consumes_kept, filled_part, filled_within}
use Rattle.tl_exchange.proofs.streams.fill.Goals.{in-Ok, in-Err}
use Rattle.tl_exchange.proofs.streams.fill.Goals as goal

-- what is taken, as it stands in the buffer
taken_is : (old new : Option (List ℕ)) (one other : List ℕ) → one ≡ other → Consumes old new other → Consumes old new one
taken_is old new one other is taken = rw is taken

pub loop-preserved : goal.loop-preserved
loop-preserved g c =
    let remaining = g.R.Read.remaining in
    let filled = c.loop.filled in
    let rest = length c.loop.buffer - filled in
    let within = c.loop.invariant.within in
    elim c.match-read.branch [
      | in-Ok w ↦
          let count = w.in-Ok.count in
          let few = w.in-Ok.ensures.bound.0 in
          record {
            within = rw w.filled-is (filled_within filled count rest c.loop.buffer c.read.new.buf within few);
            taken = rw w.filled-is (taken_is (remaining c.args.reader.now) (remaining c.read.new.self) _ _
                (filled_part filled count rest c.loop.buffer c.read.new.buf within few)
                (consumes_both (remaining c.args.reader.now) (remaining c.loop.reader) (remaining c.read.new.self)
                (take filled c.loop.buffer) (take count c.read.new.buf) c.loop.invariant.taken
                w.in-Ok.ensures.bytes.0));
          }
      | in-Err w ↦ record {
        within = rw w.filled-is (omega (arith, filled_within filled 0 rest c.loop.buffer c.read.new.buf within (omega arith)));
        taken = rw w.filled-is (taken_is (remaining c.args.reader.now) (remaining c.read.new.self) _ _
            (take-put_mid_below filled rest c.loop.buffer c.read.new.buf filled (omega arith) within)
            (consumes_kept (remaining c.args.reader.now) (remaining c.loop.reader) (remaining c.read.new.self)
            (take filled c.loop.buffer) c.loop.invariant.taken w.in-Err.ensures.bytes));
      }
    ]
