-- What one write takes comes after what was written before.
use Rattle.std.proofs.Common.{◌≡◌, ◌-◌, List, ℕ, Option, arith, drop, length, take}
use Rattle.std.specs.Io.KnownBytes.{Appends}
use Rattle.std.proofs.lemmas.List.{length-drop, length-take}
use Rattle.tl_exchange.proofs.KnownBytes.{appends_both, appends_kept, sent_part}
use Rattle.tl_exchange.proofs.streams.write_out.Goals.{in-Ok, in-Err}
use Rattle.tl_exchange.proofs.streams.write_out.Goals as goal

-- what is sent, as it stands among the bytes
sent_is : (old new : Option (List ℕ)) (one other : List ℕ) → one ≡ other → Appends old new other → Appends old new one
sent_is old new one other is sent = rw is sent

pub loop-preserved : goal.loop-preserved
loop-preserved g c =
    let contents = g.W.Write.contents in
    let bytes = c.args.bytes.now in
    let written = c.loop.written in
    let rest = length bytes - written in
    elim c.match-write.branch [
      | in-Ok w ↦ record {
        within = rw w.written-is (omega (
          arith,
          w.in-Ok.ensures.bound,
          length-take rest (drop written bytes),
          length-drop written bytes,
          c.loop.invariant.within,
        ));
        sent = rw w.written-is (sent_is (contents c.args.writer.now) (contents c.write.new.self) _ _
            (sent_part written w.in-Ok.count rest bytes (omega (arith, length-drop written bytes)))
            (appends_both (contents c.args.writer.now) (contents c.loop.writer) (contents c.write.new.self)
            (take written bytes) (take w.in-Ok.count (take rest (drop written bytes))) c.loop.invariant.sent
            w.in-Ok.ensures.bytes));
      }
      | in-Err w ↦ record {
        within = rw w.written-is c.loop.invariant.within;
        sent = rw w.written-is (appends_kept (contents c.args.writer.now) (contents c.loop.writer)
            (contents c.write.new.self) (take written bytes) c.loop.invariant.sent w.in-Err.ensures.bytes);
      }
    ]
