-- The matrix leaves the widths in the zone.
use Rattle.std.proofs.Common.{◌<◌, length}
use Rattle.std.specs.List.{All}
use Rattle.tl_problem.specs.Spans.{spans_of}
use Rattle.tl_problem.specs.Works.{AreAllowed}
use Rattle.tl_problem.specs.Zones.{InZone}
use Rattle.tl_store.specs.Stores.{nogoods_of}
use Rattle.tl_store.proofs.ClosingLaws.{all-from_map, closes-same, allowed-inside, inside-allowed}
use Rattle.tl_store.proofs.store.Store.closes.Goals as goal

pub first_closing-found-requires-clause-spans : goal.first_closing-found-requires-clause-spans
first_closing-found-requires-clause-spans c = rw c.as_slice.ensures.keys
    (all-from_map (All (λ bound. bound.span < length (spans_of c.args.problem.now))) (λ key. key.items)
    c.args.self.now.kept.keys c.requires.store.spans)

pub first_closing-found-requires-clause-heads : goal.first_closing-found-requires-clause-heads
first_closing-found-requires-clause-heads c = rw c.deref.ensures.value c.requires.store.heads

pub first_closing-found-requires-clause-listed : goal.first_closing-found-requires-clause-listed
first_closing-found-requires-clause-listed c = rw (c.deref.ensures.value, c.as_slice.ensures.keys) c.requires.store.listed

pub returns-clause-closes : goal.returns-clause-closes
returns-clause-closes c =
    let p = c.args.problem.now in
    let zone = c.args.zone.now in
    let m = c.keep_ranges.new.matrix.bounds in
    let describes = c.keep_ranges.ensures.describes in
    closes-same p (AreAllowed p m) (InZone p zone) (allowed-inside p zone c.requires.zone m describes)
    (inside-allowed p zone c.requires.zone m describes)
    (nogoods_of c.args.self.now) c.first_closing-found.result
    (rw c.as_slice.ensures.keys at c.first_closing-found.ensures)
