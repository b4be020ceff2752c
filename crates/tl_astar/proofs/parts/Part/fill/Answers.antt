-- The rises of every span count, as each span has a room.
use Rattle.std.proofs.Common.{◌<◌, length, get_or, sym, ap, subst₂, arith}
use Rattle.std.proofs.lemmas.List.{with_items_is}
use Rattle.tl_astar.specs.inner.Rises.{AreHighEnough, Wants, rises_of}
use Rattle.tl_astar.proofs.parts.Part.fill.Goals as goal

pub returns-clause-each_span : goal.returns-clause-each_span
returns-clause-each_span c = λ span within.
    let heights = with_items_is c.extend_from_slice.new.self c.raise_all.new.heights (omega arith) in
    let rooms = c.deref-2.ensures.value in
    let there : span < length c.deref-2.result.now = omega (arith, within, ap length rooms, c.in_ok-find_rooms.ensures) in
    subst₂ (λ all lines. AreHighEnough (Wants (rises_of c.args.sight.now.rises span) (get_or all span 0)) lines) rooms
    (sym heights) (c.raise_all.ensures.each_span span there)
