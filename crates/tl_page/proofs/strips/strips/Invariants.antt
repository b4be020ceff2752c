-- What is put so far and the strips that are left are all strips.
use Rattle.std.proofs.Common.{◌≡◌, ◌++◌, ◌+◌, ◌*◌, ◌<◌, ◌-◌, ◌^◌, length, drop, sum}
use Rattle.tl_page.specs.Strips.{strips_from, strips}
use Rattle.tl_page.proofs.strips.strips.Given as goal

abbrev pub invariant-loop-size : goal.invariant-loop-size
invariant-loop-size l = record {
  so_far : l.list ++ strips_from l.gaps l.edge l.slot l.from (drop l.size-index l.sizes) ≡ strips l.gaps l.edge l.sizes;
  slot : l.slot ≡ l.size-index + 1;
  room : l.from + sum (drop l.size-index l.sizes) + 3 * (length l.sizes - l.size-index) < 2 ^ 31 + 2;
}
