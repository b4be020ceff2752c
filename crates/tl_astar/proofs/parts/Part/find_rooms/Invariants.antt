use Rattle.std.proofs.Common.{◌≡◌, length}
use Rattle.tl_astar.proofs.parts.Part.find_rooms.Given as goal

abbrev pub invariant-loop-number : goal.invariant-loop-number
invariant-loop-number l = length l.self.rooms.items ≡ l.number
