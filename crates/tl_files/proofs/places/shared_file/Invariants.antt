use Rattle.std.proofs.Common.{◌≡◌, length}
use Rattle.tl_files.proofs.places.shared_file.Given as goal

abbrev pub invariant-loop-name : goal.invariant-loop-name
invariant-loop-name g l = length l.places.items ≡ l.name-index
