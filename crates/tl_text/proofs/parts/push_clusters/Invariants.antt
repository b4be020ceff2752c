use Rattle.std.proofs.Common.{◌≡◌, ◌++◌, map}
use Rattle.std.specs.Str.{chars}
use Rattle.tl_text.proofs.parts.push_clusters.Given as goal

-- the clusters so far stand at the end
abbrev pub invariant-loop-cluster : goal.invariant-loop-cluster
invariant-loop-cluster l = l.pieces ≡ l.initial.pieces ++ map (λ piece. chars piece.now) l.yielded
