use Rattle.std.proofs.Common.{◌≡◌, ◌++◌}
use Rattle.tl_text.specs.Clusters.{word_of}
use Rattle.tl_text.proofs.ClusterLemmas.{is_none}
use Rattle.tl_text.proofs.parts.push_as_word.Given as goal

-- the pieces so far are units at the end, and the first of all begins the word
abbrev pub invariant-loop-piece : goal.invariant-loop-piece
invariant-loop-piece l = (l.units ≡ l.initial.units ++ word_of l.yielded) × (l.begins ≡ is_none l.yielded)
