-- The words from here on have it where all have it.
use Rattle.std.proofs.Common.{◌≡◌, string_bytes, map, drop}
use Rattle.tl_arguments.specs.Progress.{has_progress, asks_for_progress}
use Rattle.tl_arguments.proofs.progress.asks_for_progress.Given as goal

abbrev pub invariant-loop-word : goal.invariant-loop-word
invariant-loop-word l = has_progress l.role (drop l.word-index (map string_bytes l.words))
    ≡ asks_for_progress (map string_bytes l.words)
