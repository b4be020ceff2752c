-- What has been read of the options.
use Rattle.std.proofs.Common.{map, string_bytes, length}
use Rattle.tl_command.specs.inner.OptionsRead.{HasReadOptions}
use Rattle.tl_command.proofs.options.Options.parse.Given as goal

abbrev pub invariant-loop-rest : goal.invariant-loop-rest
invariant-loop-rest l = HasReadOptions l.command (map string_bytes l.words) l.options (map string_bytes l.rest)

abbrev pub decreases-loop-rest : goal.decreases-loop-rest
decreases-loop-rest l = length l.rest
