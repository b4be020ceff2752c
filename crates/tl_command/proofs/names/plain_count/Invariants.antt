-- The arguments so far do not begin as options do.
use Rattle.std.proofs.Common.{◌≤◌, ◌-◌, map, length, take, string_bytes}
use Rattle.std.specs.List.{All}
use Rattle.tl_command.specs.Ask.{IsNoOption}
use Rattle.tl_command.proofs.names.plain_count.Given as goal

abbrev pub invariant-loop-count : goal.invariant-loop-count
invariant-loop-count l = record {
  at_most : l.count ≤ l.most;
  within : l.count ≤ length l.words;
  plain : All IsNoOption (take l.count (map string_bytes l.words));
}

abbrev pub decreases-loop-count : goal.decreases-loop-count
decreases-loop-count l = l.most - l.count
