use Rattle.std.proofs.Common.{◌≡◌, ◌++◌, replicate}
use Rattle.tl_demo.proofs.text.write_word.Given as goal

abbrev pub invariant-loop : goal.invariant-loop
invariant-loop l = l.out ≡ l.initial.out ++ replicate l.counter 0x61
