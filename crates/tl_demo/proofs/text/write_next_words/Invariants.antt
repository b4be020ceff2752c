use Rattle.std.proofs.Common.{◌++◌, ◌-◌}
use Rattle.tl_demo.specs.Demo.{words_from}
use Rattle.tl_demo.specs.inner.Writing.{next_words_text}
use Rattle.tl_demo.proofs.Writing.{WordsLeft}
use Rattle.tl_demo.proofs.text.write_next_words.Given as goal

abbrev pub invariant-loop : goal.invariant-loop
invariant-loop l =
    WordsLeft (l.count - l.counter) l.draws.state l.out (l.initial.out ++ next_words_text
    (words_from l.count l.initial.draws.state).value)
    (words_from l.count l.initial.draws.state).state
