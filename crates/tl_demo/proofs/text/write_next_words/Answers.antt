use Rattle.std.proofs.Common.{◌≡◌, ◌+◌, ◌-◌, ◌++◌, suc, sym, subst, arith}
use Rattle.tl_demo.specs.Demo.{words_from}
use Rattle.tl_demo.specs.inner.Writing.{next_words_text}
use Rattle.tl_demo.proofs.Writing.{WordsLeft, word_written}
use Rattle.tl_demo.proofs.text.write_next_words.Goals as goal

pub loop-preserved : goal.loop-preserved
loop-preserved c =
    let out = c.loop.out in
    let state = c.loop.draws.state in
    let left = c.args.count - (c.loop.counter + 1) in
    let text = c.args.out.now ++ next_words_text (words_from c.args.count c.args.draws.now.state).value in
    let end = (words_from c.args.count c.args.draws.now.state).state in
    let new = c.write_next_word.new.out in
    let more : c.args.count - c.loop.counter ≡ suc left = omega (arith, c.loop-test.true) in
    let written = word_written left state out new text end c.in_ok-write_next_word.ensures.text
    (subst (λ n. WordsLeft n state out text end) more c.loop.invariant) in
    subst (λ s. WordsLeft left s new text end) (sym c.in_ok-write_next_word.ensures.state) written
