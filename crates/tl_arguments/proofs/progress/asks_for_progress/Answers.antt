-- A word is `--progress`, or those after it are looked through.
use Rattle.std.proofs.Common.{sym, ◌∙◌, string_bytes, map}
use Rattle.tl_arguments.specs.Progress.{asks_for_progress}
use Rattle.tl_arguments.proofs.ProgressLemmas.{asked_here, asked_later}
use Rattle.tl_arguments.proofs.progress.asks_for_progress.Goals as goal

pub returns-then-is_progress : goal.returns-then-is_progress
returns-then-is_progress c =
    asked_here string_bytes c.args.words.now c.loop-word.word-index c.word-item.result c.as_str.result.now c.loop-word.role
    c.after-role.result (asks_for_progress (map string_bytes c.args.words.now)) c.loop-word-test.true c.word-item.is
    c.as_str.ensures.value c.after-role.ensures c.loop-word.invariant (sym c.is_progress.ensures ∙ c.if-is_progress.true)

pub loop-word-preserved : goal.loop-word-preserved
loop-word-preserved c =
    asked_later string_bytes c.args.words.now c.loop-word.word-index c.word-item.result c.as_str.result.now c.loop-word.role
    c.after-role.result (asks_for_progress (map string_bytes c.args.words.now)) c.loop-word-test.true c.word-item.is
    c.as_str.ensures.value c.after-role.ensures c.loop-word.invariant (sym c.is_progress.ensures ∙ c.if-is_progress.false)
