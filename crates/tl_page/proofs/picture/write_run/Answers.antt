-- One more is written.
use Rattle.std.proofs.Common.{◌++◌, ◌∙◌, ap, sym, append_assoc}
use Rattle.tl_page.specs.Signs.{run}
use Rattle.tl_page.proofs.SignLemmas.{run-more}
use Rattle.tl_page.proofs.picture.write_run.Goals as goal

pub loop-preserved : goal.loop-preserved
loop-preserved c =
    c.in_ok-extend_from_slice.ensures.ok
    ∙ ap (λ line. line ++ c.as_bytes-bytes.result.now) c.loop.invariant
    ∙ append_assoc c.args.line.now (run c.loop.counter c.args.sign) c.as_bytes-bytes.result.now
    ∙ ap (λ bytes. c.args.line.now ++ (run c.loop.counter c.args.sign ++ bytes))
    (c.as_bytes-bytes.ensures.value ∙ c.encode_utf8.ensures.value)
    ∙ ap (λ more. c.args.line.now ++ more) (sym (run-more c.loop.counter c.args.sign))
