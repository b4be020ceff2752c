-- Whatever the bytes are read as, is found.
use Rattle.std.proofs.Common.{◌∙◌, sym}
use Rattle.tl_tree.proofs.ReadableTokens.{tokens_readable}
use Rattle.tl_read.proofs.Readings.{found_alike, bytes_refused_alike, bytes_alike}
use Rattle.tl_read.proofs.reading.read_html.Goals as goal

pub read_tokens-requires : goal.read_tokens-requires
read_tokens-requires c =
    tokens_readable c.args.bytes.now c.in-Ok.tokens c.in-Ok.ensures.ok c.in-Ok.ensures.size c.requires

pub returns-in-Ok-clause-each : goal.returns-in-Ok-clause-each
returns-in-Ok-clause-each c = λ reading is.
    bytes_alike c.args.breaking c.args.bytes.now c.in-Ok.tokens c.read_tokens.result reading
    (λ others spells. c.in-Ok.ensures.each_ok others spells) (λ cause fault. c.in-Ok.ensures.each_err cause fault)
    (λ other from. c.read_tokens.ensures.each other from) is

pub returns-in-Err-clause-each : goal.returns-in-Err-clause-each
returns-in-Err-clause-each c = λ reading is.
    found_alike c.refused.result c.token_refusal.result reading c.refused.ensures (λ found cause.
    bytes_refused_alike c.args.breaking c.args.bytes.now c.in-Err.error found reading
    (λ tokens spells. c.in-Err.ensures.each_ok tokens spells) (λ error refused. c.in-Err.ensures.each_err error refused)
    (sym c.token_refusal.ensures ∙ cause) is)
