-- Whatever the tokens are read as, is found.
use Rattle.std.proofs.Common.{◌∙◌, List, subst, sym}
use Rattle.tl_token.specs.declared.token.Token.{Token}
use Rattle.tl_read.specs.inner.Steps.{ReadsTokens}
use Rattle.tl_read.proofs.Readings.{found_alike, tokens_refused_alike}
use Rattle.tl_read.proofs.reading.read_tokens.Goals as goal

pub returns-in-Err-clause-each : goal.returns-in-Err-clause-each
returns-in-Err-clause-each c = λ reading is.
    found_alike c.refused.result c.tree_refusal.result reading c.refused.ensures (λ found cause.
    tokens_refused_alike c.args.breaking c.args.size c.as_slice-lent.result.now c.in-Err.error found reading
    (λ node spells within. c.in-Err.ensures.each_ok node spells within) (λ error refused. c.in-Err.ensures.each_err error refused)
    (sym c.tree_refusal.ensures ∙ cause)
    (subst (λ (tokens : List Token). ReadsTokens c.args.breaking c.args.size tokens reading) (sym c.as_slice-lent.ensures) is))
