-- Whatever a tree that is the same is read as, is found.
use Rattle.std.proofs.Common.{◌∙◌, sym}
use Rattle.tl_read.proofs.Readings.{table_alike, refused_alike, found_alike}
use Rattle.tl_read.proofs.reading.read_tree.Goals as goal

pub returns-in-Ok-clause-each : goal.returns-in-Ok-clause-each
returns-in-Ok-clause-each c = λ other reading same is.
    table_alike c.args.breaking c.args.node other c.in-Ok.table reading same c.in-Ok.ensures.ok
    (λ error refused. c.in-Ok.ensures.each_err error refused) is

pub returns-in-Err-clause-each : goal.returns-in-Err-clause-each
returns-in-Err-clause-each c = λ other reading same is.
    found_alike c.refused.result c.form_refusal.result reading c.refused.ensures (λ found cause.
    refused_alike c.args.breaking c.args.node other c.in-Err.error found reading same c.in-Err.ensures.err
    (λ error refused. c.in-Err.ensures.each_err error refused) (sym c.form_refusal.ensures ∙ cause) is)

pub returns-in-Ok-clause-sound : goal.returns-in-Ok-clause-sound
returns-in-Ok-clause-sound c =
    (c.in-Ok.ensures.sound, c.formed_has_few_cells.ensures c.args.breaking c.args.node c.in-Ok.table c.in-Ok.ensures.ok)

pub returns-in-Ok-clause-spellable : goal.returns-in-Ok-clause-spellable
returns-in-Ok-clause-spellable c =
    c.in-Ok.ensures.spellable
