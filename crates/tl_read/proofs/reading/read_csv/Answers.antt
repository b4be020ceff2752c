-- Whatever the records are read as, is found.
use Rattle.std.proofs.Common.{◌∙◌, sym}
use Rattle.tl_read.proofs.Readings.{found_alike, csv_table_alike, csv_refused_alike}
use Rattle.tl_read.proofs.reading.read_csv.Goals as goal

pub returns-in-Ok-clause-each : goal.returns-in-Ok-clause-each
returns-in-Ok-clause-each c = λ reading is.
    csv_table_alike c.args.head c.args.least.now c.args.breaking c.args.bytes.now c.in-Ok.table reading c.requires.size
    c.in-Ok.ensures.ok (λ other table. c.in-Ok.ensures.each_ok other table)
    (λ error refused. c.in-Ok.ensures.each_err error refused) is

pub returns-in-Err-clause-each : goal.returns-in-Err-clause-each
returns-in-Err-clause-each c = λ reading is.
    found_alike c.refused.result c.csv_refusal.result reading c.refused.ensures (λ found cause.
    csv_refused_alike c.args.head c.args.least.now c.args.breaking c.args.bytes.now c.in-Err.error found reading
    (λ table spells. c.in-Err.ensures.each_ok table spells) (λ error refused. c.in-Err.ensures.each_err error refused)
    (sym c.csv_refusal.ensures ∙ cause) is)
