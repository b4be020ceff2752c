-- Bytes within the limit are read as the kind of file that they are.
use Rattle.tl_read.proofs.Readings.{within_is, within_alike}
use Rattle.tl_read.proofs.reading.read.Goals as goal

pub returns-clause-is : goal.returns-clause-is
returns-clause-is c =
    within_is c.args.source c.args.bytes.now c.read_short.result c.if-bytes-gt-MAX_FILE_BYTES.false c.read_short.ensures.is

pub returns-clause-each : goal.returns-clause-each
returns-clause-each c = λ reading is.
    within_alike c.args.source c.args.bytes.now c.read_short.result reading c.if-bytes-gt-MAX_FILE_BYTES.false
    c.read_short.ensures.each is
