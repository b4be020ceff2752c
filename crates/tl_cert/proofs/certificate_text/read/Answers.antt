use Rattle.std.proofs.Common.{arith}
use Rattle.tl_cert.proofs.ReadResults.{result_ok, result_each_ok, result_err, result_each_err}
use Rattle.tl_cert.proofs.certificate_text.read.Goals as goal

pub returns-clause-ok : goal.returns-clause-ok
returns-clause-ok c = result_ok c.read_short.result c.args.bytes.now (omega arith) c.read_short.ensures

pub returns-clause-each_ok : goal.returns-clause-each_ok
returns-clause-each_ok c = result_each_ok c.read_short.result c.args.bytes.now c.read_short.ensures

pub returns-clause-err : goal.returns-clause-err
returns-clause-err c = result_err c.read_short.result c.args.bytes.now (omega arith) c.read_short.ensures

pub returns-clause-each_err : goal.returns-clause-each_err
returns-clause-each_err c = result_each_err c.read_short.result c.args.bytes.now (omega arith) c.read_short.ensures
