use Rattle.std.proofs.Common.{arith}
use Rattle.tl_columns.proofs.CsvLists.{few_fields, few_records}
use Rattle.tl_columns.proofs.columns.table_of.Goals as goal

pub check_records-requires : goal.check_records-requires
check_records-requires c = omega (arith, few_records c.args.records.now c.requires.some, c.requires.size)

pub check_limits-requires-clause-fields : goal.check_limits-requires-clause-fields
check_limits-requires-clause-fields c = omega (arith, few_fields c.args.records.now, c.requires.size)

pub check_limits-requires-clause-rows : goal.check_limits-requires-clause-rows
check_limits-requires-clause-rows c = omega (arith, few_records c.args.records.now c.requires.some, c.requires.size)
