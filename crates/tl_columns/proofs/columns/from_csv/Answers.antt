use Rattle.std.proofs.Common.{◌∙◌, ◌+◌, ◌≤◌, List, length, IfOk, IfErr, sym, subst, alloc_error, arith}
use Rattle.std.proofs.lemmas.Result.{IfOk-weaker}
use Rattle.tl_table.specs.declared.cell.Table.{Table}
use Rattle.tl_table.specs.FewCells.{HasFewCells}
use Rattle.tl_table.specs.Sound.{table_size, IsSound}
use Rattle.tl_table.specs.Spellable.{IsSpellable}
use Rattle.tl_base.specs.Returned.{IsMemoryOr}
use Rattle.tl_columns.specs.declared.error.CsvError.TheVariants.{Memory}
use Rattle.tl_columns.specs.Refused.{IsCsvRefused}
use Rattle.tl_columns.specs.Columns.{IsCsvTable}
use Rattle.tl_columns.specs.Records.{Fields, csv_records}
use Rattle.tl_columns.specs.inner.Sizes.{AreOfFile}
use Rattle.tl_columns.proofs.CsvLists.{of_file, records_size}
use Rattle.tl_columns.proofs.OneError.{each_error}
use Rattle.tl_columns.proofs.OneTable.{each_table}
use Rattle.tl_columns.proofs.Soundness.{csv_few, csv_sound, csv_spellable, table_small}
use Rattle.tl_columns.proofs.columns.from_csv.Goals as goal

pub table_of-requires : goal.table_of-requires
table_of-requires c =
    subst AreOfFile (sym (c.as_slice.ensures ∙ c.in_ok-list.ensures)) (of_file c.args.bytes.now c.requires.size)

pub returns-clause-each_ok : goal.returns-clause-each_ok
returns-clause-each_ok c =
    let read = c.as_slice.ensures ∙ c.in_ok-list.ensures in
    each_table c.args.head c.args.least.now c.args.breaking (csv_records c.args.bytes.now) c.table_of.result
    (subst (λ (all : List Fields). IfOk c.table_of.result (IsCsvTable all c.args.head c.args.least.now c.args.breaking)) read
    c.table_of.ensures.ok)
    (subst (λ (all : List Fields). IfErr c.table_of.result (IsMemoryOr (Memory alloc_error) (IsCsvRefused all))) read
    c.table_of.ensures.err)

pub returns-clause-each_err : goal.returns-clause-each_err
returns-clause-each_err c =
    let read = c.as_slice.ensures ∙ c.in_ok-list.ensures in
    each_error (csv_records c.args.bytes.now) c.args.head c.args.least.now c.args.breaking c.table_of.result
    (subst (λ (all : List Fields). IfOk c.table_of.result (IsCsvTable all c.args.head c.args.least.now c.args.breaking)) read
    c.table_of.ensures.ok)
    (subst (λ (all : List Fields). IfErr c.table_of.result (IsMemoryOr (Memory alloc_error) (IsCsvRefused all))) read
    c.table_of.ensures.err)

pub returns-clause-small : goal.returns-clause-small
returns-clause-small c =
    let all = csv_records c.args.bytes.now in
    let read = c.as_slice.ensures ∙ c.in_ok-list.ensures in
    IfOk-weaker c.table_of.result (IsCsvTable all c.args.head c.args.least.now c.args.breaking)
    (λ (table : Table). table_size table ≤ length c.args.bytes.now + 1)
    (λ table is. omega (
      arith,
      table_small all c.args.head c.args.least.now c.args.breaking table (of_file c.args.bytes.now c.requires.size) is,
      records_size c.args.bytes.now,
    ))
    (subst (λ (records : List Fields). IfOk c.table_of.result (IsCsvTable records c.args.head c.args.least.now c.args.breaking))
    read c.table_of.ensures.ok)

pub returns-clause-sound : goal.returns-clause-sound
returns-clause-sound c =
    let all = csv_records c.args.bytes.now in
    let read = c.as_slice.ensures ∙ c.in_ok-list.ensures in
    IfOk-weaker c.table_of.result (IsCsvTable all c.args.head c.args.least.now c.args.breaking)
    IsSound
    (λ table is. csv_sound all c.args.head c.args.least.now c.args.breaking table
    (of_file c.args.bytes.now c.requires.size) is c.requires.narrow)
    (subst (λ (records : List Fields). IfOk c.table_of.result (IsCsvTable records c.args.head c.args.least.now c.args.breaking))
    read c.table_of.ensures.ok)

pub returns-clause-few : goal.returns-clause-few
returns-clause-few c =
    let all = csv_records c.args.bytes.now in
    let read = c.as_slice.ensures ∙ c.in_ok-list.ensures in
    IfOk-weaker c.table_of.result (IsCsvTable all c.args.head c.args.least.now c.args.breaking) HasFewCells
    (λ table is. csv_few all c.args.head c.args.least.now c.args.breaking table
    (of_file c.args.bytes.now c.requires.size) is)
    (subst (λ (records : List Fields). IfOk c.table_of.result (IsCsvTable records c.args.head c.args.least.now c.args.breaking))
    read c.table_of.ensures.ok)

pub returns-clause-spellable : goal.returns-clause-spellable
returns-clause-spellable c =
    let all = csv_records c.args.bytes.now in
    let read = c.as_slice.ensures ∙ c.in_ok-list.ensures in
    IfOk-weaker c.table_of.result (IsCsvTable all c.args.head c.args.least.now c.args.breaking)
    (IsSpellable c.args.breaking)
    (λ table is. csv_spellable all c.args.head c.args.least.now c.args.breaking table
    (of_file c.args.bytes.now c.requires.size) is)
    (subst (λ (records : List Fields). IfOk c.table_of.result (IsCsvTable records c.args.head c.args.least.now c.args.breaking))
    read c.table_of.ensures.ok)
