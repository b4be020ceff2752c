use Rattle.std.proofs.Common.{ℕ, subst}
use Rattle.std.specs.List.{All}
use Rattle.std.proofs.lemmas.List.{take_all}
use Rattle.std.proofs.lemmas.List.Elements.{All-more}
use Rattle.tl_columns.specs.Records.{column_count}
use Rattle.tl_columns.specs.Refused.{IsWellFormed}
use Rattle.tl_columns.proofs.checks.check_records.Goals as goal

pub loop-number-preserved : goal.loop-number-preserved
loop-number-preserved c =
    let all = c.args.records.now in
    let here = subst (λ (n : ℕ). IsWellFormed n c.index-records-number.result) c.column_count-columns.ensures
    c.in_ok-check_record.ensures.ok in
    All-more (IsWellFormed (column_count all)) all c.loop-number.number c.index-records-number.result c.loop-number-test.true
    c.loop-number.invariant (subst (IsWellFormed (column_count all)) c.index-records-number.is here)

pub returns-clause-ok : goal.returns-clause-ok
returns-clause-ok c =
    subst (All (IsWellFormed (column_count c.args.records.now)))
    (take_all c.loop-number.number c.args.records.now c.loop-number-test.false) c.loop-number.invariant
