use Rattle.std.proofs.Common.{[], IsUtf8, subst, rules, arith}
use Rattle.std.specs.List.{All}
use Rattle.std.proofs.lemmas.List.{take_all}
use Rattle.std.proofs.lemmas.List.Elements.{All-more}
use Rattle.tl_columns.proofs.checks.is_text.Goals as goal

pub loop-column-preserved : goal.loop-column-preserved
loop-column-preserved c =
    let utf8 : IsUtf8 c.field.result.now = search rules in
    All-more IsUtf8 c.args.fields.now c.loop-column.column []
    (omega (arith, c.loop-column-test.true, c.len-column-end.ensures)) c.loop-column.invariant
    (subst IsUtf8 c.field.ensures utf8)

pub returns-clause-yes : goal.returns-clause-yes
returns-clause-yes c = λ yes.
    subst (All IsUtf8) (take_all c.loop-column.column c.args.fields.now
    (omega (arith, c.loop-column-test.false, c.len-column-end.ensures))) c.loop-column.invariant
