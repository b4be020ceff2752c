use Rattle.std.proofs.Common.{◌≡◌, ◌∙◌, ℕ, false, List, [], IsUtf8, sym, ap, subst, arith}
use Rattle.std.specs.List.{All}
use Rattle.std.proofs.lemmas.List.{take_all}
use Rattle.std.proofs.lemmas.List.Elements.{All-more}
use Rattle.tl_columns.specs.Refused.{has_control}
use Rattle.tl_columns.proofs.checks.is_clean.Goals as goal

pub text_of-requires : goal.text_of-requires
text_of-requires c =
    subst IsUtf8 (sym c.field.ensures)
    (c.requires c.loop-column.column [] (omega (arith, c.loop-column-test.true, c.len-column-end.ensures)))

pub loop-column-preserved : goal.loop-column-preserved
loop-column-preserved c =
    All-more (λ (field : List ℕ). has_control field ≡ false) c.args.fields.now c.loop-column.column []
    (omega (arith, c.loop-column-test.true, c.len-column-end.ensures)) c.loop-column.invariant
    (ap has_control (sym c.field.ensures ∙ sym c.text_of.ensures) ∙ sym c.has_control.ensures ∙ c.if-has_control.false)

pub returns-clause-yes : goal.returns-clause-yes
returns-clause-yes c = λ yes.
    subst (All (λ (field : List ℕ). has_control field ≡ false)) (take_all c.loop-column.column c.args.fields.now
    (omega (arith, c.loop-column-test.false, c.len-column-end.ensures))) c.loop-column.invariant
