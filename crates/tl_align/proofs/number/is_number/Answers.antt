use Rattle.std.proofs.Common.{◌∙◌, ap, subst, sym, IsTrue, ◌↔◌}
use Rattle.std.specs.Str.{chars}
use Rattle.tl_align.specs.Numbers.{IsNumber, is_whole}
use Rattle.tl_align.proofs.NumberLemmas.{by_the_grammar}
use Rattle.tl_align.proofs.number.is_number.Goals as goal

pub returns-clause-grammar : goal.returns-clause-grammar
returns-clause-grammar c =
    subst (λ test. IsTrue test ↔ IsNumber (chars c.args.text.now)) (sym (c.is_whole.ensures ∙ ap is_whole c.through.ensures))
    (by_the_grammar (chars c.args.text.now))
