-- The option is `--head`, or `--least`.
use Rattle.std.proofs.Common.{refl, sym, ◌∙◌}
use Rattle.tl_command.specs.declared.options.Choice.TheVariants as choices
use Rattle.tl_command.proofs.OptionLemmas.{held}
use Rattle.tl_command.proofs.options.Options.speak_of_csv.Goals as goal

pub returns-then-self-clause-yes : goal.returns-then-self-clause-yes
returns-then-self-clause-yes c = λ is. (choices.Head, is, refl)

pub returns-else-self-clause-yes : goal.returns-else-self-clause-yes
returns-else-self-clause-yes c = λ is.
    let given = held c.args.self.now.least (sym c.is_some.ensures ∙ is) in
    (choices.Least given.0, given.1, refl)
