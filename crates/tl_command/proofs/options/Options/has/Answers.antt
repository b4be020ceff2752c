-- An option of the name is the one that the field gives.
use Rattle.std.proofs.Common.{sym, ap, ◌∙◌}
use Rattle.tl_command.specs.declared.options.Choice.TheVariants as choices
use Rattle.tl_command.specs.Options.{name_of}
use Rattle.tl_command.proofs.OptionLemmas.{held}
use Rattle.tl_command.proofs.options.Options.has.Goals as goal

pub returns-in-Style-clause-yes : goal.returns-in-Style-clause-yes
returns-in-Style-clause-yes c = λ is.
    let given = held c.args.self.now.style (sym c.is_some.ensures ∙ is) in
    (choices.Style given.0, given.1, ap name_of (sym c.in-Style.is))

pub returns-in-Breaking-clause-yes : goal.returns-in-Breaking-clause-yes
returns-in-Breaking-clause-yes c = λ is.
    let given = held c.args.self.now.breaking (sym c.is_some-in-Breaking.ensures ∙ is) in
    (choices.Breaking given.0, given.1, ap name_of (sym c.in-Breaking.is))

pub returns-in-Budget-clause-yes : goal.returns-in-Budget-clause-yes
returns-in-Budget-clause-yes c = λ is.
    let given = held c.args.self.now.budget (sym c.is_some-in-Budget.ensures ∙ is) in
    (choices.Budget given.0, given.1, ap name_of (sym c.in-Budget.is))

pub returns-in-Search-clause-yes : goal.returns-in-Search-clause-yes
returns-in-Search-clause-yes c = λ is.
    let given = held c.args.self.now.search (sym c.is_some-in-Search.ensures ∙ is) in
    (choices.Search given.0, given.1, ap name_of (sym c.in-Search.is))

pub returns-in-Workers-clause-yes : goal.returns-in-Workers-clause-yes
returns-in-Workers-clause-yes c = λ is.
    let given = held c.args.self.now.workers (sym c.is_some-in-Workers.ensures ∙ is) in
    (choices.Workers given.0, given.1, ap name_of (sym c.in-Workers.is))

pub returns-in-Csv-clause-yes : goal.returns-in-Csv-clause-yes
returns-in-Csv-clause-yes c = λ is. (choices.Csv, is, ap name_of (sym c.in-Csv.is))

pub returns-in-Head-clause-yes : goal.returns-in-Head-clause-yes
returns-in-Head-clause-yes c = λ is. (choices.Head, is, ap name_of (sym c.in-Head.is))

pub returns-in-Least-clause-yes : goal.returns-in-Least-clause-yes
returns-in-Least-clause-yes c = λ is.
    let given = held c.args.self.now.least (sym c.is_some-in-Least.ensures ∙ is) in
    (choices.Least given.0, given.1, ap name_of (sym c.in-Least.is))

pub returns-in-Align-clause-yes : goal.returns-in-Align-clause-yes
returns-in-Align-clause-yes c = λ is.
    let given = held c.args.self.now.align (sym c.is_some-in-Align.ensures ∙ is) in
    (choices.Align given.0, given.1, ap name_of (sym c.in-Align.is))

pub returns-in-Trim-clause-yes : goal.returns-in-Trim-clause-yes
returns-in-Trim-clause-yes c = λ is. (choices.Trim, is, ap name_of (sym c.in-Trim.is))

pub returns-in-Html-clause-yes : goal.returns-in-Html-clause-yes
returns-in-Html-clause-yes c = λ is. (choices.Html, is, ap name_of (sym c.in-Html.is))
