use Rattle.std.proofs.Common.{refl, sym, subst}
use Rattle.tl_token.specs.declared.token.Element.{Element}
use Rattle.tl_tree.specs.Tags.{kind_of_start, thead, tbody, tfoot}
use Rattle.tl_tree.specs.inner.Reading.{Moves}
use Rattle.tl_tree.proofs.open.OpenTable.start.Goals as goal

pub returns-in_ok-start_group-in-Thead-clause-ok : goal.returns-in_ok-start_group-in-Thead-clause-ok
returns-in_ok-start_group-in-Thead-clause-ok c =
    let P : Element → Type 0 = λ e. Moves c.args.self (kind_of_start e c.args.spans) c.in_ok-start_group-in-Thead.field-0 in
    subst P (sym c.in-Thead.is) (c.in_ok-start_group-in-Thead.ensures thead refl)

pub returns-in_ok-start_group-in-Tbody-clause-ok : goal.returns-in_ok-start_group-in-Tbody-clause-ok
returns-in_ok-start_group-in-Tbody-clause-ok c =
    let P : Element → Type 0 = λ e. Moves c.args.self (kind_of_start e c.args.spans) c.in_ok-start_group-in-Tbody.field-0 in
    subst P (sym c.in-Tbody.is) (c.in_ok-start_group-in-Tbody.ensures tbody refl)

pub returns-in_ok-start_group-in-Tfoot-clause-ok : goal.returns-in_ok-start_group-in-Tfoot-clause-ok
returns-in_ok-start_group-in-Tfoot-clause-ok c =
    let P : Element → Type 0 = λ e. Moves c.args.self (kind_of_start e c.args.spans) c.in_ok-start_group-in-Tfoot.field-0 in
    subst P (sym c.in-Tfoot.is) (c.in_ok-start_group-in-Tfoot.ensures tfoot refl)
