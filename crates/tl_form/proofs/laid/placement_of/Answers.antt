use Rattle.std.proofs.Common.{◌≡◌, ◌∙◌, MatchOption, ap, subst, true, false}
use Rattle.tl_problem.specs.declared.placed.Placed.{Placed}
use Rattle.tl_problem.specs.Layouts.{WithinPage}
use Rattle.tl_problem.specs.Placements.{IsPlacement}
use Rattle.tl_form.proofs.Placing.{same_placed}
use Rattle.tl_form.proofs.laid.placement_of.Goals as goal

pub returns : goal.returns
returns c = λ placed has.
    let ws = c.as_slice.result.now in
    let found = subst (λ o. MatchOption o (WithinPage c.args.problem.now ws →
    ⊥) (λ one. IsPlacement c.args.problem.now one × (one.widths ≡ ws)))
    c.in-Some.is c.in_ok-placed.ensures in
    let same = same_placed c.args.problem.now c.args.section.now c.in-Some.placed.widths c.in_ok-tight.tight placed
    (found.1 ∙ c.as_slice.ensures)
    c.in_ok-tight.ensures.tight has in
    let yes : c.is_of.result ≡ true =
    c.is_of.ensures.1 (ap (λ (p : Placed). p.widths) same ∙ has.wide, ap (λ (p : Placed). p.height) same ∙ has.high) in
    let no : c.is_of.result ≡ false = c.if-is_of.false in
    cc
