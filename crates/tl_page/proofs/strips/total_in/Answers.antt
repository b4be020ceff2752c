-- The last strip is an edge.
use Rattle.std.proofs.Common.{ℕ, ◌+◌, ◌-◌, ◌<◌, get_or, length, ap, ap₂, ◌∙◌, subst, arith, tests}
use Rattle.tl_page.specs.declared.strip.Strip.{Strip}
use Rattle.tl_page.specs.Strips.{even, strips}
use Rattle.tl_page.proofs.StripLemmas.{total-last}
use Rattle.tl_page.proofs.strips.total_in.Goals as goal

pub returns : goal.returns
returns c = λ gap sizes same.
    let none : Strip = record { before = 0; after = 0; from = 0; size = 0 } in
    let some : 0 < length c.args.strips.now = grind (arith, tests) in
    let last : 0 < length (strips (even gap) c.args.edge sizes) = subst (λ all. 0 < length all) same some in
    ap₂ (λ (m n : ℕ). m + n) (c.from.ensures ∙ ap (λ strip. strip.from) c.strip_at-last.ensures) c.from-2.ensures
    ∙ ap (λ strips. (get_or strips (length strips - 1) none).from + c.args.edge) same
    ∙ total-last gap c.args.edge sizes none last
