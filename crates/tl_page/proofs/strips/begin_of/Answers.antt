-- The strip of a slot stands at twice its number.
use Rattle.std.proofs.Common.{◌≡◌, ◌+◌, ◌*◌, get_or, ap, ◌∙◌}
use Rattle.tl_page.specs.declared.strip.Strip.{Strip}
use Rattle.tl_page.proofs.StripLemmas.{begins}
use Rattle.tl_page.proofs.strips.begin_of.Goals as goal

pub returns : goal.returns
returns c = λ gaps edge sizes same within.
    let none : Strip = record { before = 0; after = 0; from = 0; size = 0 } in
    let at : c.strip_at.result ≡ get_or c.args.strips.now (2 * c.args.place + 1) none =
    c.strip_at.ensures ∙ ap (λ n. get_or c.args.strips.now (2 * n + 1) none) c.from.ensures in
    ap (λ strip. strip.from) at ∙ ap (λ strips. (get_or strips (2 * c.args.place + 1) none).from)
    same ∙ begins gaps edge sizes c.args.place none within
