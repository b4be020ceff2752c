-- A room reaches from the begin of its first slot to the end of its last.
use Rattle.std.proofs.Common.{◌≡◌, ◌+◌, ◌*◌, ◌-◌, get_or, ap, ap₂, ◌∙◌}
use Rattle.tl_page.specs.declared.strip.Strip.{Strip}
use Rattle.tl_page.proofs.StripLemmas.{rooms}
use Rattle.tl_page.proofs.strips.room_in.Goals as goal

pub returns : goal.returns
returns c = λ gap edge sizes same ahead within.
    let none : Strip = record { before = 0; after = 0; from = 0; size = 0 } in
    let begin : c.strip_at-begin.result ≡ get_or c.args.strips.now (2 * c.args.from + 1) none =
    c.strip_at-begin.ensures ∙ ap (λ n. get_or c.args.strips.now (2 * n + 1) none) c.from.ensures in
    let end : c.strip_at-end.result ≡ get_or c.args.strips.now (2 * c.args.past) none =
    c.strip_at-end.ensures ∙ ap (λ n. get_or c.args.strips.now (2 * n) none) c.from-2.ensures in
    c.saturating_sub.ensures
    ∙ ap₂ (λ (m n : Strip). m.from - n.from) end begin
    ∙ ap (λ strips. (get_or strips (2 * c.args.past) none).from - (get_or strips (2 * c.args.from + 1) none).from) same
    ∙ rooms gap edge sizes c.args.from c.args.past none ahead within
