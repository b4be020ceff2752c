-- The claim is that of the last section.
use Rattle.std.proofs.Common.{ap, sym, ◌∙◌, Some}
use Rattle.tl_narrow.proofs.Certifying.{last_found, lowest_claim, bounded_claim}
use Rattle.tl_narrow.proofs.certified.claim_of.Goals as goal

pub returns-then-last : goal.returns-then-last
returns-then-last c =
    let last = c.index-sections-sections in
    lowest_claim c.args.sections.now last.result (last_found c.args.sections.now last.result c.requires ∙ ap Some (sym last.is))
    c.if-last.true

pub returns-else-last : goal.returns-else-last
returns-else-last c =
    let last = c.index-sections-sections in
    bounded_claim c.args.sections.now last.result (last_found c.args.sections.now last.result c.requires ∙ ap Some
    (sym last.is)) c.if-last.false
