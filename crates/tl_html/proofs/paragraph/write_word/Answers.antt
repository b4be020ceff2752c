use Rattle.std.proofs.Common.{◌++◌, ap, sym, ◌∙◌}
use Rattle.std.specs.List.{flat_map}
use Rattle.std.proofs.lemmas.List.{map-id}
use Rattle.std.proofs.lemmas.Iterator.{YieldsList-from_chars}
use Rattle.std.proofs.lemmas.Iterator.Consumers.{YieldsList-end}
use Rattle.tl_html.specs.Html.{escaped}
use Rattle.tl_html.proofs.paragraph.write_word.Goals as goal

pub returns : goal.returns
returns c =
    let start = YieldsList-from_chars c.args.text.now c.utf8.text cc in
    let end = YieldsList-end start c.loop-character.yielded _ c.loop-character.yielded_by _ _ c.in-None.is c.next.ensures.steps in
    c.loop-character.invariant ∙ ap (λ text. c.args.out.now ++ flat_map escaped text)
    (sym (map-id c.loop-character.yielded) ∙ end.0)
