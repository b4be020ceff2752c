-- A text's bytes are those of its characters.
use Rattle.std.proofs.Common.{◌++◌, encode_utf8_all, sym, ◌∙◌, ap}
use Rattle.std.proofs.lemmas.Str.{encodes-chars}
use Rattle.tl_page.proofs.paragraph.write_text.Goals as goal

pub returns-clause-text : goal.returns-clause-text
returns-clause-text c =
    c.in_ok-extend_from_slice.ensures.ok
    ∙ ap (λ bytes. c.args.line.now ++ bytes)
    (c.as_bytes.ensures.value ∙ sym (encodes-chars c.as_str.result.now c.as_str.utf8) ∙ ap encode_utf8_all c.as_str.ensures)
