use Rattle.std.proofs.Common.{string_bytes, ap, ◌∙◌, ◌++◌}
use Rattle.std.specs.Str.{chars}
use Rattle.std.proofs.lemmas.Str.{chars-append, IsUtf8-string_bytes}
use Rattle.tl_html.proofs.builder.TextBuilder.push_str.Goals as goal

pub returns : goal.returns
returns c =
    let string = c.self.inside.string in
    ap chars c.in_ok-push_str.ensures.bytes ∙ chars-append (string_bytes string) c.args.text.now (IsUtf8-string_bytes string)
    ∙ ap (λ text. text ++ chars c.args.text.now) c.self.view_is
