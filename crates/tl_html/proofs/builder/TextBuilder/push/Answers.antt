use Rattle.std.proofs.Common.{string_bytes, ap, ◌∙◌, ◌++◌, ◌∷◌, []}
use Rattle.std.proofs.lemmas.Str.{IsUtf8-string_bytes}
use Rattle.tl_base.proofs.Texts.{chars-push}
use Rattle.tl_html.proofs.builder.TextBuilder.push.Goals as goal

pub returns : goal.returns
returns c =
    let string = c.self.inside.string in
    chars-push (string_bytes string) (string_bytes c.push.new.self) c.args.character (IsUtf8-string_bytes string)
    (IsUtf8-string_bytes c.push.new.self)
    c.in_ok-push.ensures.bytes
    ∙ ap (λ text. text ++ c.args.character ∷ []) c.self.view_is
