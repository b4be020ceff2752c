use Rattle.std.proofs.Common.{◌≡◌, string_bytes, sym, ap, ◌∙◌, subst}
use Rattle.std.specs.Str.{chars, encode_utf8_all, IsUtf8}
use Rattle.std.proofs.lemmas.Str.{encodes-chars, IsUtf8-string_bytes}
use Rattle.tl_html.proofs.builder.TextBuilder.into_bytes.Goals as goal

pub returns : goal.returns
returns c =
    let string = c.self.inside.string in
    let utf8 = IsUtf8-string_bytes string in
    let same : c.from_vec.result ≡ string_bytes string = c.from_vec.ensures ∙ ap (λ v. v.items) c.into_bytes.ensures.value in
    record {
      bytes = same ∙ sym (encodes-chars (string_bytes string) utf8) ∙ ap encode_utf8_all c.self.view_is;
      utf8 = subst IsUtf8 (sym same) utf8;
      characters = ap chars same ∙ c.self.view_is;
    }
