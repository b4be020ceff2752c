use Rattle.std.proofs.Common.{List, ◌++◌, ap, ◌∙◌}
use Rattle.std.specs.Prelude.{string_bytes}
use Rattle.std.specs.Str.{chars}
use Rattle.std.proofs.lemmas.Str.{chars-nil}
use Rattle.tl_token.specs.Spelling.{tokens_of}
use Rattle.tl_token.specs.inner.Output.{with_text}
use Rattle.tl_token.specs.declared.token.Token.{Token}
use Rattle.tl_token.proofs.output.Output.new.Goals as goal

pub returns : goal.returns
returns c = λ parts.
    ap (λ (x : List Token). x ++ with_text (chars (string_bytes c.new-2.result)) 0 0 (tokens_of parts)) c.new.ensures
    ∙ ap (λ x. with_text x 0 0 (tokens_of parts)) (ap chars c.new-2.ensures.bytes ∙ chars-nil)
