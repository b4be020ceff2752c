use Rattle.std.proofs.Common.{◌≡◌, ◌≢◌, ◌⊎◌, [], ap, ◌∙◌, inl, inr}
use Rattle.std.specs.Prelude.{string_bytes}
use Rattle.std.specs.Str.{chars}
use Rattle.std.proofs.lemmas.Str.{IsUtf8-string_bytes}
use Rattle.tl_token.specs.Spelling.{tokens_of}
use Rattle.tl_token.specs.inner.Output.{open_text}
use Rattle.tl_token.proofs.OutputLemmas.{chars_push, character_taken}
use Rattle.tl_token.proofs.output.Output.character.Goals as goal
use Rattle.tl_token.proofs.output.Output.character.Goals.{then-has_text, else-has_text}

pub returns : goal.returns
returns c = λ parts.
    let s = c.args.self.now in
    let grown = ap chars c.in_ok-push.ensures.bytes ∙ chars_push (string_bytes s.text) c.args.c (IsUtf8-string_bytes s.text)
    c.ranges.c.0 in
    let which : ((open_text s ≢ []) × (c.if-has_text.first ≡ s.first)) ⊎
    ((open_text s ≡ []) × (c.if-has_text.first ≡ c.args.first)) =
    elim c.if-has_text.branch [
      | then-has_text w ↦ inl (c.has_text.ensures.open w.if-has_text.true, w.first-is)
      | else-has_text w ↦ inr (c.has_text.ensures.closed w.if-has_text.false, w.first-is)
    ] in
    character_taken s.tokens (open_text s) (chars (string_bytes c.push.new.self))
    c.args.c s.first s.past c.args.first c.args.past c.if-has_text.first
    (tokens_of parts) grown which
