-- The string's bytes are those of its characters.
use Rattle.std.proofs.Common.{sym, ◌∙◌, ap}
use Rattle.tl_base.specs.Text.{byte_count}
use Rattle.tl_base.proofs.Texts.{byte_count-chars}
use Rattle.tl_base.proofs.text.Text.len.Goals as goal

pub returns : goal.returns
returns c = sym (byte_count-chars c.as_str.result.now c.as_str.utf8) ∙ ap byte_count c.as_str.ensures
