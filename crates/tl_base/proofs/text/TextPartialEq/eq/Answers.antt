-- Texts are equal just where their bytes are.
use Rattle.std.proofs.Common.{◌∙◌, ap₂, nat_eq}
use Rattle.std.specs.Cmp.Lexicographic.{pointwise}
use Rattle.tl_base.proofs.Texts.{same_characters}
use Rattle.tl_base.proofs.text.TextPartialEq.eq.Goals as goal

pub returns : goal.returns
returns c =
    c.eq.ensures ∙ same_characters c.as_str.result.now c.as_str-2.result.now c.as_str.utf8 c.as_str-2.utf8
    ∙ ap₂ (pointwise nat_eq) c.as_str.ensures c.as_str-2.ensures
