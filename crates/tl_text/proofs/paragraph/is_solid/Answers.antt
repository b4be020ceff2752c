use Rattle.std.proofs.Common.{arith, tests}
use Rattle.tl_base.proofs.Texts.{has_character, length-chars}
use Rattle.tl_text.proofs.paragraph.is_solid.Goals as goal

pub returns-then-not-is_empty : goal.returns-then-not-is_empty
returns-then-not-is_empty c =
    let some = has_character c.args.text.now c.utf8.text in
    grind (arith, tests)

pub returns-else-not-is_empty : goal.returns-else-not-is_empty
returns-else-not-is_empty c =
    let fewer = length-chars c.args.text.now c.utf8.text in
    grind (arith, tests)
