-- Where there is no byte there is no character.
use Rattle.tl_base.proofs.Texts.{tells_no_character}
use Rattle.tl_base.proofs.text.Text.is_empty.Goals as goal

pub returns : goal.returns
returns c = tells_no_character c.as_str.result.now c.args.self.now c.is_empty.result c.as_str.utf8 c.is_empty.ensures
    c.as_str.ensures
