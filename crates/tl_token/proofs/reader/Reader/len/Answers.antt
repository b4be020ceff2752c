use Rattle.std.proofs.Common.{length, ap, sym}
use Rattle.std.proofs.lemmas.Str.{encodes-chars, IsUtf8-had}
use Rattle.tl_token.proofs.reader.Reader.len.Goals as goal

pub returns : goal.returns
returns c =
    let text = c.args.self.now.rest.now in
    ap length (sym (encodes-chars text (IsUtf8-had text c.args.self.now.text)))
