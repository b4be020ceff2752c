use Rattle.std.proofs.lemmas.Str.{IsUtf8-had}
use Rattle.tl_token.proofs.ReaderLemmas.{next_found}
use Rattle.tl_token.proofs.reader.Reader.next.Goals as goal

pub returns : goal.returns
returns c =
    let text = c.args.self.now.rest.now in
    next_found text c.as_str-self.result.now c.chars-chars.result c.next-next.new.self (IsUtf8-had text c.args.self.now.text)
    c.chars-chars.ensures.rest c.as_str-self.ensures c.next-next.result c.next-next.ensures.steps.0
