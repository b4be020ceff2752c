use Rattle.std.proofs.Common.{◌≡◌, drop}
use Rattle.std.specs.Prelude.{codes}
use Rattle.tl_token.specs.inner.Reading.{doctype_word}
use Rattle.tl_token.specs.inner.Reader.{unread}
use Rattle.tl_token.proofs.reader.Reader.doctype.Given as goal

-- the rest of the word is to come
abbrev pub invariant-loop-letter : goal.invariant-loop-letter
invariant-loop-letter l = (l.letter-items ≡ codes "doctype")
    × (doctype_word (codes "doctype") (unread l.fn.self) ≡ doctype_word (drop l.letter-index l.letter-items) (unread l.self))
