use Rattle.std.proofs.Common.{◌≡◌, false, List, length}
use Rattle.tl_token.specs.Characters.{begins, is_gap}
use Rattle.tl_token.specs.Elements.{Attribute, Tag}
use Rattle.tl_token.specs.inner.States.{between, with_more, read}
use Rattle.tl_token.specs.inner.Found.{given_of}
use Rattle.tl_token.specs.inner.Reader.{unread}
use Rattle.tl_token.proofs.reader.Reader.attributes.Given as goal

-- the attributes so far, with their numbers: a tag that has them goes on here as one without them went on before
abbrev pub invariant-loop-self : goal.invariant-loop-self
invariant-loop-self l = (all : List Attribute) × (l.given ≡ given_of all) × (begins is_gap (unread l.self) ≡ false)
    × ((t : Tag) → read (between t) (unread l.fn.self) ≡ read (between (with_more t all)) (unread l.self))

abbrev pub decreases-loop-self : goal.decreases-loop-self
decreases-loop-self l = length (unread l.self)
