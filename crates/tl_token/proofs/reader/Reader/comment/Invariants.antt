use Rattle.std.proofs.Common.{◌≡◌, false, not, eqb, length}
use Rattle.std.specs.Prelude.{codes}
use Rattle.tl_token.specs.Characters.{begins}
use Rattle.tl_token.specs.Grammar.{past_first}
use Rattle.tl_token.specs.inner.Reader.{unread}
use Rattle.tl_token.proofs.reader.Reader.comment.Given as goal

-- what was passed has no `-->`, and a `-` is next, or nothing
abbrev pub invariant-loop-self : goal.invariant-loop-self
invariant-loop-self l = (past_first (codes "-->") (unread l.fn.self) ≡ past_first (codes "-->") (unread l.self))
    × (begins (λ c. not (eqb c 45)) (unread l.self) ≡ false)

abbrev pub decreases-loop-self : goal.decreases-loop-self
decreases-loop-self l = length (unread l.self)
