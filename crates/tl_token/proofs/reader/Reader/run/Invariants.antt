use Rattle.std.proofs.Common.{length, ℕ, List}
use Rattle.std.specs.Str.{chars}
use Rattle.tl_token.specs.inner.Reader.{unread, is_in}
use Rattle.tl_token.proofs.ReaderLemmas.{Passed}
use Rattle.tl_token.proofs.reader.Reader.run.Given as goal

abbrev pub invariant-loop-class : goal.invariant-loop-class
invariant-loop-class l = (prefix : List ℕ) × Passed (is_in l.class) (chars l.text) prefix (unread l.self)

abbrev pub decreases-loop-class : goal.decreases-loop-class
decreases-loop-class l = length (unread l.self)
