use Rattle.std.proofs.Common.{◌≡◌, ◌≤◌, ◌++◌, length}
use Rattle.tl_base.specs.Text.{byte_count}
use Rattle.tl_token.specs.Spelling.{TokenPieces, place_of_rest, Leads, tokens_of, characters}
use Rattle.tl_token.specs.inner.Reader.{unread}
use Rattle.tl_token.specs.inner.Output.{resumed}
use Rattle.tl_token.proofs.file.read.Given as goal

-- the pieces so far lead to what is left, and the tokens go on with those of the pieces that are to come
abbrev pub invariant-loop-c : goal.invariant-loop-c
invariant-loop-c l = (parts : TokenPieces) × Leads (length l.text) (characters l.text) parts (unread l.reader)
    × ((later : TokenPieces) → tokens_of (parts ++ later) ≡ resumed l.output later)
    × (l.first ≡ place_of_rest (length l.text) (unread l.reader))
    × (byte_count (unread l.reader) ≤ length l.text)

abbrev pub decreases-loop-c : goal.decreases-loop-c
decreases-loop-c l = byte_count (unread l.reader)
