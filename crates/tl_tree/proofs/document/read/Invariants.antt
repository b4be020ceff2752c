use Rattle.std.proofs.Common.{take}
use Rattle.tl_tree.specs.Tags.{kinds}
use Rattle.tl_tree.specs.inner.Documents.{HasReadTokens}
use Rattle.tl_tree.proofs.document.read.Given as goal

-- the tokens before the index have been read
abbrev pub invariant-loop-index : goal.invariant-loop-index
invariant-loop-index l = HasReadTokens (kinds (take l.index l.tokens)) l.tables l.reading
