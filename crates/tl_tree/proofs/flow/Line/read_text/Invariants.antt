use Rattle.std.proofs.Common.{◌≡◌, ◌++◌, map}
use Rattle.tl_tree.specs.Grammar.{Marks, character}
use Rattle.tl_tree.specs.inner.Lines.{line_atoms}
use Rattle.tl_tree.proofs.flow.Line.read_text.Given as goal

-- the atoms so far are those after the characters that were read
abbrev pub invariant-loop-c : goal.invariant-loop-c
invariant-loop-c l = (later : Marks) → line_atoms l.self later ≡ line_atoms l.initial.self (map character l.yielded ++ later)
