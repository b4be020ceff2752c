use Rattle.std.proofs.Common.{refl, ap, ◌∙◌}
use Rattle.std.specs.Str.{chars}
use Rattle.std.proofs.lemmas.Str.{chars-nil}
use Rattle.tl_tree.proofs.flow.Line.new.Goals as goal

pub invariant_of-result : goal.invariant_of-result
invariant_of-result c = record { whole = rw c.new.ensures refl; solid = rw (c.new-2.ensures.bytes, chars-nil) refl }

pub returns-clause-word : goal.returns-clause-word
returns-clause-word c = ap chars c.new-2.ensures.bytes ∙ chars-nil
