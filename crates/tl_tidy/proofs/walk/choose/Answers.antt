use Rattle.std.proofs.Common.{◌++◌, ◌∷◌, [], ap, ◌∙◌}
use Rattle.tl_tidy.proofs.walk.choose.Goals as goal

pub walk_zones-requires-clause-whole : goal.walk_zones-requires-clause-whole
walk_zones-requires-clause-whole c =
    c.in_ok-push.ensures.items ∙ ap (λ zones. zones ++ c.in_ok-whole.field-0 ∷ []) c.new-stack.ensures.items
    ∙ ap (λ zone. zone ∷ []) c.in_ok-whole.ensures
