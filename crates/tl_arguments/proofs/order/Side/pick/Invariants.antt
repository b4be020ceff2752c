-- The words that are picked so far, and those of the side among the others, are those of the side.
use Rattle.std.proofs.Common.{◌≡◌, ◌++◌, string_bytes, map, drop}
use Rattle.tl_arguments.specs.declared.role.Role.TheVariants.{Plain}
use Rattle.tl_arguments.specs.Arranged.{side_words}
use Rattle.tl_arguments.proofs.order.Side.pick.Given as goal

abbrev pub invariant-loop-word : goal.invariant-loop-word
invariant-loop-word l =
    map string_bytes l.picked.items ++ side_words l.self l.role (drop l.word-index (map string_bytes l.words))
    ≡ side_words l.self Plain (map string_bytes l.words)
