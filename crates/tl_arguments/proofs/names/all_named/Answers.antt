-- One more word is spelled.
use Rattle.std.proofs.Common.{◌≡◌, ◌+◌, ◌++◌, [], map, drop, sym, subst, string_bytes, arith}
use Rattle.std.proofs.lemmas.List.{length-map}
use Rattle.tl_command.proofs.WordLemmas.{word_at}
use Rattle.tl_arguments.specs.Arranged.{named, named_from, all_named}
use Rattle.tl_arguments.proofs.StepLemmas.{named_more, spelled_more}
use Rattle.tl_arguments.proofs.names.all_named.Goals as goal

pub loop-place-preserved : goal.loop-place-preserved
loop-place-preserved c =
    subst (λ names. names ++ named_from c.command_of-command.result.now (c.loop-place.place + 1)
    (drop (c.loop-place.place + 1) (map string_bytes c.args.words.now)) ≡ all_named (map string_bytes c.args.words.now))
    (sym (spelled_more string_bytes c.loop-place.names.items c.push.new.self.items c.in_ok-named.field-0
    (named c.command_of-command.result.now c.loop-place.place c.as_str.result.now) c.in_ok-push.ensures.items
    c.in_ok-named.ensures))
    (named_more c.command_of-command.result.now (map string_bytes c.loop-place.names.items) (map string_bytes c.args.words.now)
    (all_named (map string_bytes c.args.words.now)) c.loop-place.place c.as_str.result.now
    (omega (arith, c.loop-place-test.true, length-map c.args.words.now string_bytes))
    (word_at string_bytes c.args.words.now c.loop-place.place c.index-words-place.result c.as_str.result.now []
    c.loop-place-test.true c.index-words-place.is c.as_str.ensures.value)
    c.loop-place.invariant)
