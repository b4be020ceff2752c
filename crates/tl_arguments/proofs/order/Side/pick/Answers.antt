-- One more word is picked, or left out.
use Rattle.std.proofs.Common.{◌≡◌, ◌+◌, ◌<◌, ◌++◌, [], ap, get_or, length, map, drop, sym, subst, ◌∙◌}
use Rattle.std.proofs.Common.{string_bytes, arith}
use Rattle.std.proofs.lemmas.List.{length-map}
use Rattle.tl_command.proofs.WordLemmas.{word_at}
use Rattle.tl_arguments.specs.declared.role.Role.TheVariants.{Plain}
use Rattle.tl_arguments.specs.Arranged.{is_of, role_after, side_words}
use Rattle.tl_arguments.proofs.StepLemmas.{picked_more, picked_same, spelled_more}
use Rattle.tl_arguments.proofs.order.Side.pick.Goals as goal
use Rattle.tl_arguments.proofs.order.Side.pick.Goals.{then-has+in_ok-from_str+in_ok-push, else-has}

pub loop-word-preserved : goal.loop-word-preserved
loop-word-preserved c =
    let all = side_words c.args.self Plain (map string_bytes c.args.words.now) in
    let words = map string_bytes c.args.words.now in
    let within : c.loop-word.word-index < length (map string_bytes c.args.words.now) =
    omega (arith, c.loop-word-test.true, length-map c.args.words.now string_bytes) in
    let at : c.as_str.result.now ≡ get_or (map string_bytes c.args.words.now) c.loop-word.word-index [] =
    word_at string_bytes c.args.words.now c.loop-word.word-index c.word-item.result c.as_str.result.now []
    c.loop-word-test.true c.word-item.is c.as_str.ensures.value in
    let role : is_of c.args.self (role_after c.loop-word.role c.as_str.result.now) ≡ c.has.result =
    sym (c.has.ensures ∙ ap (is_of c.args.self) c.after-role.ensures) in
    subst (λ r. map string_bytes c.if-has.picked.items ++ side_words c.args.self r (drop (c.loop-word.word-index + 1) words) ≡ all)
    (sym c.after-role.ensures)
    (elim c.if-has.branch [
      | then-has+in_ok-from_str+in_ok-push w ↦
          subst (λ picked. picked ++ side_words c.args.self (role_after c.loop-word.role c.as_str.result.now)
          (drop (c.loop-word.word-index + 1) words) ≡ all)
          (sym (ap (λ v. map string_bytes v.items) w.picked-is ∙ spelled_more string_bytes c.loop-word.picked.items
          w.push.new.self.items w.in_ok-from_str.field-0 c.as_str.result.now w.in_ok-push.ensures.items
          (w.in_ok-from_str.ensures.ok ∙ w.as_str-then-has.ensures.value ∙ sym c.as_str.ensures.value)))
          (picked_more c.args.self c.loop-word.role (map string_bytes c.loop-word.picked.items) words all c.loop-word.word-index
          c.as_str.result.now within at c.loop-word.invariant (role ∙ w.if-has.true))
      | else-has w ↦
          subst (λ picked. map string_bytes picked.items ++ side_words c.args.self
          (role_after c.loop-word.role c.as_str.result.now) (drop (c.loop-word.word-index + 1) words) ≡ all)
          (sym w.picked-is)
          (picked_same c.args.self c.loop-word.role (map string_bytes c.loop-word.picked.items) words all c.loop-word.word-index
          c.as_str.result.now within at c.loop-word.invariant (role ∙ w.if-has.false))
    ])
