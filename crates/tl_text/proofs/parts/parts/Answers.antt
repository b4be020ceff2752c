use Rattle.std.proofs.Common.{◌≡◌, ◌++◌, ◌∷◌, [], length, drop, reverse, get_or, string_bytes, ◌<◌, ◌≤◌, refl, ap, sym, ◌∙◌, subst}
use Rattle.std.specs.List.{All}
use Rattle.std.specs.Str.{chars}
use Rattle.std.proofs.lemmas.Iterator.{YieldsList-from_chars}
use Rattle.std.proofs.lemmas.Iterator.Consumers.{YieldsList-turn, YieldsList-end}
use Rattle.std.proofs.lemmas.Str.{chars-nil, IsUtf8-string_bytes}
use Rattle.tl_base.specs.Text.{byte_count}
use Rattle.tl_base.specs.declared.limits.TheConstants.{MAX_FILE_BYTES}
use Rattle.tl_base.proofs.Texts.{chars-push}
use Rattle.tl_text.specs.Parts.{nearest, second, parts_between, is_part_break, parts_of}
use Rattle.tl_text.proofs.PartsRead.{parts_from, parts_from-start, read_more, after_break, after_inside, at_end, small_parts}
use Rattle.tl_text.proofs.parts.parts.Goals.{then-parts_between+in_ok-push, else-parts_between}
use Rattle.tl_text.proofs.parts.parts.Goals as goal

pub loop-c-init : goal.loop-c-init
loop-c-init c = (refl, refl, rw (c.new-parts.ensures, c.new-part.ensures.bytes, chars-nil) (parts_from-start c.args.word.now))

pub loop-c-preserved : goal.loop-c-preserved
loop-c-preserved c =
    let y = c.loop-c.yielded in
    let letter = c.in-Some.c in
    let earlier = chars (string_bytes c.loop-c.part) in
    let part = chars (string_bytes c.if-parts_between.part) in
    let left = drop (length (y ++ letter ∷ [])) c.args.word.now in
    let start = YieldsList-from_chars c.as_str.result.now c.as_str.utf8 cc in
    let turn = subst (λ cs. (length y < length cs) × (letter ≡ get_or cs (length y) letter)) c.as_str.ensures
    (YieldsList-turn start y _ c.loop-c.yielded_by _ _ letter c.in-Some.is c.next.ensures.steps) in
    let said : is_part_break (reverse y) (letter ∷ []) ≡ c.parts_between.result =
    (λ i. parts_between (sym c.loop-c.invariant.1 i) (sym c.loop-c.invariant.0 i) letter) ∙ sym c.parts_between.ensures in
    let joined : c.if-parts_between.parts ++ parts_from (reverse (y ++ letter ∷ [])) (part ++ letter ∷ []) left ≡ parts_of c.args.word.now =
    elim c.if-parts_between.branch [
      | then-parts_between+in_ok-push w ↦
          let parts : c.if-parts_between.parts ≡ c.loop-c.parts ++ earlier ∷ [] =
          w.parts-is ∙ w.in_ok-push.ensures.ok ∙ ap (λ text. c.loop-c.parts ++ text ∷ []) w.from_string.ensures in
          let empty : part ≡ [] =
          ap (λ string. chars (string_bytes string)) w.part-is ∙ ap chars w.new-part-then-parts_between.ensures.bytes ∙ chars-nil in
          (λ i. parts i ++ parts_from (reverse (y ++ letter ∷ [])) (empty i ++ letter ∷ []) left)
          ∙ after_break c.loop-c.parts c.args.word.now y letter earlier turn c.loop-c.invariant.2 (said ∙ w.if-parts_between.true)
      | else-parts_between w ↦
          rw (w.parts-is, w.part-is)
          (after_inside c.loop-c.parts c.args.word.now y letter earlier turn c.loop-c.invariant.2 (said ∙ w.if-parts_between.false))
    ] in
    let longer = chars-push (string_bytes c.if-parts_between.part) (string_bytes c.push-in-loop-c.new.self) letter
    (IsUtf8-string_bytes c.if-parts_between.part) (IsUtf8-string_bytes c.push-in-loop-c.new.self) c.in_ok-push-2.ensures.bytes in (
      ap nearest (sym (read_more y letter)),
      c.loop-c.invariant.0 ∙ ap second (sym (read_more y letter)),
      rw longer joined,
    )

pub returns-clause-parts : goal.returns-clause-parts
returns-clause-parts c =
    let start = YieldsList-from_chars c.as_str.result.now c.as_str.utf8 cc in
    let end = YieldsList-end start c.loop-c.yielded _ c.loop-c.yielded_by _ _ c.in-None.is c.next.ensures.steps in
    c.in_ok-push_word.ensures
    ∙ at_end c.loop-c.parts c.args.word.now c.loop-c.yielded (chars (string_bytes c.loop-c.part)) (end.1 ∙ ap length c.as_str.ensures) c.loop-c.invariant.2

pub returns-clause-small : goal.returns-clause-small
returns-clause-small c =
    subst (All (λ part. byte_count part ≤ MAX_FILE_BYTES)) (sym (returns-clause-parts c)) (small_parts c.args.word.now MAX_FILE_BYTES c.requires)
