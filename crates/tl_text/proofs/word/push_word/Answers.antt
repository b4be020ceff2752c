use Rattle.std.proofs.Common.{◌≡◌, true, false, cond, [], ◌∷◌, ◌++◌, string_bytes, ap, sym, ◌∙◌, arith, tests}
use Rattle.std.specs.Str.{chars}
use Rattle.std.proofs.lemmas.Bool.Decides.{nat_tests}
use Rattle.std.proofs.lemmas.List.{append-nil}
use Rattle.std.proofs.lemmas.Str.{IsUtf8-string_bytes}
use Rattle.tl_text.specs.Words.{has_character}
use Rattle.tl_text.proofs.WordLemmas.{has_character-chars}
use Rattle.tl_text.proofs.word.push_word.Goals as goal

pub returns-in_ok-push : goal.returns-in_ok-push
returns-in_ok-push c =
    let word = chars (string_bytes c.args.word) in
    let shown = has_character-chars (string_bytes c.args.word) (IsUtf8-string_bytes c.args.word) in
    let counted = c.args.word.bytes.ok.0 in
    let some : has_character word ≡ true = grind (arith, nat_tests, tests) in
    c.in_ok-push.ensures.ok ∙ ap (λ last. c.args.list.now ++ last ∷ []) c.from_string.ensures
    ∙ ap (λ b. c.args.list.now ++ cond b (word ∷ []) []) (sym some)

pub returns-else-not-is_empty : goal.returns-else-not-is_empty
returns-else-not-is_empty c =
    let word = chars (string_bytes c.args.word) in
    let shown = has_character-chars (string_bytes c.args.word) (IsUtf8-string_bytes c.args.word) in
    let counted = c.args.word.bytes.ok.0 in
    let none : has_character word ≡ false = grind (arith, nat_tests, tests) in
    sym (append-nil c.args.list.now) ∙ ap (λ b. c.args.list.now ++ cond b (word ∷ []) []) (sym none)
