use Rattle.std.proofs.Common.{◌≡◌, true, false, string_bytes, ◌∙◌, arith, tests}
use Rattle.std.specs.Str.{chars}
use Rattle.std.specs.Char.{is_ascii_whitespace}
use Rattle.std.proofs.lemmas.Iterator.{YieldsList-from_chars}
use Rattle.std.proofs.lemmas.Iterator.Consumers.{YieldsList-turn, YieldsList-end}
use Rattle.std.proofs.lemmas.Str.{chars-nil, IsUtf8-string_bytes}
use Rattle.tl_base.proofs.Texts.{chars-push}
use Rattle.tl_text.proofs.WordLemmas.{words_from-start, after_letter, after_white, at_end}
use Rattle.tl_text.proofs.word.words.Goals as goal

pub loop-c-init : goal.loop-c-init
loop-c-init c =
    rw (c.new-list.ensures, c.new-word.ensures.bytes, chars-nil) (words_from-start (chars c.args.text.now))

pub loop-c-preserved : goal.loop-c-preserved
loop-c-preserved c =
    let letter : is_ascii_whitespace c.in-Some.c ≡ false = grind (arith, tests) in
    let start = YieldsList-from_chars c.args.text.now c.utf8.text cc in
    let turn = YieldsList-turn start c.loop-c.yielded _ c.loop-c.yielded_by _ _ c.in-Some.c c.in-Some.is c.next.ensures.steps in
    let bytes = string_bytes c.loop-c.word in
    let more = string_bytes c.push.new.self in
    let longer = chars-push bytes more c.in-Some.c (IsUtf8-string_bytes c.loop-c.word) (IsUtf8-string_bytes c.push.new.self)
    c.in_ok-push.ensures.bytes in
    rw longer (after_letter c.loop-c.list (chars c.args.text.now) c.loop-c.yielded c.in-Some.c (chars bytes)
    turn c.loop-c.invariant letter)

pub loop-c-preserved-then-is_ascii_whitespace : goal.loop-c-preserved-then-is_ascii_whitespace
loop-c-preserved-then-is_ascii_whitespace c =
    let white : is_ascii_whitespace c.in-Some.c ≡ true = grind (arith, tests) in
    let start = YieldsList-from_chars c.args.text.now c.utf8.text cc in
    let turn = YieldsList-turn start c.loop-c.yielded _ c.loop-c.yielded_by _ _ c.in-Some.c c.in-Some.is c.next.ensures.steps in
    let word = chars (string_bytes c.loop-c.word) in
    rw (c.in_ok-push_word.ensures, c.new-word-then-is_ascii_whitespace.ensures.bytes, chars-nil)
    (after_white c.loop-c.list (chars c.args.text.now) c.loop-c.yielded c.in-Some.c word turn c.loop-c.invariant white)

pub returns : goal.returns
returns c =
    let start = YieldsList-from_chars c.args.text.now c.utf8.text cc in
    let end = YieldsList-end start c.loop-c.yielded _ c.loop-c.yielded_by _ _ c.in-None.is c.next.ensures.steps in
    c.in_ok-push_word-2.ensures
    ∙ at_end c.loop-c.list (chars c.args.text.now) c.loop-c.yielded (chars (string_bytes c.loop-c.word)) end.1 c.loop-c.invariant
