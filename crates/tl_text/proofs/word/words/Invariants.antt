use Rattle.std.proofs.Common.{◌≡◌, ◌++◌, length, drop, string_bytes}
use Rattle.std.specs.Str.{chars}
use Rattle.tl_text.specs.Words.{words_of}
use Rattle.tl_text.proofs.WordLemmas.{words_from}
use Rattle.tl_text.proofs.word.words.Given as goal

-- the words so far, and those that the open word and what is left make
abbrev pub invariant-loop-c : goal.invariant-loop-c
invariant-loop-c l =
    l.list ++ words_from (chars (string_bytes l.word)) (drop (length l.yielded) (chars l.text)) ≡ words_of (chars l.text)
