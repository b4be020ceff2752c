-- The first space ends the first word.
use Rattle.std.proofs.Common.{◌+◌, ◌-◌, ◌==◌, ℕ, length, refl, rules}
use Rattle.std.proofs.lemmas.List.Splits.{slice_split_none}
use Rattle.std.proofs.lemmas.List.Sums.{position_or_len_is}
use Rattle.tl_request.proofs.Words.{first_word_at}
use Rattle.tl_request.proofs.heading.first_word.Goals as goal

pub returns-in-Some-clause-first : goal.returns-in-Some-clause-first
returns-in-Some-clause-first c =
    let bytes = c.args.bytes.now in
    let found = position_or_len_is (λ (byte : ℕ). byte == 32) bytes c.in-Some.at 0 (search rules) (search rules) (search rules) in
    first_word_at bytes c.in-Some.at (length bytes - (c.in-Some.at + 1)) found (search rules) refl

pub returns-in-None-clause-first : goal.returns-in-None-clause-first
returns-in-None-clause-first c = slice_split_none (λ (byte : ℕ). byte == 32) c.args.bytes.now (search rules)
