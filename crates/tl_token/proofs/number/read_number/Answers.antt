use Rattle.std.proofs.Common.{◌≡◌, ap, ◌∙◌, min}
use Rattle.std.specs.Str.{chars}
use Rattle.std.specs.Char.{is_ascii_digit}
use Rattle.std.specs.Option.{option_map}
use Rattle.tl_token.specs.Characters.{◌∈◌, is_space, begins, run, past}
use Rattle.tl_token.specs.Numbers.{unsigned, signed_number}
use Rattle.tl_token.specs.inner.Reader.{unread}
use Rattle.tl_token.proofs.number.read_number.Goals as goal

pub returns : goal.returns
returns c =
    let cs = past is_space (chars c.args.value.now) in
    let spaces : unread c.run.new.self ≡ cs = c.run.ensures.past ∙ ap (past is_space) c.new-value.ensures in
    let sign : c.pass_sign-is_negative.result ≡ begins (λ d. d ∈ "-") cs =
    c.pass_sign-is_negative.ensures.negative ∙ ap (begins (λ d. d ∈ "-")) spaces in
    let digits : chars c.run-2.result.now ≡ run is_ascii_digit (unsigned cs) =
    c.run-2.ensures.run ∙ ap (run is_ascii_digit) (c.pass_sign-is_negative.ensures.passed ∙ ap unsigned spaces) in
    c.signed_number.ensures
    ∙ ap (λ b. option_map (λ n. min n 4294967295) (signed_number b (chars c.run-2.result.now))) sign
    ∙ ap (λ ds. option_map (λ n. min n 4294967295) (signed_number (begins (λ d. d ∈ "-") cs) ds)) digits
