use Rattle.std.proofs.Common.{ℕ, Some, List, Option, sym, ap, ◌∙◌, drop, cond}
use Rattle.std.specs.Str.{chars}
use Rattle.std.specs.Char.{is_ascii_hexdigit, is_ascii_digit}
use Rattle.tl_token.specs.Numbers.{number}
use Rattle.tl_token.specs.Grammar.{numbered_character, ended_run, referred}
use Rattle.tl_token.specs.inner.Reader.{unread}
use Rattle.tl_token.proofs.Saturating.{numbered_below}
use Rattle.tl_token.proofs.reader.Reader.numeric_reference.Goals as goal

pub returns-in_ok-digits : goal.returns-in_ok-digits
returns-in_ok-digits c =
    let cs = unread c.args.self.now in
    let meaning : List ℕ → Option ℕ = λ digits. numbered_character (number 16 digits) in
    let rest = unread c.ended_run.new.self in
    ap (λ b. cond b (referred meaning (ended_run is_ascii_hexdigit (drop 1 cs)))
    (referred (λ digits. numbered_character (number 10 digits)) (ended_run is_ascii_digit cs)))
    (sym c.is_at.ensures ∙ c.if-is_at.true)
    ∙ ap (λ x. referred meaning (ended_run is_ascii_hexdigit x)) (sym c.pass.ensures) ∙ ap (referred meaning)
    c.in_ok-digits.ensures
    ∙ ap (λ (x : Option ℕ). Some (x, rest))
    (sym (c.numbered_character.ensures ∙ ap numbered_character c.number.ensures ∙ numbered_below
    (number 16 (chars c.in_ok-digits.digits.now))))
