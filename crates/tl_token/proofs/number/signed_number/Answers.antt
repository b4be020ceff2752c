use Rattle.std.proofs.Common.{sym, ap, ◌∙◌, lit<, length, inl, inr, arith, min}
use Rattle.std.proofs.lemmas.Bool.{eqb-true, eq-eqb, false≢true}
use Rattle.std.specs.Str.{chars}
use Rattle.std.specs.Option.{option_map}
use Rattle.tl_token.specs.Numbers.{signed_number}
use Rattle.tl_token.proofs.Saturating.{signed_either, chars_some, chars_none}
use Rattle.tl_token.proofs.number.signed_number.Goals as goal
use Rattle.tl_token.proofs.number.signed_number.Goals.{else-is_negative-via-then-is_negative+else-number-gt0}
use Rattle.tl_token.proofs.number.signed_number.Goals.{else-is_negative-via-else-is_negative}

pub returns-then-is_empty : goal.returns-then-is_empty
returns-then-is_empty c =
    let empty = eqb-true (length c.args.digits.now) 0 (sym c.is_empty.ensures ∙ c.if-is_empty.true) in
    sym (ap (λ ds. option_map (λ n. min n 4294967295) (signed_number c.args.is_negative ds)) (chars_none c.args.digits.now empty))

pub returns-else-is_negative : goal.returns-else-is_negative
returns-else-is_negative c =
    let digits = c.args.digits.now in
    let n = c.number-number.result in
    let some = chars_some digits c.utf8.digits (λ e. false≢true
    (sym c.if-is_empty.false ∙ c.is_empty.ensures ∙ eq-eqb (length digits) 0 e)) in
    let k = signed_either 4294967295 c.args.is_negative (chars digits) n (lit< tt) some c.number-number.ensures in
    k.1 (elim c.else-is_negative.either [ inl h ↦ inr (omega arith) | inr h ↦ inl h ])
