use Rattle.std.proofs.Common.{◌≡◌, ◌||◌, sym, ap, ◌∙◌, cond}
use Rattle.std.specs.Char.{is_ascii_alphanumeric}
use Rattle.tl_token.specs.Characters.{◌∈◌, is_gap, begins, run, past}
use Rattle.tl_token.specs.Elements.{element_of, span_numbers}
use Rattle.tl_token.specs.inner.States.{read, between, empty_tag, with_more}
use Rattle.tl_token.specs.inner.Reading.{tag_found, known_or_not, stands}
use Rattle.tl_token.specs.Grammar.{tag}
use Rattle.tl_token.specs.declared.token.TokenKind.TheVariants.{Start, End}
use Rattle.tl_token.specs.inner.Found.{stop, found_of}
use Rattle.tl_token.specs.inner.Reader.{unread}
use Rattle.tl_token.proofs.TagSteps.{named_tag, tag_attributes, no_name_end, past_ended, failed_with}
use Rattle.tl_token.proofs.reader.Reader.tag.Goals as goal

pub returns-then-not-is_at-2 : goal.returns-then-not-is_at-2
returns-then-not-is_at-2 c =
    let new = unread c.eat-is_end.new.self in
    let after = past is_ascii_alphanumeric new in
    let letter = sym c.is_at.ensures ∙ c.if-not-is_at.false in
    sym (ap tag_found (named_tag (unread c.args.self.now) new c.eat-is_end.result c.eat-is_end.ensures letter
    ∙ no_name_end c.eat-is_end.result (run is_ascii_alphanumeric new) after (past_ended is_ascii_alphanumeric new)
    (ap (begins (λ d. is_gap d || d ∈ ">")) (sym c.run-name.ensures.past) ∙ sym c.is_at-2.ensures ∙ c.if-not-is_at-2.true))
    ∙ ap (λ x. tag_found (stop x)) (sym c.run-name.ensures.past) ∙ c.tag_fault-then-not-is_at-2.ensures)

pub returns-in_err-given : goal.returns-in_err-given
returns-in_err-given c =
    let new = unread c.eat-is_end.new.self in
    let letter = sym c.is_at.ensures ∙ c.if-not-is_at.false in
    let close = ap (begins (λ d. is_gap d || d ∈ ">")) (sym c.run-name.ensures.past) ∙ sym
    c.is_at-2.ensures ∙ c.if-not-is_at-2.false in
    let t = empty_tag c.eat-is_end.result (run is_ascii_alphanumeric new) in
    failed_with (λ r. found_of r (unread c.attributes.new.self) ≡ tag_found
    (read Rattle.tl_token.specs.inner.States.tag_open (unread c.args.self.now)))
    c.from_residual.result c.in_err-given.field-0.0 c.from_residual.ensures.1
    (sym (ap tag_found (tag_attributes (unread c.args.self.now) new c.eat-is_end.result c.eat-is_end.ensures letter close
    ∙ ap (read (between t)) (sym c.run-name.ensures.past))
    ∙ c.in_err-given.ensures t))

pub returns-in_default : goal.returns-in_default
returns-in_default c =
    let new = unread c.eat-is_end.new.self in
    let letter = sym c.is_at.ensures ∙ c.if-not-is_at.false in
    let close = ap (begins (λ d. is_gap d || d ∈ ">")) (sym c.run-name.ensures.past) ∙ sym
    c.is_at-2.ensures ∙ c.if-not-is_at-2.false in
    let name = run is_ascii_alphanumeric new in
    let t = empty_tag c.eat-is_end.result name in
    let (all, given, h) = c.in_ok-given.ensures in
    let rest = unread c.attributes.new.self in
    sym (ap tag_found (tag_attributes (unread c.args.self.now) new c.eat-is_end.result c.eat-is_end.ensures letter close
    ∙ ap (read (between t)) (sym c.run-name.ensures.past) ∙ h t)
    ∙ ap (known_or_not (with_more t all) rest) (ap element_of
    (sym c.run-name.ensures.run) ∙ sym c.named.ensures ∙ c.in_default.is))

pub returns-then-is_end : goal.returns-then-is_end
returns-then-is_end c =
    let new = unread c.eat-is_end.new.self in
    let letter = sym c.is_at.ensures ∙ c.if-not-is_at.false in
    let close = ap (begins (λ d. is_gap d || d ∈ ">")) (sym c.run-name.ensures.past) ∙ sym
    c.is_at-2.ensures ∙ c.if-not-is_at-2.false in
    let name = run is_ascii_alphanumeric new in
    let t = empty_tag c.eat-is_end.result name in
    let (all, given, h) = c.in_ok-given.ensures in
    let rest = unread c.attributes.new.self in
    let e = c.in-Some.element in
    sym (ap tag_found (tag_attributes (unread c.args.self.now) new c.eat-is_end.result c.eat-is_end.ensures letter close
    ∙ ap (read (between t)) (sym c.run-name.ensures.past) ∙ h t)
    ∙ ap (known_or_not (with_more t all) rest) (ap element_of (sym c.run-name.ensures.run) ∙ sym c.named.ensures ∙ c.in-Some.is)
    ∙ ap (λ b. stands (tag (cond b (End e) (Start e (span_numbers e all)))) rest) c.if-is_end.true)

pub returns-else-is_end : goal.returns-else-is_end
returns-else-is_end c =
    let new = unread c.eat-is_end.new.self in
    let letter = sym c.is_at.ensures ∙ c.if-not-is_at.false in
    let close = ap (begins (λ d. is_gap d || d ∈ ">")) (sym c.run-name.ensures.past) ∙ sym
    c.is_at-2.ensures ∙ c.if-not-is_at-2.false in
    let name = run is_ascii_alphanumeric new in
    let t = empty_tag c.eat-is_end.result name in
    let (all, given, h) = c.in_ok-given.ensures in
    let rest = unread c.attributes.new.self in
    let e = c.in-Some.element in
    sym (ap tag_found (tag_attributes (unread c.args.self.now) new c.eat-is_end.result c.eat-is_end.ensures letter close
    ∙ ap (read (between t)) (sym c.run-name.ensures.past) ∙ h t)
    ∙ ap (known_or_not (with_more t all) rest) (ap element_of (sym c.run-name.ensures.run) ∙ sym c.named.ensures ∙ c.in-Some.is)
    ∙ ap (λ b. stands (tag (cond b (End e) (Start e (span_numbers e all)))) rest) c.if-is_end.false
    ∙ ap (λ s. stands (tag (Start e s)) rest) (sym (c.spans.ensures all given)))
