use Rattle.std.proofs.Common.{◌≡◌, false, ◌⊎◌, ◌||◌, sym, ap, ◌∙◌, arith, inl, inr, length}
use Rattle.tl_token.specs.Characters.{◌∈◌, past, begins, is_space, is_value_character}
use Rattle.tl_token.specs.inner.States.{between, with_attribute, read}
use Rattle.tl_token.specs.inner.Reading.{tag_found}
use Rattle.tl_token.specs.inner.Found.{stop}
use Rattle.tl_token.specs.inner.Reader.{unread}
use Rattle.tl_token.proofs.TagSteps.{unquoted_ends, unquoted_stops, past_le}
use Rattle.tl_token.proofs.reader.Reader.unquoted.Goals as goal
use Rattle.tl_token.proofs.reader.Reader.unquoted.Goals.{else-is_value-via-then-is_value+else-is_at}
use Rattle.tl_token.proofs.reader.Reader.unquoted.Goals.{else-is_value-via-else-is_value}

pub returns-then-is_at-clause-value : goal.returns-then-is_at-clause-value
returns-then-is_at-clause-value c = λ t n.
    let old = unread c.args.self.now in
    unquoted_ends t n old (sym c.is_at-is_value.ensures ∙ c.if-is_value.true)
    (ap (begins (λ d. is_space d || d ∈ ">")) (sym c.run-value.ensures.past) ∙ sym c.is_at.ensures ∙ c.if-is_at.true)
    ∙ ap (read (between (with_attribute t n (Rattle.tl_token.specs.Characters.run is_value_character old))))
    (sym c.run-value.ensures.past)
    ∙ ap (λ v. read (between (with_attribute t n v)) (unread c.run-value.new.self)) (sym c.run-value.ensures.run)

pub returns-then-is_at-clause-no_longer : goal.returns-then-is_at-clause-no_longer
returns-then-is_at-clause-no_longer c = omega (
  arith,
  ap length c.run-value.ensures.past,
  past_le is_value_character (unread c.args.self.now),
)

pub returns-else-is_value-clause-value : goal.returns-else-is_value-clause-value
returns-else-is_value-clause-value c = λ t n.
    let old = unread c.args.self.now in
    let after = past is_value_character old in
    let which : (begins is_value_character old ≡ false) ⊎ (begins (λ d. is_space d || d ∈ ">") after ≡ false) =
    elim c.else-is_value.branch [
      | else-is_value-via-then-is_value+else-is_at w ↦ inr
          (ap (begins (λ d. is_space d || d ∈ ">")) (sym c.run-value.ensures.past) ∙ sym w.is_at.ensures ∙ w.if-is_at.false)
      | else-is_value-via-else-is_value w ↦ inl (sym c.is_at-is_value.ensures ∙ w.if-is_value.false)
    ] in
    ap tag_found (unquoted_stops t n old c.requires.space c.requires.quote which) ∙ ap (λ x. tag_found (stop x))
    (sym c.run-value.ensures.past)
    ∙ c.tag_fault.ensures
