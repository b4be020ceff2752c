use Rattle.std.proofs.Common.{[], ◌∷◌, ◌++◌, sym, ap, ◌∙◌, arith, length}
use Rattle.std.specs.Str.{chars}
use Rattle.tl_token.specs.Characters.{is_name_character, is_gap, run}
use Rattle.tl_token.specs.inner.States.{read, in_name, between, with_more, named_attribute}
use Rattle.tl_token.specs.inner.Reading.{tag_found}
use Rattle.tl_token.specs.inner.Found.{given_of, given_after}
use Rattle.tl_token.specs.inner.Reader.{unread}
use Rattle.tl_token.specs.declared.tag.Given.{Given}
use Rattle.tl_token.proofs.Numbered.{given_of-push}
use Rattle.tl_token.proofs.TagSteps.{so_far_none, so_far_more, name_read, past_le, past_less, attributes_failed}
use Rattle.tl_token.proofs.reader.Reader.attributes.Goals as goal

pub loop-self-init : goal.loop-self-init
loop-self-init c = (
  [],
  c.none-given.ensures,
  c.run.ensures.ended,
  λ t. so_far_none (unread c.args.self.now) t ∙ ap (read (between (with_more t []))) (sym c.run.ensures.past),
)

pub returns-in_err-value : goal.returns-in_err-value
returns-in_err-value c =
    let (all, given, gap, h) = c.loop-self.invariant in
    let cs = unread c.loop-self.self in
    attributes_failed c.from_residual.result c.in_err-value.field-0.0 (unread c.args.self.now) (unread c.value.new.self)
    c.from_residual.ensures.1
    (λ t. ap tag_found (h t ∙ name_read (with_more t all) cs (sym c.is_at.ensures ∙ c.loop-self-test.true)
    ∙ ap (read (in_name (with_more t all) (run is_name_character cs))) (sym c.run-name.ensures.past))
    ∙ c.in_err-value.ensures.value (with_more t all) (run is_name_character cs))

pub loop-self-smaller : goal.loop-self-smaller
loop-self-smaller c =
    let cs = unread c.loop-self.self in
    omega (
      arith,
      past_less is_name_character cs (sym c.is_at.ensures ∙ c.loop-self-test.true),
      ap length c.run-name.ensures.past,
      c.in_ok-value.ensures.no_longer,
      ap length c.run-in-loop-self.ensures.past,
      past_le is_gap (unread c.value.new.self),
    )

pub loop-self-preserved : goal.loop-self-preserved
loop-self-preserved c =
    let (all, given, gap, h) = c.loop-self.invariant in
    let cs = unread c.loop-self.self in
    let name = run is_name_character cs in
    let value = chars c.in_ok-value.value.now in
    let more = all ++ named_attribute name value ∷ [] in (
      more,
      c.add.ensures ∙ ap (λ (g : Given). given_after g (named_attribute (chars c.run-name.result.now) value)) given
          ∙ ap (λ n. given_after (given_of all) (named_attribute n value)) c.run-name.ensures.run ∙ sym
          (given_of-push all (named_attribute name value)),
      c.run-in-loop-self.ensures.ended,
      λ t. so_far_more (unread c.args.self.now) cs (unread c.value.new.self) value all h
          (sym c.is_at.ensures ∙ c.loop-self-test.true)
          (λ u n. ap (read (in_name u n)) (sym c.run-name.ensures.past) ∙ c.in_ok-value.ensures.value u n) t
          ∙ ap (read (between (with_more t more))) (sym c.run-in-loop-self.ensures.past),
    )
