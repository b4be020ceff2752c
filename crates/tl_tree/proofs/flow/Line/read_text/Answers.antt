use Rattle.std.proofs.Common.{◌∷◌, refl, sym, ap, ◌∙◌}
use Rattle.std.specs.Str.{chars}
use Rattle.tl_tree.specs.Grammar.{character}
use Rattle.std.proofs.lemmas.Iterator.{YieldsList-from_chars}
use Rattle.std.proofs.lemmas.Iterator.Consumers.{YieldsList-end}
use Rattle.tl_tree.specs.inner.Lines.{line_atoms}
use Rattle.tl_tree.proofs.Lines.{marks_push, marks_all}
use Rattle.tl_tree.proofs.flow.Line.read_text.Goals as goal

pub loop-c-init : goal.loop-c-init
loop-c-init c = λ later. refl

pub loop-c-preserved : goal.loop-c-preserved
loop-c-preserved c = λ later.
    c.in_ok-read_character.ensures.same later ∙ c.loop-c.invariant (character c.in-Some.c ∷ later)
    ∙ ap (λ ms. line_atoms c.args.self.now ms) (sym (marks_push c.loop-c.yielded c.in-Some.c later))

pub returns : goal.returns
returns c =
    let end = YieldsList-end (YieldsList-from_chars c.args.text.now c.utf8.text cc)
    c.loop-c.yielded _ c.loop-c.yielded_by _ _ c.in-None.is
    c.next.ensures.steps in
    record {
      same = λ later. c.loop-c.invariant later
          ∙ ap (λ ms. line_atoms c.args.self.now ms) (marks_all c.loop-c.yielded (chars c.args.text.now) later end.0);
    }
