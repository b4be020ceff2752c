use Rattle.std.proofs.Common.{sym, ap, Some, ◌∙◌}
use Rattle.tl_token.specs.inner.Reader.{unread}
use Rattle.tl_token.proofs.MarkupSteps.{angle_declares}
use Rattle.tl_token.proofs.reader.Reader.angle.Goals as goal

pub returns-in-Some-eq33 : goal.returns-in-Some-eq33
returns-in-Some-eq33 c =
    let i = c.in-Some-eq33.is in
    let f = c.in-Some-eq33.field-0-is in
    c.declaration.ensures
    ∙ sym (angle_declares (unread c.args.self.now) (unread c.pass.new.self)
    (sym c.peek.ensures ∙ i ∙ ap Some c.in-Some-eq33.field-0-test) c.pass.ensures)
