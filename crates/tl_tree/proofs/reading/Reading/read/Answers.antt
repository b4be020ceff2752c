use Rattle.std.proofs.Common.{◌≡◌, sym, ap, ◌∙◌, subst, chars}
use Rattle.std.proofs.lemmas.Result.{IfOk-weaker}
use Rattle.tl_tree.specs.Tags as tags
use Rattle.tl_tree.specs.Tags.{Kind, class_of}
use Rattle.tl_tree.specs.inner.Documents.{Reads}
use Rattle.tl_tree.proofs.reading.Reading.read.Goals as goal

pub returns-in-Text-clause-ok : goal.returns-in-Text-clause-ok
returns-in-Text-clause-ok c =
    let e : tags.text (chars c.as_str.result.now) ≡ class_of c.args.kind.now =
    ap tags.text c.as_str.ensures ∙ sym (ap class_of c.in-Text.is) in
    IfOk-weaker c.text.result _ _ (λ new h. let P : Kind → Type 0 = λ k. Reads c.args.self c.args.tables k new in
    subst P e (h c.args.tables)) c.text.ensures.ok

pub returns-in-End-clause-ok : goal.returns-in-End-clause-ok
returns-in-End-clause-ok c =
    IfOk-weaker c.end.result _ _ (λ new h. let P : Kind → Type 0 = λ k. Reads c.args.self c.args.tables k new in
    subst P (sym (ap class_of c.in-End.is)) (h c.args.tables)) c.end.ensures.ok
