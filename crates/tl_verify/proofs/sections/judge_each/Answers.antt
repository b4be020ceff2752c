use Rattle.std.proofs.Common.{◌≡◌, ◌∙◌, ◌+◌, ◌<◌, length, get_or, ap, subst, arith}
use Rattle.std.specs.List.{AllZip, range_with_len}
use Rattle.std.proofs.lemmas.List.FromFn.{length-range_with_len, get_or-range_with_len}
use Rattle.tl_base.proofs.Zips.{AllZip-weaker}
use Rattle.tl_form.specs.Subjects.{meant}
use Rattle.tl_verify.specs.inner.Sections.{IsSectionJudged}
use Rattle.tl_verify.proofs.AllJudged.{judged_by_number, judged_good, judged_wrong}
use Rattle.tl_verify.proofs.sections.judge_each.Goals as goal

pub fan_out-requires-after_bounds : goal.fan_out-requires-after_bounds
fan_out-requires-after_bounds g c κs within = λ k d less.
    let all : c.as_slice.result.now ≡ range_with_len 0 c.args.count = c.as_slice.ensures.value ∙ c.in_ok-numbers.ensures in
    let here : k < c.args.count = omega (arith, less, ap length all, length-range_with_len 0 c.args.count) in
    let at : get_or c.as_slice.result.now k d ≡ 0 + k =
    ap (λ numbers. get_or numbers k d) all ∙ get_or-range_with_len 0 c.args.count k d here in (
      omega (arith, at, here, c.requires.there),
      c.requires.subject,
      c.requires.written,
      c.requires.start,
      λ i e before. c.requires.order i e (omega (arith, before, at, here)),
    )

pub returns-clause-good : goal.returns-clause-good
returns-clause-good g c =
    let document = meant c.args.subject.now in
    let judged = c.in_ok-judged.judged.items in
    let all = subst (λ numbers. AllZip (IsSectionJudged document c.args.budget c.args.certificate.now) numbers judged)
    (c.as_slice.ensures.value ∙ c.in_ok-numbers.ensures)
    (AllZip-weaker _ (IsSectionJudged document c.args.budget c.args.certificate.now) c.as_slice.result.now judged (λ n one is. is)
    c.in_ok-judged.ensures) in
    let by = judged_by_number document c.args.budget c.args.certificate.now c.args.count judged all in
    judged_good document c.args.budget c.args.certificate.now c.requires.start c.args.count c.requires.there judged by.0 by.1
    c.first_refusal.result c.first_refusal.ensures

pub returns-clause-wrong : goal.returns-clause-wrong
returns-clause-wrong g c =
    let document = meant c.args.subject.now in
    let judged = c.in_ok-judged.judged.items in
    let all = subst (λ numbers. AllZip (IsSectionJudged document c.args.budget c.args.certificate.now) numbers judged)
    (c.as_slice.ensures.value ∙ c.in_ok-numbers.ensures)
    (AllZip-weaker _ (IsSectionJudged document c.args.budget c.args.certificate.now) c.as_slice.result.now judged (λ n one is. is)
    c.in_ok-judged.ensures) in
    let by = judged_by_number document c.args.budget c.args.certificate.now c.args.count judged all in
    judged_wrong document c.args.budget c.args.certificate.now c.requires.start c.args.count c.requires.there judged by.0 by.1
    c.first_refusal.result c.first_refusal.ensures
