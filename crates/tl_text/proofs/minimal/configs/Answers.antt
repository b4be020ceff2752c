use Rattle.std.proofs.Common.{◌++◌, ◌∷◌, [], SomeIff, length, ap, sym, subst, ◌∙◌, arith}
use Rattle.tl_base.specs.Steps.{AreSteps}
use Rattle.tl_text.specs.Minimal.{AreMinimal}
use Rattle.tl_text.proofs.Minimals.{IsSearchedBelow, IsSearchedBelow-first, IsSearchedBelow-fewer, IsSearchedBelow-same}
use Rattle.tl_text.proofs.Minimals.{IsFlat-from}
use Rattle.tl_text.proofs.Minimals.{AllFit-from_cutting, AllFit-searched, units-fit, length-units, lines_of}
use Rattle.tl_text.proofs.minimal.configs.Goals as goal

pub filled-filling-requires-clause-fits : goal.filled-filling-requires-clause-fits
filled-filling-requires-clause-fits c =
    let measured = c.as_slice-units.ensures ∙ c.in_ok-measures.ensures.measured in
    let w = c.least_width-width.result in
    units-fit w c.args.p.now c.as_slice-units.result.now measured
    (AllFit-from_cutting w c.args.p.now (c.least_width-width.ensures.holds w (omega arith)))

pub filled-filling-requires-clause-width : goal.filled-filling-requires-clause-width
filled-filling-requires-clause-width c = c.least_width-width.ensures.least c.args.most c.requires.holds

pub filled-filling-requires-clause-few : goal.filled-filling-requires-clause-few
filled-filling-requires-clause-few c = omega (arith, ap length c.as_slice-units.ensures, c.in_ok-measures.ensures.few)

pub lines-requires : goal.lines-requires
lines-requires c = omega (arith, ap length c.as_slice-units.ensures, c.in_ok-measures.ensures.few, c.filled-filling.ensures.ended)

pub loop-filling-init : goal.loop-filling-init
loop-filling-init c =
    let atoms = c.args.p.now in
    let units = c.as_slice-units.result.now in
    let w = c.least_width-width.result in
    let filling = c.filled-filling.result in
    let measured = c.as_slice-units.ensures ∙ c.in_ok-measures.ensures.measured in
    let fit = AllFit-from_cutting w atoms (c.least_width-width.ensures.holds w (omega arith)) in
    let pushed = c.in_ok-push.ensures.ok ∙ ap (λ list. list ++ record { width = w; height = c.lines.result } ∷ [])
    c.new-list.ensures
    ∙ ap (λ h. record { width = w; height = h } ∷ []) (c.lines.ensures 0) in
    record {
      searched = subst (λ list. IsSearchedBelow atoms filling.next (lines_of filling) list) (sym pushed)
          (IsSearchedBelow-first atoms w filling.next (lines_of filling) c.filled-filling.ensures.next.0
          (IsFlat-from atoms units w filling measured fit c.filled-filling.ensures.lines) c.least_width-width.ensures.least);
      next = c.filled-filling.ensures.next.1;
      ended = omega (arith, c.filled-filling.ensures.ended, length-units atoms units measured);
    }

pub filled-wider-requires-clause-fits : goal.filled-wider-requires-clause-fits
filled-wider-requires-clause-fits c =
    let measured = c.as_slice-units.ensures ∙ c.in_ok-measures.ensures.measured in
    units-fit c.loop-filling.filling.next c.args.p.now c.as_slice-units.result.now measured
    (AllFit-searched c.args.p.now c.loop-filling.filling.next (lines_of c.loop-filling.filling)
    c.loop-filling.list c.loop-filling.invariant.searched)

pub filled-wider-requires-clause-few : goal.filled-wider-requires-clause-few
filled-wider-requires-clause-few c = omega (arith, ap length c.as_slice-units.ensures, c.in_ok-measures.ensures.few)

pub lines-requires-in-loop-filling : goal.lines-requires-in-loop-filling
lines-requires-in-loop-filling c = omega (
  arith,
  ap length c.as_slice-units.ensures,
  c.in_ok-measures.ensures.few,
  c.filled-wider.ensures.ended,
)

pub lines-requires-in-loop-filling-2 : goal.lines-requires-in-loop-filling-2
lines-requires-in-loop-filling-2 c =
    let measured = c.as_slice-units.ensures ∙ c.in_ok-measures.ensures.measured in
    omega (
      arith,
      ap length c.as_slice-units.ensures,
      c.in_ok-measures.ensures.few,
      c.loop-filling.invariant.ended,
      length-units c.args.p.now
          c.as_slice-units.result.now measured,
    )

pub lines-requires-then-lines : goal.lines-requires-then-lines
lines-requires-then-lines c = omega (
  arith,
  ap length c.as_slice-units.ensures,
  c.in_ok-measures.ensures.few,
  c.filled-wider.ensures.ended,
)

pub loop-filling-preserved-in_ok-push-2 : goal.loop-filling-preserved-in_ok-push-2
loop-filling-preserved-in_ok-push-2 c =
    let atoms = c.args.p.now in
    let units = c.as_slice-units.result.now in
    let past = c.loop-filling.filling.next in
    let wider = c.filled-wider.result in
    let measured = c.as_slice-units.ensures ∙ c.in_ok-measures.ensures.measured in
    let fit = AllFit-searched atoms past (lines_of c.loop-filling.filling)
    c.loop-filling.list c.loop-filling.invariant.searched in
    let pushed = c.in_ok-push-2.ensures.ok ∙ ap (λ h. c.loop-filling.list ++ record { width = past; height = h } ∷ [])
    (c.lines-then-lines.ensures 0) in
    record {
      searched = subst (λ list. IsSearchedBelow atoms wider.next (lines_of wider) list) (sym pushed)
          (IsSearchedBelow-fewer atoms past wider.next (lines_of c.loop-filling.filling)
          (lines_of wider) c.loop-filling.list c.loop-filling.invariant.searched c.filled-wider.ensures.next.0
          (IsFlat-from atoms units past wider measured fit c.filled-wider.ensures.lines)
          (omega (arith, c.if-lines.true, c.lines-in-loop-filling.ensures 0, c.lines-in-loop-filling-2.ensures 0)));
      next = c.filled-wider.ensures.next.1;
      ended = omega (arith, c.filled-wider.ensures.ended, length-units atoms units measured);
    }

pub loop-filling-preserved : goal.loop-filling-preserved
loop-filling-preserved c =
    let atoms = c.args.p.now in
    let units = c.as_slice-units.result.now in
    let past = c.loop-filling.filling.next in
    let wider = c.filled-wider.result in
    let measured = c.as_slice-units.ensures ∙ c.in_ok-measures.ensures.measured in
    let fit = AllFit-searched atoms past (lines_of c.loop-filling.filling)
    c.loop-filling.list c.loop-filling.invariant.searched in
    record {
      searched =
          IsSearchedBelow-same atoms past wider.next (lines_of c.loop-filling.filling)
          (lines_of wider) c.loop-filling.list c.loop-filling.invariant.searched c.filled-wider.ensures.next.0
          (IsFlat-from atoms units past wider measured fit c.filled-wider.ensures.lines)
          (omega (arith, c.if-lines.false, c.lines-in-loop-filling.ensures 0, c.lines-in-loop-filling-2.ensures 0));
      next = c.filled-wider.ensures.next.1;
      ended = omega (arith, c.filled-wider.ensures.ended, length-units atoms units measured);
    }

pub returns : goal.returns
returns c =
    let steps = subst (λ o. SomeIff o (AreSteps c.loop-filling.list) c.loop-filling.list) c.unwrap.ensures c.new.ensures in
    subst (λ list. AreMinimal c.args.p.now c.args.most list) (sym steps.1) (λ config.
    let exact = c.loop-filling.invariant.searched.found.exact config in (
      λ has. let is = exact.0 has in (is.0, omega (arith, is.1)),
      λ is. exact.1 (is.0, omega (arith, is.1)),
    ))
