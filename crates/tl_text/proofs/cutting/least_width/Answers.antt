use Rattle.std.proofs.Common.{◌≡◌, ◌∙◌, sum_by, take, arith, subst, sym, ap}
use Rattle.std.proofs.lemmas.List.{take_all}
use Rattle.std.proofs.lemmas.List.Sums.{sum_by_more, sum_by-take-le}
use Rattle.tl_text.specs.Cuttings.{HasCutting}
use Rattle.tl_text.specs.inner.Measure.{unit_columns}
use Rattle.tl_text.specs.Paragraph.{unit_width, atom_size}
use Rattle.tl_text.proofs.Paragraphs.{AllFit, AllFit-wider, AllFit-more, AllFit-less, HasCutting-from_fit, atoms-of-cut-fit}
use Rattle.tl_text.proofs.Paragraphs.{columns_of-measure_of}
use Rattle.tl_text.proofs.cutting.least_width.Goals as goal

pub loop-atom-preserved : goal.loop-atom-preserved
loop-atom-preserved c =
    let atoms = c.atoms-atoms.result.now in
    let n = c.loop-atom.atom-index in
    let width : c.width.result ≡ unit_width c.atom-item.result =
    c.width.ensures ∙ ap unit_columns c.measured.ensures.measure ∙ columns_of-measure_of c.atom-item.result in (
      AllFit-more c.max-widest.result atoms n c.atom-item.result (omega arith) c.atom-item.is
          (AllFit-wider c.loop-atom.widest c.max-widest.result (take n atoms) (omega arith) c.loop-atom.invariant.0)
          (omega arith),
      λ w each.
          let both = AllFit-less w atoms n c.atom-item.result (omega arith) c.atom-item.is each in
          omega (arith, c.loop-atom.invariant.1 w both.0, both.1),
      omega (
        arith,
        sum_by_more atom_size atoms n c.atom-item.result (omega arith),
        ap atom_size c.atom-item.is,
        c.measured.ensures.bytes,
        c.width.ensures,
      ),
    )

pub returns-clause-holds : goal.returns-clause-holds
returns-clause-holds c = λ w wider.
    let atoms = c.atoms-atoms.result.now in
    let each : AllFit c.loop-atom.widest atoms =
    subst (λ first. AllFit c.loop-atom.widest first) (take_all c.loop-atom.atom-index atoms (omega arith))
    c.loop-atom.invariant.0 in
    subst (λ all. HasCutting w all) c.atoms-atoms.ensures.atoms
    (HasCutting-from_fit w atoms (AllFit-wider c.loop-atom.widest w atoms wider each))

pub returns-clause-least : goal.returns-clause-least
returns-clause-least c = λ w has.
    let atoms = c.atoms-atoms.result.now in
    let each : AllFit w atoms = subst (λ all. AllFit w all) (sym c.atoms-atoms.ensures.atoms)
    (atoms-of-cut-fit w c.args.p.now has.0 has.1 has.2) in
    c.loop-atom.invariant.1 w (subst (λ first. AllFit w first) (sym (take_all c.loop-atom.atom-index atoms (omega arith))) each)

pub returns-clause-bytes : goal.returns-clause-bytes
returns-clause-bytes c = omega (
  arith,
  c.loop-atom.invariant.2,
  sum_by-take-le atom_size c.atoms-atoms.result.now c.loop-atom.atom-index,
  ap
      (sum_by atom_size) c.atoms-atoms.ensures.atoms,
)
