use Rattle.std.proofs.Common.{◌≡◌, ap, sym, ◌∙◌, subst}
use Rattle.std.proofs.lemmas.List.{take_all}
use Rattle.tl_text.specs.Paragraph.{IsParagraph}
use Rattle.tl_text.specs.Parts.{broken_above}
use Rattle.tl_text.proofs.PartLemmas.{broken_paragraph}
use Rattle.tl_text.proofs.parts.part.Goals as goal

pub of_units-requires : goal.of_units-requires
of_units-requires c =
    let atoms = c.atoms-atoms.result.now in
    let all : c.loop-atom.units ≡ broken_above c.args.most c.args.p.now =
    c.loop-atom.invariant ∙ ap (broken_above c.args.most) (take_all c.loop-atom.atom-index atoms
    c.loop-atom-test.false ∙ c.atoms-atoms.ensures.atoms)
    in
    subst IsParagraph (sym all) (broken_paragraph c.args.most c.args.p.now c.atoms-atoms.ensures.sound)
