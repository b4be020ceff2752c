use Rattle.std.proofs.Common.{arith, subst}
use Rattle.tl_text.specs.Cuttings.{LeastLines}
use Rattle.tl_text.proofs.Filled.{all_filled}
use Rattle.tl_text.proofs.cutting.count_lines.Goals as goal

pub returns-clause-lines : goal.returns-clause-lines
returns-clause-lines c =
    let least = all_filled c.args.width c.atoms-atoms.result.now c.loop-atom.atom-index c.loop-atom.filling c.lines.result
    c.loop-atom.invariant
    (omega arith) (c.lines.ensures c.args.width) in
    subst (λ atoms. LeastLines c.args.width atoms c.lines.result) c.atoms-atoms.ensures.atoms least
