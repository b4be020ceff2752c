use Rattle.tl_cert.specs.Text.{cut_pieces}
use Rattle.tl_cert.proofs.Appending.{written_at}
use Rattle.tl_cert.proofs.writing.put_cuts.Goals as goal

pub cuts-preserved : goal.cuts-preserved
cuts-preserved c =
    written_at cut_pieces c.args.cuts.now c.cuts.cut-index _ c.args.out.now c.cuts.out c.put_cut.new.out c.cuts-test.true
    c.cuts.invariant
    c.in_ok-put_cut.ensures
