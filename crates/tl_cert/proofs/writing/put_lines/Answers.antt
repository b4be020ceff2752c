use Rattle.tl_cert.specs.Text.{line_pieces}
use Rattle.tl_cert.proofs.Appending.{written_more}
use Rattle.tl_cert.proofs.writing.put_lines.Goals as goal

pub lines-preserved : goal.lines-preserved
lines-preserved c =
    written_more line_pieces c.args.lines.now c.lines.line-index c.line-item.result c.args.out.now c.lines.out
    c.put_line.new.out c.lines-test.true
    c.line-item.is
    c.lines.invariant c.in_ok-put_line.ensures
