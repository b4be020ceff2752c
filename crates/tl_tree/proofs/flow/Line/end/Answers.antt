use Rattle.std.proofs.Common.{◌≤◌, [], sym, ◌∙◌, arith}
use Rattle.std.specs.Prelude.{sum_by}
use Rattle.tl_base.specs.declared.limits.TheConstants.{MAX_FILE_BYTES}
use Rattle.tl_text.specs.Paragraph.{atom_size}
use Rattle.tl_tree.specs.inner.Lines.{line_atoms, open_word}
use Rattle.tl_tree.proofs.Lines.{ends_paragraph, closed_size, read_end}
use Rattle.tl_tree.proofs.flow.Line.end.Goals as goal

pub returns : goal.returns
returns c =
    let small = closed_size c.args.self.atoms (open_word c.args.self) in
    let same = c.in_ok-end_word.ensures.atoms in
    let few : sum_by atom_size c.end_word.new.self.atoms ≤ MAX_FILE_BYTES = rw same (omega arith) in
    ends_paragraph c.new.result c.end_word.new.self.atoms (line_atoms c.args.self []) c.new.ensures
    (same ∙ sym (read_end c.args.self.atoms (open_word c.args.self))) c.end_word.new.self.whole few
