use Rattle.std.proofs.Common.{refl, sym, subst, chars}
use Rattle.tl_tree.specs.Tags as tags
use Rattle.tl_tree.specs.inner.Reading.{holder_so_far, Moves}
use Rattle.tl_tree.specs.declared.open.OpenTable.{OpenTable}
use Rattle.tl_tree.specs.declared.open.OpenTable.TheVariants.{Flow}
use Rattle.tl_tree.proofs.Adds.{text_read}
use Rattle.tl_tree.proofs.open.OpenTable.text.Goals as goal

pub returns-in_ok-read_text-in-Flow-clause-ok : goal.returns-in_ok-read_text-in-Flow-clause-ok
returns-in_ok-read_text-in-Flow-clause-ok c =
    let cs = chars c.args.text.now in
    let P : OpenTable → Type 0 = λ t. Moves t (tags.text cs) (Flow c.in-Flow.holder c.read_text.new.self) in
    subst P (sym c.in-Flow.is) (record {
      goes = refl;
      adds = text_read c.in-Flow.flow c.read_text.new.self (holder_so_far c.in-Flow.holder)
          cs c.in_ok-read_text-in-Flow.ensures.blocks
          c.in_ok-read_text-in-Flow.ensures.line;
    })
