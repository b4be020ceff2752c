use Rattle.std.proofs.Common.{◌≡◌, ◌∙◌, ◌++◌, length, take, drop, sym, ap, subst, arith}
use Rattle.std.proofs.Math.Seq.{take-append_seam}
use Rattle.tl_table.specs.Numbered.{AreByNumber}
use Rattle.tl_table.proofs.NumberLemmas.{document_places, put_document}
use Rattle.tl_table.proofs.numbers.by_number.Goals as goal

pub put_table-requires : goal.put_table-requires
put_table-requires c =
    document_places c.args.table.now (length c.as_mut_slice.result.now) c.requires
    (omega (arith, c.as_mut_slice.ensures.len, c.in_ok-tables.ensures.len, c.nested.ensures))

pub returns : goal.returns
returns c =
    let put = c.put_table.new.places in
    let whole : take c.in_ok-tables.tables.len (put ++ drop (length put) c.in_ok-tables.tables.items) ≡ put =
    ap (λ n. take n (put ++ drop (length put) c.in_ok-tables.tables.items)) (omega (
      arith,
      c.put_table.ensures.count,
      c.as_mut_slice.ensures.len,
    )) ∙ take-append_seam put (drop (length put) c.in_ok-tables.tables.items) in
    subst (AreByNumber c.args.table.now) (sym whole)
    (put_document c.args.table.now c.as_mut_slice.result.now put c.requires
    (omega (arith, c.as_mut_slice.ensures.len, c.in_ok-tables.ensures.len, c.nested.ensures)) c.put_table.ensures)
