-- The tokens of a file are readable.
use Rattle.std.proofs.Common.{sym, subst, arith, List}
use Rattle.std.proofs.lemmas.Bool.Decides.{nat_tests}
use Rattle.tl_base.specs.declared.breaking.Breaking.TheVariants.{Words}
use Rattle.tl_token.specs.declared.token.Token.{Token}
use Rattle.tl_tree.specs.Readable.{AreReadable}
use Rattle.tl_tree.proofs.ReadableTokens.{tokens_readable}
use Rattle.tl_document_tests.proofs.documents.table_of.Goals as goal

pub tree-requires : goal.tree-requires
tree-requires c =
    let P : List Token → Type 0 = λ tokens. AreReadable tokens in
    let small = c.if-bytes-gt-MAX_FILE_BYTES.false in
    subst P (sym c.as_slice.ensures)
    (tokens_readable c.as_bytes-bytes.result.now c.in_ok-list.list c.in_ok-list.ensures.ok c.in_ok-list.ensures.size
    (grind (arith, nat_tests, small)))

pub returns-clause-cells : goal.returns-clause-cells
returns-clause-cells c =
    c.formed_has_few_cells.ensures Words c.in_ok-node.node c.in_ok-table.field-0 c.in_ok-table.ensures.ok
