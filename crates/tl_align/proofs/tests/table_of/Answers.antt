-- The tokens of a file are readable.
use Rattle.std.proofs.Common.{sym, subst, arith, List}
use Rattle.std.proofs.lemmas.Bool.Decides.{nat_tests}
use Rattle.tl_token.specs.declared.token.Token.{Token}
use Rattle.tl_tree.specs.Readable.{AreReadable}
use Rattle.tl_tree.proofs.ReadableTokens.{tokens_readable}
use Rattle.tl_align.proofs.tests.table_of.Goals as goal

pub tree-requires : goal.tree-requires
tree-requires c =
    let P : List Token → Type 0 = λ tokens. AreReadable tokens in
    let small = c.if-bytes-gt-MAX_FILE_BYTES.false in
    subst P (sym c.as_slice.ensures)
    (tokens_readable c.as_bytes-bytes.result.now c.in-Ok.list c.in-Ok.ensures.ok c.in-Ok.ensures.size
    (grind (arith, nat_tests, small)))
