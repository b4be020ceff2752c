use Rattle.std.proofs.Common.{length, ap, arith}
use Rattle.std.proofs.lemmas.Str.{encodes-chars}
use Rattle.tl_base.specs.Text.{byte_count}
use Rattle.tl_text.proofs.word.word_width.Goals as goal

-- a text of these many bytes is at most twice as wide, and fits a `u32` by far
pub overflow_cast-result : goal.overflow_cast-result
overflow_cast-result c =
    let bytes = ap length (encodes-chars c.as_str.result.now c.as_str.utf8) in
    omega (arith, bytes, ap byte_count c.as_str.ensures)

pub returns-clause-bound : goal.returns-clause-bound
returns-clause-bound c =
    let bytes = ap length (encodes-chars c.as_str.result.now c.as_str.utf8) in
    omega (arith, bytes, ap byte_count c.as_str.ensures)

pub returns-clause-bytes : goal.returns-clause-bytes
returns-clause-bytes c =
    let bytes = ap length (encodes-chars c.as_str.result.now c.as_str.utf8) in
    omega (arith, bytes, ap byte_count c.as_str.ensures, c.width.ensures.bound)
