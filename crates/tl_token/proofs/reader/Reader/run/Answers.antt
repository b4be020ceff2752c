use Rattle.std.proofs.Common.{◌≡◌, ◌++◌, ◌∙◌, sym, length, arith, length-append, ap, take, ◌-◌}
use Rattle.std.proofs.lemmas.Grind.{common_steps}
use Rattle.std.specs.Str.{chars}
use Rattle.std.proofs.lemmas.Str.{IsUtf8-had}
use lib.Utf8.{encodes}
use Rattle.tl_token.specs.inner.Reader.{is_in}
use Rattle.tl_token.proofs.ReaderLemmas.{Passed-more, Passed-run, next_passed, bytes_passed, boundary_passed, chars_passed}
use Rattle.tl_token.proofs.reader.Reader.run.Goals as goal

pub loop-class-preserved : goal.loop-class-preserved
loop-class-preserved c =
    let (prefix, passed) = c.loop-class.invariant in
    let (d, is, within) = next_passed (is_in c.args.class) _ _ c.next.result (sym c.is_at.ensures ∙ c.loop-class-test.true)
    c.next.ensures in
    (_, Passed-more _ _ prefix _ _ d passed is within)

pub overflow_sub-text : goal.overflow_sub-text
overflow_sub-text c =
    let text = c.args.self.now.rest.now in
    let rest = c.loop-class.self.rest.now in
    let (prefix, passed) = c.loop-class.invariant in
    let e : text ≡ encodes prefix ++ rest =
    bytes_passed text rest prefix (IsUtf8-had text c.args.self.now.text) (IsUtf8-had rest c.loop-class.self.text)
    passed.whole_is in
    omega (arith, length-append (encodes prefix) rest, ap length e)

pub range-requires-clause-end_boundary : goal.range-requires-clause-end_boundary
range-requires-clause-end_boundary c =
    let text = c.args.self.now.rest.now in
    let rest = c.loop-class.self.rest.now in
    let (prefix, passed) = c.loop-class.invariant in
    let v = IsUtf8-had rest c.loop-class.self.text in
    boundary_passed text rest prefix v (bytes_passed text rest prefix (IsUtf8-had text c.args.self.now.text) v passed.whole_is)

pub returns-clause-run : goal.returns-clause-run
returns-clause-run c =
    let text = c.args.self.now.rest.now in
    let rest = c.loop-class.self.rest.now in
    let (prefix, passed) = c.loop-class.invariant in
    let u = IsUtf8-had text c.args.self.now.text in
    let e : text ≡ encodes prefix ++ rest = bytes_passed text rest prefix u (IsUtf8-had rest c.loop-class.self.text)
    passed.whole_is in
    let cut : c.range.result.now ≡ take (length text - length rest) text = grind (arith, common_steps, c.range.ensures.value) in
    ap chars cut ∙ chars_passed text rest prefix u e passed.whole_is
    ∙ sym (Passed-run _ _ prefix _ passed (sym c.is_at.ensures ∙ c.loop-class-test.false))
