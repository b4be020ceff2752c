-- The arguments so far do not begin as options do, and where one does, it is the next.
use Rattle.std.proofs.Common.{[], false, refl, sym, subst, map, string_bytes, arith}
use Rattle.std.specs.Prelude.{IsTrue}
use Rattle.std.proofs.lemmas.List.{length-map, drop_more}
use Rattle.tl_command.specs.Ask.{IsDashed, IsNoOption}
use Rattle.tl_command.specs.inner.Parts.{IsDashedAtFirst}
use Rattle.tl_command.proofs.WordLemmas.{word_at, all_more}
use Rattle.tl_command.proofs.names.plain_count.Goals as goal

pub returns-then-is_dashed-clause-dashed : goal.returns-then-is_dashed-clause-dashed
returns-then-is_dashed-clause-dashed c = λ less.
    subst IsDashedAtFirst (sym (drop_more (map string_bytes c.args.words.now) c.loop-count.count []
    (omega (arith, c.if-count-words.true, length-map c.args.words.now string_bytes))))
    (subst IsDashed (word_at string_bytes c.args.words.now c.loop-count.count c.index-words-count.result c.as_str.result.now []
    c.if-count-words.true c.index-words-count.is c.as_str.ensures.value) (c.if-is_dashed.ensures.0 refl))

pub loop-count-preserved : goal.loop-count-preserved
loop-count-preserved c = record {
  at_most = omega (arith, c.loop-count-test.true);
  within = omega (arith, c.if-count-words.true);
  plain = all_more IsNoOption string_bytes c.args.words.now c.loop-count.count c.index-words-count.result c.as_str.result.now
      c.if-count-words.true c.index-words-count.is c.as_str.ensures.value c.loop-count.invariant.plain
      (λ dashed. let never : IsTrue false = c.if-is_dashed.ensures.1 dashed in cc);
}
