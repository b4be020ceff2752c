-- The name is none of the others.
use Rattle.std.proofs.Common.{◌≢◌, ℕ, List, [], false, refl, map, string_bytes, arith, subst, ◌∙◌}
use Rattle.std.specs.Prelude.{IsTrue}
use Rattle.std.specs.List.{All}
use Rattle.std.proofs.lemmas.List.{length-map, take_all}
use Rattle.tl_command.proofs.WordLemmas.{word_at, all_more}
use Rattle.tl_command.proofs.names.is_other.Goals as goal

pub returns-then-is_same : goal.returns-then-is_same
returns-then-is_same c = (
  λ is. absurd cc,
  λ all. absurd (all c.loop-other.other-index []
      (omega (arith, c.loop-other-test.true, length-map c.args.others.now string_bytes))
      (c.if-is_same.ensures.0 refl ∙ word_at string_bytes c.args.others.now c.loop-other.other-index c.other-item.result
      c.as_str.result.now [] c.loop-other-test.true c.other-item.is c.as_str.ensures.value)),
)

pub loop-other-preserved : goal.loop-other-preserved
loop-other-preserved c =
    all_more (λ (other : List ℕ). c.args.name.now ≢ other) string_bytes c.args.others.now c.loop-other.other-index
    c.other-item.result c.as_str.result.now c.loop-other-test.true c.other-item.is c.as_str.ensures.value c.loop-other.invariant
    (λ same. let never : IsTrue false = c.if-is_same.ensures.1 same in cc)

pub returns : goal.returns
returns c = (
  λ is. subst (λ (ws : List (List ℕ)). All (λ (other : List ℕ). c.args.name.now ≢ other) ws)
      (take_all c.loop-other.other-index (map string_bytes c.args.others.now)
      (omega (arith, length-map c.args.others.now string_bytes))) c.loop-other.invariant,
  λ all. refl,
)
