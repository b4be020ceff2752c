use Rattle.std.proofs.Common.{List, ℕ, subst, IfOk, IfErr}
use Rattle.tl_base.specs.Returned.{IsMemoryOr}
use Rattle.tl_token.specs.Spelling.{SpellsTokens, SpellsNoTokens, out_of_memory}
use Rattle.tl_token.proofs.SpellingLemmas.{only_tokens, only_error, small}
use Rattle.tl_token.proofs.file.tokens.Goals as goal

pub returns-in-Ok-clause-each_ok : goal.returns-in-Ok-clause-each_ok
returns-in-Ok-clause-each_ok c =
    let P : List ℕ → Type 0 = λ x. IfOk c.read.result (SpellsTokens x) in
    let Q : List ℕ → Type 0 = λ x. IfErr c.read.result (IsMemoryOr out_of_memory (SpellsNoTokens x)) in
    only_tokens c.args.text.now c.read.result (subst P c.in-Ok.ensures.cases.0 c.read.ensures.ok)
    (subst Q c.in-Ok.ensures.cases.0 c.read.ensures.err)

pub returns-in-Ok-clause-each_err : goal.returns-in-Ok-clause-each_err
returns-in-Ok-clause-each_err c =
    let P : List ℕ → Type 0 = λ x. IfOk c.read.result (SpellsTokens x) in
    let Q : List ℕ → Type 0 = λ x. IfErr c.read.result (IsMemoryOr out_of_memory (SpellsNoTokens x)) in
    only_error c.args.text.now c.read.result (subst P c.in-Ok.ensures.cases.0 c.read.ensures.ok)
    (subst Q c.in-Ok.ensures.cases.0 c.read.ensures.err)

pub returns-in-Ok-clause-size : goal.returns-in-Ok-clause-size
returns-in-Ok-clause-size c =
    let P : List ℕ → Type 0 = λ x. IfOk c.read.result (SpellsTokens x) in
    small c.args.text.now c.read.result (subst P c.in-Ok.ensures.cases.0 c.read.ensures.ok)
