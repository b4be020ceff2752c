use Rattle.std.proofs.Common.{◌≡◌, ◌≤◌, ◌<◌, ℕ, ◌+◌, true, false, ◌∷◌, length, take, drop, inr, sym, ◌∙◌, subst, arith}
use Rattle.std.proofs.Common.{alloc_error, sum_by}
use Rattle.std.proofs.lemmas.List.{length-map, length-take-le}
use Rattle.std.proofs.lemmas.Result.{IfOk-weaker}
use Rattle.tl_base.specs.declared.limits.TheConstants.{MAX_FILE_BYTES}
use Rattle.tl_base.specs.Returned.{IsMemoryOr}
use Rattle.tl_tree.specs.Tags.{Kinds, kind_of, kinds, is_table_start}
use Rattle.tl_tree.specs.Readable.{kind_size}
use Rattle.tl_tree.specs.Spelling.{AreNoDocument, tables_with}
use Rattle.tl_tree.specs.declared.error.TreeError.{TreeError}
use Rattle.tl_tree.specs.declared.error.TreeError.TheVariants.{Memory}
use Rattle.tl_tree.specs.declared.reading.Reading.{Reading}
use Rattle.tl_tree.specs.inner.Documents.{HasReadTokens, stop_error}
use Rattle.tl_tree.proofs.Readings.{tables_tag, if_err}
use Rattle.tl_tree.proofs.Documents.{one_more_read, stopped, ended_refused, ended_tree, kinds_length, modest, few_tables}
use Rattle.tl_tree.proofs.Documents.{at_token, with_token}
use Rattle.tl_tree.proofs.Documents.{readable_parts, small_prefix, fresh, one_more_table, all_taken}
use Rattle.tl_tree.proofs.document.read.Goals as goal
use Rattle.tl_tree.proofs.document.read.Goals.{then-is_table_start, else-is_table_start}

pub read-requires-clause-modest : goal.read-requires-clause-modest
read-requires-clause-modest c =
    let tokens = c.args.tokens.now in
    let i = c.loop-index.index in
    let token = c.index-tokens-index.result in
    let prefix = kinds (take i tokens) in
    let rest = kind_of token ∷ kinds (drop (i + 1) tokens) in
    let split = at_token tokens i token c.loop-index-test.true c.index-tokens-index.is in
    modest prefix c.loop-index.tables c.loop-index.reading c.loop-index.invariant
    (readable_parts (kinds tokens) prefix rest split c.requires.readable).0
    (small_prefix (kinds tokens) prefix rest split c.requires.size)

pub read-requires-clause-few : goal.read-requires-clause-few
read-requires-clause-few c =
    let tokens = c.args.tokens.now in
    let i = c.loop-index.index in
    let token = c.index-tokens-index.result in
    let split = at_token tokens i token c.loop-index-test.true c.index-tokens-index.is in
    (readable_parts (kinds tokens) (kinds (take i tokens)) (kind_of token ∷ kinds (drop (i + 1) tokens))
    split c.requires.readable).1.0

pub read-requires-clause-counted : goal.read-requires-clause-counted
read-requires-clause-counted c =
    let few = few_tables 0 0 (kinds (take c.loop-index.index c.args.tokens.now)) (omega arith) c.loop-index.invariant.within in
    let same = c.loop-index.invariant.counted in
    omega arith

pub read-requires-clause-fresh : goal.read-requires-clause-fresh
read-requires-clause-fresh c = fresh (kinds (take c.loop-index.index c.args.tokens.now))
    c.loop-index.tables c.loop-index.reading c.loop-index.invariant

pub overflow_cast-index : goal.overflow_cast-index
overflow_cast-index c =
    let long = kinds_length (kinds c.args.tokens.now) c.requires.readable in
    let same : length (kinds c.args.tokens.now) ≡ length c.args.tokens.now = simp length-map in
    let size : sum_by kind_size (kinds c.args.tokens.now) ≤ MAX_FILE_BYTES = c.requires.size in
    let inside : c.loop-index.index < length c.args.tokens.now = c.loop-index-test.true in
    omega arith

pub returns-in-Err-clause-err : goal.returns-in-Err-clause-err
returns-in-Err-clause-err c =
    let tokens = c.args.tokens.now in
    let i = c.loop-index.index in
    let token = c.index-tokens-index.result in
    let prefix = kinds (take i tokens) in
    let k = kind_of token in
    let split = at_token tokens i token c.loop-index-test.true c.index-tokens-index.is in
    let inside : i ≤ length tokens = (let h : i < length tokens = c.loop-index-test.true in omega arith) in
    let place : length prefix ≡ i = simp length-map (length-take-le i tokens inside) in
    let P : ℕ → Type 0 = λ n. IsMemoryOr (Memory alloc_error) (AreNoDocument (kinds tokens)) (stop_error n k c.in-Err.stop) in
    let Q : TreeError → Type 0 = λ e. IsMemoryOr (Memory alloc_error) (AreNoDocument (kinds tokens)) e in
    subst Q (sym c.at.ensures)
    (subst P place (stopped (kinds tokens) prefix (kinds (drop (i + 1) tokens))
    k c.loop-index.tables c.loop-index.reading c.in-Err.stop split
    c.loop-index.invariant c.in-Err.ensures.err))

pub loop-index-preserved : goal.loop-index-preserved
loop-index-preserved c =
    let tokens = c.args.tokens.now in
    let i = c.loop-index.index in
    let token = c.index-tokens-index.result in
    let prefix = kinds (take i tokens) in
    let k = kind_of token in
    let one = one_more_read prefix c.loop-index.tables c.loop-index.reading c.in-Ok.next k c.loop-index.invariant
    c.in-Ok.ensures.ok in
    let more = with_token tokens i token c.loop-index-test.true c.index-tokens-index.is in
    let P : Kinds → Type 0 = λ ks. HasReadTokens ks (tables_with c.loop-index.tables k) c.in-Ok.next in
    let all = subst P (sym more) one in
    let Q : ℕ → Type 0 = λ t. HasReadTokens (kinds (take (i + 1) tokens)) t c.in-Ok.next in
    elim c.if-is_table_start.branch [
      | then-is_table_start w ↦
          let start : is_table_start k ≡ true = sym c.is_table_start.ensures ∙ w.if-is_table_start.true in
          subst Q (one_more_table c.loop-index.tables k start ∙ sym w.tables-is) all
      | else-is_table_start w ↦
          let tag : is_table_start k ≡ false = sym c.is_table_start.ensures ∙ w.if-is_table_start.false in
          subst Q (tables_tag c.loop-index.tables k tag ∙ sym w.tables-is) all
    ]

pub returns-clause-err : goal.returns-clause-err
returns-clause-err c =
    let tokens = c.args.tokens.now in
    let P : Kinds → Type 0 = λ ks. HasReadTokens ks c.loop-index.tables c.loop-index.reading in
    let all = subst P (all_taken tokens c.loop-index.index c.loop-index-test.false) c.loop-index.invariant in
    if_err c.into_tree.result (λ e fault. inr (ended_refused (kinds tokens)
    c.loop-index.tables c.loop-index.reading e all fault)) c.into_tree.ensures.err

pub returns-clause-ok : goal.returns-clause-ok
returns-clause-ok c =
    let tokens = c.args.tokens.now in
    let P : Kinds → Type 0 = λ ks. HasReadTokens ks c.loop-index.tables c.loop-index.reading in
    let Q : Reading → Type 0 = λ r. HasReadTokens (kinds tokens) c.loop-index.tables r in
    let all = subst P (all_taken tokens c.loop-index.index c.loop-index-test.false) c.loop-index.invariant in
    IfOk-weaker c.into_tree.result _ _ (λ node is. ended_tree tokens c.loop-index.tables node (subst Q is all)) c.into_tree.ensures.ok

pub returns-clause-within : goal.returns-clause-within
returns-clause-within c =
    let tokens = c.args.tokens.now in
    let P : Kinds → Type 0 = λ ks. HasReadTokens ks c.loop-index.tables c.loop-index.reading in
    let all = subst P (all_taken tokens c.loop-index.index c.loop-index-test.false) c.loop-index.invariant in
    IfOk-weaker c.into_tree.result _ _ (λ node is. all.within) c.into_tree.ensures.ok
