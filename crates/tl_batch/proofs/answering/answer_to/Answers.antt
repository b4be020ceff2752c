-- The words ask for one thing alone.
use Rattle.std.proofs.Common.{◌∙◌, ◌≡◌, Global, List, String, ap, map, string_bytes, subst, sym}
use Rattle.std.proofs.lemmas.Result.{IfOk-weaker}
use Rattle.tl_command.specs.Ask.{Asked, IsAsk, asked_by}
use Rattle.tl_batch.specs.inner.Turns.{AnswersArrival, AnswersFiles}
use Rattle.tl_batch.proofs.answering.answer_to.Goals as goal

-- what the words of an arrival ask for, of the words as they are lent
asks_lent : (own lent : List (String Global)) (asked : Asked) → lent ≡ own → IsAsk (map string_bytes own) asked →
    IsAsk (map string_bytes lent) asked
asks_lent own lent asked same is = subst (λ (words : List (String Global)). IsAsk (map string_bytes words) asked) (sym same) is

pub answer_files-requires-clause-asks : goal.answer_files-requires-clause-asks
answer_files-requires-clause-asks g c = λ lifetimes outlives. (map string_bytes c.as_slice.result.now, c.in-Some.ensures.ask)

pub answer_files-requires-clause-reads : goal.answer_files-requires-clause-reads
answer_files-requires-clause-reads g c = λ lifetimes outlives demo.
    let asks = c.requires.asks in
    let same = c.in-Some.ensures.only asks.0 (asks_lent c.args.arrival.now.words.items c.as_slice.result.now asks.0
    c.as_slice.ensures.value asks.1) in
    asks.2 (ap (λ asked. asked.command) same ∙ demo)

pub unreachable-requires : goal.unreachable-requires
unreachable-requires g c =
    let asks = c.requires.asks in
    c.in-None.ensures.none asks.0 (asks_lent c.args.arrival.now.words.items c.as_slice.result.now asks.0
    c.as_slice.ensures.value asks.1)

pub returns : goal.returns
returns g c =
    let arrival = c.args.arrival.now in
    IfOk-weaker c.answer_files.result (λ bytes. AnswersFiles (asked_by c.in-Some.ask) arrival bytes.items)
    (λ bytes. AnswersArrival arrival bytes.items) (λ bytes files asked is. subst (λ (it : Asked). AnswersFiles it arrival bytes.items)
    (sym (c.in-Some.ensures.only asked (asks_lent arrival.words.items c.as_slice.result.now asked c.as_slice.ensures.value is)))
    files) c.answer_files.ensures
