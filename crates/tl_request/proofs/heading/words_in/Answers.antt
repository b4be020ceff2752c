-- A word that is not UTF-8 is one of the line's.
use Rattle.std.proofs.Common.{◌∙◌, ◌++◌, Bor, List, Option, ap, map, option_map, string_bytes, sym, ℕ}
use Rattle.tl_request.specs.inner.Headings.{words_left}
use Rattle.tl_request.proofs.Words.{not_utf8}
use Rattle.tl_request.proofs.heading.words_in.Goals as goal

pub returns-in_default-from_utf8-clause-none : goal.returns-in_default-from_utf8-clause-none
returns-in_default-from_utf8-clause-none c =
    let words = map string_bytes c.loop-rest.words.items in
    not_utf8 words c.args.line.now c.in-Some.bytes.now c.first_word.result.0.now
    (option_map (λ (it : Bor (List ℕ)). it.now) c.first_word.result.1) c.first_word.ensures.first
    (ap (λ (rest : Option (Bor (List ℕ))). words ++ words_left (option_map (λ it. it.now) rest)) (sym c.in-Some.is)
    ∙ c.loop-rest.invariant)
    c.in_default-from_utf8.ensures.cases.0
