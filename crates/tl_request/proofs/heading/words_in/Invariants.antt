-- The words so far, and then those of what is left.
use Rattle.std.proofs.Common.{◌≡◌, ◌+◌, ◌++◌, length, map, option_map, string_bytes, unwrap_or}
use Rattle.tl_request.specs.Requests.{words_in}
use Rattle.tl_request.specs.inner.Headings.{words_left}
use Rattle.tl_request.proofs.heading.words_in.Given as goal

abbrev pub invariant-loop-rest : goal.invariant-loop-rest
invariant-loop-rest l = map string_bytes l.words.items ++ words_left (option_map (λ it. it.now) l.rest) ≡ words_in l.line

abbrev pub decreases-loop-rest : goal.decreases-loop-rest
decreases-loop-rest l = unwrap_or (option_map (λ it. length it.now + 1) l.rest) 0
