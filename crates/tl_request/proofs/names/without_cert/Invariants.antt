-- Those that are kept so far, and then those of the options that are left.
use Rattle.std.proofs.Common.{◌≡◌, length, ◌++◌, filter, map, not, string_bytes}
use Rattle.tl_request.specs.Requests.{is_cert}
use Rattle.tl_request.proofs.names.without_cert.Given as goal

abbrev pub invariant-loop-word : goal.invariant-loop-word
invariant-loop-word l = map string_bytes l.kept.items ++ filter (λ word. not (is_cert word)) (map string_bytes l.rest)
    ≡ filter (λ word. not (is_cert word)) (map string_bytes l.options)

abbrev pub decreases-loop-word : goal.decreases-loop-word
decreases-loop-word l = length l.rest
