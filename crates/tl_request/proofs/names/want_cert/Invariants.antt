-- The options that are left decide.
use Rattle.std.proofs.Common.{◌≡◌, length, map, string_bytes}
use Rattle.std.specs.List.{list_any}
use Rattle.tl_request.specs.Requests.{is_cert}
use Rattle.tl_request.proofs.names.want_cert.Given as goal

abbrev pub invariant-loop-word : goal.invariant-loop-word
invariant-loop-word l = list_any is_cert (map string_bytes l.rest) ≡ list_any is_cert (map string_bytes l.options)

abbrev pub decreases-loop-word : goal.decreases-loop-word
decreases-loop-word l = length l.rest
