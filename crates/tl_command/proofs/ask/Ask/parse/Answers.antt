-- Arguments whose names are none, or whose options are none, ask for nothing, and others for what is read alone.
use Rattle.std.proofs.Common.{false, map, string_bytes}
use Rattle.std.specs.Prelude.{IsTrue}
use Rattle.tl_command.proofs.AskLemmas.{no_names, no_options, same_ask}
use Rattle.tl_command.proofs.ask.Ask.parse.Goals as goal

pub returns-then-not-are_names-clause-none : goal.returns-then-not-are_names-clause-none
returns-then-not-are_names-clause-none c =
    no_names (map string_bytes c.args.words.now) c.in_ok-opening.opening.command c.in_ok-opening.opening.number
    (map string_bytes c.in_ok-opening.opening.more.now) c.in_ok-opening.ensures.opening
    (map string_bytes c.in_ok-names.names.now) (map string_bytes c.in_ok-names.after.now) c.in_ok-names.ensures.split
    (λ are. let never : IsTrue false = c.if-not-are_names.ensures.1 are in cc)

pub returns-in_err-options-clause-none : goal.returns-in_err-options-clause-none
returns-in_err-options-clause-none c = rw c.from_residual-in_err-options.ensures
    (no_options (map string_bytes c.args.words.now) c.in_ok-opening.opening.command c.in_ok-opening.opening.number
    (map string_bytes c.in_ok-opening.opening.more.now) c.in_ok-opening.ensures.opening
    (map string_bytes c.in_ok-names.names.now) (map string_bytes c.in_ok-names.after.now) c.in_ok-names.ensures.split
    c.in_err-options.ensures.none)

pub returns-clause-only : goal.returns-clause-only
returns-clause-only c =
    same_ask (map string_bytes c.args.words.now) c.in_ok-opening.opening.command c.in_ok-opening.opening.number
    (map string_bytes c.in_ok-opening.opening.more.now) c.in_ok-opening.ensures.opening
    (map string_bytes c.in_ok-names.names.now) (map string_bytes c.in_ok-names.after.now) c.in_ok-names.ensures.split
    c.in_ok-options.options c.in_ok-options.ensures.options
