-- What has been read of the options, step by step.
use Rattle.std.proofs.Common.{◌≡◌, ◌≢◌, ℕ, ◌<◌, false, List, [], ◌∷◌, length, map, string_bytes, refl, ap, subst, arith}
use Rattle.std.specs.Prelude.{IsTrue}
use Rattle.std.proofs.lemmas.Grind.{common_steps}
use Rattle.tl_command.specs.declared.command.Command.{Command}
use Rattle.tl_command.specs.declared.options.Options.{Options}
use Rattle.tl_command.specs.inner.OptionsRead.{HasReadOptions}
use Rattle.tl_command.proofs.OptionLemmas.{read_apart, read_more, read_stuck, read_twice}
use Rattle.tl_command.proofs.options.Options.parse.Goals as goal

-- a list that is not empty gives one that is not
more_left : {X Y : Type 0} (f : X → Y) (xs : List X) → 0 < length xs → map f xs ≢ []
more_left f [] more = absurd (omega (arith, more))
more_left f (x ∷ xs) more = λ e. absurd (omega (arith, ap length e))

-- and one that is empty gives none
none_left : {X Y : Type 0} (f : X → Y) (xs : List X) → length xs ≡ 0 → map f xs ≡ []
none_left f [] none = refl
none_left f (x ∷ xs) none = absurd (omega (arith, none))

-- the same has been read where the rest is the same
before : {command : Command} {words rest next : List (List ℕ)} {options : Options} → rest ≡ next →
    HasReadOptions command words options rest → HasReadOptions command words options next
before {command} {words} {rest} {next} {options} same so_far =
    subst (λ (ws : List (List ℕ)). HasReadOptions command words options ws) same so_far

pub returns-in_default-clause-none : goal.returns-in_default-clause-none
returns-in_default-clause-none c = λ options is.
    read_stuck c.args.command (map string_bytes c.args.words.now) (map string_bytes c.loop-rest.rest.now) c.loop-rest.options
    options c.loop-rest.invariant (more_left string_bytes c.loop-rest.rest.now (grind (arith, common_steps)))
    c.in_default.ensures.none is

pub returns-then-has-clause-none : goal.returns-then-has-clause-none
returns-then-has-clause-none c = λ options is.
    read_twice c.args.command (map string_bytes c.args.words.now) (map string_bytes c.in-Some.later.now)
    c.loop-rest.options options c.in-Some.choice (before c.in-Some.ensures.spelled c.loop-rest.invariant)
    c.in-Some.ensures.option (c.if-has.ensures.yes refl) is

pub loop-rest-preserved : goal.loop-rest-preserved
loop-rest-preserved c =
    read_more c.args.command (map string_bytes c.args.words.now) (map string_bytes c.in-Some.later.now)
    c.loop-rest.options c.with-options.result c.in-Some.choice
    (before c.in-Some.ensures.spelled c.loop-rest.invariant) c.in-Some.ensures.option
    (c.if-has.ensures.no refl) c.with-options.ensures

pub returns-then-not-are_of_csv-clause-none : goal.returns-then-not-are_of_csv-clause-none
returns-then-not-are_of_csv-clause-none c = λ options is.
    read_apart c.args.command (map string_bytes c.args.words.now) c.loop-rest.options options
    (before (none_left string_bytes c.loop-rest.rest.now (grind (arith, common_steps))) c.loop-rest.invariant) is
    (λ of_csv. let never : IsTrue false = c.if-not-are_of_csv.ensures.1 of_csv in cc)
