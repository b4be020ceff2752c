-- What is asked of the bytes of a file: with `--break fit` it is found for them which words may break, and else nothing changes.
use Rattle.std.specs.Prelude.{◌≡◌, ℕ, List, Option, None, Some}
use Rattle.tl_base.specs.declared.breaking.Breaking.{Breaking}
use Rattle.tl_base.specs.declared.breaking.Breaking.TheVariants.{Words, Wider}
use Rattle.tl_base.specs.declared.limits.TheConstants.{MAX_PAGE_WIDTH}
use Rattle.tl_base.specs.Desk.{Files}
use Rattle.tl_command.specs.declared.command.Command.{Command}
use Rattle.tl_command.specs.declared.command.Command.TheVariants.{Lay, Narrow, Tidy, Check, Demo}
use Rattle.tl_command.specs.declared.options.BreakRule.{BreakRule}
use Rattle.tl_command.specs.declared.options.BreakRule.TheVariants as rules
use Rattle.tl_command.specs.Ask.{Asked, IsAsk}
use Rattle.tl_fit.specs.Fit.{IsFit}
use Rattle.tl_program.specs.Asks.{input_name}
use Rattle.tl_program.specs.Change.{Holds}
use Rattle.tl_program.specs.Tasks.{source_of, style_of}

-- how wide the widest page is that is asked for
abbrev pub width_by : Command → ℕ → ℕ
width_by Lay number = number
width_by Narrow number = MAX_PAGE_WIDTH
width_by Tidy number = number
width_by Check number = number
width_by Demo number = number

abbrev pub widest_page : Asked → ℕ
widest_page asked = width_by asked.command asked.number

-- the rule for a breaking that was found
abbrev pub rule_of : Breaking → BreakRule
rule_of Words = rules.Words
rule_of (Wider most) = rules.Fitted most

-- the same is asked for, by this rule for words
abbrev pub with_rule : BreakRule → Asked → Asked
with_rule rule asked = record {
  command = asked.command;
  number = asked.number;
  names = asked.names;
  options = record {
    style = asked.options.style;
    breaking = Some rule;
    budget = asked.options.budget;
    search = asked.options.search;
    workers = asked.options.workers;
    csv = asked.options.csv;
    head = asked.options.head;
    least = asked.options.least;
    align = asked.options.align;
    trim = asked.options.trim;
    html = asked.options.html;
  };
}

-- the breaking was found for the bytes, as few words as can be may break
abbrev pub IsFitted : List ℕ → Asked → Asked → Type 0
IsFitted bytes asked settled = (breaking : Breaking)
    × IsFit (source_of asked) (style_of asked) (widest_page asked) bytes breaking × (settled ≡ with_rule (rule_of breaking) asked)

-- by the rule for words this is asked of the bytes
abbrev pub SettlesBy : Option BreakRule → List ℕ → Asked → Asked → Type 0
SettlesBy None bytes asked settled = settled ≡ asked
SettlesBy (Some rules.Words) bytes asked settled = settled ≡ asked
SettlesBy (Some rules.Any) bytes asked settled = settled ≡ asked
SettlesBy (Some (rules.Wider most)) bytes asked settled = settled ≡ asked
SettlesBy (Some rules.Fit) bytes asked settled = IsFitted bytes asked settled
SettlesBy (Some (rules.Fitted most)) bytes asked settled = settled ≡ asked

abbrev pub Settles : List ℕ → Asked → Asked → Type 0
Settles bytes asked settled = SettlesBy asked.options.breaking bytes asked settled

-- the arguments ask for this of these bytes, by the command
pub record IsAskFor (command : Command) (words : List (List ℕ)) (bytes : List ℕ) (settled : Asked) : Type 0 where
  pub asked : Asked
  pub is : IsAsk words asked
  pub by : asked.command ≡ command
  pub settles : Settles bytes asked settled

-- so it is of what the file that is read holds
abbrev pub SettlesOn : Option Files → Asked → Asked → Type 0
SettlesOn files asked settled = (bytes : List ℕ) × Holds files (input_name asked) bytes × Settles bytes asked settled
