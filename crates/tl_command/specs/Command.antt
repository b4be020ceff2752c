-- The commands, a table for each question: `lay WIDTH IN PAGE [CERT]`, `narrow HEIGHT IN PAGE [CERT [LESS [SPENT]]]`,
-- `tidy WIDTH IN PAGE [CERT [LESS [SPENT]]]`, `check WIDTH IN CERT` and `demo NUMBER`.
use Rattle.std.specs.Prelude.{ℕ, ◌≤◌, ◌-◌, ◌^◌, Bool, true, false, List, codes}
use Rattle.tl_base.specs.declared.limits.TheConstants.{MAX_HEIGHT, MAX_PAGE_WIDTH}
use Rattle.tl_command.specs.declared.command.Command.{Command}
use Rattle.tl_command.specs.declared.command.Command.TheVariants.{Lay, Narrow, Tidy, Check, Demo}
use Rattle.tl_command.specs.declared.options.Choice.{Choice}
use Rattle.tl_command.specs.declared.options.Choice.TheVariants as choices

-- how a command is spelled
abbrev pub word_of_command : Command → List ℕ
word_of_command Lay = codes "lay"
word_of_command Narrow = codes "narrow"
word_of_command Tidy = codes "tidy"
word_of_command Check = codes "check"
word_of_command Demo = codes "demo"

-- the least number that it takes: of a page's columns there is at least one
abbrev pub least_number : Command → ℕ
least_number Lay = 1
least_number Narrow = 0
least_number Tidy = 1
least_number Check = 1
least_number Demo = 0

-- the greatest number that it takes
abbrev pub most_number : Command → ℕ
most_number Lay = MAX_PAGE_WIDTH
most_number Narrow = MAX_HEIGHT
most_number Tidy = MAX_PAGE_WIDTH
most_number Check = MAX_PAGE_WIDTH
most_number Demo = 2 ^ 32 - 1

-- the number is one that the command takes
pub record IsNumberOf (command : Command) (number : ℕ) : Type 0 where
  pub least : least_number command ≤ number
  pub most : number ≤ most_number command

-- the fewest names of files that it takes
abbrev pub fewest_names : Command → ℕ
fewest_names Lay = 2
fewest_names Narrow = 2
fewest_names Tidy = 2
fewest_names Check = 2
fewest_names Demo = 0

-- the most names of files that it takes
abbrev pub most_names : Command → ℕ
most_names Lay = 3
most_names Narrow = 5
most_names Tidy = 5
most_names Check = 2
most_names Demo = 0

-- so many names are as many as the command takes
pub record IsCountOf (command : Command) (count : ℕ) : Type 0 where
  pub fewest : fewest_names command ≤ count
  pub most : count ≤ most_names command

-- which options it takes: a certificate tells neither the search nor the form of the page
abbrev pub takes : Command → Choice → Bool
takes Lay choice = true
takes Narrow choice = true
takes Tidy choice = true
takes Check (choices.Style style) = true
takes Check (choices.Breaking breaking) = true
takes Check (choices.Budget budget) = true
takes Check (choices.Search search) = false
takes Check (choices.Workers workers) = true
takes Check choices.Csv = true
takes Check choices.Head = true
takes Check (choices.Least floors) = true
takes Check (choices.Align align) = false
takes Check choices.Trim = false
takes Check choices.Html = false
takes Demo choice = false
