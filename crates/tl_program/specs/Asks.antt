-- What the names among the arguments are for: the first is the file that is read. `lay` stores the page under the second and
-- the certificate under the third, if there is one, and `check` reads the certificate from the second.
use Rattle.std.specs.Prelude.{◌≡◌, ◌≢◌, ℕ, List, [], Option, None, Some, get_or}
use Rattle.std.specs.List.{slice_get}
use Rattle.tl_command.specs.declared.command.Command.{Command}
use Rattle.tl_command.specs.declared.options.BreakRule.{BreakRule}
use Rattle.tl_command.specs.declared.options.BreakRule.TheVariants as rules
use Rattle.tl_command.specs.Ask.{Asked, IsAsk}

-- the arguments ask for this, by the command, and say which words may break without looking at the file
pub record IsAskOf (command : Command) (words : List (List ℕ)) (asked : Asked) : Type 0 where
  pub is : IsAsk words asked
  pub by : asked.command ≡ command
  pub plain : asked.options.breaking ≢ Some rules.Fit

-- the number of columns above which words may break, where it was found for the file
abbrev pub fitted_by : Option BreakRule → Option ℕ
fitted_by None = None
fitted_by (Some rules.Words) = None
fitted_by (Some rules.Any) = None
fitted_by (Some (rules.Wider most)) = None
fitted_by (Some rules.Fit) = None
fitted_by (Some (rules.Fitted most)) = Some most

abbrev pub fitted_in : Asked → Option ℕ
fitted_in asked = fitted_by asked.options.breaking

-- the file that is read
abbrev pub input_name : Asked → List ℕ
input_name asked = get_or asked.names 0 []

-- the file that takes the page
abbrev pub page_name : Asked → List ℕ
page_name asked = get_or asked.names 1 []

-- the file that takes the certificate, where it is named
abbrev pub certificate_name : Asked → Option (List ℕ)
certificate_name asked = slice_get asked.names 2

-- the file with the certificate that is checked
abbrev pub judged_name : Asked → List ℕ
judged_name asked = get_or asked.names 1 []
