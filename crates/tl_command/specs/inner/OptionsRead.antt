-- No public clause cites this file: it says what has been read of options.
use Rattle.std.specs.Prelude.{◌≡◌, ◌≢◌, ◌↔◌, ℕ, List, ◌++◌, Contains}
use Rattle.std.specs.List.{All, AllPairs, flat_map}
use Rattle.tl_command.specs.declared.command.Command.{Command}
use Rattle.tl_command.specs.declared.options.Choice.{Choice}
use Rattle.tl_command.specs.declared.options.Options.{Options}
use Rattle.tl_command.specs.Options.{name_of, option_words, IsGiven, IsOptionOf}

-- some options of the command have been read from the arguments, these are given by them, and the rest follows
pub record HasReadOptions (command : Command) (words : List (List ℕ)) (options : Options) (rest : List (List ℕ)) : Type 0 where
  pub read : List Choice
  pub spelled : words ≡ flat_map option_words read ++ rest
  pub of_command : All (IsOptionOf command) read
  pub once : AllPairs (λ one other. name_of one ≢ name_of other) read
  pub given : (choice : Choice) → IsGiven options choice ↔ Contains read choice
