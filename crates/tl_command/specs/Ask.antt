-- What arguments ask for: the word of a command, its number, the names of its files, then its options.
use Rattle.std.specs.Prelude.{◌≡◌, ◌≢◌, ℕ, List, [], ◌∷◌, ◌++◌, length, drop, map, string_bytes, codes, decimal}
use Rattle.std.specs.List.{All, AllPairs}
use Rattle.tl_command.specs.declared.ask.Ask.{Ask}
use Rattle.tl_command.specs.declared.command.Command.{Command}
use Rattle.tl_command.specs.declared.options.Options.{Options}
use Rattle.tl_command.specs.Command.{word_of_command, IsNumberOf, IsCountOf, fewest_names}
use Rattle.tl_command.specs.Options.{AreOptions}

-- what is asked for: a command, its number, the names of its files, and the options
pub record Asked : Type 0 where
  pub command : Command
  pub number : ℕ
  pub names : List (List ℕ)
  pub options : Options

-- what is read, as what is asked for
abbrev pub asked_by : Ask → Asked
asked_by ask = record {
  command = ask.command;
  number = ask.number;
  names = map string_bytes ask.names.now;
  options = ask.options;
}

-- the argument begins as an option does
abbrev pub IsDashed : List ℕ → Type 0
IsDashed word = (rest : List ℕ) × (word ≡ codes "--" ++ rest)

-- it does not
abbrev pub IsNoOption : List ℕ → Type 0
IsNoOption word = IsDashed word → ⊥

-- no name is empty, and no two are the same
pub record AreNames (names : List (List ℕ)) : Type 0 where
  pub named : All (λ name. name ≢ []) names
  pub apart : AllPairs (λ one other. one ≢ other) names

-- The arguments ask for this. A name that may be left out does not begin as an option does, so that it is told from the
-- options; one that has to be there may.
pub record IsAsk (words : List (List ℕ)) (asked : Asked) : Type 0 where
  pub after : List (List ℕ)
  pub spelled : words ≡ word_of_command asked.command ∷ decimal asked.number ∷ (asked.names ++ after)
  pub in_range : IsNumberOf asked.command asked.number
  pub counted : IsCountOf asked.command (length asked.names)
  pub names : AreNames asked.names
  pub plain : All IsNoOption (drop (fewest_names asked.command) asked.names)
  pub options : AreOptions asked.command after asked.options

-- the arguments ask for nothing: they are invalid
abbrev pub AskForNothing : List (List ℕ) → Type 0
AskForNothing words = (asked : Asked) → IsAsk words asked → ⊥
