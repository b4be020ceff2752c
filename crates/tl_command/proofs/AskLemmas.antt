-- What arguments ask for: one thing at most.
use Rattle.std.proofs.Common.{◌≡◌, ℕ, ◌<◌, ◌^◌, List, [], ◌∷◌, ◌++◌, get_or, refl, sym, ap, subst, ◌∙◌, codes}
use Rattle.std.proofs.Common.{arith}
use Rattle.std.specs.List.{flat_map}
use Rattle.std.proofs.lemmas.Fmt.{decimal_injective}
use Rattle.std.proofs.lemmas.List.Concat.{flat_map-cons}
use Rattle.tl_base.proofs.Members.{first-same, rest-same}
use Rattle.tl_command.specs.declared.command.Command.{Command}
use Rattle.tl_command.specs.declared.command.Command.TheVariants.{Lay, Narrow, Tidy, Check, Demo}
use Rattle.tl_command.specs.declared.options.Choice.{Choice}
use Rattle.tl_command.specs.declared.options.Choice.TheVariants as choices
use Rattle.tl_command.specs.declared.options.Options.{Options}
use Rattle.tl_command.specs.Ask.{Asked, IsAsk, AskForNothing, IsDashed, AreNames}
use Rattle.tl_command.specs.Command.{word_of_command, IsNumberOf}
use Rattle.tl_command.specs.Options.{name_of, option_words, AreOptions}
use Rattle.tl_command.specs.inner.Parts.{IsDashedAtFirst, BeginsWithCommand, IsSplit}
use Rattle.tl_command.proofs.NameLemmas.{names_apart}
use Rattle.tl_command.proofs.OptionLemmas.{options_once}

-- a word spells at most one command
pub command_once : (one other : Command) → word_of_command one ≡ word_of_command other → one ≡ other
command_once Lay Lay e = refl
command_once Narrow Narrow e = refl
command_once Tidy Tidy e = refl
command_once Check Check e = refl
command_once Demo Demo e = refl
command_once one other e = absurd (omega (arith, ap (λ (word : List ℕ). get_or word 0 0) e))

-- each number that a command takes has 32 bits
pub number_small : (command : Command) (number : ℕ) → IsNumberOf command number → number < 2 ^ 64
number_small Lay number is = omega (arith, is.most)
number_small Narrow number is = omega (arith, is.most)
number_small Tidy number is = omega (arith, is.most)
number_small Check number is = omega (arith, is.most)
number_small Demo number is = omega (arith, is.most)

-- arguments begin in one way at most
pub opening_once : (words : List (List ℕ)) (command command2 : Command) (number number2 : ℕ) (more more2 : List (List ℕ)) →
    BeginsWithCommand words command number more → BeginsWithCommand words command2 number2 more2 →
    (command ≡ command2) × (number ≡ number2) × (more ≡ more2)
opening_once words command command2 number number2 more more2 one other =
    let all = sym one.spelled ∙ other.spelled in
    let later = rest-same _ _ _ _ all in (
      command_once command command2 (first-same _ _ _ _ all),
      decimal_injective number number2 (number_small command number one.in_range) (number_small command2 number2 other.in_range)
          (first-same _ _ _ _ later),
      rest-same _ _ _ _ later,
    )

-- and the names among them end in one place at most
pub split_once : (command : Command) (more names names2 after after2 : List (List ℕ)) → IsSplit command more names after →
    IsSplit command more names2 after2 → (names ≡ names2) × (after ≡ after2)
split_once command more names names2 after after2 one other =
    names_apart names names2 _ _ after after2 (sym one.spelled ∙ other.spelled) one.counted.fewest one.counted.most
    other.counted.fewest other.counted.most one.plain one.dashed other.plain other.dashed

-- the name of an option begins as options do
name_dashed : (choice : Choice) → IsDashed (name_of choice)
name_dashed (choices.Style style) = (codes "style", refl)
name_dashed (choices.Breaking breaking) = (codes "break", refl)
name_dashed (choices.Budget budget) = (codes "budget", refl)
name_dashed (choices.Search solver) = (codes "solver", refl)
name_dashed (choices.Workers workers) = (codes "workers", refl)
name_dashed choices.Csv = (codes "csv", refl)
name_dashed choices.Head = (codes "head", refl)
name_dashed (choices.Least floors) = (codes "least", refl)
name_dashed (choices.Align align) = (codes "align", refl)
name_dashed choices.Trim = (codes "trim", refl)
name_dashed choices.Html = (codes "html", refl)

-- arguments that spell options begin so, if there are any
options_dashed : (command : Command) (words : List (List ℕ)) (options : Options) → AreOptions command words options →
    IsDashedAtFirst words
options_dashed command words options are = subst IsDashedAtFirst (sym are.spelled) (dashed are.choices) where
  dashed : (all : List Choice) → IsDashedAtFirst (flat_map option_words all)
  dashed [] = tt
  dashed (choice ∷ all) = subst IsDashedAtFirst (sym (flat_map-cons option_words choice all)) (name_dashed choice)

-- what is asked for has these parts
opening_of : (words : List (List ℕ)) (asked : Asked) (is : IsAsk words asked) →
    BeginsWithCommand words asked.command asked.number (asked.names ++ is.after)
opening_of words asked is = record { spelled = is.spelled; in_range = is.in_range }

split_of : (words : List (List ℕ)) (asked : Asked) (is : IsAsk words asked) →
    IsSplit asked.command (asked.names ++ is.after) asked.names is.after
split_of words asked is = record {
  spelled = refl;
  counted = is.counted;
  plain = is.plain;
  dashed = λ less. options_dashed asked.command is.after asked.options is.options;
}

-- arguments that begin so
module _ (words : List (List ℕ)) (command : Command) (number : ℕ) (more : List (List ℕ))
    (opening : BeginsWithCommand words command number more) where
  -- what they ask for is of this command
  same_opening : (asked : Asked) (is : IsAsk words asked) →
      (asked.command ≡ command) × (asked.number ≡ number) × (asked.names ++ is.after ≡ more)
  same_opening asked is =
      opening_once words asked.command command asked.number number (asked.names ++ is.after) more
      (opening_of words asked is) opening

  -- and its names and options are the rest
  split_within : (asked : Asked) (is : IsAsk words asked) → IsSplit command more asked.names is.after
  split_within asked is =
      let same = same_opening asked is in
      subst (λ (m : List (List ℕ)). IsSplit command m asked.names is.after) same.2
      (subst (λ (c : Command). IsSplit c (asked.names ++ is.after) asked.names is.after) same.0 (split_of words asked is))

  -- where they go on with these names
  module _ (names after : List (List ℕ)) (split : IsSplit command more names after) where
    same_split : (asked : Asked) (is : IsAsk words asked) → (asked.names ≡ names) × (is.after ≡ after)
    same_split asked is = split_once command more asked.names names is.after after (split_within asked is) split

    same_options : (asked : Asked) (is : IsAsk words asked) → AreOptions command after asked.options
    same_options asked is =
        subst (λ (ws : List (List ℕ)). AreOptions command ws asked.options) (same_split asked is).1
        (subst (λ (c : Command). AreOptions c is.after asked.options) (same_opening asked is).0 is.options)

    -- with names that are none, or options that are none, they ask for nothing
    pub no_names : (AreNames names → ⊥) → AskForNothing words
    no_names none = λ asked is. none (subst AreNames (same_split asked is).0 is.names)

    pub no_options : ((options : Options) → AreOptions command after options → ⊥) → AskForNothing words
    no_options none = λ asked is. none asked.options (same_options asked is)

    -- and with these options for nothing but these parts
    pub same_ask : (options : Options) → AreOptions command after options → (asked : Asked) → IsAsk words asked →
        asked ≡ record { command = command; number = number; names = names; options = options }
    same_ask options given asked is =
        let opened = same_opening asked is in
        let told = same_split asked is in
        let same : asked.options ≡ options = options_once command after asked.options options (same_options asked is) given in
        λ i. record { command = opened.0 i; number = opened.1 i; names = told.0 i; options = same i }

-- arguments ask for one thing at most
pub ask_once : (words : List (List ℕ)) (one other : Asked) → IsAsk words one → IsAsk words other → one ≡ other
ask_once words one other first second =
    same_ask words other.command other.number (other.names ++ second.after) (opening_of words other second) other.names
    second.after (split_of words other second) other.options second.options one first
