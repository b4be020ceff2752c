-- The definitions on small cases.
use Rattle.std.proofs.Common.{◌≡◌, ◌≢◌, ◌↔◌, ℕ, false, List, [], ◌∷◌, ◌++◌, length, get_or, None, Some, refl, ap, subst}
use Rattle.std.proofs.Common.{codes, decimal, arith, ◌∙◌}
use Rattle.std.specs.Prelude.{IsTrue, Contains}
use Rattle.std.proofs.lemmas.Fmt.{decimal_digit, decimal_step}
use Rattle.std.proofs.lemmas.List.Elements.{All-nil, All-cons}
use Rattle.tl_base.proofs.Members.{AllPairs-none, AllPairs-cons, Contains-first, Contains-one}
use Rattle.tl_base.specs.declared.style.Style.TheVariants as styles
use Rattle.tl_command.specs.declared.command.Command.TheVariants.{Check, Demo}
use Rattle.tl_command.specs.declared.options.Choice.{Choice}
use Rattle.tl_command.specs.declared.options.Choice.TheVariants as choices
use Rattle.tl_command.specs.declared.options.Options.{Options}
use Rattle.tl_command.specs.Ask.{IsAsk, AskForNothing, IsNoOption, AreNames}
use Rattle.tl_command.specs.Options.{name_of, option_words, speaks_of_csv, IsOptionOf, IsGiven, AreOptions}
use Rattle.tl_command.proofs.AskLemmas.{no_options}
use Rattle.tl_command.proofs.NameLemmas.{names_none, names_cons}
use Rattle.tl_command.proofs.OptionLemmas.{letters, read_none, read_all, read_stuck}

-- no option
abbrev nothing : Options
nothing = record {
  style = None;
  breaking = None;
  budget = None;
  search = None;
  workers = None;
  csv = false;
  head = false;
  least = None;
  align = None;
  trim = false;
  html = false;
}

gives_nothing : (choice : Choice) → IsGiven nothing choice → ⊥
gives_nothing (choices.Align align) is = cc
gives_nothing choices.Trim is = cc
gives_nothing choices.Html is = cc
gives_nothing choice is = cc

-- the one option `--style compact`
abbrev compact : Options
compact = record {
  style = Some styles.Compact;
  breaking = None;
  budget = None;
  search = None;
  workers = None;
  csv = false;
  head = false;
  least = None;
  align = None;
  trim = false;
  html = false;
}

gives_compact : (choice : Choice) → IsGiven compact choice ↔ Contains (choices.Style styles.Compact ∷ []) choice
gives_compact (choices.Style style) = (
  λ is. let same : styles.Compact ≡ style = cc in
      subst (λ s. Contains (choices.Style styles.Compact ∷ []) (choices.Style s)) same
      (Contains-first (choices.Style styles.Compact) []),
  λ has. let same : choices.Style styles.Compact ≡ choices.Style style = Contains-one _ _ has in cc,
)
gives_compact choice = (λ is. absurd cc, λ has. let same : choices.Style styles.Compact ≡ choice = Contains-one _ _ has in absurd cc)

-- none of them speaks of a CSV file
none_of_csv : (choice : Choice) → IsGiven compact choice → IsTrue (speaks_of_csv choice) → ⊥
none_of_csv choices.Head is speaks = cc
none_of_csv (choices.Least floors) is speaks = cc
none_of_csv choice is speaks = let never : IsTrue false = speaks in cc

are_compact : AreOptions Check (codes "--style" ∷ codes "compact" ∷ []) compact
are_compact = record {
  choices = choices.Style styles.Compact ∷ [];
  spelled = refl;
  of_command = All-cons (IsOptionOf Check) (choices.Style styles.Compact) [] (record { taken = refl; in_range = tt })
      (All-nil (IsOptionOf Check));
  once = AllPairs-cons (λ one other. name_of one ≢ name_of other) (choices.Style styles.Compact) [] (All-nil _)
      (AllPairs-none (λ one other. name_of one ≢ name_of other));
  given = gives_compact;
  of_csv = λ choice is speaks. absurd (none_of_csv choice is speaks);
}

eighty : decimal 80 ≡ codes "80"
eighty = decimal_step 80 (omega arith) (omega arith) ∙ ap (λ ds. ds ++ 48 ∷ []) (decimal_digit 8 (omega arith))

-- the names `t` and `c` differ
are_two : AreNames (codes "t" ∷ codes "c" ∷ [])
are_two = names_cons (codes "t") (codes "c" ∷ []) (
  λ e. omega (arith, ap length e),
  All-cons (λ other. codes "t" ≢ other) (codes "c") [] (λ e. omega (arith, ap (λ (word : List ℕ). get_or word 0 0) e))
      (All-nil _),
) (names_cons (codes "c") [] (λ e. omega (arith, ap length e), All-nil _) names_none)

-- `check 80 t c --style compact`
asks : IsAsk (codes "check" ∷ codes "80" ∷ codes "t" ∷ codes "c" ∷ codes "--style" ∷ codes "compact" ∷ [])
    (record { command = Check; number = 80; names = codes "t" ∷ codes "c" ∷ []; options = compact })
asks = record {
  after = codes "--style" ∷ codes "compact" ∷ [];
  spelled = rw eighty;
  in_range = record { least = omega arith; most = omega arith };
  counted = record { fewest = omega arith; most = omega arith };
  names = are_two;
  plain = All-nil IsNoOption;
  options = are_compact;
}

-- `demo 7`
demonstrates : IsAsk (codes "demo" ∷ codes "7" ∷ []) (record { command = Demo; number = 7; names = []; options = nothing })
demonstrates = record {
  after = [];
  spelled = rw (decimal_digit 7 (omega arith));
  in_range = record { least = omega arith; most = omega arith };
  counted = record { fewest = omega arith; most = omega arith };
  names = names_none;
  plain = All-nil IsNoOption;
  options = read_all Demo [] nothing (read_none Demo [] nothing gives_nothing)
      (λ choice is speaks. absurd (gives_nothing choice is));
}

-- `--html` is no option of `check`
not_taken : (choice : Choice) (after : List (List ℕ)) → IsOptionOf Check choice →
    codes "--html" ∷ [] ≡ option_words choice ++ after → ⊥
not_taken choices.Html after is e = let never : IsTrue false = is.taken in cc
not_taken choice after is e = omega (arith, ap letters e)

-- `check 80 t c --html`
asks_for_nothing : AskForNothing (codes "check" ∷ codes "80" ∷ codes "t" ∷ codes "c" ∷ codes "--html" ∷ [])
asks_for_nothing = no_options (codes "check" ∷ codes "80" ∷ codes "t" ∷ codes "c" ∷ codes "--html" ∷ [])
    Check 80 (codes "t" ∷ codes "c" ∷ codes "--html" ∷ [])
    (record { spelled = rw eighty; in_range = record { least = omega arith; most = omega arith } })
    (codes "t" ∷ codes "c" ∷ []) (codes "--html" ∷ []) (record {
      spelled = refl;
      counted = record { fewest = omega arith; most = omega arith };
      plain = All-nil IsNoOption;
      dashed = λ less. absurd (omega (arith, less));
    }) (λ options. read_stuck Check (codes "--html" ∷ []) (codes "--html" ∷ []) nothing options
    (read_none Check (codes "--html" ∷ []) nothing gives_nothing) (λ e. omega (arith, ap length e)) not_taken)
