-- Where the names of a command end among the arguments.
use Rattle.std.proofs.Common.{◌≡◌, ℕ, ◌+◌, ◌-◌, ◌<◌, ◌≤◌, List, length, map, take, drop, sym, ap, subst, ◌∙◌, arith}
use Rattle.std.specs.List.{All}
use Rattle.std.proofs.lemmas.List.{drop-map, take-map, drop-take, drop-drop, take-append-drop, map-append}
use Rattle.std.proofs.lemmas.List.{length-map, length-take-le, length-drop}
use Rattle.tl_command.specs.declared.command.Command.{Command}
use Rattle.tl_command.specs.declared.command.Command.TheVariants.{Lay, Narrow, Tidy, Check, Demo}
use Rattle.tl_command.specs.Ask.{IsNoOption}
use Rattle.tl_command.specs.Command.{fewest_names, most_names}
use Rattle.tl_command.specs.inner.Parts.{IsDashedAtFirst, IsSplit}

-- a command takes as many names as it wants at least
pub in_order : (command : Command) → fewest_names command ≤ most_names command
in_order Lay = omega arith
in_order Narrow = omega arith
in_order Tidy = omega arith
in_order Check = omega arith
in_order Demo = omega arith

-- the names that have to be there, so many more, and what is left
module _ {X : Type 0} (word : X → List ℕ) (command : Command) (words optional names after : List X) (fewest most count : ℕ)
    (is_fewest : fewest ≡ fewest_names command) (is_most : most ≡ most_names command) (enough : fewest ≤ length words)
    (is_optional : optional ≡ drop fewest words) (within : count ≤ length optional) (at_most : count ≤ most - fewest)
    (plain : All IsNoOption (take count (map word optional)))
    (dashed : count < most - fewest → IsDashedAtFirst (drop count (map word optional)))
    (are_names : names ≡ take (fewest + count) words) (is_after : after ≡ drop (fewest + count) words) where
  counted : length (map word names) ≡ fewest + count
  counted = length-map names word ∙ ap length are_names
      ∙ length-take-le (fewest + count) words (omega (arith, enough, within, ap length is_optional, length-drop fewest words))

  plain_last : drop (fewest_names command) (map word names) ≡ take count (map word optional)
  plain_last =
      cc (drop-map word (fewest_names command) names, drop-take fewest count words, take-map word count (drop fewest words))

  left : drop count (map word optional) ≡ map word after
  left = cc (drop-map word count optional, drop-drop count fewest words)

  pub names_split : IsSplit command (map word words) (map word names) (map word after)
  names_split = record {
    spelled = cc (
      take-append-drop (fewest + count) words,
      map-append word (take (fewest + count) words) (drop (fewest + count) words),
    );
    counted = record {
      fewest = omega (arith, counted, is_fewest);
      most = omega (arith, counted, at_most, is_fewest, is_most, in_order command);
    };
    plain = subst (All IsNoOption) (sym plain_last) plain;
    dashed = λ less. subst IsDashedAtFirst left (dashed (omega (arith, counted, less, is_fewest, is_most, in_order command)));
  }
