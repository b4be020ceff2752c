-- One more word of those that are picked, or spelled, one after the other.
use Rattle.std.proofs.Common.{◌≡◌, ℕ, ◌+◌, ◌<◌, true, false, List, [], ◌∷◌, ◌++◌, length, get_or, map, drop, subst, sym, ◌∙◌}
use Rattle.std.proofs.Common.{append_assoc, ap}
use Rattle.std.specs.Prelude.{if◌then◌else◌}
use Rattle.std.proofs.lemmas.List.{drop_more, map-append}
use Rattle.tl_arguments.specs.declared.order.Side.{Side}
use Rattle.tl_arguments.specs.declared.role.Role.{Role}
use Rattle.tl_arguments.specs.Arranged.{role_after, is_of, side_words, named, named_from}

-- the words from a place on are the word of that place and those after it
pub cut_at : (words : List (List ℕ)) (i : ℕ) (word : List ℕ) → i < length words → word ≡ get_or words i [] →
    drop i words ≡ word ∷ drop (i + 1) words
cut_at words i word within is = drop_more words i [] within ∙ ap (λ w. w ∷ drop (i + 1) words) (sym is)

module _ (side : Side) (before : Role) (picked words all : List (List ℕ)) (i : ℕ) (word : List ℕ) (within : i < length words)
    (is : word ≡ get_or words i []) (so_far : picked ++ side_words side before (drop i words) ≡ all) where
  at_word : picked ++ side_words side before (word ∷ drop (i + 1) words) ≡ all
  at_word = subst (λ ws. picked ++ side_words side before ws ≡ all) (cut_at words i word within is) so_far

  -- a word of the side is picked
  pub picked_more : is_of side (role_after before word) ≡ true →
      (picked ++ word ∷ []) ++ side_words side (role_after before word) (drop (i + 1) words) ≡ all
  picked_more has = append_assoc picked (word ∷ []) (side_words side (role_after before word) (drop (i + 1) words))
      ∙ subst (λ b. picked ++ (if b then word ∷ side_words side (role_after before word) (drop (i + 1) words)
      else side_words side (role_after before word) (drop (i + 1) words)) ≡ all) has at_word

  -- another is left out
  pub picked_same : is_of side (role_after before word) ≡ false →
      picked ++ side_words side (role_after before word) (drop (i + 1) words) ≡ all
  picked_same has_not = subst (λ b. picked ++ (if b then word ∷ side_words side (role_after before word) (drop (i + 1) words)
      else side_words side (role_after before word) (drop (i + 1) words)) ≡ all) has_not at_word

-- the word of a place is spelled
pub named_more : (command : List ℕ) (names words all : List (List ℕ)) (i : ℕ) (word : List ℕ) → i < length words →
    word ≡ get_or words i [] → names ++ named_from command i (drop i words) ≡ all →
    (names ++ named command i word ∷ []) ++ named_from command (i + 1) (drop (i + 1) words) ≡ all
named_more command names words all i word within is so_far =
    append_assoc names (named command i word ∷ []) (named_from command (i + 1) (drop (i + 1) words))
    ∙ subst (λ ws. names ++ named_from command i ws ≡ all) (cut_at words i word within is) so_far

-- what items spell, with one more at the end
pub spelled_more : {X : Type 0} (spelled : X → List ℕ) (items more : List X) (item : X) (word : List ℕ) →
    more ≡ items ++ item ∷ [] → spelled item ≡ word → map spelled more ≡ map spelled items ++ word ∷ []
spelled_more spelled items more item word is same =
    ap (map spelled) is ∙ map-append spelled items (item ∷ []) ∙ ap (λ w. map spelled items ++ w ∷ []) same
