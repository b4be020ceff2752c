-- One more word of those among which `--progress` is looked for.
use Rattle.std.proofs.Common.{◌≡◌, ℕ, ◌+◌, ◌<◌, Bool, true, false, ◌||◌, List, [], length, get_or, map, drop, subst, sym}
use Rattle.std.proofs.Common.{arith}
use Rattle.std.proofs.lemmas.List.{length-map}
use Rattle.tl_command.proofs.WordLemmas.{word_at}
use Rattle.tl_arguments.specs.declared.role.Role.{Role}
use Rattle.tl_arguments.specs.Arranged.{role_after}
use Rattle.tl_arguments.specs.Progress.{is_progress, has_progress}
use Rattle.tl_arguments.proofs.StepLemmas.{cut_at}

module _ {X : Type 0} (spelled : X → List ℕ) (xs : List X) (i : ℕ) (x : X) (word : List ℕ) (before after : Role) (all : Bool)
    (within : i < length xs) (is : x ≡ get_or xs i x) (same : word ≡ spelled x) (next : after ≡ role_after before word)
    (so_far : has_progress before (drop i (map spelled xs)) ≡ all) where
  -- it is this word, or one of those after it
  asked_from : (is_progress after || has_progress after (drop (i + 1) (map spelled xs))) ≡ all
  asked_from = subst (λ role. (is_progress role || has_progress role (drop (i + 1) (map spelled xs))) ≡ all) (sym next)
      (subst (λ words. has_progress before words ≡ all)
      (cut_at (map spelled xs) i word (omega (arith, within, length-map xs spelled))
      (word_at spelled xs i x word [] within is same)) so_far)

  -- it is this word
  pub asked_here : is_progress after ≡ true → true ≡ all
  asked_here has = subst (λ b. (b || has_progress after (drop (i + 1) (map spelled xs))) ≡ all) has asked_from

  -- it is not this word
  pub asked_later : is_progress after ≡ false → has_progress after (drop (i + 1) (map spelled xs)) ≡ all
  asked_later has_not = subst (λ b. (b || has_progress after (drop (i + 1) (map spelled xs))) ≡ all) has_not asked_from
