-- One write to the rows of a matrix, and the steps of the pass over all pairs.
use Rattle.std.proofs.Common.{get_or, ◌≡◌, ◌≢◌, ℕ, ◌+◌, ◌*◌, ◌<◌, ℤ, pos, ◌+ℤ◌, ◌≤ℤ◌, List, length, set, Option, Some, None, refl}
use Rattle.std.proofs.Common.{ap, arith, inl}
use Rattle.std.proofs.Common.{inr, ◌⊎◌, ⊎_elim, sym, subst, ◌∙◌}
use Rattle.std.proofs.lemmas.Int.{ints, clamps}
use Rattle.std.proofs.lemmas.Bool.{cases_eq, cases_lt}
use Rattle.std.proofs.lemmas.Nat.{same_from_place, mul-add-lt}
use Rattle.std.proofs.lemmas.List.{length-set, get_or-set_same, get_or-set_other, get_or_read}
use Rattle.tl_diff.specs.Bounds.{bounds_of, bound_at}
use Rattle.tl_diff.specs.inner.Closed.{AtMost, IsRowImproved, IsImproved, lesser, beyond, via}

module _ (n : ℕ) (rows : List (Option ℤ)) (a b : ℕ) (o : Option ℤ) where
  -- what is read at a pair's place in the rows is its bound
  pub bound_at-read : length rows ≡ n * n → a < n → b < n → o ≡ get_or rows (a * n + b) o → o ≡ bound_at (bounds_of n rows) a b
  bound_at-read pairs from to is = get_or_read rows (a * n + b) o (omega (arith, pairs, mul-add-lt a n b n from to)) is None

  pub bound_at-set_same : length rows ≡ n * n → a < n → b < n → bound_at (bounds_of n (set rows (a * n + b) o)) a b ≡ o
  bound_at-set_same pairs from to = get_or-set_same rows (a * n + b) o None (omega (arith, pairs, mul-add-lt a n b n from to))

  pub bound_at-set_row : (p q : ℕ) → b < n → q < n → p ≢ a →
      bound_at (bounds_of n (set rows (a * n + b) o)) p q ≡ bound_at (bounds_of n rows) p q
  bound_at-set_row p q to there apart =
      get_or-set_other rows (a * n + b) (p * n + q) o None (λ e. apart (same_from_place p q a b n there to e).0)

  pub bound_at-set_column : (p q : ℕ) → b < n → q < n → q ≢ b →
      bound_at (bounds_of n (set rows (a * n + b) o)) p q ≡ bound_at (bounds_of n rows) p q
  bound_at-set_column p q to there apart =
      get_or-set_other rows (a * n + b) (p * n + q) o None (λ e. apart (same_from_place p q a b n there to e).1)

-- what is no number is no bound
pub none_from : (o : Option ℤ) → ((x : ℤ) → o ≡ Some x → ⊥) → o ≡ None
none_from None h = refl
none_from (Some c) h = absurd (h c refl)

lesser-none : (o : Option ℤ) → lesser o None ≡ o
lesser-none None = refl
lesser-none (Some c) = refl

module _ (n : ℕ) (old cur : List (Option ℤ)) (variable to : ℕ) (way : ℤ) (end : ℕ) (begins : variable < n) (goes : to < n)
    (there : end < n)
    (h : IsRowImproved (bounds_of n old) (bounds_of n cur) variable to way end) where
  -- the row of the added constraint's end is still as it was, as far as it is read
  pub read_old : bound_at (bounds_of n cur) to end ≡ bound_at (bounds_of n old) to end
  read_old =
      ⊎_elim
      (λ e. rw e (h.rest end there (omega arith)))
      (λ apart. h.others to end goes there apart)
      (cases_eq to variable)

  skip_here : bound_at (bounds_of n cur) to end ≡ None →
      bound_at (bounds_of n cur) variable end ≡ lesser (bound_at (bounds_of n old) variable end)
      (beyond way (bound_at (bounds_of n old) to end))
  skip_here none =
      let at_old : bound_at (bounds_of n old) to end ≡ None = sym read_old ∙ none in
      h.rest end there (omega arith) ∙ (sym (lesser-none (bound_at (bounds_of n old) variable end))
      ∙ ap (λ m. lesser (bound_at (bounds_of n old) variable end) (beyond way m)) (sym at_old))

  write_here : (t : ℤ) (o : Option ℤ) → bound_at (bounds_of n cur) to end ≡ Some t →
      o ≡ lesser (bound_at (bounds_of n cur) variable end) (Some (way +ℤ t))
      → bound_at (bounds_of n (set cur (variable * n + end) o)) variable end ≡ lesser (bound_at (bounds_of n old) variable end)
      (beyond way (bound_at (bounds_of n old) to end))
  write_here t o some is =
      let at_old : bound_at (bounds_of n old) to end ≡ Some t = sym read_old ∙ some in
      bound_at-set_same n cur variable end o h.pairs begins there
      ∙ (is ∙ (ap (λ m. lesser m (Some (way +ℤ t))) (h.rest end there (omega arith))
      ∙ ap (λ m. lesser (bound_at (bounds_of n old) variable end) (beyond way m)) (sym at_old)))

  pub IsRowImproved-skip : bound_at (bounds_of n cur) to end ≡ None →
      IsRowImproved (bounds_of n old) (bounds_of n cur) variable to way (end + 1)
  IsRowImproved-skip none = record {
    variables = refl;
    pairs = h.pairs;
    others = h.others;
    done = λ q within below. done q within below (cases_eq q end);
    rest = λ q within from. h.rest q within (omega arith);
  } where
    done : (q : ℕ) → q < n → q < end + 1 → (q ≡ end) ⊎ (q ≢ end) →
        bound_at (bounds_of n cur) variable q ≡ lesser (bound_at (bounds_of n old) variable q)
        (beyond way (bound_at (bounds_of n old) to q))
    done q within below (inl e) = subst
        (λ j. bound_at (bounds_of n cur) variable j ≡ lesser (bound_at (bounds_of n old) variable j)
        (beyond way (bound_at (bounds_of n old) to j)))
        (sym e) (skip_here none)
    done q within below (inr apart) = h.done q within (omega arith)

  pub IsRowImproved-write : (t : ℤ) (o : Option ℤ) → bound_at (bounds_of n cur) to end ≡ Some t →
      o ≡ lesser (bound_at (bounds_of n cur) variable end) (Some (way +ℤ t))
      → IsRowImproved (bounds_of n old) (bounds_of n (set cur (variable * n + end) o)) variable to way (end + 1)
  IsRowImproved-write t o some is = record {
    variables = refl;
    pairs = length-set cur (variable * n + end) o ∙ h.pairs;
    others = λ p q from within apart. bound_at-set_row n cur variable end o p q there within apart ∙ h.others p q from within
        apart;
    done = λ q within below. done q within below (cases_eq q end);
    rest = λ q within from. bound_at-set_column n cur variable end o variable q there within (omega arith) ∙ h.rest q within
        (omega arith);
  } where
    done : (q : ℕ) → q < n → q < end + 1 → (q ≡ end) ⊎ (q ≢ end)
        → bound_at (bounds_of n (set cur (variable * n + end) o)) variable q ≡ lesser (bound_at (bounds_of n old) variable q)
        (beyond way (bound_at (bounds_of n old) to q))
    done q within below (inl e) = subst
        (λ j. bound_at (bounds_of n (set cur (variable * n + end) o)) variable j ≡ lesser (bound_at (bounds_of n old) variable j)
        (beyond way (bound_at (bounds_of n old) to j))) (sym e) (write_here t o some is)
    done q within below (inr apart) = bound_at-set_column n cur variable end o variable q there within apart ∙ h.done q within
        (omega arith)

-- a cycle over the added constraint, if there is one, tightens nothing
round_same : (o m : Option ℤ) (w : ℤ) → ((t : ℤ) → AtMost o t → pos 0 ≤ℤ (t +ℤ w)) → lesser m (via o w m) ≡ m
round_same None None w h = refl
round_same None (Some c) w h = refl
round_same (Some s) None w h = refl
round_same (Some s) (Some c) w h = let up = h s (omega (arith, ints)) in ap Some (omega (arith, ints, clamps))

module _ (n : ℕ) (old cur : List (Option ℤ)) (u v : ℕ) (w : ℤ) (variable : ℕ) (begins : u < n) (goes : v < n)
    (there : variable < n)
    (no_cycle : (t : ℤ) → AtMost (bound_at (bounds_of n old) v u) t → pos 0 ≤ℤ (t +ℤ w))
    (h : IsImproved (bounds_of n old) (bounds_of n cur) u v w variable) where
  -- the row of the added constraint's end never changes
  pub row_same : (q : ℕ) → q < n → bound_at (bounds_of n cur) v q ≡ bound_at (bounds_of n old) v q
  row_same q within =
      ⊎_elim
      (λ below. h.done v q goes within below ∙ round_same (bound_at (bounds_of n old) v u) (bound_at (bounds_of n old) v q)
      w no_cycle)
      (λ from. h.rest v q goes within from)
      (cases_lt v variable)

  abbrev Improved : List (Option ℤ) → ℕ → ℕ → Type 0
  Improved new p q = bound_at (bounds_of n new) p q ≡ lesser (bound_at (bounds_of n old) p q)
      (via (bound_at (bounds_of n old) p u) w (bound_at (bounds_of n old) v q))

  pub IsImproved-skip : bound_at (bounds_of n cur) variable u ≡ None →
      IsImproved (bounds_of n old) (bounds_of n cur) u v w (variable + 1)
  IsImproved-skip none = record {
    variables = refl;
    pairs = h.pairs;
    done = λ p q from to below. done p q from to below (cases_eq p variable);
    rest = λ p q from to up. h.rest p q from to (omega arith);
  } where
    here : (q : ℕ) → q < n → Improved cur variable q
    here q within =
        let at_old : bound_at (bounds_of n old) variable u ≡ None = sym (h.rest variable u there begins (omega arith)) ∙ none in
        h.rest variable q there within (omega arith)
        ∙ (sym (lesser-none (bound_at (bounds_of n old) variable q))
        ∙ ap (λ m. lesser (bound_at (bounds_of n old) variable q) (via m w (bound_at (bounds_of n old) v q))) (sym at_old))

    done : (p q : ℕ) → p < n → q < n → p < variable + 1 → (p ≡ variable) ⊎ (p ≢ variable) → Improved cur p q
    done p q from to below (inl e) = subst (λ j. Improved cur j q) (sym e) (here q to)
    done p q from to below (inr apart) = h.done p q from to (omega arith)

  pub IsImproved-row : (s : ℤ) (new : List (Option ℤ)) → bound_at (bounds_of n cur) variable u ≡ Some s →
      IsRowImproved (bounds_of n cur) (bounds_of n new) variable v (s +ℤ w) n →
      IsImproved (bounds_of n old) (bounds_of n new) u v w (variable + 1)
  IsImproved-row s new some r = record {
    variables = refl;
    pairs = r.pairs;
    done = λ p q from to below. done p q from to below (cases_eq p variable);
    rest = λ p q from to up. r.others p q from to (omega arith) ∙ h.rest p q from to (omega arith);
  } where
    here : (q : ℕ) → q < n → Improved new variable q
    here q within =
        let at_old : bound_at (bounds_of n old) variable u ≡ Some s = sym (h.rest variable u there begins (omega arith)) ∙ some in
        r.done q within within ∙ (ap (λ m. lesser m (beyond (s +ℤ w) (bound_at (bounds_of n cur) v q)))
        (h.rest variable q there within (omega arith))
        ∙ (ap (λ m. lesser (bound_at (bounds_of n old) variable q) (beyond (s +ℤ w) m)) (row_same q within)
        ∙ ap (λ m. lesser (bound_at (bounds_of n old) variable q) (via m w (bound_at (bounds_of n old) v q))) (sym at_old)))

    done : (p q : ℕ) → p < n → q < n → p < variable + 1 → (p ≡ variable) ⊎ (p ≢ variable) → Improved new p q
    done p q from to below (inl e) = subst (λ j. Improved new j q) (sym e) (here q to)
    done p q from to below (inr apart) = r.others p q from to apart ∙ h.done p q from to (omega arith)
