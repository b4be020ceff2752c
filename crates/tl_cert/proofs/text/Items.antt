-- Lists whose items are separated by a space and ended by a line feed: widths, and the entries of a chain.
use Rattle.std.proofs.Common.{◌≡◌, ℕ, zero, suc, ◌≤◌, Bool, true, false, eqb, ltb, ◌&&◌, List}
use Rattle.std.proofs.Common.{[], ◌∷◌, ◌++◌, inl, inr, length, refl, sym, ap, ◌∙◌, append_assoc, arith}
use Rattle.std.specs.Char.{is_ascii_digit}
use Rattle.std.specs.List.{flat_map, AllByRecursion}
use Rattle.std.proofs.lemmas.Bool.{eqb-true, or_cases, and_parts, lt-ltb}
use Rattle.std.proofs.lemmas.List.{append-nil}
use Rattle.tl_cert.specs.Pieces.{TextPiece, character, numeral}
use Rattle.tl_cert.specs.Text.{space, line_feed}
use Rattle.tl_cert.specs.inner.CertReading.{ends_item, more_turn}
use Rattle.tl_cert.specs.inner.reading.Readings.{Reading, give}
use Rattle.tl_cert.specs.inner.reading.Lists.{ListReading}
use Rattle.tl_cert.proofs.reading.Exact.{Exact}
use Rattle.tl_cert.proofs.reading.ListExact.{ListForm, IsListed, list_pieces, Turns, IsExactList}
use Rattle.tl_cert.proofs.reading.NumberReading.{IsRule}
use Rattle.tl_cert.proofs.text.Fields.{exact_only}

-- what follows an item
abbrev pub end_of : Bool → ℕ
end_of true = space
end_of false = line_feed

pub ends_by : (more goes_on : Bool) → (goes_on ≡ true → more ≡ true) → ends_item more (end_of goes_on) ≡ true
ends_by true true may = refl
ends_by false true may = absurd (let never : false ≡ true = may refl in cc)
ends_by true false may = refl
ends_by false false may = refl

pub end_is : (more : Bool) (c : ℕ) → ends_item more c ≡ true → (c ≡ end_of (eqb c space)) × (eqb c space ≡ true → more ≡ true)
end_is more c ends =
    elim (or_cases (eqb c line_feed) (more && eqb c space) ends) [
      | inl feed ↦
          let c-is : c ≡ 10 = eqb-true c 10 feed in
          (c-is ∙ ap (λ (k : ℕ). end_of (eqb k space)) (sym c-is), λ spaced. absurd (omega (arith, eqb-true c 32 spaced)))
      | inr spaced ↦
          let p = and_parts more (eqb c space) spaced in
          (eqb-true c 32 p.1 ∙ ap end_of (sym p.1), λ _. p.0)
    ]

pub item_rule : (more : Bool) → IsRule (λ n. true) (λ n c. ends_item more c)
item_rule more = record {
  some_end = λ n can. (10, refl);
  no_end = λ n e cannot ends. absurd cc;
  not_digit = λ n e ends. elim (or_cases (eqb e line_feed) (more && eqb e space) ends) [
    | inl feed ↦ ap is_ascii_digit (eqb-true e 10 feed)
    | inr spaced ↦ ap is_ascii_digit (eqb-true e 32 ((and_parts more (eqb e space) spaced).1))
  ];
  longer = λ n positive. (n, [], refl, sym (append-nil (numeral n)));
}

-- ---- the list

abbrev pub any_left : {V : Type 0} → List V → Bool
any_left [] = false
any_left (v ∷ vs) = true

module _ {V : Type 0} (IsOne : V → Type 0) (one_pieces : V → List TextPiece) where
  abbrev pub flagged : V → Bool → V × Bool
  flagged v more = (v, more)

  abbrev IsItemOf : ℕ → Bool → V × Bool → Type 0
  IsItemOf k true a = IsOne (a.0) × (a.1 ≡ true → ltb 0 k ≡ true)
  IsItemOf k false a = ⊥

  abbrev IsLast : Bool → Type 0
  IsLast true = ⊥
  IsLast false = Unit {0}

  abbrev IsReadyFor : ℕ → Bool → Type 0
  IsReadyFor zero more = IsLast more
  IsReadyFor (suc k) more = Unit {0}

  abbrev pub item_pieces : V × Bool → List TextPiece
  item_pieces a = one_pieces (a.0) ++ (character (end_of (a.1)) ∷ [])

  abbrev pub items_form : ListForm Bool (V × Bool) V (Unit {0})
  items_form = record {
    IsItem = IsItemOf;
    item_pieces = item_pieces;
    IsStop = λ k more e. IsLast more;
    stop_pieces = λ e. [];
    lift = λ v vs. flagged v (any_left vs);
    IsReady = IsReadyFor;
  }

  module _ (item : ℕ → Bool → Reading (V × Bool)) where
    abbrev pub items_reading : ListReading Bool (V × Bool) V (Unit {0})
    items_reading = record {
      turn = λ k more. more_turn more;
      item = item;
      next = λ more a. a.1;
      view = λ a. a.0;
      stop =
          λ more. give tt;
    }

    pub items_exact : ((k : ℕ) → Exact (item k true) (λ a. IsOne (a.0) × (a.1 ≡ true → ltb 0 k ≡ true)) item_pieces) →
        IsExactList items_reading items_form
    items_exact exact_item = record {
      at_end = at_end;
      turns = turns;
      ready = later;
      lifted = lifted;
    }
      where
        at_end : (more : Bool) → IsReadyFor zero more → Exact (give tt) (λ (e : Unit {0}). IsLast more) (λ e. [])
        at_end more ready = exact_only tt (λ (e : Unit {0}). IsLast more) ready (λ e is. refl)

        turns : (k : ℕ) (more : Bool) → IsReadyFor (suc k) more → Turns items_reading items_form (more_turn more) k more
        turns k true ready = record { item = exact_item k; no_stop = λ e is. is }
        turns k false ready = record { stop = exact_only tt (λ (e : Unit {0}). Unit {0}) tt (λ e is. refl); no_item = λ a is. is }

        later : (k : ℕ) (more : Bool) (a : V × Bool) → IsReadyFor (suc k) more → IsItemOf k more a → IsReadyFor k (a.1)
        later zero true a ready is = last (a.1) is.1
          where
            last : (more : Bool) → (more ≡ true → ltb 0 0 ≡ true) → IsLast more
            last true may = let never : false ≡ true = may refl in absurd cc
            last false may = tt
        later zero false a ready is = absurd is
        later (suc k) more a ready is = tt

        lifted : (k : ℕ) (more : Bool) (a : V × Bool) (vs : List V) (e : Unit {0}) → IsItemOf k more a →
            IsListed items_reading items_form k (a.1) vs e
            → flagged (a.0) (any_left vs) ≡ a
        lifted k more a vs e is listed = ap (flagged (a.0)) (left k (a.1) vs e listed)
          where
            left : (k : ℕ) (more : Bool) (vs : List V) (e : Unit {0}) → IsListed items_reading items_form k more vs e →
                any_left vs ≡ more
            left zero true [] e is = absurd is
            left zero false [] e is = refl
            left zero more (v ∷ vs) e is = absurd is
            left (suc k) true [] e is = absurd is
            left (suc k) false [] e is = refl
            left (suc k) true (v ∷ vs) e is = refl
            left (suc k) false (v ∷ vs) e is = absurd is.1.0

    -- ---- in other words

    abbrev AllOne : List V → Type 0
    AllOne = AllByRecursion IsOne

    pub items_to : (k : ℕ) (vs : List V) (e : Unit {0}) → IsListed items_reading items_form k true vs e →
        (1 ≤ length vs) × ((length vs ≤ k) × AllOne vs)
    items_to zero [] e is = absurd is
    items_to zero (v ∷ vs) e is = absurd is
    items_to (suc k) [] e is = absurd is
    items_to (suc k) (v ∷ []) e is = (omega arith, (omega arith, (is.1.0.0, tt)))
    items_to (suc k) (v ∷ w ∷ vs) e is = let p = items_to k (w ∷ vs) e is.1.1 in
        (omega arith, (omega (arith, p.1.0), (is.1.0.0, p.1.1)))

    pub items_from : (k : ℕ) (vs : List V) (e : Unit {0}) → 1 ≤ length vs → length vs ≤ k → AllOne vs →
        IsListed items_reading items_form k true vs e
    items_from k [] e some most each = absurd (omega arith)
    items_from zero (v ∷ vs) e some most each = absurd (omega arith)
    items_from (suc k) (v ∷ []) e some most each = (refl, ((each.0, λ is. absurd cc), done k))
      where
        done : (k : ℕ) → IsListed items_reading items_form k false [] e
        done zero = tt
        done (suc k) = tt
    items_from (suc k) (v ∷ w ∷ vs) e some most each =
        (refl, ((each.0, λ is. lt-ltb 0 k (omega arith)), items_from k (w ∷ vs) e (omega arith) (omega arith) each.1))

    -- a space before each item and a line feed after the last are the space, and what is read
    pub items_text : (v : V) (vs : List V) (e : Unit {0}) (t : List TextPiece)
        → flat_map (λ u. character space ∷ one_pieces u) (v ∷ vs) ++ (character line_feed ∷ t) ≡ character space ∷
        (list_pieces items_form (v ∷ vs) e ++ t)
    items_text v [] e t =
        ap (λ (ps : List TextPiece). character space ∷ ps)
        (append_assoc (one_pieces v) [] (character line_feed ∷ t)
        ∙ sym (append_assoc (one_pieces v ++ (character line_feed ∷ [])) [] t ∙ append_assoc (one_pieces v)
        (character line_feed ∷ []) t))
    items_text v (w ∷ vs) e t =
        ap (λ (ps : List TextPiece). character space ∷ ps)
        (append_assoc (one_pieces v) (flat_map (λ u. character space ∷ one_pieces u) (w ∷ vs)) (character line_feed ∷ t)
        ∙ ap (λ (ps : List TextPiece). one_pieces v ++ ps) (items_text w vs e t)
        ∙ sym (append_assoc (one_pieces v ++ (character space ∷ [])) (list_pieces items_form (w ∷ vs) e) t
        ∙ append_assoc (one_pieces v) (character space ∷ []) (list_pieces items_form (w ∷ vs) e ++ t)))
