-- Reading a list is exact for the texts of its items, one after the other, and of what stops it.
use Rattle.std.proofs.Common.{◌≡◌, ℕ, zero, suc, Bool, true, false, List, [], ◌∷◌, ◌++◌, ◌⊎◌, inl, inr, refl, sym, ap, subst, ◌∙◌}
use Rattle.std.proofs.lemmas.List.{append-nil}
use Rattle.tl_cert.specs.Pieces.{TextPiece, spell}
use Rattle.tl_cert.specs.inner.reading.Readings.{Reading, ◌>>=◌, give, begins}
use Rattle.tl_cert.specs.inner.reading.Lists.{Turn, halt, go, look, by_turn, ListReading, Listing, listing, stopping, list_at}
use Rattle.tl_cert.proofs.reading.Spellings.{spell_two}
use Rattle.tl_cert.proofs.reading.Exact.{Exact}
use Rattle.tl_cert.proofs.reading.Sequence.{Separated, Joined, exact_then}
use Rattle.tl_cert.proofs.reading.Words.{exact_give}
use Rattle.tl_cert.proofs.reading.Choice.{Chosen, exact_either}
use Rattle.tl_cert.proofs.reading.Same.{exact_same}

-- What the items of a list and its end are like, in each state and with so many items that may follow, and their pieces. The
-- reading gives `lift v vs` back for an item that the list has as `v` before the items `vs`.
pub record ListForm (S A V E : Type 0) : Type 1 where
  pub IsItem : ℕ → S → A → Type 0
  pub item_pieces : A → List TextPiece
  pub IsStop : ℕ → S → E → Type 0
  pub stop_pieces : E → List TextPiece
  pub lift : V → List V → A
  pub IsReady : ℕ → S → Type 0

-- the list is one of this form, from this state on
abbrev pub IsListed : {S A V E : Type 0} → ListReading S A V E → ListForm S A V E → ℕ → S → List V → E → Type 0
IsListed list form zero s [] e = form.IsStop zero s e
IsListed list form zero s (v ∷ vs) e = ⊥
IsListed list form (suc k) s [] e = form.IsStop (suc k) s e
IsListed list form (suc k) s (v ∷ vs) e =
    (list.view (form.lift v vs) ≡ v) × (form.IsItem k s (form.lift v vs) ×
    IsListed list form k (list.next s (form.lift v vs)) vs e)

abbrev pub list_pieces : {S A V E : Type 0} → ListForm S A V E → List V → E → List TextPiece
list_pieces form [] e = form.stop_pieces e
list_pieces form (v ∷ vs) e = form.item_pieces (form.lift v vs) ++ list_pieces form vs e

-- what is asked of the readings, for each kind of turn
pub record Halts {S A V E : Type 0} (list : ListReading S A V E) (form : ListForm S A V E) (k : ℕ) (s : S) : Type 0 where
  pub stop : Exact (list.stop s) (form.IsStop (suc k) s) form.stop_pieces
  pub no_item : (a : A) → form.IsItem k s a → ⊥

pub record Goes {S A V E : Type 0} (list : ListReading S A V E) (form : ListForm S A V E) (k : ℕ) (s : S) : Type 0 where
  pub item : Exact (list.item k s) (form.IsItem k s) form.item_pieces
  pub no_stop : (e : E) → form.IsStop (suc k) s e → ⊥

pub record Looks {S A V E : Type 0} (list : ListReading S A V E) (form : ListForm S A V E) (test : ℕ →
    Bool) (k : ℕ) (s : S) : Type 0 where
  pub item : Exact (list.item k s) (form.IsItem k s) form.item_pieces
  pub stop : Exact (list.stop s) (form.IsStop (suc k) s) form.stop_pieces
  pub item_begins : (a : A) (t : List ℕ) → form.IsItem k s a → begins test (spell (form.item_pieces a) ++ t) ≡ true
  pub stop_begins : (e : E) (t : List ℕ) → form.IsStop (suc k) s e → begins test (spell (form.stop_pieces e) ++ t) ≡ false

abbrev pub Turns : {S A V E : Type 0} → ListReading S A V E → ListForm S A V E → Turn → ℕ → S → Type 0
Turns list form halt k s = Halts list form k s
Turns list form go k s = Goes list form k s
Turns list form (look test) k s = Looks list form test k s

pub record IsExactList {S A V E : Type 0} (list : ListReading S A V E) (form : ListForm S A V E) : Type 0 where
  pub at_end : (s : S) → form.IsReady zero s → Exact (list.stop s) (form.IsStop zero s) form.stop_pieces
  pub turns : (k : ℕ) (s : S) → form.IsReady (suc k) s → Turns list form (list.turn k s) k s
  pub ready : (k : ℕ) (s : S) (a : A) → form.IsReady (suc k) s → form.IsItem k s a → form.IsReady k (list.next s a)
  pub lifted : (k : ℕ) (s : S) (a : A) (vs : List V) (e : E) → form.IsItem k s a → IsListed list form k (list.next s a) vs e →
      form.lift (list.view a) vs ≡ a

module _ {S A V E : Type 0} (list : ListReading S A V E) (form : ListForm S A V E) where
  abbrev pub Listed : ℕ → S → Listing V E → Type 0
  Listed k s x = IsListed list form k s (x.0) (x.1)

  abbrev pub pieces : Listing V E → List TextPiece
  pieces x = list_pieces form (x.0) (x.1)

  -- no item
  pub record IsStopped (k : ℕ) (s : S) (x : Listing V E) : Type 0 where
    pub end : form.IsStop k s x.1
    pub none : x.0 ≡ []

  pieces_stopped : (x : Listing V E) → x.0 ≡ [] → pieces x ≡ form.stop_pieces x.1
  pieces_stopped x none = ap (λ (vs : List V). list_pieces form vs x.1) none

  exact_stopping : (k : ℕ) (s : S) → Exact (list.stop s) (form.IsStop k s) form.stop_pieces →
      Exact (stopping list s) (IsStopped k s) pieces
  unfolding stopping
  exact_stopping k s stop =
      let joined : Joined (form.IsStop k s) form.stop_pieces (λ (e : E) (x : Listing V E). x ≡ listing [] e)
      (λ (e : E) (x : Listing V E). [])
      (IsStopped k s) pieces = record {
        separated = λ x is. record { part = x.1; first = is.end; second = ap (λ (vs : List V). listing vs x.1) is.none };
        shaped = λ e x first second. let P : Listing V E → Type 0 = IsStopped k s in
            subst P (sym second) (record { end = first; none = refl });
        text = λ e x first second. ap pieces second ∙ sym (append-nil (form.stop_pieces e));
      } in
      exact_then stop (λ e first. exact_give (listing [] e)) joined

  -- an item and a list after it
  abbrev IsGoing : ℕ → S → List V → E → Type 0
  IsGoing k s [] e = ⊥
  IsGoing k s (v ∷ vs) e = (list.view (form.lift v vs) ≡ v) ×
      (form.IsItem k s (form.lift v vs) × IsListed list form k (list.next s (form.lift v vs)) vs e)

  abbrev GoesOn : ℕ → S → A → List V → E → Type 0
  GoesOn k s a [] e = ⊥
  GoesOn k s a (v ∷ vs) e = (list.view a ≡ v) × IsListed list form k (list.next s a) vs e

  abbrev later_pieces : List V → E → List TextPiece
  later_pieces [] e = []
  later_pieces (v ∷ vs) e = list_pieces form vs e

  abbrev Going : ℕ → S → Listing V E → Type 0
  Going k s x = IsGoing k s (x.0) (x.1)

  abbrev Later : ℕ → S → A → Listing V E → Type 0
  Later k s a x = GoesOn k s a (x.0) (x.1)

  later_separated : (k : ℕ) (s : S) (a : A) (vs : List V) (e : E) → GoesOn k s a vs e
      → Separated (Listed k (list.next s a)) (λ (y x : Listing V E). x ≡ listing (list.view a ∷ y.0) (y.1)) (listing vs e)
  later_separated k s a [] e is = absurd is
  later_separated k s a (v ∷ vs) e is = record {
    part = listing vs e;
    first = is.1;
    second =
        ap (λ (w : V). listing (w ∷ vs) e) (sym is.0);
  }

  going_separated : (k : ℕ) (s : S) (vs : List V) (e : E) → IsGoing k s vs e →
      Separated (form.IsItem k s) (Later k s) (listing vs e)
  going_separated k s [] e is = absurd is
  going_separated k s (v ∷ vs) e is = record { part = form.lift v vs; first = is.1.0; second = (is.0, is.1.1) }

  module _ (exact : IsExactList list form) where
    item_is : (k : ℕ) (s : S) (a : A) (v : V) (vs : List V) (e : E) → form.IsItem k s a → list.view a ≡ v →
        IsListed list form k (list.next s a) vs e
        → form.lift v vs ≡ a
    item_is k s a v vs e is_item seen is_list = ap (λ (w : V). form.lift w vs)
        (sym seen) ∙ exact.lifted k s a vs e is_item is_list

    going_shaped : (k : ℕ) (s : S) (a : A) (vs : List V) (e : E) → form.IsItem k s a → GoesOn k s a vs e → IsGoing k s vs e
    going_shaped k s a [] e first second = absurd second
    going_shaped k s a (v ∷ vs) e first second =
        let P : A → Type 0 = λ b. (list.view b ≡ v) × (form.IsItem k s b × IsListed list form k (list.next s b) vs e) in
        subst P (sym (item_is k s a v vs e first second.0 second.1)) (second.0, (first, second.1))

    going_text : (k : ℕ) (s : S) (a : A) (vs : List V) (e : E) → form.IsItem k s a → GoesOn k s a vs e
        → list_pieces form vs e ≡ form.item_pieces a ++ later_pieces vs e
    going_text k s a [] e first second = absurd second
    going_text k s a (v ∷ vs) e first second =
        ap (λ (b : A). form.item_pieces b ++ list_pieces form vs e) (item_is k s a v vs e first second.0 second.1)

    exact_going : (k : ℕ) (s : S) → Exact (list.item k s) (form.IsItem k s) form.item_pieces
        → ((a : A) → form.IsItem k s a → Exact (list_at list k (list.next s a)) (Listed k (list.next s a)) pieces)
        → Exact (list.item k s >>= λ a. (list_at list k (list.next s a) >>= λ x. give (listing (list.view a ∷ x.0) (x.1))))
        (Going k s) pieces
    exact_going k s item rest =
        let inner : (a : A) → Joined (Listed k (list.next s a)) pieces
        (λ (y x : Listing V E). x ≡ listing (list.view a ∷ y.0) (y.1))
        (λ (y x : Listing V E). []) (Later k s a) (λ (x : Listing V E). later_pieces (x.0) (x.1)) =
        λ a. record {
          separated = λ x is. later_separated k s a (x.0) (x.1) is;
          shaped = λ y x first second. let P : Listing V E → Type 0 = Later k s a in subst P (sym second) (refl, first);
          text = λ y x first second. ap (λ (z : Listing V E). later_pieces (z.0) (z.1)) second ∙ sym (append-nil (pieces y));
        } in
        let outer : Joined (form.IsItem k s) form.item_pieces (Later k s)
        (λ (a : A) (x : Listing V E). later_pieces (x.0) (x.1)) (Going k s) pieces = record {
          separated = λ x is. going_separated k s (x.0) (x.1) is;
          shaped = λ a x first second. going_shaped k s a (x.0) (x.1) first second;
          text = λ a x first second. going_text k s a (x.0) (x.1) first second;
        } in
        exact_then item (λ a is_a. exact_then (rest a is_a) (λ y is_y. exact_give (listing (list.view a ∷ y.0) (y.1)))
        (inner a)) outer

    listed_stopped : (k : ℕ) (s : S) (x : Listing V E) → IsStopped (suc k) s x → Listed (suc k) s x
    listed_stopped k s x is = let P : List V → Type 0 = λ vs. IsListed list form (suc k) s vs x.1 in subst P (sym is.none) is.end

    listed_going : (k : ℕ) (s : S) (vs : List V) (e : E) → IsGoing k s vs e → IsListed list form (suc k) s vs e
    listed_going k s [] e is = absurd is
    listed_going k s (v ∷ vs) e is = is

    either_is : (k : ℕ) (s : S) (vs : List V) (e : E) → IsListed list form (suc k) s vs e →
        IsGoing k s vs e ⊎ IsStopped (suc k) s (listing vs e)
    either_is k s [] e is = inr (record { end = is; none = refl })
    either_is k s (v ∷ vs) e is = inl is

    listed_zero : (s : S) (vs : List V) (e : E) → IsListed list form zero s vs e → IsStopped zero s (listing vs e)
    listed_zero s [] e is = record { end = is; none = refl }
    listed_zero s (v ∷ vs) e is = absurd is

    going_begins : (k : ℕ) (s : S) (test : ℕ → Bool) (looks : Looks list form test k s) (vs : List V) (e : E) (t : List ℕ) →
        IsGoing k s vs e
        → begins test (spell (list_pieces form vs e) ++ t) ≡ true
    going_begins k s test looks [] e t is = absurd is
    going_begins k s test looks (v ∷ vs) e t is =
        ap (begins test) (spell_two (form.item_pieces (form.lift v vs)) (list_pieces form vs e) t)
        ∙ looks.item_begins (form.lift v vs) (spell (list_pieces form vs e) ++ t) is.1.0

    exact_turn : (k : ℕ) (s : S) (turn : Turn) (going : Reading (Listing V E)) → Turns list form turn k s
        → (Exact (list.item k s) (form.IsItem k s) form.item_pieces → Exact going (Going k s) pieces)
        → Exact (by_turn turn going (stopping list s)) (Listed (suc k) s) pieces
    exact_turn k s halt going turns goes =
        exact_same (Listed (suc k) s) pieces (exact_stopping (suc k) s turns.stop) (listed_stopped k s)
        (λ x is. elim (either_is k s (x.0) (x.1) is) [ inl going ↦ absurd (never (x.0) (x.1) going) | inr stopped ↦ stopped ])
        (λ x is. refl)
      where
        never : (vs : List V) (e : E) → IsGoing k s vs e → ⊥
        never [] e is = is
        never (v ∷ vs) e is = turns.no_item (form.lift v vs) is.1.0
    exact_turn k s go going turns goes =
        exact_same (Listed (suc k) s) pieces (goes turns.item) (λ x is. listed_going k s (x.0) (x.1) is)
        (λ x is. elim (either_is k s (x.0) (x.1) is) [
          | inl going ↦ going
          | inr stopped ↦ absurd (turns.no_stop x.1 stopped.end)
        ]) (λ x is. refl)
    exact_turn k s (look test) going turns goes =
        let chosen : Chosen test pieces (Going k s) (IsStopped (suc k) s) (Listed (suc k) s) = record {
          separated = λ x is. either_is k s (x.0) (x.1) is;
          first = λ x is. listed_going k s (x.0) (x.1) is;
          other = listed_stopped k s;
          yes = λ x t is. going_begins k s test turns (x.0) (x.1) t is;
          no = λ x t is. ap (λ (ps : List TextPiece). begins test (spell ps ++ t))
              (pieces_stopped x is.none) ∙ turns.stop_begins x.1 t is.end;
        } in
        exact_either (goes turns.item) (exact_stopping (suc k) s turns.stop) chosen

    pub exact_list : (k : ℕ) (s : S) → form.IsReady k s → Exact (list_at list k s) (Listed k s) pieces
    unfolding list_at
    exact_list zero s ready =
        exact_same (Listed zero s) pieces (exact_stopping zero s (exact.at_end s ready))
        (λ x is. let P : List V → Type 0 = λ vs. IsListed list form zero s vs x.1 in subst P (sym is.none) is.end)
        (λ x is. listed_zero s (x.0) (x.1) is) (λ x is. refl)
    exact_list (suc k) s ready =
        exact_turn k s (list.turn k s) (list.item k s >>= λ a.
        (list_at list k (list.next s a) >>= λ x. give (listing (list.view a ∷ x.0) (x.1))))
        (exact.turns k s ready)
        (λ item. exact_going k s item (λ a is_a. exact_list k (list.next s a) (exact.ready k s a ready is_a)))
