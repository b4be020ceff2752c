-- A list that a loop reads, item by item: what was read, and what is left to read, make the whole.
use Rattle.std.proofs.Common.{◌≡◌, ℕ, zero, suc, ◌<◌, true, false, List, [], ◌∷◌, ◌++◌, length, refl, sym, ap, subst, ◌∙◌}
use Rattle.std.proofs.Common.{append_assoc, arith}
use Rattle.std.proofs.lemmas.List.{append-nil}
use Rattle.tl_cert.specs.declared.reader.Fault.{Fault}
use Rattle.tl_cert.specs.declared.reader.Fault.TheVariants.{Memory, Wrong, Outside}
use Rattle.tl_cert.specs.inner.Gives.{FailsBy}
use Rattle.tl_cert.specs.inner.reading.Readings.{Answer, got, wrong, outside, Reading, then_read, followed, ◌>>=◌, give, either}
use Rattle.tl_cert.proofs.reading.ListExact.{ListForm}
use Rattle.tl_cert.proofs.reading.Unlimited.{IsUnlimited, fuel_same}
use Rattle.tl_cert.specs.inner.reading.Lists.{Turn, halt, go, look, by_turn, comes, ListReading, Listing, listing, stopping}
use Rattle.tl_cert.specs.inner.reading.Lists.{list_at}

-- items that were read before the others
abbrev pub prepend : {V E : Type 0} → List V → Answer (Listing V E) → Answer (Listing V E)
prepend prefix (got x rest) = got (listing (prefix ++ x.0) (x.1)) rest
prepend prefix (wrong left) = wrong left
prepend prefix (outside left) = outside left

-- nothing comes, for want of room or by the turn
abbrev pub Stops : {S A V E : Type 0} → ListReading S A V E → ℕ → S → List ℕ → Type 0
Stops list zero s text = Unit {0}
Stops list (suc k) s text = comes (list.turn k s) text ≡ false

pub stops_by : {S A V E : Type 0} (list : ListReading S A V E) (k : ℕ) (s : S) (text : List ℕ) →
    ((j : ℕ) → k ≡ suc j → comes (list.turn j s) text ≡ false)
    → Stops list k s text
stops_by list zero s text none = tt
stops_by list (suc k) s text none = none k refl

module _ {S A V E : Type 0} (list : ListReading S A V E) where
  abbrev pub Whole : List V → ℕ → S → List ℕ → Answer (Listing V E) → Type 0
  Whole prefix k s text total = prepend prefix (list_at list k s text) ≡ total

  comes_so : (turn : Turn) (text : List ℕ) (x y : Reading (Listing V E)) → comes turn text ≡ true → by_turn turn x y text ≡ x text
  unfolding either
  comes_so halt text x y e = absurd cc
  comes_so go text x y e = refl
  comes_so (look test) text x y e = rw e refl

  stops_so : (turn : Turn) (text : List ℕ) (x y : Reading (Listing V E)) → comes turn text ≡ false →
      by_turn turn x y text ≡ y text
  unfolding either
  stops_so halt text x y e = refl
  stops_so go text x y e = absurd cc
  stops_so (look test) text x y e = rw e refl

  abbrev items : ℕ → S → Answer A → Answer (Listing V E)
  items k s x = then_read x (λ a. list_at list k (list.next s a) >>= λ y. give (listing (list.view a ∷ y.0) (y.1)))

  item_so : (k : ℕ) (s : S) (text : List ℕ) → comes (list.turn k s) text ≡ true →
      list_at list (suc k) s text ≡ items k s (list.item k s text)
  unfolding list_at followed
  item_so k s text e = comes_so (list.turn k s) text
      (list.item k s >>= λ a. (list_at list k (list.next s a) >>= λ y. give (listing (list.view a ∷ y.0) (y.1))))
      (stopping list s) e

  stop_so : (k : ℕ) (s : S) (text : List ℕ) → Stops list k s text →
      list_at list k s text ≡ then_read (list.stop s text) (λ e. give (listing [] e))
  unfolding list_at followed stopping
  stop_so zero s text e = refl
  stop_so (suc k) s text e = stops_so (list.turn k s) text (list.item k s >>= λ a.
      (list_at list k (list.next s a) >>= λ y. give (listing (list.view a ∷ y.0) (y.1)))) (stopping list s) e

  pushed : (prefix : List V) (v : V) (x : Answer (Listing V E)) →
      prepend prefix (then_read x (λ y. give (listing (v ∷ y.0) (y.1)))) ≡ prepend (prefix ++ v ∷ []) x
  unfolding give
  pushed prefix v (got y rest) = ap (λ (vs : List V). got (listing vs y.1) rest) (sym (append_assoc prefix (v ∷ []) y.0))
  pushed prefix v (wrong left) = refl
  pushed prefix v (outside left) = refl

  -- one item more
  pub goes_on : (prefix : List V) (room k : ℕ) (s : S) (text : List ℕ) (a : A) (rest : List ℕ) (total : Answer (Listing V E)) →
      room ≡ suc k
      → comes (list.turn k s) text ≡ true
      → list.item k s text ≡ got a rest → Whole prefix room s text total →
      Whole (prefix ++ list.view a ∷ []) k (list.next s a) rest total
  unfolding followed
  goes_on prefix room k s text a rest total room-is come is all =
      let whole : Whole prefix (suc k) s text total = let P : ℕ → Type 0 = λ j. Whole prefix j s text total in
      subst P room-is all in
      sym (pushed prefix (list.view a) (list_at list k (list.next s a) rest)) ∙ ap (prepend prefix)
      (sym (item_so k s text come ∙ ap (items k s) is)) ∙ whole

  -- one item more keeps a whole reading whole, as a loop has it: the list with the item, and the next state
  pub pushed_on : (prefix new : List V) (room k : ℕ) (s t : S) (text : List ℕ) (a : A) (v : V) (rest : List ℕ)
      (total : Answer (Listing V E))
      → new ≡ prefix ++ v ∷ [] → list.view a ≡ v
      → list.next s a ≡ t → room ≡ suc k → comes (list.turn k s) text ≡ true → list.item k s text ≡ got a rest →
      Whole prefix room s text total
      → Whole new k t rest total
  pushed_on prefix new room k s t text a v rest total new-is view-is next-is room-is come is whole =
      let one : Whole (prefix ++ list.view a ∷ []) k (list.next s a) rest total =
      goes_on prefix room k s text a rest total room-is come is whole in
      let P : S → Type 0 = λ u. Whole (prefix ++ list.view a ∷ []) k u rest total in
      let two : Whole (prefix ++ list.view a ∷ []) k t rest total = subst P next-is one in
      let Q : V → Type 0 = λ w. Whole (prefix ++ w ∷ []) k t rest total in
      let R : List V → Type 0 = λ l. Whole l k t rest total in
      subst R (sym new-is) (subst Q view-is two)

  failed : (f : Fault) (prefix : List V) (k : ℕ) (s : S) (x : Answer A) → FailsBy f x → FailsBy f (prepend prefix (items k s x))
  failed Memory prefix k s x is = tt
  failed (Wrong left) prefix k s x is = ap (λ (y : Answer A). prepend prefix (items k s y)) is
  failed (Outside left) prefix k s x is = ap (λ (y : Answer A). prepend prefix (items k s y)) is

  -- an item at which the reading fails
  pub fails_on : (f : Fault) (prefix : List V) (room k : ℕ) (s : S) (text : List ℕ) (total : Answer (Listing V E)) → room ≡ suc k
      → comes (list.turn k s) text ≡ true
      → FailsBy f (list.item k s text) → Whole prefix room s text total → FailsBy f total
  fails_on f prefix room k s text total room-is come is all =
      let whole : Whole prefix (suc k) s text total = let P : ℕ → Type 0 = λ j. Whole prefix j s text total in
      subst P room-is all in
      let P : Answer (Listing V E) → Type 0 = FailsBy f in
      subst P (ap (prepend prefix) (sym (item_so k s text come)) ∙ whole) (failed f prefix k s (list.item k s text) is)

  -- the end of the list
  pub stops_at : (prefix : List V) (k : ℕ) (s : S) (text : List ℕ) (e : E) (rest : List ℕ) (total : Answer (Listing V E)) →
      Stops list k s text
      → list.stop s text ≡ got e rest → Whole prefix k s text total → total ≡ got (listing prefix e) rest
  unfolding give
  stops_at prefix k s text e rest total stop is whole =
      sym whole ∙ ap (prepend prefix) (stop_so k s text stop ∙ ap (λ (x : Answer E). then_read x (λ e. give (listing [] e))) is)
      ∙ ap (λ (vs : List V). got (listing vs e) rest) (append-nil prefix)

  stop_failed : (f : Fault) (prefix : List V) (x : Answer E) → FailsBy f x →
      FailsBy f (prepend prefix (then_read x (λ e. give (listing [] e))))
  stop_failed Memory prefix x is = tt
  stop_failed (Wrong left) prefix x is = ap (λ (y : Answer E). prepend prefix (then_read y (λ e. give (listing [] e)))) is
  stop_failed (Outside left) prefix x is = ap (λ (y : Answer E). prepend prefix (then_read y (λ e. give (listing [] e)))) is

  pub fails_at : (f : Fault) (prefix : List V) (k : ℕ) (s : S) (text : List ℕ) (total : Answer (Listing V E)) →
      Stops list k s text
      → FailsBy f (list.stop s text) → Whole prefix k s text total → FailsBy f total
  fails_at f prefix k s text total stop is whole =
      let P : Answer (Listing V E) → Type 0 = FailsBy f in
      subst P (ap (prepend prefix) (sym (stop_so k s text stop)) ∙ whole) (stop_failed f prefix (list.stop s text) is)

  -- at the start nothing was read
  pub starts : (k : ℕ) (s : S) (text : List ℕ) → Whole [] k s text (list_at list k s text)
  starts k s text = unchanged (list_at list k s text)
    where
      unchanged : (x : Answer (Listing V E)) → prepend [] x ≡ x
      unchanged (got x rest) = refl
      unchanged (wrong left) = refl
      unchanged (outside left) = refl

-- room for as many items as there are characters is enough
pub refuel : {S A V E : Type 0} (list : ListReading S A V E) (form : ListForm S A V E) (unlimited : IsUnlimited list form)
    (prefix : List V) (room : ℕ) (s : S)
    (rest : List ℕ)
    (total : Answer (Listing V E)) → length rest < room → Whole list prefix room s rest total →
    Whole list prefix (suc (length rest)) s rest total
refuel list form unlimited prefix zero s rest total enough whole = absurd (omega arith)
refuel list form unlimited prefix (suc k) s rest total enough whole =
    ap (prepend prefix) (fuel_same list form unlimited (length rest) k s rest (omega arith) (omega arith)) ∙ whole
