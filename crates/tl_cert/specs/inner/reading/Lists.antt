-- No public clause cites this file. The reading of lists, item by item, up to what stops them.
use Rattle.std.specs.Prelude.{ℕ, zero, suc, Bool, true, false, List, [], ◌∷◌, length}
use Rattle.tl_cert.specs.inner.reading.Readings.{Reading, ◌>>=◌, give, begins, either}

-- Whether another item comes: it does not, it does, or the next character tells.
pub data Turn : Type 0 where
  halt : Turn
  go : Turn
  look : (ℕ → Bool) → Turn

-- the reading of the item where one comes, and of what stops the list where none does
abbrev pub by_turn : {C : Type 0} → Turn → Reading C → Reading C → Reading C
by_turn halt item stop = stop
by_turn go item stop = item
by_turn (look test) item stop = either test item stop

-- whether an item comes
abbrev pub comes : Turn → List ℕ → Bool
comes halt text = false
comes go text = true
comes (look test) text = begins test text

-- How a list is read: a state goes with it, and a number of items that may still follow the next one.
pub record ListReading (S A V E : Type 0) : Type 0 where
  pub turn : ℕ → S → Turn
  pub item : ℕ → S → Reading A
  pub next : S → A → S
  pub view : A → V
  pub stop : S → Reading E

-- the type of the items of a list with what stopped it
abbrev pub Listing : Type 0 → Type 0 → Type 0
Listing V E = List V × E

-- these items, and what stopped them
abbrev pub listing : {V E : Type 0} → List V → E → Listing V E
listing items end = (items, end)

-- no item
unfoldable pub stopping : {S A V E : Type 0} → ListReading S A V E → S → Reading (Listing V E)
stopping list s = list.stop s >>= λ end. give (listing [] end)

-- at most so many items from this state on
unfoldable pub list_at : {S A V E : Type 0} → ListReading S A V E → ℕ → S → Reading (Listing V E)
list_at list zero s = stopping list s
list_at list (suc k) s =
    by_turn (list.turn k s)
    (list.item k s >>= λ a. (list_at list k (list.next s a) >>= λ x. give (listing (list.view a ∷ x.0) (x.1))))
    (stopping list s)

-- a list with no limit on its items: it has fewer of them than the text has characters
unfoldable pub all_at : {S A V E : Type 0} → ListReading S A V E → S → Reading (Listing V E)
all_at list s = λ text. list_at list (suc (length text)) s text
