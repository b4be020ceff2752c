-- Reading a list without a limit on its items is exact.
use Rattle.std.proofs.Common.{◌≡◌, ℕ, zero, suc, ◌+◌, ◌≤◌, ◌<◌, List, [], ◌∷◌, ◌++◌, length, refl, sym, ap, subst, ◌∙◌, arith}
use Rattle.std.proofs.lemmas.List.{length-append}
use Rattle.tl_cert.specs.Pieces.{TextPiece, spell, AllWithin}
use Rattle.tl_cert.specs.inner.reading.Readings.{Answer, got, wrong, outside, Reading, then_read, followed, ◌>>=◌, give, either}
use Rattle.tl_cert.specs.inner.reading.Lists.{Turn, halt, go, look, by_turn, ListReading, Listing, listing, stopping, list_at}
use Rattle.tl_cert.specs.inner.reading.Lists.{all_at}
use Rattle.tl_cert.proofs.reading.Spellings.{spell-append}
use Rattle.tl_cert.proofs.reading.Exact.{SameStart, Stuck, Outside, Exact}
use Rattle.tl_cert.proofs.reading.ListExact.{ListForm, IsListed, list_pieces, IsExactList, exact_list}

-- two prefixes of a text that leave equally much are one
pub same_prefix : (a b x y : List ℕ) → a ++ x ≡ b ++ y → length x ≡ length y → (a ≡ b) × (x ≡ y)
same_prefix [] [] x y e same = (refl, e)
same_prefix [] (c ∷ b) x y e same = absurd (omega (arith, ap length e, length-append (c ∷ b) y, same))
same_prefix (c ∷ a) [] x y e same = absurd (omega (arith, ap length e, length-append (c ∷ a) x, same))
same_prefix (c ∷ a) (d ∷ b) x y e same =
    let tail : a ++ x ≡ b ++ y = cc in
    let head : c ≡ d = cc in
    let p = same_prefix a b x y tail same in
    (ap (λ (k : ℕ). k ∷ a) head ∙ ap (λ (t : List ℕ). d ∷ t) p.0, p.1)

-- what is asked of a list's items where their number has no limit
pub record IsUnlimited {S A V E : Type 0} (list : ListReading S A V E) (form : ListForm S A V E) : Type 0 where
  pub turn_same : (k j : ℕ) (s : S) → list.turn k s ≡ list.turn j s
  pub item_same : (k j : ℕ) (s : S) (text : List ℕ) → length text ≤ k → length text ≤ j → list.item k s text ≡ list.item j s text
  pub shorter : (k : ℕ) (s : S) (text : List ℕ) (a : A) (rest : List ℕ) → list.item k s text ≡ got a rest →
      length rest < length text
  pub item_more : (k j : ℕ) (s : S) (a : A) → k ≤ j → form.IsItem k s a → form.IsItem j s a
  pub item_fits : (k : ℕ) (s : S) (v : V) (vs : List V) → form.IsItem k s (form.lift v vs) →
      form.IsItem (length vs) s (form.lift v vs)
  pub stop_any : (k j : ℕ) (s : S) (e : E) → form.IsStop k s e → form.IsStop j s e
  pub item_text : (a : A) → 0 < length (spell (form.item_pieces a))

module _ {S A V E : Type 0} (list : ListReading S A V E) (form : ListForm S A V E) (unlimited : IsUnlimited list form) where
  abbrev items : ℕ → S → Answer A → Answer (Listing V E)
  items k s x = then_read x (λ a. list_at list k (list.next s a) >>= λ y. give (listing (list.view a ∷ y.0) (y.1)))

  same_turn : (turn : Turn) (text : List ℕ) (x y : Reading (Listing V E)) (stop : Reading (Listing V E)) → x text ≡ y text
      → by_turn turn x stop text ≡ by_turn turn y stop text
  unfolding either
  same_turn halt text x y stop same = refl
  same_turn go text x y stop same = same
  same_turn (look test) text x y stop same = rw same refl

  abbrev FuelSame : ℕ → ℕ → Type 0
  FuelSame k j = (s : S) (text : List ℕ) → length text ≤ k → length text ≤ j →
      list_at list (suc k) s text ≡ list_at list (suc j) s text

  abbrev LessFuelSame : ℕ → ℕ → Type 0
  LessFuelSame zero j = Unit {0}
  LessFuelSame (suc k) zero = Unit {0}
  LessFuelSame (suc k) (suc j) = FuelSame k j

  items_same : (k j : ℕ) (less : LessFuelSame k j) (s : S) (text : List ℕ) (x : Answer A) → length text ≤ k → length text ≤ j →
      list.item k s text ≡ x
      → items k s x ≡ items j s x
  unfolding followed
  items_same k j less s text (wrong left) hk hj is = refl
  items_same k j less s text (outside left) hk hj is = refl
  items_same zero j less s text (got a rest) hk hj is = absurd (omega (arith, unlimited.shorter zero s text a rest is))
  items_same (suc k) zero less s text (got a rest) hk hj is = absurd (omega (arith, unlimited.shorter (suc k) s text a rest is))
  items_same (suc k) (suc j) less s text (got a rest) hk hj is =
      let shorter = unlimited.shorter (suc k) s text a rest is in
      ap (λ (x : Answer (Listing V E)). then_read x (λ y. give (listing (list.view a ∷ y.0) (y.1))))
      (less (list.next s a) rest (omega arith) (omega arith))

  fuel_step : (k j : ℕ) (less : LessFuelSame k j) → FuelSame k j
  unfolding list_at followed
  fuel_step k j less s text hk hj =
      let goes_k : Reading (Listing V E) = list.item k s >>= λ a.
      (list_at list k (list.next s a) >>= λ x. give (listing (list.view a ∷ x.0) (x.1))) in
      let goes_j : Reading (Listing V E) = list.item j s >>= λ a.
      (list_at list j (list.next s a) >>= λ x. give (listing (list.view a ∷ x.0) (x.1))) in
      ap (λ (turn : Turn). by_turn turn goes_k (stopping list s) text) (unlimited.turn_same k j s)
      ∙ same_turn (list.turn j s) text goes_k goes_j (stopping list s)
      (items_same k j less s text (list.item k s text) hk hj refl ∙ ap (λ (x : Answer A). items j s x)
      (unlimited.item_same k j s text hk hj))

  -- more room than the text has characters makes no difference
  pub fuel_same : (k j : ℕ) → FuelSame k j
  fuel_same zero j = fuel_step zero j tt
  fuel_same (suc k) zero = fuel_step (suc k) zero tt
  fuel_same (suc k) (suc j) = fuel_step (suc k) (suc j) (fuel_same k j)

  listed_more : (k j : ℕ) (s : S) (vs : List V) (e : E) → k ≤ j → IsListed list form k s vs e → IsListed list form j s vs e
  listed_more zero zero s [] e le is = is
  listed_more zero (suc j) s [] e le is = unlimited.stop_any zero (suc j) s e is
  listed_more (suc k) zero s vs e le is = absurd (omega arith)
  listed_more (suc k) (suc j) s [] e le is = unlimited.stop_any (suc k) (suc j) s e is
  listed_more zero j s (v ∷ vs) e le is = absurd is
  listed_more (suc k) (suc j) s (v ∷ vs) e le is = (
    is.0,
    (
      unlimited.item_more k j s (form.lift v vs) (omega arith) is.1.0,
      listed_more k j (list.next s (form.lift v vs)) vs e (omega arith) is.1.1,
    ),
  )

  -- as many items as there are
  listed_fits : (k : ℕ) (s : S) (vs : List V) (e : E) → IsListed list form k s vs e → IsListed list form (length vs) s vs e
  listed_fits zero s [] e is = is
  listed_fits (suc k) s [] e is = unlimited.stop_any (suc k) zero s e is
  listed_fits zero s (v ∷ vs) e is = absurd is
  listed_fits (suc k) s (v ∷ vs) e is =
      (is.0, (unlimited.item_fits k s v vs is.1.0, listed_fits k (list.next s (form.lift v vs)) vs e is.1.1))

  length_items : (vs : List V) (e : E) → length vs ≤ length (spell (list_pieces form vs e))
  length_items [] e = omega arith
  length_items (v ∷ vs) e =
      let both = ap length (spell-append (form.item_pieces (form.lift v vs)) (list_pieces form vs e))
      ∙ length-append (spell (form.item_pieces (form.lift v vs))) (spell (list_pieces form vs e)) in
      omega (arith, both, length_items vs e, unlimited.item_text (form.lift v vs))

  -- a list of any length
  abbrev pub IsListedAt : S → Listing V E → Type 0
  IsListedAt s x = (k : ℕ) × IsListed list form (suc k) s (x.0) (x.1)

  abbrev pieces : Listing V E → List TextPiece
  pieces x = list_pieces form (x.0) (x.1)

  enough : (s : S) (x : Listing V E) (k : ℕ) → length (spell (pieces x)) ≤ k → IsListedAt s x →
      IsListed list form (suc k) s (x.0) (x.1)
  enough s x k le is = listed_more (length x.0) (suc k) s (x.0) (x.1) (omega (arith, length_items (x.0) (x.1)))
      (listed_fits (suc is.0) s (x.0) (x.1) is.1)

  any_more : (s : S) (x : Listing V E) (k : ℕ) → (is : IsListedAt s x) → is.0 ≤ k → IsListed list form (suc k) s (x.0) (x.1)
  any_more s x k is le = listed_more (suc is.0) (suc k) s (x.0) (x.1) (omega arith) is.1

  module _ (exact : IsExactList list form) (s : S) (ready : (k : ℕ) → form.IsReady (suc k) s) where
    part : (k : ℕ) → Exact (list_at list (suc k) s) (λ (x : Listing V E). IsListed list form (suc k) s (x.0) (x.1)) pieces
    part k = exact_list list form exact (suc k) s (ready k)

    all_apart : (v w : Listing V E) (t u : List ℕ) → IsListedAt s v → IsListedAt s w →
        spell (pieces v) ++ t ≡ spell (pieces w) ++ u → (v ≡ w) × (t ≡ u)
    all_apart v w t u one two e = (part (one.0 + two.0)).apart v w t u (any_more s v (one.0 + two.0) one (omega arith))
        (any_more s w (one.0 + two.0) two (omega arith)) e

    all_wrong : (text : List ℕ) (left : ℕ) → list_at list (suc (length text)) s text ≡ wrong left →
        Stuck (IsListedAt s) pieces text left
    all_wrong text left e =
        let p = (part (length text)).wrong_at text left e in
        record {
          prefix = p.prefix;
          rest = p.rest;
          parts = p.parts;
          count = p.count;
          value = p.value;
          more = p.more;
          shaped = (length text, p.shaped);
          begins = p.begins;
          ends = λ v after other shaped start is.
              let k : ℕ = length text + shaped.0 in
              let q = (part k).wrong_at text left (fuel_same k (length text) s text (omega arith) (omega arith) ∙ e) in
              let same = same_prefix p.prefix q.prefix p.rest q.rest (sym p.parts ∙ q.parts) (p.count ∙ sym q.count) in
              let P : List ℕ → Type 0 = λ rest. SameStart rest other in
              q.ends v after other (any_more s v k shaped (omega arith)) (subst P same.1 start)
              (is ∙ ap (λ (prefix : List ℕ). prefix ++ other) same.0);
        }

    all_outside : (text : List ℕ) (left : ℕ) → list_at list (suc (length text)) s text ≡ outside left →
        Outside (IsListedAt s) pieces text left
    all_outside text left e =
        let p = (part (length text)).outside_at text left e in
        record {
          value = p.value;
          shaped = (length text, p.shaped);
          before = p.before;
          low = p.low;
          high = p.high;
          n = p.n;
          after = p.after;
          tail = p.tail;
          split = p.split;
          within = p.within;
          beyond = p.beyond;
          parts = p.parts;
          past = p.past;
          count = p.count;
        }

    all_first_out : (text : List ℕ) (left : ℕ) → Outside (IsListedAt s) pieces text left →
        list_at list (suc (length text)) s text ≡ outside left
    all_first_out text left p =
        let k : ℕ = length text + p.shaped.0 in
        fuel_same (length text) k s text (omega arith) (omega arith)
        ∙ (part k).first_out text left (record {
          value = p.value;
          shaped = any_more s p.value k p.shaped (omega arith);
          before = p.before;
          low = p.low;
          high = p.high;
          n = p.n;
          after = p.after;
          tail = p.tail;
          split = p.split;
          within = p.within;
          beyond = p.beyond;
          parts = p.parts;
          past = p.past;
          count = p.count;
        })

    all_again : (v : Listing V E) (rest : List ℕ) → IsListedAt s v → AllWithin (pieces v)
        → list_at list (suc (length (spell (pieces v) ++ rest))) s (spell (pieces v) ++ rest) ≡ got v rest
    all_again v rest shaped within =
        let k : ℕ = length (spell (pieces v) ++ rest) in
        (part k).again v rest (enough s v k (omega (arith, length-append (spell (pieces v)) rest)) shaped) within

    pub exact_all : Exact (all_at list s) (IsListedAt s) pieces
    unfolding all_at
    exact_all = record {
      some = (part 0).some;
      some_shaped = (0, (part 0).some_shaped);
      apart = all_apart;
      takes = λ text v rest e. let p = (part (length text)).takes text v rest e in
          record { shaped = (length text, p.shaped); within = p.within; parts = p.parts };
      again = all_again;
      wrong_at = all_wrong;
      outside_at = all_outside;
      first_out = all_first_out;
    }
