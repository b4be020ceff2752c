-- Reading the entries of a chain is exact.
use Rattle.std.proofs.Common.{◌≡◌, ℕ, suc, ◌+◌, ◌≤◌, ◌<◌, Bool, true, false, cond, eqb, ltb}
use Rattle.std.proofs.Common.{◌||◌, List, [], ◌∷◌, ◌++◌, inl, inr, length, refl, sym, ap, ◌∙◌, arith}
use Rattle.std.specs.Prelude.{Option, Some, None}
use Rattle.std.specs.Char.{is_ascii_digit}
use Rattle.std.specs.List.{AllByRecursion}
use Rattle.std.proofs.lemmas.Bool.{eqb-true, eqb-false, or_cases, or_right, ltb-true, lt-ltb}
use Rattle.std.proofs.lemmas.List.{length-append}
use Rattle.tl_base.specs.declared.chain.Entry.{Entry}
use Rattle.tl_base.specs.declared.limits.TheConstants.{MAX_CELLS}
use Rattle.tl_cert.specs.declared.limits.TheConstants.{MAX_TABLE}
use Rattle.tl_cert.specs.Pieces.{TextPiece, character, number, spell, numeral}
use Rattle.tl_cert.specs.Text.{space, entry_pieces, inner_pieces}
use Rattle.tl_cert.specs.inner.CertReading.{ends_item, inner_at, entry_at, entries_reading, entries_at}
use Rattle.tl_cert.specs.inner.reading.Readings.{got, Reading, followed, ◌>>=◌, give}
use Rattle.tl_cert.specs.inner.reading.Numbers.{number_reading}
use Rattle.tl_cert.specs.inner.reading.Lists.{Listing}
use Rattle.tl_cert.proofs.reading.Exact.{Exact}
use Rattle.tl_cert.proofs.reading.Same.{exact_same}
use Rattle.tl_cert.proofs.reading.NumeralDigits.{numeral_first}
use Rattle.tl_cert.proofs.reading.NumberReading.{IsRule, number_pieces, exact_number}
use Rattle.tl_cert.proofs.reading.ListExact.{ListForm, list_pieces, IsExactList}
use Rattle.tl_cert.proofs.reading.Unlimited.{IsUnlimited, exact_all}
use Rattle.tl_cert.proofs.text.Fields.{exact_part_then, exact_only, exact_made}
use Rattle.tl_cert.proofs.text.Items.{end_of, ends_by, end_is, item_rule, item_pieces, items_form, items_exact, items_to}
use Rattle.tl_cert.proofs.text.Items.{items_from}
use Rattle.tl_cert.proofs.text.SectionReading.{space_again}

-- one reading or another, by a test
exact_cond : {C : Type 0} (b : Bool) {one two : Reading C} (IsShaped : C → Type 0) (pieces : C → List TextPiece) →
    (b ≡ true → Exact one IsShaped pieces)
    → (b ≡ false → Exact two IsShaped pieces)
    → Exact (cond b one two) IsShaped pieces
exact_cond true IsShaped pieces first other = first refl
exact_cond false IsShaped pieces first other = other refl

-- what was read takes at least a character
pub shorter_by : {C : Type 0} {read : Reading C} {IsShaped : C → Type 0} {pieces : C → List TextPiece} →
    Exact read IsShaped pieces
    → ((v : C) → 0 < length (spell (pieces v)))
    → (text : List ℕ) (v : C) (rest : List ℕ) → read text ≡ got v rest → length rest < length text
shorter_by {pieces = pieces} exact some text v rest is =
    let p = exact.takes text v rest is in
    omega (arith, some v, ap length p.parts ∙ length-append (spell (pieces v)) rest)

entry_rule : (more : Bool) → IsRule (λ n. true) (λ n c. eqb c 58 || ends_item more c)
entry_rule more =
    let rule = item_rule more in
    record {
      some_end = λ n can. (58, refl);
      no_end = λ n e cannot ends. absurd cc;
      not_digit = λ n e ends. elim (or_cases (eqb e 58) (ends_item more e) ends)
          [ inl colon ↦ ap is_ascii_digit (eqb-true e 58 colon) | inr end ↦ rule.not_digit n e end ];
      longer = rule.longer;
    }

abbrev AnyEntry : Entry → Type 0
AnyEntry entry = Unit {0}

abbrev IsFlagged : Bool → Entry × Bool → Type 0
IsFlagged more a = AnyEntry (a.0) × (a.1 ≡ true → more ≡ true)

abbrev flag : Entry → Bool → Entry × Bool
flag entry more = (entry, more)

abbrev pair : ℕ → ℕ → ℕ × ℕ
pair n c = (n, c)

-- what ends the number of the cell
abbrev cell_end : Option ℕ → Bool → ℕ
cell_end None more = end_of more
cell_end (Some table) more = 58

abbrev inner_rest : Option ℕ → Bool → List TextPiece
inner_rest None more = []
inner_rest (Some table) more = number 0 MAX_TABLE table ∷ character (end_of more) ∷ []

abbrev table_of : Option ℕ → ℕ
table_of None = 0
table_of (Some table) = table

abbrev first_part : Entry × Bool → ℕ × ℕ
first_part a = pair (a.0.cell) (cell_end (a.0.inner) (a.1))

abbrev entry_rest : Entry × Bool → List TextPiece
entry_rest a = inner_rest (a.0.inner) (a.1)

colon_or_end : (more : Bool) (inner : Option ℕ) (goes_on : Bool) → (goes_on ≡ true → more ≡ true)
    → (eqb (cell_end inner goes_on) 58 || ends_item more (cell_end inner goes_on)) ≡ true
colon_or_end more None goes_on may = or_right _ _ (ends_by more goes_on may)
colon_or_end more (Some table) goes_on may = refl

entry_text : (inner : Option ℕ) (cell : ℕ) (more : Bool) → (number 0 MAX_CELLS cell ∷ inner_pieces inner) ++
    (character (end_of more) ∷ [])
    ≡ number_pieces 0 MAX_CELLS (pair cell (cell_end inner more)) ++ inner_rest inner more
entry_text None cell more = refl
entry_text (Some table) cell more = refl

no_colon : (more : Bool) → end_of more ≡ 58 → ⊥
no_colon true same = omega arith
no_colon false same = omega arith

inner_some : (inner : Option ℕ) (more : Bool) → cell_end inner more ≡ 58 → inner ≡ Some (table_of inner)
inner_some None more same = absurd (no_colon more same)
inner_some (Some table) more same = refl

inner_none : (inner : Option ℕ) (more : Bool) (c : ℕ) → cell_end inner more ≡ c → (c ≡ 58 → ⊥) →
    (inner ≡ None) × (end_of more ≡ c)
inner_none None more c same differ = (refl, same)
inner_none (Some table) more c same differ = absurd (differ (sym same))

module _ (more : Bool) (x : ℕ × ℕ) (allowed : (eqb (x.1) 58 || ends_item more (x.1)) ≡ true) where
  abbrev IsRest : Entry × Bool → Type 0
  IsRest a = IsFlagged more a × (first_part a ≡ x)

  some_again : (a : Entry × Bool) (c-is : x.1 ≡ 58) → IsRest a → (ends_item more (end_of (a.1)) ≡ true)
      × (a ≡ flag (record { cell = x.0; inner = Some (table_of (a.0.inner)) }) (eqb (end_of (a.1)) space))
  some_again a c-is is =
      let cell : a.0.cell ≡ x.0 = ap (λ (p : ℕ × ℕ). p.0) is.1 in
      let end : cell_end (a.0.inner) (a.1) ≡ x.1 = ap (λ (p : ℕ × ℕ). p.1) is.1 in
      let inner = inner_some (a.0.inner) (a.1) (end ∙ c-is) in
      let P : ℕ → Entry × Bool = λ k. flag (record { cell = k; inner = a.0.inner }) (a.1) in
      let Q : Option ℕ → Entry × Bool = λ o. flag (record { cell = x.0; inner = o }) (a.1) in
      let R : Bool → Entry × Bool = λ b. flag (record { cell = x.0; inner = Some (table_of (a.0.inner)) }) b in
      (ends_by more (a.1) is.0.1, ap P cell ∙ ap Q inner ∙ ap R (sym (space_again (a.1))))

  exact_some : x.1 ≡ 58 → Exact (number_reading 0 MAX_TABLE (λ n. true) (λ n d. ends_item more d) >>= λ y. give
      (flag (record { cell = x.0; inner = Some (y.0) }) (eqb (y.1) space))) IsRest entry_rest
  exact_some c-is =
      exact_made (λ (y : ℕ × ℕ). flag (record { cell = x.0; inner = Some (y.0) }) (eqb (y.1) space))
      (λ (a : Entry × Bool). pair (table_of (a.0.inner)) (end_of (a.1))) IsRest entry_rest
      (exact_number 0 MAX_TABLE (item_rule more))
      (λ a is. some_again a c-is is)
      (λ y is.
      let p = end_is more (y.1) is in
      (((tt, p.1), ap (pair (x.0)) (sym c-is)), ap (λ (c : ℕ). number 0 MAX_TABLE (y.0) ∷ character c ∷ []) (sym p.0)))

  exact_none : (x.1 ≡ 58 → ⊥) → Exact (give (flag (record { cell = x.0; inner = None }) (eqb (x.1) space))) IsRest entry_rest
  exact_none differ =
      let ends : ends_item more (x.1) ≡ true = end_only in
      let p = end_is more (x.1) ends in
      exact_same IsRest entry_rest
      (exact_only (flag (record { cell = x.0; inner = None }) (eqb (x.1) space)) IsRest ((tt, p.1), ap (pair (x.0)) (sym p.0))
      none_again)
      (λ a is. is) (λ a is. is) (λ a is. nothing a is)
    where
      end_only : ends_item more (x.1) ≡ true
      end_only = elim (or_cases (eqb (x.1) 58) (ends_item more (x.1)) allowed)
          [ inl colon ↦ absurd (differ (eqb-true (x.1) 58 colon)) | inr end ↦ end ]

      none_again : (a : Entry × Bool) → IsRest a → a ≡ flag (record { cell = x.0; inner = None }) (eqb (x.1) space)
      none_again a is =
          let cell : a.0.cell ≡ x.0 = ap (λ (p : ℕ × ℕ). p.0) is.1 in
          let end : cell_end (a.0.inner) (a.1) ≡ x.1 = ap (λ (p : ℕ × ℕ). p.1) is.1 in
          let q = inner_none (a.0.inner) (a.1) (x.1) end differ in
          let P : ℕ → Entry × Bool = λ k. flag (record { cell = k; inner = a.0.inner }) (a.1) in
          let Q : Option ℕ → Entry × Bool = λ o. flag (record { cell = x.0; inner = o }) (a.1) in
          let R : Bool → Entry × Bool = λ b. flag (record { cell = x.0; inner = None }) b in
          ap P cell ∙ ap Q q.0 ∙ ap R (sym (space_again (a.1)) ∙ ap (λ (c : ℕ). eqb c space) q.1)

      nothing : (a : Entry × Bool) → IsRest a → [] ≡ entry_rest a
      nothing a is =
          let end : cell_end (a.0.inner) (a.1) ≡ x.1 = ap (λ (p : ℕ × ℕ). p.1) is.1 in
          let q = inner_none (a.0.inner) (a.1) (x.1) end differ in
          ap (λ (o : Option ℕ). inner_rest o (a.1)) (sym q.0)

  exact_inner : Exact (inner_at more (x.0) (x.1)) IsRest entry_rest
  exact_inner = exact_cond (eqb (x.1) 58) IsRest entry_rest (λ colon. exact_some (eqb-true (x.1) 58 colon))
      (λ other. exact_none (eqb-false (x.1) 58 other))

exact_entry : (more : Bool) → Exact (entry_at more) (IsFlagged more) (item_pieces AnyEntry entry_pieces)
unfolding entry_at
exact_entry more =
    exact_part_then first_part (IsFlagged more) (item_pieces AnyEntry entry_pieces) (λ x a. entry_rest a)
    (exact_number 0 MAX_CELLS (entry_rule more))
    (λ x allowed. exact_inner more x allowed)
    (λ a is. (colon_or_end more (a.0.inner) (a.1) is.1, entry_text (a.0.inner) (a.0.cell) (a.1)))

-- ---- as many as there are

abbrev pub entries_form : ListForm Bool (Entry × Bool) Entry (Unit {0})
entries_form = items_form AnyEntry entry_pieces

abbrev entry_item : ℕ → Bool → Reading (Entry × Bool)
entry_item k more = entry_at (ltb 0 k)

entries_exact : IsExactList entries_reading entries_form
entries_exact = items_exact AnyEntry entry_pieces entry_item (λ k. exact_entry (ltb 0 k))

entry_length : (a : Entry × Bool) → 0 < length (spell (item_pieces AnyEntry entry_pieces a))
entry_length a =
    let p = numeral_first (a.0.cell) in
    let rest : List ℕ = spell (inner_pieces (a.0.inner) ++ (character (end_of (a.1)) ∷ [])) in
    let whole : length (numeral (a.0.cell) ++ rest) ≡ length (numeral (a.0.cell)) + length rest =
    length-append (numeral (a.0.cell)) rest in
    omega (arith, whole, ap length p.2)

-- where nothing is left to read it makes no difference whether another entry may follow
pub entry_same : (k : ℕ) (text : List ℕ) → length text ≤ k → entry_at (ltb 0 k) text ≡ entry_at true text
unfolding entry_at followed number_reading
entry_same k [] most = refl
entry_same k (c ∷ text) most = ap (λ (more : Bool). entry_at more (c ∷ text)) (lt-ltb 0 k (omega arith))

pub entries_unlimited : IsUnlimited entries_reading entries_form
entries_unlimited = record {
  turn_same = λ k j more. refl;
  item_same = λ k j more text hk hj. entry_same k text hk ∙ sym (entry_same j text hj);
  shorter = λ k more text a rest is. shorter_by (exact_entry (ltb 0 k)) entry_length text a rest is;
  item_more = item_more;
  item_fits = item_fits;
  stop_any = λ k j more e is. is;
  item_text = entry_length;
}
  where
    item_more : (k j : ℕ) (more : Bool) (a : Entry × Bool) → k ≤ j → entries_form.IsItem k more a → entries_form.IsItem j more a
    item_more k j true a le is = (tt, λ goes_on. lt-ltb 0 j (omega (arith, ltb-true 0 k (is.1 goes_on))))
    item_more k j false a le is = is

    item_fits : (k : ℕ) (more : Bool) (v : Entry) (vs : List Entry) → entries_form.IsItem k more (entries_form.lift v vs)
        → entries_form.IsItem (length vs) more (entries_form.lift v vs)
    item_fits k true v [] is = (tt, λ goes_on. absurd cc)
    item_fits k true v (w ∷ vs) is = (tt, λ goes_on. lt-ltb 0 (length (w ∷ vs)) (omega arith))
    item_fits k false v vs is = is

any_entries : (entries : List Entry) → AllByRecursion AnyEntry entries
any_entries [] = tt
any_entries (e ∷ entries) = (tt, any_entries entries)

abbrev pub entries_read : Listing Entry (Unit {0}) → List TextPiece
entries_read x = list_pieces entries_form (x.0) (x.1)

pub exact_entries : Exact entries_at (λ x. 1 ≤ length (x.0)) entries_read
exact_entries =
    exact_same (λ (x : Listing Entry (Unit {0})). 1 ≤ length (x.0)) entries_read
    (exact_all entries_reading entries_form entries_unlimited entries_exact true (λ k. tt))
    (λ x is. let p = items_to AnyEntry entry_pieces entry_item (suc is.0) (x.0) (x.1) is.1 in p.0)
    (λ x some. (
      length (x.0),
      items_from AnyEntry entry_pieces entry_item (suc (length (x.0))) (x.0) (x.1) some (omega arith)
          (any_entries (x.0)),
    ))
    (λ x is. refl)
