-- Records have one result beside out of memory: their table, or one error.
use Rattle.std.proofs.Common.{◌≡◌, ◌≢◌, ◌∙◌, ◌⊎◌, Bool, ℕ, zero, suc, ◌+◌, ◌<◌, ◌≤◌, false, Option, Some, None, Result, Ok, Err}
use Rattle.std.proofs.Common.{List, [], ◌∷◌, length, take, inl, inr, IfOk, IfErr, IsSomeAnd, IsUtf8, unwrap_or, refl, sym}
use Rattle.std.proofs.Common.{ap, subst, slice_get, arith, alloc_error}
use Rattle.std.specs.List.{All, Any}
use Rattle.std.proofs.lemmas.Bool.{cases_lt, false≢true}
use Rattle.std.proofs.lemmas.List.Elements.{All-head, All-tail, All-take}
use Rattle.tl_base.specs.Returned.{IsMemoryOr, ReturnsError}
use Rattle.tl_base.specs.declared.breaking.Breaking.{Breaking}
use Rattle.tl_base.specs.declared.limits.TheConstants.{MAX_CELLS, MAX_COLUMNS, MAX_ROWS}
use Rattle.tl_table.specs.declared.cell.Table.{Table}
use Rattle.tl_columns.specs.declared.error.CsvError.{CsvError}
use Rattle.tl_columns.specs.declared.error.CsvError.TheVariants.{Memory, Uneven, NotUtf8, BadCharacter}
use Rattle.tl_columns.specs.declared.error.CsvError.TheVariants.{TooManyCells, TooManyColumns, TooManyRows}
use Rattle.tl_columns.specs.Columns.{IsCsvTable}
use Rattle.tl_columns.specs.Records.{Fields, column_count, field_count}
use Rattle.tl_columns.specs.Refused.{has_control, AreWellFormed, AreWithinLimits, IsCsvRefused, IsFault, IsFirstFault}
use Rattle.tl_columns.specs.Refused.{IsWellFormed, PassesLimit}

-- ---- one record

-- not all are UTF-8 where one is not
not_text : (fields : Fields) → All IsUtf8 fields → Any (λ field. ¬ (IsUtf8 field)) fields → ⊥
not_text fields all (k, field, within, is, bad) = bad (subst IsUtf8 is (all k field within))

never_both : (columns number : ℕ) (fields : Fields) (error : CsvError) → IsWellFormed columns fields →
    IsFault columns number fields error → ⊥
never_both columns number fields (Uneven at) good fault = fault.1 good.even
never_both columns number fields (NotUtf8 at) good fault = not_text fields good.utf8 fault.2
never_both columns number fields (BadCharacter at) good fault =
    let (k, field, within, is, bad) = fault.3 in
    false≢true (sym (subst (λ one. has_control one ≡ false) is (good.clean k field within)) ∙ bad)
never_both columns number fields (Memory error) good fault = fault
never_both columns number fields (TooManyCells count) good fault = fault
never_both columns number fields (TooManyColumns count) good fault = fault
never_both columns number fields (TooManyRows count) good fault = fault

-- which of three errors, and its cause
abbrev OneOf : CsvError → CsvError → CsvError → CsvError → Type 0 → Type 0 → Type 0 → Type 0
OneOf error first second third P Q R = ((error ≡ first) × P) ⊎ (((error ≡ second) × Q) ⊎ ((error ≡ third) × R))

one_of : (e d first second third : CsvError) (P Q R : Type 0) → (P → Q → ⊥) → (P → R → ⊥) → (Q → R → ⊥) →
    OneOf e first second third P Q R → OneOf d first second third P Q R → e ≡ d
one_of e d first second third P Q R pq pr qr (inl a) (inl b) = a.0 ∙ sym b.0
one_of e d first second third P Q R pq pr qr (inl a) (inr (inl b)) = absurd (pq a.1 b.1)
one_of e d first second third P Q R pq pr qr (inl a) (inr (inr b)) = absurd (pr a.1 b.1)
one_of e d first second third P Q R pq pr qr (inr (inl a)) (inl b) = absurd (pq b.1 a.1)
one_of e d first second third P Q R pq pr qr (inr (inl a)) (inr (inl b)) = a.0 ∙ sym b.0
one_of e d first second third P Q R pq pr qr (inr (inl a)) (inr (inr b)) = absurd (qr a.1 b.1)
one_of e d first second third P Q R pq pr qr (inr (inr a)) (inl b) = absurd (pr b.1 a.1)
one_of e d first second third P Q R pq pr qr (inr (inr a)) (inr (inl b)) = absurd (qr b.1 a.1)
one_of e d first second third P Q R pq pr qr (inr (inr a)) (inr (inr b)) = a.0 ∙ sym b.0

module _ (columns number : ℕ) (fields : Fields) where
  abbrev FaultOf : CsvError → Type 0
  FaultOf error = OneOf error (Uneven number) (NotUtf8 number) (BadCharacter number) (length fields ≢ columns)
      ((length fields ≡ columns) × Any (λ field. ¬ (IsUtf8 field)) fields) ((length fields ≡ columns) × All IsUtf8 fields)

  fault_of : (error : CsvError) → IsFault columns number fields error → FaultOf error
  fault_of (Uneven at) fault = inl (ap Uneven fault.0, fault.1)
  fault_of (NotUtf8 at) fault = inr (inl (ap NotUtf8 fault.0, (fault.1, fault.2)))
  fault_of (BadCharacter at) fault = inr (inr (ap BadCharacter fault.0, (fault.1, fault.2)))
  fault_of (Memory error) fault = absurd fault
  fault_of (TooManyCells count) fault = absurd fault
  fault_of (TooManyColumns count) fault = absurd fault
  fault_of (TooManyRows count) fault = absurd fault

  one_fault : (e d : CsvError) → IsFault columns number fields e → IsFault columns number fields d → e ≡ d
  one_fault e d first second =
      one_of e d (Uneven number) (NotUtf8 number) (BadCharacter number) (length fields ≢ columns)
      ((length fields ≡ columns) × Any (λ field. ¬ (IsUtf8 field)) fields) ((length fields ≡ columns) × All IsUtf8 fields)
      (λ uneven other. uneven other.0) (λ uneven other. uneven other.0) (λ bad text. not_text fields text.1 bad.1)
      (fault_of e first) (fault_of d second)

-- ---- the first record with a fault

found_at : (o : Option Fields) (P : Fields → Type 0) → IsSomeAnd o P → (fields : Fields) × (o ≡ Some fields) × P fields
found_at None P found = absurd found
found_at (Some fields) P found = (fields, refl, found)

-- what holds of the first `n` records holds of each of them
before_at : (P : Fields → Type 0) (all : List Fields) (n k : ℕ) (fields : Fields) → All P (take n all) → k < n →
    slice_get all k ≡ Some fields → P fields
before_at P [] n k fields each less is = cc is
before_at P (one ∷ all) zero k fields each less is = absurd (omega arith)
before_at P (one ∷ all) (suc n) zero fields each less is =
    subst P (ap (λ (o : Option Fields). unwrap_or o one) is) (All-head P one (take n all) each)
before_at P (one ∷ all) (suc n) (suc k) fields each less is =
    before_at P all n k fields (All-tail P one (take n all) each) (omega arith) is

never_first : (all : List Fields) (error : CsvError) → AreWellFormed all → IsFirstFault all error → ⊥
never_first all error good first =
    let (fields, is, fault) = found_at (slice_get all first.number)
    (λ fields. IsFault (column_count all) first.number fields error) first.found in
    never_both (column_count all) first.number fields error
    (before_at (IsWellFormed (column_count all)) all (first.number + 1) first.number fields
    (All-take (IsWellFormed (column_count all)) (first.number + 1) all good) (omega arith) is) fault

-- none comes before the first
not_before : (all : List Fields) (e d : CsvError) (first : IsFirstFault all e) (second : IsFirstFault all d) →
    first.number < second.number → ⊥
not_before all e d first second less =
    let (fields, is, fault) = found_at (slice_get all first.number)
    (λ fields. IsFault (column_count all) first.number fields e) first.found in
    never_both (column_count all) first.number fields e
    (before_at (IsWellFormed (column_count all)) all second.number first.number fields second.before less is) fault

one_first : (all : List Fields) (e d : CsvError) → IsFirstFault all e → IsFirstFault all d → e ≡ d
one_first all e d first second = by (cases_lt first.number second.number) (cases_lt second.number first.number)
  where
    by : (first.number < second.number) ⊎ (second.number ≤ first.number) →
        (second.number < first.number) ⊎ (first.number ≤ second.number) → e ≡ d
    by (inl less) other = absurd (not_before all e d first second less)
    by (inr least) (inl less) = absurd (not_before all d e second first less)
    by (inr least) (inr most) =
        let same : second.number ≡ first.number = omega (arith, least, most) in
        let (fields, is, fault) = found_at (slice_get all first.number)
        (λ fields. IsFault (column_count all) first.number fields e) first.found in
        let found = subst (λ n. IsSomeAnd (slice_get all n) (λ fields. IsFault (column_count all) n fields d)) same
        second.found in
        one_fault (column_count all) first.number fields e d fault
        (subst (λ (o : Option Fields). IsSomeAnd o (λ fields. IsFault (column_count all) first.number fields d)) is found)

-- ---- the limits

module _ (all : List Fields) where
  abbrev LimitOf : CsvError → Type 0
  LimitOf error = OneOf error (TooManyCells (field_count all)) (TooManyColumns (column_count all)) (TooManyRows (length all))
      (MAX_CELLS < field_count all) ((field_count all ≤ MAX_CELLS) × (MAX_COLUMNS < column_count all))
      ((field_count all ≤ MAX_CELLS) × (column_count all ≤ MAX_COLUMNS) × (MAX_ROWS < length all))

  limit_of : (error : CsvError) → PassesLimit all error → LimitOf error
  limit_of (TooManyCells count) (is, many) = inl (ap TooManyCells is, subst (λ n. MAX_CELLS < n) is many)
  limit_of (TooManyColumns count) (cells, is, many) =
      inr (inl (ap TooManyColumns is, (cells, subst (λ n. MAX_COLUMNS < n) is many)))
  limit_of (TooManyRows count) (cells, columns, is, many) =
      inr (inr (ap TooManyRows is, (cells, columns, subst (λ n. MAX_ROWS < n) is many)))
  limit_of (Memory error) passes = absurd passes
  limit_of (Uneven at) passes = absurd passes
  limit_of (NotUtf8 at) passes = absurd passes
  limit_of (BadCharacter at) passes = absurd passes

  one_limit : (e d : CsvError) → PassesLimit all e → PassesLimit all d → e ≡ d
  one_limit e d first second =
      one_of e d (TooManyCells (field_count all)) (TooManyColumns (column_count all)) (TooManyRows (length all))
      (MAX_CELLS < field_count all) ((field_count all ≤ MAX_CELLS) × (MAX_COLUMNS < column_count all))
      ((field_count all ≤ MAX_CELLS) × (column_count all ≤ MAX_COLUMNS) × (MAX_ROWS < length all))
      (λ many few. omega (arith, many, few.0)) (λ many few. omega (arith, many, few.0))
      (λ many few. omega (arith, many.1, few.1)) (limit_of e first) (limit_of d second)

  never_past : (error : CsvError) → AreWithinLimits all → PassesLimit all error → ⊥
  never_past error within passes = elim (limit_of error passes) [
    | inl cells ↦ omega (arith, within.few_cells, cells.1)
    | inr others ↦ elim others [
      | inl columns ↦ omega (arith, within.few_columns, columns.1.1)
      | inr rows ↦ omega (arith, within.few_rows, rows.1.2)
    ]
  ]

-- ---- the result

one_refused : (all : List Fields) (e d : CsvError) → IsCsvRefused all e → IsCsvRefused all d → e ≡ d
one_refused all e d (inl first) (inl second) = one_first all e d first second
one_refused all e d (inl first) (inr second) = absurd (never_first all e second.0 first)
one_refused all e d (inr first) (inl second) = absurd (never_first all d first.0 second)
one_refused all e d (inr first) (inr second) = one_limit all e d first.1 second.1

module _ (all : List Fields) (head : Bool) (floors : List ℕ) (breaking : Breaking) where
  -- records that have a table are not refused
  pub never_refused : (table : Table) (error : CsvError) → IsCsvTable all head floors breaking table →
      IsCsvRefused all error → ⊥
  never_refused table error is (inl first) = never_first all error is.well_formed first
  never_refused table error is (inr past) = never_past all error is.limits past.1

  pub each_error : (result : Result Table CsvError) → IfOk result (IsCsvTable all head floors breaking) →
      IfErr result (IsMemoryOr (Memory alloc_error) (IsCsvRefused all)) →
      (error : CsvError) → IsCsvRefused all error → ReturnsError (Memory alloc_error) error result
  each_error (Ok table) ok err error is = never_refused table error ok is
  each_error (Err found) ok err error is = elim err [
    | inl memory ↦ inl memory
    | inr why ↦ inr (one_refused all found error why is)
  ]
