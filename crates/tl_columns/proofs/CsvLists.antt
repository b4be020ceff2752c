-- The records of a file are all that a reader takes one after the other, each has a field, and they hold no more than the
-- file: each field counts the comma or the line end after it, and only the last one may have none.
use Rattle.std.proofs.Common.{◌≡◌, ℕ, zero, suc, ◌+◌, ◌<◌, ◌≤◌, ◌==◌, Bool, true, false, Option, Some, None}
use Rattle.std.proofs.Common.{List, [], ◌∷◌, ◌++◌, length, sum_by, unwrap_or, refl, sym, ap, subst, arith, length-append}
use Rattle.std.proofs.Common.{◌&&◌, if◌then◌else◌}
use Rattle.std.specs.List.{All}
use Rattle.std.proofs.lemmas.List.Elements.{All-cons, All-head, All-nil, All-tail}
use Rattle.std.proofs.lemmas.List.Sums.{sum_by-cons, sum_by-append, sum_by-le-sum_by}
use Rattle.csv.specs.Machine.{Read, after_end, carriage_return, ends_at_end, ends_with, field_after, fields_after, in_field}
use Rattle.csv.specs.Machine.{is_byte, is_end, line_feed, next_record, start_field, start_record, step}
use Rattle.csv.specs.Reading.{AreRecords, Reached, default_config, is_bom, records_from, records_next, strip_bom}
use Rattle.csv.specs.declared.parser.Action.{Action}
use Rattle.csv.specs.declared.parser.Action.TheVariants as act
use Rattle.csv.specs.declared.parser.Config.{Config}
use Rattle.csv.specs.declared.parser.State.{State}
use Rattle.csv.specs.declared.parser.State.TheVariants as st
use Rattle.csv.specs.declared.parser.Terminator.{Terminator}
use Rattle.csv.specs.declared.parser.Terminator.TheVariants as term
use Rattle.tl_columns.specs.Records.{Fields, csv_records, field_count}
use Rattle.tl_base.specs.declared.limits.TheConstants.{MAX_FILE_BYTES}
use Rattle.tl_columns.specs.inner.Sizes.{record_size, AreOfFile}

-- ---- one record

-- the bytes that are left, and 1 where the end of the text may end a record
abbrev left_size : List ℕ → ℕ
left_size [] = 0
left_size (c ∷ cs) = length cs + 2

left_small : (cs : List ℕ) → left_size cs ≤ length cs + 1
left_small [] = omega arith
left_small (c ∷ cs) = omega arith

one_more : (fields : Fields) (field : List ℕ) → record_size (fields ++ field ∷ []) ≡ record_size fields + length field + 1
one_more fields field = omega (
  arith,
  sum_by-append (λ (one : List ℕ). length one + 1) fields (field ∷ []),
  sum_by-cons (λ (one : List ℕ). length one + 1) field [],
)

-- a byte makes a record greater by 1 at most
byte_size : (a : Action) (c : ℕ) (fields : Fields) (field : List ℕ) →
    record_size (fields_after a fields field) + length (field_after a c field) ≤ record_size fields + length field + 1
byte_size act.Skip c fields field = omega arith
byte_size act.Copy c fields field = omega (arith, length-append field (c ∷ []))
byte_size act.EndField c fields field = omega (arith, one_more fields field)
byte_size act.EndRecord c fields field = omega (arith, one_more fields field)

-- a record holds no more than the bytes that it is read of
read_size : (cfg : Config) (s : State) (fields : Fields) (field xs : List ℕ) (p : Read) →
    next_record cfg s fields field xs ≡ Some p →
    record_size p.0 + left_size p.2 ≤ record_size fields + length field + 1 + length xs
unfolding next_record
read_size cfg s fields field [] p is = by (ends_at_end s) is
  where
    by : (b : Bool) → (if b then Some (fields ++ field ∷ [], st.StartRecord, []) else None) ≡ Some p →
        record_size p.0 + left_size p.2 ≤ record_size fields + length field + 1 + 0
    by true is =
        let same : (fields ++ field ∷ [], st.StartRecord, []) ≡ p =
        ap (λ (o : Option Read). unwrap_or o (fields ++ field ∷ [], st.StartRecord, [])) is in
        subst (λ (r : Read). record_size r.0 + left_size r.2 ≤ record_size fields + length field + 1 + 0) same
        (omega (arith, one_more fields field))
    by false is = cc is
read_size cfg s fields field (c ∷ xs) p is =
    by (is_end a) refl is
    (read_size cfg (step cfg s c).0 (fields_after a fields field) (field_after a c field) xs p)
  where
    a : Action
    a = (step cfg s c).1

    by : (b : Bool) → is_end a ≡ b → (if b then Some (fields_after a fields field, (step cfg s c).0, xs)
        else next_record cfg (step cfg s c).0 (fields_after a fields field) (field_after a c field) xs) ≡ Some p →
        (next_record cfg (step cfg s c).0 (fields_after a fields field) (field_after a c field) xs ≡ Some p →
        record_size p.0 + left_size p.2 ≤ record_size (fields_after a fields field) + length (field_after a c field) + 1
        + length xs) →
        record_size p.0 + left_size p.2 ≤ record_size fields + length field + 1 + length (c ∷ xs)
    by true ends is later =
        let same : (fields_after a fields field, (step cfg s c).0, xs) ≡ p =
        ap (λ (o : Option Read). unwrap_or o (fields_after a fields field, (step cfg s c).0, xs)) is in
        subst (λ (r : Read). record_size r.0 + left_size r.2 ≤ record_size fields + length field + 1 + length (c ∷ xs)) same
        (omega (arith, byte_size a c fields field, left_small xs))
    by false goes is later = omega (arith, byte_size a c fields field, later is)

-- a record has a field
read_some : (cfg : Config) (s : State) (fields : Fields) (field xs : List ℕ) (p : Read) →
    next_record cfg s fields field xs ≡ Some p → 0 < length p.0
unfolding next_record
read_some cfg s fields field [] p is = by (ends_at_end s) is
  where
    by : (b : Bool) → (if b then Some (fields ++ field ∷ [], st.StartRecord, []) else None) ≡ Some p → 0 < length p.0
    by true is =
        subst (λ (r : Read). 0 < length r.0)
        (ap (λ (o : Option Read). unwrap_or o (fields ++ field ∷ [], st.StartRecord, [])) is)
        (omega (arith, length-append fields (field ∷ [])))
    by false is = cc is
read_some cfg s fields field (c ∷ xs) p is =
    by a refl is (read_some cfg (step cfg s c).0 (fields_after a fields field) (field_after a c field) xs p)
  where
    a : Action
    a = (step cfg s c).1

    by : (b : Action) → a ≡ b → (if is_end b then Some (fields_after b fields field, (step cfg s c).0, xs)
        else next_record cfg (step cfg s c).0 (fields_after b fields field) (field_after b c field) xs) ≡ Some p →
        (next_record cfg (step cfg s c).0 (fields_after a fields field) (field_after a c field) xs ≡ Some p →
        0 < length p.0) → 0 < length p.0
    by act.EndRecord same is later =
        subst (λ (r : Read). 0 < length r.0)
        (ap (λ (o : Option Read). unwrap_or o (fields ++ field ∷ [], (step cfg s c).0, xs)) is)
        (omega (arith, length-append fields (field ∷ [])))
    by act.Skip same is later = later (rw same is)
    by act.Copy same is later = later (rw same is)
    by act.EndField same is later = later (rw same is)

-- ---- between two records the end of the text ends no record

-- where this ends a record, the next one begins
abbrev Ends : State × Action → Type 0
Ends q = is_end q.1 ≡ true → ends_at_end q.0 ≡ false

either : (b : Bool) (x y : State × Action) → Ends x → Ends y → Ends (if b then x else y)
either true x y first second = first
either false x y first second = second

after_end_starts : (t : Terminator) (c : ℕ) → ends_at_end (after_end t c) ≡ false
after_end_starts term.CRLF c = by (c == carriage_return)
  where
    by : (b : Bool) → ends_at_end (if b then st.AfterCr else st.StartRecord) ≡ false
    by true = refl
    by false = refl
after_end_starts (term.Any t) c = refl

in_field_ends : (cfg : Config) (c : ℕ) → Ends (in_field cfg c)
in_field_ends cfg c =
    either (c == cfg.delimiter) (st.StartField, act.EndField)
    (if ends_with cfg.terminator c then (after_end cfg.terminator c, act.EndRecord) else (st.InField, act.Copy))
    (λ e. cc)
    (either (ends_with cfg.terminator c) (after_end cfg.terminator c, act.EndRecord) (st.InField, act.Copy)
    (λ e. after_end_starts cfg.terminator c) (λ e. cc))

start_field_ends : (cfg : Config) (c : ℕ) → Ends (start_field cfg c)
start_field_ends cfg c = by_quote (cfg.quoting) (c == cfg.quote)
  where
    by_quote : (p q : Bool) → Ends (if (p && q) then (st.InQuoted, act.Skip) else in_field cfg c)
    by_quote p q = either (p && q) (st.InQuoted, act.Skip) (in_field cfg c) (λ e. cc) (in_field_ends cfg c)

start_record_ends : (cfg : Config) (c : ℕ) → Ends (start_record cfg c)
start_record_ends cfg c =
    either (ends_with cfg.terminator c) (st.StartRecord, act.Skip)
    (if is_byte cfg.comment c then (st.InComment, act.Skip) else start_field cfg c) (λ e. cc)
    (either (is_byte cfg.comment c) (st.InComment, act.Skip) (start_field cfg c) (λ e. cc) (start_field_ends cfg c))

step_ends : (cfg : Config) (s : State) (c : ℕ) → Ends (step cfg s c)
step_ends cfg st.StartRecord c = start_record_ends cfg c
step_ends cfg st.StartField c = start_field_ends cfg c
step_ends cfg st.InField c = in_field_ends cfg c
step_ends cfg st.InQuoted c =
    either (cfg.quoting && (c == cfg.quote)) (st.AfterQuote, act.Skip)
    (if cfg.quoting && is_byte cfg.escape c then (st.InEscape, act.Skip) else (st.InQuoted, act.Copy)) (λ e. cc)
    (either (cfg.quoting && is_byte cfg.escape c) (st.InEscape, act.Skip) (st.InQuoted, act.Copy) (λ e. cc) (λ e. cc))
step_ends cfg st.InEscape c = λ e. cc
step_ends cfg st.AfterQuote c =
    either (cfg.quoting && cfg.double_quote && (c == cfg.quote)) (st.InQuoted, act.Copy) (in_field cfg c) (λ e. cc)
    (in_field_ends cfg c)
step_ends cfg st.InComment c =
    either (c == line_feed) (st.StartRecord, act.Skip) (st.InComment, act.Skip) (λ e. cc) (λ e. cc)
step_ends cfg st.AfterCr c =
    either (c == line_feed) (st.StartRecord, act.Skip) (start_record cfg c) (λ e. cc) (start_record_ends cfg c)

read_starts : (cfg : Config) (s : State) (fields : Fields) (field xs : List ℕ) (p : Read) →
    next_record cfg s fields field xs ≡ Some p → ends_at_end p.1 ≡ false
unfolding next_record
read_starts cfg s fields field [] p is = by (ends_at_end s) is
  where
    by : (b : Bool) → (if b then Some (fields ++ field ∷ [], st.StartRecord, []) else None) ≡ Some p →
        ends_at_end p.1 ≡ false
    by true is =
        subst (λ (r : Read). ends_at_end r.1 ≡ false)
        (ap (λ (o : Option Read). unwrap_or o (fields ++ field ∷ [], st.StartRecord, [])) is) refl
    by false is = cc is
read_starts cfg s fields field (c ∷ xs) p is =
    by (is_end a) refl is (read_starts cfg (step cfg s c).0 (fields_after a fields field) (field_after a c field) xs p)
  where
    a : Action
    a = (step cfg s c).1

    by : (b : Bool) → is_end a ≡ b → (if b then Some (fields_after a fields field, (step cfg s c).0, xs)
        else next_record cfg (step cfg s c).0 (fields_after a fields field) (field_after a c field) xs) ≡ Some p →
        (next_record cfg (step cfg s c).0 (fields_after a fields field) (field_after a c field) xs ≡ Some p →
        ends_at_end p.1 ≡ false) → ends_at_end p.1 ≡ false
    by true ends is later =
        subst (λ (r : Read). ends_at_end r.1 ≡ false)
        (ap (λ (o : Option Read). unwrap_or o (fields_after a fields field, (step cfg s c).0, xs)) is)
        (step_ends cfg s c ends)
    by false goes is later = later is

-- ---- all records

sizes_from : (cfg : Config) (n : ℕ) (s : State) (xs : List ℕ) → ends_at_end s ≡ false →
    sum_by record_size (records_from cfg n s xs) ≤ left_size xs
unfolding records_from next_record
sizes_from cfg zero s xs start = omega arith
sizes_from cfg (suc n) s [] start = rw start (omega arith)
sizes_from cfg (suc n) s (c ∷ xs) start =
    by (next_record cfg s [] [] (c ∷ xs)) refl (λ q starts. sizes_from cfg n q.1 q.2 starts)
  where
    by : (o : Option Read) → next_record cfg s [] [] (c ∷ xs) ≡ o →
        ((q : Read) → ends_at_end q.1 ≡ false → sum_by record_size (records_from cfg n q.1 q.2) ≤ left_size q.2) →
        sum_by record_size (records_next (records_from cfg n) o) ≤ length xs + 2
    by None is later = omega arith
    by (Some p) is later = omega (
      arith,
      sum_by-cons record_size p.0 (records_from cfg n p.1 p.2),
      read_size cfg s [] [] (c ∷ xs) p is,
      later p (read_starts cfg s [] [] (c ∷ xs) p is),
    )

some_from : (cfg : Config) (n : ℕ) (s : State) (xs : List ℕ) →
    All (λ (fields : Fields). 0 < length fields) (records_from cfg n s xs)
unfolding records_from
some_from cfg zero s xs = All-nil (λ (fields : Fields). 0 < length fields)
some_from cfg (suc n) s xs = by (next_record cfg s [] [] xs) refl (λ q. some_from cfg n q.1 q.2)
  where
    by : (o : Option Read) → next_record cfg s [] [] xs ≡ o →
        ((q : Read) → All (λ (fields : Fields). 0 < length fields) (records_from cfg n q.1 q.2)) →
        All (λ (fields : Fields). 0 < length fields) (records_next (records_from cfg n) o)
    by None is later = All-nil (λ (fields : Fields). 0 < length fields)
    by (Some p) is later =
        All-cons (λ (fields : Fields). 0 < length fields) p.0 (records_from cfg n p.1 p.2)
        (read_some cfg s [] [] xs p is) (later p)

stripped_size : (bytes : List ℕ) → length (strip_bom bytes) ≤ length bytes
unfolding strip_bom
stripped_size [] = omega arith
stripped_size (a ∷ []) = omega arith
stripped_size (a ∷ b ∷ []) = omega arith
stripped_size (a ∷ b ∷ c ∷ rest) = by (is_bom a b c)
  where
    by : (m : Bool) → length (if m then rest else a ∷ b ∷ c ∷ rest) ≤ length (a ∷ b ∷ c ∷ rest)
    by true = omega arith
    by false = omega arith

pub records_size : (bytes : List ℕ) → sum_by record_size (csv_records bytes) ≤ length bytes + 1
unfolding csv_records
records_size bytes =
    let xs = strip_bom bytes in
    omega (
      arith,
      sizes_from default_config (length xs + 1) st.StartRecord xs refl,
      left_small xs,
      stripped_size bytes,
    )

pub records_some : (bytes : List ℕ) → All (λ (fields : Fields). 0 < length fields) (csv_records bytes)
unfolding csv_records
records_some bytes = some_from default_config (length (strip_bom bytes) + 1) st.StartRecord (strip_bom bytes)

-- ---- the records that were read, one after the other

some_size : (fields : Fields) → 0 < length fields → 0 < record_size fields
some_size [] some = absurd (omega (arith, some))
some_size (field ∷ fields) some = omega (arith, sum_by-cons (λ (one : List ℕ). length one + 1) field fields)

few_reached : (cfg : Config) (rows : List Fields) (s s2 : State) (xs ys : List ℕ) → ends_at_end s ≡ false →
    Reached cfg s xs rows s2 ys → length rows ≤ left_size xs
unfolding Reached next_record
few_reached cfg [] s s2 xs ys start reached = omega arith
few_reached cfg (row ∷ rows) s s2 [] ys start reached = absurd (cc (rw start at reached.1))
few_reached cfg (row ∷ rows) s s2 (c ∷ xs) ys start (p, is, same, rest) = omega (
  arith,
  few_reached cfg rows p.1 s2 p.2 ys (read_starts cfg s [] [] (c ∷ xs) p is) rest,
  read_size cfg s [] [] (c ∷ xs) p is,
  some_size p.0 (read_some cfg s [] [] (c ∷ xs) p is),
)

whole_from : (cfg : Config) (n : ℕ) (rows : List Fields) (s s2 : State) (xs ys : List ℕ) →
    Reached cfg s xs rows s2 ys → next_record cfg s2 [] [] ys ≡ None → length rows ≤ n → records_from cfg n s xs ≡ rows
unfolding Reached records_from
whole_from cfg zero [] s s2 xs ys reached none few = refl
whole_from cfg zero (row ∷ rows) s s2 xs ys reached none few = absurd (omega (arith, few))
whole_from cfg (suc n) [] s s2 xs ys reached none few = rw (reached.0, reached.1, none) refl
whole_from cfg (suc n) (row ∷ rows) s s2 xs ys (p, is, same, rest) none few =
    rw is (λ i. sym same i ∷ whole_from cfg n rows p.1 s2 p.2 ys rest none (omega (arith, few)) i)

-- all records that were read are the records of the file
pub all_records : (bytes : List ℕ) (rows : List Fields) → AreRecords default_config st.StartRecord (strip_bom bytes) rows →
    rows ≡ csv_records bytes
unfolding csv_records
all_records bytes rows (s2, ys, reached, none) =
    let xs = strip_bom bytes in
    sym (whole_from default_config (length xs + 1) rows st.StartRecord s2 xs ys reached none (omega (
      arith,
      few_reached default_config rows st.StartRecord s2 xs ys refl reached,
      left_small xs,
    )))

-- ---- counts

fields_few : (fields : Fields) → length fields ≤ record_size fields
fields_few [] = omega arith
fields_few (field ∷ fields) =
    omega (arith, fields_few fields, sum_by-cons (λ (one : List ℕ). length one + 1) field fields)

-- there are no more fields than the size of all records
pub few_fields : (all : List Fields) → field_count all ≤ sum_by record_size all
few_fields all = sum_by-le-sum_by length record_size all fields_few

-- there are no more records than the size of all
pub few_records : (all : List Fields) → All (λ fields. 0 < length fields) all → length all ≤ sum_by record_size all
few_records [] some = omega arith
few_records (fields ∷ all) some = omega (
  arith,
  few_records all (All-tail (λ (one : Fields). 0 < length one) fields all some),
  some_size fields (All-head (λ (one : Fields). 0 < length one) fields all some),
  sum_by-cons record_size fields all,
)

-- what a file of the greatest size may hold
pub of_file : (bytes : List ℕ) → length bytes ≤ MAX_FILE_BYTES → AreOfFile (csv_records bytes)
of_file bytes small = record { some = records_some bytes; size = omega (arith, records_size bytes, small) }
