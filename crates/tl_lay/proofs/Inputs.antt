-- The first bytes of a file are read as the file is, and what comes of them is decided by what they spell.
use Rattle.std.proofs.Common.{◌≡◌, ◌⊎◌, inl, inr, ℕ, ◌+◌, ◌<◌, ◌≤◌, List, length, take, sym, ap, subst, ◌∙◌}
use Rattle.std.proofs.Common.{arith}
use Rattle.std.proofs.lemmas.List.{take_all, length-take}
use Rattle.tl_base.specs.declared.limits.TheConstants.{MAX_FILE_BYTES, MAX_REACH}
use Rattle.tl_table.specs.declared.cell.Table.{Table}
use Rattle.tl_table.specs.Same.{AreSame}
use Rattle.tl_read.specs.declared.reading.Reading.{Reading}
use Rattle.tl_read.specs.declared.reading.Reading.TheVariants as readings
use Rattle.tl_read.specs.declared.refusal.Refusal.{Refusal}
use Rattle.tl_read.specs.declared.source.Source.{Source}
use Rattle.tl_read.specs.Reading.{IsReading, AreSameReadings}
use Rattle.tl_lay.specs.declared.input.Given.{Given}
use Rattle.tl_lay.specs.declared.input.Input.{Input}
use Rattle.tl_lay.specs.declared.input.Input.TheVariants as inputs
use Rattle.tl_lay.specs.declared.task.Task.{Task}
use Rattle.tl_lay.specs.Budgets.{budget_in, reach}
use Rattle.tl_lay.specs.Inputs.{GivesInput, IsOfReading, IsOfBytes}

-- ---- the first bytes of a file

-- a file is read as its first bytes are
pub long_same : (most : ℕ) (content bytes : List ℕ) → take (most + 1) content ≡ bytes → (length bytes ≤ most → bytes ≡ content)
    × (most < length bytes → most < length content) × (most < length content → most < length bytes)
long_same most content bytes is =
    let long = length-take (most + 1) content in
    let same = ap length is in (
      λ short. sym is ∙ take_all (most + 1) content (omega (arith, long, same, short)),
      λ more. omega (arith, long, same, more),
      λ more. omega (arith, long, same, more),
    )

-- what the first bytes are read as the content is
pub reading_of_content : (source : _) (content bytes : List ℕ) (reading : Reading) → take (MAX_FILE_BYTES + 1) content ≡ bytes →
    IsReading source bytes reading → IsReading source content reading
reading_of_content source content bytes reading is (inl long) = inl ((long_same MAX_FILE_BYTES content bytes is).1 long.0, long.1)
reading_of_content source content bytes reading is (inr short) =
    subst (λ (bs : List ℕ). IsReading source bs reading) ((long_same MAX_FILE_BYTES content bytes is).0 short.0) (inr short)

-- and the other way round
pub reading_from_content : (source : _) (content bytes : List ℕ) (reading : Reading) → take (MAX_FILE_BYTES + 1) content ≡ bytes →
    IsReading source content reading → IsReading source bytes reading
reading_from_content source content bytes reading is (inl long) =
    inl ((long_same MAX_FILE_BYTES content bytes is).2 long.0, long.1)
reading_from_content source content bytes reading is (inr short) =
    let few : length content ≤ MAX_FILE_BYTES + 1 = omega (arith, short.0) in
    subst (λ (bs : List ℕ). IsReading source bs reading) (sym (take_all (MAX_FILE_BYTES + 1) content few) ∙ is) (inr short)

-- ---- what comes of it

module _ (source : Source) (reach : Table → ℕ) (Refuses : Refusal → Type 0) (Own : Table → Type 0) where
  -- what comes of the first bytes comes of the content
  pub of_content : (content bytes : List ℕ) → take (MAX_FILE_BYTES + 1) content ≡ bytes →
      IsOfBytes source reach Refuses Own bytes →
      IsOfBytes source reach Refuses Own content
  of_content content bytes is of = record {
    reading = of.reading;
    read = reading_of_content source content bytes of.reading is of.read;
    only = λ other read. of.only other (reading_from_content source content bytes other is read);
    sound = of.sound;
    spellable = of.spellable;
    so = of.so;
  }

  -- where they spell a table within the reach, the command goes on with a table that is the same
  pub own_of : (bytes : List ℕ) (table : Table) → IsOfBytes source reach Refuses Own bytes →
      IsReading source bytes (readings.Table table) →
      ((one other : Table) → AreSame one other → reach one ≡ reach other) → reach table ≤ MAX_REACH →
      (found : Table) × AreSame found table × Own found
  own_of bytes table of read same near = by_reading of.reading (of.only (readings.Table table) read) of.so where
    by_reading : (reading : Reading) → AreSameReadings reading (readings.Table table) → IsOfReading reach Refuses Own reading →
        (found : Table) × AreSame found table × Own found
    by_reading (readings.Refused refusal) alike so = absurd alike
    by_reading (readings.Table found) alike (inl far) = absurd (omega (arith, far.0, near, same found table alike))
    by_reading (readings.Table found) alike (inr own) = (found, alike, own.1)

  -- where they are refused, that is what is passed on
  pub refusal_of : (bytes : List ℕ) (refusal : Refusal) → IsOfBytes source reach Refuses Own bytes →
      IsReading source bytes (readings.Refused refusal) → Refuses refusal
  refusal_of bytes refusal of read = by_reading of.reading (of.only (readings.Refused refusal) read) of.so where
    by_reading : (reading : Reading) → AreSameReadings reading (readings.Refused refusal) →
        IsOfReading reach Refuses Own reading →
        Refuses refusal
    by_reading (readings.Table table) alike so = absurd alike
    by_reading (readings.Refused found) alike so = subst Refuses alike so

-- what comes of bytes is so of whatever follows from its parts
pub of_bytes_mapped : (source : Source) (reach : Table → ℕ) (Refuses Passes : Refusal → Type 0) (Own Other : Table → Type 0) →
    ((refusal : Refusal) → Refuses refusal → Passes refusal) → ((table : Table) → Own table → Other table) → (bytes : List ℕ) →
    IsOfBytes source reach Refuses Own bytes → IsOfBytes source reach Passes Other bytes
of_bytes_mapped source reach Refuses Passes Own Other passed owned bytes of = record {
  reading = of.reading;
  read = of.read;
  only = of.only;
  sound = of.sound;
  spellable = of.spellable;
  so = by_reading of.reading of.so;
} where
  by_reading : (reading : Reading) → IsOfReading reach Refuses Own reading → IsOfReading reach Passes Other reading
  by_reading (readings.Refused refusal) so = passed refusal so
  by_reading (readings.Table table) (inl far) = inl (far.0, passed _ far.1)
  by_reading (readings.Table table) (inr own) = inr (own.0, owned table own.1)

-- where what comes of a table is the same for each, it is so, or the bytes are refused
pub own_or_refused : (source : Source) (reach : Table → ℕ) (Refuses : Refusal → Type 0) (Own : Type 0) (bytes : List ℕ) →
    IsOfBytes source reach Refuses (λ table. Own) bytes → Own ⊎ IsOfBytes source reach Refuses (λ table. ⊥) bytes
own_or_refused source reach Refuses Own bytes of = elim (by_reading of.reading of.so) [
  | inl own ↦ inl own
  | inr refused ↦ inr (record {
    reading = of.reading;
    read = of.read;
    only = of.only;
    sound = of.sound;
    spellable = of.spellable;
    so = refused;
  })
] where
  by_reading : (reading : Reading) → IsOfReading reach Refuses (λ table. Own) reading →
      Own ⊎ IsOfReading reach Refuses (λ table. ⊥) reading
  by_reading (readings.Refused refusal) so = inr so
  by_reading (readings.Table table) (inl far) = inr (inl far)
  by_reading (readings.Table table) (inr own) = inl own.1

-- ---- what bytes give

-- what holds of the table that is given comes of the bytes
pub of_given : (task : Task) (bytes : List ℕ) (input : Input) (given : Given) (Refuses : Refusal → Type 0) (Own : Table → Type 0) →
    GivesInput task bytes input → input ≡ inputs.Table given → Own given.table →
    IsOfBytes task.source (reach task) Refuses Own bytes
of_given task bytes input given Refuses Own gives is own = of_bytes_mapped task.source (reach task)
    (λ refusal. input ≡ inputs.Refused refusal) Refuses
    (λ table. input ≡ inputs.Table (record { table = table; budget = budget_in task table })) Own
    (λ refusal told. absurd (no_table refusal (sym is ∙ told)))
    (λ table told. subst Own (one_table table (sym is ∙ told)) own) bytes gives where
      no_table : (refusal : Refusal) → inputs.Table given ≡ inputs.Refused refusal → ⊥
      no_table refusal e = absurd cc

      one_table : (table : Table) → inputs.Table given ≡ inputs.Table (record { table = table; budget = budget_in task table }) →
          given.table ≡ table
      one_table table e = cc

-- and what holds of the refusal
pub of_refused : (task : Task) (bytes : List ℕ) (input : Input) (refusal : Refusal) (Refuses : Refusal → Type 0)
    (Own : Table → Type 0) → GivesInput task bytes input → input ≡ inputs.Refused refusal → Refuses refusal →
    IsOfBytes task.source (reach task) Refuses Own bytes
of_refused task bytes input refusal Refuses Own gives is refuses = of_bytes_mapped task.source (reach task)
    (λ other. input ≡ inputs.Refused other) Refuses
    (λ table. input ≡ inputs.Table (record { table = table; budget = budget_in task table })) Own
    (λ other told. subst Refuses (one_refusal other (sym is ∙ told)) refuses)
    (λ table told. absurd (no_refusal table (sym told ∙ is))) bytes gives where
      one_refusal : (other : Refusal) → inputs.Refused refusal ≡ inputs.Refused other → refusal ≡ other
      one_refusal other e = cc

      no_refusal : (table : Table) →
          inputs.Table (record { table = table; budget = budget_in task table }) ≡ inputs.Refused refusal → ⊥
      no_refusal table e = absurd cc
