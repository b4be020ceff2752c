-- The numbers of a demonstration: its table is read and fits its page, and its last section is the table's own.
use Rattle.std.proofs.Common.{◌≡◌, inr, ℕ, ◌-◌, ◌<◌, ◌≤◌, ◌^◌, List, [], length, get_or, take, Option, Some, None}
use Rattle.std.proofs.Common.{refl, sym, ap, subst, ◌∙◌, arith}
use Rattle.std.specs.Prelude.{IsSome, IsSomeAnd, IfOk, Result, Ok, Err}
use Rattle.std.specs.declared.alloc.AllocError.{AllocError}
use Rattle.std.proofs.lemmas.List.{get_or-take, length-take, take-take}
use Rattle.tl_base.specs.declared.breaking.Breaking.TheVariants.{Words}
use Rattle.tl_base.specs.declared.style.Style.TheVariants.{Plain}
use Rattle.tl_base.proofs.Options.{Some-same}
use Rattle.tl_cert.specs.declared.certificate.Certificate.{Certificate}
use Rattle.tl_cert.specs.declared.section.Section.{Section}
use Rattle.tl_demo.specs.Demo.{demo_text_of}
use Rattle.tl_demo.specs.Fits.{DemoFits, IsDemo}
use Rattle.tl_demo.specs.declared.laws.TheConstants.{DEMO_WIDTH}
use Rattle.tl_table.specs.declared.cell.Table.{Table, out-Table}
use Rattle.tl_table.specs.FewCells.{HasFewCells}
use Rattle.tl_table.specs.Least.{IsLeastWidth}
use Rattle.tl_table.specs.Sound.{IsSound}
use Rattle.tl_form.specs.Valid.{AreWhole, IsGood, IsValid}
use Rattle.tl_table.proofs.SameFits.{same_least}
use Rattle.tl_form.proofs.ValidLaws.{IsOwnLast, own_last}
use Rattle.tl_nested.specs.Searched.{AreSectionsOf, AreWritable}
use Rattle.tl_lay.specs.declared.limits.TheConstants.{DEMO_BUDGET}
use Rattle.tl_base.specs.declared.search.Search.TheVariants.{Best}
use Rattle.tl_read.specs.declared.reading.Reading.{Reading}
use Rattle.tl_read.specs.declared.reading.Reading.TheVariants as readings
use Rattle.tl_lay.specs.declared.summary.Summary.{Summary}
use Rattle.tl_lay.specs.Answers.{IsOutcomeOf}
use Rattle.tl_lay.specs.Demonstration.{before_last, IsDemonstrated, IsSummaryOf}
use Rattle.tl_read.specs.declared.source.Source.TheVariants.{Html}
use Rattle.tl_read.specs.Reading.{IsReading, AreSameReadings, IsSoundReading, table_in}
use Rattle.tl_narrow.specs.Certified.{certificate_of}
use Rattle.tl_lay.specs.inner.Summaries.{HasOwnNext, IsCountAfter}
use Rattle.tl_narrow.proofs.Certifying.{last_found, valid}

-- ---- the table

-- a table that is read of a number's text, and fits the page
abbrev pub IsDemoTable : ℕ → Table → Type 0
IsDemoTable number table = IsReading (Html Words) (demo_text_of number) (readings.Table table)
    × ((least : ℕ) → IsLeastWidth table Plain least → least ≤ DEMO_WIDTH)

-- the text of a number is read as a table, in whatever way it is read
pub demo_read : DemoFits → (number : ℕ) (bytes : List ℕ) (reading : Reading) → number < 2 ^ 32 → bytes ≡ demo_text_of number →
    IsReading (Html Words) bytes reading → ((other : Reading) → IsReading (Html Words) bytes other →
    AreSameReadings reading other) →
    IsSomeAnd (table_in reading) (IsDemoTable number)
demo_read law number bytes reading small same is only = by_reading reading
    (subst (λ (bs : List ℕ). IsReading (Html Words) bs reading) same is)
    (only (readings.Table demo.0) (subst (λ (bs : List ℕ). IsReading (Html Words) bs (readings.Table demo.0)) (sym same)
    spelled)) where
      demo : (table : Table) × IsDemo number table
      demo = law number small

      spelled : IsReading (Html Words) (demo_text_of number) (readings.Table demo.0)
      spelled = inr (demo.1.short, record { spells = demo.1.spelt; within = demo.1.within })

      by_reading : (reading : Reading) → IsReading (Html Words) (demo_text_of number) reading →
          AreSameReadings reading (readings.Table demo.0) →
          IsSomeAnd (table_in reading) (IsDemoTable number)
      by_reading (readings.Refused refusal) is alike = absurd alike
      by_reading (readings.Table table) is alike = (is, λ least least_is. narrow least least_is) where
        narrow : (least : ℕ) → IsLeastWidth table Plain least → least ≤ DEMO_WIDTH
        narrow least least_is =
            (same_least table demo.0 Plain least alike least_is).least DEMO_WIDTH demo.1.height demo.1.layout demo.1.fits

-- there is one, where one is such
pub some_there : {X : Type 0} (P : X → Type 0) (o : Option X) → IsSomeAnd o P → IsSome o
some_there P (Some x) is = refl
some_there P None is = absurd is

-- the table of a reading is sound where that is
pub sound_table : (reading : Reading) (table : Table) → table_in reading ≡ Some table → IsSoundReading reading →
    IsSound table × HasFewCells table
sound_table (readings.Table one) table is sound = subst (λ (t : Table). IsSound t × HasFewCells t) (Some-same is) sound
sound_table (readings.Refused refusal) table is sound = absurd (none is) where
  none : None ≡ Some table → ⊥
  none e = absurd cc

-- ---- the sections

abbrev pub demo_sections : Table → List Section → Type 0
demo_sections table sections = AreSectionsOf (IsOutcomeOf Best 1 DEMO_BUDGET) table Plain DEMO_WIDTH DEMO_BUDGET sections

module _ (table : Table) (sections : List Section) (are : demo_sections table sections) (can : AreWritable sections) where
  whole : AreWhole are.document DEMO_BUDGET sections
  whole = record { good = λ i d within. (are.each i d within).good; none = are.none }

  own : IsOwnLast are.document sections
  own = own_last are.document DEMO_BUDGET sections (omega (arith, are.of.numbers)) whole

  at : length sections - 1 ≡ own.n
  at = omega (arith, own.last)

  pub own_table : (d : Section) → (get_or sections (length sections - 1) d).table ≡ (out-Table table).number
  own_table d = ap (λ (n : ℕ). (get_or sections n d).table) at ∙ own.of d ∙ ap (λ (t : Table). (out-Table t).number) are.of.same

  pub own_width : (d : Section) → (get_or sections (length sections - 1) d).width ≡ DEMO_WIDTH
  own_width d = ap (λ (n : ℕ). (get_or sections n d).width) at ∙ own.whole d ∙ are.of.wide

  first : Section
  first = get_or sections 0 (record { table = 0; width = 0; height = 0; lower = 0; widths = []; trace = []; log = [] })

  -- the sections but the last are good, and the table's own is due next
  pub own_next : HasOwnNext table (before_last sections)
  own_next = record {
    document = are.document;
    of = are.of;
    good = λ i d within.
        let few : i < length sections - 1 = omega (arith, within, length-take (length sections - 1) sections) in
        subst (λ (s : Section). IsGood are.document DEMO_BUDGET (take i (before_last sections)) s)
        (sym (get_or-take (length sections - 1) sections i d few))
        (subst (λ (xs : List Section). IsGood are.document DEMO_BUDGET xs (get_or sections i d))
        (sym (take-take i (length sections - 1) sections (omega (arith, few))))
        (are.each i d (omega (arith, few))).good);
    next = (are.each (length sections - 1) first (omega (arith, can.some))).good.due
        ∙ ap (λ (due : _). Some due) (λ i. record { table = own_table first i; width = own_width first i });
  }

-- ---- the numbers

module _ (table : Table) (certificate : Certificate) (sections : List Section) (are : demo_sections table sections)
    (can : AreWritable sections)
    (wide : (least : ℕ) → IsLeastWidth table Plain least → least ≤ DEMO_WIDTH)
    (made : certificate ≡ certificate_of DEMO_WIDTH Plain DEMO_BUDGET sections) where
  abbrev pub of_sections : certificate.sections ≡ sections
  of_sections = ap (λ (c : Certificate). c.sections) made

  there : demo_sections table certificate.sections
  there = subst (demo_sections table) (sym of_sections) are

  writable_there : AreWritable certificate.sections
  writable_there = subst AreWritable (sym of_sections) can

  pub next_there : HasOwnNext table (before_last certificate.sections)
  next_there = own_next table certificate.sections there writable_there

  pub summary_made : (summary : Summary) (section : Section) (count : ℕ) →
      section ≡ get_or certificate.sections (length certificate.sections - 1) section →
      IsCountAfter table (before_last certificate.sections) count → summary.cells ≡ length (out-Table table).cells →
      summary.count ≡ count →
      summary.height ≡ section.height → summary.lower ≡ section.lower → summary.cuts ≡ length section.trace →
      IsSummaryOf table summary
  summary_made summary section count is counted cells counts height lower cuts = record {
    certificate = certificate;
    valid = subst (IsValid table Plain DEMO_WIDTH DEMO_BUDGET) (sym made)
        (valid (IsOutcomeOf Best 1 DEMO_BUDGET) table Plain DEMO_WIDTH DEMO_BUDGET sections are can wide);
    searched = there;
    section = section;
    last = last_found certificate.sections section (omega (arith, writable_there.some)) ∙ ap Some (sym is);
    problem = counted.problem;
    own = counted.own there.document there.of section
        (ap (λ (s : Section). s.table) is ∙ own_table table certificate.sections there writable_there section)
        (ap (λ (s : Section). s.width) is ∙ own_width table certificate.sections there writable_there section);
    cells = cells;
    count = counts ∙ counted.counted;
    height = height;
    lower = lower;
    cuts = cuts;
  }

-- the summary of a number's table
pub demonstrated : (number : ℕ) (table : Table) (result : Result Summary AllocError) →
    IsReading (Html Words) (demo_text_of number) (readings.Table table) →
    IfOk result (IsSummaryOf table) → IfOk result (IsDemonstrated number)
demonstrated number table (Ok summary) read is = record { table = table; read = read; numbers = is }
demonstrated number table (Err failed) read is = tt
