-- What `lay` answers says that no page is lower.
use Rattle.std.proofs.Common.{◌≡◌, inl, inr, ℕ, zero, suc, ◌≤◌, true, Bool, List, Option, refl, sym, ap, subst, ◌∙◌, arith}
use Rattle.tl_base.specs.declared.breaking.Breaking.{Breaking}
use Rattle.tl_base.specs.declared.limits.TheConstants.{MAX_REACH}
use Rattle.tl_base.specs.declared.style.Style.{Style}
use Rattle.tl_cert.specs.declared.certificate.Certificate.{Certificate}
use Rattle.tl_cert.specs.declared.certificate.Claim.TheVariants as claims
use Rattle.tl_cert.specs.Text.{cert_text}
use Rattle.tl_table.specs.declared.cell.Table.{Table, out-Table}
use Rattle.tl_table.specs.declared.layout.Layout.{Layout, out-Layout}
use Rattle.tl_table.specs.Chains.{IsChain}
use Rattle.tl_table.specs.Layouts.{Fits, FitsWithin, total_height}
use Rattle.tl_table.specs.Sound.{IsSound}
use Rattle.tl_table.specs.Spellable.{IsSpellable}
use Rattle.tl_table.proofs.SoundBy.{sound_by}
use Rattle.tl_form.specs.Valid.{AreTooWide, IsShown}
use Rattle.tl_page.specs.declared.look.Look.{Look}
use Rattle.tl_page.specs.Pages.{IsPage}
use Rattle.tl_page.proofs.PageLaws.{as_high}
use Rattle.tl_page.proofs.Whole.{whole}
use Rattle.tl_html.proofs.Fitting.{fitting_columns}
use Rattle.tl_html.proofs.ReadsBack.{reads_back}
use Rattle.tl_read.specs.declared.reading.Reading.{Reading}
use Rattle.tl_read.specs.declared.reading.Reading.TheVariants as readings
use Rattle.tl_read.specs.declared.refusal.Refusal.{Refusal}
use Rattle.tl_read.specs.Reading.{IsReading, IsSoundReading, IsSpellableReading, breaking_in}
use Rattle.tl_read.proofs.Readings.{table_within}
use Rattle.tl_lay.specs.declared.answer.Answer.{Answer}
use Rattle.tl_lay.specs.declared.answer.Answer.TheVariants as answers
use Rattle.tl_lay.specs.declared.format.Format.{Format}
use Rattle.tl_lay.specs.declared.format.Format.TheVariants as formats
use Rattle.tl_lay.specs.declared.task.Task.{Task}
use Rattle.tl_lay.specs.Answers.{AreWholeLines, Certifies, IsAnswered, IsReadBack, look_of, certificate_file, IsLaidAs}
use Rattle.tl_lay.specs.Answers.{IsPageAt, IsPageFile, IsWholePage, IsWrittenNarrow}
use Rattle.tl_lay.specs.Answers.{bounded_laid, lowest_laid, narrow_laid}
use Rattle.tl_lay.specs.Budgets.{budget_in, reach}
use Rattle.tl_lay.specs.Inputs.{IsOfReading}
use Rattle.tl_lay.specs.Laws.{LaidIsLowest}
use Rattle.tl_lay.specs.Lowest.{FitsNone, IsPageOf, IsTableIn, Lays}

-- ---- the answer

-- what holds of refusals and of what a call makes of a table holds of its answer
pub says_of : (task : Task) (Own : Table → Answer → Type 0) (Says : Answer → Type 0) (bytes : List ℕ) (answer : Answer) →
    ((refusal : Refusal) → Says (answers.Refused refusal)) →
    ((table : Table) → IsTableIn task bytes table → IsSpellable (breaking_in task.source) table → reach task table ≤ MAX_REACH →
    Own table answer → Says answer) → IsAnswered task Own bytes answer → Says answer
says_of task Own Says bytes answer refused own of = by_reading of.reading of.read of.sound of.spellable of.so where
  by_reading : (reading : Reading) → IsReading task.source bytes reading → IsSoundReading reading →
      IsSpellableReading task.source reading →
      IsOfReading (reach task) (λ refusal. answer ≡ answers.Refused refusal) (λ table. Own table answer) reading → Says answer
  by_reading (readings.Refused refusal) read sound spellable same = subst Says (sym same) (refused refusal)
  by_reading (readings.Table table) read sound spellable (inl far) = subst Says (sym far.1) (refused _)
  by_reading (readings.Table table) read sound spellable (inr near) = own table
      (record { is_table = (table_within task.source bytes table read).1; sound = sound.0 }) spellable near.0 near.1

-- ---- the page

-- a layout that fits with this height is so high
fits_high : (table : Table) (style : Style) (width height : ℕ) (layout : Layout) → Fits table style width height layout →
    total_height style (out-Table table) (out-Layout layout) ≡ height
fits_high table style width height layout fits = by_depth fits.0 fits.1 where
  by_depth : (depth : ℕ) → FitsWithin depth style table width height layout →
      total_height style (out-Table table) (out-Layout layout) ≡ height
  by_depth zero fits = absurd fits
  by_depth (suc depth) fits = fits.high

-- the lines of a page of a sound table in a layout that fits have all its text
whole_lines : (look : Look) (table : Table) (width height : ℕ) (layout : Layout) (lines : List (List ℕ)) → IsSound table →
    Fits table look.style width height layout → IsPage look table layout lines → AreWholeLines look table height layout lines
whole_lines look table width height layout lines sound fits is = (
  is,
  (is.0, (whole is.0 look table layout lines width height sound fits is.1).holds),
  as_high look table layout lines is ∙ fits_high table look.style width height layout fits,
)

whole_page : (format : Format) (style : Style) (breaking : Breaking) (table : Table) (width height : ℕ) (layout : Layout)
    (page : List ℕ) → IsSound table → IsSpellable breaking table → Fits table style width height layout →
    IsPageFile format style table layout page → IsWholePage format style breaking table height layout page
whole_page (formats.Text align) style breaking table width height layout page sound spellable fits (lines, is, same) =
    (lines, whole_lines (look_of style align) table width height layout lines sound fits is, same)
whole_page (formats.Trimmed align) style breaking table width height layout page sound spellable fits (lines, is, same) =
    (lines, whole_lines (look_of style align) table width height layout lines sound fits is, same)
whole_page formats.Html style breaking table width height layout page sound spellable fits (same, is) = (
  is,
  reads_back table layout page is (sound_by breaking table sound spellable)
      (fitting_columns table style width height layout fits),
)

-- a page that is drawn is the whole page of the table
pub page_of : (task : Task) (table : Table) (width height taken : ℕ) (layout : Layout) (page : List ℕ) → IsSound table →
    IsSpellable (breaking_in task.source) table → IsPageAt task.format task.style table width height taken layout page →
    IsPageOf task table width height taken page
page_of task table width height taken layout page sound spellable is = record {
  layout = layout;
  fits = is.fits;
  wide = is.wide;
  whole = whole_page task.format task.style (breaking_in task.source) table width height layout page sound spellable is.fits is.is_page;
}

-- ---- the certificate of a page that is too narrow

-- a valid certificate that claims a least width has a chain that is as wide
chain_of : (table : Table) (style : Style) (page budget least : ℕ) (certificate : Certificate) →
    Certifies table style page budget (claims.Narrow least) certificate → IsChain table style certificate.chains least
chain_of table style page budget least certificate is =
    let document = is.valid.0 in
    let of = is.valid.1 in
    let shown : AreTooWide document certificate.chains least =
    subst (IsShown document budget certificate) is.claimed is.valid.2.shown in
    subst (λ (t : Table). IsChain t style certificate.chains least) of.same
    (subst (λ (s : Style). IsChain document.table s certificate.chains least) of.drawn shown.weighed)

-- what is too narrow for each layout of the table
pub fits_none : (task : Task) (table : Table) (least : ℕ) (text : Option (List ℕ)) →
    IsWrittenNarrow task table task.width (budget_in task table) least text → FitsNone task table least text
fits_none task table least text is = (
  is.is_least,
  λ wanted. (
    cert_text is.certificate,
    is.is_text.0 ∙ ap (λ (one : Bool). certificate_file one is.certificate) wanted,
    is.certificate,
    subst (λ (one : Bool). IsReadBack one is.certificate) wanted is.is_text.1,
    is.certifies.claimed,
    chain_of table task.style task.width (budget_in task table) least is.certificate is.certifies,
  ),
  λ height layout fits.
      let wide = is.is_least.least task.width height layout fits in
      let narrow = is.narrow in
      omega (arith, wide, narrow),
)

-- ---- what is said

lays_as : (task : Task) (bytes : List ℕ) (table : Table) → IsTableIn task bytes table →
    IsSpellable (breaking_in task.source) table → {answer : Answer} → IsLaidAs task table answer → Lays task bytes answer
lays_as task bytes table is_in spellable (lowest_laid {height} {taken} {page} {text} is) = (
  table,
  is_in,
  page_of task table task.width height taken is.written.layout page is_in.sound spellable is.written.is_page,
  is.least.least,
)
lays_as task bytes table is_in spellable (bounded_laid {height} {lower} {taken} {page} {text} is) = (
  table,
  is_in,
  page_of task table task.width height taken is.written.layout page is_in.sound spellable is.written.is_page,
  is.between.never_less,
  is.apart,
  is.below,
)
lays_as task bytes table is_in spellable (narrow_laid {least} {text} is) = (table, is_in, refl, fits_none task table least text is)

pub laid_is_lowest : LaidIsLowest
laid_is_lowest task bytes answer = says_of task (IsLaidAs task) (Lays task bytes) bytes answer (λ refusal. tt)
    (λ table is_in spellable near is. lays_as task bytes table is_in spellable is)
