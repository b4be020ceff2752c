-- The sections with the claim of the last are a valid certificate, and the page is that of its layout.
use Rattle.std.proofs.Common.{◌≡◌, ℕ, ◌≤◌, List, length, sym, ap, subst, ◌∙◌}
use Rattle.tl_base.specs.declared.limits.TheConstants.{MAX_COLUMNS}
use Rattle.tl_base.specs.Style.{gap_of, edges_of}
use Rattle.tl_base.specs.Sizes.{total}
use Rattle.tl_cert.specs.declared.certificate.Certificate.{Certificate}
use Rattle.tl_cert.specs.declared.certificate.Claim.{Claim}
use Rattle.tl_cert.specs.Text.{IsWritable}
use Rattle.tl_table.specs.Layouts.{Fits}
use Rattle.tl_form.specs.Named.{IsLastPlacement, IsNamed}
use Rattle.tl_form.specs.Valid.{IsValid}
use Rattle.tl_form.specs.ValidLaws.{HasHeight}
use Rattle.tl_nested.specs.Searched.{AreSectionsOf}
use Rattle.tl_lay.specs.Answers.{certificate_file, IsOutcomeOf, IsLaidAs, IsReadBack}
use Rattle.tl_lay.specs.Budgets.{budget_in}
use Rattle.tl_narrow.specs.Certified.{certificate_of, claim_of}
use Rattle.tl_lay.specs.inner.Claims.{answer_of}
use Rattle.tl_narrow.proofs.Certifying.{claimed_height, valid, writable}
use Rattle.tl_lay.proofs.Laying.{few_columns, answered}
use Rattle.tl_lay.proofs.Readable.{found_readable, read_back}
use Rattle.tl_lay.proofs.lowest.laid.Goals as goal

pub layout_with-requires-clause-written : goal.layout_with-requires-clause-written
layout_with-requires-clause-written g c =
    let task = c.args.task.now in
    subst IsWritable (sym c.requires.found.made)
    (writable (IsOutcomeOf task.search task.workers c.args.budget) c.args.table.now task.style task.width c.args.budget
    c.requires.found.sections
    c.requires.found.expected c.requires.found.writable c.requires.wide
    c.requires.usable.range.some c.requires.usable.range.narrow c.requires.usable.cuts)

pub layout_with-requires-clause-valid : goal.layout_with-requires-clause-valid
layout_with-requires-clause-valid g c =
    let task = c.args.task.now in
    subst (λ (made : Certificate). IsValid c.args.table.now task.style made.width made.budget made)
    (sym c.requires.found.made)
    (valid (IsOutcomeOf task.search task.workers c.args.budget) c.args.table.now task.style task.width c.args.budget c.requires.found.sections
    c.requires.found.expected c.requires.found.writable c.requires.wide)

pub layout_with-requires-clause-placed : goal.layout_with-requires-clause-placed
layout_with-requires-clause-placed g c =
    subst (λ (width : ℕ). IsLastPlacement c.args.table.now c.args.task.now.style width c.args.certificate.now.sections
    c.args.placed)
    (sym (ap (λ (made : Certificate). made.width) c.requires.found.made)) c.requires.placed

pub total_width-width-requires : goal.total_width-width-requires
total_width-width-requires g c =
    let is : c.args.certificate.now.claim ≡ claim_of c.requires.found.sections =
    ap (λ (made : Certificate). made.claim) c.requires.found.made in
    let task = c.args.task.now in
    let fits : (height : ℕ) → HasHeight (claim_of c.requires.found.sections) height →
    Fits c.args.table.now task.style task.width height c.in_ok-layout.layout =
    λ height high. subst (λ (width : ℕ). Fits c.args.table.now task.style width height c.in_ok-layout.layout)
    (ap (λ (made : Certificate). made.width) c.requires.found.made)
    (c.in_ok-layout.ensures.fits height (subst (λ (claim : Claim). HasHeight claim height) (sym is) high)) in
    let high = claimed_height (IsOutcomeOf task.search task.workers c.args.budget)
    c.args.table.now task.style task.width c.args.budget c.requires.found.sections
    c.requires.found.expected c.requires.found.writable c.requires.wide in
    subst (λ (widths : List ℕ). length widths ≤ MAX_COLUMNS) (sym c.as_slice.ensures)
    (few_columns c.args.table.now task.style task.width high.0 c.in_ok-layout.layout c.requires.usable.sound
    (fits high.0 high.2))

pub files-requires-clause-fits : goal.files-requires-clause-fits
files-requires-clause-fits g c κs within =
    let is : c.args.certificate.now.claim ≡ claim_of c.requires.found.sections =
    ap (λ (made : Certificate). made.claim) c.requires.found.made in
    let task = c.args.task.now in
    let fits : (height : ℕ) → HasHeight (claim_of c.requires.found.sections) height →
    Fits c.args.table.now task.style task.width height c.in_ok-layout.layout =
    λ height high. subst (λ (width : ℕ). Fits c.args.table.now task.style width height c.in_ok-layout.layout)
    (ap (λ (made : Certificate). made.width) c.requires.found.made)
    (c.in_ok-layout.ensures.fits height (subst (λ (claim : Claim). HasHeight claim height) (sym is) high)) in
    let high = claimed_height (IsOutcomeOf task.search task.workers c.args.budget)
    c.args.table.now task.style task.width c.args.budget c.requires.found.sections
    c.requires.found.expected c.requires.found.writable c.requires.wide in
    (task.width, high.0, c.requires.usable.range.narrow, high.1, fits high.0 high.2)

pub files-requires-clause-readable : goal.files-requires-clause-readable
files-requires-clause-readable g c κs within =
    found_readable c.args.task.now c.args.table.now c.args.budget c.requires.usable c.requires.wide c.args.certificate.now
    c.requires.found

pub returns-clause-laid : goal.returns-clause-laid
returns-clause-laid g c =
    let is : c.args.certificate.now.claim ≡ claim_of c.requires.found.sections =
    ap (λ (made : Certificate). made.claim) c.requires.found.made in
    let task = c.args.task.now in
    let fits : (height : ℕ) → HasHeight (claim_of c.requires.found.sections) height →
    Fits c.args.table.now task.style task.width height c.in_ok-layout.layout =
    λ height high. subst (λ (width : ℕ). Fits c.args.table.now task.style width height c.in_ok-layout.layout)
    (ap (λ (made : Certificate). made.width) c.requires.found.made)
    (c.in_ok-layout.ensures.fits height (subst (λ (claim : Claim). HasHeight claim height) (sym is) high)) in
    let table = c.args.table.now in
    let sections = c.requires.found.sections in
    let made : c.args.certificate.now ≡ certificate_of task.width task.style (budget_in task table) sections =
    c.requires.found.made ∙ ap (λ (b : ℕ). certificate_of task.width task.style b sections) c.requires.usable.of_task in
    subst (IsLaidAs task table)
    (sym (c.answer_of.ensures ∙ ap (λ (claim : Claim). answer_of task.width claim c.total_width-width.result c.in_ok-page.page
    c.in_ok-page.text) is))
    (answered task table sections
    (subst (λ (b : ℕ). AreSectionsOf (IsOutcomeOf task.search task.workers b) table task.style task.width b sections)
    c.requires.usable.of_task c.requires.found.expected)
    c.requires.found.writable c.requires.wide c.requires.usable.sound c.requires.usable.range.narrow
    (subst (λ (b : ℕ). b ≤ _) c.requires.usable.of_task c.requires.usable.cuts)
    c.in_ok-layout.layout c.total_width-width.result c.in_ok-page.page
    c.in_ok-page.text
    (subst (λ (one : Certificate). IsNamed table task.style one c.in_ok-layout.layout) made c.in_ok-layout.ensures.named)
    fits
    (c.total_width-width.ensures ∙ ap (total (gap_of task.style) (edges_of task.style)) c.as_slice.ensures)
    c.in_ok-page.ensures.page (
      c.in_ok-page.ensures.certificate ∙ ap (certificate_file task.certified) made,
      subst (IsReadBack task.certified) made (read_back task.certified c.args.certificate.now
          (found_readable task table c.args.budget c.requires.usable c.requires.wide c.args.certificate.now c.requires.found)),
    )
    c.lowest_is_least.ensures c.bounded_is_between.ensures c.budget_closes.ensures c.open_spends.ensures)
