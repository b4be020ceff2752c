use Rattle.std.proofs.Common.{◌≡◌, ℕ, ◌+◌, ◌-◌, Bool, false, length, refl, sym, ap, ◌∙◌, arith}
use Rattle.std.proofs.lemmas.Result.{err_from_is_err_and}
use Rattle.std.proofs.lemmas.List.{length_push}
use Rattle.tl_cert.specs.declared.areas.Areas.{Areas}
use Rattle.tl_cert.specs.declared.limits.TheConstants.{MAX_SECTIONS}
use Rattle.tl_cert.specs.Text.{log_has_area}
use Rattle.tl_cert.specs.inner.Areas.{for_part, after}
use Rattle.tl_cert.specs.inner.CertReading.{sections_reading, sections_at, section_at}
use Rattle.tl_cert.specs.inner.Gives.{FailsBy}
use Rattle.tl_cert.proofs.Loops.{Stops, stops_by, pushed_on, fails_on, stops_at, fails_at}
use Rattle.tl_cert.proofs.reader.Reader.sections.Goals as goal
use Rattle.tl_cert.proofs.reader.Reader.sections.Goals.{then-sections-test+else-section_comes, else-sections-test}

abbrev state : Bool → Areas → Bool × Areas
state first areas = (first, areas)

pub returns-in_err-section : goal.returns-in_err-section
returns-in_err-section c =
    let p = err_from_is_err_and c.from_residual.result c.from_residual.ensures.1 in
    let prefix = c.sections.sections in
    let k = MAX_SECTIONS - 1 - c.len-in-sections.result in
    let asked : for_part k c.sections.asked ≡ c.for_part.result = sym c.for_part.ensures in
    let failed : FailsBy c.in_err-section.field-0.0 (section_at (for_part k c.sections.asked) c.sections.self.rest.now) =
    rw asked c.in_err-section.ensures in
    rw (p.1, p.2) (fails_on sections_reading c.in_err-section.field-0.0 prefix (MAX_SECTIONS - length prefix) k
    (state c.sections.first c.sections.asked) c.sections.self.rest.now
    (sections_at c.args.areas c.args.self.now.rest.now) (omega arith) (cc) failed c.sections.invariant.whole)

pub sections-preserved : goal.sections-preserved
sections-preserved c =
    let prefix = c.sections.sections in
    let section = c.in_ok-section.section in
    let grown : length c.push.new.self ≡ length prefix + 1 = ap length c.in_ok-push.ensures.ok ∙ length_push prefix section in
    let k = MAX_SECTIONS - length c.push.new.self in
    let asked : for_part k c.sections.asked ≡ c.for_part.result =
    ap (λ (j : ℕ). for_part j c.sections.asked) (omega (arith, grown)) ∙ sym c.for_part.ensures in
    let next : state false (after c.sections.asked c.has_area.result) ≡ state false c.after-asked.result =
    ap (state false) (sym c.after-asked.ensures) in
    record {
      whole = pushed_on sections_reading prefix c.push.new.self (MAX_SECTIONS - length prefix) k
          (state c.sections.first c.sections.asked)
          (state false c.after-asked.result) c.sections.self.rest.now
          section section c.section.new.self.rest.now (sections_at c.args.areas c.args.self.now.rest.now)
          c.in_ok-push.ensures.ok refl
          (ap (λ (has : Bool). state false (after c.sections.asked has))
          (ap log_has_area (sym c.as_slice.ensures) ∙ sym c.has_area.ensures) ∙ next)
          (omega (arith, grown)) (cc)
          (ap (λ (areas : Areas). section_at areas c.sections.self.rest.now) asked ∙ c.in_ok-section.ensures)
          c.sections.invariant.whole;
      room = omega (arith, grown);
    }

pub returns-in_err-word : goal.returns-in_err-word
returns-in_err-word c =
    let p = err_from_is_err_and c.from_residual-in_err-word.result c.from_residual-in_err-word.ensures.1 in
    let prefix = c.sections.sections in
    let room = MAX_SECTIONS - length prefix in
    let now = state c.sections.first c.sections.asked in
    let stop : Stops sections_reading room now c.sections.self.rest.now =
    stops_by sections_reading room now c.sections.self.rest.now
    (λ j is. elim c.sections-test.branch [
      | then-sections-test+else-section_comes w ↦ cc
      | else-sections-test w ↦ absurd
          (omega arith)
    ]) in
    rw (p.1, p.2) (fails_at sections_reading c.in_err-word.field-0.0 prefix room now c.sections.self.rest.now
    (sections_at c.args.areas c.args.self.now.rest.now) stop c.in_err-word.ensures c.sections.invariant.whole)

pub returns : goal.returns
returns c =
    let prefix = c.sections.sections in
    let room = MAX_SECTIONS - length prefix in
    let now = state c.sections.first c.sections.asked in
    let stop : Stops sections_reading room now c.sections.self.rest.now =
    stops_by sections_reading room now c.sections.self.rest.now
    (λ j is. elim c.sections-test.branch [
      | then-sections-test+else-section_comes w ↦ cc
      | else-sections-test w ↦ absurd
          (omega arith)
    ]) in
    stops_at sections_reading prefix room now c.sections.self.rest.now tt c.word.new.self.rest.now
    (sections_at c.args.areas c.args.self.now.rest.now) stop c.in_ok-word.ensures c.sections.invariant.whole
