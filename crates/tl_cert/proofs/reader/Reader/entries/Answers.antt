use Rattle.std.proofs.Common.{◌≡◌, suc, Bool, true, ltb, length, refl, sym, ap, subst, ◌∙◌, arith}
use Rattle.std.proofs.lemmas.Result.{err_from_is_err_and}
use Rattle.tl_base.specs.declared.chain.Entry.{Entry}
use Rattle.tl_cert.specs.inner.CertReading.{entries_reading, entries_at, entry_at, more_turn}
use Rattle.tl_cert.specs.inner.Gives.{FailsBy}
use Rattle.tl_cert.specs.inner.reading.Readings.{Answer, got, give}
use Rattle.tl_cert.specs.inner.reading.Lists.{comes, all_at}
use Rattle.tl_cert.proofs.Loops.{Stops, stops_by, pushed_on, fails_on, stops_at, starts, refuel}
use Rattle.tl_cert.proofs.text.Entries.{entries_form, entries_unlimited, entry_same}
use Rattle.tl_cert.proofs.reader.Reader.entries.Goals as goal

abbrev pair : Entry → Bool → Entry × Bool
pair entry more = (entry, more)

pub entries-init : goal.entries-init
unfolding all_at
entries-init c = rw c.new-entries.ensures (starts entries_reading (suc (length c.args.self.now.rest.now))
    true c.args.self.now.rest.now)

pub returns-in_err-entry : goal.returns-in_err-entry
returns-in_err-entry c =
    let p = err_from_is_err_and c.from_residual.result c.from_residual.ensures.1 in
    let text = c.entries.self.rest.now in
    let come : comes (more_turn c.entries.more) text ≡ true = ap (λ more. comes (more_turn more) text) c.entries-test.true in
    let P : Answer (Entry × Bool) → Type 0 = FailsBy c.in_err-entry.field-0.0 in
    let failed : FailsBy c.in_err-entry.field-0.0 (entry_at (ltb 0 (length text)) text) =
    subst P (sym (entry_same (length text) text (omega arith))) c.in_err-entry.ensures in
    rw (p.1, p.2) (fails_on entries_reading c.in_err-entry.field-0.0 c.entries.entries (suc (length text)) (length text)
    c.entries.more text
    (entries_at c.args.self.now.rest.now) refl come failed c.entries.invariant)

pub entries-preserved : goal.entries-preserved
entries-preserved c =
    let text = c.entries.self.rest.now in
    let rest = c.entry.new.self.rest.now in
    let a : Entry × Bool = pair c.in_ok-entry.entry c.in_ok-entry.follows in
    let come : comes (more_turn c.entries.more) text ≡ true = ap (λ more. comes (more_turn more) text) c.entries-test.true in
    let read : entry_at (ltb 0 (length text)) text ≡ got a rest =
    entry_same (length text) text (omega arith) ∙ c.in_ok-entry.ensures in
    let shorter = entries_unlimited.shorter (length text) c.entries.more text a rest read in
    refuel entries_reading entries_form entries_unlimited c.push.new.self (length text) c.in_ok-entry.follows rest
    (entries_at c.args.self.now.rest.now) shorter
    (pushed_on entries_reading c.entries.entries c.push.new.self (suc (length text)) (length text)
    c.entries.more c.in_ok-entry.follows text
    a c.in_ok-entry.entry rest (entries_at c.args.self.now.rest.now)
    c.in_ok-push.ensures.ok refl refl refl come read c.entries.invariant)

pub entries-smaller : goal.entries-smaller
entries-smaller c =
    let text = c.entries.self.rest.now in
    let a : Entry × Bool = pair c.in_ok-entry.entry c.in_ok-entry.follows in
    entries_unlimited.shorter (length text) c.entries.more text a c.entry.new.self.rest.now
    (entry_same (length text) text (omega arith) ∙ c.in_ok-entry.ensures)

pub returns : goal.returns
unfolding give
returns c =
    let text = c.entries.self.rest.now in
    let room = suc (length text) in
    let stop : Stops entries_reading room c.entries.more text = stops_by entries_reading room c.entries.more text
    (λ j is. ap (λ more. comes (more_turn more) text) c.entries-test.false) in
    stops_at entries_reading c.entries.entries room c.entries.more text tt text (entries_at c.args.self.now.rest.now)
    stop refl c.entries.invariant
