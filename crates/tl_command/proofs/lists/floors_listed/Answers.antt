-- The numbers of which the argument is the list are those that have been read, and more.
use Rattle.std.proofs.Common.{ℕ, ◌+◌, List, length, sym, subst, ap, ◌∙◌, get_or, arith}
use Rattle.tl_base.specs.Number.{NumberStandsAt}
use Rattle.tl_command.proofs.ListLemmas.{HasReadFloors, none_follows, none_more, none_stands, one_more, past_within}
use Rattle.tl_command.proofs.lists.floors_listed.Goals as goal

pub returns-in_err-floor-clause-none : goal.returns-in_err-floor-clause-none
returns-in_err-floor-clause-none c = rw c.from_residual.ensures
    (none_stands c.args.word.now c.loop-bytes.floors c.loop-bytes.at c.loop-bytes.invariant (λ floor small stands.
    c.in_err-floor.ensures.none floor small (subst (λ (bs : List ℕ). NumberStandsAt bs c.loop-bytes.at floor)
    (sym c.as_bytes-bytes.ensures.value) stands)))

pub returns-then-bytes-past-ne44-clause-none : goal.returns-then-bytes-past-ne44-clause-none
returns-then-bytes-past-ne44-clause-none c =
    let word = c.args.word.now in
    let floor = c.in_ok-floor.floor in
    let past = c.in_ok-floor.past in
    let stands : NumberStandsAt word c.loop-bytes.at floor =
    subst (λ (bs : List ℕ). NumberStandsAt bs c.loop-bytes.at floor) c.as_bytes-bytes.ensures.value
    c.in_ok-floor.ensures.stands in
    let within = past_within word c.loop-bytes.at floor c.loop-bytes.invariant.within stands in
    none_follows word c.loop-bytes.floors c.loop-bytes.at c.loop-bytes.invariant floor past stands c.in_ok-floor.ensures.narrow
    c.in_ok-floor.ensures.past
    (omega (arith, within, c.in_ok-floor.ensures.past, c.if-past-bytes.false, ap length c.as_bytes-bytes.ensures.value))
    (λ e. c.if-bytes-past-ne44.true (ap (λ (bs : List ℕ). get_or bs past 0) c.as_bytes-bytes.ensures.value ∙ e))

pub loop-bytes-preserved : goal.loop-bytes-preserved
loop-bytes-preserved c =
    let word = c.args.word.now in
    let floor = c.in_ok-floor.floor in
    let past = c.in_ok-floor.past in
    let stands : NumberStandsAt word c.loop-bytes.at floor =
    subst (λ (bs : List ℕ). NumberStandsAt bs c.loop-bytes.at floor) c.as_bytes-bytes.ensures.value
    c.in_ok-floor.ensures.stands in
    let within = past_within word c.loop-bytes.at floor c.loop-bytes.invariant.within stands in
    subst (λ (floors : List ℕ). HasReadFloors word floors (past + 1)) (sym c.with-floors.ensures)
    (one_more word c.loop-bytes.floors c.loop-bytes.at c.loop-bytes.invariant floor past stands c.in_ok-floor.ensures.narrow
    c.in_ok-floor.ensures.past
    (omega (arith, within, c.in_ok-floor.ensures.past, c.if-past-bytes.false, ap length c.as_bytes-bytes.ensures.value))
    (sym (ap (λ (bs : List ℕ). get_or bs past 0) c.as_bytes-bytes.ensures.value) ∙ c.if-bytes-past-ne44.false)
    (omega (arith, c.loop-bytes-test.true)))

pub returns-clause-none : goal.returns-clause-none
returns-clause-none c =
    none_more c.args.word.now c.loop-bytes.floors c.loop-bytes.at c.loop-bytes.invariant (omega (arith, c.loop-bytes-test.false))
