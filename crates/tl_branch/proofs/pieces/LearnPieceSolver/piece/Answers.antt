-- The stack of the piece goes on by what the piece on its way ensures.
use Rattle.std.proofs.Common.{◌≡◌, ◌<◌, ◌++◌, ◌∷◌, [], inl, inr, length, sym, ap, subst, arith, length-append}
use Rattle.std.proofs.lemmas.Bool.{cases_lt}
use Rattle.tl_base.proofs.Options.{match-none, not-some}
use Rattle.tl_problem.proofs.SpanningLemmas.{spans-few}
use Rattle.tl_branch.specs.declared.under_way.UnderWay.{UnderWay}
use Rattle.tl_branch.specs.inner.UnderWay.{IsUnderWay}
use Rattle.tl_branch.proofs.PieceLaws.{begun-under_way, top-waiting, under_way-not_cut, under_way-left, under_way-cut, cut-length}
use Rattle.tl_branch.proofs.PieceLaws.{under_way-piece}
use Rattle.tl_branch.proofs.pieces.LearnPieceSolver.piece.Goals as goal
use Rattle.tl_branch.proofs.pieces.LearnPieceSolver.piece.Goals.{in-Some-first_cut+then-cuts-quota+in_ok-push}
use Rattle.tl_branch.proofs.pieces.LearnPieceSolver.piece.Goals.{in-Some-first_cut+else-cuts-quota+in_ok-cut}
use Rattle.tl_branch.proofs.pieces.LearnPieceSolver.piece.Goals.{in_default-first_cut}

pub loop-next-init : goal.loop-next-init
loop-next-init c = record {
  work = c.in_ok-way.ensures.work;
  on = begun-under_way c.args.problem.now c.args.zone.now c.args.best c.args.quota c.in_ok-way.way c.requires.zone
      c.in_ok-way.ensures.begun;
}

pub first_cut-requires : goal.first_cut-requires
first_cut-requires c =
    let p = c.args.problem.now in
    let way = c.loop-next.way in
    let on = subst (λ s. IsUnderWay p c.args.zone.now c.args.best c.args.quota way.trace way.lowest s way.lefts)
    c.in-Some.ensures.items c.loop-next.invariant.on in
    let top = top-waiting p c.args.zone.now c.args.best c.args.quota way.trace way.lowest c.pop.new.self.items c.in-Some.next
    way.lefts on in
    record { few = omega (arith, top.is.spans, spans-few p c.loop-next.invariant.work.sound) }

pub cut-requires-clause-zone : goal.cut-requires-clause-zone
cut-requires-clause-zone c =
    let p = c.args.problem.now in
    let way = c.loop-next.way in
    let on = subst (λ s. IsUnderWay p c.args.zone.now c.args.best c.args.quota way.trace way.lowest s way.lefts)
    c.in-Some.ensures.items c.loop-next.invariant.on in
    (top-waiting p c.args.zone.now c.args.best c.args.quota way.trace way.lowest c.pop.new.self.items c.in-Some.next
    way.lefts on).is

pub loop-next-smaller : goal.loop-next-smaller
loop-next-smaller c =
    let way = c.loop-next.way in
    let rest = c.pop.new.self.items in
    let popped = ap length c.in-Some.ensures.items in
    let one = length-append rest (c.in-Some.next ∷ []) in
    elim c.match-first_cut.branch [
      | in-Some-first_cut+then-cuts-quota+in_ok-push w ↦
          let cuts = ap (λ (u : UnderWay). length u.trace) w.way'-is in
          let stack = ap (λ (u : UnderWay). length u.stack.items) w.way'-is in
          omega (arith, popped, one, cuts, stack)
      | in-Some-first_cut+else-cuts-quota+in_ok-cut w ↦
          let cuts = ap (λ (u : UnderWay). length u.trace) w.way'-is in
          let stack = ap (λ (u : UnderWay). length u.stack.items) w.way'-is in
          let cut = w.in-Some-first_cut.cut in
          let apart = w.in_ok-cut.ensures.apart in
          let two = cut-length c.args.problem.now c.in-Some.next.zone cut (record way { stack = c.pop.new.self }) w.cut.new.self
          apart in
          let more = ap length apart.trace in
          let last = length-append way.trace (cut ∷ []) in
          let less : length way.trace < c.args.quota = elim (cases_lt (length way.trace) c.args.quota) [
            | inl below ↦ below
            | inr above ↦ absurd (w.if-cuts-quota.false (omega (arith, above, c.loop-next.invariant.on.few, w.cuts.ensures)))
          ] in
          omega (arith, popped, one, cuts, stack, two, more, last, less)
      | in_default-first_cut w ↦
          let cuts = ap (λ (u : UnderWay). length u.trace) w.way'-is in
          let stack = ap (λ (u : UnderWay). length u.stack.items) w.way'-is in
          omega (arith, popped, one, cuts, stack)
    ]

pub loop-next-preserved : goal.loop-next-preserved
loop-next-preserved c =
    let p = c.args.problem.now in
    let zone = c.args.zone.now in
    let given = c.args.best in
    let quota = c.args.quota in
    let way = c.loop-next.way in
    let rest = c.pop.new.self.items in
    let top = c.in-Some.next in
    let sound = c.loop-next.invariant.work.sound in
    let on : IsUnderWay p zone given quota way.trace way.lowest (rest ++ top ∷ []) way.lefts =
    subst (λ s. IsUnderWay p zone given quota way.trace way.lowest s way.lefts) c.in-Some.ensures.items
    c.loop-next.invariant.on in
    elim c.match-first_cut.branch [
      | in-Some-first_cut+then-cuts-quota+in_ok-push w ↦
          let spent : length way.trace ≡ quota = omega (arith, w.cuts.ensures, w.if-cuts-quota.true) in
          let left = under_way-left p zone given quota way.trace way.lowest rest top way.lefts on spent in
          rw w.way'-is (record {
            work = c.loop-next.invariant.work;
            on = subst (IsUnderWay p zone given quota way.trace way.lowest rest) (sym w.in_ok-push.ensures.ok) left;
          })
      | in-Some-first_cut+else-cuts-quota+in_ok-cut w ↦
          let less : length way.trace < quota = elim (cases_lt (length way.trace) quota) [
            | inl below ↦ below
            | inr above ↦ absurd (w.if-cuts-quota.false (omega (arith, above, c.loop-next.invariant.on.few, w.cuts.ensures)))
          ] in
          let first = w.in-Some-first_cut in
          let parts = under_way-cut p sound zone c.requires.zone given quota (record way { stack = c.pop.new.self })
          w.cut.new.self top first.cut on first.ensures.zone first.ensures.first first.ensures.below less
          w.in_ok-cut.ensures.apart in
          rw w.way'-is (record { work = w.cut.ensures.work; on = parts })
      | in_default-first_cut w ↦
          let closed = not-some c.first_cut.result _ c.first_cut.ensures.closed w.in_default-first_cut.not-Some in
          let gone = under_way-not_cut p zone given quota way.trace way.lowest rest top way.lefts on sound closed in
          rw w.way'-is (record { work = c.loop-next.invariant.work; on = gone })
    ]

pub returns : goal.returns
returns c =
    let way = c.loop-next.way in
    let empty = match-none c.pop.result _ _ c.pop.ensures.cases c.in_default.not-Some in
    let none : length way.stack.items ≡ 0 = omega (arith, empty.0, way.stack.ok) in
    rw (c.into_piece.ensures.best, c.into_piece.ensures.trace, c.into_piece.ensures.lefts)
    (under_way-piece c.args.problem.now c.loop-next.invariant.work.sound c.args.zone.now c.args.best c.args.quota way.trace
    way.lowest way.stack.items way.lefts none c.loop-next.invariant.on)
