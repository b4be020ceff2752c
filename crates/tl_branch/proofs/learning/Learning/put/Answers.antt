-- The line is shrunk, and its nogood was there or comes last.
use Rattle.std.proofs.Common.{◌≡◌, ◌<◌, ◌↔◌, IsTrue, List, [], length, Some, None, refl, sym, ◌∙◌, subst, arith}
use Rattle.std.proofs.lemmas.List.{get_or-set_same}
use Rattle.tl_cert.specs.declared.log.Bound.{Bound}
use Rattle.tl_cert.specs.declared.log.LogLine.{LogLine}
use Rattle.tl_cert.specs.declared.trace.CutAt.{CutAt}
use Rattle.tl_cert.specs.Learnt.{nogoods_in}
use Rattle.tl_cert.specs.Nogoods.{nogood_bounds}
use Rattle.tl_cert.specs.Traces.{IsTraceOf}
use Rattle.tl_store.specs.Shrunk.{IsShrunk}
use Rattle.tl_store.specs.Stores.{IsAddedNogood, nogoods_of}
use Rattle.tl_branch.specs.Learn.{IsUnclosed}
use Rattle.tl_branch.specs.inner.Learnings.{line_of}
use Rattle.tl_branch.proofs.Closing.{grown-same}
use Rattle.tl_branch.proofs.Learnings.{learning-old, learning-new, unclosed-line}
use Rattle.tl_branch.proofs.Zones.{has-set, has-other, none-there, some-there}
use Rattle.tl_branch.proofs.learning.Learning.put.Goals as goal

pub returns-then-is_some-clause-line : goal.returns-then-is_some-clause-line
returns-then-is_some-clause-line c = some-there c.args.self.now.lines.items c.args.zone c.index.result.now
    (omega (arith, c.requires.learning.lines.count, c.requires.there)) c.index.ensures (sym c.is_some.ensures ∙ c.if-is_some.true)

pub returns-then-is_some-clause-grown : goal.returns-then-is_some-clause-grown
returns-then-is_some-clause-grown c = grown-same c.args.self.now

pub add-requires-clause-trace : goal.add-requires-clause-trace
add-requires-clause-trace c = subst (IsTraceOf c.args.problem.now) (sym c.trace-trace.ensures)
    c.requires.learning.arena.trace_of

pub returns-then-number-len-clause-learning : goal.returns-then-number-len-clause-learning
returns-then-number-len-clause-learning c =
    let p = c.args.problem.now in
    let l = c.args.self.now in
    let is = c.requires.learning in
    let z = c.args.zone in
    let new = c.in_ok-new.new in
    let within : z < length l.lines.items = omega (arith, is.lines.count, c.requires.there) in
    let shrunk : IsShrunk p l.arena.trace l.log l.height (length l.log) (line_of z c.args.fires c.args.end) new =
    subst (λ (t : List CutAt). IsShrunk p t l.log l.height (length l.log) (line_of z c.args.fires c.args.end) new)
    c.trace-trace.ensures c.in_ok-new.ensures.shrunk in
    let added : IsAddedNogood (nogoods_of l.store) (nogoods_of c.add.new.self) (nogood_bounds p l.arena.trace new.nogood)
    c.in_ok-number.number =
    subst (λ (t : List CutAt). IsAddedNogood (nogoods_of l.store) (nogoods_of c.add.new.self) (nogood_bounds p t new.nogood)
    c.in_ok-number.number) c.trace-trace.ensures (subst (λ (olds : List (List Bound)). IsAddedNogood olds (nogoods_of c.add.new.self)
    (nogood_bounds p c.trace-trace.result.now new.nogood) c.in_ok-number.number) c.in_ok-new.ensures.kept
    c.in_ok-number.ensures.added) in
    learning-old p l is z c.requires.there c.args.fires c.args.end c.requires.fires new c.requires.good shrunk c.requires.fired
    c.requires.needed c.add.new.self
    c.in_ok-number.ensures.store (c.in_ok-number.ensures.stays l.budget (c.in_ok-new.ensures.stays l.budget is.reserved))
    c.in_ok-number.number added
    (none-there l.lines.items z c.index.result.now within c.index.ensures (sym c.is_some.ensures ∙ c.if-is_some.false)) within
    (omega (arith, c.if-number-len.true, c.len.ensures)) _ refl

pub returns-then-number-len-clause-grown : goal.returns-then-number-len-clause-grown
returns-then-number-len-clause-grown c =
    let within : c.args.zone < length c.args.self.now.lines.items = omega
    (arith, c.requires.learning.lines.count, c.requires.there) in
    record {
      alloc = refl;
      arena = refl;
      low_is_high = refl;
      budget = refl;
      height = refl;
      lines = λ y has. has-set c.args.self.now.lines.items c.args.zone c.in_ok-number.number y within has;
      unclosed = λ p cut was. was;
    }

pub returns-then-number-len-clause-alone : goal.returns-then-number-len-clause-alone
returns-then-number-len-clause-alone c = λ y apart has. has-other c.args.self.now.lines.items c.args.zone c.in_ok-number.number y
    apart has

pub returns-then-number-len-clause-line : goal.returns-then-number-len-clause-line
returns-then-number-len-clause-line c = (
  c.in_ok-number.number,
  get_or-set_same c.args.self.now.lines.items c.args.zone (Some c.in_ok-number.number) None
      (omega (arith, c.requires.learning.lines.count, c.requires.there)),
)

pub is_empty_nogood-done-requires-clause-trace : goal.is_empty_nogood-done-requires-clause-trace
is_empty_nogood-done-requires-clause-trace c = subst (IsTraceOf c.args.problem.now)
    (sym (c.as_slice.ensures ∙ c.trace-trace.ensures)) c.requires.learning.arena.trace_of

pub returns-clause-learning : goal.returns-clause-learning
returns-clause-learning c =
    let p = c.args.problem.now in
    let l = c.args.self.now in
    let is = c.requires.learning in
    let z = c.args.zone in
    let new = c.in_ok-new.new in
    let within : z < length l.lines.items = omega (arith, is.lines.count, c.requires.there) in
    let shrunk : IsShrunk p l.arena.trace l.log l.height (length l.log) (line_of z c.args.fires c.args.end) new =
    subst (λ (t : List CutAt). IsShrunk p t l.log l.height (length l.log) (line_of z c.args.fires c.args.end) new)
    c.trace-trace.ensures c.in_ok-new.ensures.shrunk in
    let added : IsAddedNogood (nogoods_of l.store) (nogoods_of c.add.new.self) (nogood_bounds p l.arena.trace new.nogood)
    c.in_ok-number.number =
    subst (λ (t : List CutAt). IsAddedNogood (nogoods_of l.store) (nogoods_of c.add.new.self) (nogood_bounds p t new.nogood)
    c.in_ok-number.number) c.trace-trace.ensures (subst (λ (olds : List (List Bound)). IsAddedNogood olds (nogoods_of c.add.new.self)
    (nogood_bounds p c.trace-trace.result.now new.nogood) c.in_ok-number.number) c.in_ok-new.ensures.kept
    c.in_ok-number.ensures.added) in
    learning-new p l is z c.requires.there c.args.fires c.args.end c.requires.fires new c.requires.good shrunk c.requires.fired
    c.requires.needed c.add.new.self
    c.in_ok-number.ensures.store (c.in_ok-number.ensures.stays l.budget (c.in_ok-new.ensures.stays l.budget is.reserved))
    c.in_ok-number.number added
    (none-there l.lines.items z c.index.result.now within c.index.ensures (sym c.is_some.ensures ∙ c.if-is_some.false)) within
    (omega (arith, c.if-number-len.false, c.len.ensures)) c.push.new.self c.in_ok-push.ensures.ok _ refl
    c.is_empty_nogood-done.result c.requires.going (subst (λ (t : List CutAt). IsTrue c.is_empty_nogood-done.result ↔
    (nogood_bounds p t new.nogood ≡ [])) (c.as_slice.ensures ∙ c.trace-trace.ensures) c.is_empty_nogood-done.ensures)

pub returns-clause-grown : goal.returns-clause-grown
returns-clause-grown c =
    let within : c.args.zone < length c.args.self.now.lines.items = omega
    (arith, c.requires.learning.lines.count, c.requires.there) in
    record {
      alloc = refl;
      arena = refl;
      low_is_high = refl;
      budget = refl;
      height = refl;
      lines = λ y has. has-set c.args.self.now.lines.items c.args.zone c.in_ok-number.number y within has;
      unclosed = λ p cut was.
          let l = c.args.self.now in
          subst (λ (log : List LogLine). IsUnclosed p (nogoods_in p l.arena.trace log) l.arena.trace cut)
          (sym c.in_ok-push.ensures.ok) (unclosed-line c.args.problem.now l c.requires.learning p c.in_ok-new.new cut was);
    }

pub returns-clause-alone : goal.returns-clause-alone
returns-clause-alone c = λ y apart has. has-other c.args.self.now.lines.items c.args.zone c.in_ok-number.number y apart has

pub returns-clause-line : goal.returns-clause-line
returns-clause-line c = (
  c.in_ok-number.number,
  get_or-set_same c.args.self.now.lines.items c.args.zone (Some c.in_ok-number.number) None
      (omega (arith, c.requires.learning.lines.count, c.requires.there)),
)
