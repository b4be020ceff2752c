-- The lines of both parts are those of a cut.
use Rattle.std.proofs.Common.{◌≡◌, ◌+◌, ◌*◌, List, get_or, length, sym, ap, ◌∙◌, subst, arith}
use Rattle.std.proofs.lemmas.List.{get_or_default}
use Rattle.tl_cert.specs.declared.trace.CutAt.{CutAt}
use Rattle.tl_cert.proofs.CutParts.{no_cut}
use Rattle.tl_branch.specs.declared.learning.Learning.{Learning}
use Rattle.tl_cert.specs.declared.log.End.TheVariants as ends
use Rattle.tl_branch.specs.Learn.{FiresAreNeeded}
use Rattle.tl_branch.specs.inner.Learnings.{HasLine, line_of}
use Rattle.tl_branch.proofs.Closing.{line-at, grown-retried}
use Rattle.tl_branch.proofs.learning.Learning.join.Goals as goal

pub fires-requires-clause-cut : goal.fires-requires-clause-cut
fires-requires-clause-cut c =
    let l = c.args.self.now in
    let i = c.args.number in
    let count = c.requires.learning.lines.count in
    let same : c.as_slice.result.now ≡ l.arena.trace = c.as_slice.ensures ∙ c.trace.ensures in
    record {
      i = i;
      there = c.requires.there;
      cut = λ d. ap (λ (cut : CutAt). cut.zone) (get_or_default l.arena.trace i d no_cut c.requires.there)
          ∙ ap (λ (t : List CutAt). (get_or t i no_cut).zone) (sym same);
      low = line-at l.lines.items (2 * i + 1) c.in-Some-Some.lower c.index-lower.result.now
          (omega (arith, c.requires.there, count)) c.index-lower.ensures c.in-Some-Some.is-0;
      high = line-at l.lines.items (2 * i + 2) c.in-Some-Some.upper c.index-upper.result.now
          (omega (arith, c.requires.there, count)) c.index-upper.ensures c.in-Some-Some.is-1;
    }

pub returns-in_ok-put-in-Some-Some-clause-grown : goal.returns-in_ok-put-in-Some-Some-clause-grown
returns-in_ok-put-in-Some-Some-clause-grown c = grown-retried c.args.self.now c.fires.new.self c.put.new.self
    c.in_ok-fires-in-Some-Some.ensures.same c.in_ok-put-in-Some-Some.ensures.grown

-- the line is put at the zone of the cut
pub returns-in_ok-put-in-Some-Some-clause-alone : goal.returns-in_ok-put-in-Some-Some-clause-alone
returns-in_ok-put-in-Some-Some-clause-alone c =
    let l = c.args.self.now in
    let i = c.args.number in
    let same : c.as_slice.result.now ≡ l.arena.trace = c.as_slice.ensures ∙ c.trace.ensures in
    λ d z apart has. subst (λ (m : Learning). HasLine m.lines.items z) c.in_ok-fires-in-Some-Some.ensures.same.same
    (c.in_ok-put-in-Some-Some.ensures.alone z
    (λ here. apart (here ∙ ap (λ (t : List CutAt). (get_or t i no_cut).zone) same
    ∙ ap (λ (cut : CutAt). cut.zone) (get_or_default l.arena.trace i no_cut d c.requires.there))) has)

pub put-requires-clause-needed : goal.put-requires-clause-needed
put-requires-clause-needed c = subst (λ (m : Learning). FiresAreNeeded c.args.problem.now m.arena.trace m.log (length m.log)
    (line_of (get_or c.as_slice.result.now c.args.number no_cut).zone c.in_ok-fires-in-Some-Some.fires ends.Fired))
    (sym c.in_ok-fires-in-Some-Some.ensures.same.same)
    c.in_ok-fires-in-Some-Some.ensures.needed
