-- The buffers keep their lengths.
use Rattle.std.proofs.Common.{length, arith, ap, ◌∙◌}
use Rattle.std.proofs.lemmas.List.{with_items_is}
use Rattle.tl_problem.specs.Works.{places}
use Rattle.tl_problem.proofs.problem.Problem.held_bound.Goals as goal

pub returns-then-not-holds-clause-bound : goal.returns-then-not-holds-clause-bound
returns-then-not-holds-clause-bound c = λ widths left.
    let yes = c.holds.ensures.1 (places c.args.self.now widths, left.satisfies) in
    cc

pub returns-clause-work_of : goal.returns-clause-work_of
returns-clause-work_of c =
    let demands = with_items_is c.args.work.now.demands c.bound_in.new.demands
    (omega (arith, c.bound_in.auto.demands, c.deref_mut.ensures.len)) in
    let arcs = with_items_is c.args.work.now.arcs c.bound_in.new.arcs
    (omega (arith, c.bound_in.auto.arcs, c.deref_mut-2.ensures.len)) in
    let ends = with_items_is c.args.work.now.ends c.bound_in.new.ends
    (omega (arith, c.bound_in.auto.ends, c.deref_mut-3.ensures.len)) in
    record {
      sound = c.requires.sound;
      keeps = c.requires.keeps;
      start = c.requires.start;
      free = c.requires.free;
      demands = ap length demands ∙ c.bound_in.auto.demands ∙ ap length c.deref_mut.ensures.value ∙ c.requires.demands;
      arcs = ap length arcs ∙ c.bound_in.auto.arcs ∙ ap length c.deref_mut-2.ensures.value ∙ c.requires.arcs;
      ends = ap length ends ∙ c.bound_in.auto.ends ∙ ap length c.deref_mut-3.ensures.value ∙ c.requires.ends;
    }
