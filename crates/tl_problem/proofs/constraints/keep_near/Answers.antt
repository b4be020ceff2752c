use Rattle.std.proofs.Common.{ap, arith}
use Rattle.std.proofs.lemmas.Int.{ints}
use Rattle.tl_problem.proofs.constraints.keep_near.Goals as goal

pub returns-clause-adds : goal.returns-clause-adds
returns-clause-adds c = record {
  variables = c.bound.ensures.adds.variables;
  marks = ap (λ m. m.marks) c.bound.ensures.rest;
  held = ap (λ m. m.held) c.bound.ensures.rest;
  keeps = c.bound.ensures.adds.keeps;
  adds = λ x meets. let within = c.bound.ensures.adds.adds x meets in omega (arith, ints, c.requires.small);
  all = λ x meets fact. c.bound.ensures.adds.all x meets (omega (arith, ints, fact, c.requires.small));
}
