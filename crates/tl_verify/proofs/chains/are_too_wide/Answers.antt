use Rattle.std.proofs.Common.{◌≡◌, true, false}
use Rattle.tl_form.specs.Subjects.{meant}
use Rattle.tl_verify.proofs.Walking.{walked_all, walked_none}
use Rattle.tl_verify.proofs.chains.are_too_wide.Goals as goal

never : false ≡ true → ⊥
never same = cc

pub returns-in-None : goal.returns-in-None
returns-in-None c = (
  λ yes. absurd (never yes),
  λ too. absurd (walked_none (meant c.args.subject.now) c.args.chains.now c.args.least c.in-None.ensures too),
)

pub returns-in-Some : goal.returns-in-Some
returns-in-Some c =
    let all = walked_all (meant c.args.subject.now) c.args.chains.now c.args.least c.in-Some.walked c.requires.subject.sound
    c.in-Some.ensures in
    (λ yes. all.0 (c.is_whole.ensures.0 yes), λ too. c.is_whole.ensures.1 (all.1 too))
