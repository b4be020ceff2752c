use Rattle.std.proofs.Common.{subst}
use Rattle.tl_rounds.proofs.rounds.pieces_of.Goals as goal

pub returns : goal.returns
returns g c =
    c.requires.fan.gives c.args.problem c.args.zones c.args.best c.args.quota c.in_ok-pieces.pieces
    (subst (λ r. g.F.Fn.post c.args.fan.now (c.args.problem, (c.args.zones, (c.args.best, (c.args.quota, tt)))) r)
    c.in_ok-pieces.was c.fan.ensures)
