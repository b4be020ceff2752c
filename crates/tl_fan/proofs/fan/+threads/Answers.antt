use Rattle.std.proofs.Common.{IfOk, [], ◌∷◌, ◌++◌, subst, sym}
use Rattle.std.specs.List.{AllZip}
use Rattle.tl_base.proofs.Zips.{AllZip-push}
use Rattle.tl_fan.proofs.fan.+threads.Goals as goal

pub returns : goal.returns
returns g t c =
    let others = c.in-Some.others.now in
    let before = subst (λ result. IfOk result (λ found. AllZip (λ number one. g.F.Fn.post c.args.piece.now (number, tt) one) others found.items))
    c.in_ok-found.was c.join-one.ensures.second in
    subst (λ numbers. AllZip (λ number one. g.F.Fn.post c.args.piece.now (number, tt) one) numbers c.push-2.new.self.items)
    (sym c.in-Some.ensures.cases.0)
    (subst (AllZip (λ number one. g.F.Fn.post c.args.piece.now (number, tt) one) (others ++ c.in-Some.field-0-0.now ∷ []))
    (sym c.in_ok-push-2.ensures.items)
    (AllZip-push (λ number one. g.F.Fn.post c.args.piece.now (number, tt) one) others c.in_ok-found.found.items c.in-Some.field-0-0.now
    c.join-one.result.0 before c.join-one.ensures.first))
