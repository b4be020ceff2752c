use Rattle.std.proofs.Common.{MatchOption}
use Rattle.tl_form.specs.inner.Naming.{IsBestOf, NoneWithin}
use Rattle.tl_form.proofs.named.chosen.Given as goal

abbrev pub invariant-loop-i : goal.invariant-loop-i
invariant-loop-i l = MatchOption l.best (NoneWithin l.style l.sections l.number l.room l.i)
    (IsBestOf l.style l.sections l.number l.room l.i)
