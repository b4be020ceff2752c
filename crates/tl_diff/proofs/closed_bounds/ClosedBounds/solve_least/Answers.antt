-- The greatest `x_0 - x_k`, negated, are the least assignment.
use Rattle.std.proofs.Common.{◌≡◌, ℤ, pos, neg_ℤ, ◌-ℤ◌, set, ap, arith, sym, subst, ⊎_elim}
use Rattle.std.specs.Int.{w32}
use mir.Val.{to_z, of_z}
use Rattle.std.proofs.lemmas.Int.{ints}
use Rattle.std.proofs.lemmas.Bool.{cases_eq}
use Rattle.std.proofs.lemmas.List.{get_or-set_same, get_or-set_other}
use Rattle.tl_diff.specs.Bounds.{IsGreatest, IsSmall, assignment_of}
use Rattle.tl_diff.proofs.BoundLaws.{IsSome-greatest, IsLeast-greatest}
use Rattle.tl_diff.proofs.closed_bounds.ClosedBounds.solve_least.Goals as goal

pub unwrap-requires : goal.unwrap-requires
unwrap-requires c =
    let n : c.args.self.now.n ≡ c.self.inside.variables = ap (λ b. b.n) (sym c.self.view_is) in
    IsSome-greatest c.args.self.now c.loop-variable.variable 0 c.upper.result c.upper.ensures.exact
    (c.requires.bounded c.loop-variable.variable (omega arith))

pub loop-variable-preserved : goal.loop-variable-preserved
loop-variable-preserved c = λ k below.
    let n : c.args.self.now.n ≡ c.self.inside.variables = ap (λ b. b.n) (sym c.self.view_is) in
    let small : IsSmall c.unwrap.result = rw c.unwrap.ensures at c.upper.ensures.small in
    let here : IsGreatest c.args.self.now c.loop-variable.variable 0 c.unwrap.result =
    rw c.unwrap.ensures at c.upper.ensures.exact in
    let turned : ℤ = to_z w32 (of_z w32 (pos 0 -ℤ to_z w32 (of_z w32 c.unwrap.result))) in
    ⊎_elim
    (λ e.
    let same : c.unwrap.result ≡ neg_ℤ (assignment_of (set c.loop-variable.out c.loop-variable.variable turned) k) =
    omega (
      arith,
      ints,
      small,
      get_or-set_same c.loop-variable.out c.loop-variable.variable turned (pos 0) (omega (arith, c.requires.room)),
      ap
          (assignment_of (set c.loop-variable.out c.loop-variable.variable turned)) e,
    ) in
    subst (λ m. IsGreatest c.args.self.now k 0 m) same (subst (λ j. IsGreatest c.args.self.now j 0 c.unwrap.result) (sym e) here))
    (λ apart.
    let same : neg_ℤ (assignment_of c.loop-variable.out k) ≡ neg_ℤ
    (assignment_of (set c.loop-variable.out c.loop-variable.variable turned) k) =
    ap neg_ℤ (sym (get_or-set_other c.loop-variable.out c.loop-variable.variable k turned (pos 0) apart)) in
    subst (λ m. IsGreatest c.args.self.now k 0 m) same (c.loop-variable.invariant k (omega arith)))
    (cases_eq k c.loop-variable.variable)

pub returns : goal.returns
returns c =
    let n : c.args.self.now.n ≡ c.self.inside.variables = ap (λ b. b.n) (sym c.self.view_is) in
    IsLeast-greatest c.args.self.now (assignment_of c.loop-variable.out) (omega (arith, c.self.invariant.some))
    (λ k there. c.loop-variable.invariant k (omega arith))
