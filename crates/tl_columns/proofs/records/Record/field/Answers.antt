use Rattle.std.proofs.Common.{◌≡◌, ◌∙◌, ◌<◌, ℕ, zero, suc, Option, List, [], ◌∷◌, length, get_or, Some, None, refl, sym}
use Rattle.std.proofs.Common.{ap, subst, unwrap_or, arith}
use Rattle.csv.specs.Records.{field_at, fields_of}
use Rattle.tl_columns.proofs.records.Record.field.Goals as goal

-- the field at a place that is there
at : (fields : List (List ℕ)) (i : ℕ) → i < length fields → field_at fields i ≡ Some (get_or fields i [])
unfolding field_at
at [] i within = absurd (omega arith)
at (field ∷ fields) zero within = refl
at (field ∷ fields) (suc i) within = at fields i (omega arith)

pub unreachable-requires : goal.unreachable-requires
unreachable-requires c =
    let fields = fields_of c.self.inside.row in
    let within = subst (λ (all : List (List ℕ)). c.args.column < length all) (sym c.self.view_is) c.requires in
    let none = rw c.in-None.is at c.get.ensures.value in
    let never : ◌≡◌ {A = Option (List ℕ)} None (Some (get_or fields c.args.column [])) = none ∙ at fields c.args.column within in
    cc never

pub returns : goal.returns
returns c =
    let fields = fields_of c.self.inside.row in
    let within = subst (λ (all : List (List ℕ)). c.args.column < length all) (sym c.self.view_is) c.requires in
    let some = rw c.in-Some.is at c.get.ensures.value in
    let same : Some c.in-Some.field.now ≡ Some (get_or fields c.args.column []) = some ∙ at fields c.args.column within in
    ap (λ (o : Option (List ℕ)). unwrap_or o []) same
    ∙ ap (λ (all : List (List ℕ)). get_or all c.args.column []) c.self.view_is
