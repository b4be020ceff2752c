-- How far to the right, and how far down, a walk can come.
use Rattle.std.proofs.Common.{ℕ, ◌≤◌, leb, List, [], ◌∷◌, ◌++◌, sym, subst, inl, inr, arith, append_assoc}
use Rattle.std.specs.List.{AllByRecursion}
use Rattle.std.proofs.lemmas.Bool.{cases_Bool}
use Rattle.tl_grid.specs.declared.block.Block.{Block}
use Rattle.tl_grid.specs.inner.OpenBlocks.{reaches, Walk, pass_taken}
use Rattle.tl_grid.specs.inner.States.{BlockEndsBy}
use Rattle.tl_grid.proofs.Passing.{pass_on, pass_stop, pass_ended, all_drop}

-- a walk's column and blocks end by column `width`
abbrev pub EndsIn : ℕ → Walk → Type 0
EndsIn width w = (w.column ≤ width) × AllByRecursion (BlockEndsBy width) (w.passed ++ w.ahead)

-- what holds of all holds of one in the middle
mid_of : (P : Block → Type 0) (xs : List Block) (b : Block) (ys : List Block) → AllByRecursion P (xs ++ b ∷ ys) → P b
mid_of P [] b ys a = a.0
mid_of P (x ∷ xs) b ys a = mid_of P xs b ys a.1

-- passing the open blocks goes no further than they end
pub passed_within : (width y : ℕ) (qs : List Block) (x : ℕ) (ps : List Block) → x ≤ width →
    AllByRecursion (BlockEndsBy width) (ps ++ qs) → EndsIn width (pass_taken y x ps qs)
passed_within width y [] x ps le all = (le, all)
passed_within width y (b ∷ bs) x ps le all =
    let P : Walk → Type 0 = λ w. EndsIn width w in
    elim (cases_Bool (reaches y b)) [
      | inl e ↦
          elim (cases_Bool (leb b.left x)) [
            | inl f ↦
                let Q : List Block → Type 0 = λ l. AllByRecursion (BlockEndsBy width) l in
                subst P (sym (pass_on y x ps b bs e f))
                (passed_within width y bs b.right (ps ++ b ∷ []) (mid_of (BlockEndsBy width) ps b bs all)
                (subst Q (sym (append_assoc ps (b ∷ []) bs)) all))
            | inr f ↦ subst P (sym (pass_stop y x ps b bs e f)) (le, all)
          ]
      | inr e ↦ subst P (sym (pass_ended y x ps b bs e))
          (passed_within width y bs x ps le (all_drop (BlockEndsBy width) ps b bs all))
    ]

-- what ends by a column ends by one further right
all_by : (width wider : ℕ) → width ≤ wider → (xs : List Block) → AllByRecursion (BlockEndsBy width) xs →
    AllByRecursion (BlockEndsBy wider) xs
all_by width wider le [] a = tt
all_by width wider le (x ∷ xs) a = (omega (arith, a.0), all_by width wider le xs a.1)

-- one more block, and a wider bound
pub all_wider : (width wider : ℕ) → width ≤ wider → (xs : List Block) (b : Block) (ys : List Block) →
    BlockEndsBy wider b → AllByRecursion (BlockEndsBy width) (xs ++ ys) →
    AllByRecursion (BlockEndsBy wider) ((xs ++ b ∷ []) ++ ys)
all_wider width wider le [] b ys end a = (end, all_by width wider le ys a)
all_wider width wider le (x ∷ xs) b ys end a = (omega (arith, a.0), all_wider width wider le xs b ys end a.1)
