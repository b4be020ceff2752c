-- What passing the open blocks leaves: the first free column, and the same blocks over each slot.
use Rattle.std.proofs.Common.{◌≡◌, ℕ, ◌<◌, ◌≤◌, Bool, true, false, leb, List, [], ◌∷◌, ◌++◌, refl, sym, ap, ◌∙◌, subst, inl, inr}
use Rattle.std.proofs.Common.{arith, append_assoc}
use Rattle.std.specs.List.{filter, list_any, AllByRecursion}
use Rattle.std.proofs.lemmas.Bool.{leb-true, leb-false, cases_Bool, cases_lt, cond-true, cond-false}
use Rattle.std.proofs.lemmas.List.Elements.{filter-append}
use Rattle.tl_grid.specs.declared.block.Block.{Block}
use Rattle.tl_grid.specs.inner.OpenBlocks.{reaches, Walk, pass_taken}
use Rattle.tl_grid.proofs.Chains.{spot, Chain, ChainTo, spot_in, spot_ended, not_below, filter_yes, filter_no, chain_yes}
use Rattle.tl_grid.proofs.Chains.{chain_no, chain_push}
use Rattle.tl_grid.specs.inner.States.{BlockEndsBy}

-- whether a list has an element
abbrev pub some : {X : Type 0} → List X → Bool
some [] = false
some (x ∷ xs) = true

-- some element passes exactly where the filter keeps one
pub any_is_some : {X : Type 0} (p : X → Bool) (xs : List X) → list_any p xs ≡ some (filter p xs)
any_is_some p [] = refl
any_is_some {X} p (x ∷ xs) =
    elim (cases_Bool (p x)) [
      | inl e ↦ rw e refl
      | inr e ↦ rw e (any_is_some p xs)
    ]

-- the first block ahead reaches row y and begins after column x
abbrev pub BeginsAfter : ℕ → ℕ → List Block → Type 0
BeginsAfter y x [] = Unit {0}
BeginsAfter y x (b ∷ bs) = (reaches y b ≡ true) × (x < b.left)

-- what passing the open blocks leaves of a row
pub record Passes (y x : ℕ) (passed ahead : List Block) (w : Walk) : Type 0 where
  pub prefix : ChainTo 0 (filter (reaches y) w.passed) w.column
  pub rest : Chain w.column (filter (reaches y) w.ahead)
  pub begins : BeginsAfter y w.column w.ahead
  pub same : (x' y' : ℕ) → y ≤ y' → filter (spot x' y') (w.passed ++ w.ahead) ≡ filter (spot x' y') (passed ++ ahead)
  pub on : x ≤ w.column
  pub taken : (x' : ℕ) → x ≤ x' → x' < w.column → some (filter (spot x' y) (passed ++ ahead)) ≡ true
  pub within : (width : ℕ) → x ≤ width → AllByRecursion (BlockEndsBy width) ahead → w.column ≤ width
  pub kept : (width : ℕ) → AllByRecursion (BlockEndsBy width) (passed ++ ahead) →
      AllByRecursion (BlockEndsBy width) (w.passed ++ w.ahead)

-- a block is passed
pub pass_on : (y x : ℕ) (ps : List Block) (b : Block) (bs : List Block) → reaches y b ≡ true →
    leb b.left x ≡ true → pass_taken y x ps (b ∷ bs) ≡ pass_taken y b.right (ps ++ b ∷ []) bs
pass_on y x ps b bs e f = cond-true (reaches y b) _ _ e ∙ cond-true (leb b.left x) _ _ f

-- a block stops the walk
pub pass_stop : (y x : ℕ) (ps : List Block) (b : Block) (bs : List Block) → reaches y b ≡ true →
    leb b.left x ≡ false → pass_taken y x ps (b ∷ bs) ≡ record { column = x; passed = ps; ahead = b ∷ bs }
pass_stop y x ps b bs e f = cond-true (reaches y b) _ _ e ∙ cond-false (leb b.left x) _ _ f

-- a block that has ended is dropped
pub pass_ended : (y x : ℕ) (ps : List Block) (b : Block) (bs : List Block) → reaches y b ≡ false →
    pass_taken y x ps (b ∷ bs) ≡ pass_taken y x ps bs
pass_ended y x ps b bs e = cond-false (reaches y b) _ _ e

-- a filter keeps one element in the middle
some_mid : (p : Block → Bool) (xs : List Block) (b : Block) (ys : List Block) → p b ≡ true → some (filter p (xs ++ b ∷ ys)) ≡ true
some_mid p [] b ys e = ap some (filter_yes p b ys e)
some_mid p (x ∷ xs) b ys e =
    elim (cases_Bool (p x)) [
      | inl t ↦ ap some (filter_yes p x (xs ++ b ∷ ys) t)
      | inr f ↦ ap some (filter_no p x (xs ++ b ∷ ys) f) ∙ some_mid p xs b ys e
    ]

-- one block passed
passes_on : (y x : ℕ) (ps : List Block) (b : Block) (bs : List Block) (w : Walk) → reaches y b ≡ true →
    b.left ≤ x → b.left < b.right → x ≤ b.left → Passes y b.right (ps ++ b ∷ []) bs w →
    Passes y x ps (b ∷ bs) w
passes_on y x ps b bs w e le lt ge p = record {
  prefix = p.prefix;
  rest = p.rest;
  begins = p.begins;
  same = λ x' y' h. p.same x' y' h ∙ ap (filter (spot x' y')) (append_assoc ps (b ∷ []) bs);
  on = (let h : b.right ≤ w.column = p.on in omega arith);
  taken = λ x' h k.
      elim (cases_lt x' b.right) [
        | inl in' ↦ some_mid (spot x' y) ps b bs (spot_in x' y b (omega arith) in' e)
        | inr past ↦ sym (ap (λ l. some (filter (spot x' y) l)) (append_assoc ps (b ∷ []) bs)) ∙ p.taken x' past k
      ];
  within = λ width h all. p.within width all.0 all.1;
  kept = λ width all. p.kept width
      (let P : List Block → Type 0 = λ l. AllByRecursion (BlockEndsBy width) l in
      subst P (sym (append_assoc ps (b ∷ []) bs)) all);
}

-- a test that fails in the middle keeps nothing there
filter_drop : (p : Block → Bool) (xs : List Block) (b : Block) (ys : List Block) → p b ≡ false →
    filter p (xs ++ ys) ≡ filter p (xs ++ b ∷ ys)
filter_drop p [] b ys e = sym (filter_no p b ys e)
filter_drop p (x ∷ xs) b ys e =
    elim (cases_Bool (p x)) [
      | inl t ↦ filter_yes p x (xs ++ ys) t ∙ ap (λ l. x ∷ l) (filter_drop p xs b ys e) ∙ sym (filter_yes p x (xs ++ b ∷ ys) t)
      | inr f ↦ filter_no p x (xs ++ ys) f ∙ filter_drop p xs b ys e ∙ sym (filter_no p x (xs ++ b ∷ ys) f)
    ]

-- what holds of all holds of the others
pub all_drop : (P : Block → Type 0) (xs : List Block) (b : Block) (ys : List Block) → AllByRecursion P (xs ++ b ∷ ys) →
    AllByRecursion P (xs ++ ys)
all_drop P [] b ys all = all.1
all_drop P (x ∷ xs) b ys all = (all.0, all_drop P xs b ys all.1)

-- one block dropped
passes_ended : (y x : ℕ) (ps : List Block) (b : Block) (bs : List Block) (w : Walk) → reaches y b ≡ false → Passes y x ps bs w →
    Passes y x ps (b ∷ bs) w
passes_ended y x ps b bs w e p = record {
  prefix = p.prefix;
  rest = p.rest;
  begins = p.begins;
  same = λ x' y' h. p.same x' y' h ∙ filter_drop (spot x' y') ps b bs (spot_ended x' y' b (not_below y y' b h e));
  on = p.on;
  taken = λ x' h k. sym (ap some (filter_drop (spot x' y) ps b bs (spot_ended x' y b e))) ∙ p.taken x' h k;
  within = λ width h all. p.within width h all.1;
  kept = λ width all. p.kept width (all_drop (BlockEndsBy width) ps b bs all);
}

-- the row stops at the first block that begins further right
passes_stop : (y x : ℕ) (ps : List Block) (qs : List Block) → ChainTo 0 (filter (reaches y) ps) x →
    Chain x (filter (reaches y) qs) → BeginsAfter y x qs →
    Passes y x ps qs record { column = x; passed = ps; ahead = qs }
passes_stop y x ps qs prefix rest begins = record {
  prefix = prefix;
  rest = rest;
  begins = begins;
  same = λ x' y' le. refl;
  on = omega arith;
  taken = λ x' le lt. absurd (omega arith);
  within = λ width le all. le;
  kept = λ width all. all;
}

-- a chain to a column, and one more block
pub push_prefix : (y x : ℕ) (ps : List Block) (b : Block) → reaches y b ≡ true →
    ChainTo 0 (filter (reaches y) ps) x → x ≤ b.left → b.left < b.right →
    ChainTo 0 (filter (reaches y) (ps ++ b ∷ [])) b.right
push_prefix y x ps b e prefix le lt =
    let P : List Block → Type 0 = λ l. ChainTo 0 l b.right in
    subst P (sym (filter-append (reaches y) ps (b ∷ []) ∙ ap (λ l. filter (reaches y) ps ++ l) (filter_yes (reaches y) b [] e)))
    (chain_push 0 x (filter (reaches y) ps) b prefix le lt)

-- all blocks that take the columns are passed
pub passes : (y : ℕ) (qs : List Block) (x : ℕ) (ps : List Block) → ChainTo 0 (filter (reaches y) ps) x →
    Chain x (filter (reaches y) qs) → Passes y x ps qs (pass_taken y x ps qs)
passes y [] x ps prefix rest = passes_stop y x ps [] prefix rest tt
passes y (b ∷ bs) x ps prefix rest =
    let P : Walk → Type 0 = λ w. Passes y x ps (b ∷ bs) w in
    elim (cases_Bool (reaches y b)) [
      | inl e ↦
          let d : Chain x (b ∷ filter (reaches y) bs) = chain_yes x y b bs e rest in
          elim (cases_Bool (leb b.left x)) [
            | inl f ↦
                let le : b.left ≤ x = leb-true b.left x f in
                subst P (sym (pass_on y x ps b bs e f))
                (passes_on y x ps b bs (pass_taken y b.right (ps ++ b ∷ []) bs) e le d.1 d.0
                (passes y bs b.right (ps ++ b ∷ []) (push_prefix y x ps b e prefix d.0 d.1) d.2))
            | inr f ↦
                subst P (sym (pass_stop y x ps b bs e f))
                (passes_stop y x ps (b ∷ bs) prefix rest (e, leb-false b.left x f))
          ]
      | inr e ↦
          subst P (sym (pass_ended y x ps b bs e))
          (passes_ended y x ps b bs (pass_taken y x ps bs) e (passes y bs x ps prefix (chain_no x y b bs e rest)))
    ]
