-- Blocks in order, side by side: which of them cover a slot.
use Rattle.std.proofs.Common.{◌≡◌, ℕ, ◌<◌, ◌≤◌, Bool, true, false, ◌&&◌, ltb, leb, List, [], ◌∷◌, ◌++◌, length, refl, inl, inr}
use Rattle.std.proofs.Common.{arith}
use Rattle.std.specs.List.{filter}
use Rattle.std.proofs.lemmas.Bool.{ltb-true, leb-true, lt-ltb, le-ltb, le-leb, lt-leb, and_parts, and_from, and_left, and_right}
use Rattle.std.proofs.lemmas.Bool.{or_cases, or_left}
use Rattle.std.proofs.lemmas.Bool.{or_right, cases_Bool, cond-true, cond-false}
use Rattle.tl_grid.specs.declared.block.Block.{Block}
use Rattle.tl_grid.specs.inner.OpenBlocks.{reaches}

-- whether a block that begins in row y or above it covers the slot (x, y)
abbrev pub spot : ℕ → ℕ → Block → Bool
spot x y b = (leb b.left x && ltb x b.right) && reaches y b

-- the blocks lie from column a on, side by side in order
abbrev pub Chain : ℕ → List Block → Type 0
Chain a [] = Unit {0}
Chain a (b ∷ bs) = (a ≤ b.left) × (b.left < b.right) × Chain b.right bs

-- and they end at column z or before it
abbrev pub ChainTo : ℕ → List Block → ℕ → Type 0
ChainTo a [] z = a ≤ z
ChainTo a (b ∷ bs) z = (a ≤ b.left) × (b.left < b.right) × ChainTo b.right bs z

-- a block that reaches a row reaches those between
pub reaches_above : (y y' : ℕ) (b : Block) → y ≤ y' → reaches y' b ≡ true → reaches y b ≡ true
reaches_above y y' b le h =
    elim (or_cases b.grows (ltb y' b.bottom) h) [
      | inl g ↦ or_left b.grows (ltb y b.bottom) g
      | inr e ↦ or_right b.grows (ltb y b.bottom) (lt-ltb y b.bottom (omega (arith, ltb-true y' b.bottom e)))
    ]

-- a block that ends above a row ends above those below it
pub not_below : (y y' : ℕ) (b : Block) → y ≤ y' → reaches y b ≡ false → reaches y' b ≡ false
not_below y y' b le h =
    elim (cases_Bool (reaches y' b)) [
      | inl t ↦ absurd (let u : reaches y b ≡ true = reaches_above y y' b le t in cc)
      | inr f ↦ f
    ]

-- a block that ends above the row covers none of its slots
pub spot_ended : (x y : ℕ) (b : Block) → reaches y b ≡ false → spot x y b ≡ false
spot_ended x y b h = and_right (leb b.left x && ltb x b.right) (reaches y b) h

-- nor does a block that begins further right
pub spot_left : (x y : ℕ) (b : Block) → x < b.left → spot x y b ≡ false
spot_left x y b h =
    and_left (leb b.left x && ltb x b.right) (reaches y b)
    (and_left (leb b.left x) (ltb x b.right) (lt-leb b.left x h))

-- nor does one that ends further left
pub spot_right : (x y : ℕ) (b : Block) → b.right ≤ x → spot x y b ≡ false
spot_right x y b h =
    and_left (leb b.left x && ltb x b.right) (reaches y b)
    (and_right (leb b.left x) (ltb x b.right) (le-ltb x b.right h))

-- a block covers the slots in its columns, where it reaches the row
pub spot_in : (x y : ℕ) (b : Block) → b.left ≤ x → x < b.right → reaches y b ≡ true → spot x y b ≡ true
spot_in x y b l r h =
    and_from (leb b.left x && ltb x b.right) (reaches y b)
    (and_from (leb b.left x) (ltb x b.right) (le-leb b.left x l) (lt-ltb x b.right r)) h

-- what a filter keeps of one more element
pub filter_yes : {X : Type 0} (p : X → Bool) (x : X) (xs : List X) → p x ≡ true → filter p (x ∷ xs) ≡ x ∷ filter p xs
filter_yes p x xs h = cond-true (p x) (x ∷ filter p xs) (filter p xs) h

-- and where the element is left out
pub filter_no : {X : Type 0} (p : X → Bool) (x : X) (xs : List X) → p x ≡ false → filter p (x ∷ xs) ≡ filter p xs
filter_no p x xs h = cond-false (p x) (x ∷ filter p xs) (filter p xs) h

-- the chain of the blocks that reach row y, without one that does not, or with one that does
pub chain_no : (a y : ℕ) (b : Block) (bs : List Block) → reaches y b ≡ false → Chain a (filter (reaches y) (b ∷ bs)) →
    Chain a (filter (reaches y) bs)
chain_no a y b bs e c = rw (filter_no (reaches y) b bs e) at c

-- and with one that does
pub chain_yes : (a y : ℕ) (b : Block) (bs : List Block) → reaches y b ≡ true → Chain a (filter (reaches y) (b ∷ bs)) →
    Chain a (b ∷ filter (reaches y) bs)
chain_yes a y b bs e c = rw (filter_yes (reaches y) b bs e) at c

-- a chain is one from any column before it
pub chain_from : (a z : ℕ) (bs : List Block) → a ≤ z → Chain z bs → Chain a bs
chain_from a z [] le c = c
chain_from a z (b ∷ bs) le c = (omega (arith, c.0), c.1, c.2)

-- where a chain ends is not before its beginning
pub chain_end : (a z : ℕ) (bs : List Block) → ChainTo a bs z → a ≤ z
chain_end a z [] c = c
chain_end a z (b ∷ bs) c =
    let rest : b.right ≤ z = chain_end b.right z bs c.2 in omega (arith, c.0, c.1)

-- a covered slot lies before the right edge
pub spot_before : (x y : ℕ) (b : Block) → spot x y b ≡ true → x < b.right
spot_before x y b h =
    let in_columns = and_parts (leb b.left x && ltb x b.right) (reaches y b) h in
    ltb-true x b.right ((and_parts (leb b.left x) (ltb x b.right) in_columns.0).1)

-- and not before the left edge
pub spot_from : (x y : ℕ) (b : Block) → spot x y b ≡ true → b.left ≤ x
spot_from x y b h =
    let in_columns = and_parts (leb b.left x && ltb x b.right) (reaches y b) h in
    leb-true b.left x ((and_parts (leb b.left x) (ltb x b.right) in_columns.0).0)

-- no block of a chain covers a column before it
pub none_left : (z x y y' : ℕ) → x < z → y ≤ y' → (bs : List Block) → Chain z (filter (reaches y) bs) → filter (spot x y') bs ≡ []
none_left z x y y' lt le [] c = refl
none_left z x y y' lt le (b ∷ bs) c =
    elim (cases_Bool (reaches y b)) [
      | inl e ↦
          let d : Chain z (b ∷ filter (reaches y) bs) = chain_yes z y b bs e c in
          rw (filter_no (spot x y') b bs (spot_left x y' b (omega (arith, d.0))))
          (none_left b.right x y y' (omega (arith, d.0, d.1)) le bs d.2)
      | inr e ↦
          rw (filter_no (spot x y') b bs (spot_ended x y' b (not_below y y' b le e)))
          (none_left z x y y' lt le bs (chain_no z y b bs e c))
    ]

-- nor does one before column z cover z or one after it
pub none_right : (a z x y y' : ℕ) → z ≤ x → y ≤ y' → (bs : List Block) → ChainTo a (filter (reaches y) bs) z →
    filter (spot x y') bs ≡ []
none_right a z x y y' ge le [] c = refl
none_right a z x y y' ge le (b ∷ bs) c =
    elim (cases_Bool (reaches y b)) [
      | inl e ↦
          let d : ChainTo a (b ∷ filter (reaches y) bs) z = rw (filter_yes (reaches y) b bs e) at c in
          let end : b.right ≤ z = chain_end b.right z (filter (reaches y) bs) d.2 in
          rw (filter_no (spot x y') b bs (spot_right x y' b (omega arith)))
          (none_right b.right z x y y' ge le bs d.2)
      | inr e ↦
          rw (filter_no (spot x y') b bs (spot_ended x y' b (not_below y y' b le e)))
          (none_right a z x y y' ge le bs (rw (filter_no (reaches y) b bs e) at c))
    ]

-- a chain covers no slot twice
pub at_most_one : (a x y y' : ℕ) → y ≤ y' → (bs : List Block) → Chain a (filter (reaches y) bs) →
    length (filter (spot x y') bs) ≤ 1
at_most_one a x y y' le [] c = omega arith
at_most_one a x y y' le (b ∷ bs) c =
    elim (cases_Bool (reaches y b)) [
      | inl e ↦
          let d : Chain a (b ∷ filter (reaches y) bs) = chain_yes a y b bs e c in
          elim (cases_Bool (spot x y' b)) [
            | inl t ↦
                rw (filter_yes (spot x y') b bs t)
                (let none : filter (spot x y') bs ≡ [] = none_left b.right x y y' (spot_before x y' b t) le bs d.2 in
                rw none (omega arith))
            | inr f ↦ rw (filter_no (spot x y') b bs f) (at_most_one b.right x y y' le bs d.2)
          ]
      | inr e ↦
          rw (filter_no (spot x y') b bs (spot_ended x y' b (not_below y y' b le e)))
          (at_most_one a x y y' le bs (chain_no a y b bs e c))
    ]

-- two chains, one after the other
pub chain_append : (a z : ℕ) (bs cs : List Block) → ChainTo a bs z → Chain z cs → Chain a (bs ++ cs)
chain_append a z [] cs c d = chain_from a z cs c d
chain_append a z (b ∷ bs) cs c d = (c.0, c.1, chain_append b.right z bs cs c.2 d)

-- one more block at a chain's end
pub chain_push : (a z : ℕ) (bs : List Block) (b : Block) → ChainTo a bs z → z ≤ b.left → b.left < b.right →
    ChainTo a (bs ++ b ∷ []) b.right
chain_push a z [] b c l r = (omega arith, r, omega arith)
chain_push a z (x ∷ bs) b c l r = (c.0, c.1, chain_push x.right z bs b c.2 l r)

-- a chain still is one where only what reaches a row further down is kept
pub chain_kept : (a y y' : ℕ) → y ≤ y' → (bs : List Block) → Chain a (filter (reaches y) bs) → Chain a (filter (reaches y') bs)
chain_kept a y y' le [] c = c
chain_kept a y y' le (b ∷ bs) c =
    elim (cases_Bool (reaches y b)) [
      | inl e ↦
          let d : Chain a (b ∷ filter (reaches y) bs) = chain_yes a y b bs e c in
          let rest : Chain b.right (filter (reaches y') bs) = chain_kept b.right y y' le bs d.2 in
          elim (cases_Bool (reaches y' b)) [
            | inl t ↦ rw (filter_yes (reaches y') b bs t) (d.0, d.1, rest)
            | inr f ↦
                rw (filter_no (reaches y') b bs f)
                (chain_from a b.right (filter (reaches y') bs) (omega (arith, d.0, d.1)) rest)
          ]
      | inr e ↦
          rw (filter_no (reaches y') b bs (not_below y y' b le e))
          (chain_kept a y y' le bs (chain_no a y b bs e c))
    ]
