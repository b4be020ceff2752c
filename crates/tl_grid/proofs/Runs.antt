-- Where a walk may begin after the blocks of a run.
use Rattle.std.proofs.Common.{◌≡◌, ℕ, ◌+◌, ◌<◌, ◌≤◌, zero, suc, true, leb, List, [], ◌∷◌, ◌++◌, length, take, drop}
use Rattle.std.proofs.Common.{refl, sym, ap, ◌∙◌, subst, inl, inr, ◌⊎◌, arith, append_assoc}
use Rattle.std.proofs.lemmas.Bool.{le-leb, lt-ltb, or_left, or_right, cases_Bool}
use Rattle.std.proofs.lemmas.List.{length-append, length-take-le, take-append-le, take-append-drop}
use Rattle.tl_grid.specs.declared.block.Block.{Block}
use Rattle.tl_grid.specs.declared.open_blocks.Run.{Run}
use Rattle.tl_grid.specs.inner.OpenBlocks.{reaches, Walk, pass_taken, HoldsRun}
use Rattle.tl_grid.proofs.Passing.{pass_on, pass_stop, pass_ended}

-- where the walk over some blocks passes them all, the walk over more goes on from there
pub pass_append : (y : ℕ) (qs rs : List Block) (x : ℕ) (ps : List Block) (column : ℕ) (passed : List Block) →
    pass_taken y x ps qs ≡ record { column = column; passed = passed; ahead = [] } →
    pass_taken y x ps (qs ++ rs) ≡ pass_taken y column passed rs
pass_append y [] rs x ps column passed e =
    let here : x ≡ column = ap (λ (w : Walk). w.column) e in
    let same : ps ≡ passed = ap (λ (w : Walk). w.passed) e in
    ap (λ c. pass_taken y c ps rs) here ∙ ap (λ l. pass_taken y column l rs) same
pass_append y (b ∷ qs) rs x ps column passed e =
    elim (cases_Bool (reaches y b)) [
      | inl r ↦
          elim (cases_Bool (leb b.left x)) [
            | inl f ↦
                pass_on y x ps b (qs ++ rs) r f
                ∙ pass_append y qs rs b.right (ps ++ b ∷ []) column passed (sym (pass_on y x ps b qs r f) ∙ e)
            | inr f ↦ absurd (let some : b ∷ qs ≡ [] = ap (λ (w : Walk). w.ahead) (sym (pass_stop y x ps b qs r f) ∙ e) in cc)
          ]
      | inr r ↦
          pass_ended y x ps b (qs ++ rs) r
          ∙ pass_append y qs rs x ps column passed (sym (pass_ended y x ps b qs r) ∙ e)
    ]

-- the walk from where a walk has come to comes no further
pub pass_again : (y : ℕ) (qs : List Block) (x : ℕ) (ps : List Block) →
    pass_taken y (pass_taken y x ps qs).column (pass_taken y x ps qs).passed (pass_taken y x ps qs).ahead ≡ pass_taken y x ps qs
pass_again y [] x ps = refl
pass_again y (b ∷ qs) x ps =
    let P : Walk → Type 0 = λ w. pass_taken y w.column w.passed w.ahead ≡ w in
    elim (cases_Bool (reaches y b)) [
      | inl r ↦
          elim (cases_Bool (leb b.left x)) [
            | inl f ↦ subst P (sym (pass_on y x ps b qs r f)) (pass_again y qs b.right (ps ++ b ∷ []))
            | inr f ↦ subst P (sym (pass_stop y x ps b qs r f)) (pass_stop y x ps b qs r f)
          ]
      | inr r ↦ subst P (sym (pass_ended y x ps b qs r)) (pass_again y qs x ps)
    ]

-- a prefix of a prefix
take_take : (xs : List Block) (n : ℕ) → take n (take n xs) ≡ take n xs
take_take xs zero = refl
take_take [] (suc n) = refl
take_take (x ∷ xs) (suc n) = ap (λ l. x ∷ l) (take_take xs n)

-- the whole list
take_all : (xs : List Block) (n : ℕ) → length xs ≤ n → take n xs ≡ xs
take_all [] zero le = refl
take_all [] (suc n) le = refl
take_all (x ∷ xs) zero le = absurd (omega arith)
take_all (x ∷ xs) (suc n) le = ap (λ l. x ∷ l) (take_all xs n (omega arith))

-- two ways to split one list at the same place have the same prefix
pub prefix_is : (ps qs xs ys : List Block) (n : ℕ) → length ps ≡ n → n ≤ length xs → ps ++ qs ≡ xs ++ ys → ps ≡ take n xs
prefix_is [] qs xs ys zero long le e = refl
prefix_is [] qs xs ys (suc n) long le e = absurd (omega arith)
prefix_is (p ∷ ps) qs xs ys zero long le e = absurd (omega arith)
prefix_is (p ∷ ps) qs [] ys (suc n) long le e = absurd (omega arith)
prefix_is (p ∷ ps) qs (x ∷ xs) ys (suc n) long le e =
    let first : p ≡ x = cc in
    let rest : ps ++ qs ≡ xs ++ ys = cc in
    ap (λ q. q ∷ ps) first ∙ ap (λ l. x ∷ l) (prefix_is ps qs xs ys n (omega arith) (omega arith) rest)

-- and the same rest
pub rest_is : (ps qs xs ys : List Block) (n : ℕ) → length ps ≡ n → n ≤ length xs → ps ++ qs ≡ xs ++ ys → qs ≡ drop n xs ++ ys
rest_is [] qs xs ys zero long le e = e
rest_is [] qs xs ys (suc n) long le e = absurd (omega arith)
rest_is (p ∷ ps) qs xs ys zero long le e = absurd (omega arith)
rest_is (p ∷ ps) qs [] ys (suc n) long le e = absurd (omega arith)
rest_is (p ∷ ps) qs (x ∷ xs) ys (suc n) long le e =
    let rest : ps ++ qs ≡ xs ++ ys = cc in rest_is ps qs xs ys n (omega arith) (omega arith) rest

-- one more element
length_push : (xs : List Block) (b : Block) → length (xs ++ b ∷ []) ≡ suc (length xs)
length_push xs b = omega (arith, length-append xs (b ∷ []))

-- no blocks are a run, too
pub no_run : (column : ℕ) (passed : List Block) (run : Run) → HoldsRun column passed run →
    HoldsRun column passed record { count = 0; column = 0; until = 0 }
no_run column passed run holds =
    let few : run.count ≤ length passed = holds.few in
    record {
      few = omega arith;
      level = λ e. holds.level (omega arith) ∙ holds.start (omega arith);
      start = λ e. refl;
      passes = λ y lt. absurd (omega arith);
    }

-- a run stays one where one more block is passed
pub run_stays : (column : ℕ) (passed : List Block) (run : Run) (b : Block) → HoldsRun column passed run →
    HoldsRun b.right (passed ++ b ∷ []) run
run_stays column passed run b holds =
    let few : run.count ≤ length passed = holds.few in
    let more : length (passed ++ b ∷ []) ≡ suc (length passed) = length_push passed b in
    let same : take run.count (passed ++ b ∷ []) ≡ take run.count passed = take-append-le run.count passed (b ∷ []) few in
    let P : List Block → Type 0 = λ l. (y : ℕ) → y < run.until →
    pass_taken y 0 [] l ≡ record { column = run.column; passed = l; ahead = [] } in
    record {
      few = omega arith;
      level = λ e. absurd (omega arith);
      start = holds.start;
      passes = subst P (sym same) holds.passes;
    }

-- a run takes in one more block, which takes the rows above `until`
run_on : (column : ℕ) (passed : List Block) (run : Run) (until : ℕ) (b : Block) → HoldsRun column passed run →
    length passed ≡ run.count → b.left ≤ column → ((y : ℕ) → y < until → reaches y b ≡ true) →
    ((y : ℕ) → y < until → pass_taken y 0 [] passed ≡ record { column = column; passed = passed; ahead = [] }) →
    HoldsRun b.right (passed ++ b ∷ []) record { count = run.count + 1; column = b.right; until = until }
run_on column passed run until b holds at left alive before =
    let more : length (passed ++ b ∷ []) ≡ suc (length passed) = length_push passed b in
    let same : take (run.count + 1) (passed ++ b ∷ []) ≡ passed ++ b ∷ [] =
    take_all (passed ++ b ∷ []) (run.count + 1) (omega arith) in
    let P : List Block → Type 0 = λ l. (y : ℕ) → y < until →
    pass_taken y 0 [] l ≡ record { column = b.right; passed = l; ahead = [] } in
    record {
      few = omega arith;
      level = λ e. refl;
      start = λ e. absurd (omega arith);
      passes = subst P (sym same)
          (λ y lt. pass_append y passed (b ∷ []) 0 [] column passed (before y lt)
          ∙ pass_on y column passed b [] (alive y lt) (le-leb b.left column left));
    }

-- a block takes the rows above its end
pub alive_to : (b : Block) (end : ℕ) → (b.grows ≡ true) ⊎ (end ≤ b.bottom) → (y : ℕ) → y < end → reaches y b ≡ true
alive_to b end (inl grows) y lt = or_left b.grows _ grows
alive_to b end (inr le) y lt = or_right b.grows _ (lt-ltb y b.bottom (omega arith))

-- the first block of a run
pub run_first : (column : ℕ) (passed : List Block) (run : Run) (end : ℕ) (b : Block) →
    HoldsRun column passed run → length passed ≡ run.count → run.count ≡ 0 → b.left ≤ column →
    (b.grows ≡ true) ⊎ (end ≤ b.bottom) →
    HoldsRun b.right (passed ++ b ∷ []) record { count = run.count + 1; column = b.right; until = end }
run_first column [] run end b holds at none left ends =
    let start : column ≡ 0 = holds.level at ∙ holds.start none in
    run_on column [] run end b holds at left (alive_to b end ends)
    (λ y lt. λ i. record { column = sym start i; passed = []; ahead = [] })
run_first column (p ∷ passed) run end b holds at none left ends = absurd (omega arith)

-- a further block of a run
pub run_next : (column : ℕ) (passed : List Block) (run : Run) (end : ℕ) (b : Block) →
    HoldsRun column passed run → length passed ≡ run.count → run.until ≤ end → b.left ≤ column →
    (b.grows ≡ true) ⊎ (end ≤ b.bottom) →
    HoldsRun b.right (passed ++ b ∷ []) record { count = run.count + 1; column = b.right; until = run.until }
run_next column passed run end b holds at le left ends =
    let all : take run.count passed ≡ passed = take_all passed run.count (omega arith) in
    let P : List Block → Type 0 = λ l. (y : ℕ) → y < run.until →
    pass_taken y 0 [] l ≡ record { column = run.column; passed = l; ahead = [] } in
    let here : column ≡ run.column = holds.level at in
    run_on column passed run run.until b holds at left (λ y lt. alive_to b end ends y (omega arith))
    (λ y lt. subst P all holds.passes y lt ∙ (λ i. record { column = sym here i; passed = passed; ahead = [] }))

-- after a rewind the walk stands at the end of the run
pub run_rewound : (column : ℕ) (passed : List Block) (run : Run) → HoldsRun column passed run →
    HoldsRun run.column (take run.count passed) run
run_rewound column passed run holds =
    let few : run.count ≤ length passed = holds.few in
    let long : length (take run.count passed) ≡ run.count = length-take-le run.count passed few in
    let P : List Block → Type 0 = λ l. (y : ℕ) → y < run.until →
    pass_taken y 0 [] l ≡ record { column = run.column; passed = l; ahead = [] } in
    record {
      few = omega arith;
      level = λ e. refl;
      start = holds.start;
      passes = subst P (sym (take_take passed run.count)) holds.passes;
    }

-- the walk from the end of a run is the walk from column 0
pub run_begins : (passed ahead : List Block) (run : Run) (y : ℕ) →
    pass_taken y 0 [] (take run.count passed) ≡ record { column = run.column; passed = take run.count passed; ahead = [] } →
    pass_taken y run.column (take run.count passed) (drop run.count passed ++ ahead) ≡ pass_taken y 0 [] (passed ++ ahead)
run_begins passed ahead run y passes =
    sym (pass_append y (take run.count passed) (drop run.count passed ++ ahead) 0 [] run.column (take run.count passed) passes)
    ∙ ap (pass_taken y 0 []) (sym (append_assoc (take run.count passed) (drop run.count passed) ahead)
    ∙ ap (λ l. l ++ ahead) (take-append-drop run.count passed))
