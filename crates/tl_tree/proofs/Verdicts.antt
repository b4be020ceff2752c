-- The first fault that the machine meets is the one that the grammar has.
use Rattle.std.proofs.Common.{◌≡◌, ◌<◌, ◌≤◌, ℕ, ◌+◌, ◌⊎◌, Bool, true, false, List, [], ◌∷◌, ◌++◌, length, Option, Some, None}
use Rattle.std.proofs.Common.{refl, sym, ap, ◌∙◌, subst, inl}
use Rattle.std.proofs.Common.{inr, cond, arith, add-zero}
use Rattle.std.proofs.lemmas.Bool.{false≢true}
use Rattle.std.proofs.lemmas.Bool.Decides.{nat_tests}
use Rattle.std.proofs.lemmas.List.{append-nil}
use Rattle.std.specs.Prelude.{nat_le}
use Rattle.tl_base.specs.declared.limits.TheConstants.{MAX_DEPTH, MAX_TABLES}
use Rattle.tl_tree.specs.declared.error.TreeError.{TreeError}
use Rattle.tl_tree.specs.declared.error.TreeError.TheVariants.{Memory, NoTable, StrayText, Misplaced, Unclosed, TooDeep}
use Rattle.tl_tree.specs.declared.error.TreeError.TheVariants.{TooManyTables}
use Rattle.tl_tree.specs.Tags.{Kind, Kinds, text, table_start, table_end, outer_tag, is_white, is_text, is_table_start}
use Rattle.tl_tree.specs.Grammar.{Marks, DocumentTokens}
use Rattle.tl_tree.specs.Spelling.{IsPrefix, depth_after, tables_with, tables_after, FitsLimits, FitLimits, IsWithinLimits}
use Rattle.tl_tree.specs.Spelling.{IsWrongAt, AreNoDocument}
use Rattle.tl_tree.specs.inner.Machine.{Holder, Place, opened, in_flow, Move, to, enter, leave, never, move, moved}
use Rattle.tl_tree.specs.inner.Machine.{DocumentState, before}
use Rattle.tl_tree.specs.inner.Machine.{inside, after, failed}
use Rattle.tl_tree.specs.inner.Machine.{next, reached, all_told}
use Rattle.tl_tree.specs.inner.Verdict.{is_failed, depth, misfit, limit_fault, fault, end_fault, verdict}
use Rattle.tl_tree.proofs.Moves.{reached-failed}
use Rattle.tl_tree.proofs.MachineWhole.{document_whole}
use Rattle.tl_tree.proofs.MachineSound.{document_sound}
use Rattle.tl_tree.proofs.Depths.{depth-next}

pub reached-append : (s : DocumentState) (prefix rest : Kinds) → reached s (prefix ++ rest) ≡ reached (reached s prefix) rest
reached-append s [] rest = refl
reached-append s (k ∷ prefix) rest = reached-append (next s k) prefix rest

failed_is : (s : DocumentState) → is_failed s ≡ true → s ≡ failed
failed_is failed h = refl
failed_is before h = absurd (false≢true h)
failed_is (inside p hs) h = absurd (false≢true h)
failed_is after h = absurd (false≢true h)

fails : (ks : Kinds) → is_failed (reached failed ks) ≡ true
fails ks = ap is_failed (reached-failed ks)

-- a state from which tokens lead on is not failed
pub alive_before : (s : DocumentState) (ks : Kinds) → is_failed (reached s ks) ≡ false → is_failed s ≡ false
alive_before s ks alive = by_test (is_failed s) refl
  where
    by_test : (b : Bool) → is_failed s ≡ b → is_failed s ≡ false
    by_test false h = h
    by_test true h =
        let P : DocumentState → Type 0 = λ x. is_failed (reached x ks) ≡ false in
        absurd (false≢true (sym (subst P (failed_is s h) alive) ∙ fails ks))

-- the end tags of the tables that are open, or a whole table
closing_tags : List Holder → Kinds
closing_tags [] = table_end ∷ []
closing_tags (holder ∷ hs) = table_end ∷ closing_tags hs

closing : DocumentState → Kinds
closing before = table_start ∷ table_end ∷ []
closing (inside p hs) = closing_tags hs
closing after = []
closing failed = []

closes_all : (p : Place) (hs : List Holder) → reached (inside p hs) (closing_tags hs) ≡ after
unfolding closing_tags
closes_all p [] = refl
closes_all p (holder ∷ hs) = closes_all (in_flow holder) hs

closed : (s : DocumentState) → is_failed s ≡ false → reached s (closing s) ≡ after
unfolding closing
closed before alive = refl
closed (inside p hs) alive = closes_all p hs
closed after alive = refl
closed failed alive = absurd (false≢true (sym alive))

-- tokens are a prefix of a document where the machine has not failed
pub prefix_alive : (ks : Kinds) → IsPrefix ks → is_failed (reached before ks) ≡ false
prefix_alive ks (more, ms, d) =
    let e : reached (reached before ks) more ≡ after = sym (reached-append before ks more) ∙ (document_whole d).ends in
    alive_before (reached before ks) more (ap is_failed e)

pub alive_prefix : (ks : Kinds) → is_failed (reached before ks) ≡ false → IsPrefix ks
alive_prefix ks alive = (
  closing (reached before ks),
  all_told before (ks ++ closing (reached before ks)),
  document_sound (record {
    ends = reached-append before ks (closing (reached before ks)) ∙ closed (reached before ks)
        alive;
    tells = refl;
  }),
)

pub no_prefix : (prefix : Kinds) (k : Kind) → ¬ (IsPrefix (prefix ++ k ∷ [])) → is_failed (next (reached before prefix) k) ≡ true
no_prefix prefix k none = by_test (is_failed (next (reached before prefix) k)) refl
  where
    by_test : (b : Bool) → is_failed (next (reached before prefix) k) ≡ b → is_failed (next (reached before prefix) k) ≡ true
    by_test true h = h
    by_test false h = absurd (none (alive_prefix (prefix ++ k ∷ []) (ap is_failed (reached-append before prefix (k ∷ [])) ∙ h)))

pub is_no_prefix : (prefix : Kinds) (k : Kind) → is_failed (next (reached before prefix) k) ≡ true →
    ¬ (IsPrefix (prefix ++ k ∷ []))
is_no_prefix prefix k h p =
    false≢true (sym (prefix_alive (prefix ++ k ∷ []) p) ∙ ap is_failed (reached-append before prefix (k ∷ [])) ∙ h)

pub alive_next : (prefix : Kinds) (k : Kind) → IsPrefix (prefix ++ k ∷ []) → is_failed (next (reached before prefix) k) ≡ false
alive_next prefix k p = sym (ap is_failed (reached-append before prefix (k ∷ []))) ∙ prefix_alive (prefix ++ k ∷ []) p

prefix_next : (prefix : Kinds) (k : Kind) → is_failed (next (reached before prefix) k) ≡ false → IsPrefix (prefix ++ k ∷ [])
prefix_next prefix k h = alive_prefix (prefix ++ k ∷ []) (ap is_failed (reached-append before prefix (k ∷ [])) ∙ h)

-- the tables that are open are those that the tags count
pub depth-reached : (s : DocumentState) (ks : Kinds) → is_failed (reached s ks) ≡ false →
    depth (reached s ks) ≡ depth_after (depth s) ks
depth-reached s [] alive = refl
depth-reached s (k ∷ ks) alive =
    let P : ℕ → Type 0 = λ x. depth (reached (next s k) ks) ≡ depth_after x ks in
    subst P (depth-next s k (alive_before (next s k) ks alive)) (depth-reached (next s k) ks alive)

-- a token without a fault
no_fault : (n tables : ℕ) (s : DocumentState) (k : Kind) → is_failed (next s k) ≡ false → FitsLimits (depth s) tables k →
    fault n tables s k ≡ None
no_fault n tables s table_start alive (shallow, few) = rw alive (limits (depth s) shallow)
  where
    limits : (d : ℕ) → d < MAX_DEPTH → limit_fault n tables d ≡ None
    limits d h = let a : nat_le MAX_DEPTH d ≡ false = grind (arith, nat_tests) in
        let b : nat_le MAX_TABLES tables ≡ false = grind (arith, nat_tests) in rw (a, b) refl
no_fault n tables s k alive fits = rw alive refl

-- tokens without a fault lead on
pub passes : (n tables : ℕ) (s : DocumentState) (prefix rest : Kinds) → is_failed (reached s prefix) ≡ false →
    FitLimits (depth s) tables prefix
    → verdict n tables s (prefix ++ rest) ≡ verdict (n + length prefix) (tables_after tables prefix) (reached s prefix) rest
passes n tables s [] rest alive fits = ap (λ x. verdict x tables s rest) (sym (add-zero n))
passes n tables s (k ∷ prefix) rest alive (here, later) =
    let still = alive_before (next s k) prefix alive in
    let P : ℕ → Type 0 = λ x. FitLimits x (tables_with tables k) prefix in
    let e = passes (n + 1) (tables_with tables k) (next s k) prefix rest alive (subst P (sym (depth-next s k still)) later) in
    let c : n + 1 + length prefix ≡ n + length (k ∷ prefix) = omega arith in
    rw (no_fault n tables s k still here) (e ∙ ap (λ x. verdict x (tables_after tables (k ∷ prefix)) (reached s (k ∷ prefix))
    rest) c)

-- what a token without a fault says
fault_none : (n tables : ℕ) (s : DocumentState) (k : Kind) → fault n tables s k ≡ None →
    (is_failed (next s k) ≡ false) × FitsLimits (depth s) tables k
fault_none n tables s k h = by_test (is_failed (next s k)) refl
  where
    limits : (k : Kind) → cond (is_table_start k) (limit_fault n tables (depth s)) None ≡ None → FitsLimits (depth s) tables k
    limits table_start e = by_depth (nat_le MAX_DEPTH (depth s)) refl
      where
        by_tables : (b : Bool) → nat_le MAX_TABLES tables ≡ b → nat_le MAX_DEPTH (depth s) ≡ false →
            (depth s < MAX_DEPTH) × (tables < MAX_TABLES)
        by_tables false few shallow = (grind (arith, nat_tests), grind (arith, nat_tests))
        by_tables true many shallow = absurd (let c : Some (TooManyTables n) ≡ None = sym (rw (shallow, many) refl) ∙ e in cc)

        by_depth : (b : Bool) → nat_le MAX_DEPTH (depth s) ≡ b → (depth s < MAX_DEPTH) × (tables < MAX_TABLES)
        by_depth false shallow = by_tables (nat_le MAX_TABLES tables) refl shallow
        by_depth true deep = absurd (let c : Some (TooDeep n) ≡ None = sym (rw deep refl) ∙ e in cc)
    limits _ e = tt

    by_test : (b : Bool) → is_failed (next s k) ≡ b → (is_failed (next s k) ≡ false) × FitsLimits (depth s) tables k
    by_test false alive = (alive, limits k (rw alive at h))
    by_test true dead = absurd (let c : Some (misfit n k) ≡ None = sym (rw dead refl) ∙ h in cc)

-- where the first fault stands
data Finds (n tables : ℕ) (s : DocumentState) (ks : Kinds) (e : TreeError) : Type 0 where
  at_token : (prefix : Kinds) (k : Kind) (rest : Kinds) → ks ≡ prefix ++ (k ∷ rest) → is_failed (reached s prefix) ≡ false
      → FitLimits (depth s) tables prefix → fault (n + length prefix) (tables_after tables prefix) (reached s prefix) k ≡ Some e
      → Finds n tables s ks e
  at_end : is_failed (reached s ks) ≡ false → FitLimits (depth s) tables ks → end_fault (reached s ks) ≡ Some e →
      Finds n tables s ks e

found_later : (n tables : ℕ) (s : DocumentState) (k : Kind) (ks : Kinds) (e : TreeError) →
    (is_failed (next s k) ≡ false) × FitsLimits (depth s) tables k
    → Finds (n + 1) (tables_with tables k) (next s k) ks e → Finds n tables s (k ∷ ks) e
found_later n tables s k ks e (still, here) (at_token prefix k' rest split goes fits found) =
    let P : ℕ → Type 0 = λ x. FitLimits x (tables_with tables k) prefix in
    let c : n + 1 + length prefix ≡ n + length (k ∷ prefix) = omega arith in
    at_token (k ∷ prefix) k' rest (ap (λ x. k ∷ x) split) goes (here, subst P (depth-next s k still) fits)
    (sym (ap (λ x. fault x (tables_after tables (k ∷ prefix)) (reached s (k ∷ prefix)) k') c) ∙ found)
found_later n tables s k ks e (still, here) (at_end goes fits found) =
    let P : ℕ → Type 0 = λ x. FitLimits x (tables_with tables k) ks in
    at_end goes (here, subst P (depth-next s k still) fits) found

find : (n tables : ℕ) (s : DocumentState) (ks : Kinds) (e : TreeError) → is_failed s ≡ false → verdict n tables s ks ≡ Some e →
    Finds n tables s ks e
find n tables s [] e alive h = at_end alive tt h
find n tables s (k ∷ ks) e alive h = by_fault (λ still later. find (n + 1) (tables_with tables k) (next s k) ks e still later)
    (fault n tables s k) refl
  where
    by_fault : (is_failed (next s k) ≡ false → verdict (n + 1) (tables_with tables k) (next s k) ks ≡ Some e →
        Finds (n + 1) (tables_with tables k) (next s k) ks e)
        → (o : Option TreeError) → fault n tables s k ≡ o → Finds n tables s (k ∷ ks) e
    by_fault go None none =
        let clean = fault_none n tables s k none in
        found_later n tables s k ks e clean (go clean.0 (rw none at h))
    by_fault go (Some found) some =
        let same : Some found ≡ Some e = sym (rw some refl) ∙ h in
        at_token [] k ks refl alive tt (ap (λ x. fault x tables s k) (add-zero n) ∙ some ∙ same)

-- tokens without a first fault
pub fine : (n tables : ℕ) (s : DocumentState) (ks : Kinds) → is_failed s ≡ false → verdict n tables s ks ≡ None
    → (reached s ks ≡ after) × FitLimits (depth s) tables ks
fine n tables before [] alive h = absurd (cc)
fine n tables (inside p hs) [] alive h = absurd (cc)
fine n tables after [] alive h = (refl, tt)
fine n tables failed [] alive h = absurd (cc)
fine n tables s (k ∷ ks) alive h = by_fault (λ still later. fine (n + 1) (tables_with tables k) (next s k) ks still later)
    (fault n tables s k) refl
  where
    by_fault : (is_failed (next s k) ≡ false → verdict (n + 1) (tables_with tables k) (next s k) ks ≡ None
        → (reached (next s k) ks ≡ after) × FitLimits (depth (next s k)) (tables_with tables k) ks)
        → (o : Option TreeError) → fault n tables s k ≡ o → (reached s (k ∷ ks) ≡ after) × FitLimits (depth s) tables (k ∷ ks)
    by_fault go None none =
        let (still, here) = fault_none n tables s k none in
        let (ends, fits) = go still (rw none at h) in
        let P : ℕ → Type 0 = λ x. FitLimits x (tables_with tables k) ks in
        (ends, (here, subst P (depth-next s k still) fits))
    by_fault go (Some found) some = absurd (let c : Some found ≡ None = sym (rw some refl) ∙ h in cc)

-- whether a table has begun
begun : DocumentState → Bool
begun before = false
begun _ = true

begun_if : (b : Bool) → begun (cond b after failed) ≡ true
unfolding begun
begun_if true = refl
begun_if false = refl

moved_begun : (hs : List Holder) (m : Move) → begun (moved hs m) ≡ true
unfolding begun
moved_begun hs (to p ms) = refl
moved_begun hs (enter holder) = refl
moved_begun [] (leave ms) = refl
moved_begun (holder ∷ hs) (leave ms) = refl
moved_begun hs never = refl

stays_begun : (s : DocumentState) (k : Kind) → begun s ≡ true → begun (next s k) ≡ true
unfolding begun
stays_begun before k h = absurd (false≢true h)
stays_begun (inside p hs) k h = moved_begun hs (move p k)
stays_begun after (text cs) h = begun_if (is_white (text cs))
stays_begun after outer_tag h = refl
stays_begun after _ h = refl
stays_begun failed k h = refl

kept_begun : (s : DocumentState) (ks : Kinds) → begun s ≡ true → begun (reached s ks) ≡ true
kept_begun s [] h = h
kept_begun s (k ∷ ks) h = kept_begun (next s k) ks (stays_begun s k h)

not_begun : (s : DocumentState) (ks : Kinds) → begun s ≡ true → reached s ks ≡ before → ⊥
unfolding begun
not_begun s ks h e = false≢true (sym (ap begun e) ∙ kept_begun s ks h)

white_or_failed : (b : Bool) (ks : Kinds) → reached (cond b before failed) ks ≡ before → reached before ks ≡ before
white_or_failed true ks h = h
white_or_failed false ks h = absurd (let c : failed ≡ before = sym (reached-failed ks) ∙ h in cc)

pub no_table : (tables : ℕ) (ks : Kinds) → reached before ks ≡ before → tables_after tables ks ≡ tables
unfolding begun
no_table tables [] h = refl
no_table tables (text cs ∷ ks) h = no_table tables ks (white_or_failed (is_white (text cs)) ks h)
no_table tables (outer_tag ∷ ks) h = no_table tables ks h
no_table tables (table_start ∷ ks) h = absurd (not_begun (inside opened []) ks refl h)
no_table tables (_ ∷ ks) h = absurd (not_begun failed ks refl h)

with_rises : (tables : ℕ) (k : Kind) → tables ≤ tables_with tables k
with_rises tables table_start = omega arith
with_rises tables _ = omega arith

tables_rise : (tables : ℕ) (ks : Kinds) → tables ≤ tables_after tables ks
tables_rise tables [] = omega arith
tables_rise tables (k ∷ ks) = let a = with_rises tables k in let b = tables_rise (tables_with tables k) ks in omega arith

alive_if : (b : Bool) (ks : Kinds) → is_failed (reached (cond b before failed) ks) ≡ false
    → (reached before ks ≡ reached (cond b before failed) ks) × (is_failed (reached before ks) ≡ false)
alive_if true ks h = (refl, h)
alive_if false ks h = absurd (false≢true (sym h ∙ fails ks))

still_before : (tables d : ℕ) (ks : Kinds) → is_failed (reached before ks) ≡ false → tables_after tables ks ≡ tables
    → (reached before ks ≡ before) × FitLimits d tables ks
still_before tables d [] alive h = (refl, tt)
still_before tables d (text cs ∷ ks) alive h =
    let (same, still) = alive_if (is_white (text cs)) ks alive in
    let (stays, fits) = still_before tables d ks still h in
    (sym same ∙ stays, (tt, fits))
still_before tables d (outer_tag ∷ ks) alive h = let (stays, fits) = still_before tables d ks alive h in (stays, (tt, fits))
still_before tables d (table_start ∷ ks) alive h = absurd (let r = tables_rise (tables + 1) ks in omega arith)
still_before tables d (_ ∷ ks) alive h = absurd (false≢true (sym alive ∙ fails ks))

-- the error of a token, from the grammar to the machine
at_place : (ks prefix rest : Kinds) (k : Kind) (e : TreeError) → ks ≡ prefix ++ (k ∷ rest) → IsPrefix prefix →
    IsWithinLimits prefix
    → fault (0 + length prefix) (tables_after 0 prefix) (reached before prefix) k ≡ Some e → verdict 0 0 before ks ≡ Some e
at_place ks prefix rest k e split begins within h =
    ap (λ x. verdict 0 0 before x) split ∙ passes 0 0 before prefix (k ∷ rest) (prefix_alive prefix begins) within ∙ rw h refl

pub misfit_fault : (n tables : ℕ) (s : DocumentState) (k : Kind) → is_failed (next s k) ≡ true →
    fault n tables s k ≡ Some (misfit n k)
misfit_fault n tables s k h = rw h refl

text_misfit : (n m : ℕ) (k : Kind) → is_text k ≡ true → n ≡ m → misfit n k ≡ StrayText m
text_misfit n m k h e = rw h (ap StrayText e)

tag_misfit : (n m : ℕ) (k : Kind) → is_text k ≡ false → n ≡ m → misfit n k ≡ Misplaced m
tag_misfit n m k h e = rw h (ap Misplaced e)

pub deep_fault : (n m tables d : ℕ) → MAX_DEPTH ≤ d → n ≡ m → limit_fault n tables d ≡ Some (TooDeep m)
deep_fault n m tables d h e = let a : nat_le MAX_DEPTH d ≡ true = grind (arith, nat_tests) in rw a (ap (λ x. Some (TooDeep x)) e)

pub many_fault : (n m tables d : ℕ) → d < MAX_DEPTH → MAX_TABLES ≤ tables → n ≡ m →
    limit_fault n tables d ≡ Some (TooManyTables m)
many_fault n m tables d shallow many e =
    let a : nat_le MAX_DEPTH d ≡ false = grind (arith, nat_tests) in
    let b : nat_le MAX_TABLES tables ≡ true = grind (arith, nat_tests) in
    rw (a, b) (ap (λ x. Some (TooManyTables x)) e)

pub table_fault : (n tables : ℕ) (s : DocumentState) (k : Kind) → k ≡ table_start → is_failed (next s k) ≡ false →
    fault n tables s k ≡ limit_fault n tables (depth s)
table_fault n tables s k e alive = rw alive (ap (λ x. cond (is_table_start x) (limit_fault n tables (depth s)) None) e)

-- Each error whose cause is so is the first fault.
pub refused_first : (ks : Kinds) (e : TreeError) → AreNoDocument ks e → verdict 0 0 before ks ≡ Some e
refused_first ks (Memory error) h = absurd h
refused_first ks NoTable (begins, none) =
    let (stays, fits) = still_before 0 0 ks (prefix_alive ks begins) none in
    ap (λ x. verdict 0 0 before x) (sym (append-nil ks)) ∙ passes 0 0 before ks [] (prefix_alive ks begins)
    fits ∙ ap end_fault stays
refused_first ks Unclosed (begins, within, deep) =
    let alive = prefix_alive ks begins in
    ap (λ x. verdict 0 0 before x) (sym (append-nil ks)) ∙ passes 0 0 before ks [] alive within
    ∙ ended (reached before ks) alive (let P : ℕ → Type 0 = λ x. 0 < x in subst P (sym (depth-reached before ks alive)) deep)
  where
    ended : (s : DocumentState) → is_failed s ≡ false → 0 < depth s → end_fault s ≡ Some Unclosed
    ended before alive h = absurd (omega arith)
    ended (inside p hs) alive h = refl
    ended after alive h = absurd (omega arith)
    ended failed alive h = absurd (false≢true (sym alive))
refused_first ks (StrayText n) w =
    let place : 0 + length w.prefix ≡ n = let p = w.place in omega arith in
    at_place ks w.prefix w.rest w.token (StrayText n) w.split w.begun w.within
    (misfit_fault _ _ _ w.token (no_prefix w.prefix w.token w.wrong.1) ∙ ap (λ x. Some x)
    (text_misfit _ n w.token w.wrong.0 place))
refused_first ks (Misplaced n) w =
    let place : 0 + length w.prefix ≡ n = let p = w.place in omega arith in
    at_place ks w.prefix w.rest w.token (Misplaced n) w.split w.begun w.within
    (misfit_fault _ _ _ w.token (no_prefix w.prefix w.token w.wrong.1) ∙ ap (λ x. Some x)
    (tag_misfit _ n w.token w.wrong.0 place))
refused_first ks (TooDeep n) w =
    let place : 0 + length w.prefix ≡ n = let p = w.place in omega arith in
    let same = depth-reached before w.prefix (prefix_alive w.prefix w.begun) in
    let deep : MAX_DEPTH ≤ depth (reached before w.prefix) = let d = w.wrong.2 in omega arith in
    at_place ks w.prefix w.rest w.token (TooDeep n) w.split w.begun w.within
    (table_fault _ _ _ w.token w.wrong.0 (alive_next w.prefix w.token w.wrong.1) ∙ deep_fault _ n _ _ deep place)
refused_first ks (TooManyTables n) w =
    let place : 0 + length w.prefix ≡ n = let p = w.place in omega arith in
    let same = depth-reached before w.prefix (prefix_alive w.prefix w.begun) in
    let shallow : depth (reached before w.prefix) < MAX_DEPTH = let d = w.wrong.2 in omega arith in
    at_place ks w.prefix w.rest w.token (TooManyTables n) w.split w.begun w.within
    (table_fault _ _ _ w.token w.wrong.0 (alive_next w.prefix w.token w.wrong.1) ∙ many_fault _ n _ _ shallow w.wrong.3 place)

-- a fault of a token with which a document goes on is one of a table
limited : (n tables : ℕ) (s : DocumentState) (k : Kind) (e : TreeError) → is_failed (next s k) ≡ false →
    fault n tables s k ≡ Some e
    → (k ≡ table_start) × (limit_fault n tables (depth s) ≡ Some e)
limited n tables s table_start e alive h = (refl, rw alive at h)
limited n tables s k e alive h = absurd (let c : None ≡ Some e = rw alive at h in cc)

which_limit : (n tables d : ℕ) (e : TreeError) → limit_fault n tables d ≡ Some e
    → ((TooDeep n ≡ e) × (MAX_DEPTH ≤ d)) ⊎ ((TooManyTables n ≡ e) × (d < MAX_DEPTH) × (MAX_TABLES ≤ tables))
which_limit n tables d e h = by_depth (nat_le MAX_DEPTH d) refl
  where
    by_tables : (b : Bool) → nat_le MAX_TABLES tables ≡ b → nat_le MAX_DEPTH d ≡ false → ((TooDeep n ≡ e) × (MAX_DEPTH ≤ d))
        ⊎ ((TooManyTables n ≡ e) × (d < MAX_DEPTH) × (MAX_TABLES ≤ tables))
    by_tables true many shallow =
        inr (
          let c : Some (TooManyTables n) ≡ Some e = sym (rw (shallow, many) refl) ∙ h in
              cc,
          grind (arith, nat_tests),
          grind (arith, nat_tests),
        )
    by_tables false few shallow = absurd (let c : None ≡ Some e = sym (rw (shallow, few) refl) ∙ h in cc)

    by_depth : (b : Bool) → nat_le MAX_DEPTH d ≡ b → ((TooDeep n ≡ e) × (MAX_DEPTH ≤ d)) ⊎
        ((TooManyTables n ≡ e) × (d < MAX_DEPTH) × (MAX_TABLES ≤ tables))
    by_depth true deep = inl (let c : Some (TooDeep n) ≡ Some e = sym (rw deep refl) ∙ h in cc, grind (arith, nat_tests))
    by_depth false shallow = by_tables (nat_le MAX_TABLES tables) refl shallow

-- The first fault is refused by the grammar.
pub wrong_at : (ks prefix : Kinds) (k : Kind) (rest : Kinds) (e : TreeError) → ks ≡ prefix ++ (k ∷ rest) →
    is_failed (reached before prefix) ≡ false
    → IsWithinLimits prefix → fault (0 + length prefix) (tables_after 0 prefix) (reached before prefix) k ≡ Some e →
    AreNoDocument ks e
wrong_at ks prefix k rest e split alive within h = by_test (is_failed (next (reached before prefix) k)) refl
  where
    at : {IsWrong : Kinds → Kind → Type 0} → IsWrong prefix k → IsWrongAt ks (0 + length prefix) IsWrong
    at wrong = record {
      prefix = prefix;
      token = k;
      rest = rest;
      split = split;
      place = omega arith;
      begun = alive_prefix prefix alive;
      within =
          within;
      wrong = wrong;
    }

    as_found : (found : TreeError) → fault (0 + length prefix) (tables_after 0 prefix) (reached before prefix) k ≡ Some found
        → AreNoDocument ks found → AreNoDocument ks e
    as_found found f r = let same : found ≡ e = (let c : Some found ≡ Some e = sym f ∙ h in cc) in subst (AreNoDocument ks) same r

    by_kind : (b : Bool) → is_text k ≡ b → is_failed (next (reached before prefix) k) ≡ true → AreNoDocument ks e
    by_kind true is dead =
        as_found (StrayText (0 + length prefix)) (misfit_fault _ _ _ k dead ∙ ap (λ x. Some x) (text_misfit _ _ k is refl))
        (at (is, is_no_prefix prefix k dead))
    by_kind false is dead =
        as_found (Misplaced (0 + length prefix)) (misfit_fault _ _ _ k dead ∙ ap (λ x. Some x) (tag_misfit _ _ k is refl))
        (at (is, is_no_prefix prefix k dead))

    by_limit : is_failed (next (reached before prefix) k) ≡ false → k ≡ table_start
        → ((TooDeep (0 + length prefix) ≡ e) × (MAX_DEPTH ≤ depth (reached before prefix)))
        ⊎ ((TooManyTables (0 + length prefix) ≡ e) × (depth (reached before prefix) < MAX_DEPTH) ×
        (MAX_TABLES ≤ tables_after 0 prefix))
        → AreNoDocument ks e
    by_limit goes table (inl (same, deep)) =
        let d = depth-reached before prefix alive in
        subst (AreNoDocument ks) same (at (table, prefix_next prefix k goes, omega arith))
    by_limit goes table (inr (same, shallow, many)) =
        let d = depth-reached before prefix alive in
        subst (AreNoDocument ks) same (at (table, prefix_next prefix k goes, omega arith, many))

    by_test : (b : Bool) → is_failed (next (reached before prefix) k) ≡ b → AreNoDocument ks e
    by_test true dead = by_kind (is_text k) refl dead
    by_test false goes =
        let (table, l) = limited _ _ _ k e goes h in
        by_limit goes table (which_limit _ _ _ e l)

pub first_refused : (ks : Kinds) (e : TreeError) → verdict 0 0 before ks ≡ Some e → AreNoDocument ks e
first_refused ks e h = by_place (find 0 0 before ks e refl h)
  where
    at_the_end : (s : DocumentState) → reached before ks ≡ s → is_failed s ≡ false → IsWithinLimits ks → end_fault s ≡ Some e →
        AreNoDocument ks e
    at_the_end before stands alive within f =
        let same : NoTable ≡ e = (let c : Some NoTable ≡ Some e = f in cc) in
        subst (AreNoDocument ks) same (alive_prefix ks (ap is_failed stands), no_table 0 ks stands)
    at_the_end (inside p hs) stands alive within f =
        let same : Unclosed ≡ e = (let c : Some Unclosed ≡ Some e = f in cc) in
        let live = ap is_failed stands in
        let d : length hs + 1 ≡ depth_after 0 ks = sym (ap depth stands) ∙ depth-reached before ks live in
        subst (AreNoDocument ks) same (alive_prefix ks live, within, omega arith)
    at_the_end after stands alive within f = absurd (cc)
    at_the_end failed stands alive within f = absurd (false≢true (sym alive))

    by_place : Finds 0 0 before ks e → AreNoDocument ks e
    by_place (at_token prefix k rest split alive within f) = wrong_at ks prefix k rest e split alive within f
    by_place (at_end alive within f) = at_the_end (reached before ks) refl alive within f

-- Tokens without a first fault are a document within the limits, and the other way round.
pub clean_document : (ks : Kinds) → verdict 0 0 before ks ≡ None → DocumentTokens ks (all_told before ks) × IsWithinLimits ks
clean_document ks h =
    let (ends, within) = fine 0 0 before ks refl h in
    (document_sound (record { ends = ends; tells = refl }), within)

pub document_clean : (ks : Kinds) (ms : Marks) → DocumentTokens ks ms → IsWithinLimits ks → verdict 0 0 before ks ≡ None
document_clean ks ms d within =
    let a = document_whole d in
    ap (λ x. verdict 0 0 before x) (sym (append-nil ks)) ∙ passes 0 0 before ks [] (ap is_failed a.ends)
    within ∙ ap end_fault a.ends

-- one document has one list of marks
pub same_marks : (ks : Kinds) (ms ns : Marks) → DocumentTokens ks ms → DocumentTokens ks ns → ms ≡ ns
same_marks ks ms ns d c = sym (document_whole d).tells ∙ (document_whole c).tells
