-- What has been read of a document, token by token, and what it comes to.
use Rattle.std.proofs.Common.{◌≡◌, ◌≤◌, ◌<◌, ℕ, ◌+◌, inl, inr, true, false, Some, None, Result, Ok, Err, IfOk, OnOk, List, []}
use Rattle.std.proofs.Common.{◌∷◌, ◌++◌, length, take, drop}
use Rattle.std.proofs.Common.{get_or, sum_by, refl, sym, ap, ◌∙◌, subst, arith, append_assoc, zero-add, alloc_error}
use Rattle.std.proofs.lemmas.Bool.{false≢true}
use Rattle.std.proofs.lemmas.List.{append-nil, map-append, take_more, take-append-drop, at_drop_more, take_all}
use Rattle.std.proofs.lemmas.List.Sums.{sum_by-cons, sum_by-append}
use Rattle.std.proofs.lemmas.Str.{length-le-encodes}
use Rattle.std.specs.List.{AllByRecursion}
use Rattle.std.specs.Prelude.{IfErr}
use Rattle.tl_base.specs.declared.limits.TheConstants.{MAX_FILE_BYTES, MAX_DEPTH, MAX_TABLES}
use Rattle.tl_base.specs.Returned.{ReturnsError, IsMemoryOr}
use Rattle.tl_token.specs.declared.token.Token.{Token}
use Rattle.tl_tree.specs.declared.error.TreeError.{TreeError}
use Rattle.tl_tree.specs.declared.error.TreeError.TheVariants.{Memory, TooDeep, TooManyTables}
use Rattle.tl_tree.specs.declared.stop.Stop.{Stop}
use Rattle.tl_tree.specs.declared.stop.Stop.TheVariants as stops
use Rattle.tl_tree.specs.declared.node.TableNode.{TableNode}
use Rattle.tl_tree.specs.declared.open.OpenTable.{OpenTable}
use Rattle.tl_tree.specs.declared.open.OpenTable.TheVariants as stages
use Rattle.tl_tree.specs.declared.reading.Reading.{Reading}
use Rattle.tl_tree.specs.declared.reading.Reading.TheVariants.{Before, Inside, After}
use Rattle.tl_tree.specs.Tags.{Kind, Kinds, text, table_start, kind_of, kinds, is_table_start}
use Rattle.tl_tree.specs.Outline.{outline, blocks_outline}
use Rattle.tl_tree.specs.Paragraphs.{paragraph_of, entries_of}
use Rattle.tl_tree.specs.Readable.{IsReadable, kind_size}
use Rattle.tl_tree.specs.Sound.{entry_size}
use Rattle.tl_tree.specs.Spelling.{SpellsTree, IsWithinLimits, depth_with, depth_after, tables_with, tables_after, FitsLimits}
use Rattle.tl_tree.specs.Spelling.{FitLimits, AreNoDocument, SpellsNoTree}
use Rattle.tl_tree.specs.Spelling.{ReturnsTree}
use Rattle.tl_tree.specs.inner.Machine.{DocumentState, before, next, told, reached, all_told}
use Rattle.tl_tree.specs.inner.Verdict.{is_failed, depth, misfit, end_fault, verdict}
use Rattle.tl_tree.specs.inner.Lines.{line_atoms}
use Rattle.tl_tree.specs.inner.Reading.{machine_place, place_columns, open_size, holder_so_far, outcome}
use Rattle.tl_tree.specs.inner.Documents.{around, state_of, IsModestReading, IsFresh, Reads, IsStop, stop_error, HasReadTokens}
use Rattle.tl_tree.proofs.MachineSound.{document_sound}
use Rattle.tl_tree.proofs.Verdicts.{reached-append, depth-reached, passes, refused_first, first_refused, document_clean, no_table}
use Rattle.tl_tree.proofs.Verdicts.{wrong_at}
use Rattle.tl_tree.proofs.Verdicts.{misfit_fault, table_fault, deep_fault, many_fault}
use Rattle.tl_tree.proofs.SameTrees.{one_tree}
use Rattle.tl_tree.proofs.FineMoves.{state_columns, few_columns, small_marks}
use Rattle.tl_tree.proofs.EntrySizes.{entries_size, paragraph_size, open_line_size}

-- one more token
all_told-push : (s : DocumentState) (prefix : Kinds) (k : Kind) → all_told s (prefix ++ k ∷ []) ≡ all_told s prefix ++ told
    (reached s prefix) k
all_told-push s [] k = append-nil (told s k)
all_told-push s (j ∷ prefix) k = ap (λ x. told s j ++ x) (all_told-push (next s j) prefix k) ∙ sym (append_assoc (told s j) _ _)

fit_more : (d t : ℕ) (prefix : Kinds) (k : Kind) → FitLimits d t prefix →
    FitsLimits (depth_after d prefix) (tables_after t prefix) k →
    FitLimits d t (prefix ++ k ∷ [])
fit_more d t [] k fits more = (more, tt)
fit_more d t (j ∷ prefix) k fits more = (fits.0, fit_more (depth_with d j) (tables_with t j) prefix k fits.1 more)

tables_after-push : (t : ℕ) (prefix : Kinds) (k : Kind) → tables_after t (prefix ++ k ∷ []) ≡ tables_with
    (tables_after t prefix) k
tables_after-push t [] k = refl
tables_after-push t (j ∷ prefix) k = tables_after-push (tables_with t j) prefix k

pub nothing_read : HasReadTokens [] 0 Before
nothing_read = record { goes = refl; alive = refl; within = tt; counted = refl; same = λ later. refl }

pub one_more_read : (prefix : Kinds) (tables : ℕ) (old new : Reading) (k : Kind) → HasReadTokens prefix tables old →
    Reads old tables k new
    → HasReadTokens (prefix ++ k ∷ []) (tables_with tables k) new
one_more_read prefix tables old new k h r = record {
  goes = reached-append before prefix (k ∷ []) ∙ ap (λ s. next s k) h.goes ∙ r.goes;
  alive = r.alive;
  within =
      let deep : depth (state_of old) ≡ depth_after 0 prefix =
      sym (ap depth h.goes) ∙ depth-reached before prefix (ap is_failed h.goes ∙ h.alive) in
      let P : ℕ → Type 0 = λ d. FitsLimits d (tables_after 0 prefix) k in
      let Q : ℕ → Type 0 = λ t. FitsLimits (depth (state_of old)) t k in
      fit_more 0 0 prefix k h.within (subst P deep (subst Q h.counted r.fits));
  counted = ap (λ t. tables_with t k) h.counted ∙ sym (tables_after-push 0 prefix k);
  same = λ later. r.same later ∙ h.same (told (state_of old) k ++ later)
      ∙ ap (λ ms. entries_of 0 ms) (sym (append_assoc (all_told before prefix) (told (state_of old) k) later)
      ∙ ap (λ ms. ms ++ later) (ap (λ s. all_told before prefix ++ told s k) (sym h.goes) ∙ sym (all_told-push before prefix k)));
}

-- the token at which reading stops
pub stopped : (ks prefix rest : Kinds) (k : Kind) (tables : ℕ) (reading : Reading) (stop : Stop) → ks ≡ prefix ++ (k ∷ rest) →
    HasReadTokens prefix tables reading
    → IsStop (state_of reading) tables k stop →
    IsMemoryOr (Memory alloc_error) (AreNoDocument ks) (stop_error (length prefix) k stop)
stopped ks prefix rest k tables reading (stops.Memory error) split h stop = inl refl
stopped ks prefix rest k tables reading stops.Misfit split h stop =
    let dead : is_failed (next (reached before prefix) k) ≡ true = ap (λ s. is_failed (next s k)) h.goes ∙ stop in
    inr (wrong_at ks prefix k rest (misfit (length prefix) k) split (ap is_failed h.goes ∙ h.alive) h.within
    (misfit_fault _ _ _ k dead ∙ ap (λ n. Some (misfit n k)) (zero-add (length prefix))))
stopped ks prefix rest k tables reading stops.TooDeep split h (table, goes, deep) =
    let alive : is_failed (next (reached before prefix) k) ≡ false = ap (λ s. is_failed (next s k)) h.goes ∙ goes in
    let d : MAX_DEPTH ≤ depth (reached before prefix) = (let P : ℕ → Type 0 = λ n. MAX_DEPTH ≤ n in
    subst P (sym (ap depth h.goes)) deep) in
    inr (wrong_at ks prefix k rest (TooDeep (length prefix)) split (ap is_failed h.goes ∙ h.alive) h.within
    (table_fault _ _ _ k table alive ∙ deep_fault _ _ _ _ d (zero-add (length prefix))))
stopped ks prefix rest k tables reading stops.TooManyTables split h (table, goes, shallow, many) =
    let alive : is_failed (next (reached before prefix) k) ≡ false = ap (λ s. is_failed (next s k)) h.goes ∙ goes in
    let d : depth (reached before prefix) < MAX_DEPTH = (let P : ℕ → Type 0 = λ n. n < MAX_DEPTH in
    subst P (sym (ap depth h.goes)) shallow) in
    let m : MAX_TABLES ≤ tables_after 0 prefix = (let P : ℕ → Type 0 = λ n. MAX_TABLES ≤ n in subst P h.counted many) in
    inr (wrong_at ks prefix k rest (TooManyTables (length prefix)) split (ap is_failed h.goes ∙ h.alive) h.within
    (table_fault _ _ _ k table alive ∙ many_fault _ _ _ _ d m (zero-add (length prefix))))

-- the end of the tokens
pub ended_refused : (ks : Kinds) (tables : ℕ) (reading : Reading) (e : TreeError) → HasReadTokens ks tables reading →
    end_fault (state_of reading) ≡ Some e
    → AreNoDocument ks e
ended_refused ks tables reading e h f =
    first_refused ks e (ap (λ x. verdict 0 0 before x) (sym (append-nil ks)) ∙ passes 0 0 before ks []
    (ap is_failed h.goes ∙ h.alive) h.within
    ∙ ap end_fault h.goes ∙ f)

pub ended_tree : (tokens : List Token) (tables : ℕ) (node : TableNode) → HasReadTokens (kinds tokens) tables (After node) →
    SpellsTree tokens node
ended_tree tokens tables node h = record {
  marks = all_told before (kinds tokens);
  document = document_sound (record { ends = h.goes; tells = refl });
  same = sym (append-nil (outline node)) ∙ h.same [] ∙ ap (λ ms. entries_of 0 ms) (append-nil (all_told before (kinds tokens)));
}

-- the answer decides all others
pub each_ok : (tokens : List Token) (r : Result TableNode TreeError) → IfOk r (SpellsTree tokens) →
    IfErr r (IsMemoryOr (Memory alloc_error) (SpellsNoTree tokens))
    → (node : TableNode) → SpellsTree tokens node → IsWithinLimits (kinds tokens) → ReturnsTree node r
each_ok tokens (Ok returned) ok err node spelt within = one_tree tokens returned node ok spelt
each_ok tokens (Err error) ok (inl memory) node spelt within = memory
each_ok tokens (Err error) ok (inr refused) node spelt within =
    absurd (let c : Some error ≡ None = sym (refused_first (kinds tokens) error refused)
    ∙ document_clean (kinds tokens) spelt.marks spelt.document within in cc)

pub each_err : (tokens : List Token) (r : Result TableNode TreeError) → IfOk r (SpellsTree tokens) →
    OnOk r (IsWithinLimits (kinds tokens))
    → IfErr r (IsMemoryOr (Memory alloc_error) (SpellsNoTree tokens)) → (error : TreeError) → SpellsNoTree tokens error →
    ReturnsError (Memory alloc_error) error r
each_err tokens (Ok returned) ok within err error refused =
    let c : Some error ≡ None = sym (refused_first (kinds tokens) error refused) ∙ document_clean (kinds tokens)
    ok.marks ok.document within in
    absurd (cc)
each_err tokens (Err found) ok within (inl memory) error refused = inl memory
each_err tokens (Err found) ok within (inr cause) error refused =
    let c : Some found ≡ Some error = sym (refused_first (kinds tokens) found cause) ∙ refused_first (kinds tokens)
    error refused in
    inr (cc)

-- tokens count at least 1 each
pub kinds_length : (ks : Kinds) → AllByRecursion IsReadable ks → length ks ≤ sum_by kind_size ks
kinds_length [] h = omega arith
kinds_length (k ∷ ks) (here, later) =
    let a = at_least_one k here in
    let b = kinds_length ks later in
    omega (arith, sum_by-cons kind_size k ks)
  where
    at_least_one : (j : Kind) → IsReadable j → 1 ≤ kind_size j
    at_least_one (text cs) h = let e = length-le-encodes cs in let g = h.0 in omega arith
    at_least_one _ h = omega arith

-- few columns and few characters have come
flow_size : (t : OpenTable) (k : ℕ) → open_size t ≤ sum_by entry_size (outcome t k [])
flow_size (stages.Start number) k = omega arith
flow_size (stages.Columns head) k = omega arith
flow_size (stages.Colgroup head pending) k = omega arith
flow_size (stages.Between parts) k = omega arith
flow_size (stages.Group g) k = omega arith
flow_size (stages.Row r) k = omega arith
flow_size (stages.Flow holder flow) k =
    let prefix = holder_so_far holder ++ blocks_outline flow.blocks in
    let p = paragraph_of (line_atoms flow.line []) in
    let a = sum_by-append entry_size prefix (p ++ []) in
    let b = sum_by-append entry_size p [] in
    let c = paragraph_size (line_atoms flow.line []) in
    let d = open_line_size flow.line in
    omega arith

pub modest : (prefix : Kinds) (tables : ℕ) (reading : Reading) → HasReadTokens prefix tables reading →
    AllByRecursion IsReadable prefix
    → sum_by kind_size prefix ≤ MAX_FILE_BYTES → IsModestReading reading
modest prefix tables Before h readable small = tt
modest prefix tables (After node) h readable small = tt
modest prefix tables (Inside outer t) h readable small =
    let few = few_columns before prefix readable in
    let same : state_columns (reached before prefix) ≡ place_columns (machine_place t) = ap state_columns h.goes in
    let long = kinds_length prefix readable in
    let sizes = sum_by-append entry_size (around outer.items) (outcome t tables []) in
    let all : sum_by entry_size (around outer.items ++ outcome t tables []) ≡ sum_by entry_size
    (entries_of 0 (all_told before prefix)) =
    ap (λ es. sum_by entry_size es) (h.same [] ∙ ap (λ ms. entries_of 0 ms) (append-nil (all_told before prefix))) in
    let bound = entries_size 0 (all_told before prefix) in
    let told_small = small_marks before prefix readable in
    let part = flow_size t tables in
    record { few_columns = omega arith; small = omega arith }

pub few_tables : (d t : ℕ) (ks : Kinds) → t ≤ MAX_TABLES → FitLimits d t ks → tables_after t ks ≤ MAX_TABLES
few_tables d t [] h fits = h
few_tables d t (k ∷ ks) h fits = few_tables (depth_with d k) (tables_with t k) ks (with_fits d t k h fits.0) fits.1
  where
    with_fits : (d t : ℕ) (k : Kind) → t ≤ MAX_TABLES → FitsLimits d t k → tables_with t k ≤ MAX_TABLES
    with_fits d t table_start h fits = let f = fits.1 in omega arith
    with_fits d t _ h fits = h

-- the tokens before one, it, and those after it
pub kinds_split : (tokens : List Token) (i : ℕ) (d : Token) → i < length tokens
    → kinds tokens ≡ kinds (take i tokens) ++ (kind_of (get_or tokens i d) ∷ kinds (drop (i + 1) tokens))
kinds_split tokens i d h =
    ap kinds (sym (take-append-drop i tokens) ∙ ap (λ later. take i tokens ++ later) (at_drop_more (λ later. later) tokens i d h))
    ∙ map-append kind_of (take i tokens) (get_or tokens i d ∷ drop (i + 1) tokens)

pub kinds_more : (tokens : List Token) (i : ℕ) (d : Token) → i < length tokens
    → kinds (take (i + 1) tokens) ≡ kinds (take i tokens) ++ kind_of (get_or tokens i d) ∷ []
kinds_more tokens i d h = ap kinds (take_more tokens i d h) ∙ map-append kind_of (take i tokens) (get_or tokens i d ∷ [])

-- the token at an index, and the tokens around it
pub at_token : (tokens : List Token) (i : ℕ) (token : Token) → i < length tokens → token ≡ get_or tokens i token
    → kinds tokens ≡ kinds (take i tokens) ++ (kind_of token ∷ kinds (drop (i + 1) tokens))
at_token tokens i token h is = kinds_split tokens i token h ∙ ap
    (λ t. kinds (take i tokens) ++ (kind_of t ∷ kinds (drop (i + 1) tokens))) (sym is)

pub with_token : (tokens : List Token) (i : ℕ) (token : Token) → i < length tokens → token ≡ get_or tokens i token
    → kinds (take (i + 1) tokens) ≡ kinds (take i tokens) ++ kind_of token ∷ []
with_token tokens i token h is = kinds_more tokens i token h ∙ ap (λ t. kinds (take i tokens) ++ kind_of t ∷ []) (sym is)

pub all_prefix : (prefix rest : Kinds) → AllByRecursion IsReadable (prefix ++ rest) →
    AllByRecursion IsReadable prefix × AllByRecursion IsReadable rest
all_prefix [] rest h = (tt, h)
all_prefix (k ∷ prefix) rest h = let (a, b) = all_prefix prefix rest h.1 in ((h.0, a), b)

pub readable_parts : (ks prefix rest : Kinds) → ks ≡ prefix ++ rest → AllByRecursion IsReadable ks →
    AllByRecursion IsReadable prefix
    × AllByRecursion IsReadable rest
readable_parts ks prefix rest split h = all_prefix prefix rest (subst (λ (x : Kinds). AllByRecursion IsReadable x) split h)

pub small_prefix : (ks prefix rest : Kinds) → ks ≡ prefix ++ rest → sum_by kind_size ks ≤ MAX_FILE_BYTES →
    sum_by kind_size prefix ≤ MAX_FILE_BYTES
small_prefix ks prefix rest split h =
    let e : sum_by kind_size ks ≡ sum_by kind_size (prefix ++ rest) = ap (λ x. sum_by kind_size x) split in
    let s = sum_by-append kind_size prefix rest in
    omega arith

pub fresh : (prefix : Kinds) (tables : ℕ) (reading : Reading) → HasReadTokens prefix tables reading → IsFresh reading tables
fresh prefix tables Before h = h.counted ∙ no_table 0 prefix h.goes
fresh prefix tables (Inside outer t) h = tt
fresh prefix tables (After node) h = tt

pub one_more_table : (t : ℕ) (k : Kind) → is_table_start k ≡ true → tables_with t k ≡ t + 1
one_more_table t table_start h = refl
one_more_table t _ h = absurd (false≢true h)

pub all_taken : (tokens : List Token) (i : ℕ) → length tokens ≤ i → kinds (take i tokens) ≡ kinds tokens
all_taken tokens i h = ap kinds (take_all i tokens h)
