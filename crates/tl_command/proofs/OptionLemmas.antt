-- What has been read of options, and that arguments spell at most one list of them.
use Rattle.std.proofs.Common.{◌≡◌, ◌≢◌, ◌⊎◌, inl, inr, ◌↔◌, ℕ, List, [], ◌∷◌, ◌++◌, ◌+◌, ◌*◌, Option, Some, None}
use Rattle.std.proofs.Common.{refl, sym, ap, subst, ◌∙◌, decimal, get_or, arith}
use Rattle.std.specs.Prelude.{Contains, codes, is_some, false, true, ◌≤◌}
use Rattle.std.specs.List.{All, AllPairs, flat_map}
use Rattle.std.specs.Str.{all_ascii_digits}
use Rattle.std.proofs.lemmas.Fmt.{decimal_injective, decimal_is_IsNumeral}
use Rattle.std.proofs.lemmas.List.{append-nil}
use Rattle.std.proofs.lemmas.List.Concat.{flat_map-cons}
use Rattle.std.proofs.lemmas.Grind.{common_steps}
use Rattle.std.proofs.lemmas.List.Elements.{All-push, All-nil, All-head, All-tail, All-contains, Contains-push_cases}
use Rattle.std.proofs.lemmas.List.Elements.{Contains-append_left, Contains-append_right, Contains-push}
use Rattle.tl_base.proofs.Members.{AllPairs-none, AllPairs-cons, AllPairs-head, AllPairs-tail, first-same, rest-same}
use Rattle.tl_base.proofs.Members.{AllPairs-append, Contains-first, Contains-cases, Contains-none}
use Rattle.tl_base.specs.declared.style.Style.{Style}
use Rattle.tl_base.specs.declared.style.Style.TheVariants as styles
use Rattle.tl_base.specs.declared.limits.TheConstants.{MAX_PAGE_WIDTH}
use Rattle.tl_base.proofs.Decimals.{own}
use Rattle.tl_base.proofs.Texts.{same_test}
use Rattle.tl_command.specs.declared.command.Command.{Command}
use Rattle.tl_base.specs.Style.{style_word}
use Rattle.tl_command.specs.declared.options.BreakRule.{BreakRule}
use Rattle.tl_command.specs.declared.options.BreakRule.TheVariants as rules
use Rattle.tl_command.specs.declared.options.Choice.{Choice}
use Rattle.tl_command.specs.declared.options.Choice.TheVariants as choices
use Rattle.tl_command.specs.declared.options.Options.{Options}
use Rattle.tl_base.specs.declared.search.Search.{Search}
use Rattle.tl_base.specs.declared.search.Search.TheVariants as searches
use Rattle.tl_command.specs.Options.{name_of, option_words, align_word, break_word, search_word, list_word}
use Rattle.tl_command.specs.Options.{IsBreakRule, IsInRange, IsOptionOf, IsGiven, AreOfCsv, AreOptions}
use Rattle.tl_command.specs.inner.OptionsRead.{HasReadOptions}
use Rattle.tl_command.proofs.ListLemmas.{list_once}
use Rattle.tl_command.proofs.SideLemmas.{align_once}

-- what an option that is there holds
pub held : {X : Type 0} (given : Option X) → is_some given ≡ true → (x : X) × (given ≡ Some x)
held None is = absurd cc
held (Some x) is = (x, refl)

-- ---- each argument is read in one way

-- an argument stands for at most one style, break and search
style_once : (one other : Style) → style_word one ≡ style_word other → one ≡ other
style_once styles.Plain styles.Plain e = refl
style_once styles.Compact styles.Compact e = refl
style_once styles.Frame styles.Frame e = refl
style_once styles.Grid styles.Grid e = refl
style_once styles.Box styles.Box e = refl
style_once styles.Rule styles.Rule e = refl
style_once styles.Apart styles.Apart e = refl
style_once one other e = absurd (omega (arith, ap (λ (word : List ℕ). get_or word 0 0) e))

-- a word with another character than a digit is no number
no_number : (word : List ℕ) (number : ℕ) → all_ascii_digits word ≡ false → number ≤ MAX_PAGE_WIDTH → word ≡ decimal number → ⊥
no_number word number letters small is =
    let digits = own.from (decimal number) (decimal_is_IsNumeral number (omega (arith, small))).0.1 in
    absurd (cc)

break_once : (one other : BreakRule) → IsBreakRule one → IsBreakRule other → break_word one ≡ break_word other → one ≡ other
break_once rules.Words rules.Words small tiny e = refl
break_once rules.Any rules.Any small tiny e = refl
break_once rules.Fit rules.Fit small tiny e = refl
break_once (rules.Fitted most) other small tiny e = absurd small
break_once one (rules.Fitted most) small tiny e = absurd tiny
break_once (rules.Wider most) (rules.Wider least) small tiny e =
    ap rules.Wider (decimal_injective most least (omega (arith, small)) (omega (arith, tiny)) e)
break_once rules.Words (rules.Wider most) small tiny e = absurd (no_number (codes "words") most refl tiny e)
break_once (rules.Wider most) rules.Words small tiny e = absurd (no_number (codes "words") most refl small (sym e))
break_once rules.Any (rules.Wider most) small tiny e = absurd (no_number (codes "any") most refl tiny e)
break_once (rules.Wider most) rules.Any small tiny e = absurd (no_number (codes "any") most refl small (sym e))
break_once rules.Fit (rules.Wider most) small tiny e = absurd (no_number (codes "fit") most refl tiny e)
break_once (rules.Wider most) rules.Fit small tiny e = absurd (no_number (codes "fit") most refl small (sym e))
break_once one other small tiny e = absurd (omega (arith, ap (λ (word : List ℕ). get_or word 0 0) e))

search_once : (one other : Search) → search_word one ≡ search_word other → one ≡ other
search_once searches.Plain searches.Plain e = refl
search_once searches.Best searches.Best e = refl
search_once searches.Learn searches.Learn e = refl
search_once searches.Rounds searches.Rounds e = refl
search_once one other e = absurd (omega (arith, ap (λ (word : List ℕ). get_or word 0 0) e))

-- where a word stands for at most one value, an option of it is told from what follows
value_once : {V : Type 0} (word : V → List ℕ) (option : V → Choice) → ((v w : V) → word v ≡ word w → v ≡ w) → (v w : V)
    (xs ys : List (List ℕ)) → word v ∷ xs ≡ word w ∷ ys → (option v ≡ option w) × (xs ≡ ys)
value_once word option once v w xs ys e = (
  ap option (once v w (first-same (word v) (word w) xs ys e)),
  rest-same (word v) (word w) xs ys e,
)

-- the letters by which the names of options differ
abbrev pub letters : List (List ℕ) → ℕ
letters words = get_or (get_or words 0 []) 4 0 + 256 * get_or (get_or words 0 []) 2 0

-- the arguments of one option are not the beginning of another's
pub prefix_free : (one other : Choice) (xs ys : List (List ℕ)) → IsInRange one → IsInRange other →
    option_words one ++ xs ≡ option_words other ++ ys → (one ≡ other) × (xs ≡ ys)
prefix_free (choices.Style style) (choices.Style style2) xs ys small tiny e =
    value_once style_word choices.Style style_once style style2 xs ys cc
prefix_free (choices.Breaking rule) (choices.Breaking rule2) xs ys small tiny e =
    let after : break_word rule ∷ xs ≡ break_word rule2 ∷ ys = cc in (
      ap choices.Breaking (break_once rule rule2 small tiny (first-same (break_word rule) (break_word rule2) xs ys after)),
      rest-same (break_word rule) (break_word rule2) xs ys after,
    )
prefix_free (choices.Budget budget) (choices.Budget budget2) xs ys small tiny e =
    let after : decimal budget ∷ xs ≡ decimal budget2 ∷ ys = cc in
    let same : budget ≡ budget2 = decimal_injective budget budget2 (omega (arith, small)) (omega (arith, tiny))
    (first-same (decimal budget) (decimal budget2) xs ys after) in
    (ap choices.Budget same, rest-same (decimal budget) (decimal budget2) xs ys after)
prefix_free (choices.Search search) (choices.Search search2) xs ys small tiny e =
    value_once search_word choices.Search search_once search search2 xs ys cc
prefix_free (choices.Workers workers) (choices.Workers workers2) xs ys small tiny e =
    let after : decimal workers ∷ xs ≡ decimal workers2 ∷ ys = cc in
    let same : workers ≡ workers2 = decimal_injective workers workers2 (omega (arith, small.few)) (omega (arith, tiny.few))
    (first-same (decimal workers) (decimal workers2) xs ys after) in
    (ap choices.Workers same, rest-same (decimal workers) (decimal workers2) xs ys after)
prefix_free choices.Csv choices.Csv xs ys small tiny e = (refl, cc)
prefix_free choices.Head choices.Head xs ys small tiny e = (refl, cc)
prefix_free (choices.Least floors) (choices.Least floors2) xs ys small tiny e =
    let after : list_word floors ∷ xs ≡ list_word floors2 ∷ ys = cc in (
      ap choices.Least (list_once floors floors2 small tiny (first-same (list_word floors) (list_word floors2) xs ys after)),
      rest-same (list_word floors) (list_word floors2) xs ys after,
    )
prefix_free (choices.Align align) (choices.Align align2) xs ys small tiny e =
    let after : align_word align ∷ xs ≡ align_word align2 ∷ ys = cc in (
      ap choices.Align (align_once align align2 small tiny (first-same (align_word align) (align_word align2) xs ys after)),
      rest-same (align_word align) (align_word align2) xs ys after,
    )
prefix_free choices.Trim choices.Trim xs ys small tiny e = (refl, cc)
prefix_free choices.Html choices.Html xs ys small tiny e = (refl, cc)
prefix_free one other xs ys small tiny e = absurd (omega (arith, ap letters e))

-- ---- what has been read

-- two options of different names
abbrev Differ : Choice → Choice → Type 0
Differ one other = name_of one ≢ name_of other

-- what is so of each pair of a list is so of an element and one after it
apart_ahead : {X : Type 0} (R : X → X → Type 0) (xs ys : List X) (x y : X) → AllPairs R (xs ++ y ∷ ys) → Contains xs x → R x y
apart_ahead R [] ys x y pairs has = absurd (Contains-none x has)
apart_ahead R (z ∷ xs) ys x y pairs has = elim (Contains-cases z xs x has) [
  | inl same ↦ subst (λ w. R w y) same (All-contains (R z) (xs ++ y ∷ ys) y (AllPairs-head R z (xs ++ y ∷ ys) pairs)
      (Contains-append_right xs (y ∷ ys) y (Contains-first y ys)))
  | inr later ↦ apart_ahead R xs ys x y (AllPairs-tail R z (xs ++ y ∷ ys) pairs) later
]

-- what a list contains after some elements
contains_after : {X : Type 0} (all xs : List X) (x : X) (ys : List X) → all ≡ xs ++ x ∷ ys → Contains all x
contains_after all xs x ys same =
    subst (λ zs. Contains zs x) (sym same) (Contains-append_right xs (x ∷ ys) x (Contains-first x ys))

module _ (command : Command) where
  -- options that spell arguments which begin with those of others begin with these
  follow : (read choices : List Choice) (rest : List (List ℕ)) → All (IsOptionOf command) read →
      All (IsOptionOf command) choices → flat_map option_words choices ≡ flat_map option_words read ++ rest →
      (later : List Choice) × (choices ≡ read ++ later) × (flat_map option_words later ≡ rest)
  follow [] choices rest are_read are e = (choices, refl, e)
  follow (one ∷ read) [] rest are_read are e = absurd cc
  follow (one ∷ read) (other ∷ choices) rest are_read are e =
      let joined : option_words other ++ flat_map option_words choices ≡ option_words one
      ++ (flat_map option_words read ++ rest) =
      grind (arith, common_steps, e) in
      let split : (other ≡ one) × (flat_map option_words choices ≡ flat_map option_words read ++ rest) =
      prefix_free other one (flat_map option_words choices) (flat_map option_words read ++ rest)
      (All-head (IsOptionOf command) other choices are).in_range
      (All-head (IsOptionOf command) one read are_read).in_range joined in
      let more : (later : List Choice) × (choices ≡ read ++ later) × (flat_map option_words later ≡ rest) =
      follow read choices rest (All-tail (IsOptionOf command) one read are_read)
      (All-tail (IsOptionOf command) other choices are) split.1 in
      (more.0, cc, more.2)

  -- at first nothing has been read
  pub read_none : (words : List (List ℕ)) (options : Options) → ((choice : Choice) → IsGiven options choice → ⊥) →
      HasReadOptions command words options words
  read_none words options none = record {
    read = [];
    spelled = refl;
    of_command = All-nil (IsOptionOf command);
    once = AllPairs-none Differ;
    given = λ choice. (λ is. absurd (none choice is), λ has. absurd (omega (arith, has.1)));
  }

  -- one more option has been read
  pub read_more : (words rest : List (List ℕ)) (options after : Options) (choice : Choice) →
      HasReadOptions command words options (option_words choice ++ rest) → IsOptionOf command choice →
      ((other : Choice) → IsGiven options other → name_of other ≢ name_of choice) →
      ((other : Choice) → IsGiven after other ↔ (IsGiven options other ⊎ (other ≡ choice))) →
      HasReadOptions command words after rest
  read_more words rest options after choice so_far is_of new given = record {
    read = so_far.read ++ choice ∷ [];
    spelled = so_far.spelled ∙ grind (arith, common_steps);
    of_command = All-push (IsOptionOf command) so_far.read choice so_far.of_command is_of;
    once = AllPairs-append Differ so_far.read (choice ∷ []) so_far.once
        (AllPairs-cons Differ choice [] (All-nil (Differ choice)) (AllPairs-none Differ)) apart;
    given = λ other. (
      λ is. elim ((given other).0 is) [
        | inl old ↦ Contains-append_left so_far.read (choice ∷ []) other ((so_far.given other).0 old)
        | inr same ↦ subst (λ (o : Choice). Contains (so_far.read ++ choice ∷ []) o) (sym same) (Contains-push so_far.read choice)
      ],
      λ has. elim (Contains-push_cases so_far.read choice other has) [
        | inl old ↦ (given other).1 (inl ((so_far.given other).1 old))
        | inr same ↦ (given other).1 (inr (sym same))
      ],
    );
  } where
    apart : (one other : Choice) → Contains so_far.read one → Contains (choice ∷ []) other → Differ one other
    apart one other first second = elim (Contains-cases choice [] other second) [
      | inl same ↦ subst (λ (o : Choice). Differ one o) same (new one ((so_far.given one).1 first))
      | inr none ↦ absurd (Contains-none other none)
    ]

  -- all has been read
  pub read_all : (words : List (List ℕ)) (options : Options) → HasReadOptions command words options [] → AreOfCsv options →
      AreOptions command words options
  read_all words options so_far of_csv = record {
    choices = so_far.read;
    spelled = so_far.spelled ∙ append-nil (flat_map option_words so_far.read);
    of_command = so_far.of_command;
    once = so_far.once;
    given = so_far.given;
    of_csv = of_csv;
  }

  -- the arguments spell no options where none begins what is left
  pub read_stuck : (words rest : List (List ℕ)) (options other : Options) → HasReadOptions command words options rest →
      rest ≢ [] →
      ((choice : Choice) (after : List (List ℕ)) → IsOptionOf command choice → rest ≡ option_words choice ++ after → ⊥) →
      AreOptions command words other → ⊥
  read_stuck words rest options other so_far more none is =
      let next : (later : List Choice) × (is.choices ≡ so_far.read ++ later) × (flat_map option_words later ≡ rest) =
      follow so_far.read is.choices rest so_far.of_command is.of_command (sym is.spelled ∙ so_far.spelled) in
      stuck next.0 next.1 next.2 where
        stuck : (later : List Choice) → is.choices ≡ so_far.read ++ later → flat_map option_words later ≡ rest → ⊥
        stuck [] same spelled = more (sym spelled)
        stuck (choice ∷ later) same spelled = none choice (flat_map option_words later)
            (All-contains (IsOptionOf command) is.choices choice is.of_command
            (contains_after is.choices so_far.read choice later same))
            (sym spelled ∙ flat_map-cons option_words choice later)

  -- nor where an option of a name that was read begins it
  pub read_twice : (words rest : List (List ℕ)) (options other : Options) (choice : Choice) →
      HasReadOptions command words options (option_words choice ++ rest) → IsOptionOf command choice →
      (former : Choice) × IsGiven options former × (name_of former ≡ name_of choice) → AreOptions command words other → ⊥
  read_twice words rest options other choice so_far is_of twice is =
      let next : (later : List Choice) × (is.choices ≡ so_far.read ++ later)
      × (flat_map option_words later ≡ option_words choice ++ rest) =
      follow so_far.read is.choices (option_words choice ++ rest) so_far.of_command is.of_command
      (sym is.spelled ∙ so_far.spelled) in
      again next.0 next.1 next.2 where
        again : (later : List Choice) → is.choices ≡ so_far.read ++ later →
            flat_map option_words later ≡ option_words choice ++ rest → ⊥
        again [] same spelled = absurd cc
        again (one ∷ later) same spelled =
            let one_of : IsOptionOf command one = All-contains (IsOptionOf command) is.choices one is.of_command
            (contains_after is.choices so_far.read one later same) in
            let equal : one ≡ choice = (prefix_free one choice (flat_map option_words later) rest one_of.in_range is_of.in_range
            (sym (flat_map-cons option_words one later) ∙ spelled)).0 in
            apart_ahead Differ so_far.read later twice.0 one (subst (λ (cs : List Choice). AllPairs Differ cs) same is.once)
            ((so_far.given twice.0).0 twice.1) (twice.2 ∙ sym (ap name_of equal))

-- ---- one list of options at most

-- what gives the same is the same
option_same : {X : Type 0} (one other : Option X) → ((x : X) → one ≡ Some x → other ≡ Some x) →
    ((x : X) → other ≡ Some x → one ≡ Some x) → one ≡ other
option_same None None to from = refl
option_same None (Some x) to from = from x refl
option_same (Some x) other to from = sym (to x refl)

rebuilt : (one other : Options) → one.style ≡ other.style → one.breaking ≡ other.breaking → one.budget ≡ other.budget →
    one.search ≡ other.search → one.workers ≡ other.workers → one.csv ≡ other.csv → one.head ≡ other.head →
    one.least ≡ other.least → one.align ≡ other.align → one.trim ≡ other.trim → one.html ≡ other.html → one ≡ other
rebuilt one other style breaking budget search workers csv head least align trim html = λ i. record {
  style = style i;
  breaking = breaking i;
  budget = budget i;
  search = search i;
  workers = workers i;
  csv = csv i;
  head = head i;
  least = least i;
  align = align i;
  trim = trim i;
  html = html i;
}

options_same : (one other : Options) → ((choice : Choice) → IsGiven one choice → IsGiven other choice) →
    ((choice : Choice) → IsGiven other choice → IsGiven one choice) → one ≡ other
options_same one other to from =
    rebuilt one other
    (option_same one.style other.style (λ x. to (choices.Style x)) (λ x. from (choices.Style x)))
    (option_same one.breaking other.breaking (λ x. to (choices.Breaking x)) (λ x. from (choices.Breaking x)))
    (option_same one.budget other.budget (λ x. to (choices.Budget x)) (λ x. from (choices.Budget x)))
    (option_same one.search other.search (λ x. to (choices.Search x)) (λ x. from (choices.Search x)))
    (option_same one.workers other.workers (λ x. to (choices.Workers x)) (λ x. from (choices.Workers x)))
    (same_test one.csv other.csv (to choices.Csv) (from choices.Csv))
    (same_test one.head other.head (to choices.Head) (from choices.Head))
    (option_same one.least other.least (λ x. to (choices.Least x)) (λ x. from (choices.Least x)))
    (option_same one.align other.align (λ x. to (choices.Align x)) (λ x. from (choices.Align x)))
    (same_test one.trim other.trim (to choices.Trim) (from choices.Trim))
    (same_test one.html other.html (to choices.Html) (from choices.Html))

-- the arguments spell no other options than those that were read from all of them
module _ (command : Command) (words : List (List ℕ)) (one other : Options) (first : HasReadOptions command words one [])
    (second : AreOptions command words other) where
  ended : (later : List Choice) → second.choices ≡ first.read ++ later → flat_map option_words later ≡ [] →
      first.read ≡ second.choices
  ended [] same none = sym (same ∙ append-nil first.read)
  ended (choice ∷ later) same none = absurd cc

  pub read_once : one ≡ other
  read_once =
      let next : (later : List Choice) × (second.choices ≡ first.read ++ later) × (flat_map option_words later ≡ []) =
      follow command first.read second.choices [] first.of_command second.of_command (sym second.spelled ∙ first.spelled) in
      let same : first.read ≡ second.choices = ended next.0 next.1 next.2 in
      options_same one other
      (λ choice is. (second.given choice).1 (subst (λ (cs : List Choice). Contains cs choice) same ((first.given choice).0 is)))
      (λ choice is. (first.given choice).1
      (subst (λ (cs : List Choice). Contains cs choice) (sym same) ((second.given choice).0 is)))

  -- so they spell none where those speak of a CSV file without `--csv`
  pub read_apart : (AreOfCsv one → ⊥) → ⊥
  read_apart apart = apart (subst AreOfCsv (sym read_once) second.of_csv)

-- the arguments spell at most one set of options
pub options_once : (command : Command) (words : List (List ℕ)) (one other : Options) → AreOptions command words one →
    AreOptions command words other → one ≡ other
options_once command words one other first second = read_once command words one other (record {
  read = first.choices;
  spelled = first.spelled ∙ sym (append-nil (flat_map option_words first.choices));
  of_command = first.of_command;
  once = first.once;
  given = first.given;
}) second
