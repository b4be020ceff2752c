-- The tags that a page has, as tokens: tags without attributes, a column with its width, and a cell with its numbers.
use Rattle.std.proofs.Common.{◌≡◌, ◌≢◌, ℕ, ◌+◌, ◌*◌, ◌/◌, ◌%◌, ◌^◌, ◌<◌, ◌≤◌, min, max, Bool, true, false, not, ◌||◌, cond, ltb}
use Rattle.std.proofs.Common.{eqb, List, [], ◌∷◌}
use Rattle.std.proofs.Common.{◌++◌, Option, Some, None, refl, sym, ap, ◌∙◌, subst, append_assoc, arith, decimal, zero, suc}
use Rattle.std.specs.Prelude.{codes, option_and_then}
use Rattle.tl_token.specs.declared.token.TokenKind.TheVariants.{Start}
use Rattle.std.specs.Char.{is_ascii_digit, digit_value}
use Rattle.std.specs.Fmt.{digits, digits_onto, digit_glyph}
use Rattle.std.proofs.lemmas.Bool.{false≢true, ltb-false}
use Rattle.std.proofs.lemmas.Bool.Decides.{nat_tests}
use Rattle.std.proofs.lemmas.Fmt.{decimal_by_steps}
use Rattle.tl_base.specs.declared.limits.TheConstants.{MAX_COLSPAN, MAX_ROWSPAN, MAX_PAGE_WIDTH}
use Rattle.tl_token.specs.Characters.{◌∈◌, is_space, is_name_character, is_gap, begins, run, past}
use Rattle.tl_token.specs.Numbers.{number, number_from, unsigned, signed_number, number_of, columns_spanned, rows_spanned}
use Rattle.tl_token.specs.Numbers.{floor_of}
use Rattle.tl_token.specs.Elements.{Attribute, value_of, attribute_number, attribute_side, element_of, span_numbers, cell_spans}
use Rattle.tl_token.specs.Elements.{no_spans}
use Rattle.tl_token.specs.Grammar.{Each, quoted, Attributes, IsTagName, opening, markup}
use Rattle.tl_token.specs.Grammar as grammar
use Rattle.tl_token.specs.declared.token.Element.{Element}
use Rattle.tl_token.specs.declared.token.Element.TheVariants.{Table, Caption, Colgroup, Col, Tr, Td, Th, Br, P}
use Rattle.tl_token.specs.declared.token.Spans.{Spans}
use Rattle.tl_token.proofs.CharacterTests.{excludes, Each-push}
use Rattle.tl_html.specs.Html.{number_attribute}
use Rattle.tl_html.proofs.Items.{IsTagText}

-- ---- tags without attributes

bare : (is_end : Bool) (name : List ℕ) (e : Element) → IsTagName name → element_of name ≡ Some e →
    IsTagText (opening is_end ++ (name ++ codes ">")) is_end e (span_numbers e [])
bare is_end name e named known rest =
    markup e (record { is_end = is_end; name = name; attributes = [] })
    (record {
      following = 0x3E ∷ rest;
      spelled = append_assoc (opening is_end) (name ++ codes ">") rest ∙ ap (λ (cs : List ℕ). opening is_end ++ cs)
          (append_assoc name (codes ">") rest);
      named = named;
      separated = refl;
      attributes = grammar.end refl;
    })
    known refl

pub table_start : IsTagText (codes "<table>") false Table no_spans
table_start = bare false (codes "table") Table (refl, (refl, (refl, (refl, (refl, tt))))) refl

pub table_end : IsTagText (codes "</table>") true Table no_spans
table_end = bare true (codes "table") Table (refl, (refl, (refl, (refl, (refl, tt))))) refl

pub caption_start : IsTagText (codes "<caption>") false Caption no_spans
caption_start = bare false (codes "caption") Caption (refl, (refl, (refl, (refl, (refl, (refl, (refl, tt))))))) refl

pub caption_end : IsTagText (codes "</caption>") true Caption no_spans
caption_end = bare true (codes "caption") Caption (refl, (refl, (refl, (refl, (refl, (refl, (refl, tt))))))) refl

pub colgroup_start : IsTagText (codes "<colgroup>") false Colgroup no_spans
colgroup_start = bare false (codes "colgroup") Colgroup (refl, (refl, (refl, (refl, (refl, (refl, (refl, (refl, tt)))))))) refl

pub colgroup_end : IsTagText (codes "</colgroup>") true Colgroup no_spans
colgroup_end = bare true (codes "colgroup") Colgroup (refl, (refl, (refl, (refl, (refl, (refl, (refl, (refl, tt)))))))) refl

pub row_start : IsTagText (codes "<tr>") false Tr no_spans
row_start = bare false (codes "tr") Tr (refl, (refl, tt)) refl

pub row_end : IsTagText (codes "</tr>") true Tr no_spans
row_end = bare true (codes "tr") Tr (refl, (refl, tt)) refl

pub paragraph_start : IsTagText (codes "<p>") false P no_spans
paragraph_start = bare false (codes "p") P (refl, tt) refl

pub paragraph_end : IsTagText (codes "</p>") true P no_spans
paragraph_end = bare true (codes "p") P (refl, tt) refl

pub line_break : IsTagText (codes "<br>") false Br no_spans
line_break = bare false (codes "br") Br (refl, (refl, tt)) refl

pub plain_end : IsTagText (codes "</td>") true Td no_spans
plain_end = bare true (codes "td") Td (refl, (refl, tt)) refl

pub head_end : IsTagText (codes "</th>") true Th no_spans
head_end = bare true (codes "th") Th (refl, (refl, tt)) refl

-- ---- decimals

-- digits that stand for a number
record IsDigits (n : ℕ) (ds : List ℕ) : Type 0 where
  some : (d : ℕ) × (others : List ℕ) × (ds ≡ d ∷ others)
  digits : Each is_ascii_digit ds
  value : number 10 ds ≡ n

digit_is : (n : ℕ) → n < 10 → (is_ascii_digit (48 + n) ≡ true) × (digit_value (48 + n) ≡ n)
digit_is n lt = (grind (arith, nat_tests, lt), grind (arith, nat_tests, lt))

number-push : (a : ℕ) (ds : List ℕ) (c : ℕ) → number_from 10 a (ds ++ c ∷ []) ≡ number_from 10 a ds * 10 + digit_value c
number-push a [] c = refl
number-push a (d ∷ ds) c = number-push (a * 10 + digit_value d) ds c

some_push : (ds : List ℕ) (c : ℕ) → (d : ℕ) × (others : List ℕ) × (ds ++ c ∷ [] ≡ d ∷ others)
some_push [] c = (c, [], refl)
some_push (d ∷ ds) c = (d, ds ++ c ∷ [], refl)

decimal_digits : (n : ℕ) → n < 2 ^ 64 → IsDigits n (decimal n)
decimal_digits n lt = decimal_by_steps IsDigits
    (λ m small. record {
      some = (48 + m, [], refl);
      digits = ((digit_is m small).0, tt);
      value = let is : digit_value (48 + m) ≡ m = (digit_is m small).1 in omega (arith, is);
    })
    (λ m ds large before.
    let last : m % 10 < 10 = omega arith in
    let is : digit_value (48 + m % 10) ≡ m % 10 = (digit_is (m % 10) last).1 in
    let sum = number-push 0 ds (48 + m % 10) in
    let tens : number 10 ds ≡ m / 10 = before.value in
    record {
      some = some_push ds (48 + m % 10);
      digits = Each-push is_ascii_digit ds (48 + m % 10) before.digits (digit_is (m % 10) last).0;
      value = let all : number 10 ds * 10 + digit_value (48 + m % 10) ≡ m = omega (arith, is, tens) in sum ∙ all;
    }) n lt

digits_run : (ds : List ℕ) → Each is_ascii_digit ds → run is_ascii_digit ds ≡ ds
digits_run [] each = refl
digits_run (d ∷ ds) each = by_test (is_ascii_digit d) each.0 (digits_run ds each.1)
  where
    by_test : (b : Bool) → b ≡ true → run is_ascii_digit ds ≡ ds → cond b (d ∷ run is_ascii_digit ds) [] ≡ d ∷ ds
    by_test true is rest = ap (λ (others : List ℕ). d ∷ others) rest
    by_test false is rest = absurd (false≢true is)

digit_no_space : (d : ℕ) → is_ascii_digit d ≡ true → is_space d ≡ false
digit_no_space d is = grind (arith, nat_tests, is)

digit_no_sign : (d : ℕ) → is_ascii_digit d ≡ true → (d ∈ "+-") ≡ false
digit_no_sign d is = grind (arith, nat_tests, is)

-- the number of a value that is digits
digits_number : (n : ℕ) (ds : List ℕ) → IsDigits n ds → number_of ds ≡ Some n
digits_number n ds is =
    let (d, others, split) = is.some in
    let each : Each is_ascii_digit (d ∷ others) = subst (Each is_ascii_digit) split is.digits in
    let no_space : past is_space (d ∷ others) ≡ d ∷ others =
    ap (λ b. cond b (past is_space others) (d ∷ others)) (digit_no_space d each.0) in
    let no_sign : unsigned (d ∷ others) ≡ d ∷ others = ap (λ b. cond b others (d ∷ others)) (digit_no_sign d each.0) in
    let no_minus : begins (λ c. c ∈ "-") (d ∷ others) ≡ false = excludes is_ascii_digit d 45 refl each.0 in
    let all : number_of (d ∷ others) ≡ Some (number 10 (d ∷ others)) =
    ap (λ (cs : List ℕ). signed_number (begins (λ c. c ∈ "-") cs) (run is_ascii_digit (unsigned cs))) no_space
    ∙ ap (λ b. signed_number b (run is_ascii_digit (unsigned (d ∷ others)))) no_minus
    ∙ ap (λ (cs : List ℕ). signed_number false (run is_ascii_digit cs)) no_sign
    ∙ ap (signed_number false) (digits_run (d ∷ others) each) in
    ap number_of split ∙ all ∙ ap Some (ap (number 10) (sym split) ∙ is.value)

decimal_number : (n : ℕ) → n < 2 ^ 64 → number_of (decimal n) ≡ Some n
decimal_number n lt = digits_number n (decimal n) (decimal_digits n lt)

-- the glyph of a digit
glyph_is : (n : ℕ) → n < 10 → is_ascii_digit (digit_glyph false n) ≡ true
glyph_is n lt = grind (arith, nat_tests, lt)

digits_on : (k n : ℕ) (later : List ℕ) → Each is_ascii_digit later → Each is_ascii_digit (digits_onto k 10 false n later)
digits_on zero n later each = each
digits_on (suc k) n later each =
    by_test (eqb (n / 10) 0) (digits_on k (n / 10) (digit_glyph false (n % 10) ∷ later) (glyph_is (n % 10) (omega arith), each))
  where
    by_test : (b : Bool) → Each is_ascii_digit (digits_onto k 10 false (n / 10) (digit_glyph false (n % 10) ∷ later)) →
        Each is_ascii_digit (cond b (digit_glyph false (n % 10) ∷ later)
        (digits_onto k 10 false (n / 10) (digit_glyph false (n % 10) ∷ later)))
    by_test true more = (glyph_is (n % 10) (omega arith), each)
    by_test false more = more

-- whatever the number, a decimal is digits
decimal_each : (n : ℕ) → Each is_ascii_digit (decimal n)
unfolding digits
decimal_each n = digits_on 64 n [] tt

-- ---- values in quotes

abbrev no_quote : ℕ → Bool
no_quote c = not (eqb c 34)

digit_no_quote : (d : ℕ) → is_ascii_digit d ≡ true → no_quote d ≡ true
digit_no_quote d is = grind (arith, nat_tests, is)

digits_no_quote : (ds : List ℕ) → Each is_ascii_digit ds → Each no_quote ds
digits_no_quote [] each = tt
digits_no_quote (d ∷ ds) each = (digit_no_quote d each.0, digits_no_quote ds each.1)

each_append : (test : ℕ → Bool) (xs ys : List ℕ) → Each test xs → Each test ys → Each test (xs ++ ys)
each_append test [] ys one two = two
each_append test (x ∷ xs) ys one two = (one.0, each_append test xs ys one.1 two)

-- an attribute after a space, whose value stands in quotes
in_quotes : (name value : List ℕ) (later : List ℕ) (others : List Attribute) (rest : List ℕ) → name ≢ [] →
    Each is_name_character name →
    Each no_quote value → Attributes later others rest →
    Attributes (0x20 ∷ (name ++ (codes "=\"" ++ (value ++ (34 ∷ later))))) (record { name = name; value = value } ∷ others) rest
in_quotes name value later others rest some named plain more =
    grammar.gap refl (grammar.attribute some named refl (quoted 34 refl [] [] tt tt plain refl) more)

-- ---- columns

pub column_tag : (width : ℕ) → IsTagText (codes "<col style=\"width:" ++ decimal width ++ codes "ch\">") false Col no_spans
column_tag width rest =
    let value : List ℕ = codes "width:" ++ (decimal width ++ codes "ch") in
    let plain : Each no_quote value = each_append no_quote (codes "width:") (decimal width ++ codes "ch")
    (refl, (refl, (refl, (refl, (refl, (refl, tt))))))
    (each_append no_quote (decimal width) (codes "ch") (digits_no_quote (decimal width) (decimal_each width))
    (refl, (refl, tt))) in
    markup Col (record { is_end = false; name = codes "col"; attributes = record { name = codes "style"; value = value } ∷ [] })
    (record {
      following = 0x20 ∷ (codes "style" ++ (codes "=\"" ++ (value ++ (34 ∷ (0x3E ∷ rest)))));
      spelled = ap (λ (cs : List ℕ). codes "<col style=\"width:" ++ cs) (
          append_assoc (decimal width) (codes "ch\">") rest ∙ sym
          (append_assoc (decimal width) (codes "ch") (34 ∷ (0x3E ∷ rest))));
      named = (refl, (refl, (refl, tt)));
      separated = refl;
      attributes = in_quotes (codes "style") value (0x3E ∷ rest) [] rest (λ e. cc) (refl, (refl, (refl, (refl, (refl, tt)))))
          plain (grammar.end refl);
    })
    refl refl

-- ---- cells

-- an attribute with a number, if it is there
abbrev given : Bool → List ℕ → ℕ → List Attribute
given b name number = cond b (record { name = name; value = decimal number } ∷ []) []

numbered : (b : Bool) (name : List ℕ) (number : ℕ) (later : List ℕ) (others : List Attribute) (rest : List ℕ) →
    number < 2 ^ 64 → name ≢ [] →
    Each is_name_character name → Attributes later others rest →
    Attributes (cond b (0x20 ∷ name ++ codes "=\"" ++ decimal number ++ codes "\"") [] ++ later) (given b name number ++ others)
    rest
numbered false name number later others rest small some named more = more
numbered true name number later others rest small some named more =
    let same : (0x20 ∷ name ++ codes "=\"" ++ decimal number ++ codes "\"") ++ later ≡ 0x20 ∷
    (name ++ (codes "=\"" ++ (decimal number ++ (34 ∷ later)))) =
    append_assoc (0x20 ∷ name ++ codes "=\"" ++ decimal number) (codes "\"") later
    ∙ append_assoc (0x20 ∷ name ++ codes "=\"") (decimal number) (34 ∷ later)
    ∙ append_assoc (0x20 ∷ name) (codes "=\"") (decimal number ++ (34 ∷ later)) in
    subst (λ (cs : List ℕ). Attributes cs (record { name = name; value = decimal number } ∷ others) rest) (sym same)
    (in_quotes name (decimal number) later others rest some named
    (digits_no_quote (decimal number) (decimal_digits number small).digits) more)

-- the numbers of a cell, which asks for no side, and its attributes as they are written
abbrev pub numbers : ℕ → ℕ → ℕ → Spans
numbers colspan rowspan least = record { colspan = colspan; rowspan = rowspan; span = 1; least = least; align = None }

abbrev pub attributes_text : ℕ → ℕ → ℕ → List ℕ
attributes_text colspan rowspan least =
    number_attribute (codes "colspan") 1 colspan ++ number_attribute (codes "rowspan") 1 rowspan
    ++ number_attribute (codes "data-min") 0 least

-- the attributes of a cell
module _ (colspan rowspan least : ℕ) (columns : 0 < colspan) (few_columns : colspan ≤ MAX_COLSPAN) (rows : 0 < rowspan)
    (few_rows : rowspan ≤ MAX_ROWSPAN)
    (narrow : least ≤ MAX_PAGE_WIDTH) where
  abbrev listed : Bool → Bool → Bool → List Attribute
  listed a b c = given a (codes "colspan") colspan ++ (given b (codes "rowspan") rowspan ++
      (given c (codes "data-min") least ++ []))

  colspan_value : (a b c : Bool) → value_of (codes "colspan") (listed a b c) ≡ cond a (Some (decimal colspan)) None
  colspan_value true b c = refl
  colspan_value false true true = refl
  colspan_value false true false = refl
  colspan_value false false true = refl
  colspan_value false false false = refl

  rowspan_value : (a b c : Bool) → value_of (codes "rowspan") (listed a b c) ≡ cond b (Some (decimal rowspan)) None
  rowspan_value true true c = refl
  rowspan_value false true c = refl
  rowspan_value true false true = refl
  rowspan_value true false false = refl
  rowspan_value false false true = refl
  rowspan_value false false false = refl

  least_value : (a b c : Bool) → value_of (codes "data-min") (listed a b c) ≡ cond c (Some (decimal least)) None
  least_value true true true = refl
  least_value true true false = refl
  least_value true false true = refl
  least_value true false false = refl
  least_value false true true = refl
  least_value false true false = refl
  least_value false false true = refl
  least_value false false false = refl

  colspan_is : (a b c : Bool) → ltb 1 colspan ≡ a → columns_spanned (attribute_number (codes "colspan") (listed a b c)) ≡ colspan
  colspan_is a b c is = ap (λ (v : Option (List ℕ)). columns_spanned (option_and_then number_of v))
      (colspan_value a b c) ∙ by_test a is
    where
      by_test : (d : Bool) → ltb 1 colspan ≡ d →
          columns_spanned (option_and_then number_of (cond d (Some (decimal colspan)) None)) ≡ colspan
      by_test true more = ap columns_spanned (decimal_number colspan (omega arith)) ∙
          (let n : max 1 (min colspan MAX_COLSPAN) ≡ colspan = omega arith in n)
      by_test false one = let le = ltb-false 1 colspan one in omega arith

  rowspan_is : (a b c : Bool) → ltb 1 rowspan ≡ b → rows_spanned (attribute_number (codes "rowspan") (listed a b c)) ≡ rowspan
  rowspan_is a b c is = ap (λ (v : Option (List ℕ)). rows_spanned (option_and_then number_of v)) (rowspan_value a b c)
      ∙ by_test b is
    where
      by_test : (d : Bool) → ltb 1 rowspan ≡ d →
          rows_spanned (option_and_then number_of (cond d (Some (decimal rowspan)) None)) ≡ rowspan
      by_test true more = ap rows_spanned (decimal_number rowspan (omega arith)) ∙ (let n : min rowspan MAX_ROWSPAN ≡ rowspan =
          omega arith in n)
      by_test false one = let le = ltb-false 1 rowspan one in omega arith

  least_is : (a b c : Bool) → ltb 0 least ≡ c → floor_of (attribute_number (codes "data-min") (listed a b c)) ≡ least
  least_is a b c is = ap (λ (v : Option (List ℕ)). floor_of (option_and_then number_of v)) (least_value a b c) ∙ by_test c is
    where
      by_test : (d : Bool) → ltb 0 least ≡ d → floor_of (option_and_then number_of (cond d (Some (decimal least)) None)) ≡ least
      by_test true more = ap floor_of (decimal_number least (omega arith)) ∙ (let n : min least MAX_PAGE_WIDTH ≡ least =
          omega arith in n)
      by_test false none = let le = ltb-false 0 least none in omega arith

  side_is : (a b c : Bool) → attribute_side (listed a b c) ≡ None
  side_is true true true = refl
  side_is true true false = refl
  side_is true false true = refl
  side_is true false false = refl
  side_is false true true = refl
  side_is false true false = refl
  side_is false false true = refl
  side_is false false false = refl

  spans_are : cell_spans (listed (ltb 1 colspan) (ltb 1 rowspan) (ltb 0 least)) ≡ numbers colspan rowspan least
  spans_are = λ i. record {
    colspan = colspan_is (ltb 1 colspan) (ltb 1 rowspan) (ltb 0 least) refl i;
    rowspan = rowspan_is (ltb 1 colspan) (ltb 1 rowspan) (ltb 0 least) refl i;
    span = 1;
    least = least_is (ltb 1 colspan) (ltb 1 rowspan) (ltb 0 least) refl i;
    align = side_is (ltb 1 colspan) (ltb 1 rowspan) (ltb 0 least) i;
  }

  all_attributes : (rest : List ℕ) → Attributes ((attributes_text colspan rowspan least) ++ (0x3E ∷ rest))
      (listed (ltb 1 colspan) (ltb 1 rowspan) (ltb 0 least)) rest
  all_attributes rest =
      let a = number_attribute (codes "colspan") 1 colspan in
      let b = number_attribute (codes "rowspan") 1 rowspan in
      let c = number_attribute (codes "data-min") 0 least in
      let same : (attributes_text colspan rowspan least) ++ (0x3E ∷ rest) ≡ a ++ (b ++ (c ++ (0x3E ∷ rest))) =
      append_assoc (a ++ b) c (0x3E ∷ rest) ∙ append_assoc a b (c ++ (0x3E ∷ rest)) in
      subst (λ (cs : List ℕ). Attributes cs (listed (ltb 1 colspan) (ltb 1 rowspan) (ltb 0 least)) rest) (sym same)
      (numbered (ltb 1 colspan) (codes "colspan") colspan (b ++ (c ++ (0x3E ∷ rest))) _ rest (omega arith) (λ e. cc)
      (refl, (refl, (refl, (refl, (refl, (refl, (refl, tt)))))))
      (numbered (ltb 1 rowspan) (codes "rowspan") rowspan (c ++ (0x3E ∷ rest)) _ rest (omega arith) (λ e. cc)
      (refl, (refl, (refl, (refl, (refl, (refl, (refl, tt)))))))
      (numbered (ltb 0 least) (codes "data-min") least (0x3E ∷ rest) [] rest (omega arith) (λ e. cc)
      (refl, (refl, (refl, (refl, (refl, (refl, (refl, (refl, tt))))))))
      (grammar.end refl))))

  separated_text : (rest : List ℕ) → begins (λ c. is_gap c || c ∈ ">")
      ((attributes_text colspan rowspan least) ++ (0x3E ∷ rest)) ≡ true
  separated_text rest = by_tests (ltb 1 colspan) (ltb 1 rowspan) (ltb 0 least)
    where
      by_tests : (a b c : Bool) → begins (λ x. is_gap x || x ∈ ">")
          (((cond a (0x20 ∷ codes "colspan" ++ codes "=\"" ++ decimal colspan ++ codes "\"") []
          ++ cond b (0x20 ∷ codes "rowspan" ++ codes "=\"" ++ decimal rowspan ++ codes "\"") [])
          ++ cond c (0x20 ∷ codes "data-min" ++ codes "=\"" ++ decimal least ++ codes "\"") []) ++ (0x3E ∷ rest)) ≡ true
      by_tests true b c = refl
      by_tests false true c = refl
      by_tests false false true = refl
      by_tests false false false = refl

  cell_tag : (name : List ℕ) (e : Element) → IsTagName name → element_of name ≡ Some e →
      ((all : List Attribute) → span_numbers e all ≡ cell_spans all) →
      IsTagText (0x3C ∷ (name ++ ((attributes_text colspan rowspan least) ++ 0x3E ∷ []))) false e (numbers colspan rowspan least)
  cell_tag name e named known spans rest =
      let all = listed (ltb 1 colspan) (ltb 1 rowspan) (ltb 0 least) in
      markup e (record { is_end = false; name = name; attributes = all })
      (record {
        following = (attributes_text colspan rowspan least) ++ (0x3E ∷ rest);
        spelled = ap (λ (cs : List ℕ). 0x3C ∷ cs) (append_assoc name ((attributes_text colspan rowspan least) ++ 0x3E ∷ []) rest
            ∙ ap (λ (cs : List ℕ). name ++ cs) (append_assoc (attributes_text colspan rowspan least) (0x3E ∷ []) rest));
        named = named;
        separated = separated_text rest;
        attributes = all_attributes rest;
      })
      known (ap (Start e) (sym spans_are ∙ sym (spans all)))

  pub plain_start : IsTagText (0x3C ∷ (codes "td" ++ ((attributes_text colspan rowspan least) ++ 0x3E ∷ []))) false Td
      (numbers colspan rowspan least)
  plain_start = cell_tag (codes "td") Td (refl, (refl, tt)) refl (λ all. refl)

  pub head_start : IsTagText (0x3C ∷ (codes "th" ++ ((attributes_text colspan rowspan least) ++ 0x3E ∷ []))) false Th
      (numbers colspan rowspan least)
  head_start = cell_tag (codes "th") Th (refl, (refl, tt)) refl (λ all. refl)
