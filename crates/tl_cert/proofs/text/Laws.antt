-- What is read from a whole text is what the text says: its certificate, or its first fault.
use Rattle.std.proofs.Common.{◌≡◌, ℕ, ◌+◌, ◌-◌, ◌≤◌, ◌<◌, List, [], ◌∷◌, ◌++◌, inl, inr, length, take, drop, refl, sym, ap, subst}
use Rattle.std.proofs.Common.{◌∙◌, append_assoc, arith}
use Rattle.std.proofs.lemmas.Bool.{cases_order}
use Rattle.std.proofs.lemmas.List.{append-nil, length-append, take_at, take-append-drop, take-take}
use Rattle.tl_cert.specs.declared.certificate.Certificate.{Certificate}
use Rattle.tl_cert.specs.Pieces.{spell, numeral}
use Rattle.tl_cert.specs.Text.{cert_pieces, cert_text, IsShaped, IsWritable}
use Rattle.tl_cert.specs.Faults.{BeginsText, IsRangeFault, IsSyntaxFault}
use Rattle.tl_cert.specs.inner.CertReading.{certificate_at, ended_by, whole_at}
use Rattle.tl_cert.specs.inner.reading.Readings.{Answer, got, wrong, outside, then_read}
use Rattle.tl_cert.proofs.reading.Exact.{SameStart, Outside, Takes}
use Rattle.tl_cert.proofs.text.Whole.{exact_certificate}

-- ---- the laws of the text

-- No two certificates have one text, and no text is a proper prefix of another.
pub texts_apart : (c d : Certificate) (t u : List ℕ) → IsShaped c → IsShaped d → cert_text c ++ t ≡ cert_text d ++ u →
    (c ≡ d) × (t ≡ u)
texts_apart c d t u one two same = exact_certificate.apart c d t u one two same

-- ---- reading to the end

same_start : (rest : List ℕ) → SameStart rest rest
same_start [] = tt
same_start (b ∷ rest) = refl

-- what begins a text, and a byte with which none goes on
take_prefix : (prefix rest : List ℕ) → take (length prefix) (prefix ++ rest) ≡ prefix
take_prefix prefix rest = take_at prefix rest (length prefix) refl

-- the prefix that is one byte longer
take_one_more : (prefix : List ℕ) (b : ℕ) (rest : List ℕ) → take (length prefix + 1) (prefix ++ (b ∷ rest)) ≡ prefix ++ (b ∷ [])
take_one_more prefix b rest =
    let whole : (prefix ++ (b ∷ [])) ++ rest ≡ prefix ++ (b ∷ rest) = append_assoc prefix (b ∷ []) rest in
    let size : length (prefix ++ (b ∷ [])) ≡ length prefix + 1 = length-append prefix (b ∷ []) in
    ap (take (length prefix + 1)) (sym whole) ∙ take_at (prefix ++ (b ∷ [])) rest (length prefix + 1) size

-- The place at which a text gets stuck, in the words of the certificate's faults.
pub record StuckAt (bytes : List ℕ) (left : ℕ) : Type 0 where
  pub prefix : List ℕ
  pub rest : List ℕ
  pub parts : bytes ≡ prefix ++ rest
  pub count : length rest ≡ left
  pub begins : BeginsText prefix
  pub goes_on : (other : List ℕ) (v : Certificate) → IsShaped v → SameStart rest other → cert_text v ≡ prefix ++ other → ⊥

place_is : (bytes : List ℕ) (left : ℕ) (stuck : StuckAt bytes left) → length bytes - left ≡ length stuck.prefix
place_is bytes left stuck = omega (arith, ap length stuck.parts ∙ length-append stuck.prefix stuck.rest, stuck.count)

no_more : (bytes : List ℕ) (left : ℕ) (stuck : StuckAt bytes left) → length stuck.prefix < length bytes →
    BeginsText (take (length stuck.prefix + 1) bytes) → ⊥
no_more bytes left stuck less begun = at_rest stuck.rest stuck.parts stuck.goes_on
  where
    at_rest : (rest : List ℕ) → bytes ≡ stuck.prefix ++ rest →
        ((other : List ℕ) (v : Certificate) → IsShaped v → SameStart rest other
        → cert_text v ≡ stuck.prefix ++ other → ⊥) → ⊥
    at_rest [] parts goes_on = absurd (omega (arith, ap length parts ∙ length-append stuck.prefix []))
    at_rest (b ∷ rest) parts goes_on =
        let prefix-is : take (length stuck.prefix + 1) bytes ≡ stuck.prefix ++ (b ∷ []) =
        ap (take (length stuck.prefix + 1)) parts ∙ take_one_more stuck.prefix b rest in
        goes_on (b ∷ begun.more) begun.whole begun.shaped refl
        (begun.text ∙ ap (λ (t : List ℕ). t ++ begun.more) prefix-is ∙ append_assoc stuck.prefix (b ∷ []) begun.more)

no_whole : (bytes : List ℕ) (left : ℕ) (stuck : StuckAt bytes left) (c : Certificate) → IsShaped c → cert_text c ≡ bytes → ⊥
no_whole bytes left stuck c shaped is = stuck.goes_on stuck.rest c shaped (same_start stuck.rest) (is ∙ stuck.parts)

-- a number outside its range, in both words
outside_from : (bytes : List ℕ) (place : ℕ) → IsRangeFault bytes place → Outside IsShaped cert_pieces bytes (length bytes - place)
outside_from bytes place fault = record {
  value = fault.whole;
  shaped = fault.shaped;
  before = fault.before;
  low = fault.low;
  high = fault.high;
  n = fault.n;
  after = fault.after;
  tail = fault.tail;
  split = fault.pieces;
  within = fault.within;
  beyond = fault.beyond;
  parts = fault.text;
  past = fault.past;
  count = omega (
    arith,
    ap length fault.text ∙ length-append (spell fault.before) (numeral fault.n ++ fault.tail),
    fault.place_is,
  );
}

range_from : (bytes : List ℕ) (left : ℕ) → Outside IsShaped cert_pieces bytes left → IsRangeFault bytes (length bytes - left)
range_from bytes left out = record {
  whole = out.value;
  shaped = out.shaped;
  before = out.before;
  low = out.low;
  high = out.high;
  n = out.n;
  after = out.after;
  tail = out.tail;
  pieces = out.split;
  within = out.within;
  beyond = out.beyond;
  text = out.parts;
  past = out.past;
  place_is = omega (arith, ap length out.parts ∙ length-append (spell out.before) (numeral out.n ++ out.tail), out.count);
}

abbrev pub WholeAnswer : List ℕ → Answer Certificate → Type 0
WholeAnswer bytes (got c rest) = IsWritable c × (bytes ≡ cert_text c)
WholeAnswer bytes (wrong left) = StuckAt bytes left
WholeAnswer bytes (outside left) = Outside IsShaped cert_pieces bytes left

at_end : (bytes : List ℕ) (c : Certificate) (rest : List ℕ) → Takes IsShaped cert_pieces bytes c rest →
    WholeAnswer bytes (ended_by c rest)
at_end bytes c [] p = ((p.shaped, p.within), p.parts ∙ append-nil (cert_text c))
at_end bytes c (b ∷ rest) p = record {
  prefix = cert_text c;
  rest = b ∷ rest;
  parts = p.parts;
  count = refl;
  begins = record { whole = c; more = []; shaped = p.shaped; text = sym (append-nil (cert_text c)) };
  goes_on = past;
}
  where
    past : (other : List ℕ) (v : Certificate) → IsShaped v → SameStart (b ∷ rest) other → cert_text v ≡ cert_text c ++ other → ⊥
    past [] v shaped same is = same
    past (d ∷ other) v shaped same is =
        let q = texts_apart v c [] (d ∷ other) shaped p.shaped (append-nil (cert_text v) ∙ is) in
        let nothing : [] ≡ d ∷ other = q.1 in
        cc

read_answer : (bytes : List ℕ) (x : Answer Certificate) → certificate_at bytes ≡ x → WholeAnswer bytes (then_read x ended_by)
read_answer bytes (got c rest) is = at_end bytes c rest (exact_certificate.takes bytes c rest is)
read_answer bytes (wrong left) is =
    let p = exact_certificate.wrong_at bytes left is in
    record {
      prefix = p.prefix;
      rest = p.rest;
      parts = p.parts;
      count = p.count;
      begins = record { whole = p.value; more = p.more; shaped = p.shaped; text = p.begins };
      goes_on = λ other v shaped same goes. p.ends v [] other shaped same (append-nil (cert_text v) ∙ goes);
    }
read_answer bytes (outside left) is = exact_certificate.outside_at bytes left is

pub whole_answer : (bytes : List ℕ) → WholeAnswer bytes (whole_at bytes)
unfolding whole_at
whole_answer bytes = read_answer bytes (certificate_at bytes) refl

-- ---- and the other way round

pub whole_again : (bytes : List ℕ) (c : Certificate) → IsWritable c → bytes ≡ cert_text c → whole_at bytes ≡ got c []
unfolding whole_at
whole_again bytes c writable is =
    let read : certificate_at bytes ≡ got c [] = ap certificate_at
    (is ∙ sym (append-nil (cert_text c))) ∙ exact_certificate.again c [] writable.0 writable.1 in
    ap (λ (x : Answer Certificate). then_read x ended_by) read

pub whole_outside : (bytes : List ℕ) (place : ℕ) → IsRangeFault bytes place → (whole_at bytes ≡ outside (length bytes - place))
    × (length bytes - (length bytes - place) ≡ place)
unfolding whole_at
whole_outside bytes place fault =
    let out = outside_from bytes place fault in (
      ap (λ (x : Answer Certificate). then_read x ended_by) (exact_certificate.first_out bytes (length bytes - place) out),
      omega (arith, ap length fault.text ∙ length-append (spell fault.before) (numeral fault.n ++ fault.tail), fault.place_is),
    )

-- a stuck text with no number outside its range
pub syntax_from : (bytes : List ℕ) (left : ℕ) → whole_at bytes ≡ wrong left → IsSyntaxFault bytes (length bytes - left)
syntax_from bytes left is =
    let P : Answer Certificate → Type 0 = WholeAnswer bytes in
    let stuck : StuckAt bytes left = subst P is (whole_answer bytes) in
    let place = place_is bytes left stuck in
    let prefix : take (length stuck.prefix) bytes ≡ stuck.prefix =
    ap (take (length stuck.prefix)) stuck.parts ∙ take_prefix stuck.prefix stuck.rest in
    record {
      there = omega arith;
      begins = rw (place, prefix) stuck.begins;
      ends = λ less begun. no_more bytes left stuck (omega (arith, place)) (let Q : ℕ → Type 0 =
          λ k. BeginsText (take (k + 1) bytes) in subst Q place begun);
      no_text = λ c shaped same. no_whole bytes left stuck c shaped same;
      no_range = λ other fault. let out = (whole_outside bytes other fault).0 in cc;
    }

-- what begins a text begins one with fewer bytes too
shorter_begins : (bytes : List ℕ) (k n : ℕ) → k ≤ n → BeginsText (take n bytes) → BeginsText (take k bytes)
shorter_begins bytes k n le begun =
    let shorter : take k (take n bytes) ≡ take k bytes = take-take k n bytes le in
    record {
      whole = begun.whole;
      more = drop k (take n bytes) ++ begun.more;
      shaped = begun.shaped;
      text = begun.text ∙ ap (λ (t : List ℕ). t ++ begun.more) (sym (take-append-drop k (take n bytes)))
          ∙ append_assoc (take k (take n bytes)) (drop k (take n bytes)) begun.more
          ∙ ap (λ (t : List ℕ). t ++ (drop k (take n bytes) ++ begun.more)) shorter;
    }

-- there is one place at which a text stops to begin
pub one_place : (bytes : List ℕ) (p q : ℕ) → IsSyntaxFault bytes p → IsSyntaxFault bytes q → p ≡ q
one_place bytes p q one two =
    elim (cases_order p q) [
      | inl same ↦ same
      | inr differ ↦ elim differ [
        | inl less ↦ absurd (one.ends (omega (arith, two.there)) (shorter_begins bytes (p + 1) q (omega arith) two.begins))
        | inr more ↦ absurd (two.ends (omega (arith, one.there)) (shorter_begins bytes (q + 1) p (omega arith) one.begins))
      ]
    ]

-- whatever is no text and has no number outside its range is stuck
pub whole_wrong : (bytes : List ℕ) (place : ℕ) → IsSyntaxFault bytes place →
    (left : ℕ) × (whole_at bytes ≡ wrong left) × (length bytes - left ≡ place)
whole_wrong bytes place fault = at_answer (whole_at bytes) refl
  where
    at_answer : (x : Answer Certificate) → whole_at bytes ≡ x →
        (left : ℕ) × (whole_at bytes ≡ wrong left) × (length bytes - left ≡ place)
    at_answer (got c rest) is =
        let P : Answer Certificate → Type 0 = WholeAnswer bytes in
        let read : IsWritable c × (bytes ≡ cert_text c) = subst P is (whole_answer bytes) in
        absurd (fault.no_text c read.0.0 (sym read.1))
    at_answer (wrong left) is = (left, is, one_place bytes (length bytes - left) place (syntax_from bytes left is) fault)
    at_answer (outside left) is =
        let P : Answer Certificate → Type 0 = WholeAnswer bytes in
        let out : Outside IsShaped cert_pieces bytes left = subst P is (whole_answer bytes) in
        absurd (fault.no_range (length bytes - left) (range_from bytes left out))

pub range_of : (bytes : List ℕ) (left : ℕ) → whole_at bytes ≡ outside left → IsRangeFault bytes (length bytes - left)
range_of bytes left is =
    let P : Answer Certificate → Type 0 = WholeAnswer bytes in
    range_from bytes left (subst P is (whole_answer bytes))

pub text_of : (bytes : List ℕ) (c : Certificate) (rest : List ℕ) → whole_at bytes ≡ got c rest →
    IsWritable c × (bytes ≡ cert_text c)
text_of bytes c rest is = let P : Answer Certificate → Type 0 = WholeAnswer bytes in subst P is (whole_answer bytes)
