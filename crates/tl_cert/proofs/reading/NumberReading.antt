-- Reading a number and the character that ends it is exact.
use Rattle.std.proofs.Common.{◌≡◌, ℕ, zero, suc, ◌+◌, ◌*◌, ◌-◌, ◌≤◌, ◌<◌, Bool, true, false, cond, eqb, leb}
use Rattle.std.proofs.Common.{◌&&◌, List, [], ◌∷◌, ◌++◌, length, inl, inr, refl, sym, ap, subst, ◌∙◌, append_assoc, arith}
use Rattle.std.specs.Char.{is_ascii_digit}
use Rattle.std.proofs.lemmas.List.{append-nil}
use Rattle.std.proofs.lemmas.Bool.{cases_Bool, eqb-true, eqb-false, ne_eqb, and_parts, and_from, leb-true, le-leb}
use Rattle.tl_cert.specs.Pieces.{TextPiece, number, character, spell, numeral, IsPieceInRange, AllWithin, IsPastDigits}
use Rattle.tl_cert.specs.inner.reading.Readings.{Answer, got, wrong, outside, begins}
use Rattle.tl_cert.specs.inner.reading.Numbers.{read_run, ended, run_ended, zero_ended, number_reading}
use Rattle.tl_cert.proofs.reading.Numerals.{numeral_small, digit_range}
use Rattle.tl_cert.proofs.reading.Runs.{run_digit, run_stops, run-numeral, run_gives}
use Rattle.tl_cert.proofs.reading.NumeralDigits.{numeral_first}
use Rattle.tl_cert.proofs.reading.Words.{no_number}
use Rattle.tl_cert.proofs.reading.Exact.{SameStart, Stuck, Outside, Takes, Exact}

-- which characters end which numbers: no digit does, and a number that nothing ends goes on to one that something ends
pub record IsRule (possible : ℕ → Bool) (allowed : ℕ → ℕ → Bool) : Type 0 where
  pub some_end : (n : ℕ) → possible n ≡ true → (e : ℕ) × (allowed n e ≡ true)
  pub no_end : (n e : ℕ) → possible n ≡ false → allowed n e ≡ true → ⊥
  pub not_digit : (n e : ℕ) → allowed n e ≡ true → is_ascii_digit e ≡ false
  pub longer : (n : ℕ) → 0 < n → (m : ℕ) × (more : List ℕ) × (possible m ≡ true) × (numeral m ≡ numeral n ++ more)

-- whole runs of digits are one number
pub same_number : (n m : ℕ) (x y : List ℕ) → IsPastDigits x → IsPastDigits y → numeral n ++ x ≡ numeral m ++ y → (n ≡ m) × (x ≡ y)
same_number n m x y px py e =
    let both = sym (run_stops n x px) ∙ sym (run-numeral n x) ∙ ap (read_run 0) e ∙ run-numeral m y ∙ run_stops m y py in
    (ap (λ (p : ℕ × List ℕ). p.0) both, ap (λ (p : ℕ × List ℕ). p.1) both)

past_same : (rest other : List ℕ) → SameStart rest other → IsPastDigits rest → IsPastDigits other
past_same [] [] same past = tt
past_same [] (c ∷ other) same past = absurd same
past_same (b ∷ rest) [] same past = absurd same
past_same (b ∷ rest) (c ∷ other) same past = ap is_ascii_digit (sym same) ∙ past

past_begins : (rest : List ℕ) → IsPastDigits rest → begins is_ascii_digit rest ≡ false
past_begins [] past = refl
past_begins (c ∷ rest) past = past

past_from : (rest : List ℕ) → begins is_ascii_digit rest ≡ false → IsPastDigits rest
past_from [] e = tt
past_from (c ∷ rest) e = e

-- the pieces of a number and the character that ends it
abbrev pub number_pieces : ℕ → ℕ → ℕ × ℕ → List TextPiece
number_pieces low high x = number low high x.0 ∷ character x.1 ∷ []

module _ (low high : ℕ) {possible : ℕ → Bool} {allowed : ℕ → ℕ → Bool} (rule : IsRule possible allowed) where
  abbrev IsEnded : ℕ × ℕ → Type 0
  IsEnded x = allowed x.0 x.1 ≡ true

  abbrev pieces : ℕ × ℕ → List TextPiece
  pieces = number_pieces low high

  abbrev pair : ℕ → ℕ → ℕ × ℕ
  pair n e = (n, e)

  spelled : (n e : ℕ) (t : List ℕ) → spell (pieces (pair n e)) ++ t ≡ numeral n ++ (e ∷ t)
  spelled n e t = append_assoc (numeral n) (e ∷ []) t

  abbrev NumberAnswer : List ℕ → Answer (ℕ × ℕ) → Type 0
  NumberAnswer text (got x rest) = Takes IsEnded pieces text x rest
  NumberAnswer text (wrong left) = Stuck IsEnded pieces text left
  NumberAnswer text (outside left) = Outside IsEnded pieces text left

  -- no such number begins here
  stuck_here : (text : List ℕ) → ((n e : ℕ) (after other : List ℕ) → allowed n e ≡ true → SameStart text other →
      numeral n ++ (e ∷ after) ≡ other → ⊥)
      → Stuck IsEnded pieces text (length text)
  stuck_here text ends =
      let p = rule.longer 1 (omega arith) in
      let end = rule.some_end p.0 p.2 in
      record {
        prefix = [];
        rest = text;
        parts = refl;
        count = refl;
        value = pair p.0 end.0;
        more = spell (pieces (pair p.0 end.0));
        shaped = end.1;
        begins = refl;
        ends = λ v after other shaped same e. ends v.0 v.1 after other shaped same (sym (spelled v.0 v.1 after) ∙ e);
      }

  -- the number is read, and nothing goes on as the rest does
  stuck_after : (text : List ℕ) (n : ℕ) (rest : List ℕ) (m e : ℕ) (more : List ℕ) → text ≡ numeral n ++ rest →
      IsPastDigits rest → allowed m e ≡ true
      → numeral m ≡ numeral n ++ more
      → ((e : ℕ) (after other : List ℕ) → allowed n e ≡ true → SameStart rest other → e ∷ after ≡ other → ⊥) →
      Stuck IsEnded pieces text (length rest)
  stuck_after text n rest m e more parts past shaped longer ends = record {
    prefix = numeral n;
    rest = rest;
    parts = parts;
    count = refl;
    value = pair m e;
    more = more ++ (e ∷ []);
    shaped = shaped;
    begins = ap (λ (t : List ℕ). t ++ (e ∷ [])) longer ∙ append_assoc (numeral n) more (e ∷ []);
    ends = λ v after other shaped same is.
        let g = same_number v.0 n (v.1 ∷ after) other (rule.not_digit v.0 v.1 shaped) (past_same rest other same past)
        (sym (spelled v.0 v.1 after) ∙ is) in
        let P : ℕ → Type 0 = λ k. allowed k v.1 ≡ true in
        ends v.1 after other (subst P g.0 shaped) same g.1;
  }

  no_end_follows : (n : ℕ) (rest : List ℕ) → possible n ≡ false → (e : ℕ) (after other : List ℕ) → allowed n e ≡ true →
      SameStart rest other
      → e ∷ after ≡ other → ⊥
  no_end_follows n rest impossible e after other shaped same is = rule.no_end n e impossible shaped

  no_end_at_end : (n : ℕ) (e : ℕ) (after other : List ℕ) → allowed n e ≡ true → SameStart [] other → e ∷ after ≡ other → ⊥
  no_end_at_end n e after [] shaped same is = cc
  no_end_at_end n e after (c ∷ other) shaped same is = same

  no_such_end : (n c : ℕ) (rest : List ℕ) → allowed n c ≡ false → (e : ℕ) (after other : List ℕ) → allowed n e ≡ true →
      SameStart (c ∷ rest) other
      → e ∷ after ≡ other → ⊥
  no_such_end n c rest refused e after [] shaped same is = same
  no_such_end n c rest refused e after (d ∷ other) shaped same is =
      let head : e ≡ d = cc in
      let this : allowed n c ≡ allowed n e = ap (allowed n) (same ∙ sym head) in
      cc

  ended_answer : (text : List ℕ) (n : ℕ) (rest : List ℕ) → text ≡ numeral n ++ rest → IsPastDigits rest → possible n ≡ true →
      low ≤ n → n ≤ high
      → NumberAnswer text (ended allowed n rest)
  ended_answer text n [] parts past can least most =
      let end = rule.some_end n can in
      stuck_after text n [] n end.0 [] parts tt end.1 (sym (append-nil (numeral n))) (no_end_at_end n)
  ended_answer text n (c ∷ rest) parts past can least most =
      let end = rule.some_end n can in
      let P : Answer (ℕ × ℕ) → Type 0 = NumberAnswer text in
      elim (cases_Bool (allowed n c)) [
        | inl ends ↦
            let is : ended allowed n (c ∷ rest) ≡ got (pair n c) rest = rw ends refl in
            subst P (sym is) (record {
              shaped = ends;
              within = ((least, most), (tt, tt));
              parts =
                  parts ∙ sym (spelled n c rest);
            })
        | inr refused ↦
            let is : ended allowed n (c ∷ rest) ≡ wrong (suc (length rest)) = rw refused refl in
            subst P (sym is) (stuck_after text n (c ∷ rest) n end.0 [] parts past end.1 (sym (append-nil (numeral n)))
            (no_such_end n c rest refused))
      ]

  in_range : (n : ℕ) → (leb low n && leb n high) ≡ true → (low ≤ n) × (n ≤ high)
  in_range n e = let p = and_parts _ _ e in (leb-true _ _ p.0, leb-true _ _ p.1)

  not_in_range : (n : ℕ) → (leb low n && leb n high) ≡ false → IsPieceInRange (number low high n) → ⊥
  not_in_range n e within = let both : (leb low n && leb n high) ≡ true =
      and_from _ _ (le-leb _ _ within.0) (le-leb _ _ within.1) in cc

  run_answer : (text : List ℕ) (n : ℕ) (rest : List ℕ) → text ≡ numeral n ++ rest → IsPastDigits rest →
      (possible n ≡ false → 0 < n)
      → NumberAnswer text (run_ended low high possible allowed (length text) n rest)
  run_answer text n rest parts past positive =
      let P : Answer (ℕ × ℕ) → Type 0 = NumberAnswer text in
      elim (cases_Bool (possible n)) [
        | inl can ↦
            elim (cases_Bool (leb low n && leb n high)) [
              | inl within ↦
                  let range = in_range n within in
                  let is : run_ended low high possible allowed (length text) n rest ≡ ended allowed n rest =
                  rw (can, within) refl in
                  subst P (sym is) (ended_answer text n rest parts past can range.0 range.1)
              | inr beyond ↦
                  let end = rule.some_end n can in
                  let is : run_ended low high possible allowed (length text) n rest ≡ outside (length text) =
                  rw (can, beyond) refl in
                  subst P (sym is) (record {
                    value = pair n end.0;
                    shaped = end.1;
                    before = [];
                    low = low;
                    high = high;
                    n = n;
                    after = character end.0 ∷ [];
                    tail = rest;
                    split = refl;
                    within = tt;
                    beyond = not_in_range n beyond;
                    parts = parts;
                    past = past;
                    count = ap length (sym parts);
                  })
            ]
        | inr impossible ↦
            let is : run_ended low high possible allowed (length text) n rest ≡ wrong (length rest) = rw impossible refl in
            let longer = rule.longer n (positive impossible) in
            let end = rule.some_end longer.0 longer.2 in
            subst P (sym is) (stuck_after text n rest longer.0 end.0 longer.1 parts past end.1 longer.3
            (no_end_follows n rest impossible))
      ]

  not_a_digit : (c : ℕ) (text : List ℕ) → is_ascii_digit c ≡ false → (n e : ℕ) (after other : List ℕ) → allowed n e ≡ true →
      SameStart (c ∷ text) other
      → numeral n ++ (e ∷ after) ≡ other → ⊥
  not_a_digit c text other_sign n e after [] shaped same is = same
  not_a_digit c text other_sign n e after (d ∷ other) shaped same is =
      let p = numeral_first n in
      let begun : p.0 ∷ (p.1 ++ (e ∷ after)) ≡ d ∷ other = ap (λ (ds : List ℕ). ds ++ (e ∷ after)) (sym p.2) ∙ is in
      let head : p.0 ≡ d = cc in
      let digit : is_ascii_digit c ≡ is_ascii_digit p.0 = ap is_ascii_digit (same ∙ sym head) in
      let yes' = p.3 in
      cc

  nothing_left : (n e : ℕ) (after other : List ℕ) → allowed n e ≡ true → SameStart [] other → numeral n ++ (e ∷ after) ≡ other → ⊥
  nothing_left n e after [] shaped same is =
      let p = numeral_first n in
      let begun : p.0 ∷ (p.1 ++ (e ∷ after)) ≡ [] = ap (λ (ds : List ℕ). ds ++ (e ∷ after)) (sym p.2) ∙ is in
      cc
  nothing_left n e after (d ∷ other) shaped same is = same

  no_zero : (text : List ℕ) → possible 0 ≡ false → (n e : ℕ) (after other : List ℕ) → allowed n e ≡ true →
      SameStart (48 ∷ text) other
      → numeral n ++ (e ∷ after) ≡ other → ⊥
  no_zero text impossible n e after [] shaped same is = same
  no_zero text impossible zero e after (d ∷ other) shaped same is = rule.no_end 0 e impossible shaped
  no_zero text impossible (suc n) e after (d ∷ other) shaped same is =
      let p = numeral_first (suc n) in
      let begun : p.0 ∷ (p.1 ++ (e ∷ after)) ≡ d ∷ other = ap (λ (ds : List ℕ). ds ++ (e ∷ after)) (sym p.2) ∙ is in
      let head : p.0 ≡ d = cc in
      p.4 (omega arith) (head ∙ sym same)

  zero_goes_on : (c : ℕ) (text : List ℕ) → is_ascii_digit c ≡ true → (e : ℕ) (after other : List ℕ) → allowed 0 e ≡ true →
      SameStart (c ∷ text) other
      → e ∷ after ≡ other → ⊥
  zero_goes_on c text digit e after [] shaped same is = same
  zero_goes_on c text digit e after (d ∷ other) shaped same is =
      let head : e ≡ d = cc in
      let none = rule.not_digit 0 e shaped in
      let this : is_ascii_digit c ≡ is_ascii_digit e = ap is_ascii_digit (same ∙ sym head) in
      cc

  zero_text : (text : List ℕ) → 48 ∷ text ≡ numeral 0 ++ text
  zero_text text = ap (λ (ds : List ℕ). ds ++ text) (sym (numeral_small 0 (omega arith)))

  -- A zero that a digit follows: the fault is at that digit.
  stuck_at_digit : (text : List ℕ) → possible 0 ≡ true → begins is_ascii_digit text ≡ true →
      Stuck IsEnded pieces (48 ∷ text) (length text)
  stuck_at_digit [] can digit = absurd cc
  stuck_at_digit (c ∷ text) can digit =
      let end = rule.some_end 0 can in
      record {
        prefix = 48 ∷ [];
        rest = c ∷ text;
        parts = refl;
        count = refl;
        value = pair 0 end.0;
        more = end.0 ∷ [];
        shaped = end.1;
        begins = sym (zero_text (end.0 ∷ []));
        ends = λ v after other shaped same is. zero_then c text digit v.0 v.1 after other shaped same
            (sym (spelled v.0 v.1 after) ∙ is);
      }
    where
      zero_then : (c : ℕ) (text : List ℕ) → is_ascii_digit c ≡ true → (n e : ℕ) (after other : List ℕ) → allowed n e ≡ true →
          SameStart (c ∷ text) other
          → numeral n ++ (e ∷ after) ≡ 48 ∷ other → ⊥
      zero_then c text digit zero e after other shaped same is =
          let both : 48 ∷ (e ∷ after) ≡ 48 ∷ other = zero_text (e ∷ after) ∙ is in
          let tail : e ∷ after ≡ other = cc in
          zero_goes_on c text digit e after other shaped same tail
      zero_then c text digit (suc n) e after other shaped same is =
          let p = numeral_first (suc n) in
          let begun : p.0 ∷ (p.1 ++ (e ∷ after)) ≡ 48 ∷ other = ap (λ (ds : List ℕ). ds ++ (e ∷ after)) (sym p.2) ∙ is in
          let head : p.0 ≡ 48 = cc in
          p.4 (omega arith) head

  zero_answer : (text : List ℕ) → NumberAnswer (48 ∷ text) (zero_ended low high possible allowed text)
  zero_answer text =
      let P : Answer (ℕ × ℕ) → Type 0 = NumberAnswer (48 ∷ text) in
      elim (cases_Bool (possible 0)) [
        | inl can ↦
            elim (cases_Bool (begins is_ascii_digit text)) [
              | inl digit ↦
                  let is : zero_ended low high possible allowed text ≡ wrong (length text) = rw (can, digit) refl in
                  subst P (sym is) (stuck_at_digit text can digit)
              | inr alone ↦
                  let is : zero_ended low high possible allowed text ≡ run_ended low high possible allowed (length (48 ∷ text))
                  0 text =
                  ap (λ (b : Bool). cond b (cond (begins is_ascii_digit text) (wrong (length text))
                  (run_ended low high possible allowed (suc (length text)) 0 text)) (wrong (suc (length text)))) can
                  ∙ ap (λ (b : Bool). cond b (wrong (length text))
                  (run_ended low high possible allowed (suc (length text)) 0 text)) alone in
                  subst P (sym is) (run_answer (48 ∷ text) 0 text (zero_text text) (past_from text alone)
                  (λ impossible. absurd cc))
            ]
        | inr impossible ↦
            let is : zero_ended low high possible allowed text ≡ wrong (suc (length text)) = rw impossible refl in
            subst P (sym is) (stuck_here (48 ∷ text) (no_zero text impossible))
      ]

  -- a digit that is not 0 begins a whole run
  run_parts : (c : ℕ) (text : List ℕ) → is_ascii_digit c ≡ true → (c ≡ 48 → ⊥) →
      c ∷ text ≡ numeral ((read_run (c - 48) text).0) ++ (read_run (c - 48) text).1
  run_parts c text digit nonzero =
      let range = digit_range c digit in
      let first : numeral (c - 48) ≡ c ∷ [] = numeral_small (c - 48) (omega arith) ∙ ap (λ (k : ℕ). k ∷ []) (omega arith) in
      ap (λ (ds : List ℕ). ds ++ text) (sym first) ∙ (run_gives (c - 48) text (omega arith)).parts

  number_answer : (text : List ℕ) → NumberAnswer text (number_reading low high possible allowed text)
  unfolding number_reading
  number_answer [] = stuck_here [] nothing_left
  number_answer (c ∷ text) =
      let P : Answer (ℕ × ℕ) → Type 0 = NumberAnswer (c ∷ text) in
      elim (cases_Bool (is_ascii_digit c)) [
        | inl digit ↦
            elim (cases_Bool (eqb c 48)) [
              | inl is_zero ↦
                  let c-is : c ≡ 48 = eqb-true c 48 is_zero in
                  let is : number_reading low high possible allowed (c ∷ text) ≡ zero_ended low high possible allowed text =
                  rw (digit, is_zero) refl in
                  let Q : ℕ → Type 0 = λ d. NumberAnswer (d ∷ text) (zero_ended low high possible allowed text) in
                  subst P (sym is) (subst Q (sym c-is) (zero_answer text))
              | inr nonzero ↦
                  let range = digit_range c digit in
                  let differs = eqb-false c 48 nonzero in
                  let gives = run_gives (c - 48) text (omega arith) in
                  let is : number_reading low high possible allowed (c ∷ text) ≡ run_ended low high possible allowed
                  (suc (length text))
                  ((read_run (c - 48) text).0) ((read_run (c - 48) text).1) = rw (digit, nonzero) refl in
                  subst P (sym is) (run_answer (c ∷ text) ((read_run (c - 48) text).0) ((read_run (c - 48) text).1)
                  (run_parts c text digit differs) gives.past (λ _. omega (arith, gives.least)))
            ]
        | inr other ↦
            let is : number_reading low high possible allowed (c ∷ text) ≡ wrong (suc (length text)) = rw other refl in
            subst P (sym is) (stuck_here (c ∷ text) (not_a_digit c text other))
      ]

  abbrev run_pair : ℕ → List ℕ → ℕ × List ℕ
  run_pair n rest = (n, rest)

  same_run : (m n : ℕ) (text : List ℕ) → m ≡ n → read_run m text ≡ read_run n text
  same_run m n text same = ap (λ (k : ℕ). read_run k text) same

  -- a whole number that may stand here is read
  number_run : (n : ℕ) (rest : List ℕ) → IsPastDigits rest → possible n ≡ true
      → number_reading low high possible allowed (numeral n ++ rest) ≡ run_ended low high possible allowed
      (length (numeral n ++ rest)) n rest
  unfolding number_reading
  number_run zero rest past can =
      let P : List ℕ → Type 0 = λ ds. number_reading low high possible allowed (ds ++ rest) ≡ run_ended low high possible allowed
      (length (ds ++ rest)) 0 rest in
      let none = past_begins rest past in
      subst P (sym (numeral_small 0 (omega arith)))
      (ap (λ (b : Bool). cond b (cond (begins is_ascii_digit rest) (wrong (length rest))
      (run_ended low high possible allowed (suc (length rest)) 0 rest))
      (wrong (suc (length rest)))) can
      ∙ ap (λ (b : Bool). cond b (wrong (length rest)) (run_ended low high possible allowed (suc (length rest)) 0 rest)) none)
  number_run (suc n) rest past can =
      let p = numeral_first (suc n) in
      let nonzero = p.4 (omega arith) in
      let range = digit_range p.0 p.3 in
      let run : read_run (p.0 - 48) (p.1 ++ rest) ≡ run_pair (suc n) rest =
      same_run (p.0 - 48) (10 * 0 + (p.0 - 48)) (p.1 ++ rest) (omega arith) ∙ sym (run_digit 0 p.0 (p.1 ++ rest) p.3)
      ∙ ap (λ (ds : List ℕ). read_run 0 (ds ++ rest)) (sym p.2)
      ∙ run-numeral (suc n) rest ∙ run_stops (suc n) rest past in
      let P : List ℕ → Type 0 = λ ds. number_reading low high possible allowed (ds ++ rest)
      ≡ run_ended low high possible allowed (length (ds ++ rest)) (suc n) rest in
      subst P (sym p.2)
      (rw (p.3, ne_eqb p.0 48 nonzero) (ap (λ (r : ℕ × List ℕ). run_ended low high possible allowed (suc (length (p.1 ++ rest)))
      (r.0) (r.1)) run))

  can_be : (n e : ℕ) → allowed n e ≡ true → possible n ≡ true
  can_be n e ends = elim (cases_Bool (possible n)) [ inl can ↦ can | inr impossible ↦ absurd (rule.no_end n e impossible ends) ]

  number_again : (x : ℕ × ℕ) (rest : List ℕ) → IsEnded x → AllWithin (pieces x) →
      number_reading low high possible allowed (spell (pieces x) ++ rest) ≡ got x rest
  number_again x rest ends within =
      let can = can_be x.0 x.1 ends in
      let inside : (leb low x.0 && leb x.0 high) ≡ true = and_from _ _ (le-leb _ _ within.0.0) (le-leb _ _ within.0.1) in
      ap (number_reading low high possible allowed) (spelled x.0 x.1 rest) ∙ number_run x.0 (x.1 ∷ rest)
      (rule.not_digit x.0 x.1 ends) can
      ∙ rw (can, inside, ends) refl

  number_first_out : (text : List ℕ) (left : ℕ) → Outside IsEnded pieces text left →
      number_reading low high possible allowed text ≡ outside left
  number_first_out text left out = at_number text left out.value out.shaped out.before out.low out.high out.n out.after out.tail
      out.split out.beyond
      out.parts out.past out.count
    where
      refused : (l h n : ℕ) → low ≡ l → high ≡ h → (IsPieceInRange (number l h n) → ⊥) → (leb low n && leb n high) ≡ false
      refused l h n low-is high-is beyond =
          elim (cases_Bool (leb low n && leb n high)) [
            | inl within ↦ let range = in_range n within in absurd (beyond (omega arith, omega arith))
            | inr beyond' ↦ beyond'
          ]

      at_number : (text : List ℕ) (left : ℕ) (x : ℕ × ℕ) → IsEnded x →
          (before : List TextPiece) (l h n : ℕ) (after : List TextPiece) (tail : List ℕ)
          → pieces x ≡ before ++ number l h n ∷ after
          → (IsPieceInRange (number l h n) → ⊥) → text ≡ spell before ++ (numeral n ++ tail) → IsPastDigits tail →
          length (numeral n ++ tail) ≡ left
          → number_reading low high possible allowed text ≡ outside left
      at_number text left x ends [] l h n after tail split beyond parts past count =
          let low-is : low ≡ l = cc in
          let high-is : high ≡ h = cc in
          let n-is : x.0 ≡ n = cc in
          let can : possible n ≡ true = ap possible (sym n-is) ∙ can_be x.0 x.1 ends in
          let out : (leb low n && leb n high) ≡ false = refused l h n low-is high-is beyond in
          ap (number_reading low high possible allowed) parts ∙ number_run n tail past can ∙ rw (can, out)
          (ap (λ (k : ℕ). outside k) count)
      at_number text left x ends (p ∷ before) l h n after tail split beyond parts past count =
          let rest : character x.1 ∷ [] ≡ before ++ number l h n ∷ after = cc in
          absurd (no_number (x.1 ∷ []) before after l h n rest)

  number_apart : (v w : ℕ × ℕ) (t u : List ℕ) → IsEnded v → IsEnded w → spell (pieces v) ++ t ≡ spell (pieces w) ++ u →
      (v ≡ w) × (t ≡ u)
  number_apart v w t u one two e =
      let g = same_number v.0 w.0 (v.1 ∷ t) (w.1 ∷ u) (rule.not_digit v.0 v.1 one) (rule.not_digit w.0 w.1 two)
      (sym (spelled v.0 v.1 t) ∙ e ∙ spelled w.0 w.1 u) in
      let n-is = g.0 in
      let end-is : v.1 ≡ w.1 = cc in
      let rest-is : t ≡ u = cc in
      (ap (λ (k : ℕ). pair k v.1) n-is ∙ ap (λ (k : ℕ). pair w.0 k) end-is, rest-is)

  pub exact_number : Exact (number_reading low high possible allowed) IsEnded pieces
  exact_number =
      let p = rule.longer 1 (omega arith) in
      let end = rule.some_end p.0 p.2 in
      record {
        some = pair p.0 end.0;
        some_shaped = end.1;
        apart = number_apart;
        takes = λ text v rest e. let P : Answer (ℕ × ℕ) → Type 0 = NumberAnswer text in subst P e (number_answer text);
        again = number_again;
        wrong_at = λ text left e. let P : Answer (ℕ × ℕ) → Type 0 = NumberAnswer text in subst P e (number_answer text);
        outside_at = λ text left e. let P : Answer (ℕ × ℕ) → Type 0 = NumberAnswer text in subst P e (number_answer text);
        first_out = number_first_out;
      }
