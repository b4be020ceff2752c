-- One reading after the other is exact for the texts that are joined of both.
use Rattle.std.proofs.Common.{◌≡◌, ℕ, List, ◌∷◌, ◌++◌, refl, sym, ap, subst, ◌∙◌, inl, inr, append_assoc}
use Rattle.tl_cert.specs.Pieces.{TextPiece, number, spell, numeral, AllWithin}
use Rattle.tl_cert.specs.inner.reading.Readings.{Answer, got, wrong, outside, Reading, then_read, followed, ◌>>=◌}
use Rattle.tl_cert.proofs.reading.Spellings.{spell-append, spell_two, within-append, within-first, within-second, lies_in}
use Rattle.tl_cert.proofs.reading.Exact.{Stuck, Outside, Takes, Exact}

-- the part of a value that is read first
pub record Separated {A C : Type 0} (IsFirst : A → Type 0) (IsSecond : A → C → Type 0) (v : C) : Type 0 where
  pub part : A
  pub first : IsFirst part
  pub second : IsSecond part v

-- values whose texts are joined of a first part and a second
pub record Joined {A C : Type 0} (IsFirst : A → Type 0) (first_pieces : A → List TextPiece) (IsSecond : A → C →
    Type 0) (second_pieces : A → C → List TextPiece)
    (IsShaped : C → Type 0) (pieces : C → List TextPiece) : Type 0 where
  pub separated : (v : C) → IsShaped v → Separated IsFirst IsSecond v
  pub shaped : (a : A) (v : C) → IsFirst a → IsSecond a v → IsShaped v
  pub text : (a : A) (v : C) → IsFirst a → IsSecond a v → pieces v ≡ first_pieces a ++ second_pieces a v

module _ {A C : Type 0} {IsFirst : A → Type 0} {first_pieces : A → List TextPiece} {IsSecond : A → C → Type 0}
    {second_pieces : A → C → List TextPiece} {IsShaped : C → Type 0}
    {pieces : C → List TextPiece} {read : Reading A} {next : A → Reading C}
    (first : Exact read IsFirst first_pieces) (second : (a : A) → IsFirst a → Exact (next a) (IsSecond a) (second_pieces a))
    (joined : Joined IsFirst first_pieces IsSecond second_pieces IsShaped pieces) where
  -- the characters of a value, and what follows them
  spelled : (a : A) (v : C) (t : List ℕ) → IsFirst a → IsSecond a v →
      spell (pieces v) ++ t ≡ spell (first_pieces a) ++ (spell (second_pieces a v) ++ t)
  spelled a v t one two = ap (λ (ps : List TextPiece). spell ps ++ t) (joined.text a v one two) ∙ spell_two (first_pieces a)
      (second_pieces a v) t

  spelled_alone : (a : A) (v : C) → IsFirst a → IsSecond a v →
      spell (pieces v) ≡ spell (first_pieces a) ++ spell (second_pieces a v)
  spelled_alone a v one two = ap spell (joined.text a v one two) ∙ spell-append (first_pieces a) (second_pieces a v)

  -- a value whose text goes on as this prefix does has this first part
  abbrev SecondGoesOn : A → C → List ℕ → List ℕ → Type 0
  SecondGoesOn a v t u = IsSecond a v × (spell (second_pieces a v) ++ t ≡ u)

  same_first : (a : A) (v : C) (t u : List ℕ) → IsFirst a → IsShaped v → spell (pieces v) ++ t ≡ spell (first_pieces a) ++ u →
      SecondGoesOn a v t u
  same_first a v t u one shaped same =
      let p = joined.separated v shaped in
      let q = first.apart p.part a (spell (second_pieces p.part v) ++ t) u p.first one
      (sym (spelled p.part v t p.first p.second) ∙ same) in
      let P : A → Type 0 = λ b. SecondGoesOn b v t u in
      subst P q.0 (p.second, q.1)

  then_apart : (v w : C) (t u : List ℕ) → IsShaped v → IsShaped w → spell (pieces v) ++ t ≡ spell (pieces w) ++ u →
      (v ≡ w) × (t ≡ u)
  then_apart v w t u one two same =
      let p = joined.separated w two in
      let g = same_first p.part v t (spell (second_pieces p.part w) ++ u) p.first one
      (same ∙ spelled p.part w u p.first p.second) in
      (second p.part p.first).apart v w t u g.0 p.second g.1

  then_takes : (text : List ℕ) (v : C) (rest : List ℕ) (x : Answer A) → read text ≡ x → then_read x next ≡ got v rest →
      Takes IsShaped pieces text v rest
  then_takes text v rest (got a mid) is e =
      let one = first.takes text a mid is in
      let two = (second a one.shaped).takes mid v rest e in
      record {
        shaped = joined.shaped a v one.shaped two.shaped;
        within = let P : List TextPiece → Type 0 = AllWithin in subst P (sym (joined.text a v one.shaped two.shaped))
            (within-append (first_pieces a) (second_pieces a v) one.within two.within);
        parts = one.parts ∙ ap (λ (t : List ℕ). spell (first_pieces a) ++ t) two.parts ∙ sym
            (spelled a v rest one.shaped two.shaped);
      }
  then_takes text v rest (wrong left) is e = absurd cc
  then_takes text v rest (outside left) is e = absurd cc

  then_wrong : (text : List ℕ) (left : ℕ) (x : Answer A) → read text ≡ x → then_read x next ≡ wrong left →
      Stuck IsShaped pieces text left
  then_wrong text left (got a mid) is e =
      let one = first.takes text a mid is in
      let stuck = (second a one.shaped).wrong_at mid left e in
      record {
        prefix = spell (first_pieces a) ++ stuck.prefix;
        rest = stuck.rest;
        parts = one.parts ∙ ap (λ (t : List ℕ). spell (first_pieces a) ++ t) stuck.parts ∙ sym
            (append_assoc (spell (first_pieces a)) stuck.prefix stuck.rest);
        count = stuck.count;
        value = stuck.value;
        more = stuck.more;
        shaped = joined.shaped a stuck.value one.shaped stuck.shaped;
        begins = spelled_alone a stuck.value one.shaped stuck.shaped ∙ ap (λ (t : List ℕ). spell (first_pieces a) ++ t)
            stuck.begins
            ∙ sym (append_assoc (spell (first_pieces a)) stuck.prefix stuck.more);
        ends = λ v after other shaped same goes_on.
            let g = same_first a v after (stuck.prefix ++ other) one.shaped shaped
            (goes_on ∙ append_assoc (spell (first_pieces a)) stuck.prefix other) in
            stuck.ends v after other g.0 same g.1;
      }
  then_wrong text left (wrong remaining) is e =
      let remaining-is : remaining ≡ left = cc in
      let stuck = first.wrong_at text left (is ∙ ap (λ (k : ℕ). wrong k) remaining-is) in
      let last = second stuck.value stuck.shaped in
      record {
        prefix = stuck.prefix;
        rest = stuck.rest;
        parts = stuck.parts;
        count = stuck.count;
        value = last.some;
        more = stuck.more ++ spell (second_pieces stuck.value last.some);
        shaped = joined.shaped stuck.value last.some stuck.shaped last.some_shaped;
        begins = spelled_alone stuck.value last.some stuck.shaped last.some_shaped
            ∙ ap (λ (t : List ℕ). t ++ spell (second_pieces stuck.value last.some)) stuck.begins
            ∙ append_assoc stuck.prefix stuck.more (spell (second_pieces stuck.value last.some));
        ends = λ v after other shaped same goes_on.
            let p = joined.separated v shaped in
            stuck.ends p.part (spell (second_pieces p.part v) ++ after) other p.first same
            (sym (spelled p.part v after p.first p.second) ∙ goes_on);
      }
  then_wrong text left (outside remaining) is e = absurd cc

  then_outside : (text : List ℕ) (left : ℕ) (x : Answer A) → read text ≡ x → then_read x next ≡ outside left →
      Outside IsShaped pieces text left
  then_outside text left (got a mid) is e =
      let one = first.takes text a mid is in
      let out = (second a one.shaped).outside_at mid left e in
      record {
        value = out.value;
        shaped = joined.shaped a out.value one.shaped out.shaped;
        before = first_pieces a ++ out.before;
        low = out.low;
        high = out.high;
        n = out.n;
        after = out.after;
        tail = out.tail;
        split = joined.text a out.value one.shaped out.shaped ∙ ap (λ (ps : List TextPiece). first_pieces a ++ ps) out.split
            ∙ sym (append_assoc (first_pieces a) out.before (number out.low out.high out.n ∷ out.after));
        within = within-append (first_pieces a) out.before one.within out.within;
        beyond = out.beyond;
        parts = one.parts ∙ ap (λ (t : List ℕ). spell (first_pieces a) ++ t) out.parts
            ∙ sym (spell_two (first_pieces a) out.before (numeral out.n ++ out.tail));
        past = out.past;
        count = out.count;
      }
  then_outside text left (wrong remaining) is e = absurd cc
  then_outside text left (outside remaining) is e =
      let remaining-is : remaining ≡ left = cc in
      let out = first.outside_at text left (is ∙ ap (λ (k : ℕ). outside k) remaining-is) in
      let last = second out.value out.shaped in
      record {
        value = last.some;
        shaped = joined.shaped out.value last.some out.shaped last.some_shaped;
        before = out.before;
        low = out.low;
        high = out.high;
        n = out.n;
        after = out.after ++ second_pieces out.value last.some;
        tail = out.tail;
        split = joined.text out.value last.some out.shaped last.some_shaped ∙ ap
            (λ (ps : List TextPiece). ps ++ second_pieces out.value last.some) out.split
            ∙ append_assoc out.before (number out.low out.high out.n ∷ out.after) (second_pieces out.value last.some);
        within = out.within;
        beyond = out.beyond;
        parts = out.parts;
        past = out.past;
        count = out.count;
      }

  then_first_out : (text : List ℕ) (left : ℕ) → Outside IsShaped pieces text left → then_read (read text) next ≡ outside left
  then_first_out text left out =
      let p = joined.separated out.value out.shaped in
      let split = sym (joined.text p.part out.value p.first p.second) ∙ out.split in
      elim (lies_in (first_pieces p.part) (second_pieces p.part out.value) out.before (number out.low out.high out.n)
      out.after split) [
        | inl there ↦
            let here : read text ≡ outside left = first.first_out text left (record {
              value = p.part;
              shaped = p.first;
              before = out.before;
              low = out.low;
              high = out.high;
              n = out.n;
              after = there.others;
              tail = out.tail;
              split = there.parts;
              within = out.within;
              beyond = out.beyond;
              parts = out.parts;
              past = out.past;
              count = out.count;
            }) in
            ap (λ (x : Answer A). then_read x next) here
        | inr there ↦
            let both = let P : List TextPiece → Type 0 = AllWithin in subst P there.prefix out.within in
            let mid : List ℕ = spell there.others ++ (numeral out.n ++ out.tail) in
            let text-is : text ≡ spell (first_pieces p.part) ++ mid =
            out.parts ∙ ap (λ (ps : List TextPiece). spell ps ++ (numeral out.n ++ out.tail)) there.prefix
            ∙ spell_two (first_pieces p.part) there.others (numeral out.n ++ out.tail) in
            let here : read text ≡ got p.part mid = ap read text-is ∙ first.again p.part mid p.first
            (within-first (first_pieces p.part) there.others both) in
            ap (λ (x : Answer A). then_read x next) here ∙ (second p.part p.first).first_out mid left (record {
              value = out.value;
              shaped = p.second;
              before = there.others;
              low = out.low;
              high = out.high;
              n = out.n;
              after = out.after;
              tail = out.tail;
              split = there.parts;
              within = within-second (first_pieces p.part) there.others both;
              beyond = out.beyond;
              parts = refl;
              past = out.past;
              count = out.count;
            })
      ]

  then_again : (v : C) (rest : List ℕ) → IsShaped v → AllWithin (pieces v) →
      then_read (read (spell (pieces v) ++ rest)) next ≡ got v rest
  then_again v rest shaped within =
      let p = joined.separated v shaped in
      let both = let P : List TextPiece → Type 0 = AllWithin in subst P (joined.text p.part v p.first p.second) within in
      let here = ap read (spelled p.part v rest p.first p.second) ∙ first.again p.part (spell (second_pieces p.part v) ++ rest)
      p.first
      (within-first (first_pieces p.part) (second_pieces p.part v) both) in
      ap (λ (x : Answer A). then_read x next) here ∙ (second p.part p.first).again v rest p.second
      (within-second (first_pieces p.part) (second_pieces p.part v) both)

  pub exact_then : Exact (read >>= next) IsShaped pieces
  unfolding followed
  exact_then =
      let last = second first.some first.some_shaped in
      record {
        some = last.some;
        some_shaped = joined.shaped first.some last.some first.some_shaped last.some_shaped;
        apart = then_apart;
        takes = λ text v rest e. then_takes text v rest (read text) refl e;
        again = then_again;
        wrong_at = λ text left e. then_wrong text left (read text) refl e;
        outside_at = λ text left e. then_outside text left (read text) refl e;
        first_out = then_first_out;
      }
