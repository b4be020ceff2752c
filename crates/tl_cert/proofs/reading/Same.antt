-- A reading that is exact stays so where its texts are described in other words.
use Rattle.std.proofs.Common.{◌≡◌, List, ◌++◌, ◌∙◌, sym, ap, subst}
use Rattle.tl_cert.specs.Pieces.{TextPiece, spell, AllWithin}
use Rattle.tl_cert.specs.inner.reading.Readings.{got, Reading}
use Rattle.tl_cert.proofs.reading.Exact.{Exact}

pub exact_same : {C : Type 0} {read : Reading C} {IsShaped : C → Type 0} {pieces : C → List TextPiece} (IsAlso : C →
    Type 0) (others : C → List TextPiece)
    → Exact read IsShaped pieces → ((v : C) → IsShaped v → IsAlso v) → ((v : C) → IsAlso v → IsShaped v) →
    ((v : C) → IsShaped v → pieces v ≡ others v)
    → Exact read IsAlso others
exact_same {read = read} IsAlso others exact to from same = record {
  some = exact.some;
  some_shaped = to exact.some exact.some_shaped;
  apart = λ v w t u one two e.
      exact.apart v w t u (from v one) (from w two)
      (ap (λ (ps : List TextPiece). spell ps ++ t) (same v (from v one)) ∙ e ∙ ap (λ (ps : List TextPiece). spell ps ++ u)
      (sym (same w (from w two))));
  takes = λ text v rest e.
      let p = exact.takes text v rest e in
      let P : List TextPiece → Type 0 = AllWithin in
      record {
        shaped = to v p.shaped;
        within = subst P (same v p.shaped) p.within;
        parts =
            p.parts ∙ ap (λ (ps : List TextPiece). spell ps ++ rest) (same v p.shaped);
      };
  again = λ v rest shaped within.
      let P : List TextPiece → Type 0 = AllWithin in
      let is = same v (from v shaped) in
      let Q : List TextPiece → Type 0 = λ ps. read (spell ps ++ rest) ≡ got v rest in
      subst Q is (exact.again v rest (from v shaped) (subst P (sym is) within));
  wrong_at = λ text left e.
      let p = exact.wrong_at text left e in
      record {
        prefix = p.prefix;
        rest = p.rest;
        parts = p.parts;
        count = p.count;
        value = p.value;
        more = p.more;
        shaped = to p.value p.shaped;
        begins = ap spell (sym (same p.value p.shaped)) ∙ p.begins;
        ends = λ v after other shaped start is. p.ends v after other (from v shaped) start
            (ap (λ (ps : List TextPiece). spell ps ++ after) (same v (from v shaped)) ∙ is);
      };
  outside_at = λ text left e.
      let p = exact.outside_at text left e in
      record {
        value = p.value;
        shaped = to p.value p.shaped;
        before = p.before;
        low = p.low;
        high = p.high;
        n = p.n;
        after = p.after;
        tail = p.tail;
        split = sym (same p.value p.shaped) ∙ p.split;
        within = p.within;
        beyond = p.beyond;
        parts = p.parts;
        past = p.past;
        count = p.count;
      };
  first_out = λ text left p.
      exact.first_out text left (record {
        value = p.value;
        shaped = from p.value p.shaped;
        before = p.before;
        low = p.low;
        high = p.high;
        n = p.n;
        after = p.after;
        tail = p.tail;
        split = same p.value (from p.value p.shaped) ∙ p.split;
        within = p.within;
        beyond = p.beyond;
        parts = p.parts;
        past = p.past;
        count = p.count;
      });
}
