-- Reading bounds, in order, is exact.
use Rattle.std.proofs.Common.{◌≡◌, ℕ, zero, suc, ◌≤◌, Bool, true, false, eqb, ltb, ◌&&◌, ◌||◌, List}
use Rattle.std.proofs.Common.{[], ◌∷◌, ◌++◌, ◌⊎◌, inl, inr, length, refl, sym, ap, subst, ◌∙◌, append_assoc, arith}
use Rattle.std.specs.Prelude.{Option, Some, None}
use Rattle.std.specs.Char.{is_ascii_digit}
use Rattle.std.specs.List.{flat_map}
use Rattle.std.proofs.lemmas.Bool.{eqb-true, or_cases, and_parts, and_from, or_left, lt-ltb}
use Rattle.std.proofs.lemmas.List.{append-nil}
use Rattle.tl_cert.specs.declared.log.Side.{Side}
use Rattle.tl_cert.specs.declared.log.Side.TheVariants.{Most, Least}
use Rattle.tl_cert.specs.declared.log.Bound.{Bound}
use Rattle.tl_cert.specs.declared.log.End.{End}
use Rattle.tl_cert.specs.declared.log.End.TheVariants as ends
use Rattle.tl_cert.specs.declared.areas.Areas.{Areas}
use Rattle.tl_base.specs.declared.limits.TheConstants.{MAX_PAGE_WIDTH}
use Rattle.tl_cert.specs.declared.limits.TheConstants.{MAX_SPAN, MAX_BOUNDS}
use Rattle.tl_cert.specs.Pieces.{TextPiece, character, number, field, spell, numeral}
use Rattle.tl_cert.specs.Text.{space, side_sign, bound_pieces, comes_before, AreInOrder, AreBounds}
use Rattle.tl_cert.specs.inner.CertReading.{may_follow, may_follow_as, is_sign, side_of, bound_reading, bounds_reading, bounds_at}
use Rattle.tl_cert.specs.inner.CertReading.{fires_at}
use Rattle.tl_cert.specs.inner.reading.Readings.{begins}
use Rattle.tl_cert.specs.inner.reading.Lists.{Listing, listing}
use Rattle.tl_cert.proofs.reading.Exact.{Exact}
use Rattle.tl_cert.proofs.reading.Same.{exact_same}
use Rattle.tl_cert.proofs.reading.NumeralDigits.{numeral_first, numeral_longer}
use Rattle.tl_cert.proofs.reading.NumberReading.{IsRule, exact_number}
use Rattle.tl_cert.proofs.reading.ListExact.{ListForm, IsListed, list_pieces, Turns, IsExactList, exact_list}
use Rattle.tl_cert.proofs.text.Fields.{exact_field, exact_part_then, exact_only}
use Rattle.tl_cert.proofs.text.Ends.{AreFires, fires_pieces, exact_fires, end_pieces}

-- ---- which bounds may follow

can_sign : (x y z : Bool) → (x || (y && z)) ≡ true → (x || (y && (z && true))) ≡ true
can_sign true y z e = refl
can_sign false true true e = refl
can_sign false true false e = e
can_sign false false z e = e

cannot_sign : (w x y z q : Bool) → (x || (y && z)) ≡ false → (w && (x || (y && (z && q)))) ≡ true → ⊥
cannot_sign true true y z q never both = cc
cannot_sign true false true true q never both = cc
cannot_sign true false true false q never both = cc
cannot_sign true false false z q never both = cc
cannot_sign false x y z q never both = cc

sign_is : (before : Option Bound) (n e : ℕ) → is_sign before n e ≡ true → (e ≡ 45) ⊎ (e ≡ 43)
sign_is before n e is =
    elim (or_cases (eqb e 45) (eqb e 43) ((and_parts (eqb e 45 || eqb e 43) (may_follow_as before n e) is).0)) [
      | inl minus ↦ inl (eqb-true e 45 minus)
      | inr plus ↦ inr (eqb-true e 43 plus)
    ]

sign_no_digit : (before : Option Bound) (n e : ℕ) → is_sign before n e ≡ true → is_ascii_digit e ≡ false
sign_no_digit before n e is =
    elim (sign_is before n e is) [ inl minus ↦ ap is_ascii_digit minus | inr plus ↦ ap is_ascii_digit plus ]

pub span_rule : (before : Option Bound) → IsRule (may_follow before) (is_sign before)
span_rule None = record {
  some_end = λ n can. (45, refl);
  no_end = λ n e cannot is. absurd cc;
  not_digit = sign_no_digit None;
  longer = λ n positive. (n, [], refl, sym (append-nil (numeral n)));
}
span_rule (Some b) = record {
  some_end = λ n can. (43, can_sign (ltb b.span n) (eqb b.span n) (eqb (side_sign b.side) 45) can);
  no_end = λ n e cannot is. cannot_sign (eqb e 45 || eqb e 43) (ltb b.span n) (eqb b.span n) (eqb (side_sign b.side) 45)
      (eqb e 43) cannot is;
  not_digit = sign_no_digit (Some b);
  longer = λ n positive.
      let p = numeral_longer (suc b.span) n positive in (
        p.0,
        p.1,
        or_left (ltb b.span p.0) (eqb b.span p.0 && eqb (side_sign b.side) 45)
            (lt-ltb b.span p.0 (omega (arith, p.2))),
        p.4,
      );
}

-- the bound may follow
abbrev pub follows : Option Bound → Bound → Bool
follows None bound = true
follows (Some before) bound = comes_before before bound

side_signs : (side : Side) → (eqb (side_sign side) 45 || eqb (side_sign side) 43) ≡ true
side_signs Most = refl
side_signs Least = refl

side_again : (side : Side) → side_of (side_sign side) ≡ side
side_again Most = refl
side_again Least = refl

sign_again : (e : ℕ) → (e ≡ 45) ⊎ (e ≡ 43) → side_sign (side_of e) ≡ e
sign_again e (inl minus) = ap (λ (c : ℕ). side_sign (side_of c)) minus ∙ sym minus
sign_again e (inr plus) = ap (λ (c : ℕ). side_sign (side_of c)) plus ∙ sym plus

follows_sign : (before : Option Bound) (b : Bound) → follows before b ≡ true → is_sign before b.span (side_sign b.side) ≡ true
follows_sign None b is = and_from _ _ (side_signs b.side) refl
follows_sign (Some a) b is = and_from _ _ (side_signs b.side) is

abbrev bound_of : ℕ × ℕ → ℕ → Bound
bound_of x width = record { span = x.0; side = side_of (x.1); width = width }

sign_follows : (before : Option Bound) (x : ℕ × ℕ) (width : ℕ) → is_sign before x.0 x.1 ≡ true →
    follows before (bound_of x width) ≡ true
sign_follows None x width is = refl
sign_follows (Some a) x width is =
    let sign = sign_again x.1 (sign_is (Some a) x.0 x.1 is) in
    let P : ℕ → Type 0 = λ c. (ltb a.span x.0 || (eqb a.span x.0 && (eqb (side_sign a.side) 45 && eqb c 43))) ≡ true in
    subst P (sym sign) (and_parts (eqb x.1 45 || eqb x.1 43) (may_follow_as (Some a) x.0 x.1) is).1

-- ---- one bound, and the space after it

abbrev pub bounded : Bound → List TextPiece
bounded b = bound_pieces b ++ (character space ∷ [])

abbrev signed : Bound → ℕ × ℕ
signed b = (b.span, side_sign b.side)

signed_again : (before : Option Bound) (x : ℕ × ℕ) (width : ℕ) → is_sign before x.0 x.1 ≡ true → signed (bound_of x width) ≡ x
signed_again before x width is = let P : ℕ → ℕ × ℕ = λ c. (x.0, c) in ap P (sign_again x.1 (sign_is before x.0 x.1 is))

bound_again : (b : Bound) (x : ℕ × ℕ) (width : ℕ) → signed b ≡ x → b.width ≡ width → b ≡ bound_of x width
bound_again b x width is w =
    let P : Side → Bound = λ side. record { span = b.span; side = side; width = b.width } in
    ap P (sym (side_again b.side)) ∙ ap (λ (y : ℕ × ℕ). bound_of y b.width) is ∙ ap (bound_of x) w

exact_bound : (before : Option Bound) → Exact (bound_reading before) (λ b. follows before b ≡ true) bounded
unfolding bound_reading
exact_bound before =
    exact_part_then signed (λ b. follows before b ≡ true) bounded (λ x b. field 0 MAX_PAGE_WIDTH b.width space)
    (exact_number 0 MAX_SPAN (span_rule before))
    (λ x sign. exact_part_then (λ (b : Bound). b.width) (λ b. (follows before b ≡ true) × (signed b ≡ x))
    (λ b. field 0 MAX_PAGE_WIDTH b.width space)
    (λ w b. []) (exact_field 0 MAX_PAGE_WIDTH space refl)
    (λ width any. exact_only (bound_of x width) (λ b. ((follows before b ≡ true) × (signed b ≡ x)) × (b.width ≡ width))
    ((sign_follows before x width sign, signed_again before x width sign), refl) (λ b is. bound_again b x width is.0.1 is.1))
    (λ b is. (tt, refl)))
    (λ b is. (follows_sign before b is, refl))

-- ---- the list of them

abbrev IsPast : Areas → Option Bound → Listing ℕ End → Type 0
IsPast areas None x = ⊥
IsPast areas (Some before) x = AreFires areas x

abbrev IsBegun : ℕ → Option Bound → Type 0
IsBegun zero None = ⊥
IsBegun zero (Some before) = Unit {0}
IsBegun (suc k) before = Unit {0}

abbrev bounds_form : Areas → ListForm (Option Bound) Bound Bound (Listing ℕ End)
bounds_form areas = record {
  IsItem = λ k before b. follows before b ≡ true;
  item_pieces = bounded;
  IsStop = λ k before x. IsPast areas before x;
  stop_pieces = fires_pieces;
  lift = λ b bs. b;
  IsReady = IsBegun;
}

digit_first : (n : ℕ) (t : List ℕ) → begins is_ascii_digit (numeral n ++ t) ≡ true
digit_first n t = let p = numeral_first n in ap (λ (ds : List ℕ). begins is_ascii_digit (ds ++ t)) p.2 ∙ p.3

bound_first : (b : Bound) (t : List ℕ) → begins is_ascii_digit (spell (bounded b) ++ t) ≡ true
bound_first b t = ap (begins is_ascii_digit)
    (append_assoc (numeral b.span)
    (spell (character (side_sign b.side) ∷ number 0 MAX_PAGE_WIDTH b.width ∷ character space ∷ [])) t)
    ∙ digit_first b.span (spell (character (side_sign b.side) ∷ number 0 MAX_PAGE_WIDTH b.width ∷ character space ∷ []) ++ t)

end_no_digit : (e : End) (t : List ℕ) → begins is_ascii_digit (spell (end_pieces e) ++ t) ≡ false
end_no_digit ends.Area t = refl
end_no_digit ends.Fired t = refl
end_no_digit ends.Cycle t = refl
end_no_digit ends.Chain t = refl

fires_no_digit : (ns : List ℕ) (e : End) (t : List ℕ) → begins is_ascii_digit (spell (fires_pieces (listing ns e)) ++ t) ≡ false
fires_no_digit [] e t = end_no_digit e t
fires_no_digit (n ∷ ns) e t = refl

bounds_exact : (areas : Areas) → IsExactList (bounds_reading areas) (bounds_form areas)
bounds_exact areas = record {
  at_end = at_end;
  turns = turns;
  ready = λ k before b ready is. begun k b;
  lifted = λ k before b bs x is listed. refl;
}
  where
    begun : (k : ℕ) (b : Bound) → IsBegun k (Some b)
    begun zero b = tt
    begun (suc k) b = tt

    at_end : (before : Option Bound) → IsBegun zero before → Exact (fires_at areas) (IsPast areas before) fires_pieces
    at_end None ready = absurd ready
    at_end (Some before) ready = exact_fires areas

    turns : (k : ℕ) (before : Option Bound) → IsBegun (suc k) before → Turns (bounds_reading areas) (bounds_form areas)
        ((bounds_reading areas).turn k before) k before
    turns k None ready = record { item = exact_bound None; no_stop = λ x is. is }
    turns k (Some before) ready = record {
      item = exact_bound (Some before);
      stop = exact_fires areas;
      item_begins = λ b t is. bound_first b t;
      stop_begins = λ x t is. fires_no_digit (x.0) (x.1) t;
    }

-- what was read after the first bound
later_to : (areas : Areas) (k : ℕ) (before : Bound) (bs : List Bound) (x : Listing ℕ End)
    → IsListed (bounds_reading areas) (bounds_form areas) k (Some before) bs x
    → (length bs ≤ k) × (AreInOrder (before ∷ bs) × AreFires areas x)
later_to areas zero before [] x is = (omega arith, (tt, is))
later_to areas zero before (b ∷ bs) x is = absurd is
later_to areas (suc k) before [] x is = (omega arith, (tt, is))
later_to areas (suc k) before (b ∷ bs) x is = let p = later_to areas k b bs x is.1.1 in
    (omega (arith, p.0), ((is.1.0, p.1.0), p.1.1))

later_from : (areas : Areas) (k : ℕ) (before : Bound) (bs : List Bound) (x : Listing ℕ End) → length bs ≤ k →
    AreInOrder (before ∷ bs) → AreFires areas x
    → IsListed (bounds_reading areas) (bounds_form areas) k (Some before) bs x
later_from areas zero before [] x most order fires = fires
later_from areas zero before (b ∷ bs) x most order fires = absurd (omega arith)
later_from areas (suc k) before [] x most order fires = fires
later_from areas (suc k) before (b ∷ bs) x most order fires =
    (refl, (order.0, later_from areas k b bs x (omega arith) order.1 fires))

pub record AreBoundsAndFires (areas : Areas) (x : Listing Bound (Listing ℕ End)) : Type 0 where
  pub bounds : AreBounds (x.0)
  pub fires : AreFires areas (x.1)

bounds_to : (areas : Areas) (bs : List Bound) (x : Listing ℕ End) →
    IsListed (bounds_reading areas) (bounds_form areas) MAX_BOUNDS None bs x
    → AreBoundsAndFires areas (listing bs x)
bounds_to areas [] x is = absurd is
bounds_to areas (b ∷ bs) x is =
    let p = later_to areas 7 b bs x is.1.1 in
    record { bounds = record { some = omega arith; most = omega (arith, p.0); ordered = p.1.0 }; fires = p.1.1 }

bounds_from : (areas : Areas) (bs : List Bound) (x : Listing ℕ End) → AreBoundsAndFires areas (listing bs x)
    → IsListed (bounds_reading areas) (bounds_form areas) MAX_BOUNDS None bs x
bounds_from areas [] x is = absurd (omega (arith, is.bounds.some))
bounds_from areas (b ∷ bs) x is =
    (refl, (refl, later_from areas 7 b bs x (omega (arith, is.bounds.most)) is.bounds.ordered is.fires))

abbrev pub bounds_text : Listing Bound (Listing ℕ End) → List TextPiece
bounds_text x = flat_map bounded (x.0) ++ fires_pieces (x.1)

bounds_same : (areas : Areas) (bs : List Bound) (x : Listing ℕ End) →
    list_pieces (bounds_form areas) bs x ≡ flat_map bounded bs ++ fires_pieces x
bounds_same areas [] x = refl
bounds_same areas (b ∷ bs) x = ap (λ (ps : List TextPiece). bounded b ++ ps) (bounds_same areas bs x)

pub exact_bounds : (areas : Areas) → Exact (bounds_at areas) (AreBoundsAndFires areas) bounds_text
exact_bounds areas =
    exact_same (AreBoundsAndFires areas) bounds_text (exact_list (bounds_reading areas) (bounds_form areas) (bounds_exact areas)
    MAX_BOUNDS None tt)
    (λ x is. bounds_to areas (x.0) (x.1) is) (λ x is. bounds_from areas (x.0) (x.1) is) (λ x is. bounds_same areas (x.0) (x.1))
