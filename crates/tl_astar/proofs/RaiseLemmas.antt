-- Strips are made as high as rises want them, one rise after the other and one span after the other.
use Rattle.std.proofs.Common.{◌≡◌, ℕ, ◌+◌, ◌<◌, ◌≤◌, max, List, ◌⊎◌, inl, inr, length, get_or, set}
use Rattle.std.proofs.Common.{sym, ap, refl, ◌∙◌, subst, arith}
use Rattle.std.proofs.Common.{length-set, get_or-set_other, get_or-set_same, below_more}
use Rattle.std.proofs.lemmas.Bool.{cases_eq, cases_lt}
use Rattle.std.proofs.lemmas.List.{get_or_default, set_past}
use Rattle.tl_astar.specs.declared.rises.Rise.{Rise}
use Rattle.tl_astar.specs.declared.rises.Rises.{Rises}
use Rattle.tl_astar.specs.inner.Rises.{Raises, Wants, rises_of}

-- what stands past the last rise
abbrev pub no_rise : Rise
no_rise = record { width = 0; strip = 0; height = 0 }

-- where nothing is wanted, all stays
pub Raises-none : (Wanted : ℕ → ℕ → Type 0) (heights : List ℕ) → ((strip height : ℕ) → Wanted strip height → ⊥) →
    Raises Wanted heights heights
Raises-none Wanted heights none = record {
  len = refl;
  no_lower = λ strip. omega arith;
  enough = λ strip height wants. absurd (none strip height wants);
  no_higher = λ strip within. inl refl;
}

-- what is wanted first and what is wanted then is what is wanted of both
pub Raises-then : (First Then Both : ℕ → ℕ → Type 0) (old mid new : List ℕ) → Raises First old mid → Raises Then mid new →
    ((strip height : ℕ) → Both strip height → First strip height ⊎ Then strip height) →
    ((strip height : ℕ) → First strip height → Both strip height) →
    ((strip height : ℕ) → Then strip height → Both strip height) → Raises Both old new
Raises-then First Then Both old mid new first then split of_first of_then = record {
  len = then.len ∙ first.len;
  no_lower = λ strip. omega (arith, first.no_lower strip, then.no_lower strip);
  enough = λ strip height wants within. elim (split strip height wants) [
    | inl earlier ↦
        let high = first.enough strip height earlier (omega (arith, within, then.len)) in
        omega (arith, high, then.no_lower strip)
    | inr later ↦ then.enough strip height later within
  ];
  no_higher = λ strip within. elim (then.no_higher strip within) [
    | inr wants ↦ inr (of_then strip (get_or new strip 0) wants)
    | inl same ↦ elim (first.no_higher strip (omega (arith, within, then.len))) [
      | inl before ↦ inl (same ∙ before)
      | inr wants ↦ inr (of_first strip (get_or new strip 0) (subst (λ h. First strip h) (sym same) wants))
    ]
  ];
}

-- what is wanted may be said in other words
pub Raises-same : (Wanted Other : ℕ → ℕ → Type 0) (old new : List ℕ) → Raises Wanted old new →
    ((strip height : ℕ) → Other strip height → Wanted strip height) →
    ((strip height : ℕ) → Wanted strip height → Other strip height) → Raises Other old new
Raises-same Wanted Other old new raises of_other other = record {
  len = raises.len;
  no_lower = raises.no_lower;
  enough = λ strip height wants within. raises.enough strip height (of_other strip height wants) within;
  no_higher = λ strip within. elim (raises.no_higher strip within) [
    | inl same ↦ inl same
    | inr wants ↦ inr (other strip (get_or new strip 0) wants)
  ];
}

module _ (old : List ℕ) (place least : ℕ) where
  abbrev pub raised : List ℕ
  raised = set old place (max (get_or old place 0) least)

  -- at the place, if it is there, stands the greater of both
  at : (strip : ℕ) → strip ≡ place → place < length old → get_or raised strip 0 ≡ max (get_or old strip 0) least
  at strip here within =
      subst (λ k. get_or raised k 0 ≡ max (get_or old k 0) least) (sym here)
      (get_or-set_same old place (max (get_or old place 0) least) 0 within)

  -- a strip is made at least so high
  pub Raises-at : Raises (λ strip height. (strip ≡ place) × (height ≡ least)) old raised
  Raises-at = record {
    len = length-set old place (max (get_or old place 0) least);
    no_lower = λ strip. elim (cases_eq strip place) [
      | inr other ↦ omega (arith, get_or-set_other old place strip (max (get_or old place 0) least) 0 other)
      | inl here ↦ elim (cases_lt place (length old)) [
        | inl within ↦ omega (arith, at strip here within)
        | inr past ↦ omega (arith, ap (λ all. get_or all strip 0) (set_past old place (max (get_or old place 0) least) past))
      ]
    ];
    enough = λ strip height wants within.
        let there : place < length old =
        omega (arith, within, wants.0, length-set old place (max (get_or old place 0) least)) in
        omega (arith, at strip wants.0 there, wants.1);
    no_higher = λ strip within. elim (cases_eq strip place) [
      | inr other ↦ inl (get_or-set_other old place strip (max (get_or old place 0) least) 0 other)
      | inl here ↦
          let there : place < length old = omega (arith, within, here, length-set old place (max (get_or old place 0) least)) in
          let high = at strip here there in
          elim (cases_lt (get_or old strip 0) least) [
            | inl less ↦ inr (here, omega (arith, high, less))
            | inr enough ↦ inl (omega (arith, high, enough))
          ]
    ];
  }

-- of the first rises of a span, as many as `upto`, one has this strip and this height
pub record IsAsked (rises : List Rise) (upto strip height : ℕ) : Type 0 where
  pub number : ℕ
  pub rise : Rise
  pub there : number < upto
  pub is : get_or rises number rise ≡ rise
  pub of_strip : rise.strip ≡ strip
  pub high : rise.height ≡ height

-- the first rises, which are all wider than the room, have made the strips higher
pub record AreRaisedUpto (rises : List Rise) (room upto : ℕ) (old new : List ℕ) : Type 0 where
  pub wider : (k : ℕ) (d : Rise) → k < upto → room < (get_or rises k d).width
  pub raised : Raises (IsAsked rises upto) old new

module _ (rises : List Rise) (room : ℕ) where
  -- before the first rise all stays
  pub AreRaisedUpto-none : (heights : List ℕ) → AreRaisedUpto rises room 0 heights heights
  AreRaisedUpto-none heights = record {
    wider = λ k d within. absurd (omega (arith, within));
    raised = Raises-none (IsAsked rises 0) heights (λ strip height asked. omega (arith, asked.there));
  }

  module _ (upto : ℕ) (old new : List ℕ) (h : AreRaisedUpto rises room upto old new) where
    -- a rise that is wider makes its strip as high as it says
    pub AreRaisedUpto-more : (rise : Rise) → upto < length rises → get_or rises upto rise ≡ rise → room < rise.width →
        AreRaisedUpto rises room (upto + 1) old (set new rise.strip (max (get_or new rise.strip 0) rise.height))
    AreRaisedUpto-more rise within is wide = record {
      wider = λ k d before. below_more (λ i. room < (get_or rises i d).width) upto (λ i earlier. h.wider i d earlier)
          (subst (λ r. room < r.width) (sym (get_or_default rises upto d rise within ∙ is)) wide) k before;
      raised = Raises-then (IsAsked rises upto) (λ strip height. (strip ≡ rise.strip) × (height ≡ rise.height))
          (IsAsked rises (upto + 1)) old new _ h.raised (Raises-at new rise.strip rise.height)
          (λ strip height asked. elim (cases_lt asked.number upto) [
            | inl before ↦ inl (record {
              number = asked.number;
              rise = asked.rise;
              there = before;
              is = asked.is;
              of_strip = asked.of_strip;
              high = asked.high;
            })
            | inr last ↦
                let here : asked.number ≡ upto = omega (arith, asked.there, last) in
                let same : asked.rise ≡ rise =
                sym asked.is ∙ ap (λ k. get_or rises k asked.rise) here ∙ get_or_default rises upto asked.rise rise within ∙ is in
                inr (sym asked.of_strip ∙ ap (λ r. r.strip) same, sym asked.high ∙ ap (λ r. r.height) same)
          ])
          (λ strip height asked. record {
            number = asked.number;
            rise = asked.rise;
            there = omega (arith, asked.there);
            is = asked.is;
            of_strip = asked.of_strip;
            high = asked.high;
          })
          (λ strip height same. record {
            number = upto;
            rise = rise;
            there = omega arith;
            is = is;
            of_strip = sym same.0;
            high = sym same.1;
          });
    }

    -- where no rise is left, or the next one is no wider, the strips are as high as the rises want them at this room
    pub Raises-from : upto ≤ length rises → (upto < length rises → (d : Rise) → (get_or rises upto d).width ≤ room) →
        Raises (Wants rises room) old new
    Raises-from within stop =
        Raises-same (IsAsked rises upto) (Wants rises room) old new h.raised
        (λ strip height wants. record {
          number = wants.number;
          rise = wants.rise;
          there = elim (cases_lt wants.number upto) [
            | inl less ↦ less
            | inr past ↦
                let more : upto < length rises = omega (arith, past, wants.there) in
                absurd (omega (arith, wants.wider upto wants.rise past, stop more wants.rise))
          ];
          is = wants.is;
          of_strip = wants.of_strip;
          high = wants.high;
        })
        (λ strip height asked. record {
          number = asked.number;
          rise = asked.rise;
          there = omega (arith, asked.there, within);
          is = asked.is;
          wider = λ k d before. h.wider k d (omega (arith, before, asked.there));
          of_strip = asked.of_strip;
          high = asked.high;
        })

-- of the first spans, as many as `upto`, one has rises that want the strip this high at its room
pub record IsWantedUpto (rises : Rises) (rooms : List ℕ) (upto strip height : ℕ) : Type 0 where
  pub span : ℕ
  pub there : span < upto
  pub wants : Wants (rises_of rises span) (get_or rooms span 0) strip height

module _ (rises : Rises) (rooms : List ℕ) where
  -- before the first span all stays
  pub IsWantedUpto-none : (heights : List ℕ) → Raises (IsWantedUpto rises rooms 0) heights heights
  IsWantedUpto-none heights =
      Raises-none (IsWantedUpto rises rooms 0) heights (λ strip height wanted. omega (arith, wanted.there))

  -- one span more
  pub IsWantedUpto-more : (span : ℕ) (old mid new : List ℕ) → Raises (IsWantedUpto rises rooms span) old mid →
      Raises (Wants (rises_of rises span) (get_or rooms span 0)) mid new → Raises (IsWantedUpto rises rooms (span + 1)) old new
  IsWantedUpto-more span old mid new first then =
      Raises-then (IsWantedUpto rises rooms span) (Wants (rises_of rises span) (get_or rooms span 0))
      (IsWantedUpto rises rooms (span + 1)) old mid new first then
      (λ strip height wanted. elim (cases_lt wanted.span span) [
        | inl before ↦ inl (record { span = wanted.span; there = before; wants = wanted.wants })
        | inr last ↦
            let here : wanted.span ≡ span = omega (arith, wanted.there, last) in
            inr (subst (λ k. Wants (rises_of rises k) (get_or rooms k 0) strip height) here wanted.wants)
      ])
      (λ strip height wanted. record { span = wanted.span; there = omega (arith, wanted.there); wants = wanted.wants })
      (λ strip height wants. record { span = span; there = omega arith; wants = wants })
