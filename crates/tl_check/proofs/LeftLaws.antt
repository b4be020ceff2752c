-- What is left of a nogood with one bound more, and what firing it does.
use Rattle.std.proofs.Common.{◌≡◌, ◌≢◌, ◌⊎◌, ℕ, List, [], ◌∷◌, ◌++◌, inl, inr, refl, sym, ◌∙◌, subst}
use Rattle.std.specs.List.{All, Contains}
use Rattle.std.proofs.lemmas.List.Elements.{All-push, Contains-append_left, Contains-append_right, Contains-append_cases}
use Rattle.std.proofs.lemmas.List.Elements.{All-contains}
use Rattle.tl_base.proofs.Members.{All-from_Contains, Contains-first, Contains-cases, Contains-none}
use Rattle.tl_diff.specs.Marks.{MarkedBounds}
use Rattle.tl_problem.specs.Problem.{ProblemModel}
use Rattle.tl_problem.specs.Works as works
use Rattle.tl_cert.specs.declared.log.Bound.{Bound}
use Rattle.tl_cert.specs.Nogoods.{Breaks}
use Rattle.tl_cert.specs.Implied.{IsLeft, Implied, OneLeft}
use Rattle.tl_cert.proofs.FireLaws.{fires-append, fires-stuck}
use Rattle.tl_check.specs.declared.left.Left.{Left}
use Rattle.tl_check.specs.declared.left.Left.TheVariants.{Nothing, One, More}
use Rattle.tl_check.specs.Matrices.{Describes}
use Rattle.tl_check.specs.inner.Matrices.{Restricts}
use Rattle.tl_check.specs.inner.Firing.{TwoLeft, HasLeft, HasLeftBut, LeadsTo, NeverFires}
use Rattle.tl_check.proofs.Leaving.{Describes-broken}

module _ (problem : ProblemModel) (Among : List ℕ → Type 0) (nogood : List Bound) (bound : Bound) where
  abbrev longer : List Bound
  longer = nogood ++ bound ∷ []

  has-old : (b : Bound) → Contains nogood b → Contains longer b
  has-old b has = Contains-append_left nogood (bound ∷ []) b has

  has-new : Contains longer bound
  has-new = Contains-append_right nogood (bound ∷ []) bound (Contains-first bound [])

  new-cases : (P : Bound → Type 0) (b : Bound) → Contains longer b → (Contains nogood b → P b) → (bound ≡ b → P b) → P b
  new-cases P b has old new =
      elim (Contains-append_cases nogood (bound ∷ []) b has) [
        | inl before ↦ old before
        | inr last ↦ elim (Contains-cases bound [] b last) [ inl same ↦ new same | inr later ↦ absurd (Contains-none b later) ]
      ]

  pub left-more : TwoLeft problem Among nogood → TwoLeft problem Among longer
  left-more h = record {
    one = h.one;
    other = h.other;
    among = has-old h.one h.among;
    among_too = has-old h.other h.among_too;
    differ = h.differ;
    not_implied = h.not_implied;
    not_implied_too = h.not_implied_too;
  }

  one-implied : (b : Bound) → OneLeft problem Among nogood b → Implied problem Among bound → OneLeft problem Among longer b
  one-implied b h implied = record {
    among = has-old b h.among;
    not_implied = h.not_implied;
    others = λ other has apart. new-cases (Implied problem Among) other has (λ before. h.others other before apart)
        (λ same. subst (Implied problem Among) same implied);
  }

  -- a bound that is implied leaves no more
  pub left-implied : (left : Left) → Implied problem Among bound → HasLeft problem Among nogood left →
      HasLeft problem Among longer left
  left-implied Nothing implied h = All-push (Implied problem Among) nogood bound h implied
  left-implied (One b) implied h = one-implied b h implied
  left-implied More implied h = left-more h

  -- any other is left
  pub left-first : (Implied problem Among bound → ⊥) → All (Implied problem Among) nogood → OneLeft problem Among longer bound
  left-first not h = record {
    among = has-new;
    not_implied = not;
    others = λ other has apart. new-cases (Implied problem Among) other has
        (λ before. All-contains (Implied problem Among) nogood other h before) (λ same. absurd (apart (sym same)));
  }

  pub left-again : (b : Bound) → b ≡ bound → OneLeft problem Among nogood b → OneLeft problem Among longer b
  left-again b is h = record {
    among = has-old b h.among;
    not_implied = h.not_implied;
    others = λ other has apart. new-cases (Implied problem Among) other has (λ before. h.others other before apart)
        (λ same. absurd (apart (sym (is ∙ same))));
  }

  pub left-second : (b : Bound) → b ≢ bound → (Implied problem Among bound → ⊥) → OneLeft problem Among nogood b →
      TwoLeft problem Among longer
  left-second b apart not h = record {
    one = b;
    other = bound;
    among = has-old b h.among;
    among_too = has-new;
    differ = apart;
    not_implied = h.not_implied;
    not_implied_too = not;
  }

-- ---- what is left of a nogood, bound by bound of another list

module _ (problem : ProblemModel) (Among : List ℕ → Type 0) (nogood : List Bound) where
  -- two that are left of some bounds are left of all
  two-wider : (seen : List Bound) → ((b : Bound) → Contains seen b → Contains nogood b) → TwoLeft problem Among seen →
      TwoLeft problem Among nogood
  two-wider seen among h = record {
    one = h.one;
    other = h.other;
    among = among h.one h.among;
    among_too = among h.other h.among_too;
    differ = h.differ;
    not_implied = h.not_implied;
    not_implied_too = h.not_implied_too;
  }

  pub but-found : (rest : List Bound) (left : Left) → left ≡ More → HasLeftBut problem Among nogood rest left →
      HasLeft problem Among nogood left
  but-found rest left is h = subst (HasLeft problem Among nogood) (sym is)
      (two-wider h.seen h.among (subst (HasLeft problem Among h.seen) is h.has_left))

  -- where there is no rest, what is left was found
  pub but-none : (rest : List Bound) (left : Left) → ((b : Bound) → Contains rest b → ⊥) →
      HasLeftBut problem Among nogood rest left →
      HasLeft problem Among nogood left
  but-none rest left none h = by_left left h.has_left where
    looked_at : (b : Bound) → Contains nogood b → (Contains h.seen b → Implied problem Among b) → Implied problem Among b
    looked_at b has found = elim (h.others b has) [
      | inl implied ↦ implied
      | inr (inl seen) ↦ found seen
      | inr (inr later) ↦ absurd (none b later)
    ]

    by_left : (found : Left) → HasLeft problem Among h.seen found → HasLeft problem Among nogood found
    by_left Nothing all = All-from_Contains (Implied problem Among) nogood
        (λ b has. looked_at b has (λ seen. All-contains (Implied problem Among) h.seen b all seen))
    by_left (One bound) one = record {
      among = h.among bound one.among;
      not_implied = one.not_implied;
      others = λ other has apart. looked_at other has (λ seen. one.others other seen apart);
    }
    by_left More two = two-wider h.seen h.among two

  -- the rest is fewer by one bound, which is implied, or is looked at with others of the nogood
  module _ (rest fewer : List Bound) (bound : Bound) (next : (b : Bound) → Contains rest b → (b ≡ bound) ⊎ Contains fewer b) where
    pub but-implied : (left : Left) → Implied problem Among bound → HasLeftBut problem Among nogood rest left →
        HasLeftBut problem Among nogood fewer left
    but-implied left implied h = record {
      seen = h.seen;
      has_left = h.has_left;
      among = h.among;
      others = λ b has. elim (h.others b has) [
        | inl known ↦ inl known
        | inr (inl seen) ↦ inr (inl seen)
        | inr (inr later) ↦ elim (next b later) [
          | inl same ↦ inl (subst (Implied problem Among) (sym same) implied)
          | inr kept ↦ inr (inr kept)
        ]
      ];
    }

    pub but-looked_at : (left found : Left) (more : List Bound) → ((b : Bound) → Contains more b → Contains nogood b) →
        ((b : Bound) → b ≡ bound → Contains nogood b → Contains more b) →
        ((seen : List Bound) → HasLeft problem Among seen left → HasLeft problem Among (seen ++ more) found) →
        HasLeftBut problem Among nogood rest left → HasLeftBut problem Among nogood fewer found
    but-looked_at left found more among there finds h = record {
      seen = h.seen ++ more;
      has_left = finds h.seen h.has_left;
      among = λ b has. elim (Contains-append_cases h.seen more b has) [ inl old ↦ h.among b old | inr new ↦ among b new ];
      others = λ b has. elim (h.others b has) [
        | inl known ↦ inl known
        | inr (inl seen) ↦ inr (inl (Contains-append_left h.seen more b seen))
        | inr (inr later) ↦ elim (next b later) [
          | inl same ↦ inr (inl (Contains-append_right h.seen more b (there b same has)))
          | inr kept ↦ inr (inr kept)
        ]
      ];
    }

-- ---- firing a nogood of which this is left

module _ (problem : ProblemModel) (given : List Bound) (nogood : List Bound) (old : MarkedBounds) where
  abbrev Before : List Bound → Type 0
  Before joined = Describes problem given joined old.bounds

  implied-to : (joined : List Bound) → Before joined → (b : Bound) → Implied problem (works.AreAllowed problem old.bounds) b →
      Implied problem (IsLeft problem given joined) b
  implied-to joined d b h widths left = h widths (d.from widths left)

  implied-from : (joined : List Bound) → Before joined → (b : Bound) → Implied problem (IsLeft problem given joined) b →
      Implied problem (works.AreAllowed problem old.bounds) b
  implied-from joined d b h widths left = h widths (d.to widths left)

  all-to : (joined : List Bound) → Before joined → All (Implied problem (works.AreAllowed problem old.bounds)) nogood →
      All (Implied problem (IsLeft problem given joined)) nogood
  all-to joined d all = λ k e within widths left. all k e within widths (d.from widths left)

  one-to : (joined : List Bound) → Before joined → (b : Bound) → OneLeft problem (works.AreAllowed problem old.bounds) nogood b →
      OneLeft problem (IsLeft problem given joined) nogood b
  one-to joined d b h = record {
    among = h.among;
    not_implied = λ implied. h.not_implied (implied-from joined d b implied);
    others = λ other has apart. implied-to joined d other (h.others other has apart);
  }

  pub fires-nothing : (nogoods : List (List Bound)) → All (Implied problem (works.AreAllowed problem old.bounds)) nogood →
      LeadsTo problem given nogoods old.bounds → LeadsTo problem given (nogoods ++ nogood ∷ []) old.bounds
  fires-nothing nogoods all h = record {
    joined = h.joined;
    fires = fires-append problem given [] nogoods (nogood ∷ []) h.joined h.joined h.fires
        (inl (all-to h.joined h.describes all, refl));
    describes = h.describes;
  }

  pub fires-one : (nogoods : List (List Bound)) (b : Bound) (new : MarkedBounds) →
      OneLeft problem (works.AreAllowed problem old.bounds) nogood b →
      Restricts problem old new (λ widths. Breaks problem widths b) →
      LeadsTo problem given nogoods old.bounds → LeadsTo problem given (nogoods ++ nogood ∷ []) new.bounds
  fires-one nogoods b new one r h = record {
    joined = h.joined ++ b ∷ [];
    fires = fires-append problem given [] nogoods (nogood ∷ []) h.joined (h.joined ++ b ∷ []) h.fires
        (inr (b, one-to h.joined h.describes b one, refl));
    describes = Describes-broken problem given h.joined old new b h.describes r;
  }

  pub fires-never : (nogoods more : List (List Bound)) → TwoLeft problem (works.AreAllowed problem old.bounds) nogood →
      LeadsTo problem given nogoods old.bounds → NeverFires problem given (nogoods ++ nogood ∷ more)
  fires-never nogoods more two h last fires = fires-stuck problem given [] nogoods more nogood h.joined last two.one two.other
      h.fires
      two.among two.among_too two.differ (λ implied. two.not_implied (implied-from h.joined h.describes two.one implied))
      (λ implied. two.not_implied_too (implied-from h.joined h.describes two.other implied)) fires
