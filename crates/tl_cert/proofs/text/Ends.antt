-- Reading the end of a log line, and the lines that are fired before it, is exact.
use Rattle.std.proofs.Common.{◌≡◌, ℕ, zero, suc, ◌≤◌, true, false, eqb, List, [], ◌∷◌, ◌++◌, ◌⊎◌, inl, inr, length, refl, sym, ap}
use Rattle.std.proofs.Common.{subst, arith}
use Rattle.std.specs.Prelude.{codes}
use Rattle.std.specs.List.{flat_map}
use Rattle.tl_cert.specs.declared.log.End.{End}
use Rattle.tl_cert.specs.declared.log.End.TheVariants.{Fired, Cycle, Chain, Area}
use Rattle.tl_cert.specs.declared.areas.Areas.{Areas}
use Rattle.tl_cert.specs.declared.areas.Areas.TheVariants.{Never, Free, Owed}
use Rattle.tl_cert.specs.declared.limits.TheConstants.{MAX_LINE, MAX_FIRES}
use Rattle.tl_cert.specs.Pieces.{TextPiece, character, field, word, spell}
use Rattle.tl_cert.specs.Text.{space, end_word, is_area}
use Rattle.tl_cert.specs.inner.Areas.{Suits}
use Rattle.tl_cert.specs.inner.CertReading.{cycle_or_chain_at, plain_end_at, area_at, end_at, fire_at, fires_reading, fires_at}
use Rattle.tl_cert.specs.inner.reading.Readings.{begins}
use Rattle.tl_cert.specs.inner.reading.Lists.{Listing}
use Rattle.tl_cert.proofs.reading.Exact.{Exact}
use Rattle.tl_cert.proofs.reading.Words.{IsAny}
use Rattle.tl_cert.proofs.reading.Choice.{Chosen, exact_either}
use Rattle.tl_cert.proofs.reading.Same.{exact_same}
use Rattle.tl_cert.proofs.reading.ListExact.{ListForm, IsListed, list_pieces, IsExactList, exact_list}
use Rattle.tl_cert.proofs.text.Fields.{exact_after, exact_sign, exact_field}

abbrev pub end_pieces : End → List TextPiece
end_pieces end = word (end_word end)

abbrev tail_word : End → List TextPiece
tail_word Cycle = word (codes "ycle\n")
tail_word Chain = word (codes "hain\n")
tail_word Fired = []
tail_word Area = []

abbrev IsCycleOrChain : End → Type 0
IsCycleOrChain Cycle = Unit {0}
IsCycleOrChain Chain = Unit {0}
IsCycleOrChain Fired = ⊥
IsCycleOrChain Area = ⊥

tail_separated : (e : End) → IsCycleOrChain e → (e ≡ Cycle) ⊎ (e ≡ Chain)
tail_separated Cycle is = inl refl
tail_separated Chain is = inr refl
tail_separated Fired is = absurd is
tail_separated Area is = absurd is

exact_tail : Exact cycle_or_chain_at IsCycleOrChain tail_word
exact_tail =
    let chosen : Chosen (λ c. eqb c 121) tail_word (λ e. e ≡ Cycle) (λ e. e ≡ Chain) IsCycleOrChain = record {
      separated = tail_separated;
      first = λ e is. subst IsCycleOrChain (sym is) tt;
      other = λ e is. subst IsCycleOrChain (sym is) tt;
      yes = λ e t is. ap (λ (f : End). begins (λ c. eqb c 121) (spell (tail_word f) ++ t)) is;
      no = λ e t is. ap (λ (f : End). begins (λ c. eqb c 121) (spell (tail_word f) ++ t)) is;
    } in
    exact_either (exact_sign (codes "ycle\n") Cycle tail_word refl) (exact_sign (codes "hain\n") Chain tail_word refl) chosen

tail_text : (e : End) → IsCycleOrChain e → end_pieces e ≡ word (codes "c") ++ tail_word e
tail_text Cycle is = refl
tail_text Chain is = refl
tail_text Fired is = absurd is
tail_text Area is = absurd is

abbrev NoArea : End → Type 0
NoArea e = is_area e ≡ false

plain_separated : (e : End) → NoArea e → (e ≡ Fired) ⊎ IsCycleOrChain e
plain_separated Fired is = inl refl
plain_separated Cycle is = inr tt
plain_separated Chain is = inr tt
plain_separated Area is = absurd cc

plain_other : (e : End) → IsCycleOrChain e → NoArea e
plain_other Cycle is = refl
plain_other Chain is = refl
plain_other Fired is = absurd is
plain_other Area is = absurd is

plain_no : (e : End) (t : List ℕ) → IsCycleOrChain e → begins (λ c. eqb c 102) (spell (end_pieces e) ++ t) ≡ false
plain_no Cycle t is = refl
plain_no Chain t is = refl
plain_no Fired t is = absurd is
plain_no Area t is = absurd is

exact_plain : Exact plain_end_at NoArea end_pieces
exact_plain =
    let chosen : Chosen (λ c. eqb c 102) end_pieces (λ e. e ≡ Fired) IsCycleOrChain NoArea = record {
      separated = plain_separated;
      first = λ e is. ap is_area is;
      other = plain_other;
      yes = λ e t is. ap (λ (f : End). begins (λ c. eqb c 102) (spell (end_pieces f) ++ t)) is;
      no = plain_no;
    } in
    exact_either (exact_sign (codes "fired\n") Fired end_pieces refl)
    (exact_after (codes "c") tail_word end_pieces exact_tail tail_text) chosen

any_separated : (e : End) → IsAny e → (e ≡ Area) ⊎ NoArea e
any_separated Area is = inl refl
any_separated Fired is = inr refl
any_separated Cycle is = inr refl
any_separated Chain is = inr refl

any_no : (e : End) (t : List ℕ) → NoArea e → begins (λ c. eqb c 97) (spell (end_pieces e) ++ t) ≡ false
any_no Area t is = absurd cc
any_no Fired t is = refl
any_no Cycle t is = refl
any_no Chain t is = refl

exact_area : Exact area_at (λ e. e ≡ Area) end_pieces
exact_area = exact_sign (codes "area\n") Area end_pieces refl

only_area : (e : End) → is_area e ≡ true → e ≡ Area
only_area Area is = refl
only_area Fired is = absurd cc
only_area Cycle is = absurd cc
only_area Chain is = absurd cc

pub exact_end : (areas : Areas) → Exact (end_at areas) (λ e. Suits areas (is_area e)) end_pieces
unfolding end_at
exact_end Never = exact_plain
exact_end Free =
    let chosen : Chosen (λ c. eqb c 97) end_pieces (λ e. e ≡ Area) NoArea IsAny = record {
      separated = any_separated;
      first = λ e is. tt;
      other = λ e is. tt;
      yes = λ e t is. ap (λ (f : End). begins (λ c. eqb c 97) (spell (end_pieces f) ++ t)) is;
      no = any_no;
    } in
    exact_either exact_area exact_plain chosen
exact_end Owed = exact_same (λ e. is_area e ≡ true) end_pieces exact_area (λ e is. ap is_area is) only_area (λ e is. refl)

-- ---- the lines that are fired

-- `@k` and a space
abbrev pub fired : ℕ → List TextPiece
fired n = character 64 ∷ field 0 MAX_LINE n space

exact_fire : Exact fire_at IsAny fired
unfolding fire_at
exact_fire = exact_after (codes "@") (λ n. field 0 MAX_LINE n space) fired (exact_field 0 MAX_LINE space refl) (λ n is. refl)

abbrev fires_form : Areas → ListForm (Unit {0}) ℕ ℕ End
fires_form areas = record {
  IsItem = λ k s n. IsAny n;
  item_pieces = fired;
  IsStop = λ k s e. Suits areas (is_area e);
  stop_pieces = end_pieces;
  lift = λ n ns. n;
  IsReady = λ k s. Unit {0};
}

end_no : (e : End) (t : List ℕ) → begins (λ c. eqb c 64) (spell (end_pieces e) ++ t) ≡ false
end_no Area t = refl
end_no Fired t = refl
end_no Cycle t = refl
end_no Chain t = refl

fires_exact : (areas : Areas) → IsExactList (fires_reading areas) (fires_form areas)
fires_exact areas = record {
  at_end = λ s ready. exact_end areas;
  turns = λ k s ready. record {
    item = exact_fire;
    stop = exact_end areas;
    item_begins = λ n t is. refl;
    stop_begins =
        λ e t is. end_no e t;
  };
  ready = λ k s n ready is. tt;
  lifted = λ k s n ns e is listed. refl;
}

-- at most 8 lines that are fired, and an end as it is asked
pub record AreFires (areas : Areas) (x : Listing ℕ End) : Type 0 where
  pub most : length x.0 ≤ MAX_FIRES
  pub end : Suits areas (is_area x.1)

abbrev pub fires_pieces : Listing ℕ End → List TextPiece
fires_pieces x = flat_map fired (x.0) ++ end_pieces (x.1)

fires_to : (areas : Areas) (k : ℕ) (ns : List ℕ) (e : End) → IsListed (fires_reading areas) (fires_form areas) k tt ns e
    → (length ns ≤ k) × Suits areas (is_area e)
fires_to areas zero [] e is = (omega arith, is)
fires_to areas zero (n ∷ ns) e is = absurd is
fires_to areas (suc k) [] e is = (omega arith, is)
fires_to areas (suc k) (n ∷ ns) e is = let p = fires_to areas k ns e is.1.1 in (omega (arith, p.0), p.1)

fires_from : (areas : Areas) (k : ℕ) (ns : List ℕ) (e : End) → length ns ≤ k → Suits areas (is_area e)
    → IsListed (fires_reading areas) (fires_form areas) k tt ns e
fires_from areas zero [] e most is = is
fires_from areas zero (n ∷ ns) e most is = absurd (omega arith)
fires_from areas (suc k) [] e most is = is
fires_from areas (suc k) (n ∷ ns) e most is = (refl, (tt, fires_from areas k ns e (omega arith) is))

fires_text : (areas : Areas) (ns : List ℕ) (e : End) → list_pieces (fires_form areas) ns e ≡ flat_map fired ns ++ end_pieces e
fires_text areas [] e = refl
fires_text areas (n ∷ ns) e = ap (λ (ps : List TextPiece). fired n ++ ps) (fires_text areas ns e)

pub exact_fires : (areas : Areas) → Exact (fires_at areas) (AreFires areas) fires_pieces
exact_fires areas =
    exact_same (AreFires areas) fires_pieces (exact_list (fires_reading areas) (fires_form areas) (fires_exact areas)
    MAX_FIRES tt tt)
    (λ x is. let p = fires_to areas MAX_FIRES (x.0) (x.1) is in record { most = p.0; end = p.1 })
    (λ x is. fires_from areas MAX_FIRES (x.0) (x.1) is.most is.end)
    (λ x is. fires_text areas (x.0) (x.1))
