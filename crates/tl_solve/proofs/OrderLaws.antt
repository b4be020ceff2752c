-- What holds at each cut of a trace, and in which order its zones come, once a further cut is made.
use Rattle.std.proofs.Common.{◌≡◌, ℕ, ◌+◌, ◌*◌, List, [], ◌∷◌, ◌++◌, inl, inr, length, get_or, take, sym, ap, ◌∙◌, subst, arith}
use Rattle.std.proofs.Common.{length-append}
use Rattle.std.proofs.lemmas.Bool.{cases_lt}
use Rattle.std.proofs.lemmas.List.{take_all, take-append-le, get_or_append_left, get_or-append-add}
use Rattle.tl_cert.specs.declared.trace.CutAt.{CutAt}
use Rattle.tl_cert.specs.ZoneOrders.{AtEachCut, ComesFrom, itself, ZoneComesBefore}
use Rattle.tl_cert.proofs.Origins.{from-more, from-next}
use Rattle.tl_solve.specs.Orders.{Follows}

-- what holds at each cut of a trace, and at a further cut, holds at each cut of both
pub at-each-push : (Holds : List CutAt → CutAt → Type 0) (trace : List CutAt) (cut : CutAt) → AtEachCut Holds trace →
    Holds trace cut →
    AtEachCut Holds (trace ++ cut ∷ [])
at-each-push Holds trace cut before now i d within =
    elim (cases_lt i (length trace)) [
      | inl old ↦
          let cuts : take i (trace ++ cut ∷ []) ≡ take i trace = take-append-le i trace (cut ∷ []) (omega (arith, old)) in
          let item : get_or (trace ++ cut ∷ []) i d ≡ get_or trace i d = get_or_append_left trace (cut ∷ []) d i old in
          subst (λ cs. Holds cs (get_or (trace ++ cut ∷ []) i d)) (sym cuts)
          (subst (Holds (take i trace)) (sym item) (before i d old))
      | inr new ↦
          let last : i ≡ length trace = omega (arith, new, within, length-append trace (cut ∷ [])) in
          let here : i ≡ length trace + 0 = omega (arith, last) in
          let cuts : take i (trace ++ cut ∷ []) ≡ trace =
          take-append-le i trace (cut ∷ []) (omega (arith, last)) ∙ take_all i trace (omega (arith, last)) in
          let item : get_or (trace ++ cut ∷ []) i d ≡ cut = ap (λ n. get_or (trace ++ cut ∷ []) n d)
          here ∙ get_or-append-add trace (cut ∷ []) 0 d in
          subst (λ cs. Holds cs (get_or (trace ++ cut ∷ []) i d)) (sym cuts) (subst (Holds trace) (sym item) now)
    ]

-- ---- zones that come from others

-- what comes from the upper zone comes after the lower, and so on
pub before-from : {trace : List CutAt} {a b c : ℕ} → ZoneComesBefore trace a b → ComesFrom trace b c → ZoneComesBefore trace a c
before-from before from = (before.0, before.1, before.2, from-next before.3 from)

pub from-before : {trace : List CutAt} {a b c : ℕ} → ZoneComesBefore trace a b → ComesFrom trace a c → ZoneComesBefore trace c b
from-before before from = (before.0, before.1, from-next before.2 from, before.3)

pub follows-from : {trace : List CutAt} {a b c : ℕ} → Follows trace a b → ComesFrom trace b c → Follows trace a c
follows-from (inl first) from = inl (from-next first from)
follows-from (inr before) from = inr (before-from before from)

-- a further cut keeps all this
module _ (trace : List CutAt) (cut : CutAt) where
  pub before-more : {a b : ℕ} → ZoneComesBefore trace a b → ZoneComesBefore (trace ++ cut ∷ []) a b
  before-more before = (before.0, omega (arith, before.1, length-append trace (cut ∷ [])), from-more trace cut before.2, from-more trace cut before.3)

  pub follows-more : {a b : ℕ} → Follows trace a b → Follows (trace ++ cut ∷ []) a b
  follows-more (inl from) = inl (from-more trace cut from)
  follows-more (inr before) = inr (before-more before)

  -- the two parts of the cut, the lower before the upper
  pub lower-before_upper : ZoneComesBefore (trace ++ cut ∷ []) (2 * length trace + 1) (2 * length trace + 2)
  lower-before_upper = (length trace, omega (arith, length-append trace (cut ∷ [])), itself, itself)
