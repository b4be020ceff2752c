-- From which zones of a trace others come, once a further cut is made.
use Rattle.std.proofs.Common.{◌≡◌, ℕ, ◌+◌, ◌*◌, List, [], ◌∷◌, ◌++◌, length, get_or, sym, ap, ◌∙◌, subst, arith, length-append}
use Rattle.std.proofs.lemmas.List.{get_or_append_left, get_or-append-add}
use Rattle.tl_cert.specs.declared.trace.CutAt.{CutAt}
use Rattle.tl_cert.specs.ZoneOrders.{ComesFrom, itself, lower, upper}

-- what comes from what comes from a zone comes from the zone
pub from-next : {trace : List CutAt} {a b c : ℕ} → ComesFrom trace a b → ComesFrom trace b c → ComesFrom trace a c
from-next first itself = first
from-next first (lower i d within rest) = lower i d within (from-next first rest)
from-next first (upper i d within rest) = upper i d within (from-next first rest)

-- a further cut keeps this
module _ (trace : List CutAt) (cut : CutAt) where
  pub from-more : {a b : ℕ} → ComesFrom trace a b → ComesFrom (trace ++ cut ∷ []) a b
  from-more itself = itself
  from-more {a} (lower i d within rest) =
      lower i d (omega (arith, within, length-append trace (cut ∷ [])))
      (subst (λ (c : CutAt). ComesFrom (trace ++ cut ∷ []) a c.zone) (sym (get_or_append_left trace (cut ∷ []) d i within))
      (from-more rest))
  from-more {a} (upper i d within rest) =
      upper i d (omega (arith, within, length-append trace (cut ∷ [])))
      (subst (λ (c : CutAt). ComesFrom (trace ++ cut ∷ []) a c.zone) (sym (get_or_append_left trace (cut ∷ []) d i within))
      (from-more rest))

  pub last-cut : (d : CutAt) → get_or (trace ++ cut ∷ []) (length trace) d ≡ cut
  last-cut d =
      let here : length trace ≡ length trace + 0 = omega arith in
      ap (λ n. get_or (trace ++ cut ∷ []) n d) here ∙ get_or-append-add trace (cut ∷ []) 0 d

  -- the two parts of the cut come from its zone
  pub lower-from : ComesFrom (trace ++ cut ∷ []) cut.zone (2 * length trace + 1)
  lower-from = lower (length trace) cut (omega (arith, length-append trace (cut ∷ [])))
      (subst (λ (c : CutAt). ComesFrom (trace ++ cut ∷ []) cut.zone c.zone) (sym (last-cut cut)) itself)

  pub upper-from : ComesFrom (trace ++ cut ∷ []) cut.zone (2 * length trace + 2)
  upper-from = upper (length trace) cut (omega (arith, length-append trace (cut ∷ [])))
      (subst (λ (c : CutAt). ComesFrom (trace ++ cut ∷ []) cut.zone c.zone) (sym (last-cut cut)) itself)
