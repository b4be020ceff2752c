-- Pieces lead one way only: to the end of the file, or to its first fault.
use Rattle.std.proofs.Common.{◌≡◌, ℕ, List, [], ◌∷◌, ◌++◌, refl, sym, ◌∙◌, subst}
use Rattle.tl_token.specs.Grammar.{Lexeme, LexemeStands, Fault, FaultStands}
use Rattle.tl_token.specs.Spelling.{Part, place_of_rest, Leads, here, next}
use Rattle.tl_token.specs.inner.Reading.{stands, faulty}
use Rattle.tl_token.proofs.PlacesWhole.{place_whole, fault_whole, nothing_at_end, no_fault_at_end}

-- one piece at most stands at a place
one_piece : (cs : List ℕ) (p q : Lexeme) (mid last : List ℕ) → LexemeStands cs p mid → LexemeStands cs q last → (p ≡ q)
    × (mid ≡ last)
one_piece [] p q mid last h k = absurd (nothing_at_end p mid h)
one_piece (c ∷ cs) p q mid last h k =
    let a = place_whole c cs p mid h in
    let b = place_whole c cs q last k in
    let same : stands p mid ≡ stands q last = sym a ∙ b in
    (cc, cc)

-- and none where a fault stands
no_piece_at_fault : (cs : List ℕ) (p : Lexeme) (mid : List ℕ) (fault : Fault) → LexemeStands cs p mid → FaultStands fault cs → ⊥
no_piece_at_fault [] p mid fault h k = nothing_at_end p mid h
no_piece_at_fault (c ∷ cs) p mid fault h k =
    let a = place_whole c cs p mid h in
    let b = fault_whole fault c cs k in
    let never : stands p mid ≡ faulty fault = sym a ∙ b in cc

one_fault : (cs : List ℕ) (f g : Fault) → FaultStands f cs → FaultStands g cs → f ≡ g
one_fault [] f g h k = absurd (no_fault_at_end f h)
one_fault (c ∷ cs) f g h k =
    let a = fault_whole f c cs h in
    let b = fault_whole g c cs k in
    let same : faulty f ≡ faulty g = sym a ∙ b in cc

-- pieces to the end of the file are always the same
pub one_way : (size : ℕ) (cs : List ℕ) (ps qs : List Part) → Leads size cs ps [] → Leads size cs qs [] → ps ≡ qs
one_way size cs _ _ here k = from k refl
  where
    from : {ds : List ℕ} {qs : List Part} → Leads size ds qs [] → ds ≡ [] → [] ≡ qs
    from here e = refl
    from (next {mid = mid} piece s later) e = let P : List ℕ → Type 0 = λ x. LexemeStands x piece mid in
        absurd (nothing_at_end piece mid (subst P e s))
one_way size cs _ qs (next {mid = mid} {parts = ps} p h later) k =
    from k refl (λ last rs same l. one_way size mid ps rs later (subst (λ (x : List ℕ). Leads size x rs []) (sym same) l))
  where
    from : {ds : List ℕ} {qs : List Part} → Leads size ds qs [] → ds ≡ cs
        → ((last : List ℕ) (rs : List Part) → mid ≡ last → Leads size last rs [] → ps ≡ rs)
        → record { piece = p; first = place_of_rest size cs; past = place_of_rest size mid } ∷ ps ≡ qs
    from here e ih = let P : List ℕ → Type 0 = λ x. LexemeStands x p mid in absurd (nothing_at_end p mid (subst P (sym e) h))
    from (next {cs = ds} {mid = last} {parts = rs} q s l) e ih =
        let P : List ℕ → Type 0 = λ x. LexemeStands x q last in
        let (same, mids) = one_piece cs p q mid last h (subst P e s) in
        let others = ih last rs mids l in
        λ i. record { piece = same i; first = place_of_rest size (sym e i); past = place_of_rest size (mids i) } ∷ others i

-- where pieces lead to the end, no pieces lead to a fault
pub whole_or_broken : (size : ℕ) (cs rest : List ℕ) (ps qs : List Part) (fault : Fault) → Leads size cs ps [] →
    Leads size cs qs rest
    → FaultStands fault rest → ⊥
whole_or_broken size cs rest _ qs fault here k broken = from k refl
  where
    from : {ds : List ℕ} {qs : List Part} → Leads size ds qs rest → ds ≡ [] → ⊥
    from here e = let P : List ℕ → Type 0 = λ x. FaultStands fault x in no_fault_at_end fault (subst P e broken)
    from (next {mid = mid} piece s later) e = let P : List ℕ → Type 0 = λ x. LexemeStands x piece mid in
        nothing_at_end piece mid (subst P e s)
whole_or_broken size cs rest _ qs fault (next {mid = mid} {parts = ps} p h later) k broken =
    from k refl (λ last rs same l. whole_or_broken size mid rest ps rs fault later
    (subst (λ (x : List ℕ). Leads size x rs rest) (sym same) l) broken)
  where
    from : {ds : List ℕ} {qs : List Part} → Leads size ds qs rest → ds ≡ cs →
        ((last : List ℕ) (rs : List Part) → mid ≡ last → Leads size last rs rest → ⊥) → ⊥
    from here e ih = let P : List ℕ → Type 0 = λ x. FaultStands fault x in no_piece_at_fault cs p mid fault h (subst P e broken)
    from (next {cs = ds} {mid = last} {parts = rs} q s l) e ih =
        let P : List ℕ → Type 0 = λ x. LexemeStands x q last in
        ih last rs ((one_piece cs p q mid last h (subst P e s)).1) l

-- two faults to which pieces lead are one
pub one_break : (size : ℕ) (cs rest last : List ℕ) (ps qs : List Part) (f g : Fault) → Leads size cs ps rest → FaultStands f rest
    → Leads size cs qs last → FaultStands g last
    → (f ≡ g) × (rest ≡ last)
one_break size cs _ last _ qs f g here broken k other = from k refl other
  where
    from : {ds : List ℕ} {qs : List Part} → Leads size ds qs last → ds ≡ cs → FaultStands g last → (f ≡ g) × (cs ≡ last)
    from here e o = let P : List ℕ → Type 0 = λ x. FaultStands f x in (one_fault last f g (subst P (sym e) broken) o, sym e)
    from (next {cs = ds} {mid = mid} piece s later) e o =
        let P : List ℕ → Type 0 = λ x. LexemeStands x piece mid in absurd (no_piece_at_fault cs piece mid f (subst P e s) broken)
one_break size cs rest last _ qs f g (next {mid = mid} {parts = ps} p h later) broken k other =
    from k refl other (λ after rs same l o. one_break size mid rest last ps rs f g later broken
    (subst (λ (x : List ℕ). Leads size x rs last) (sym same) l) o)
  where
    from : {ds : List ℕ} {qs : List Part} → Leads size ds qs last → ds ≡ cs → FaultStands g last
        → ((after : List ℕ) (rs : List Part) → mid ≡ after → Leads size after rs last → FaultStands g last →
        (f ≡ g) × (rest ≡ last)) → (f ≡ g) × (rest ≡ last)
    from here e o ih = let P : List ℕ → Type 0 = λ x. FaultStands g x in absurd (no_piece_at_fault cs p mid g h (subst P e o))
    from (next {cs = ds} {mid = after} {parts = rs} q s l) e o ih =
        let P : List ℕ → Type 0 = λ x. LexemeStands x q after in
        ih after rs ((one_piece cs p q mid after h (subst P e s)).1) l o

-- one piece more at the end
pub leads_more : (size : ℕ) (cs mid rest : List ℕ) (ps : List Part) (piece : Lexeme) → Leads size cs ps mid →
    LexemeStands mid piece rest
    → Leads size cs (ps ++ record { piece = piece; first = place_of_rest size mid; past = place_of_rest size rest } ∷ []) rest
leads_more size cs _ rest _ piece here s = next piece s here
leads_more size cs mid rest _ piece (next {mid = ds} {parts = ps} p h later) s =
    next p h (leads_more size ds mid rest ps piece later s)
