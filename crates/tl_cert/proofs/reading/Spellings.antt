-- The characters of pieces that are joined, and where a number stands among them.
use Rattle.std.proofs.Common.{◌≡◌, ℕ, List, [], ◌∷◌, ◌++◌, ◌⊎◌, inl, inr, refl, sym, ap, subst, ◌∙◌, append_assoc}
use Rattle.tl_cert.specs.Pieces.{TextPiece, spelling, spell, AllWithin}

pub spell-append : (ps qs : List TextPiece) → spell (ps ++ qs) ≡ spell ps ++ spell qs
spell-append [] qs = refl
spell-append (p ∷ ps) qs = ap (λ (t : List ℕ). spelling p ++ t) (spell-append ps qs) ∙ sym
    (append_assoc (spelling p) (spell ps) (spell qs))

-- the same before further characters
pub spell_two : (ps qs : List TextPiece) (text : List ℕ) → spell (ps ++ qs) ++ text ≡ spell ps ++ (spell qs ++ text)
spell_two ps qs text = ap (λ (t : List ℕ). t ++ text) (spell-append ps qs) ∙ append_assoc (spell ps) (spell qs) text

pub within-append : (ps qs : List TextPiece) → AllWithin ps → AllWithin qs → AllWithin (ps ++ qs)
within-append [] qs first second = second
within-append (p ∷ ps) qs first second = (first.0, within-append ps qs first.1 second)

pub within-first : (ps qs : List TextPiece) → AllWithin (ps ++ qs) → AllWithin ps
within-first [] qs both = tt
within-first (p ∷ ps) qs both = (both.0, within-first ps qs both.1)

pub within-second : (ps qs : List TextPiece) → AllWithin (ps ++ qs) → AllWithin qs
within-second [] qs both = both
within-second (p ∷ ps) qs both = within-second ps qs both.1

-- a piece of two joined lists stands in the first or in the second
pub record InFirst (ps qs before : List TextPiece) (piece : TextPiece) (after : List TextPiece) : Type 0 where
  pub others : List TextPiece
  pub parts : ps ≡ before ++ piece ∷ others
  pub rest : after ≡ others ++ qs

pub record InSecond (ps qs before : List TextPiece) (piece : TextPiece) (after : List TextPiece) : Type 0 where
  pub others : List TextPiece
  pub prefix : before ≡ ps ++ others
  pub parts : qs ≡ others ++ piece ∷ after

abbrev pub Lies : (ps qs before : List TextPiece) (piece : TextPiece) (after : List TextPiece) → Type 0
Lies ps qs before piece after = InFirst ps qs before piece after ⊎ InSecond ps qs before piece after

further : (p : TextPiece) (ps qs before : List TextPiece) (piece : TextPiece) (after : List TextPiece) →
    Lies ps qs before piece after
    → Lies (p ∷ ps) qs (p ∷ before) piece after
further p ps qs before piece after (inl first) = inl (record {
  others = first.others;
  parts =
      ap (λ (rs : List TextPiece). p ∷ rs) first.parts;
  rest = first.rest;
})
further p ps qs before piece after (inr second) =
    inr (record { others = second.others; prefix = ap (λ (rs : List TextPiece). p ∷ rs) second.prefix; parts = second.parts })

same_head : (p q : TextPiece) (ps qs before : List TextPiece) (piece : TextPiece) (after : List TextPiece) → p ≡ q →
    Lies (p ∷ ps) qs (p ∷ before) piece after
    → Lies (p ∷ ps) qs (q ∷ before) piece after
same_head p q ps qs before piece after same lies = let P : TextPiece → Type 0 = λ r. Lies (p ∷ ps) qs (r ∷ before) piece after in
    subst P same lies

pub lies_in : (ps qs before : List TextPiece) (piece : TextPiece) (after : List TextPiece) → ps ++ qs ≡ before ++ piece ∷ after →
    Lies ps qs before piece after
lies_in [] qs before piece after parts = inr (record { others = before; prefix = refl; parts = parts })
lies_in (p ∷ ps) qs [] piece after parts =
    let head : p ≡ piece = cc in
    let tail : ps ++ qs ≡ after = cc in
    inl (record { others = ps; parts = ap (λ (r : TextPiece). r ∷ ps) head; rest = sym tail })
lies_in (p ∷ ps) qs (q ∷ before) piece after parts =
    let head : p ≡ q = cc in
    let tail : ps ++ qs ≡ before ++ piece ∷ after = cc in
    same_head p q ps qs before piece after head (further p ps qs before piece after (lies_in ps qs before piece after tail))
