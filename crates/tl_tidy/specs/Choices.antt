-- What holds of a choice where it was found, and where it was left open.
use Rattle.std.specs.Prelude.{⊤}
use Rattle.tl_problem.specs.declared.placed.Placed.{Placed}
use Rattle.tl_tidy.specs.declared.choice.Choice.{Choice}
use Rattle.tl_tidy.specs.declared.choice.Choice.TheVariants.{Found, Open}

-- this holds of the placement, if one was found
abbrev pub IfFound : (Placed → Type 0) → Choice → Type 0
IfFound Holds (Found placed) = Holds placed
IfFound Holds Open = ⊤

-- this holds, if the choice was left open
abbrev pub IfOpen : Type 0 → Choice → Type 0
IfOpen Holds (Found placed) = ⊤
IfOpen Holds Open = Holds
