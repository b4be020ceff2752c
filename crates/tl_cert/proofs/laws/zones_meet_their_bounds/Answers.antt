use Rattle.tl_cert.proofs.ZoneBounds.{zone-meets, zone-from_meets}
use Rattle.tl_cert.proofs.laws.zones_meet_their_bounds.Goals as goal

pub returns : goal.returns
returns c = λ problem sound zone is widths. (
  (λ inside. (inside.page, zone-meets problem sound zone is widths inside)),
  (λ meets. zone-from_meets problem sound zone is widths meets.0 meets.1),
)
