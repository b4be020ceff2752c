use Rattle.tl_demo.proofs.DemoLaws.{demo_fits}
use Rattle.tl_demo.proofs.laws.demo_fits.Goals as goal

pub returns : goal.returns
returns c = demo_fits
