-- Its sum is the number that the definition says.
use mathlib.Core.Path.{refl}
use Rattle.surface.specs.Version.{version}
use Rattle.surface_network.proofs.sn_version.Goals as goal

pub returns : goal.returns
unfolding version
returns c = refl
