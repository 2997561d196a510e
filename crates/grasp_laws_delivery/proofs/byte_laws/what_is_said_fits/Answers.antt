use Rattle.grasp_laws_delivery.proofs.FitNetworks.{said_fits}
use Rattle.grasp_laws_delivery.proofs.byte_laws.what_is_said_fits.Goals as goal

pub returns : goal.returns
returns c = said_fits
