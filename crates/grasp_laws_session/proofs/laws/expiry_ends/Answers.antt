use Rattle.grasp_laws_session.proofs.Expiry.{expiry_ends, expiry_goes_on, expiry_stops}
use Rattle.grasp_laws_session.proofs.laws.expiry_ends.Goals as goal

pub returns : goal.returns
returns c = record { ends = expiry_ends; more = expiry_goes_on; stops = expiry_stops }
