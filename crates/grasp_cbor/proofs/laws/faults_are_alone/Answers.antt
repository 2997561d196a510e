use Rattle.grasp_cbor.proofs.Cases.{one_fault, first_fault}
use Rattle.grasp_cbor.proofs.laws.faults_are_alone.Goals as goal

pub returns : goal.returns
returns c = record { alone = one_fault; first = first_fault }
