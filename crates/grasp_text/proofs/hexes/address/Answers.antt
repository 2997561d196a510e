use Rattle.grasp_text.proofs.Readers.{address_spelled, address_valid, address_denied}
use Rattle.grasp_text.proofs.hexes.address.Goals as goal

pub returns-clause-found : goal.returns-clause-found
returns-clause-found c = address_spelled c.args.word.now c.read_address.result c.read_address.ensures

pub returns-clause-valid : goal.returns-clause-valid
returns-clause-valid c = address_valid c.args.word.now c.read_address.result c.read_address.ensures

pub returns-clause-none : goal.returns-clause-none
returns-clause-none c = address_denied c.args.word.now c.read_address.result c.read_address.ensures
