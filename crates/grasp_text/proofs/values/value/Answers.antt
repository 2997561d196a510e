use Rattle.grasp_text.proofs.Readers.{value_spelled, value_valid, value_denied}
use Rattle.grasp_text.proofs.values.value.Goals as goal

pub returns-clause-found : goal.returns-clause-found
returns-clause-found c = value_spelled c.args.word.now c.read_value.result c.read_value.ensures

pub returns-clause-valid : goal.returns-clause-valid
returns-clause-valid c = value_valid c.args.word.now c.read_value.result c.read_value.ensures

pub returns-clause-none : goal.returns-clause-none
returns-clause-none c = value_denied c.args.word.now c.read_value.result c.read_value.ensures
