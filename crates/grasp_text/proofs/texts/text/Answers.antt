use Rattle.grasp_text.proofs.Readers.{text_spelled, text_valid, text_denied}
use Rattle.grasp_text.proofs.texts.text.Goals as goal

pub returns-clause-found : goal.returns-clause-found
returns-clause-found c = text_spelled c.args.word.now c.read_text.result c.read_text.ensures

pub returns-clause-valid : goal.returns-clause-valid
returns-clause-valid c = text_valid c.args.word.now c.read_text.result c.read_text.ensures

pub returns-clause-none : goal.returns-clause-none
returns-clause-none c = text_denied c.args.word.now c.read_text.result c.read_text.ensures
