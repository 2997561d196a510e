use Rattle.grasp_control.proofs.Lines.{line_one}
use Rattle.grasp_control.proofs.WholeWords.{request_line_words}
use Rattle.grasp_control.proofs.laws.requests_mean_one_thing.Goals as goal

pub returns-clause-meaning : goal.returns-clause-meaning
returns-clause-meaning c = line_one

pub returns-clause-words : goal.returns-clause-words
returns-clause-words c = request_line_words
