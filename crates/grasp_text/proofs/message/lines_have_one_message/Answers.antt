use Rattle.grasp_text.proofs.Lines.{line_one}
use Rattle.grasp_text.proofs.message.lines_have_one_message.Goals as goal

pub returns : goal.returns
returns c = line_one
