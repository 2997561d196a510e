use Rattle.grasp_laws_lines.proofs.Lines as lemmas
use Rattle.grasp_laws_lines.proofs.line_laws.each_doubt_act_has_one_line.Goals as goal

pub returns : goal.returns
returns c = lemmas.each_doubt_act_has_one_line
