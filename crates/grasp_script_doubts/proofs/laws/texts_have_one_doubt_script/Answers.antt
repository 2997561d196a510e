use Rattle.grasp_script_doubts.proofs.ScriptLaws as lemmas
use Rattle.grasp_script_doubts.proofs.laws.texts_have_one_doubt_script.Goals as goal

pub returns : goal.returns
returns c = lemmas.one_script
