use Rattle.grasp_script_kept.proofs.ScriptLaws as lemmas
use Rattle.grasp_script_kept.proofs.laws.texts_have_one_kept_script.Goals as goal

pub returns : goal.returns
returns c = lemmas.one_script
