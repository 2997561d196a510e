use Rattle.grasp_laws_events.proofs.Scripts as lemmas
use Rattle.grasp_laws_events.proofs.setting_laws.scripts_have_settings.Goals as goal

pub returns : goal.returns
returns c = lemmas.scripts_have_settings c.streams_are_ready.ensures
