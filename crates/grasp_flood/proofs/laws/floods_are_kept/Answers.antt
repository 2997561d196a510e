use Rattle.grasp_flood.proofs.Soundness.{sound_none, sound_heard, sound_drop, sound_expiry}
use Rattle.grasp_flood.proofs.laws.floods_are_kept.Goals as goal

pub returns : goal.returns
returns c = (sound_none, λ floods s. (λ now flood ttl parts. sound_heard floods now flood ttl parts s, λ key. sound_drop floods key s, λ now. sound_expiry floods now s))
