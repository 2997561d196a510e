use Rattle.grasp_laws_receiving.proofs.Flags as lemmas
use Rattle.grasp_laws_receiving.proofs.flag_laws.flags_are_bits.Goals as goal

pub returns : goal.returns
returns c = lemmas.flags_are_bits
