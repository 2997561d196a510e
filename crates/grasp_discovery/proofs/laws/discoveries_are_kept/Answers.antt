use Rattle.grasp_discovery.specs.Discoveries.{find_answer, asker_of, search_from}
use Rattle.grasp_discovery.proofs.Soundness.{sound_none, sound_find, sound_begin, sound_heard, sound_answered, sound_expiry, sound_drop}
use Rattle.grasp_discovery.proofs.laws.discoveries_are_kept.Goals as goal

pub returns : goal.returns
returns c = (
  sound_none,
  λ all s. (
    λ asa topic. sound_find all asa topic (find_answer all asa topic) s,
    λ now asa session timeout topic none room. sound_begin all (search_from now asa topic session timeout) none room s,
    λ origin memory. sound_heard all origin memory s,
    λ own origin last locators some. sound_answered all last locators (asker_of all own origin) some s,
    λ now. sound_expiry all now s,
    λ asa. sound_drop all asa s,
  ),
)
