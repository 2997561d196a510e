-- What is promised of each network that a script leads to.
use Rattle.grasp_model_network.specs.Runs.{IsReached}
use Rattle.grasp_model_network.specs.Setting.{Setting}
use Rattle.grasp_model_network.specs.World.{WorldState}
use Rattle.grasp_laws_floods.specs.Real.{FloodsAreReal}
use Rattle.grasp_laws_prefixes.specs.Apart.{PrefixesAreSafe}
use Rattle.grasp_laws_negotiation.specs.Safe.{IsSafeTalks}

pub record IsSafe (s : Setting) (w : WorldState) : Type 0 where
  -- turns lead to it from the first network of a good setting: whatever is proved of such networks is so of it
  pub reached : IsReached s w
  -- the steps of each negotiation are fewer than its loop count, and none where that is 0, and two sides that agree hold one objective, the
  -- last that the side offered which didn't accept
  pub negotiations : IsSafeTalks w
  -- each flood that was read was flooded by its initiator
  pub floods : FloodsAreReal w
  -- prefixes that are held by different nodes don't overlap, what may still be accepted is held by none, and an offer of unknown outcome stays
  -- reserved or in doubt
  pub prefixes : PrefixesAreSafe w
