-- What is so of each prefix that was settled in a network of doubters (RFC 8992, sections 4.1 and 4.2).
use Rattle.std.specs.Prelude.{Contains}
use Rattle.grasp_laws_prefixes.specs.Known.{IsNeverAccepted}
use Rattle.grasp_model_doubts.specs.Answered.{WasAnswered}
use Rattle.grasp_model_doubts.specs.Runs.{IsDoubted}
use Rattle.grasp_model_doubts.specs.World.{DoubtState}
use Rattle.grasp_model_network.specs.Runs.{IsReached}
use Rattle.grasp_model_network.specs.Setting.{Setting}
use Rattle.grasp_model_network.specs.World.{Offered}

-- each prefix that was settled was asked for, and is accepted never
pub record DoubtsAreResolved (s : Setting) (x : DoubtState) : Type 0 where
  -- turns lead to the network, so that all that is so of such networks is so of it
  pub reached : IsReached s x.world
  -- what was settled was asked for: the node to which it was offered has answered that it never accepted it
  pub answered : (o : Offered) → Contains x.world.settled o → WasAnswered x.world o
  -- and it is accepted never on the stream for which it was offered
  pub never : (o : Offered) → Contains x.world.settled o → IsNeverAccepted x.world o

-- so it is in each network of doubters that events lead to
abbrev pub EachDoubtIsResolved : Type 0
EachDoubtIsResolved = (s : Setting) (x : DoubtState) → IsDoubted s x → DoubtsAreResolved s x
