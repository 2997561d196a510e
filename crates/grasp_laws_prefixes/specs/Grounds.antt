-- The laws of nodes, agents, streams and sessions on which those of prefixes stand, as one.
use Rattle.grasp_laws_network.specs.Lives.{LivesAreKept}
use Rattle.grasp_laws_node.specs.Consistent.{TiesAreKept}
use Rattle.grasp_session.specs.Laws.{SilentUnseen}
use Rattle.grasp_laws_agents.specs.Calls.{CallsMean}
use Rattle.grasp_laws_agents.specs.Laws.{SessionsAreOwned, AgentsAreKept, AgentsServe, OwnSessionsGoOn, GoneSessionsAreOwned}
use Rattle.grasp_laws_agents.specs.OfferLaws.{AgentsGive, AgentsMove}
use Rattle.grasp_laws_negotiation.specs.Streams.{SessionsHaveStreams}
use Rattle.grasp_laws_delivery.specs.Ready.{StreamsAreReady, StepsArePresent}
use Rattle.grasp_laws_negotiation.specs.Knowing.{NegotiationsAreKnown}
use Rattle.grasp_laws_negotiation.specs.Negotiations.{NegotiationsAreInOrder, NegotiationsAreTalks}

pub record Grounds : Type 0 where
  pub ties : TiesAreKept
  pub lives : LivesAreKept
  pub ready : StreamsAreReady
  pub present : StepsArePresent
  pub kept : AgentsAreKept
  pub serve : AgentsServe
  pub owned : SessionsAreOwned
  pub gone_owned : GoneSessionsAreOwned
  pub goes_on : OwnSessionsGoOn
  pub give : AgentsGive
  pub move : AgentsMove
  pub means : CallsMean
  pub unseen : SilentUnseen
  pub streams : SessionsHaveStreams
  pub negotiations : NegotiationsAreTalks
  pub known : NegotiationsAreKnown
  pub in_order : NegotiationsAreInOrder
