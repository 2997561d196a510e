-- The laws of nodes and of networks on which those of doubters stand, as one.
use Rattle.grasp_laws_owned.specs.Laws.{BeginningsLeaveOwners, OthersLeaveOwners, OwnersKeepServing, OwnersLeaveByPolls}
use Rattle.grasp_laws_openers.specs.Laws.{OpenersAreTold}
use Rattle.grasp_laws_listed.specs.Doubts.{DoubtedWereOffered}
use Rattle.grasp_laws_accepted.specs.Agreeing.{AcceptedDoubtsAgree}
use Rattle.grasp_laws_questions.specs.Agreeing.{ListedAreAsked, RequestersSaw}
use Rattle.grasp_laws_questions.specs.Wanting.{RequestedSessionsAreWants}
use Rattle.grasp_laws_prefixes.specs.Grounds as prefixes
use Rattle.grasp_laws_prefixes.specs.Known.{OffersAreKnown}
use Rattle.grasp_laws_prefixes.specs.Settled.{DeadAreFound}

pub record Grounds : Type 0 where
  pub prefixes : prefixes.Grounds
  pub offers : OffersAreKnown
  pub doubted : DoubtedWereOffered
  pub dead : DeadAreFound
  pub listed : ListedAreAsked
  pub saw : RequestersSaw
  pub agree : AcceptedDoubtsAgree
  pub wants : RequestedSessionsAreWants
  pub openers : OpenersAreTold
  pub others : OthersLeaveOwners
  pub begins : BeginningsLeaveOwners
  pub owners : OwnersKeepServing
  pub leaves : OwnersLeaveByPolls
