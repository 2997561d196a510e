-- What a reply changes in the pool of an agent of PrefixManager: one change, and nothing else (RFC 8992, section 4.2).
use Rattle.std.specs.Prelude.{◌≡◌, Option, Some, None}
use Rattle.grasp_types.specs.Prefix.{AddressBlock as Prefix}
use Rattle.grasp_types.specs.declared.reply.Reply.{Reply}
use Rattle.grasp_pool.specs.Holdings.{Holding, Reserves, GivesBack, Confirms, Doubts, Gains}
use Rattle.grasp_agent.specs.Changes.{change_of}
use Rattle.grasp_agent.specs.Kept.{IsKept}
use Rattle.grasp_agent.specs.Replies.{after_reply}
use Rattle.grasp_agent.specs.States.{AgentState, offered_by}
use Rattle.grasp_agent.specs.declared.change.PoolChange.{PoolChange}
use Rattle.grasp_agent.specs.declared.change.PoolChange.TheVariants.{Stays, Gained, Given, Back, Doubted, Decided}
use Rattle.grasp_laws_agent.specs.Moves.{TakesBack}

-- what is offered is reserved
abbrev pub OffersIn : Option Prefix → Holding → Holding → Type 0
OffersIn None old new = new ≡ old
OffersIn (Some p) old new = Reserves old new p

-- the one change of the pool; after a giver's turn, its last offer is free again, and what it then offers is reserved
abbrev pub Changes : PoolChange → Option Prefix → Holding → Holding → Type 0
Changes Stays offer old new = new ≡ old
Changes (Gained p) offer old new = Gains old new p
Changes (Given p) offer old new = Confirms old new p
Changes (Back p) offer old new = GivesBack old new p
Changes (Doubted p) offer old new = Doubts old new p
Changes (Decided last) offer old new = (between : Holding) × TakesBack last old between × OffersIn offer between new

-- the pool after a reply is the one before with just the change that the reply makes
abbrev pub RepliesChangePools : Type 0
RepliesChangePools = (s : AgentState) (r : Reply) → IsKept s → Changes (change_of s r) (offered_by (after_reply s r).act) s.pool (after_reply s r).pool
