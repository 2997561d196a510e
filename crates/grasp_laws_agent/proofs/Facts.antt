-- Facts of agents that several crates use.
use Rattle.std.proofs.Common.{Option, IfSome, Contains, None, refl, Some}
use Rattle.grasp_types.specs.Prefix.{AddressBlock as Prefix}
use Rattle.grasp_pool.proofs.Meanings.{back_means}
use Rattle.grasp_pool.specs.Holdings.{Holding}
use Rattle.grasp_pool.specs.Pools.{IsPool}
use Rattle.grasp_agent.specs.Replies.{giving_back}
use Rattle.grasp_agent.specs.States.{AgentState}
use Rattle.grasp_laws_agent.specs.Moves.{TakesBack, NothingMoves}

-- a prefix of the reserved ones goes back to the pool
pub takes_back : (h : Holding) (o : Option Prefix) → IsPool h → IfSome o (λ p. Contains h.reserved p) → TakesBack o h (giving_back h o)
takes_back h None pool has = refl
takes_back h (Some p) pool has = back_means h p pool has

-- nothing moves where nothing changes
pub itself : (a : AgentState) → NothingMoves a a
itself a = record { pool = refl; giving = refl; want = (refl, refl); back = refl; act = refl }
