-- What a network remembers of the replies to agents: handles, floods and searches that were begun, and floods that were read.
use Rattle.std.specs.Prelude.{◌≡◌, ℕ, AllPairs, Bool, true, false, List, [], ◌∷◌, ◌++◌, Option, None, Some, if◌then◌else◌}
use Rattle.grasp_agent.specs.Announcing.{reads_in}
use Rattle.grasp_agent.specs.Replies.{answer_in, is_done, started_in, incoming_in}
use Rattle.grasp_model_node.specs.Begin.{begin}
use Rattle.grasp_model_node.specs.Draws.{next_session}
use Rattle.grasp_model_node.specs.SessionCalls.{flags_or}
use Rattle.grasp_model_node.specs.Tests.{owned_flags}
use Rattle.grasp_types.specs.declared.call.Call.{Call}
use Rattle.grasp_types.specs.declared.call.Call.TheVariants as call
use Rattle.grasp_types.specs.declared.flood.FloodRead.{FloodRead}
use Rattle.grasp_types.specs.declared.reply.ApiAnswer.{ApiAnswer}
use Rattle.grasp_types.specs.declared.reply.ApiAnswer.TheVariants as answer
use Rattle.grasp_types.specs.declared.reply.Reply.{Reply}
use Rattle.grasp_types.specs.declared.session.Handle.{Handle}
use Rattle.grasp_model_network.specs.Visits.{Visit}
use Rattle.grasp_model_network.specs.World.{FloodCall, SearchCall, GivenHandle, WorldState}

-- ---- handles

abbrev pub given_by : Visit → Option Handle → List GivenHandle
given_by v None = []
given_by v (Some h) = record { node = v.node; handle = h } ∷ []

-- a session that began, at this node or by a peer, has a new handle
unfoldable pub handles_in : Visit → Reply → List GivenHandle
handles_in v r = given_by v (started_in (answer_in r)) ++ given_by v (incoming_in (answer_in r))

-- ---- floods (RFC 8990, section 2.5.6.2)

-- what a call floods, with the flags that this agent had registered before the call
abbrev pub flooded_by : Visit → ℕ → Call → List FloodCall
flooded_by v asa (call.Flood name value ttl loops) =
    record { node = v.node; name = name; value = value; flags = flags_or (owned_flags v.seat.core asa name); loops = loops } ∷ []
flooded_by v asa _ = []

-- a flood begins where its call is done
unfoldable pub floods_in : Visit → ℕ → Call → Reply → List FloodCall
floods_in v asa c r = if is_done (answer_in r) then flooded_by v asa c else []

abbrev pub read_by : Option (List FloodRead) → List FloodRead
read_by None = []
read_by (Some reads) = reads

-- the floods that were read
unfoldable pub floods_read_in : Reply → List FloodRead
floods_read_in r = read_by (reads_in (answer_in r))

-- ---- searches (RFC 8990, section 2.5.4)

abbrev pub is_searching : Option ApiAnswer → Bool
is_searching (Some answer.Searching) = true
is_searching _ = false

-- a search begins where its call is answered so, under the number that the node draws, which it tells with its address
unfoldable pub searches_in : Visit → Reply → List SearchCall
searches_in v r =
    if is_searching (answer_in r)
    then record { node = v.node; address = v.seat.core.plan.address; session = next_session (begin v.seat.core v.now) } ∷ []
    else []

-- no two searches were begun under one session number at one address: a node that begins anew draws its numbers again, and a discovery tells
-- the number and the address, and no life
abbrev pub SearchesDiffer : WorldState → Type 0
SearchesDiffer w = AllPairs (λ a b. ¬ ((a.address ≡ b.address) × (a.session ≡ b.session))) w.searches

-- ---- all of it

-- what is remembered of the reply to a call of this agent
unfoldable pub noted : WorldState → Visit → ℕ → Call → Reply → WorldState
noted w v asa c r = record w {
  handles = w.handles ++ handles_in v r;
  flood_calls = w.flood_calls ++ floods_in v asa c r;
  floods_read = w.floods_read ++ floods_read_in r;
  searches = w.searches ++ searches_in v r;
}
