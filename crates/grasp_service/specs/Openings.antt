-- The opening calls of a node's agents, which come before all else.
use Rattle.std.specs.Prelude.{◌≡◌, ℕ, zero, suc, ◌+◌, ◌==◌, Bool, true, false, List, [], ◌∷◌, length}
use Rattle.grasp_core.specs.declared.node_core.NodeCore.{NodeCore}
use Rattle.grasp_crew.specs.Servants.{is_steward, opening_count, call_of, after_call}
use Rattle.grasp_crew.specs.declared.servant.Servant.{Servant}
use Rattle.grasp_shared.specs.Adding.{Adds}
use Rattle.grasp_shared.specs.Calls.{GoesOn, answered}
use Rattle.grasp_shared.specs.History.{Entry, History}
use Rattle.grasp_types.specs.declared.reply.ApiAnswer.TheVariants as answer
use Rattle.grasp_types.specs.declared.reply.Reply.{Reply}
use Rattle.grasp_types.specs.declared.reply.Reply.TheVariants as reply
use Rattle.grasp_service_visits.specs.Each.{each_after, each_adds, Each}
use Rattle.grasp_service.specs.States.{state_of, with_crew}
use Rattle.grasp_service.specs.declared.service.Service.{Service}

-- the call was answered
abbrev pub is_answer : Reply → Bool
is_answer (reply.Api a) = true
is_answer _ = false

-- the agent of prefixes has the number 1
abbrev pub is_first_asa : Reply → Bool
is_first_asa (reply.Api (answer.Asa n)) = n == 1
is_first_asa _ = false

-- its objective is registered
abbrev pub is_done : Reply → Bool
is_done (reply.Api answer.Done) = true
is_done _ = false

-- nobody asks it yet
abbrev pub is_not_yet : Reply → Bool
is_not_yet (reply.Api answer.NotYet) = true
is_not_yet _ = false

-- of the agent of prefixes the call at this place is answered as that of a member of a network; of the others each is answered
abbrev pub first_opens : ℕ → Reply → Bool
first_opens zero r = is_first_asa r
first_opens (suc zero) r = is_done r
first_opens (suc (suc n)) r = is_not_yet r

abbrev pub opens_at : Bool → ℕ → Reply → Bool
opens_at true place r = first_opens place r
opens_at false place r = is_answer r

-- all of them, from this place on
abbrev pub OpensFrom : Bool → ℕ → List Reply → Type 0
OpensFrom first place [] = Unit {0}
OpensFrom first place (r ∷ rs) = (opens_at first place r ≡ true) × OpensFrom first (place + 1) rs

-- the call of an agent, with the reading 0
abbrev pub agent_entry : ℕ → Servant → Reply → Entry
agent_entry caller m r = record { caller = caller; now = 0; input = call_of m; reply = r }

-- the calls that an agent makes by these replies, and the agent after them
abbrev pub opening_calls : ℕ → Servant → List Reply → History
opening_calls caller m [] = []
opening_calls caller m (r ∷ rs) = agent_entry caller m r ∷ opening_calls caller (after_call 0 m r) rs

abbrev pub opened : Servant → List Reply → Servant
opened m [] = m
opened m (r ∷ rs) = opened (after_call 0 m r) rs

-- as many as open it, each answered so
pub record IsOpening (m : Servant) (rs : List Reply) : Type 0 where
  pub count : length rs ≡ opening_count m
  pub opens : OpensFrom (is_steward m) 0 rs

-- Inside: one of them was made
pub record OpensOnce (old : NodeCore) (m : Servant) (first : Bool) (place : ℕ) (new : NodeCore) (n : Servant) : Type 0 where
  pub reply : Reply
  pub went : GoesOn old (answered 0 (call_of m) reply) new
  pub opens : opens_at first place reply ≡ true
  pub agent : n ≡ after_call 0 m reply

-- Inside: so many of them were
pub record OpensSome (old : NodeCore) (m : Servant) (first : Bool) (place : ℕ) (new : NodeCore) (n : Servant) : Type 0 where
  pub replies : List Reply
  pub count : length replies ≡ place
  pub opens : OpensFrom first 0 replies
  pub adds : (caller : ℕ) → Adds old (opening_calls caller m replies) new
  pub agent : n ≡ opened m replies

-- an agent made its opening calls
pub record Opens (old : NodeCore) (m : Servant) (new : NodeCore) (n : Servant) : Type 0 where
  pub replies : List Reply
  pub opening : IsOpening m replies
  pub adds : (caller : ℕ) → Adds old (opening_calls caller m replies) new
  pub agent : n ≡ opened m replies

-- Inside: so many agents did
pub record BeginsSome (count : ℕ) (old : NodeCore) (crew : List Servant) (new : NodeCore) (others : List Servant) : Type 0 where
  pub replies : List (List Reply)
  pub count_is : length replies ≡ count
  pub each : Each IsOpening crew replies
  pub adds : Adds old (each_adds opening_calls 1 crew replies) new
  pub crew_is : others ≡ each_after opened crew replies

-- each agent did, in order
pub record Begins (old : NodeCore) (crew : List Servant) (new : NodeCore) (others : List Servant) : Type 0 where
  pub replies : List (List Reply)
  pub count : length replies ≡ length crew
  pub each : Each IsOpening crew replies
  pub adds : Adds old (each_adds opening_calls 1 crew replies) new
  pub crew_is : others ≡ each_after opened crew replies

-- the node's agents did, and nothing else changed
pub record BeginsService (old new : Service) : Type 0 where
  pub begins : Begins old.core old.house.crew.items new.core new.house.crew.items
  pub state : state_of new ≡ with_crew (state_of old) new.house.crew.items
