-- What the code tells of a call of a node's own agent.
use Rattle.std.proofs.Common.{◌≡◌, ℕ, cond, refl, ap, ◌∙◌, Bool, true, false, List, [], Option, Some, None, option_map, option_to_list}
use Rattle.grasp_agent.specs.Calls.{next_call}
use Rattle.grasp_agent.specs.Kept.{IsKept}
use Rattle.grasp_agent.specs.Replies.{after_reply}
use Rattle.grasp_agent.specs.States.{AgentState}
use Rattle.grasp_laws_node_stories.specs.Acceptances.{accepts_on, acceptances_of, was_done}
use Rattle.grasp_model_network.specs.EventSteps.{agent_input}
use Rattle.grasp_model_network.specs.Offers.{JustOffered, just_offered}
use Rattle.grasp_model_network.specs.World.{Seat}
use Rattle.grasp_model_node.specs.Node.{NodeState}
use Rattle.grasp_types.specs.declared.call.Call.{Call}
use Rattle.grasp_types.specs.declared.reply.Reply.{Reply}
use Rattle.grasp_simulator.specs.Remembering.{offering_of, begun_in, begun_of}
use Rattle.grasp_simulator.specs.Seats.{SeatStands, Sitting, AgentStepped, OwnStepped, begun_on, stream_begun, accepted_if}
use Rattle.grasp_simulator.specs.declared.notes.Begun.{Begun}
use Rattle.grasp_simulator.specs.declared.seat.BegunOn.{BegunOn}
use Rattle.grasp_simulator.specs.declared.seat.Seat.{Seat as SeatCode}
use Rattle.grasp_simulator.proofs.Begun.{begun_is}

told_on : (n : NodeState) (o : Option JustOffered) → option_map (stream_begun n) (option_map begun_of o) ≡ option_map (begun_on n) o
told_on n None = refl
told_on n (Some j) = refl

pub accepted_is : (done : Bool) (accepts : Option ℕ) (on : List ℕ) → option_to_list accepts ≡ on → option_to_list (accepted_if done accepts) ≡ cond done on []
accepted_is true accepts on e = e
accepted_is false accepts on e = refl

pub own_steps : (old new : SeatCode) (call : Call) (r : Reply) (begun : Option Begun) (on : Option BegunOn) (accepts accepted : Option ℕ) → IsKept old.agent → call ≡ next_call old.agent
    → begun ≡ begun_in (offering_of old.agent) (offering_of new.agent) call r → new.agent ≡ after_reply old.agent r → ((s : Seat) → SeatStands new s → on ≡ option_map (stream_begun s.core) begun)
    → ((s : Seat) → SeatStands old s → option_to_list accepts ≡ accepts_on s.core call) → accepted ≡ accepted_if (was_done r) accepts
    → (x : Sitting) → SeatStands old x.seat → AgentStepped new x call r → OwnStepped new x (record { call = call; reply = r; begun = on; accepted = accepted })
own_steps old new call r begun on accepts accepted kept calls told takes at accepting done x stands step = record { step = step; begun = first; accepted = second } where
  a : AgentState
  a = x.seat.agent

  just : begun ≡ option_map begun_of (just_offered a (after_reply a r))
  just =
      told
      ∙ (ap (λ c. begun_in (offering_of old.agent) (offering_of new.agent) c r) calls
      ∙ (ap (λ b. begun_in (offering_of old.agent) (offering_of b) (next_call old.agent) r) takes
      ∙ (begun_is old.agent r kept
      ∙ ap (λ b. option_map begun_of (just_offered b (after_reply b r))) stands.agent)))

  first : on ≡ option_map (begun_on step.after) (just_offered a (after_reply a r))
  first = at _ step.stands ∙ (ap (option_map (stream_begun step.after)) just ∙ told_on step.after (just_offered a (after_reply a r)))

  second : option_to_list accepted ≡ acceptances_of x.seat.core (agent_input a) r
  second = ap (λ (o : Option ℕ). option_to_list o) done ∙ accepted_is (was_done r) accepts _ (accepting x.seat stands ∙ ap (accepts_on x.seat.core) (calls ∙ ap next_call stands.agent))
